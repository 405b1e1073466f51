use Rattle.std.specs.Prelude.{◌≡◌, ◌-◌, ◌≤◌, length}
use Rattle.model.specs.Means.{struck_to}
use Rattle.layout.specs.Unit.{unit_in, config_in}
use Rattle.layout.specs.Judged.{samples_by}
use Rattle.layout.proofs.means.strike_all.Given as goal

abbrev pub invariant-loop-place : goal.invariant-loop-place
invariant-loop-place l = (l.place ≤ 16) × (length l.table ≡ 128) × (l.table ≡ struck_to (config_in l.unit) (samples_by (unit_in l.unit).taken) l.place l.initial.table)

abbrev pub decreases-loop-place : goal.decreases-loop-place
decreases-loop-place l = 16 - l.place
