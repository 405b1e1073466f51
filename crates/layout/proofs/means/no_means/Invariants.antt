use Rattle.std.specs.Prelude.{◌≡◌, ◌-◌, ◌≤◌, ◌&&◌, eqb, get_or}
use Rattle.chars.specs.Gather.{up_from, every}
use Rattle.model.specs.Config.{window_at}
use Rattle.layout.specs.Unit.{unit_in, config_in}
use Rattle.layout.proofs.means.no_means.Given as goal

abbrev pub invariant-loop-place : goal.invariant-loop-place
invariant-loop-place l = (l.place ≤ 16) × (eqb l.any 0 ≡ (every (λ p. eqb (window_at (config_in l.unit) p) 0) (up_from 0 l.place) && every (λ p. eqb (get_or (unit_in l.unit).taken p 0) 0) (up_from 0 l.place)))

abbrev pub decreases-loop-place : goal.decreases-loop-place
decreases-loop-place l = 16 - l.place
