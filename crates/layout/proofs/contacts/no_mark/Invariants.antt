use Rattle.std.specs.Prelude.{◌≡◌, ◌-◌, ◌≤◌, ltb}
use Rattle.chars.specs.Gather.{up_from, every}
use Rattle.layout.specs.Unit.{unit_in}
use Rattle.layout.specs.Contacts.{markless}
use Rattle.layout.proofs.contacts.no_mark.Given as goal

abbrev pub invariant-loop-group : goal.invariant-loop-group
invariant-loop-group l = (l.group ≤ 32) × (ltb l.joined 256 ≡ every (markless (unit_in l.unit).words) (up_from 0 l.group))

abbrev pub decreases-loop-group : goal.decreases-loop-group
decreases-loop-group l = 32 - l.group
