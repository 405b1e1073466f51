-- Two ends of a call that meet its contract are equal: what each public function promises says everything. Assumes nothing.
use mathlib.Core.Path.{sym, ◌∙◌}
use Rattle.chars.specs.One.{One}
use Rattle.layout.specs.Unit.{unit_in}
use Rattle.port.proofs.wait.Reads as wait
use Rattle.port.proofs.hear.Reads as hear

pub one_wait_unit : One wait.Post (λ κ r s. unit_in s.0.now)
one_wait_unit κ a x y s t p q = p.means ∙ sym q.means

pub one_hear_unit : One hear.Post (λ κ r s. unit_in s.0.now)
one_hear_unit κ a x y s t p q = p.means ∙ sym q.means
