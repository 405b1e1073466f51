-- Two ends of a call that meet its contract are equal: what each public function promises says everything. Assumes nothing.
use mathlib.Core.Path.{sym, ◌∙◌}
use Rattle.chars.specs.One.{One}
use Rattle.lines.proofs.read_line.Reads as read-line
use Rattle.lines.proofs.write_line.Reads as write-line
use Rattle.lines.proofs.write_other.Reads as write-other

pub one-read-line : One read-line.Post (λ κ r s. r)
one-read-line κ a x y s t p q = p.0 ∙ sym q.0

pub one-read-line_out : One read-line.Post (λ κ r s. s.1.0.now)
one-read-line_out κ a x y s t p q = p.1 ∙ sym q.1

pub one-write-line : One write-line.Post (λ κ r s. r)
one-write-line κ a x y s t p q = p.1 ∙ sym q.1

pub one-write-line_out : One write-line.Post (λ κ r s. s.0.now)
one-write-line_out κ a x y s t p q = p.0 ∙ sym q.0

pub one-write-other : One write-other.Post (λ κ r s. r)
one-write-other κ a x y s t p q = p.1 ∙ sym q.1

pub one-write-other_out : One write-other.Post (λ κ r s. s.0.now)
one-write-other_out κ a x y s t p q = p.0 ∙ sym q.0
