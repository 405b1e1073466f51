-- Two ends of a call that meet its contract are equal: what each public function promises says everything. Assumes nothing.
use mathlib.Core.Path.{sym, ◌∙◌}
use Rattle.chars.specs.One.{One}
use Rattle.checkword.proofs.check_word.Reads as check-word
use Rattle.checkword.proofs.check_number.Reads as check-number

pub one-check-word : One check-word.Post (λ κ r s. r)
one-check-word κ a x y s t p q = p ∙ sym q

pub one-check-number : One check-number.Post (λ κ r s. r)
one-check-number κ a x y s t p q = p ∙ sym q
