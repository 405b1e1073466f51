-- Two outcomes are the same where their numbers are. Assumes nothing.
use mathlib.Core.Path.{◌≡◌, sym, ap, ◌∙◌}
use mathlib.Core.Bool.{Bool}
use lib.Dec.{eqb}
use borrow.Author.Tests.{eq-eqb, ne_eqb}
use Rattle.std.proofs.Common.{rules}
use denote.Enum.Bare.{sameb, same_true, same_false}
use Rattle.model.specs.Outcome.{number_of}
use Rattle.model.specs.contracts.Outcome.{the_type}
use Rattle.model.specs.declared.Outcome.{Outcome}
use Rattle.model.proofs.Conditions.{by_bool}
use Rattle.model.proofs.Numbered.{same_number}

-- what `o == p` computes
pub same-numbers : (o p : Outcome) → sameb the_type o p ≡ eqb (number_of o) (number_of p)
same-numbers o p =
    by_bool (sameb the_type o p)
    (λ e. e ∙ sym (eq-eqb _ _ (ap number_of (same_true the_type (search rules) o p e))))
    (λ e. e ∙ sym (ne_eqb _ _ (λ z. same_false the_type o p e (same_number o p z))))

-- an arm of a test `o == p`
pub numbers-tell : (o p : Outcome) {r b : Bool} → r ≡ sameb the_type o p → r ≡ b → eqb (number_of o) (number_of p) ≡ b
numbers-tell o p s e = sym (s ∙ same-numbers o p) ∙ e
