-- The rule of the table of 256 words by which the check is worked (document 01, "Frames", check sentence).
use Rattle.std.specs.Prelude.{ℕ, zero, suc, List, [], ◌∷◌}
use Rattle.checkword.specs.Check.{bit_steps}

-- f at each of n numbers from i on (document 01, "Frames", check sentence)
abbrev pub values : (ℕ → ℕ) → ℕ → ℕ → List ℕ
values f i zero = []
values f i (suc n) = f i ∷ values f (suc i) n

-- the rule: the word at k is what eight bits divided make of k (document 01, "Frames", check sentence; paper 1.1.7)
unfoldable pub rule : List ℕ
rule = values (bit_steps 8) 0 256
