-- A table that has the rule: its words are what eight bits divided make, and so of any number.
-- Assumes nothing.
use mathlib.Core.Path.{◌≡◌, ◌∙◌, sym, ap}
use Prim.Native.Nat.{ℕ, zero, suc, ◌+◌, ◌/◌, ◌%◌, ◌<◌}
use native.Mathlib.Omega.{arith}
use mathlib.Core.List.{List}
use lib.ListN.{get_or}
use lib.Bits.{bit_xor}
use Rattle.checkword.specs.Check.{bit_steps}
use Rattle.checkword.specs.Table.{values, rule}
use Rattle.checkword.proofs.Steps.{bit_steps_split}

get_d_values : (f : ℕ → ℕ) (i n k : ℕ) → k < n → get_or (values f i n) k 0 ≡ f (i + k)
get_d_values f i zero k h = absurd (omega arith)
get_d_values f i (suc n) zero h = ap f (omega arith)
get_d_values f i (suc n) (suc k) h = get_d_values f (suc i) n k (omega arith) ∙ ap f (omega arith)

get_d_rule : (k : ℕ) → k < 256 → get_or rule k 0 ≡ bit_steps 8 k
unfolding rule
get_d_rule k h = get_d_values (bit_steps 8) 0 256 k h ∙ ap (bit_steps 8) (omega arith)

module _ (table : List ℕ) (t : table ≡ rule) (u : ℕ) where
  -- the table's word for the low places
  word : get_or table (u % 256) 0 ≡ bit_steps 8 (u % 256)
  word = ap (λ l. get_or l (u % 256) 0) t ∙ get_d_rule (u % 256) (omega arith)

  -- and the high ones
  pub xor_words : bit_xor (u / 256) (get_or table (u % 256) 0) ≡ bit_steps 8 u
  xor_words = ap (λ x. bit_xor (u / 256) x) word ∙ sym (bit_steps_split 8 u)
