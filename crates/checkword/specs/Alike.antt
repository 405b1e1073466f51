-- Words by the two factors of the polynomial, x + 1 and x^15 + x + 1 (document 01, "Frames", check sentence).
use Rattle.std.specs.Prelude.{◌≡◌, ℕ, ◌+◌, ◌*◌, ◌%◌, ◌^◌, ◌≤◌}
use Rattle.std.specs.Int.Bits.{bit_xor}
use Rattle.std.specs.Int.Count.{ones}
use Rattle.checkword.specs.Check.{bit_step, bit_steps}

-- multiplied by x + 1, which takes the first factor's part away (document 01, "Frames", check sentence)
unfoldable pub factor : ℕ → ℕ
factor v = bit_xor v (bit_step v)

-- a and b leave the same by the second factor (document 01, "Frames", check sentence)
pub record Alike (a b : ℕ) : Type 0 where
  pub same : factor a ≡ factor b

-- r is v folded by 15 n: alike, and 14 n low places more are empty, as far as they go up (document 01, "Frames", check sentence)
pub record Folded (n v r : ℕ) : Type 0 where
  pub alike : Alike (bit_steps 64 r) (bit_steps 64 v)
  pub empty : (k : ℕ) → v % 2 ^ k ≡ 0 → k + 29 * n ≤ 64 → r % 2 ^ (k + 14 * n) ≡ 0

-- 1 where the ones of v are odd, which is what v leaves by the first factor (document 01, "Frames", check sentence)
unfoldable pub parity : ℕ → ℕ
parity v = ones v % 2
