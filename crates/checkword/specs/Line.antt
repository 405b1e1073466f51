-- Characters on the line, and a burst: a change within sixteen neighbouring bits (document 01, "Frames", check sentence; paper 1.1.7).
use Rattle.std.specs.Prelude.{◌≡◌, List, [], ◌∷◌, ℕ, ◌+◌, ◌*◌, ◌/◌, ◌%◌, ◌^◌, ◌≤◌, ◌<◌, length, get_or}
use Rattle.std.specs.Int.Bits.{bit_xor}

-- the bit that is i-th on the line, characters in order and the low bit of each first; 0 past the end (document 01, "Frames", check sentence)
unfoldable pub bit_at : List ℕ → ℕ → ℕ
bit_at s i = get_or s (i / 8) 0 / 2 ^ (i % 8) % 2

-- the list as one number, whose bit i is the i-th on the line (document 01, "Frames", check sentence)
unfoldable pub line : List ℕ → ℕ
line [] = 0
line (c ∷ s) = bit_xor c (line s * 2 ^ 8)

-- t is as long as s, is not s, and has other bits than s only at the sixteen places from k on (paper 1.1.7)
pub record Burst (s t : List ℕ) (k : ℕ) : Type 0 where
  pub long : length s ≡ length t
  pub other : s ≡ t → ⊥
  pub before : (i : ℕ) → i < k → bit_at s i ≡ bit_at t i
  pub after : (i : ℕ) → k + 16 ≤ i → bit_at s i ≡ bit_at t i
