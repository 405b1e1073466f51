-- The check word of a list of characters, by division bit by bit (document 01, "Frames", check sentence; paper 1.1.7).
use Rattle.std.specs.Prelude.{ℕ, zero, suc, ◌*◌, ◌/◌, ◌%◌, List, [], ◌∷◌}
use Rattle.std.specs.Int.Bits.{bit_xor}

-- the polynomial x^16 + x^15 + x^2 + 1 without its first term, its bits in the order of the line (document 01, "Frames", check sentence; paper 1.1.7)
abbrev pub poly : ℕ
poly = 0xA001

-- one bit divided, low bit first: the register goes down one place, and the polynomial is taken off where a 1 fell out (document 01, "Frames", check sentence; paper 1.1.7)
unfoldable pub bit_step : ℕ → ℕ
bit_step v = bit_xor (v / 2) (v % 2 * poly)

-- n bits of it (document 01, "Frames", check sentence; paper 1.1.7)
unfoldable pub bit_steps : ℕ → ℕ → ℕ
bit_steps zero v = v
bit_steps (suc n) v = bit_steps n (bit_step v)

-- one character: into the register's low places, then its eight bits divided (document 01, "Frames", check sentence; paper 1.1.7)
unfoldable pub char_step : ℕ → ℕ → ℕ
char_step v c = bit_steps 8 (bit_xor v c)

-- the characters in turn, from the register v (document 01, "Frames", check sentence; paper 1.1.7)
unfoldable pub check_from : ℕ → List ℕ → ℕ
check_from v [] = v
check_from v (c ∷ cs) = check_from (char_step v c) cs

-- the check word: the register is empty at first (document 01, "Frames", check sentence; paper 1.1.7)
abbrev pub check_of : List ℕ → ℕ
check_of cs = check_from 0 cs
