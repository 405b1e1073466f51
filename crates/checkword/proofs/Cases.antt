-- Known check words, computed: the catalogue's check value and cases 1 to 3 of document 01; and that sixteen bits cannot be seventeen.
-- Assumes nothing.
use mathlib.Core.Path.{◌≡◌, refl}
use mathlib.Core.List.{[], ◌∷◌}
use Rattle.chars.specs.Word.{word}
use Rattle.checkword.specs.Check.{bit_step, bit_steps, char_step, check_from, check_of}

-- CRC-16/ARC of "123456789"; then the frames of cases 1 to 3 with their check characters
pub arc : (check_of (49 ∷ 50 ∷ 51 ∷ 52 ∷ 53 ∷ 54 ∷ 55 ∷ 56 ∷ 57 ∷ []) ≡ 0xBB3D)
    × (word (check_of (0xD2 ∷ 0x0C ∷ 0x00 ∷ 0x41 ∷ 0x00 ∷ 0x00 ∷ [])) ≡ 0x52 ∷ 0x67 ∷ [])
    × (word (check_of (0xD2 ∷ 0x04 ∷ 0x00 ∷ 0x49 ∷ 0x00 ∷ 0x00 ∷ [])) ≡ 0x32 ∷ 0x64 ∷ [])
    × (word (check_of (0x01 ∷ 0x00 ∷ 0x00 ∷ 0x49 ∷ 0x00 ∷ 0x00 ∷ [])) ≡ 0xD0 ∷ 0x07 ∷ [])
unfolding word check_from char_step bit_steps bit_step
arc = (refl, refl, refl, refl)

-- a change over seventeen neighbouring bits, the polynomial itself, is not caught
pub seventeen : check_of (3 ∷ 64 ∷ 1 ∷ []) ≡ check_of (0 ∷ 0 ∷ 0 ∷ [])
unfolding check_from char_step bit_steps bit_step
seventeen = refl
