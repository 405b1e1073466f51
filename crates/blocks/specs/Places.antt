-- Where the block of an ordinal lies.
use Rattle.std.specs.Prelude.{ℕ, cond, eqb, None, Option, Some}
use Rattle.blocks.specs.declared.Place.{Place}
use Rattle.blocks.specs.declared.Place.TheVariants.{Fixed, Parameters}

-- so many characters of the fixed area from a place on, or the parameter block; none for an ordinal that is left out (Write 1)
abbrev pub place_of_block : ℕ → Option Place
place_of_block o =
    cond (eqb o 0x00) (Some (Fixed 0 16))
    (cond (eqb o 0x03) (Some (Fixed 16 256))
    (cond (eqb o 0x06) (Some Parameters)
    (cond (eqb o 0x0B) (Some (Fixed 272 256)) None)))
