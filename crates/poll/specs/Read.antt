-- How a reply was read, in numbers: 0 normal, the refusals in their order, then NOP and RST (Request 1.8).
use Rattle.std.specs.Prelude.{ℕ, List, [], ◌∷◌, Result, Ok, Err}
use Rattle.model.specs.declared.Read.{Read}
use Rattle.model.specs.declared.Read.TheVariants.{Normal, NotWhole, CheckWrong, OtherAddress, OtherFunction, NoSuchData, Nop, Rst}
use Rattle.master.specs.declared.Refusal.{Refusal}
use Rattle.master.specs.declared.Refusal.TheVariants.{NotConfigured, RoomShort}
use Rattle.master.specs.declared.Taken.{Taken}

unfoldable pub read_number : Read → ℕ
read_number Normal = 0
read_number NotWhole = 1
read_number CheckWrong = 2
read_number OtherAddress = 3
read_number OtherFunction = 4
read_number NoSuchData = 5
read_number Nop = 6
read_number Rst = 7

-- a memory out of range, and room too short, as the unit's outcomes of these numbers
unfoldable pub reading_number : Result Taken Refusal → ℕ
reading_number (Ok t) = read_number t.read
reading_number (Err NotConfigured) = 17
reading_number (Err RoomShort) = 18

-- how many records were kept, and how many characters each has
unfoldable pub kept_chars : Result Taken Refusal → List ℕ
kept_chars (Ok t) = t.count ∷ t.size ∷ []
kept_chars (Err e) = 0 ∷ 0 ∷ []
