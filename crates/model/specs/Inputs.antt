-- Function 00 and the words of inputs: scans by kind, the local events on inputs, and 20h/11h.
use Rattle.std.specs.Prelude.{ℕ, ◌+◌, ◌/◌, ◌%◌, List, [], ◌∷◌, ◌++◌, Bool, true, false, cond, not, ◌&&◌, ◌||◌, get_or, set, eqb}
use Rattle.chars.specs.Word.{word}
use Rattle.chars.specs.Gather.{gather}
use Rattle.model.specs.Frame.{Request}
use Rattle.model.specs.Config.{has, two_bits, simples, accumulators, analogs, two_bit, accumulator}
use Rattle.model.specs.Scan.{Scan, tells, refuses, with_no_data, counts}
use Rattle.model.specs.declared.Outcome.{Outcome}
use Rattle.model.specs.declared.Outcome.TheVariants.{Unknown, WrongCount, NotValid}

-- bits 1, 4, 5 and 7 of function 00's command are reserved (Scans 5; paper 3.1.1)
unfoldable pub unreserved : ℕ → Bool
unreserved c = eqb (c / 2 % 2) 0 && (eqb (c / 16 % 4) 0 && eqb (c / 128) 0)

-- the numbers of the kinds that bits 2, 0, 6 and 3 choose, lowest first (Scans 5, 7; paper 3.2)
unfoldable pub chosen : ℕ → List ℕ
chosen c =
    cond (eqb (c / 4 % 2) 1) two_bits [] ++ (cond (eqb (c % 2) 1) simples []
    ++ (cond (eqb (c / 64 % 2) 1) accumulators [] ++ cond (eqb (c / 8 % 2) 1) analogs []))

-- what a number gives: its word where it is equipped, else nothing (Scans 7)
unfoldable pub word_of : List ℕ → List ℕ → ℕ → List ℕ
word_of table words n = cond (has table n) (word (get_or words n 0)) []

-- function 00 (Scans 5 to 8)
unfoldable pub inputs_of : List ℕ → List ℕ → Request → Scan
inputs_of table words q =
    cond (unreserved q.command)
    (with_no_data q (tells (gather (word_of table words) (chosen q.command))))
    (refuses Unknown)

-- what an event that changes one area alone comes to
pub record Changed : Type 0 where
  pub says : Scan
  pub area : List ℕ

abbrev pub unchanged : Outcome → List ℕ → Changed
unchanged o area = record { says = refuses o; area = area }

abbrev pub changes : List ℕ → List ℕ → Changed
changes ys area = record { says = tells ys; area = area }

-- a word that an event may set ready made: no count, and no two-bit word, which its contacts make (Scans 4; Request 8.6)
unfoldable pub settable : ℕ → Bool
settable n = not (accumulator n) && not (two_bit n)

-- a local event sets a simple status or analog word (Scans 3, 4)
unfoldable pub set_word_of : List ℕ → List ℕ → ℕ → ℕ → Changed
set_word_of table words n w = cond (has table n && settable n) (changes [] (set words n w)) (unchanged NotValid words)

-- an equipped accumulator (Scans 1)
unfoldable pub has_accumulator : List ℕ → ℕ → Bool
has_accumulator table n = accumulator n && has table n

-- a local event adds pulses to an accumulator, modulo 65,536 (Scans 3, 4)
unfoldable pub pulses_of : List ℕ → List ℕ → ℕ → ℕ → Changed
pulses_of table words n p =
    cond (has_accumulator table n) (changes [] (set words n ((get_or words n 0 + p) % 65536))) (unchanged NotValid words)

-- 20h/11h: one accumulator number, echoed, its count set to 0 (Write 18; paper 6.3)
unfoldable pub reset_count_of : List ℕ → List ℕ → Request → Changed
reset_count_of table words q =
    cond (counts 1 q)
    (cond (has_accumulator table (get_or q.body 0 0)) (changes q.body (set words (get_or q.body 0 0) 0)) (unchanged NotValid words))
    (unchanged WrongCount words)
