-- What the calls from C promise: the entries' promises, with what is shown in numbers.
use Rattle.std.specs.Prelude.{None, Option, Some, ◌≡◌, ℕ, ◌/◌, ◌%◌, List, [], ◌∷◌, ◌++◌, cond}
use Rattle.std.specs.Float.{binary32}
use Rattle.std.specs.Float.Ieee.{to_bits}
use Rattle.chars.specs.Word.{word, value}
use Rattle.model.specs.Outcome.{number_of, answer_number}
use Rattle.model.specs.Event.{Event, sample, local}
use Rattle.model.specs.declared.SpecialCalculation.{SpecialCalculation}
use Rattle.model.specs.declared.Sampled.{Sampled}
use Rattle.model.specs.declared.Sampled.TheVariants.{Ready, NotReady}
use Rattle.model.specs.declared.Answer.{Answer}
use Rattle.model.specs.declared.Answer.TheVariants.{Ended, Storing, Sampling}
use Rattle.model.specs.declared.Operation.{Operation}
use Rattle.layout.specs.Kept.{Owned}
use Rattle.unit.specs.Events.{EventPromise}
use Rattle.serve.specs.Stretch.{StretchPromise}
use Rattle.serve.specs.declared.Made.{Made}

-- ---- a stretch

unfoldable pub action_number : Option Operation → ℕ
action_number None = 0
action_number (Some operation) = cond operation.close 2 1

unfoldable pub output_number : Option Operation → ℕ
output_number None = 0
output_number (Some operation) = operation.output.0

-- what is turned: how many characters of the buffer are to be sent, low character first, and what the control outputs do
abbrev pub turned_by : Made → List ℕ
turned_by m = m.sent % 256 ∷ m.sent / 256 % 256 ∷ action_number m.action ∷ output_number m.action ∷ []

-- the turn of the unit's entry, in numbers
pub record TurnPromise (lag : ℕ) (s : List ℕ) (x y : Owned) (entry exit : List ℕ) (n : ℕ) (ts : List ℕ) : Type 0 where
  pub turn : Made
  pub serves : StretchPromise lag s x y entry exit turn
  pub number : n ≡ number_of turn.outcome
  pub told : ts ≡ turned_by turn

-- ---- time and the local events: the answer is a number

pub record AnswerPromise (e : Event) (x y : Owned) (n : ℕ) : Type 0 where
  pub answer : Answer
  pub tells : EventPromise e x y answer
  pub said : n ≡ answer_number answer

-- ---- a sample: the answer is a number, and what is missing and the mean are told besides (Request 4.7)

unfoldable pub missing_in : Sampled → ℕ
missing_in (Ready x) = 0
missing_in (NotReady m) = m

unfoldable pub bits_in : Sampled → ℕ
bits_in (Ready x) = to_bits binary32 x
bits_in (NotReady m) = 0

-- the same of any answer: nothing is missing, and there is no mean, where no sample was taken
unfoldable pub missing_number : Answer → ℕ
missing_number (Ended o) = 0
missing_number (Storing o) = 0
missing_number (Sampling s) = missing_in s

unfoldable pub bits_number : Answer → ℕ
bits_number (Ended o) = 0
bits_number (Storing o) = 0
bits_number (Sampling s) = bits_in s

-- what is sampled: how many samples are missing and the bits of the mean, low character first
unfoldable pub sampled_by : Answer → List ℕ
sampled_by a = word (missing_number a) ++ value (bits_number a)

pub record SamplePromise (n : SpecialCalculation) (x y : Owned) (r : ℕ) (cs : List ℕ) : Type 0 where
  pub answer : Answer
  pub tells : EventPromise (local (sample n)) x y answer
  pub said : r ≡ answer_number answer
  pub told : cs ≡ sampled_by answer
