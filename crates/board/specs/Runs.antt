-- A run of calls from C: what each was called with, what it showed in numbers, and what it left.
use Rattle.std.specs.Prelude.{◌≡◌, ℕ, List, [], ◌∷◌, map, true, take, get_or}
use Rattle.chars.specs.Word.{word_at}
use Rattle.model.specs.Outcome.{number_of, answer_number}
use Rattle.model.specs.Event.{sample, Event, local}
use Rattle.model.specs.Run.{Result}
use Rattle.model.specs.declared.SpecialCalculation.{SpecialCalculation}
use Rattle.model.specs.declared.Outcome.TheVariants.{NotConfigured}
use Rattle.layout.specs.Unit.{config_in}
use Rattle.layout.specs.Kept.{Owned, kept_in, standing, Steady}
use Rattle.serve.specs.Stretch.{coming}
use Rattle.unit.specs.Calls.{NoStretch, Calls}
use Rattle.board.specs.Told.{action_number, output_number, sampled_by, TurnPromise, AnswerPromise, SamplePromise}

-- a result in numbers
pub record Numbered : Type 0 where
  pub answer : ℕ
  pub action : ℕ
  pub output : ℕ
  pub sampled : List ℕ
  pub reply : List ℕ

unfoldable pub numbered : Result → Numbered
numbered x =
    record { answer = answer_number x.answer; action = action_number x.action; output = output_number x.action; sampled = sampled_by x.answer; reply = x.reply }

-- what is sampled where no sample was taken
abbrev pub unsampled : List ℕ
unsampled = 0 ∷ 0 ∷ 0 ∷ 0 ∷ 0 ∷ 0 ∷ []

-- what a stretch showed: the reply is the front of the buffer that was to be sent
abbrev pub numbers_shown : ℕ → List ℕ → List ℕ → Numbered
numbers_shown n ts exit = record { answer = n; action = get_or ts 2 0; output = get_or ts 3 0; sampled = unsampled; reply = take (word_at ts 0) exit }

-- what any other event showed: its answer alone
abbrev pub answer_shown : ℕ → Numbered
answer_shown n = record { answer = n; action = 0; output = 0; sampled = unsampled; reply = [] }

-- what a sample showed
abbrev pub sample_shown : ℕ → List ℕ → Numbered
sample_shown n cs = record { answer = n; action = 0; output = 0; sampled = cs; reply = [] }

-- no sample
unfoldable pub NoSample : Event → Type 0
NoSample e = (n : SpecialCalculation) → e ≡ local (sample n) → ⊥

-- calls in turn, each by its contract, on what the one before left
pub data Runs : Owned → List Event → List Numbered → Owned → Type 0 where
  none : {x : Owned} → Runs x [] [] x
  heard : {x y z : Owned} {lag : ℕ} {s entry exit ts : List ℕ} {n : ℕ} {es : List Event} {xs : List Numbered}
      → TurnPromise lag s x y entry exit n ts → Runs y es xs z → Runs x (coming entry lag s ∷ es) (numbers_shown n ts exit ∷ xs) z
  heeded : {x y z : Owned} {e : Event} {n : ℕ} {es : List Event} {xs : List Numbered}
      → NoStretch e → NoSample e → AnswerPromise e x y n → Runs y es xs z → Runs x (e ∷ es) (answer_shown n ∷ xs) z
  sampled : {x y z : Owned} {c : SpecialCalculation} {n : ℕ} {cs : List ℕ} {es : List Event} {xs : List Numbered}
      → SamplePromise c x y n cs → Runs y es xs z → Runs x (local (sample c) ∷ es) (sample_shown n cs ∷ xs) z

-- a run of the unit's entries that showed the same; what is owned after it stands again, with the same configuration
pub record RunsAs (x : Owned) (es : List Event) (xs : List Numbered) (y : Owned) : Type 0 where
  pub results : List Result
  pub calls : Calls (config_in x.unit) (kept_in x) es results (kept_in y)
  pub shown : xs ≡ map numbered results
  pub stand : standing y ≡ true
  pub steady : Steady x.unit y.unit

-- none was turned away by 17
pub data Taken : List Numbered → Type 0 where
  none : Taken []
  one : {x : Numbered} {xs : List Numbered} → (x.answer ≡ number_of NotConfigured → ⊥) → Taken xs → Taken (x ∷ xs)
