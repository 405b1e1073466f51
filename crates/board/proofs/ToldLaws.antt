-- A turn in numbers. Assumes nothing.
use mathlib.Core.Path.{◌≡◌, ◌∙◌}
use Prim.Native.Nat.{ℕ, ◌/◌, ◌%◌, ◌≤◌, ◌<◌}
use mathlib.Core.List.{List, [], ◌∷◌}
use lib.ListN.{take}
use native.Mathlib.Omega.{arith}
use Rattle.chars.specs.Word.{word, value, word_at}
use Rattle.model.specs.Limits.{longest_reply}
use Rattle.model.specs.Outcome.{number_of}
use Rattle.serve.specs.declared.Made.{Made}
use Rattle.unit.specs.Calls.{made_shown}
use Rattle.model.specs.declared.Answer.{Answer}
use Rattle.board.specs.Told.{turned_by, action_number, output_number, missing_number, bits_number, sampled_by}
use Rattle.board.specs.Runs.{numbered, unsampled, numbers_shown}

-- ---- a stretch

pub turned_told : (m : Made) {l h a b : ℕ} → l ≡ m.sent % 256 → h ≡ m.sent / 256 % 256 → a ≡ action_number m.action → b ≡ output_number m.action
    → (l ∷ h ∷ a ∷ b ∷ []) ≡ turned_by m
turned_told m e f p q = λ i. e i ∷ f i ∷ p i ∷ q i ∷ []

-- how many are sent stands in two characters
sent_back : (m : Made) → m.sent ≤ longest_reply → word_at (turned_by m) 0 ≡ m.sent
unfolding word_at
sent_back m h = omega arith

-- what a stretch told in numbers is its result in numbers
pub shown-told : (m : Made) {n : ℕ} {ts : List ℕ} (exit : List ℕ) → m.sent ≤ longest_reply → n ≡ number_of m.outcome → ts ≡ turned_by m
    → numbers_shown n ts exit ≡ numbered (made_shown m exit)
unfolding numbered sampled_by missing_number bits_number word value
shown-told m {n} {ts} exit h e t =
    (λ i. numbers_shown (e i) (t i) exit)
    ∙ (λ i. record { answer = number_of m.outcome; action = action_number m.action; output = output_number m.action; sampled = unsampled; reply = take (sent_back m h i) exit })

-- ---- a sample

pub sampled-told : (a : Answer) {m b : ℕ} → m ≡ missing_number a → b ≡ bits_number a → m < 65536 → b < 4294967296
    → (m % 256 ∷ m / 256 % 256 ∷ b % 256 ∷ b / 256 % 256 ∷ b / 65536 % 256 ∷ b / 16777216 % 256 ∷ []) ≡ sampled_by a
unfolding sampled_by word value
sampled-told a {m} {b} p q short small =
    let high : m / 256 % 256 ≡ m / 256 = omega arith in
    let fourth : b / 16777216 % 256 ≡ b / 16777216 = omega arith in
    (λ i. m % 256 ∷ high i ∷ b % 256 ∷ b / 256 % 256 ∷ b / 65536 % 256 ∷ fourth i ∷ [])
    ∙ (λ i. p i % 256 ∷ p i / 256 ∷ q i % 256 ∷ q i / 256 % 256 ∷ q i / 65536 % 256 ∷ q i / 16777216 ∷ [])
