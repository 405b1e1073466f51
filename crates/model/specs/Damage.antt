-- A damaged frame, and what it means that two runs are alike but for the port status and the check over it.
use Rattle.std.specs.Prelude.{ℕ, ◌+◌, ◌-◌, ◌<◌, ◌≡◌, ◌⊎◌, List, [], ◌∷◌, length, get_or, take}
use Rattle.chars.specs.Word.{Characters}
use Rattle.checkword.specs.Line.{Burst}
use Rattle.model.specs.Limits.{write_frame}
use Rattle.model.specs.Frame.{with_check}
use Rattle.model.specs.Sound.{WholeFrame, WholePair}
use Rattle.model.specs.Event.{Stretch, Event, stretch}
use Rattle.model.specs.Run.{Entry}
use Rattle.model.specs.declared.Frame.{Frame}

-- a whole frame with the right check characters, for this unit, for another or for all; or a pair of such (Request 5.5)
pub data Carries (s : List ℕ) : Type 0 where
  frame : {f : Frame} → WholeFrame s f → Carries s
  pair : {w x : Frame} → WholePair s w x → Carries s

-- of a pair just its WRITE is left, which is a good frame (Request 5.5)
abbrev pub Seam : {s : List ℕ} → Carries s → ℕ → Type 0
Seam (frame w) n = ⊥
Seam (pair p) n = n ≡ write_frame

pub record Good (s : List ℕ) : Type 0 where
  pub characters : Characters s
  pub carries : Carries s

-- it has lost its last one or more characters, but not at the seam; or is as long, and other only in bits within sixteen places on the line
pub data Damaged : List ℕ → Type 0 where
  cut : {s : List ℕ} {n : ℕ} (g : Good s) → n < length s → (Seam g.carries n → ⊥) → Damaged (take n s)
  changed : {s t : List ℕ} {k : ℕ} → Good s → Characters t → Burst s t k → Damaged t

-- nothing was sent, or the last two characters sent are the check of those before them
abbrev pub Checked : List ℕ → Type 0
Checked r = (r ≡ []) ⊎ (r ≡ with_check (take (length r - 2) r))

-- the same reply but for the port status, the fifth character, and the check over it, the last two
pub record AlikeReply (x y : List ℕ) : Type 0 where
  pub long : length x ≡ length y
  pub same : (i : ℕ) → i + 2 < length x → (i ≡ 4 → ⊥) → get_or x i 0 ≡ get_or y i 0
  pub left : Checked x
  pub right : Checked y

-- the same event at the same clock, with the same answer and output action, and the same reply but for those characters
pub record AlikeEntry (a b : Entry) : Type 0 where
  pub clock : a.clock ≡ b.clock
  pub event : a.event ≡ b.event
  pub answer : a.result.answer ≡ b.result.answer
  pub action : a.result.action ≡ b.result.action
  pub reply : AlikeReply a.result.reply b.result.reply

-- two traces alike, entry by entry
pub data AlikeTrace : List Entry → List Entry → Type 0 where
  none : AlikeTrace [] []
  more : {a b : Entry} {xs ys : List Entry} → AlikeEntry a b → AlikeTrace xs ys → AlikeTrace (a ∷ xs) (b ∷ ys)

-- the events xs are the events ys with damaged stretches put in, any number of them
pub data Spoilt : List Event → List Event → Type 0 where
  clean : Spoilt [] []
  intact : {e : Event} {xs ys : List Event} → Spoilt xs ys → Spoilt (e ∷ xs) (e ∷ ys)
  spoilt : {t : Stretch} {xs ys : List Event} → Damaged t.chars → Spoilt xs ys → Spoilt (stretch t ∷ xs) ys
