-- What a reply shows of history on the line: the records that it carries are read back, and no refusal shows any. Assumes nothing.
use Prim.Native.Nat.{ℕ, ◌+◌, ◌-◌, ◌%◌, ◌≤◌, ◌<◌}
use mathlib.Core.Path.{◌≡◌, refl, sym, ap, ap₂, ◌∙◌}
use mathlib.Core.List.{List, [], ◌∷◌, ◌++◌, append_assoc}
use mathlib.Core.Bool.{Bool, true, false, cond, ◌&&◌, and-false}
use lib.ListN.{length, get_or, take, length-append}
use lib.Seq.{take_at, drop_at, length-take-le}
use lib.Dec.{eqb}
use native.Mathlib.Omega.{arith}
use borrow.Author.Tests.{eqb-true, ne_eqb}
use Rattle.chars.specs.Put.{part}
use Rattle.chars.specs.Word.{word}
use Rattle.checkword.specs.Check.{check_of}
use Rattle.model.specs.Frame.{Request, master_of, heard_of, request_in, with_check, head_chars, reply_chars}
use Rattle.model.specs.Outcome.{reply_function}
use Rattle.model.specs.Config.{Config, size_of}
use Rattle.model.specs.Scan.{tells}
use Rattle.model.specs.State.{Inner}
use Rattle.model.specs.Change.{Change}
use Rattle.model.specs.History.{acknowledges, file_of, flat, history_chars}
use Rattle.model.specs.Event.{Stretch, Event, stretch, elapsed, local}
use Rattle.model.specs.Step.{scanned, Said, said, sent_as, Stepped, finished, telling}
use Rattle.model.specs.Port.{sent_chars}
use Rattle.model.specs.Run.{Entry}
use Rattle.model.specs.Formed.{AllSized, none, one}
use Rattle.model.specs.Line.{chunks, data_of, carried, told, forgot, other, initialises, shown_for, shown_in, shown_by}
use Rattle.model.specs.Demand3.{Acknowledging}
use Rattle.model.specs.declared.Outcome.TheVariants.{Done}
use Rattle.model.specs.declared.Reply.{Reply}
use Rattle.model.specs.declared.Sending.{Sending}
use Rattle.model.specs.declared.Sending.TheVariants.{Normal, Nop, Rst, Unanswered}
use Rattle.model.specs.declared.Master.{Master}
use Rattle.model.specs.declared.Heard.{Heard}
use Rattle.model.specs.declared.Heard.TheVariants.{Broken, Wrong, Whole, Pair}
use Rattle.model.specs.declared.Mark.{Mark}
use Rattle.std.specs.Prelude.{Option}
use Rattle.model.specs.declared.HistoryReply.{HistoryReply}
use Rattle.model.proofs.Conditions.{and_left}
use Rattle.model.proofs.Shape.{sized_front}

-- ---- records laid one behind the other are read back

chunks-flat : (n : ℕ) {rs : List (List ℕ)} (t : List ℕ) → AllSized n rs → chunks (length rs) n (flat rs ++ t) ≡ rs
unfolding chunks flat
chunks-flat n t none = refl
chunks-flat n t (one {r = r} {rs = rs} e h) =
    rw (append_assoc r (flat rs) t)
    (ap₂ (λ (x : List ℕ) (y : List (List ℕ)). x ∷ y) (take_at r (flat rs ++ t) n e)
    (ap (chunks (length rs) n) (drop_at r (flat rs ++ t) n e) ∙ chunks-flat n t h))

pub quantity-back : (n : ℕ) (b : Bool) → n < 128 → (n + cond b 128 0) % 128 ≡ n
quantity-back n true h = omega arith
quantity-back n false h = omega arith

pub records-back : (size n : ℕ) (b : Bool) (rs : List (List ℕ)) (s : List ℕ) → n < 128 → n ≤ length rs → AllSized size rs
    → chunks ((n + cond b 128 0) % 128) size (flat (take n rs) ++ s) ≡ take n rs
records-back size n b rs s few most sized =
    ap (λ (k : ℕ). chunks k size (flat (take n rs) ++ s)) (quantity-back n b few ∙ sym (length-take-le n rs most))
    ∙ chunks-flat size s (sized_front n sized)

-- the data of a reply are what it was made of
pub data_back : (r : Reply) (ys : List ℕ) → data_of (reply_chars r ys) ≡ ys
unfolding data_of part reply_chars with_check head_chars word
data_back r ys =
    let w = word (check_of (head_chars r ++ ys)) in
    let e : length ys ≡ length (reply_chars r ys) - 9 = omega (arith, length-append ys w) in
    take_at ys w (length (reply_chars r ys) - 9) e

-- ---- what each reply shows

-- nothing, where nothing is sent
pub shown_unheard : (c : Config) (s : List ℕ) (h : Heard) → shown_in c s h [] ≡ other
unfolding shown_in shown_for
shown_unheard c s Broken = refl
shown_unheard c s Wrong = refl
shown_unheard c s (Whole f) = refl
shown_unheard c s (Pair w x) = refl

module _ (c : Config) (q : Request) where
  -- a request that is neither function 04 nor 20h/00 shows nothing, whatever is sent
  pub shown-beside : (r : List ℕ) → eqb q.function 0x04 ≡ false → initialises q ≡ false → shown_for c q r ≡ other
  unfolding shown_for
  shown-beside r a b = simp (a, b, and-false)

  shown-declined : (r : List ℕ) → 64 ≤ get_or r 2 0 → shown_for c q r ≡ other
  unfolding shown_for
  shown-declined r h = simp (ne_eqb (get_or r 2 0) 0x04 (λ e. omega arith), ne_eqb (get_or r 2 0) 0x20 (λ e. omega arith))

  -- NOP and RST show nothing, nor does silence
  pub shown-refused : (mark : Mark) (s : Sending) (r : Said) → 64 ≤ r.function → shown_for c q (sent_chars mark (sent_as s r)) ≡ other
  unfolding shown_for sent_as sent_chars reply_chars head_chars with_check word
  shown-refused mark Normal r h = shown-declined (sent_chars mark (said r)) h
  shown-refused mark Nop r h = shown-declined (sent_chars mark (said r)) h
  shown-refused mark Rst r h = shown-declined (sent_chars mark (said r)) h
  shown-refused mark Unanswered r h = refl

  initialises-function : initialises q ≡ true → q.function ≡ 0x20
  unfolding initialises
  initialises-function a = eqb-true q.function 0x20 (and_left (eqb q.function 0x20) _ a)

  pub shown-forgot : (i : Inner) (mark : Mark) (m : Stepped) → m.step.says.outcome ≡ Done → initialises q ≡ true
      → shown_for c q (sent_chars mark (finished i q m).sent) ≡ forgot
  unfolding shown_for finished reply_function sent_as sent_chars reply_chars head_chars with_check word
  shown-forgot i mark m o a = let f = initialises-function a in simp (o, a, f)

  -- a history reply shows its master, its file and its records
  pub shown-told : (i : Inner) (mark : Mark) (n : ℕ) (b : Bool) (rs : List (List ℕ)) (w : Option HistoryReply) (ch : Change)
      → q.function ≡ 0x04 → n < 128 → n ≤ length rs → AllSized (size_of c.values (file_of q)) rs
      → shown_for c q (sent_chars mark (finished i q (telling i (record { says = tells (history_chars n b rs); memory = w; change = ch }))).sent)
      ≡ told (master_of q.address) (file_of q) (acknowledges q) (history_chars n b rs) (take n rs)
  unfolding shown_for telling scanned finished reply_function sent_as sent_chars reply_chars head_chars with_check word carried history_chars
  shown-told i mark n b rs w ch a few most sized =
      simp a
      (ap₂ (told (master_of q.address) (file_of q) (acknowledges q)) (data_back _ _) (records-back (size_of c.values (file_of q)) n b rs _ few most sized))

-- ---- and back: an entry that shows an acknowledging request

module _ (c : Config) (x : Entry) (m : Master) (f : ℕ) (zs : List ℕ) (ps : List (List ℕ)) where
  asked_for : (s : Stretch) (h : Heard) → x.event ≡ stretch s → heard_of s.chars ≡ h
      → shown_in c s.chars h x.result.reply ≡ told m f true zs ps → Acknowledging x m
  unfolding shown_in shown_for request_in
  asked_for s Broken e k d = let z : ◌≡◌ {A = ℕ} 0 1 = cc in absurd (omega arith)
  asked_for s Wrong e k d = let z : ◌≡◌ {A = ℕ} 0 1 = cc in absurd (omega arith)
  asked_for s (Pair w y) e k d = let z : ◌≡◌ {A = ℕ} 0 1 = cc in absurd (omega arith)
  asked_for s (Whole h) e k d = go (eqb (get_or x.result.reply 2 0) 0x04) (eqb h.function 0x04) (eqb (get_or x.result.reply 2 0) 0x20 && initialises (request_in h s.chars)) refl refl d
    where
      go : (a b : Bool) (o : Bool) → eqb (get_or x.result.reply 2 0) 0x04 ≡ a → eqb h.function 0x04 ≡ b
          → cond (a && b) (told (master_of h.address) (file_of (request_in h s.chars)) (acknowledges (request_in h s.chars)) (data_of x.result.reply) (carried c (file_of (request_in h s.chars)) x.result.reply)) (cond o forgot other) ≡ told m f true zs ps
          → Acknowledging x m
      go true true o u v d = record { sent = s; head = h; came = e; heard = k; function = eqb-true _ _ v; bit = (cc); master = (cc); answered = eqb-true _ _ u }
      go true false true u v d = let z : ◌≡◌ {A = ℕ} 0 1 = cc in absurd (omega arith)
      go true false false u v d = let z : ◌≡◌ {A = ℕ} 0 1 = cc in absurd (omega arith)
      go false b true u v d = let z : ◌≡◌ {A = ℕ} 0 1 = cc in absurd (omega arith)
      go false b false u v d = let z : ◌≡◌ {A = ℕ} 0 1 = cc in absurd (omega arith)

  pub asked : (e : Event) → x.event ≡ e → shown_by c e x.result.reply ≡ told m f true zs ps → Acknowledging x m
  unfolding shown_by
  asked (stretch s) e d = asked_for s (heard_of s.chars) e refl d
  asked (elapsed ms) e d = let z : ◌≡◌ {A = ℕ} 0 1 = cc in absurd (omega arith)
  asked (local l) e d = let z : ◌≡◌ {A = ℕ} 0 1 = cc in absurd (omega arith)
