-- A reply's characters: each part read where it was laid, and no cut and no burst read as a reply. Assumes nothing.
use Prim.Native.Nat.{ℕ, ◌+◌, ◌-◌, ◌≤◌, ◌<◌}
use mathlib.Core.Path.{◌≡◌, refl, ap, ◌∙◌, subst}
use mathlib.Core.Logic.{◌⊎◌, inl, inr}
use mathlib.Core.List.{List, []}
use mathlib.Core.Bool.{Bool, true, false, cond, ◌&&◌}
use lib.ListN.{length, get_or, take}
use lib.Seq.{get_or-take, length-take-le}
use lib.Dec.{leb}
use native.Mathlib.Omega.{arith}
use borrow.Author.Tests.{leb-true, eqb-true, le-leb, eq-eqb}
use Rattle.chars.specs.Word.{Characters, word, word_at}
use Rattle.checkword.specs.Check.{check_of}
use Rattle.checkword.specs.Line.{Burst}
use Rattle.checkword.proofs.Frame.{stretch as no-burst}
use Rattle.model.specs.Frame.{checked, with_check, head_chars, reply_chars}
use Rattle.model.specs.Config.{Config}
use Rattle.model.specs.State.{State}
use Rattle.model.specs.Event.{Event}
use Rattle.model.specs.Fits.{fits}
use Rattle.model.specs.Step.{Said, Sent, silent, said, make_of}
use Rattle.model.specs.Port.{sent_chars}
use Rattle.model.specs.Run.{short, Result, turned_away, shows, decided, result_of}
use Rattle.model.specs.Line.{data_of}
use Rattle.model.specs.Poll.{Waiting, nothing, history, another, Polling, whole_reply, read_over, read_to, read_when, reads, believed}
use Rattle.model.specs.Understood.{Spoils, cut, changed, Unbelieved}
use Rattle.model.specs.declared.Mark.{Mark}
use Rattle.model.specs.declared.Mark.TheVariants.{Fine}
use Rattle.model.specs.declared.Read.{Read}
use Rattle.model.specs.declared.Read.TheVariants.{NotWhole, CheckWrong}
use Rattle.model.proofs.Conditions.{by_cond, and_left, and_right, and_both}
use Rattle.model.proofs.FrameLaws.{checked-long, checked-right}
use Rattle.model.proofs.Shown.{data_back}
use Rattle.model.proofs.Heeding.{believes-reply}

-- ---- a reply as the unit sends it

module _ (mark : Mark) (x : Said) where
  abbrev sent : List ℕ
  sent = sent_chars mark (said x)

  pub reply-long : length sent ≡ 9 + length x.chars
  unfolding sent_chars reply_chars head_chars word
  reply-long = checked-long _ ∙ omega arith

  pub reply-count : word_at sent 5 ≡ length x.chars
  unfolding sent_chars reply_chars head_chars with_check word word_at
  reply-count = omega arith

  reply-check : word_at sent (length sent - 2) ≡ check_of (take (length sent - 2) sent)
  unfolding sent_chars reply_chars
  reply-check = checked-right _

  pub reply-function : get_or sent 2 0 ≡ x.function
  unfolding sent_chars reply_chars head_chars with_check word
  reply-function = refl

  reply-address : word_at sent 0 ≡ x.address
  unfolding sent_chars reply_chars head_chars with_check word word_at
  reply-address = omega arith

  -- the data are read where they were laid
  pub reply_data : data_of sent ≡ x.chars
  unfolding sent_chars
  reply_data = data_back _ x.chars

  reply-whole : length x.chars ≤ 511 → whole_reply sent ≡ true
  unfolding whole_reply
  reply-whole h =
      let l = reply-long in
      and_both (le-leb 9 (length sent) (omega arith)) (and_both (le-leb (length sent) 520 (omega arith)) (eq-eqb (length sent) (9 + word_at sent 5) (omega (arith, reply-count))))

  reply-checked : checked sent ≡ true
  unfolding checked
  reply-checked = eq-eqb _ _ reply-check

  -- whole, checked and with its own address it is read by what it says
  pub reply_over : length x.chars ≤ 511 → (y : Read) → read_over x.address sent y ≡ y
  unfolding read_over
  reply_over h y = rw (reply-whole h, reply-checked, eq-eqb (word_at sent 0) x.address reply-address)

-- ---- damage

whole_long : (t : List ℕ) → whole_reply t ≡ true → (9 ≤ length t) × (length t ≡ 9 + word_at t 5)
unfolding whole_reply
whole_long t e =
    let b = and_right (leb 9 (length t)) _ e in
    (leb-true 9 (length t) (and_left (leb 9 (length t)) _ e), eqb-true (length t) (9 + word_at t 5) (and_right (leb (length t) 520) _ b))

-- characters that are not whole, or whose check is wrong, are refused as such, whatever was asked
abbrev Unread : List ℕ → Type 0
Unread t = (whole_reply t && checked t) ≡ true → ⊥

one_fails : (x y : Bool) (z : Read) → ((x && y) ≡ true → ⊥) → (cond x (cond y z CheckWrong) NotWhole ≡ NotWhole) ⊎ (cond x (cond y z CheckWrong) NotWhole ≡ CheckWrong)
one_fails true true z k = absurd (k refl)
one_fails true false z k = inr refl
one_fails false y z k = inl refl

unread-refused : (w : Waiting) (a : ℕ) (m : Polling) (t : List ℕ) → Unread t → (read_when w a m t ≡ NotWhole) ⊎ (read_when w a m t ≡ CheckWrong)
unfolding read_when read_to read_over
unread-refused nothing a m t h = one_fails (whole_reply t) (checked t) _ h
unread-refused history a m t h = one_fails (whole_reply t) (checked t) _ h
unread-refused (another q) a m t h = one_fails (whole_reply t) (checked t) _ h

module _ (mark : Mark) (x : Said) where
  cut-unread : (n : ℕ) → n < length (sent mark x) → whole_reply (take n (sent mark x)) ≡ true → ⊥
  unfolding word_at
  cut-unread n l e =
      let r = sent mark x in
      let w = whole_long (take n r) e in
      let k : length (take n r) ≡ n = length-take-le n r (omega arith) in
      let long : length r ≡ 9 + length x.chars = reply-long mark x in
      let count : word_at r 5 ≡ length x.chars = reply-count mark x in
      let h : 9 ≤ n = omega (arith, w.0) in
      omega (arith, w.1, get_or-take n r 5 0 (omega arith), get_or-take n r 6 0 (omega arith))

  burst_unread : (t : List ℕ) (k : ℕ) → Characters (sent mark x) → Characters t → Burst (sent mark x) t k → checked t ≡ true → ⊥
  unfolding checked
  burst_unread t k hs ht b e =
      no-burst (sent mark x) t k hs ht b (omega (arith, reply-long mark x)) (reply-check mark x)
      (eqb-true (word_at t (length t - 2)) (check_of (take (length t - 2) t)) e)

  sent-spoilt : {t : List ℕ} → Spoils (sent mark x) t → Unread t
  sent-spoilt (cut {n = n} l) e = cut-unread n l (and_left _ _ e)
  sent-spoilt (changed {t = t} {k = k} hs ht b) e = burst_unread t k hs ht b (and_right (whole_reply t) (checked t) e)

none-spoilt : {t : List ℕ} → Spoils [] t → Unread t
none-spoilt (cut l) e = omega arith
none-spoilt (changed {t = t} hs ht b) e = omega (arith, b.long, (whole_long t (and_left _ _ e)).0)

spoilt : (mark : Mark) (x : Sent) {t : List ℕ} → Spoils (sent_chars mark x) t → Unread t
spoilt mark silent h = none-spoilt (unfold sent_chars in h)
spoilt mark (said x) h = sent-spoilt mark x h

-- what an event is answered with is always what is sent of something
record Sends (r : List ℕ) : Type 0 where
  mark : Mark
  sends : Sent
  is : r ≡ sent_chars mark sends

reply_sends : (c : Config) (s : State) (e : Event) → Sends (result_of c s e).reply
unfolding result_of decided shows turned_away sent_chars
reply_sends c s e =
    let P : Result → Type 0 = λ x. Sends x.reply in
    by_cond P (short e) (λ a. record { mark = Fine; sends = silent; is = refl })
    (λ a. by_cond P (fits c s) (λ b. record { mark = s.port.mark; sends = (make_of c s.inner e).sent; is = refl }) (λ b. record { mark = Fine; sends = silent; is = refl }))

unread_unbelieved : (a : ℕ) (m : Polling) (t : List ℕ) → Unread t → Unbelieved a m t
unfolding reads
unread_unbelieved a m t h =
    let r = unread-refused m.waiting a m t h in
    let d = (believes-reply a m t).doubted (refused r) in
    record { read = r; marked = d.0; nothing = d.1 }
  where
    refused : {x : Read} → (x ≡ NotWhole) ⊎ (x ≡ CheckWrong) → believed x ≡ false
    refused (inl e) = ap believed e ∙ (unfold believed in refl)
    refused (inr e) = ap believed e ∙ (unfold believed in refl)

-- THE THEOREM: a reply of any unit to anything, cut at its end or changed within sixteen neighbouring bits, is not believed by any master
pub spoilt_unbelieved : (c : Config) (s : State) (e : Event) (a : ℕ) (m : Polling) (t : List ℕ) → Spoils (result_of c s e).reply t → Unbelieved a m t
spoilt_unbelieved c s e a m t h =
    let r = reply_sends c s e in
    unread_unbelieved a m t (spoilt r.mark r.sends (subst (λ (x : List ℕ). Spoils x t) r.is h))
