-- What function 04 says is such as a master believes, over any history that fits and whose records are sized and stamped. Assumes nothing.
use Prim.Native.Nat.{ℕ, ◌+◌, ◌*◌, ◌-◌, ◌/◌, ◌%◌, ◌≤◌, ◌<◌, min}
use mathlib.Core.Path.{◌≡◌, refl, sym, ap, ◌∙◌, subst}
use mathlib.Core.Logic.{inl}
use mathlib.Core.List.{List, [], append-nil}
use mathlib.Core.Bool.{Bool, true, false, cond, not, ◌&&◌, ◌||◌}
use lib.ListN.{length, get_or, take, drop, length-append}
use lib.Seq.{length-take-le}
use lib.Dec.{eqb, leb, ltb}
use native.Mathlib.Nat.{div-mul-le_self, div-lt_iff_lt-mul, mul-le-mul_right, mul-div_cancel_left}
use native.Mathlib.Omega.{arith}
use borrow.Author.Tests.{eqb-true, leb-true, ltb-true, ltb-false, eq-eqb, ne_eqb, le-leb, lt-ltb, not-true}
use Rattle.chars.specs.Gather.{up_from, every}
use Rattle.model.specs.Frame.{Request, master_of}
use Rattle.model.specs.Outcome.{sending_of}
use Rattle.model.specs.Config.{Config, has, within, none_in, file_valid, valid_of, has_file, size_of}
use Rattle.model.specs.State.{Files, History, held_in}
use Rattle.model.specs.Change.{applied, changed_by}
use Rattle.model.specs.Scan.{tells, counts}
use Rattle.model.specs.Control.{is_of}
use Rattle.model.specs.History.{
  Told,
  acknowledges,
  dumps,
  file_of,
  untold,
  flat,
  history_chars,
  freed_for,
  most_of,
  told_from,
  agrees,
  again_when,
  tell_of,
  history_of,
}
use Rattle.model.specs.Fits.{master_fits, givable, reply_fits, memory_fits, file_fits, history_fits}
use Rattle.model.specs.Formed.{AllSized, none, one}
use Rattle.model.specs.Line.{chunks, told as told_Line, released_by}
use Rattle.model.specs.Demand3.{remembered_as}
use Rattle.model.specs.Believe.{empty, quantity_in, size_in, records_told, all_stamped, most_in, sized, tells_records}
use Rattle.model.specs.declared.Outcome.{Outcome}
use Rattle.model.specs.declared.Outcome.TheVariants.{NotValid, NothingAgain}
use Rattle.model.specs.declared.Sending.TheVariants.{Nop}
use Rattle.model.specs.declared.HistoryReply.{HistoryReply}
use Rattle.std.specs.Prelude.{None, Option, Some}
use Rattle.model.proofs.Conditions.{or_right, by_cond, by_bool, by_eqb, and_left, and_right, and_both, or_cases, false-true, every-up_from}
use Rattle.model.proofs.FileLaws.{told_after, new_told}
use Rattle.model.proofs.PartFits.{FilesFit, history-files, history-memory, told-fits}
use Rattle.model.proofs.Shape.{sized_front}
use Rattle.model.proofs.Shown.{quantity-back, records-back}
use Rattle.model.proofs.Releases.{released_for, sized_for}
use Rattle.model.proofs.Stamps.{stamped-rest, stamped_front}
use Rattle.model.proofs.Keeping.{beq_true}
use Rattle.model.proofs.Telling.{Answers, told, declined, tell_history, refuse_plain}

-- ---- the size of a file's records

module _ (c : Config) (valid : valid_of c ≡ true) (f : ℕ) (equipped : has_file c.files f ≡ true) where
  values_fit : (1 ≤ get_or c.values f 0) × (get_or c.values f 0 ≤ 16)
  unfolding valid_of has_file file_valid within
  values_fit =
      let files =
      and_left (every (file_valid c) (up_from 0 32)) _ (and_right (none_in c.calculations 0x80 128) _ (and_right (none_in c.inputs 0x60 32) _ (and_right (none_in c.inputs 0x20 16) _
      (and_right (leb c.block 512) _ (and_right (leb c.unit 0x7FE) _ valid))))) in
      let low : f < 32 = ltb-true f 32 (and_left (ltb f 32) _ equipped) in
      let all : file_valid c f ≡ true = every-up_from (file_valid c) 0 32 files f (omega arith) (omega arith) in
      or_cases (not (has c.files f)) (leb 1 (get_or c.values f 0) && leb (get_or c.values f 0) 16) all
      (λ n. false-true (sym (not-true _ n) ∙ and_right (ltb f 32) _ equipped))
      (λ w. (leb-true 1 _ (and_left (leb 1 (get_or c.values f 0)) _ w), leb-true _ 16 (and_right (leb 1 (get_or c.values f 0)) _ w)))

  size_fits : (8 ≤ size_of c.values f) × (size_of c.values f ≤ 38) × (size_of c.values f % 2 ≡ 0)
  unfolding size_of
  size_fits = let v = values_fit in (omega (arith, v.0), omega (arith, v.1), omega arith)

-- at least one record fits a reply, and as many as fit have 510 characters at most
most-fits : (d : Bool) (size : ℕ) → 8 ≤ size → size ≤ 38 → (1 ≤ most_in d size) × (most_in d size * size ≤ 510)
unfolding most_in
most-fits true size l h =
    let k : 0 < size = omega arith in
    let z : (510 / size < 1) → ⊥ = λ x. omega (arith, (div-lt_iff_lt-mul k).0 x) in
    (by_bool (ltb (510 / size) 1) (λ e. absurd (z (ltb-true (510 / size) 1 e))) (λ e. ltb-false (510 / size) 1 e), div-mul-le_self 510 size)
most-fits false size l h = (omega arith, omega arith)

-- ---- records read back from data

length-flat : (n : ℕ) {rs : List (List ℕ)} → AllSized n rs → length (flat rs) ≡ length rs * n
unfolding flat
length-flat n none = omega arith
length-flat n (one {r = r} {rs = rs} e h) = rw (length-append) (omega (arith, length-flat n h, e))

module _ (size n : ℕ) (b : Bool) (rs : List (List ℕ)) (few : n < 128) (most : n ≤ length rs) (all : AllSized size rs) where
  sized_data : length (flat (take n rs)) ≡ n * size
  sized_data = length-flat size (sized_front n all) ∙ ap (λ (k : ℕ). k * size) (length-take-le n rs most)

  quantity-told : quantity_in (history_chars n b rs) ≡ n
  unfolding quantity_in history_chars
  quantity-told = quantity-back n b few

  data_long : length (history_chars n b rs) ≡ 1 + n * size
  unfolding history_chars
  data_long = omega (arith, sized_data)

  size_told : 0 < n → size_in (history_chars n b rs) ≡ size
  unfolding size_in
  size_told h =
      let k : length (history_chars n b rs) - 1 ≡ n * size = omega (arith, data_long) in
      rw (quantity-told, k) (mul-div_cancel_left size h)

  -- the records in history data are those that it was made of
  pub records-told : 0 < n → records_told (history_chars n b rs) ≡ take n rs
  unfolding records_told
  records-told h =
      ap (λ (k : ℕ). chunks (quantity_in (history_chars n b rs)) k (drop 1 (history_chars n b rs))) (size_told h)
      ∙ (unfold quantity_in history_chars in
      (ap (λ (s : List ℕ). chunks ((n + cond b 128 0) % 128) size s) (sym (append-nil (flat (take n rs)))) ∙ records-back size n b rs [] few most all))

none-records : (ys : List ℕ) → quantity_in ys ≡ 0 → records_told ys ≡ []
unfolding records_told chunks
none-records ys e = rw e refl

-- ---- a history reply that its file could have given

pub reply-file : (c : Config) (fs : Files) (t : HistoryReply) → reply_fits c fs t ≡ true → has_file c.files t.file.0 ≡ true
unfolding reply_fits
reply-file c fs t r = and_left (has_file c.files t.file.0) _ (and_right (master_fits t.master) _ r)

module _ (c : Config) (valid : valid_of c ≡ true) (fs : Files) (t : HistoryReply) (ok : reply_fits c fs t ≡ true) (room : length (held_in fs t.file.0) ≤ 32)
    (all : AllSized (size_of c.values t.file.0) (held_in fs t.file.0)) (good : all_stamped (held_in fs t.file.0) ≡ true) where
  abbrev f : ℕ
  f = t.file.0

  abbrev n : ℕ
  n = t.quantity

  abbrev rs : List (List ℕ)
  rs = held_in fs f

  abbrev size : ℕ
  size = size_of c.values f

  abbrev ys : List ℕ
  ys = history_chars n t.more rs

  could_give : givable (most_in t.dump size) (length rs) n t.more ≡ true
  unfolding reply_fits most_of most_in
  could_give = and_right (has_file c.files f) _ (and_right (master_fits t.master) _ ok)

  -- no more than fit and are held, and with the flag just as many as fit, and more are held
  record Few (most : ℕ) (b : Bool) : Type 0 where
    fit : n ≤ most
    held : n ≤ length rs
    flag : b ≡ true → (n ≡ most) × (n < 32)

  few_of : (most : ℕ) (b : Bool) → givable most (length rs) n b ≡ true → Few most b
  unfolding givable
  few_of most true e =
      let p = eqb-true n most (and_left (eqb n most) _ e) in
      let q = ltb-true n (length rs) (and_right (eqb n most) _ e) in
      record { fit = omega arith; held = omega arith; flag = λ k. (p, omega arith) }
  few_of most false e =
      record { fit = leb-true n most (and_left (leb n most) _ e); held = leb-true n (length rs) (and_right (leb n most) _ e); flag = λ k. false-true k }

  abbrev few : Few (most_in t.dump size) t.more
  few = few_of (most_in t.dump size) t.more could_give

  under : n < 128
  under = omega (arith, few.held)

  most : (1 ≤ most_in t.dump size) × (most_in t.dump size * size ≤ 510)
  most = let s = size_fits c valid f (reply-file c fs t ok) in most-fits t.dump size s.0 s.1

  long : length ys ≡ 1 + n * size
  long = data_long size n t.more rs under few.held all

  pub reply-short : length ys ≤ 511
  reply-short = omega (arith, long, most.1, mul-le-mul_right size few.fit)

  quantity_is : quantity_in ys ≡ n
  quantity_is = quantity-told size n t.more rs under few.held all

  first_is : get_or ys 0 0 ≡ n + cond t.more 128 0
  unfolding history_chars
  first_is = refl

  none_flagged : (b : Bool) → t.more ≡ b → n ≡ 0 → n + cond b 128 0 ≡ 0
  none_flagged true e z = absurd (omega (arith, most.0, (few.flag e).0))
  none_flagged false e z = omega arith

  flagged : (b : Bool) → t.more ≡ b → (ltb (n + cond b 128 0) 128 || (eqb n (most_in t.dump size) && ltb n 32)) ≡ true
  flagged true e =
      let k = few.flag e in
      or_right (ltb (n + 128) 128) _ (and_both (eq-eqb n (most_in t.dump size) k.0) (lt-ltb n 32 k.1))
  flagged false e = rw (lt-ltb (n + 0) 128 (omega (arith, under))) refl

  none-tells : n ≡ 0 → tells_records t.dump ys ≡ true
  unfolding tells_records
  none-tells z =
      let l : length ys ≡ 1 = omega (arith, long, ap (λ (x : ℕ). x * size) z) in
      let u : get_or ys 0 0 ≡ 0 = first_is ∙ none_flagged t.more refl z in
      rw (eq-eqb (quantity_in ys) 0 (quantity_is ∙ z)) (and_both (eq-eqb (length ys) 1 l) (eq-eqb (get_or ys 0 0) 0 u))

  size_sized : sized size ≡ true
  unfolding sized within
  size_sized = let s = size_fits c valid f (reply-file c fs t ok) in and_both (and_both (le-leb 8 size s.0) (le-leb size 38 s.1)) (eq-eqb (size % 2) 0 s.2)

  some-tells : (n ≡ 0 → ⊥) → tells_records t.dump ys ≡ true
  unfolding tells_records
  some-tells z =
      let p : 0 < n = omega arith in
      let e : size_in ys ≡ size = size_told size n t.more rs under few.held all p in
      let r : records_told ys ≡ take n rs = records-told size n t.more rs under few.held all p in
      let k : n ≤ min 32 (most_in t.dump size) = omega (arith, few.fit, few.held) in
      rw (ne_eqb (quantity_in ys) 0 (λ x. z (sym quantity_is ∙ x)), quantity_is, e, first_is, r)
      (and_both (eq-eqb (length ys) (1 + n * size) long)
      (and_both size_sized (and_both (le-leb n (min 32 (most_in t.dump size)) k) (and_both (flagged t.more refl) (stamped_front n rs good)))))

  pub reply-tells : tells_records t.dump ys ≡ true
  reply-tells = by_eqb n 0 none-tells some-tells

  -- the records in it are those that it was made of
  pub reply-records : records_told ys ≡ take n rs
  reply-records = by_eqb n 0 none_told (λ z. let p : 0 < n = omega arith in records-told size n t.more rs under few.held all p)
    where
      none_told : n ≡ 0 → records_told ys ≡ take n rs
      none_told z = none-records ys (quantity_is ∙ z) ∙ ap (λ k. take k rs) (sym z)

-- ---- function 04

agreed_kind : (t : HistoryReply) (q : Request) → agrees t q ≡ true → t.dump ≡ dumps q
unfolding agrees
agreed_kind t q a =
    let u = and_right (is_of t.master (master_of q.address)) _ a in
    beq_true t.dump (dumps q) (and_right (eqb t.file.0 (file_of q)) _ u)

-- a file that is equipped holds 32 records at most
pub file-room : (c : Config) (fs : Files) → FilesFit c fs → (f : ℕ) → has_file c.files f ≡ true → length (held_in fs f) ≤ 32
unfolding FilesFit file_fits has_file
file-room c fs all f k =
    let low : f < 32 = ltb-true f 32 (and_left (ltb f 32) _ k) in
    leb-true (length (held_in fs f)) 32 (subst (λ (b : Bool). leb (length (held_in fs f)) (cond b 32 0) ≡ true) k (all f low))

-- the records of each file are sized and stamped
pub record Recorded (c : Config) (fs : Files) : Type 0 where
  pub all : (g : ℕ) → AllSized (size_of c.values g) (held_in fs g)
  pub good : (g : ℕ) → all_stamped (held_in fs g) ≡ true

module _ (c : Config) (valid : valid_of c ≡ true) (q : Request) (e : q.function ≡ 0x04) where
  history-refused : (o : Outcome) → sending_of o ≡ Nop → (w : Option HistoryReply) → Answers q (untold o w).says
  unfolding untold
  history-refused o s w = declined q [] o s (omega arith) (refuse_plain q [] (inl e) ∙ (unfold empty in refl))

  -- a remembered reply, and the history that remembers it
  remembered_answer : (h : History) → history_fits c h ≡ true → Recorded c h.files → (t : HistoryReply) → h.memory ≡ Some t → t.dump ≡ dumps q
      → Answers q (tells (history_chars t.quantity t.more (held_in h.files t.file.0)))
  unfolding memory_fits
  remembered_answer h ok k t m d =
      let fs = h.files in
      let f = t.file.0 in
      let ys = history_chars t.quantity t.more (held_in fs f) in
      let r : reply_fits c fs t ≡ true = subst (λ (w : Option HistoryReply). memory_fits c fs w ≡ true) m (history-memory c h ok) in
      let room = file-room c fs (history-files c h ok) f (reply-file c fs t r) in
      told q ys (reply-short c valid fs t r room (k.all f) (k.good f))
      (tell_history q ys e ∙ subst (λ (b : Bool). tells_records b ys ≡ true) d (reply-tells c valid fs t r room (k.all f) (k.good f)))

  -- the files once the latest reply's records are freed
  freed_recorded : (w : Option HistoryReply) (fs : Files) → Recorded c fs → Recorded c (applied (freed_for w (master_of q.address)) fs)
  freed_recorded w fs k =
      record {
        all = λ g. sized_for w fs (master_of q.address) g (k.all g);
        good = λ g. stamped-rest (released_by (remembered_as w fs) (told_Line (master_of q.address) 0 true [] []) g) _ (subst (λ (rs : List (List ℕ)). all_stamped rs ≡ true) (released_for w fs (master_of q.address) 0 [] [] g) (k.good g));
      }

  module _ (h : History) (ok : history_fits c h ≡ true) (k : Recorded c h.files) (m : master_fits (master_of q.address) ≡ true) where
    new_answer : has_file c.files (file_of q) ≡ true → Answers q (new_told c h q).says
    unfolding told_from changed_by
    new_answer f = remembered_answer (told_after h (new_told c h q)) (told-fits c h q m f ok) (freed_recorded h.memory h.files k) _ refl refl

    again-answer : (w : Option HistoryReply) → h.memory ≡ w → Answers q (again_when w h.files q).says
    unfolding again_when
    again-answer None e = history-refused NothingAgain refl None
    again-answer (Some t) e =
        by_cond {A = Told} (λ x. Answers q x.says) (agrees t q) (λ a. remembered_answer h ok k t e (agreed_kind t q a)) (λ a. history-refused NothingAgain refl (Some t))

    pub history-answer : q.command < 128 → counts 0 q ≡ true → Answers q (history_of c.files c.values h q).says
    unfolding history_of tell_of applied
    history-answer l n =
        let P : Told → Type 0 = λ x. Answers q x.says in
        rw (lt-ltb q.command 128 l, n)
        (by_cond P (has_file c.files (file_of q)) (λ f. by_cond P (acknowledges q) (λ a. new_answer f) (λ a. again-answer h.memory refl)) (λ f. history-refused NotValid refl h.memory))
