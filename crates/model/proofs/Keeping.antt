-- The replies that a master keeps: records once and in order. Assumes nothing.
use Prim.Native.Nat.{ℕ}
use mathlib.Core.Path.{◌≡◌, refl, sym, ap, ap₂, ◌∙◌, subst}
use mathlib.Core.List.{List, [], ◌∷◌, ◌++◌}
use mathlib.Core.Bool.{Bool, true, false, cond, not, ◌&&◌, beq}
use lib.Dec.{eqb}
use borrow.Author.Tests.{eqb-true, eq-eqb}
use Rattle.model.specs.Line.{data_of}
use Rattle.model.specs.Believe.{same_chars, records_told}
use Rattle.model.specs.Poll.{
  Waiting,
  nothing,
  history,
  another,
  Last,
  none as no_last,
  last,
  Polling,
  reads,
  is_last,
  keeps_anew,
  doubts,
  believes,
  takes,
  believed,
  passes,
  polled_when,
  reading,
  records_kept,
  kept_when,
  received,
}
use Rattle.model.specs.Turns.{
  Keeps,
  Turn,
  asking,
  hearing,
  after_turn,
  received_by,
  received_in,
  TakenReply,
  taken_when,
  taken_by,
  taken_in,
  records_taken,
  Once,
  none,
  one,
  KeptOnce,
}
use Rattle.model.specs.declared.Read.{Read}
use Rattle.model.specs.declared.Read.TheVariants.{Normal, NotWhole, CheckWrong, OtherAddress, OtherFunction, NoSuchData, Nop, Rst}
use Rattle.model.proofs.Conditions.{by_cond, and_left, and_right, and_both, false-true}
use Rattle.model.proofs.Heeding.{asks_only}

-- ---- characters compared, and the last data kept

pub same_true : (xs ys : List ℕ) → same_chars xs ys ≡ true → xs ≡ ys
unfolding same_chars
same_true [] [] e = refl
same_true [] (y ∷ ys) e = false-true e
same_true (x ∷ xs) [] e = false-true e
same_true (x ∷ xs) (y ∷ ys) e =
    ap₂ ◌∷◌ (eqb-true x y (and_left (eqb x y) (same_chars xs ys) e)) (same_true xs ys (and_right (eqb x y) (same_chars xs ys) e))

pub same_refl : (xs : List ℕ) → same_chars xs xs ≡ true
unfolding same_chars
same_refl [] = refl
same_refl (x ∷ xs) = and_both (eq-eqb x x refl) (same_refl xs)

beq_refl : (a : Bool) → beq a a ≡ true
beq_refl true = refl
beq_refl false = refl

pub beq_true : (a b : Bool) → beq a b ≡ true → a ≡ b
beq_true true true e = refl
beq_true true false e = false-true e
beq_true false true e = false-true e
beq_true false false e = refl

last-true : (l : Last) (f : ℕ) (d : Bool) (ys : List ℕ) → is_last l f d ys ≡ true → l ≡ last f d ys
unfolding is_last
last-true no_last f d ys e = false-true e
last-true (last g b xs) f d ys e =
    let u = and_right (eqb g f) (beq b d && same_chars xs ys) e in
    let p = eqb-true g f (and_left (eqb g f) (beq b d && same_chars xs ys) e) in
    let q = beq_true b d (and_left (beq b d) (same_chars xs ys) u) in
    let r = same_true xs ys (and_right (beq b d) (same_chars xs ys) u) in
    rw (p, q, r)

last_refl : (f : ℕ) (d : Bool) (ys : List ℕ) → is_last (last f d ys) f d ys ≡ true
unfolding is_last
last_refl f d ys = and_both (eq-eqb f f refl) (and_both (beq_refl d) (same_refl ys))

-- ---- keeping

module _ (m : Polling) (ys : List ℕ) where
  Kept : Polling → List (List ℕ) → Type 0
  Kept n rs = (rs ≡ records_told ys) × (n.kept ≡ last m.file m.dump ys)

  anew-kept : (w : Waiting) (x : Read) → w ≡ history → x ≡ Normal → keeps_anew m ys ≡ true → Kept (polled_when w m ys x) (kept_when w m ys x)
  unfolding Kept polled_when kept_when takes records_kept believes
  anew-kept w x e k h = rw (e, k) (rw h (refl, refl))

  again_kept : (w : Waiting) (x : Read) → w ≡ history → x ≡ Normal → keeps_anew m ys ≡ false → (kept_when w m ys x ≡ []) × ((polled_when w m ys x).kept ≡ m.kept)
  unfolding polled_when kept_when takes records_kept believes
  again_kept w x e k h = rw (e, k) (rw h (refl, refl))

  bit-anew : m.bit ≡ true → keeps_anew m ys ≡ true
  unfolding keeps_anew
  bit-anew e = rw e refl

  other-anew : (m.kept ≡ last m.file m.dump ys → ⊥) → keeps_anew m ys ≡ true
  unfolding keeps_anew
  other-anew h = go (not m.bit) (is_last m.kept m.file m.dump ys) refl
    where
      go : (b l : Bool) → is_last m.kept m.file m.dump ys ≡ l → not (b && l) ≡ true
      go true true e = absurd (h (last-true m.kept m.file m.dump ys e))
      go true false e = refl
      go false l e = refl

  repeat_again : m.bit ≡ false → m.kept ≡ last m.file m.dump ys → keeps_anew m ys ≡ false
  unfolding keeps_anew
  repeat_again b e =
      let k : is_last m.kept m.file m.dump ys ≡ true = ap (λ (l : Last). is_last l m.file m.dump ys) e ∙ last_refl m.file m.dump ys in
      rw (b, k) refl

pub keeps : (a : ℕ) (m : Polling) (r : List ℕ) → m.waiting ≡ history → reads a m r ≡ Normal → Keeps a m r
unfolding reading received Kept
keeps a m r w x =
    let ys = data_of r in
    record {
      acknowledged = λ b. anew-kept m ys m.waiting (reads a m r) w x (bit-anew m ys b);
      differs = λ e. anew-kept m ys m.waiting (reads a m r) w x (other-anew m ys e);
      again = λ b e. again_kept m ys m.waiting (reads a m r) w x (repeat_again m ys b e);
    }

-- ---- over a run

-- a turn keeps no reply, or one that is anew
data Takes (m n : Polling) (rs : List (List ℕ)) : List TakenReply → Type 0 where
  nothing-taken : n.kept ≡ m.kept → rs ≡ [] → Takes m n rs []
  one-taken : {x : TakenReply} → n.kept ≡ last x.file x.dump x.chars → rs ≡ records_told x.chars
      → (x.bit ≡ false → m.kept ≡ last x.file x.dump x.chars → ⊥) → Takes m n rs (x ∷ [])

module _ (m : Polling) (ys : List ℕ) where
  doubts-none : Takes m (doubts m) [] []
  unfolding doubts
  doubts-none = nothing-taken refl refl

  believes-none : (free : Bool) → Takes m (believes m free m.kept) [] []
  unfolding believes
  believes-none free = nothing-taken refl refl

  normal_taken : (b : Bool) → keeps_anew m ys ≡ b
      → Takes m (believes m true (cond b (last m.file m.dump ys) m.kept)) (cond b (records_told ys) [])
      (cond b (record { file = m.file; dump = m.dump; bit = m.bit; chars = ys } ∷ []) [])
  unfolding believes
  normal_taken true e = one-taken refl refl (λ b k. false-true (sym (repeat_again m ys b k) ∙ e))
  normal_taken false e = believes-none true

  takes-taken : (x : Read) → Takes m (takes m ys x) (records_kept m ys x) (taken_when history m ys x)
  unfolding takes records_kept taken_when
  takes-taken Normal = normal_taken (keeps_anew m ys) refl
  takes-taken NotWhole = doubts-none
  takes-taken CheckWrong = doubts-none
  takes-taken OtherAddress = doubts-none
  takes-taken OtherFunction = doubts-none
  takes-taken NoSuchData = doubts-none
  takes-taken Nop = believes-none true
  takes-taken Rst = believes-none false

  when_taken : (w : Waiting) (x : Read) → Takes m (polled_when w m ys x) (kept_when w m ys x) (taken_when w m ys x)
  unfolding polled_when kept_when taken_when passes
  when_taken nothing x = doubts-none
  when_taken history x = takes-taken x
  when_taken (another q) x = by_cond (λ n. Takes m n [] []) (believed x) (λ e. believes-none m.free) (λ e. doubts-none)

turn-taken : (a : ℕ) (m : Polling) (t : Turn) → Takes m (after_turn a m t) (received_by a m t) (taken_by a m t)
unfolding after_turn received_by taken_by reading received
turn-taken a m (asking room w) = nothing-taken (asks_only a m room w).kept refl
turn-taken a m (hearing r) = when_taken m (data_of r) m.waiting (reads a m r)

module _ {m n : Polling} {rs : List (List ℕ)} where
  taken-records : {xs : List TakenReply} (later : List (List ℕ)) (ys : List TakenReply) → Takes m n rs xs → later ≡ records_taken ys → rs ++ later ≡ records_taken (xs ++ ys)
  unfolding records_taken
  taken-records later ys (nothing-taken k e) h = ap (λ (z : List (List ℕ)). z ++ later) e ∙ h
  taken-records later ys (one-taken k e d) h = ap₂ (λ (y z : List (List ℕ)). y ++ z) e h

  taken-once : {xs : List TakenReply} (ys : List TakenReply) → Takes m n rs xs → Once n.kept ys → Once m.kept (xs ++ ys)
  taken-once ys (nothing-taken k e) h = subst (λ (l : Last). Once l ys) k h
  taken-once ys (one-taken k e d) h = one d (subst (λ (l : Last). Once l ys) k h)

-- THE THEOREM: the records received are those of the replies kept, in order, and no reply is kept twice but for an acknowledging request
pub kept-once : (a : ℕ) (m : Polling) (ts : List Turn) → KeptOnce a m ts
unfolding received_in taken_in records_taken
kept-once a m [] = record { records = refl; once = none }
kept-once a m (t ∷ ts) =
    let k = turn-taken a m t in
    let h = kept-once a (after_turn a m t) ts in
    record { records = taken-records _ _ k h.records; once = taken-once _ k h.once }
