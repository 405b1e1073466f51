-- Laws of a table that has for each number the place of an entry told of it: who agrees with that one agrees with all of that number.
-- Assumes nothing.
use mathlib.Core.Path.{◌≡◌, refl, sym, ap, ◌∙◌}
use Prim.Native.Nat.{ℕ, zero, suc, ◌+◌, ◌*◌, ◌-◌, ◌/◌, ◌<◌, ◌≤◌}
use native.Mathlib.Numerals.{add-one}
use native.Mathlib.Omega.{arith}
use mathlib.Core.List.{List, [], ◌∷◌}
use mathlib.Core.Bool.{Bool, true, false, ◌&&◌, ◌||◌, false≢true}
use lib.ListN.{length, take, drop, get_or, set, replicate, length-replicate, length-set}
use lib.Seq.{get_or-set_same, get_or-set_other, get_or-drop, drop-drop}
use lib.Dec.{eqb, ltb}
use borrow.Author.Tests.{eqb-true, eqb-false, ltb-true, ltb-false}
use Rattle.std.proofs.lemmas.List.{get_or-replicate}
use Rattle.std.specs.Simd.{first_chunks}
use Rattle.chars.specs.Put.{part}
use Rattle.chars.specs.Gather.{up_from, every}
use Rattle.model.specs.Believe.{same_chars, entry_at, entry_for, agrees_with}
use Rattle.master.proofs.SameLaws.{never, and_parts, every-none, every-next, same_self, same_is}
use Rattle.master.proofs.ValuesLaws.{agrees-other, agrees-same}

-- ---- numbers from 0 on

-- a number below the next is below, or the last
last_or : (A : Type 0) (m i : ℕ) (b : Bool) → ltb m i ≡ b → m < i + 1 → (m < i → A) → (m ≡ i → A) → A
last_or A m i true e h f g = f (ltb-true m i e)
last_or A m i false e h f g = let k : i ≤ m = ltb-false m i e in g (omega arith)

every-all : (f : ℕ → Bool) (i : ℕ) → ((m : ℕ) → m < i → f m ≡ true) → every f (up_from 0 i) ≡ true
every-all f zero h = sym (every-none f)
every-all f (suc i) h =
    let e : every f (up_from 0 i) ≡ true = every-all f i (λ m l. h m (omega arith)) in
    rw (← add-one) (sym (every-next f i true true (sym e) (sym (h i (omega arith)))))

every-each : (f : ℕ → Bool) (i : ℕ) → every f (up_from 0 i) ≡ true → (m : ℕ) → m < i → f m ≡ true
every-each f zero e m h = absurd (omega arith)
every-each f (suc i) e m h =
    let whole : every f (up_from 0 (i + 1)) ≡ true = rw add-one e in
    let p = and_parts (every f (up_from 0 i)) (f i) (every-next f i _ _ refl refl ∙ whole) in
    last_or (f m ≡ true) m i _ refl (omega arith) (λ l. every-each f i p.0 m l) (λ l. ap f l ∙ p.1)

-- a turn of a loop whose test is known only while all before passed
every-then : (f : ℕ → Bool) (i : ℕ) (b t : Bool) → b ≡ every f (up_from 0 i) → (b ≡ true → t ≡ f i) → b && t ≡ every f (up_from 0 (i + 1))
every-then f i true t e h = every-next f i true t e (h refl)
every-then f i false t e h = every-next f i false (f i) e refl

-- ---- the table

-- of each number that stands among the first i, the place of one, counted from 1
pub record Placed (ns : List ℕ) (i : ℕ) (places : List ℕ) : Type 0 where
  pub many : length places ≡ 256
  pub none : (n : ℕ) → n < 256 → get_or places n 0 ≡ 0 → (m : ℕ) → m < i → get_or ns m 0 ≡ n → ⊥
  pub one : (n : ℕ) → n < 256 → (get_or places n 0 ≡ 0 → ⊥) → (get_or places n 0 ≤ i) × (get_or ns (get_or places n 0 - 1) 0 ≡ n)

pub placed_none : (ns places : List ℕ) → places ≡ replicate 256 0 → Placed ns 0 places
placed_none ns places e =
    record {
      many = ap length e ∙ length-replicate {A = ℕ} 256 0;
      none = λ n h z m l d. omega arith;
      one = λ n h z. absurd (z (ap (λ zs. get_or zs n 0) e ∙ get_or-replicate 256 n 0 0 h));
    }

at_most : (ns places : List ℕ) (i n : ℕ) → Placed ns i places → n < 256 → (b : Bool) → eqb (get_or places n 0) 0 ≡ b → get_or places n 0 ≤ i
at_most ns places i n o k true e = let z : get_or places n 0 ≡ 0 = eqb-true _ 0 e in omega arith
at_most ns places i n o k false e = (o.one n k (eqb-false _ 0 e)).0

pub placed_most : (ns places : List ℕ) (i n : ℕ) → Placed ns i places → n < 256 → get_or places n 0 ≤ i
placed_most ns places i n o k = at_most ns places i n o k _ refl

module _ (ns places : List ℕ) (i n : ℕ) (o : Placed ns i places) (k : n < 256) (w : n ≡ get_or ns i 0) where
  next : List ℕ
  next = set places n (i + 1)

  own : (x : ℕ) → x ≡ n → get_or next x 0 ≡ i + 1
  unfolding next
  own x e = ap (λ j. get_or (set places n (i + 1)) j 0) e ∙ get_or-set_same places n (i + 1) 0 (omega (arith, o.many))

  other : (x : ℕ) → (x ≡ n → ⊥) → get_or next x 0 ≡ get_or places x 0
  unfolding next
  other x h = get_or-set_other places n x (i + 1) 0 h

  next-none : (x : ℕ) (b : Bool) → eqb x n ≡ b → x < 256 → get_or next x 0 ≡ 0 → (m : ℕ) → m < i + 1 → get_or ns m 0 ≡ x → ⊥
  next-none x true e h z m l d = let v : get_or next x 0 ≡ i + 1 = own x (eqb-true x n e) in omega arith
  next-none x false e h z m l d =
      last_or ⊥ m i _ refl l (λ q. o.none x h (sym (other x (eqb-false x n e)) ∙ z) m q d)
      (λ q. eqb-false x n e (sym d ∙ ap (λ j. get_or ns j 0) q ∙ sym w))

  next_one : (x : ℕ) (b : Bool) → eqb x n ≡ b → x < 256 → (get_or next x 0 ≡ 0 → ⊥) → (get_or next x 0 ≤ i + 1) × (get_or ns (get_or next x 0 - 1) 0 ≡ x)
  next_one x true e h z =
      let v : get_or next x 0 ≡ i + 1 = own x (eqb-true x n e) in
      let p : get_or next x 0 - 1 ≡ i = omega arith in
      (omega arith, ap (λ j. get_or ns j 0) p ∙ sym w ∙ sym (eqb-true x n e))
  next_one x false e h z =
      let v : get_or next x 0 ≡ get_or places x 0 = other x (eqb-false x n e) in
      let q = o.one x h (λ r. z (v ∙ r)) in
      (omega (arith, q.0), ap (λ j. get_or ns (j - 1) 0) v ∙ q.1)

  pub placed_more : Placed ns (i + 1) (set places n (i + 1))
  unfolding next
  placed_more =
      record {
        many = length-set places n (i + 1) ∙ o.many;
        none = λ x h. next-none x _ refl h;
        one = λ x h. next_one x _ refl h;
      }

-- ---- entries

abbrev pub Judged : List ℕ → List ℕ → ℕ → Bool
Judged ns ys k = entry_for ns ys k && every (agrees_with ns ys k) (up_from 0 k)

module _ (ns ys : List ℕ) where
  -- entries that agree are the same
  agreed : (a b : ℕ) → get_or ns a 0 ≡ get_or ns b 0 → agrees_with ns ys a b ≡ true → entry_at ys a ≡ entry_at ys b
  unfolding entry_at
  agreed a b e h = same_is (entry_at ys a) (entry_at ys b) (agrees-same ns ys a b e _ refl ∙ h)

  module _ (i : ℕ) (all : every (Judged ns ys) (up_from 0 i) ≡ true) where
    before : (a b : ℕ) → a < i → b < a → get_or ns a 0 ≡ get_or ns b 0 → entry_at ys a ≡ entry_at ys b
    before a b h l e =
        let p = and_parts (entry_for ns ys a) _ (every-each (Judged ns ys) i all a h) in
        agreed a b e (every-each (agrees_with ns ys a) a p.1 b l)

    -- any two of the first i that have one number
    any_two : (a b : ℕ) → a < i → b < i → get_or ns a 0 ≡ get_or ns b 0 → (x y : Bool) → ltb a b ≡ x → eqb a b ≡ y → entry_at ys a ≡ entry_at ys b
    any_two a b h l e true y u v = let k : a < b = ltb-true a b u in sym (before b a l k (sym e))
    any_two a b h l e false true u v = ap (entry_at ys) (eqb-true a b v)
    any_two a b h l e false false u v =
        let k : b ≤ a = ltb-false a b u in
        let d : a ≡ b → ⊥ = eqb-false a b v in
        let z : b < a = omega arith in
        before a b h z e

    -- one that agrees with an entry j of its number agrees with all before it
    with_all : (j : ℕ) → j < i → get_or ns i 0 ≡ get_or ns j 0 → entry_at ys i ≡ entry_at ys j → (m : ℕ) → m < i → (b : Bool) → eqb (get_or ns i 0) (get_or ns m 0) ≡ b
        → agrees_with ns ys i m ≡ true
    unfolding entry_at
    with_all j h e s m l false u = sym (agrees-other ns ys i m (eqb-false _ _ u))
    with_all j h e s m l true u =
        let v : get_or ns i 0 ≡ get_or ns m 0 = eqb-true _ _ u in
        let t : entry_at ys i ≡ entry_at ys m = s ∙ any_two j m h l (sym e ∙ v) _ _ refl refl in
        sym (agrees-same ns ys i m v true (sym (ap (λ z. same_chars z (entry_at ys m)) t ∙ same_self (entry_at ys m))))

    by_one : (j : ℕ) → j < i → get_or ns i 0 ≡ get_or ns j 0 → (b : Bool) → same_chars (entry_at ys i) (entry_at ys j) ≡ b → b ≡ every (agrees_with ns ys i) (up_from 0 i)
    unfolding entry_at
    by_one j h e true s = sym (every-all _ i (λ m l. with_all j h e (same_is _ _ s) m l _ refl))
    by_one j h e false s = never _ (λ w. false≢true (sym s ∙ agrees-same ns ys i j e _ refl ∙ every-each _ i w j h))

    -- by the place that the table has for it
    by_place : (places : List ℕ) (n : ℕ) → n ≡ get_or ns i 0 → n < 256 → Placed ns i places → (p : ℕ) → p ≡ get_or places n 0 → (b : Bool) → eqb p 0 ≡ b
        → (b || same_chars (entry_at ys i) (entry_at ys (p - 1))) ≡ every (agrees_with ns ys i) (up_from 0 i)
    by_place places n w k o p e true z =
        let q : get_or places n 0 ≡ 0 = sym e ∙ eqb-true p 0 z in
        sym (every-all _ i (λ m l. sym (agrees-other ns ys i m (λ d. o.none n k q m l (sym d ∙ sym w)))))
    by_place places n w k o p e false z =
        let q = o.one n k (λ d. eqb-false p 0 z (e ∙ d)) in
        let x : p ≡ 0 → ⊥ = eqb-false p 0 z in
        let y : p ≤ i = omega (arith, q.0) in
        let j : p - 1 < i = omega arith in
        by_one (p - 1) j (sym w ∙ sym q.1 ∙ ap (λ r. get_or ns (r - 1) 0) (sym e)) _ refl

-- a turn of the loop over the entries
pub entries_more : (ns ys places : List ℕ) (i n p : ℕ) (b t : Bool) → b ≡ every (Judged ns ys) (up_from 0 i) → n ≡ get_or ns i 0 → n < 256 → Placed ns i places
    → p ≡ get_or places n 0 → t ≡ (entry_for ns ys i && (eqb p 0 || same_chars (entry_at ys i) (entry_at ys (p - 1))))
    → b && t ≡ every (Judged ns ys) (up_from 0 (i + 1))
entries_more ns ys places i n p b t e w k o q h =
    every-then (Judged ns ys) i b t e (λ y. h ∙ ap (λ z. entry_for ns ys i && z) (by_place ns ys i (sym e ∙ y) places n w k o p q _ refl))

-- ---- pieces of five

entry_of : (k i : ℕ) (xs : List ℕ) → i < k → get_or (first_chunks 5 k xs) i [] ≡ part xs (5 * i) 5
unfolding part
entry_of zero i xs h = absurd (omega arith)
entry_of (suc k) zero xs h = refl
entry_of (suc k) (suc i) xs h =
    let n : 5 * suc i ≡ 5 + 5 * i = omega arith in
    entry_of k i (drop 5 xs) (omega arith) ∙ rw (n, drop-drop) refl

first_of : (xs : List ℕ) → get_or (take 5 xs) 0 0 ≡ get_or xs 0 0
first_of [] = refl
first_of (x ∷ xs) = refl

number_of : (ys : List ℕ) (i : ℕ) → get_or (part ys (5 * i) 5) 0 0 ≡ get_or ys (5 * i) 0
unfolding part
number_of ys i = first_of (drop (5 * i) ys) ∙ get_or-drop (5 * i) ys 0 0 ∙ ap (λ j. get_or ys j 0) (omega arith)

-- the same turn of the loop over the pieces
pub pieces_more : (ns ys places : List ℕ) (es : List (List ℕ)) (i n : ℕ) (b t : Bool) → es ≡ first_chunks 5 (length ys / 5) ys → i < length ys / 5
    → b ≡ every (Judged ns ys) (up_from 0 i) → n ≡ get_or ns i 0 → n < 256 → Placed ns i places
    → t ≡ (eqb (get_or places n 0) 0 || same_chars (get_or es i []) (get_or es (get_or places n 0 - 1) []))
    → b && ((ltb (get_or ns i 0) 128 && eqb (get_or (get_or es i []) 0 0) (get_or ns i 0)) && t) ≡ every (Judged ns ys) (up_from 0 (i + 1))
unfolding entry_for entry_at
pieces_more ns ys places es i n b t d l e w k o h =
    let p : get_or places n 0 ≤ i = placed_most ns places i n o k in
    let x : get_or es i [] ≡ part ys (5 * i) 5 = rw d (entry_of _ i ys l) in
    let y : get_or es (get_or places n 0 - 1) [] ≡ part ys (5 * (get_or places n 0 - 1)) 5 = rw d (entry_of _ (get_or places n 0 - 1) ys (omega arith)) in
    entries_more ns ys places i n (get_or places n 0) b _ e w k o refl (rw (h, x, y, number_of ys i) refl)
