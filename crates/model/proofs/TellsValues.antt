-- What function 03 says is such as a master believes, over any table and values. Assumes nothing.
use Prim.Native.Nat.{ℕ, zero, suc, ◌+◌, ◌*◌, ◌%◌, ◌≤◌, ◌<◌}
use mathlib.Core.Path.{◌≡◌, refl, sym, ap, ap₂, ◌∙◌, subst}
use mathlib.Core.List.{List, [], ◌∷◌, ◌++◌}
use mathlib.Core.Bool.{Bool, true, false, cond, not, ◌&&◌, ◌||◌}
use lib.ListN.{length, get_or, length-append}
use lib.Dec.{eqb, leb, ltb}
use native.Mathlib.Omega.{arith}
use borrow.Author.Tests.{eqb-true, leb-true, leb-false, ltb-true, eq-eqb, ne_eqb, le-leb, lt-ltb}
use Rattle.chars.specs.Put.{part}
use Rattle.chars.specs.Word.{value}
use Rattle.chars.specs.Gather.{gather, up_from, every}
use Rattle.chars.proofs.WordLaws.{length-value}
use Rattle.chars.proofs.GatherLaws.{gather-most, gather-each}
use Rattle.model.specs.Limits.{most_data}
use Rattle.model.specs.Frame.{Request}
use Rattle.model.specs.Config.{has_calculation}
use Rattle.model.specs.Scan.{counts, with_no_data}
use Rattle.model.specs.Calculations.{fitting, value_of, all_of, pair_of, missing_of, asked_of, calculations_of}
use Rattle.model.specs.Ask.{asks_values}
use Rattle.model.specs.Believe.{empty, same_chars, stands, filled_by, entry_at, entry_for, agrees_with, tells_values, tells_missing, could_tell, could_refuse}
use Rattle.model.specs.declared.Outcome.TheVariants.{NotValid, TooLong}
use Rattle.model.proofs.Conditions.{or_right, by_cond, by_bool, by_eqb, and_left, and_right, and_both, or_cases, false-true, up_from-every}
use Rattle.model.proofs.Asking.{within_both, no_length}
use Rattle.model.proofs.Keeping.{same_refl}
use Rattle.model.proofs.Telling.{Answers, told, declined, tell_calculations, refuse_calculations}

-- ---- 03/80h

module _ (table values : List ℕ) where
  values-whole : (ns : List ℕ) → length (gather (value_of table values) ns) % 4 ≡ 0
  unfolding gather value_of
  values-whole [] = refl
  values-whole (n ∷ ns) =
      rw length-append
      (let k = values-whole ns in
      by_cond (λ (z : List ℕ). (length z + length (gather (value_of table values) ns)) % 4 ≡ 0) (has_calculation table n)
      (λ e. omega (arith, length-value (get_or values n 0))) (λ e. omega arith))

  pub all-answer : (q : Request) → q.function ≡ 0x03 → eqb q.command 0x80 ≡ true → Answers q (all_of table values)
  unfolding all_of fitting
  all-answer q e c =
      let ys = gather (value_of table values) (up_from 0 128) in
      by_cond (Answers q) (leb (length ys) most_data)
      (λ l. told q ys (leb-true (length ys) most_data l) (tell_calculations q ys e ∙ rw c (unfold filled_by in (and_both (eq-eqb (length ys % 4) 0 (values-whole (up_from 0 128))) l))))
      (λ l. declined q [] TooLong refl (omega arith) (refuse_calculations q [] e ∙ rw c (unfold empty in refl)))

-- ---- 03/00: numbers and values

module _ (values : List ℕ) where
  pair_five : (n : ℕ) → length (pair_of values n) ≡ 5
  unfolding pair_of
  pair_five n = omega (arith, length-value (get_or values n 0))

  -- the entry of the number asked at place i
  entry_is : (ns : List ℕ) (i : ℕ) → i < length ns → entry_at (gather (pair_of values) ns) i ≡ pair_of values (get_or ns i 0)
  unfolding entry_at part gather pair_of value
  entry_is [] i h = absurd (omega arith)
  entry_is (n ∷ ns) zero h = refl
  entry_is (n ∷ ns) (suc i) h =
      let e : 5 * suc i ≡ suc (suc (suc (suc (suc (5 * i))))) = omega arith in
      ap (λ x. part (gather (pair_of values) (n ∷ ns)) x 5) e ∙ entry_is ns i (omega arith)

  number_is : (ns : List ℕ) (i : ℕ) → i < length ns → get_or (gather (pair_of values) ns) (5 * i) 0 ≡ get_or ns i 0
  unfolding gather pair_of value
  number_is [] i h = absurd (omega arith)
  number_is (n ∷ ns) zero h = refl
  number_is (n ∷ ns) (suc i) h =
      let e : 5 * suc i ≡ suc (suc (suc (suc (suc (5 * i))))) = omega arith in
      ap (λ x. get_or (gather (pair_of values) (n ∷ ns)) x 0) e ∙ number_is ns i (omega arith)

  agrees_is : (ns : List ℕ) (i j : ℕ) → i < length ns → j < length ns → agrees_with ns (gather (pair_of values) ns) i j ≡ true
  unfolding agrees_with
  agrees_is ns i j h k = by_eqb (get_or ns i 0) (get_or ns j 0) alike apart
    where
      alike : get_or ns i 0 ≡ get_or ns j 0 → (not (eqb (get_or ns i 0) (get_or ns j 0)) || same_chars (entry_at (gather (pair_of values) ns) i) (entry_at (gather (pair_of values) ns) j)) ≡ true
      alike e = rw (eq-eqb _ _ e, entry_is ns i h, entry_is ns j k, e) (same_refl (pair_of values (get_or ns j 0)))

      apart : (get_or ns i 0 ≡ get_or ns j 0 → ⊥) → (not (eqb (get_or ns i 0) (get_or ns j 0)) || same_chars (entry_at (gather (pair_of values) ns) i) (entry_at (gather (pair_of values) ns) j)) ≡ true
      apart e = rw (ne_eqb _ _ e) refl

-- a number that is equipped is under 128
equipped-low : (table : List ℕ) (n : ℕ) → has_calculation table n ≡ true → n < 128
unfolding has_calculation
equipped-low table n e = ltb-true n 128 (and_left (ltb n 128) _ e)

module _ (table : List ℕ) where
  -- where none is missing each number is equipped
  none-missing : (ns : List ℕ) → length (gather (missing_of table) ns) ≡ 0 → (i : ℕ) → i < length ns → has_calculation table (get_or ns i 0) ≡ true
  unfolding gather missing_of
  none-missing [] e i h = absurd (omega arith)
  none-missing (n ∷ ns) e i h = go (has_calculation table n) refl (rw length-append at e) (λ e i h. none-missing ns e i h) i h
    where
      go : (b : Bool) → has_calculation table n ≡ b → length (cond b [] (n ∷ [])) + length (gather (missing_of table) ns) ≡ 0
          → (length (gather (missing_of table) ns) ≡ 0 → (i : ℕ) → i < length ns → has_calculation table (get_or ns i 0) ≡ true)
          → (i : ℕ) → i < suc (length ns) → has_calculation table (get_or (n ∷ ns) i 0) ≡ true
      go true k e f zero h = k
      go true k e f (suc i) h = f (omega arith) i (omega arith)
      go false k e f i h = absurd (omega arith)

  entry_told : (values ns : List ℕ) → length (gather (missing_of table) ns) ≡ 0 → (i : ℕ) → i < length ns → entry_for ns (gather (pair_of values) ns) i ≡ true
  unfolding entry_for
  entry_told values ns none i h =
      and_both (lt-ltb (get_or ns i 0) 128 (equipped-low table (get_or ns i 0) (none-missing ns none i h)))
      (eq-eqb (get_or (gather (pair_of values) ns) (5 * i) 0) (get_or ns i 0) (number_is values ns i h))

  values_tell : (values ns : List ℕ) → length (gather (missing_of table) ns) ≡ 0 → length (gather (pair_of values) ns) ≤ 511
      → tells_values ns (gather (pair_of values) ns) ≡ true
  unfolding tells_values
  values_tell values ns none l =
      let ys = gather (pair_of values) ns in
      and_both (eq-eqb (length ys) (5 * length ns) (gather-each (pair_of values) 5 (pair_five values) ns))
      (and_both (le-leb (length ys) most_data l)
      (up_from-every _ 0 (length ns)
      (λ i low high. let h : i < length ns = omega arith in
      and_both (entry_told values ns none i h)
      (up_from-every (agrees_with ns ys i) 0 i (λ j l k. let g : j < length ns = omega arith in agrees_is values ns i j h g)))))

-- ---- 03/00 refused: the numbers that are missing

-- a number in a list and in one that is longer by one
stands-more : (n m : ℕ) (ns : List ℕ) → stands n ns ≡ true → stands n (m ∷ ns) ≡ true
unfolding stands
stands-more n m ns e = or_right (eqb n m) (stands n ns) e

stands-head : (n : ℕ) (ns : List ℕ) → stands n (n ∷ ns) ≡ true
unfolding stands
stands-head n ns = rw (eq-eqb n n refl) refl

-- lists gathered alike over the numbers that stand in them, and a test that those pass
gather-alike : (f g : ℕ → List ℕ) (ns : List ℕ) → ((n : ℕ) → stands n ns ≡ true → f n ≡ g n) → gather f ns ≡ gather g ns
unfolding gather
gather-alike f g [] h = refl
gather-alike f g (m ∷ ns) h = ap₂ (λ (x y : List ℕ). x ++ y) (h m (stands-head m ns)) (gather-alike f g ns (λ n e. h n (stands-more n m ns e)))

every-standing : (f : ℕ → Bool) (ns : List ℕ) → ((n : ℕ) → stands n ns ≡ true → f n ≡ true) → every f ns ≡ true
unfolding every
every-standing f [] h = refl
every-standing f (m ∷ ns) h = and_both (h m (stands-head m ns)) (every-standing f ns (λ n e. h n (stands-more n m ns e)))

module _ (table : List ℕ) where
  -- a number that is equipped is not among the missing, and one that is asked and not equipped is
  equipped_away : (n : ℕ) → has_calculation table n ≡ true → (ns : List ℕ) → stands n (gather (missing_of table) ns) ≡ false
  unfolding stands gather missing_of
  equipped_away n e [] = refl
  equipped_away n e (m ∷ ns) = go (has_calculation table m) refl (equipped_away n e ns)
    where
      go : (b : Bool) → has_calculation table m ≡ b → stands n (gather (missing_of table) ns) ≡ false → stands n (cond b [] (m ∷ []) ++ gather (missing_of table) ns) ≡ false
      go true k h = h
      go false k h = by_eqb n m (λ s. false-true (sym k ∙ (ap (has_calculation table) (sym s) ∙ e))) (λ s. rw (ne_eqb n m s) h)

  missing-stands : (n : ℕ) → has_calculation table n ≡ false → (ns : List ℕ) → stands n ns ≡ true → stands n (gather (missing_of table) ns) ≡ true
  unfolding stands gather missing_of
  missing-stands n e [] h = h
  missing-stands n e (m ∷ ns) h = by_eqb n m (λ s. same s) (λ s. other (rw (ne_eqb n m s) at h) (missing-stands n e ns))
    where
      same : n ≡ m → stands n (cond (has_calculation table m) [] (m ∷ []) ++ gather (missing_of table) ns) ≡ true
      same s = rw (sym (ap (has_calculation table) s) ∙ e, eq-eqb n m s) refl

      other : stands n ns ≡ true → (stands n ns ≡ true → stands n (gather (missing_of table) ns) ≡ true)
          → stands n (cond (has_calculation table m) [] (m ∷ []) ++ gather (missing_of table) ns) ≡ true
      other k f = by_cond (λ (z : List ℕ). stands n (z ++ gather (missing_of table) ns) ≡ true) (has_calculation table m) (λ t. f k) (λ t. or_right (eqb n m) _ (f k))

  module _ (ns : List ℕ) where
    abbrev missing : List ℕ
    missing = gather (missing_of table) ns

    missing-same : missing ≡ gather (λ n. cond (stands n missing) (n ∷ []) []) ns
    missing-same =
        gather-alike (missing_of table) (λ n. cond (stands n missing) (n ∷ []) []) ns
        (λ n k. by_bool (has_calculation table n)
        (λ e. unfold missing_of in rw (e, equipped_away n e ns) refl)
        (λ e. unfold missing_of in rw (e, missing-stands n e ns k) refl))

    missing-high : every (λ n. ltb n 128 || stands n missing) ns ≡ true
    missing-high =
        every-standing (λ n. ltb n 128 || stands n missing) ns
        (λ n k. by_bool (has_calculation table n) (λ e. rw (lt-ltb n 128 (equipped-low table n e)) refl) (λ e. or_right (ltb n 128) _ (missing-stands n e ns k)))

    missing_tell : (not (empty missing) || ltb most_data (5 * length ns)) ≡ true → tells_missing ns missing ≡ true
    unfolding tells_missing
    missing_tell h = and_both (subst (λ (z : List ℕ). same_chars missing z ≡ true) missing-same (same_refl missing)) (and_both missing-high h)

    missing-most : length missing ≤ length ns
    missing-most = omega (arith, gather-most (missing_of table) 1 one-most ns)
      where
        one-most : (n : ℕ) → length (missing_of table n) ≤ 1
        one-most n = unfold missing_of in by_cond (λ (z : List ℕ). length z ≤ 1) (has_calculation table n) (λ e. omega arith) (λ e. omega arith)

-- ---- function 03

module _ (table values : List ℕ) (q : Request) (e : q.function ≡ 0x03) where
  module _ (c : eqb q.command 0x80 ≡ false) (n : length q.body ≤ 128) where
    abbrev ns : List ℕ
    ns = q.body

    tell_asked : (ys : List ℕ) → could_tell q ys ≡ tells_values ns ys
    tell_asked ys = tell_calculations q ys e ∙ rw c refl

    refuse_asked : (ys : List ℕ) → could_refuse q ys ≡ tells_missing ns ys
    refuse_asked ys = refuse_calculations q ys e ∙ rw c refl

    -- all are equipped: their values, or more than a reply takes
    equipped-answer : length (missing table ns) ≡ 0 → Answers q (fitting (gather (pair_of values) ns))
    unfolding fitting
    equipped-answer k =
        let ys = gather (pair_of values) ns in
        by_cond (Answers q) (leb (length ys) most_data)
        (λ l. told q ys (leb-true (length ys) most_data l) (tell_asked ys ∙ values_tell table values ns k (leb-true (length ys) most_data l)))
        (λ l.
        let long : most_data < 5 * length ns = omega (arith, leb-false (length ys) most_data l, gather-each (pair_of values) 5 (pair_five values) ns) in
        let tell = missing_tell table ns (or_right (not (empty (missing table ns))) (ltb most_data (5 * length ns)) (lt-ltb most_data (5 * length ns) long)) in
        declined q [] TooLong refl (omega arith) (refuse_asked [] ∙ subst (λ (z : List ℕ). tells_missing ns z ≡ true) (no_length (missing table ns) k) tell))

    asked-answer : Answers q (asked_of table values ns)
    unfolding asked_of
    asked-answer =
        by_cond (Answers q) (eqb (length (missing table ns)) 0) (λ k. equipped-answer (eqb-true (length (missing table ns)) 0 k))
        (λ k.
        declined q (missing table ns) NotValid refl (omega (arith, missing-most table ns))
        (refuse_asked (missing table ns) ∙ missing_tell table ns (unfold empty in (rw k refl))))

  pub calculations-answer : asks_values q ≡ true → Answers q (calculations_of table values q)
  unfolding asks_values calculations_of with_no_data
  calculations-answer h =
      or_cases (eqb q.command 0x80 && counts 0 q) _ h
      (λ k. rw (and_left (eqb q.command 0x80) _ k, and_right (eqb q.command 0x80) _ k) (all-answer table values q e (and_left (eqb q.command 0x80) _ k)))
      (λ k.
      let c = eqb-true q.command 0x00 (and_left (eqb q.command 0x00) _ k) in
      let l = and_right (eqb q.command 0x00) _ k in
      let c80 : eqb q.command 0x80 ≡ false = ne_eqb q.command 0x80 (λ z. omega arith) in
      rw (c80, and_left (eqb q.command 0x00) _ k, l) (asked-answer c80 (within_both 1 128 (length q.body) l).1))
