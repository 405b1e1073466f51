-- What a unit's memory means where it was read, and after a part was written: that part's meaning, and every other as it was.
use Rattle.std.specs.Prelude.{◌≡◌, ℕ, zero, suc, ◌+◌, ◌*◌, ◌/◌, ◌%◌, ◌<◌, ◌≤◌, Bool, true, false, cond, leb, List, [], ◌∷◌, ◌++◌, length, get_or, set}
use mathlib.Core.Path.{refl, sym, ap, ◌∙◌}
use native.Mathlib.Omega.{arith}
use lib.ListN.{length-append, get_or-eq_default}
use lib.Seq.{set_out}
use lib.Dec.{lit<, lit≤}
use borrow.Author.Tests.{le-leb, lt-leb}
use Rattle.chars.specs.Put.{put, part}
use Rattle.chars.specs.Word.{word, value, word_at}
use Rattle.chars.proofs.PutLaws.{length-put, put-none, put_one, put_all, put_then}
use Rattle.chars.proofs.WordLaws.{length-word, length-value}
use Rattle.layout.specs.Regions.{start_in, region_in, set_at}
use Rattle.layout.specs.Unit.{Unit, Renumbered, NumbersOnly, numbers_in, config_sizes, unit_sizes, unit_long, region_start, layout_region, number_region, length_region, files_region, values_region, numbers_region, words_region, results_region, fixed_region, counts_region, dropped_region, changed_region, taken_region, plans_region, words_in, results_in, config_from, unit_from, unit_in, config_in, set_numbers, set_words, set_values, set_fixed, set_counts, set_dropped, set_changed, set_taken, set_plans, put_in, put_number, put_word, put_value, put_fixed, put_count, put_counts, put_dropped, put_changed, put_taken, put_plans_at, put_plans}
use Rattle.layout.proofs.RegionLaws.{regions_put, region_whole, region_at, region_past, region_part, region_own, region_most}

-- how long a lent unit is: UNIT of src/lib.rt, as the prover tells the length of an array
abbrev pub unit_figure : ℕ
unit_figure = 2810

-- and a configuration: CONFIG
abbrev pub config_figure : ℕ
config_figure = 932

pub unit-long : (u : List ℕ) → length u ≡ unit_figure → length u ≡ unit_long
unfolding start_in unit_sizes
unit-long u e = e

-- ---- writing, in general

-- characters that lie in their region
pub put_in_lem : (u : List ℕ) (k i : ℕ) (ys : List ℕ) → i + length ys ≤ get_or unit_sizes k 0 → put_in u k i ys ≡ put u (region_start k + i) ys
unfolding put_in
put_in_lem u k i ys h = simp (le-leb _ _ h)

-- characters that do not are not written
pub put_out : (u : List ℕ) (k i : ℕ) (ys : List ℕ) → get_or unit_sizes k 0 < i + length ys → put_in u k i ys ≡ u
unfolding put_in
put_out u k i ys h = simp (lt-leb _ _ h)

-- a region's own characters written again leave the memory
pub put-own : (u : List ℕ) (k : ℕ) → k < length unit_sizes → put_in u k 0 (region_in unit_sizes u k) ≡ u
put-own u k h =
    let e : region_start k + 0 ≡ region_start k = omega arith in
    put_in_lem u k 0 _ (omega (arith, region_most unit_sizes u k)) ∙ ap (λ (a : ℕ). put u a (region_in unit_sizes u k)) e ∙ region_own unit_sizes u k h

put_or : (u : List ℕ) (at : ℕ) (ys : List ℕ) (b : Bool) → length (cond b (put u at ys) u) ≡ length u
put_or u at ys true = length-put u at ys
put_or u at ys false = refl

pub length-put_in : (u : List ℕ) (k i : ℕ) (ys : List ℕ) → length (put_in u k i ys) ≡ length u
unfolding put_in
length-put_in u k i ys = put_or u (region_start k + i) ys (leb (i + length ys) (get_or unit_sizes k 0))

unit-put : (u : List ℕ) (k i : ℕ) (ys : List ℕ) → i + length ys ≤ get_or unit_sizes k 0
    → unit_in (put_in u k i ys) ≡ unit_from (set_at (region_in unit_sizes u) k (put (region_in unit_sizes u k) i ys))
unit-put u k i ys h = ap unit_in (put_in_lem u k i ys h) ∙ ap unit_from (regions_put unit_sizes u k i ys h)

-- a region set anew, as the unit means it
module _ (r : ℕ → List ℕ) (x : List ℕ) where
  unit-numbers : unit_from (set_at r numbers_region x) ≡ set_numbers (unit_from r) (words_in x)
  unfolding unit_from config_from set_at
  unit-numbers = refl

  unit-words : unit_from (set_at r words_region x) ≡ set_words (unit_from r) (words_in x)
  unfolding unit_from config_from set_at
  unit-words = refl

  unit-values : unit_from (set_at r results_region x) ≡ set_values (unit_from r) (results_in x)
  unfolding unit_from config_from set_at
  unit-values = refl

  unit-fixed : unit_from (set_at r fixed_region x) ≡ set_fixed (unit_from r) x
  unfolding unit_from config_from set_at
  unit-fixed = refl

  unit-counts : unit_from (set_at r counts_region x) ≡ set_counts (unit_from r) x
  unfolding unit_from config_from set_at
  unit-counts = refl

  unit-dropped : unit_from (set_at r dropped_region x) ≡ set_dropped (unit_from r) (words_in x)
  unfolding unit_from config_from set_at
  unit-dropped = refl

  unit-changed : unit_from (set_at r changed_region x) ≡ set_changed (unit_from r) x
  unfolding unit_from config_from set_at
  unit-changed = refl

  unit-taken : unit_from (set_at r taken_region x) ≡ set_taken (unit_from r) (words_in x)
  unfolding unit_from config_from set_at
  unit-taken = refl

  unit-plans : unit_from (set_at r plans_region x) ≡ set_plans (unit_from r) x
  unfolding unit_from config_from set_at
  unit-plans = refl

-- how long each region is
sizes : (get_or unit_sizes words_region 0 ≡ 512) × (get_or unit_sizes results_region 0 ≡ 512) × (get_or unit_sizes fixed_region 0 ≡ 528) × (get_or unit_sizes counts_region 0 ≡ 32)
unfolding unit_sizes
sizes = (refl, refl, refl, refl)

-- ---- words and values

words-put : (r : List ℕ) (n v : ℕ) → 2 * n + 2 ≤ length r → words_in (put r (2 * n) (word v)) ≡ set (words_in r) n v
unfolding put word words_in
words-put [] n v h = absurd (omega arith)
words-put (a ∷ []) n v h = absurd (omega arith)
words-put (a ∷ b ∷ r) zero v h =
    let e : v % 256 + 256 * (v / 256) ≡ v = omega arith in
    ap (λ (l : List ℕ). (v % 256 + 256 * (v / 256)) ∷ words_in l) (put-none r 0) ∙ ap (λ (x : ℕ). x ∷ words_in r) e
words-put (a ∷ b ∷ r) (suc n) v h =
    let e : 2 * suc n ≡ suc (suc (2 * n)) = omega arith in
    rw e (ap (λ (l : List ℕ). (a + 256 * b) ∷ l) (words-put r n v (omega arith)))

words-most : (n : ℕ) (r : List ℕ) → length r ≤ 2 * n → length (words_in r) ≤ n
unfolding words_in
words-most n [] h = omega arith
words-most zero (a ∷ r) h = absurd (omega arith)
words-most (suc n) (a ∷ []) h = omega arith
words-most (suc n) (a ∷ b ∷ r) h = omega (arith, words-most n r (omega arith))

pub words_at_lem : (r : List ℕ) (n : ℕ) → get_or (words_in r) n 0 ≡ word_at r (2 * n)
unfolding words_in word_at
words_at_lem [] n = omega arith
words_at_lem (a ∷ []) zero = omega arith
words_at_lem (a ∷ []) (suc n) =
    let e : 2 * suc n ≡ suc (suc (2 * n)) = omega arith in
    let f : suc (suc (2 * n)) + 1 ≡ suc (suc (2 * n + 1)) = omega arith in
    rw (e, f) refl
words_at_lem (a ∷ b ∷ r) zero = refl
words_at_lem (a ∷ b ∷ r) (suc n) =
    let e : 2 * suc n ≡ suc (suc (2 * n)) = omega arith in
    let f : suc (suc (2 * n)) + 1 ≡ suc (suc (2 * n + 1)) = omega arith in
    rw (e, f) (words_at_lem r n)

value-back : (v : ℕ) → v % 256 + 256 * (v / 256 % 256) + 65536 * (v / 65536 % 256 + 256 * (v / 16777216)) ≡ v
value-back v = omega arith

values-put : (r : List ℕ) (n v : ℕ) → 4 * n + 4 ≤ length r → results_in (put r (4 * n) (value v)) ≡ set (results_in r) n v
unfolding put value results_in
values-put [] n v h = absurd (omega arith)
values-put (a ∷ []) n v h = absurd (omega arith)
values-put (a ∷ b ∷ []) n v h = absurd (omega arith)
values-put (a ∷ b ∷ c ∷ []) n v h = absurd (omega arith)
values-put (a ∷ b ∷ c ∷ d ∷ r) zero v h =
    ap (λ (l : List ℕ). (v % 256 + 256 * (v / 256 % 256) + 65536 * (v / 65536 % 256 + 256 * (v / 16777216))) ∷ results_in l) (put-none r 0)
    ∙ ap (λ (x : ℕ). x ∷ results_in r) (value-back v)
values-put (a ∷ b ∷ c ∷ d ∷ r) (suc n) v h =
    let e : 4 * suc n ≡ suc (suc (suc (suc (4 * n)))) = omega arith in
    rw e (ap (λ (l : List ℕ). (a + 256 * b + 65536 * (c + 256 * d)) ∷ l) (values-put r n v (omega arith)))

no_value : (r : List ℕ) (n : ℕ) → length r ≤ 4 * n → word_at r (4 * n) + 65536 * word_at r (4 * n + 2) ≡ 0
unfolding word_at
no_value r n h = rw (get_or-eq_default r 0 {n = 4 * n} h, get_or-eq_default r 0 {n = 4 * n + 1} (omega arith), get_or-eq_default r 0 {n = 4 * n + 2} (omega arith), get_or-eq_default r 0 {n = 4 * n + 2 + 1} (omega arith))

pub values_at : (r : List ℕ) (n : ℕ) → get_or (results_in r) n 0 ≡ word_at r (4 * n) + 65536 * word_at r (4 * n + 2)
unfolding results_in word_at
values_at [] n = omega arith
values_at (a ∷ []) zero = omega arith
values_at (a ∷ b ∷ []) zero = omega arith
values_at (a ∷ b ∷ c ∷ []) zero = omega arith
values_at (a ∷ []) (suc n) = sym (no_value (a ∷ []) (suc n) (omega arith))
values_at (a ∷ b ∷ []) (suc n) = sym (no_value (a ∷ b ∷ []) (suc n) (omega arith))
values_at (a ∷ b ∷ c ∷ []) (suc n) = sym (no_value (a ∷ b ∷ c ∷ []) (suc n) (omega arith))
values_at (a ∷ b ∷ c ∷ d ∷ r) zero = refl
values_at (a ∷ b ∷ c ∷ d ∷ r) (suc n) =
    let e : 4 * suc n ≡ suc (suc (suc (suc (4 * n)))) = omega arith in
    let f : (i : ℕ) → suc (suc (suc (suc (4 * n)))) + i ≡ suc (suc (suc (suc (4 * n + i)))) = λ i. omega arith in
    let g : suc (suc (suc (suc (4 * n + 2)))) + 1 ≡ suc (suc (suc (suc (4 * n + 2 + 1)))) = omega arith in
    rw (e, f 1, f 2, g) (values_at r n)

-- ---- a part written

module _ (u : List ℕ) (long : length u ≡ unit_long) where
  pub region_size : (k : ℕ) → k < length unit_sizes → length (region_in unit_sizes u k) ≡ get_or unit_sizes k 0
  region_size k h = region_whole unit_sizes u k h long

  pub number-written : (i v : ℕ) → i < 26 → unit_in (put_number u i v) ≡ set_numbers (unit_in u) (set (unit_in u).numbers i v)
  unfolding unit_sizes unit_from
  number-written i v h =
      unit-put u numbers_region (2 * i) (word v) (omega (arith, length-word v)) ∙ unit-numbers _ _
      ∙ ap (set_numbers (unit_in u)) (words-put _ i v (omega (arith, region_size numbers_region (lit< tt))))

  pub word-written : (n v : ℕ) → n < 256 → unit_in (put_word u n v) ≡ set_words (unit_in u) (set (unit_in u).words n v)
  unfolding unit_sizes unit_from
  word-written n v h =
      unit-put u words_region (2 * n) (word v) (omega (arith, length-word v)) ∙ unit-words _ _
      ∙ ap (set_words (unit_in u)) (words-put _ n v (omega (arith, region_size words_region (lit< tt))))

  pub value_written : (n v : ℕ) → n < 128 → unit_in (put_value u n v) ≡ set_values (unit_in u) (set (unit_in u).values n v)
  unfolding unit_sizes unit_from
  value_written n v h =
      unit-put u results_region (4 * n) (value v) (omega (arith, length-value v)) ∙ unit-values _ _
      ∙ ap (set_values (unit_in u)) (values-put _ n v (omega (arith, region_size results_region (lit< tt))))

  pub dropped-written : (f n : ℕ) → f < 32 → unit_in (put_dropped u f n) ≡ set_dropped (unit_in u) (set (unit_in u).dropped f n)
  unfolding unit_sizes unit_from
  dropped-written f n h =
      unit-put u dropped_region (2 * f) (word n) (omega (arith, length-word n)) ∙ unit-dropped _ _
      ∙ ap (set_dropped (unit_in u)) (words-put _ f n (omega (arith, region_size dropped_region (lit< tt))))

  pub taken-written : (p n : ℕ) → p < 16 → unit_in (put_taken u p n) ≡ set_taken (unit_in u) (set (unit_in u).taken p n)
  unfolding unit_sizes unit_from
  taken-written p n h =
      unit-put u taken_region (2 * p) (word n) (omega (arith, length-word n)) ∙ unit-taken _ _
      ∙ ap (set_taken (unit_in u)) (words-put _ p n (omega (arith, region_size taken_region (lit< tt))))

pub fixed-written : (u : List ℕ) (at : ℕ) (ys : List ℕ) → at + length ys ≤ 528 → unit_in (put_fixed u at ys) ≡ set_fixed (unit_in u) (put (unit_in u).fixed at ys)
unfolding unit_sizes unit_from
fixed-written u at ys h = unit-put u fixed_region at ys h ∙ unit-fixed _ _

-- characters of the plans, those behind them, and all plans anew
pub plans-put : (u : List ℕ) (at : ℕ) (ps : List ℕ) → at + length ps ≤ 112 → unit_in (put_plans_at u at ps) ≡ set_plans (unit_in u) (put (unit_in u).plans at ps)
unfolding unit_sizes unit_from
plans-put u at ps h = unit-put u plans_region at ps h ∙ unit-plans _ _

pub plans-then : (u v w : List ℕ) (at n : ℕ) (ys zs : List ℕ) → n + length zs ≤ 112 → v ≡ put_plans_at u at ys → n ≡ at + length ys → w ≡ put_plans_at v n zs
    → w ≡ put_plans_at u at (ys ++ zs)
unfolding unit_sizes
plans-then u v w at n ys zs h e l k =
    put_then u v w (region_start plans_region + at) (region_start plans_region + n) ys zs (e ∙ put_in_lem u plans_region at ys (omega arith)) (omega arith) (k ∙ put_in_lem v plans_region n zs h)
    ∙ sym (put_in_lem u plans_region at (ys ++ zs) (omega (arith, length-append ys zs)))

pub plans-written : (u ps : List ℕ) → length u ≡ unit_long → length ps ≡ 112 → unit_in (put_plans u ps) ≡ set_plans (unit_in u) ps
unfolding unit_sizes unit_from
plans-written u ps long e =
    unit-put u plans_region 0 ps (omega arith) ∙ unit-plans _ _
    ∙ ap (set_plans (unit_in u)) (put_all _ ps (region_size u long plans_region (lit< tt) ∙ sym e))

pub count-written : (u : List ℕ) (f n : ℕ) → f < 32 → unit_in (put_count u f n) ≡ set_counts (unit_in u) (set (unit_in u).counts f n)
unfolding unit_sizes unit_from
count-written u f n h = unit-put u counts_region f (n ∷ []) (omega arith) ∙ unit-counts _ _ ∙ ap (set_counts (unit_in u)) (put_one _ f n)

pub changed-written : (u : List ℕ) (g b : ℕ) → g < 32 → unit_in (put_changed u g b) ≡ set_changed (unit_in u) (set (unit_in u).changed g b)
unfolding unit_sizes unit_from
changed-written u g b h = unit-put u changed_region g (b ∷ []) (omega arith) ∙ unit-changed _ _ ∙ ap (set_changed (unit_in u)) (put_one _ g b)

-- ---- what is read from where

pub region_word : (u : List ℕ) (k i : ℕ) → i + 2 ≤ get_or unit_sizes k 0 → word_at (region_in unit_sizes u k) i ≡ word_at u (region_start k + i)
unfolding word_at
region_word u k i h =
    rw (region_at unit_sizes u k i (omega arith), region_at unit_sizes u k (i + 1) (omega arith))
    (ap (λ (a : ℕ). get_or u (region_start k + i) 0 + 256 * get_or u a 0) (omega arith))

-- the same in a configuration that is given alone
pub given_word : (cs : List ℕ) (k i : ℕ) → i + 2 ≤ get_or (0 ∷ config_sizes) k 0 → word_at (region_in (0 ∷ config_sizes) cs k) i ≡ word_at cs (start_in (0 ∷ config_sizes) k + i)
unfolding word_at
given_word cs k i h =
    rw (region_at (0 ∷ config_sizes) cs k i (omega arith), region_at (0 ∷ config_sizes) cs k (i + 1) (omega arith))
    (ap (λ (a : ℕ). get_or cs (start_in (0 ∷ config_sizes) k + i) 0 + 256 * get_or cs a 0) (omega arith))

module _ (u : List ℕ) where
  pub layout_is : (unit_in u).layout ≡ word_at u (region_start layout_region)
  unfolding unit_from unit_sizes
  layout_is = let f : region_start layout_region + 0 ≡ region_start layout_region = omega arith in region_word u layout_region 0 (lit≤ tt) ∙ ap (word_at u) f

  pub number_is : (config_in u).unit ≡ word_at u (region_start number_region)
  unfolding unit_from config_from unit_sizes
  number_is = let f : region_start number_region + 0 ≡ region_start number_region = omega arith in region_word u number_region 0 (lit≤ tt) ∙ ap (word_at u) f

  pub length_is : (config_in u).block ≡ word_at u (region_start length_region)
  unfolding unit_from config_from unit_sizes
  length_is = let f : region_start length_region + 0 ≡ region_start length_region = omega arith in region_word u length_region 0 (lit≤ tt) ∙ ap (word_at u) f

module _ (u : List ℕ) (n : ℕ) (h : n < 256) where
  pub word_at_lem : get_or (unit_in u).words n 0 ≡ word_at u (region_start words_region + 2 * n)
  unfolding unit_from unit_sizes
  word_at_lem = words_at_lem (region_in unit_sizes u words_region) n ∙ region_word u words_region (2 * n) (omega arith)

module _ (u : List ℕ) (f : ℕ) (h : f < 32) where
  pub file_at_lem : get_or (config_in u).files f 0 ≡ get_or u (region_start files_region + f) 0
  unfolding unit_from config_from unit_sizes
  file_at_lem = region_at unit_sizes u files_region f h

  pub values_of_at : get_or (config_in u).values f 0 ≡ get_or u (region_start values_region + f) 0
  unfolding unit_from config_from unit_sizes
  values_of_at = region_at unit_sizes u values_region f h

  pub count_at : get_or (unit_in u).counts f 0 ≡ get_or u (region_start counts_region + f) 0
  unfolding unit_from unit_sizes
  count_at = region_at unit_sizes u counts_region f h

module _ (u : List ℕ) (g : ℕ) where
  pub changed_at : g < 32 → get_or (unit_in u).changed g 0 ≡ get_or u (region_start changed_region + g) 0
  unfolding unit_from unit_sizes
  changed_at h = region_at unit_sizes u changed_region g h

pub kept_at : (u : List ℕ) (i : ℕ) → i < 26 → get_or (unit_in u).numbers i 0 ≡ word_at u (region_start numbers_region + 2 * i)
unfolding unit_from unit_sizes
kept_at u i h = words_at_lem (region_in unit_sizes u numbers_region) i ∙ region_word u numbers_region (2 * i) (omega arith)

pub kept-past : (u : List ℕ) (i : ℕ) → 26 ≤ i → get_or (unit_in u).numbers i 0 ≡ 0
unfolding unit_from unit_sizes word_at
kept-past u i h =
    let p : (j : ℕ) → 52 ≤ j → get_or (region_in unit_sizes u numbers_region) j 0 ≡ 0 = region_past unit_sizes u numbers_region in
    words_at_lem (region_in unit_sizes u numbers_region) i ∙ rw (p (2 * i) (omega arith), p (2 * i + 1) (omega arith))

-- the fixed area and the plans are parts of the memory
module _ (u : List ℕ) where
  pub fixed_is : (unit_in u).fixed ≡ part u (region_start fixed_region) 528
  unfolding unit_from unit_sizes
  fixed_is = region_part unit_sizes u fixed_region (lit< tt)

  pub plans_is : (unit_in u).plans ≡ part u (region_start plans_region) 112
  unfolding unit_from unit_sizes
  plans_is = region_part unit_sizes u plans_region (lit< tt)

  pub plan_at : (i : ℕ) → i < 112 → get_or (unit_in u).plans i 0 ≡ get_or u (region_start plans_region + i) 0
  unfolding unit_from unit_sizes
  plan_at i h = region_at unit_sizes u plans_region i h

-- ---- whole regions anew

pub counts-own : (u : List ℕ) → put_counts u (unit_in u).counts ≡ u
unfolding unit_from unit_sizes
counts-own u = put-own u counts_region (lit< tt)

pub fixed-own : (u : List ℕ) → put_fixed u 0 (unit_in u).fixed ≡ u
unfolding unit_from unit_sizes
fixed-own u = put-own u fixed_region (lit< tt)

-- ---- kept numbers, one write after another

pub renumbered_in : (u v : List ℕ) (i n : ℕ) → length u ≡ unit_long → i < 26 → v ≡ put_number u i n → Renumbered u v (set (unit_in u).numbers i n)
renumbered_in u v i n long h e =
    record { means = ap unit_in e ∙ number-written u long i n h; long = ap length e ∙ length-put_in u numbers_region (2 * i) (word n) }

numbers-most : (u : List ℕ) → length (unit_in u).numbers ≤ 26
unfolding unit_from unit_sizes
numbers-most u = words-most 26 (region_in unit_sizes u numbers_region) (region_most unit_sizes u numbers_region)

pub renumbered_out : (u : List ℕ) (i n : ℕ) → 26 ≤ i → Renumbered u u (set (unit_in u).numbers i n)
renumbered_out u i n h = rw (set_out (unit_in u).numbers i n (omega (arith, numbers-most u))) (record { means = refl; long = refl })

pub renumbered_same : (u : List ℕ) → Renumbered u u (unit_in u).numbers
renumbered_same u = record { means = refl; long = refl }

pub numbers-left : (u v : List ℕ) {ks : List ℕ} → Renumbered u v ks → (unit_in v).numbers ≡ ks
numbers-left u v r = ap (λ (x : Unit). x.numbers) r.means

pub renumbered_then : (f : List ℕ → List ℕ) (u v w : List ℕ) {ks : List ℕ} → Renumbered u v ks → Renumbered v w (f (unit_in v).numbers) → Renumbered u w (f ks)
renumbered_then f u v w {ks} a b =
    record {
      means = b.means ∙ ap (λ (x : Unit). set_numbers x (f x.numbers)) a.means;
      long = b.long ∙ a.long;
    }

pub numbers_only : (u v : List ℕ) {ks : List ℕ} → Renumbered u v ks → NumbersOnly u v
numbers_only u v r = record { means = r.means ∙ ap (set_numbers (unit_in u)) (sym (numbers-left u v r)); long = r.long }

pub numbers_on : (u v w : List ℕ) → NumbersOnly u v → NumbersOnly v w → NumbersOnly u w
numbers_on u v w a b = record { means = b.means ∙ ap (λ (x : Unit). set_numbers x (numbers_in w)) a.means; long = b.long ∙ a.long }
