-- The means where they lie: places, windows behind the records, and judging; and the samples that are read from there. Assumes nothing.
use Rattle.std.specs.Prelude.{◌≡◌, ℕ, zero, suc, ◌+◌, ◌-◌, ◌*◌, ◌<◌, ◌≤◌, Bool, true, false, cond, not, ◌&&◌, eqb, ltb, leb, List, [], ◌∷◌, ◌++◌, length, get_or, take, drop, set, Option, Some, None}
use Rattle.std.specs.List.{find, list_all, range_with_len}
use Rattle.std.specs.Option.{option_map, option_eq}
use mathlib.Core.Path.{refl, sym, ap, ◌∙◌}
use native.Mathlib.Nat.{add-sub_of_le}
use native.Mathlib.Numerals.{add-one}
use native.Mathlib.Omega.{arith}
use native.Mathlib.Decide.{dec_lt}
use mathlib.Core.Bool.{and-false}
use lib.ListN.{length-append, length-set, get_or-append}
use lib.Seq.{get_or_at, get_or-drop, get_or-set_same, get_or-set_other, ext_get_or}
use lib.Bits.{bit_and, bit_or}
use lib.Dec.{lit<, lit≤}
use borrow.Author.Tests.{eqb-true, le-leb, lt-leb, leb-true, leb-false, eq-eqb, ne_eqb, ltb-true, ltb-false, lt-ltb, le-ltb}
use Rattle.chars.specs.Gather.{gather, up_from, every}
use Rattle.chars.specs.Put.{put, part}
use Rattle.chars.specs.Word.{word, word_at}
use Rattle.chars.proofs.PutLaws.{length-put, length_part, part-part, put_all, put-put, drop-put, get_d_put-before, get_d_put_in}
use Rattle.chars.proofs.WordLaws.{length-word}
use Rattle.chars.proofs.GatherLaws.{gather-each}
use Rattle.model.specs.Limits.{most_samples, most_means}
use Rattle.model.specs.Config.{Config, number_at, window_at, first_of, place_of, is_mean, doublings_of, is_power, mean_valid, means_valid}
use Rattle.model.specs.Means.{samples_at, waits, struck_at, struck_to, equipped_now}
use Rattle.model.specs.Fits.{samples_fit}
use Rattle.model.proofs.Conditions.{by_bool, by_eqb, and_left, and_right, every-up_from, up_from-every}
use Rattle.model.proofs.Exact.{power, power_most}
use Rattle.layout.specs.Regions.{start_in}
use Rattle.layout.specs.Unit.{unit_sizes, config_sizes, region_start, calculations_region, windows_region, config_from, unit_from, unit_in, config_in, config_given}
use Rattle.layout.specs.Records.{Layout, Serves, upto, words_at, records_room, windows_to, room_of, each, words_from, window_in, samples_laid}
use Rattle.layout.specs.Judged.{samples_by, means_judged}
use Rattle.layout.proofs.RegionLaws.{region_part}
use Rattle.layout.proofs.UnitLaws.{unit_figure, words_at_lem, given_word}
use Rattle.layout.proofs.PlacedLaws.{mean_window_at, mean_window-past}
use Rattle.layout.proofs.JudgedLaws.{or_none, sampled_by_lem, every_both}
use Rattle.layout.proofs.RangeLaws.{same_bool}
use Rattle.layout.proofs.RecordsLaws.{upto-none, upto-past, upto-same}

-- ---- the first that passes

module _ (f : ℕ → Bool) (p : ℕ) where
  pub first_here : (k : ℕ) → f p ≡ true → first_of f p (suc k) ≡ p
  unfolding first_of
  first_here k e = rw e

  pub first_later : (k : ℕ) → f p ≡ false → first_of f p (suc k) ≡ first_of f (p + 1) k
  unfolding first_of
  first_later k e = rw (e, add-one)

  pub first_none : first_of f p zero ≡ p
  unfolding first_of
  first_none = refl

-- found where it stands, if it is below the end
pub find-first : (f : ℕ → Bool) (p k : ℕ) → find f (range_with_len p k) ≡ cond (ltb (first_of f p k) (p + k)) (Some (first_of f p k)) None
find-first f p zero = rw (first_none f p, le-ltb p (p + 0) (omega arith)) refl
find-first f p (suc k) =
    let z : p + suc k ≡ p + 1 + k = omega arith in
    by_bool (f p)
    (λ t. rw (t, first_here f p k t, lt-ltb p (p + suc k) (omega arith)) refl)
    (λ t. rw (t, first_later f p k t, z) (find-first f (p + 1) k))

range-last : (p n : ℕ) → range_with_len p n ++ ((p + n) ∷ []) ≡ range_with_len p (suc n)
range-last p zero = ap (λ (x : ℕ). x ∷ []) (omega arith)
range-last p (suc n) = let z : p + suc n ≡ p + 1 + n = omega arith in rw z (ap (λ (l : List ℕ). p ∷ l) (range-last (p + 1) n))

range-up : (p n : ℕ) → range_with_len p n ≡ up_from p n
unfolding up_from
range-up p zero = refl
range-up p (suc n) = sym (range-last p n) ∙ rw (range-up p n) refl

all-every : (f : ℕ → Bool) (xs : List ℕ) → list_all f xs ≡ every f xs
unfolding every
all-every f [] = refl
all-every f (x ∷ xs) = rw (all-every f xs) refl

-- two tests of the sixteen places, one after the other
pub means-each : (c : Config) (taken : List ℕ) → list_all (λ p. mean_valid c p && samples_fit c (samples_by taken) p) (range_with_len 0 16) ≡ means_judged c taken
unfolding means_judged means_valid
means-each c taken = all-every _ (range_with_len 0 16) ∙ ap (every _) (range-up 0 16) ∙ every_both (mean_valid c) (samples_fit c (samples_by taken)) 16

-- a place below the last is that of a number
pub place-eq : (c : Config) (n place : ℕ) {o : Option ℕ} → o ≡ cond (is_mean c n) (Some (place_of c n)) None → place < 16 → option_eq eqb o (Some place) ≡ eqb (place_of c n) place
unfolding is_mean
place-eq c n place e h =
    by_bool (ltb (place_of c n) most_means)
    (λ t. rw (e, t) refl)
    (λ t. let l = ltb-false (place_of c n) most_means t in rw (e, t, ne_eqb (place_of c n) place (λ q. omega arith)) refl)

-- a place that is used is below the last
pub used-low : (u : List ℕ) (p : ℕ) → (window_at (config_in u) p ≡ 0 → ⊥) → p < 16
unfolding window_at
used-low u p k = by_bool (ltb p 16) (λ t. ltb-true p 16 t) (λ t. let l = ltb-false p 16 t in absurd (k (mean_window-past u p l)))

-- an option as it is
pub option-same : (o : Option ℕ) → option_map (λ (x : ℕ). x) o ≡ o
option-same None = refl
option-same (Some x) = refl

-- ---- powers of two

-- each number up to 256 by itself
abbrev agrees : ℕ → Bool
agrees n = cond (is_power (suc n)) (eqb (bit_and (suc n) n) 0) (not (eqb (bit_and (suc n) n) 0))

all_agree : every agrees (up_from 0 most_samples) ≡ true
unfolding every up_from is_power doublings_of first_of
all_agree = refl

pub power_bits : (n : ℕ) → 0 < n → n ≤ most_samples → eqb (bit_and n (n - 1)) 0 ≡ is_power n
power_bits zero h l = absurd (omega arith)
power_bits (suc n) h l =
    let e = every-up_from agrees 0 most_samples all_agree n (omega arith) (omega arith) in
    let z : suc n - 1 ≡ n = omega arith in
    rw z (by_bool (is_power (suc n)) (λ t. (rw t at e) ∙ sym t) (λ t. borrow.Author.Tests.not-true _ (rw t at e) ∙ sym t))

pub power_over : (n : ℕ) → most_samples < n → is_power n ≡ false
power_over n h = by_bool (is_power n) (λ t. absurd (omega (arith, power_most n (power n t)))) (λ t. t)

pub power_zero : is_power 0 ≡ false
unfolding is_power doublings_of first_of
power_zero = refl

-- ---- windows

-- in a unit's memory
pub windows_in : (u : List ℕ) (n : ℕ) → n ≤ 16 → 2 * upto (words_at u (region_start windows_region)) n ≡ windows_to (config_in u) n
unfolding windows_to words_at window_at
windows_in u n h = ap (λ (x : ℕ). 2 * x) (upto-same _ _ n (λ i l. sym (mean_window_at u i (omega arith))))

pub windows-past : (u : List ℕ) (p : ℕ) → 16 ≤ p → windows_to (config_in u) p ≡ windows_to (config_in u) 16
unfolding windows_to window_at
windows-past u p h = ap (λ (x : ℕ). 2 * x) (rw add-sub_of_le at (upto-past (window_at (config_in u)) 16 (p - 16) (λ i l. mean_window-past u i l)))

-- in a configuration that is given alone
pub windows-given : (cs : List ℕ) → 2 * upto (words_at cs (start_in config_sizes 10)) 16 ≡ windows_to (config_given cs) 16
unfolding windows_to words_at window_at config_from start_in
windows-given cs = ap (λ (x : ℕ). 2 * x) (upto-same _ _ 16 (λ i l. sym (words_at_lem _ i ∙ given_word cs windows_region (2 * i) (omega arith))))

pub windows-next : (cs : List ℕ) (at p : ℕ) {sum w : ℕ} → sum ≡ 2 * upto (words_at cs at) p → w ≡ word_at cs (at + 2 * p) → sum + 2 * w ≡ 2 * upto (words_at cs at) (p + 1)
unfolding words_at upto
windows-next cs at p e k = rw (add-one, e, k) (omega arith)

pub windows-start : (cs : List ℕ) (at : ℕ) → 0 ≡ 2 * upto (words_at cs at) 0
windows-start cs at = rw (upto-none (words_at cs at)) refl

pub room-all : (u : List ℕ) {a b : ℕ} → a ≡ records_room (config_in u) → b ≡ windows_to (config_in u) 16 → a + b ≡ room_of (config_in u)
unfolding room_of
room-all u e k = rw (e, k) refl

pub room-all-given : (cs : List ℕ) {a b : ℕ} → a ≡ records_room (config_given cs) → b ≡ windows_to (config_given cs) 16 → a + b ≡ room_of (config_given cs)
unfolding room_of
room-all-given cs e k = rw (e, k) refl

-- ---- judging

-- the room behind the windows
pub room_split : (a b room : ℕ) → leb (a + b) room ≡ (leb b room && leb a (room - b))
room_split a b room =
    by_bool (leb b room)
    (λ e. let h = leb-true b room e in rw e (same_bool (leb (a + b) room) (leb a (room - b))
    (λ t. let k = leb-true (a + b) room t in le-leb a (room - b) (omega arith)) (λ t. let k = leb-true a (room - b) t in le-leb (a + b) room (omega arith))))
    (λ e. let h = leb-false b room e in rw e (lt-leb (a + b) room (omega arith)))

nothing : (n : ℕ) → upto (λ i. 0) n ≡ 0
unfolding upto
nothing zero = refl
nothing (suc n) = omega (arith, nothing n)

-- a place that is not used and has no sample, and all of them
pub asked-none : (u : List ℕ) (p : ℕ) {w t : ℕ} → w ≡ window_at (config_in u) p → t ≡ get_or (unit_in u).taken p 0
    → eqb (bit_or w t) 0 ≡ (eqb (window_at (config_in u) p) 0 && eqb (get_or (unit_in u).taken p 0) 0)
asked-none u p {w} {t} a b = rw (or_none w t, a, b)

module _ (u : List ℕ) (e : (every (λ p. eqb (window_at (config_in u) p) 0) (up_from 0 16) && every (λ p. eqb (get_or (unit_in u).taken p 0) 0) (up_from 0 16)) ≡ true) where
  none-window : (p : ℕ) → p < 16 → window_at (config_in u) p ≡ 0
  none-window p h = eqb-true _ 0 (every-up_from _ 0 16 (and_left (every (λ p. eqb (window_at (config_in u) p) 0) (up_from 0 16)) _ e) p (omega arith) (omega arith))

  none-taken : (p : ℕ) → p < 16 → get_or (unit_in u).taken p 0 ≡ 0
  none-taken p h = eqb-true _ 0 (every-up_from _ 0 16 (and_right (every (λ p. eqb (window_at (config_in u) p) 0) (up_from 0 16)) _ e) p (omega arith) (omega arith))

  none-windows : windows_to (config_in u) 16 ≡ 0
  unfolding windows_to
  none-windows = ap (λ (x : ℕ). 2 * x) (upto-same (window_at (config_in u)) (λ i. 0) 16 none-window ∙ nothing 16)

  unused : (p : ℕ) → p < 16 → mean_valid (config_in u) p ≡ true
  unfolding mean_valid
  unused p h = rw (none-window p h) refl

  empty : (p : ℕ) → p < 16 → samples_fit (config_in u) (samples_by (unit_in u).taken) p ≡ true
  unfolding samples_fit
  empty p h = rw (sampled_by_lem (unit_in u).taken p, none-taken p h) (le-leb 0 (window_at (config_in u) p) (omega arith))

  -- a unit without means
  pub none-judged : (room : ℕ) → leb (records_room (config_in u)) room ≡ (leb (room_of (config_in u)) room && means_judged (config_in u) (unit_in u).taken)
  unfolding room_of means_judged means_valid
  none-judged room =
      let a : every (mean_valid (config_in u)) (up_from 0 16) ≡ true = up_from-every _ 0 16 (λ p l h. unused p h) in
      let b : every (samples_fit (config_in u) (samples_by (unit_in u).taken)) (up_from 0 16) ≡ true = up_from-every _ 0 16 (λ p l h. empty p h) in
      let z : records_room (config_in u) + windows_to (config_in u) 16 ≡ records_room (config_in u) = omega (arith, none-windows) in
      rw (z, a, b) (sym (mathlib.Core.Bool.and-true _))

-- the answers of the code where there are means
module _ (u : List ℕ) (room : ℕ) {windows : ℕ} (k : windows ≡ windows_to (config_in u) 16) where
  pub some-judged : {r s : Bool} → r ≡ leb (records_room (config_in u)) (room - windows) → s ≡ means_judged (config_in u) (unit_in u).taken
      → (leb windows room && (r && s)) ≡ (leb (room_of (config_in u)) room && means_judged (config_in u) (unit_in u).taken)
  unfolding room_of
  some-judged {r} {s} e f =
      rw (room_split (records_room (config_in u)) (windows_to (config_in u) 16) room, e, f, k)
      (by_bool (leb (windows_to (config_in u) 16) room) (λ t. rw t refl) (λ t. rw t refl))

  -- or not even room for the windows
  pub few-judged : leb windows room ≡ false → leb windows room ≡ (leb (room_of (config_in u)) room && means_judged (config_in u) (unit_in u).taken)
  few-judged e = e ∙ sym (sym (some-judged refl refl) ∙ rw e refl)

-- ---- the samples as they are read

pub length_from : (area : List ℕ) (at n : ℕ) → length (words_from area at n) ≡ n
unfolding words_from
length_from area at zero = refl
length_from area at (suc n) = ap suc (length_from area (at + 2) n)

-- what lies from an index on, read from two memories that agree there
pub from_same : (a b : List ℕ) (room : ℕ) → drop room a ≡ drop room b → (at n : ℕ) → room ≤ at → words_from a at n ≡ words_from b at n
unfolding words_from word_at
from_same a b room e at zero h = refl
from_same a b room e at (suc n) h = rw (there at h, there (at + 1) (omega arith), from_same a b room e (at + 2) n (omega arith)) refl
  where
    there : (i : ℕ) → room ≤ i → get_or a i 0 ≡ get_or b i 0
    there i k =
        let z : room + (i - room) ≡ i = omega arith in
        ap (λ (j : ℕ). get_or a j 0) (sym z) ∙ sym (get_or-drop room a (i - room) 0) ∙ ap (λ (l : List ℕ). get_or l (i - room) 0) e ∙ get_or-drop room b (i - room) 0 ∙ ap (λ (j : ℕ). get_or b j 0) z

length-each : {A : Type 0} (F : ℕ → A) (n : ℕ) → length (each F n) ≡ n
unfolding each
length-each F zero = refl
length-each F (suc n) = rw length-append (omega (arith, length-each F n))

pub get_d_each : {A : Type 0} (F : ℕ → A) (d : A) (n i : ℕ) → i < n → get_or (each F n) i d ≡ F i
unfolding each
get_d_each F d zero i h = absurd (omega arith)
get_d_each F d (suc n) i h =
    elim (dec_lt i n) [
      | yes l ↦ get_or-append (each F n) (F n ∷ []) d i (rw length-each l) ∙ get_d_each F d n i l
      | no k ↦ let e : i ≡ n = omega arith in rw e (get_or_at (each F n) (F n) [] d n (length-each F n))
    ]

module _ (l : Layout) (area taken : List ℕ) where
  pub samples-laid : (p : ℕ) → p < 16 → samples_at (samples_laid l area taken) p ≡ window_in l area taken p
  unfolding samples_at samples_laid
  samples-laid p h = get_d_each (window_in l area taken) [] 16 p h

  pub length-samples : (p : ℕ) → p < 16 → length (samples_at (samples_laid l area taken) p) ≡ get_or taken p 0
  unfolding window_in
  length-samples p h = ap length (samples-laid p h) ∙ length_from area _ _

each_same : (F G : ℕ → List ℕ) (n : ℕ) → ((i : ℕ) → i < n → F i ≡ G i) → each F n ≡ each G n
unfolding each
each_same F G zero h = refl
each_same F G (suc n) h = rw (each_same F G n (λ i k. h i (omega arith)), h n (omega arith)) refl

-- samples are where they were as long as what lies behind the records is
pub samples-left : {c : Config} {l : Layout} → Serves c l → (a b taken : List ℕ) → drop l.room b ≡ drop l.room a → samples_laid l b taken ≡ samples_laid l a taken
unfolding samples_laid window_in
samples-left {l = l} s a b taken e =
    each_same (λ p. words_from b (l.window p) (get_or taken p 0)) (λ p. words_from a (l.window p) (get_or taken p 0)) 16 (λ p h. from_same b a l.room e _ _ (s.behind p))

-- ---- one sample more: all samples of a place are written anew

word_in_lem : (xs : List ℕ) (at v : ℕ) (ys : List ℕ) → at + 2 ≤ length xs → word_at (put xs at (word v ++ ys)) at ≡ v
unfolding word_at word
word_in_lem xs at v ys h =
    let a = get_d_put_in xs at (word v ++ ys) at (omega arith) (omega arith) (omega arith) in
    let b = get_d_put_in xs at (word v ++ ys) (at + 1) (omega arith) (omega arith) (omega arith) in
    let y : at - at ≡ 0 = omega arith in
    let z : at + 1 - at ≡ 1 = omega arith in
    rw (a, b, y, z) (omega arith)

-- what was written is read there
pub from_put : (ws xs : List ℕ) (at : ℕ) → at + 2 * length ws ≤ length xs → words_from (put xs at (gather word ws)) at (length ws) ≡ ws
unfolding words_from gather
from_put [] xs at h = refl
from_put (w ∷ ws) xs at h =
    let e : put xs at (word w ++ gather word ws) ≡ put (put xs at (word w)) (at + 2) (gather word ws) = sym (put-put xs at (word w) (gather word ws) (at + 2) (omega (arith, length-word w))) in
    λ i. word_in_lem xs at w (gather word ws) (omega arith) i ∷ (ap (λ (l : List ℕ). words_from l (at + 2) (length ws)) e ∙ from_put ws (put xs at (word w)) (at + 2) (omega (arith, length-put xs at (word w)))) i

-- and what lies before or behind it is read as it was
from_before : (xs ys : List ℕ) (at b n : ℕ) → b + 2 * n ≤ at → words_from (put xs at ys) b n ≡ words_from xs b n
unfolding words_from word_at
from_before xs ys at b zero h = refl
from_before xs ys at b (suc n) h =
    rw (get_d_put-before xs at ys b (omega arith), get_d_put-before xs at ys (b + 1) (omega arith), from_before xs ys at (b + 2) n (omega arith)) refl

from_behind : (xs ys : List ℕ) (at b n : ℕ) → at + length ys ≤ b → words_from (put xs at ys) b n ≡ words_from xs b n
from_behind xs ys at b n h = from_same (put xs at ys) xs b (drop-put b xs at ys h) b n (omega arith)

set-each : (F G : ℕ → List ℕ) (n p : ℕ) → ((q : ℕ) → q < n → (q ≡ p → ⊥) → G q ≡ F q) → each G n ≡ set (each F n) p (G p)
set-each F G n p h =
    ext_get_or [] (each G n) (set (each F n) p (G p)) (length-each G n ∙ sym (length-set (each F n) p (G p) ∙ length-each F n)) (λ i k.
    let l : i < n = omega (arith, length-each G n) in
    get_d_each G [] n i l ∙ by_eqb i p
    (λ e. rw e (sym (get_or-set_same (each F n) p (G p) [] (rw length-each (omega arith)))))
    (λ d. h i l d ∙ sym (get_or-set_other (each F n) p i (G p) [] d ∙ get_d_each F [] n i l)))

pub samples-taken : {c : Config} {l : Layout} → Serves c l → (area taken : List ℕ) (p : ℕ) (ws : List ℕ) → p < 16 → length taken ≡ 16
    → ((q : ℕ) → q < 16 → get_or taken q 0 ≤ window_at c q) → length ws ≤ window_at c p → l.window p + 2 * window_at c p ≤ length area
    → samples_laid l (put area (l.window p) (gather word ws)) (set taken p (length ws)) ≡ set (samples_laid l area taken) p ws
unfolding samples_laid window_in
samples-taken {c} {l} s area taken p ws low long few most room =
    let new = put area (l.window p) (gather word ws) in
    let F : ℕ → List ℕ = λ q. words_from area (l.window q) (get_or taken q 0) in
    let G : ℕ → List ℕ = λ q. words_from new (l.window q) (get_or (set taken p (length ws)) q 0) in
    let size : length (gather word ws) ≡ 2 * length ws = gather-each word 2 length-word ws in
    let own : G p ≡ ws = rw (get_or-set_same taken p (length ws) 0 (omega arith)) (from_put ws area (l.window p) (omega arith)) in
    set-each F G 16 p (λ q h d.
    rw (get_or-set_other taken p q (length ws) 0 d)
    (elim (dec_lt q p) [
      | yes k ↦ from_before area (gather word ws) (l.window p) (l.window q) (get_or taken q 0) (omega (arith, s.parted q p k, few q h))
      | no k ↦ let z : p < q = omega arith in from_behind area (gather word ws) (l.window p) (l.window q) (get_or taken q 0) (omega (arith, s.parted p q z, size))
    ]))
    ∙ ap (set (each F 16) p) own

-- the calculations equipped now ask of the samples only how many are in
module _ (c : Config) (ss ts : List (List ℕ)) (h : (p : ℕ) → p < 16 → length (samples_at ss p) ≡ length (samples_at ts p)) where
  struck-same : (k : ℕ) (table : List ℕ) → k ≤ 16 → struck_to c ss k table ≡ struck_to c ts k table
  unfolding struck_to struck_at waits
  struck-same zero table l = refl
  struck-same (suc k) table l = rw (h k (omega arith), struck-same k table (omega arith)) refl

  pub equipped-same : equipped_now c ss ≡ equipped_now c ts
  unfolding equipped_now
  equipped-same = struck-same 16 _ (omega arith)

-- ---- a table of them, as the code makes it

module _ (u : List ℕ) where
  abbrev ss : List (List ℕ)
  ss = samples_by (unit_in u).taken

  waits_by : (p : ℕ) → waits (config_in u) ss p ≡ ltb (get_or (unit_in u).taken p 0) (window_at (config_in u) p)
  unfolding waits
  waits_by p = rw (sampled_by_lem (unit_in u).taken p) refl

  module _ (table : List ℕ) (p : ℕ) {t w : ℕ} (a : t ≡ get_or (unit_in u).taken p 0) (b : w ≡ window_at (config_in u) p) where
    pub strike_off : w ≤ t → table ≡ struck_at (config_in u) ss p table
    unfolding struck_at
    strike_off h = rw (waits_by p, ← a, ← b, le-ltb t w h) refl

    pub strike_on : {n : ℕ} → t < w → n ≡ number_at (config_in u) p → set table n 0 ≡ struck_at (config_in u) ss p table
    unfolding struck_at
    strike_on h i = rw (waits_by p, ← a, ← b, lt-ltb t w h, i) refl

  pub struck-next : (k : ℕ) (entry : List ℕ) {table exit : List ℕ} → table ≡ struck_to (config_in u) ss k entry → exit ≡ struck_at (config_in u) ss k table → exit ≡ struck_to (config_in u) ss (k + 1) entry
  unfolding struck_to
  struck-next k entry e f = rw (add-one, ← e) f

  pub struck-none : (entry : List ℕ) → entry ≡ struck_to (config_in u) ss 0 entry
  unfolding struck_to
  struck-none entry = refl

  first_part : part u (region_start calculations_region) 128 ≡ take 128 (config_in u).calculations
  unfolding unit_from config_from unit_sizes part
  first_part =
      let z : region_start calculations_region + 0 ≡ region_start calculations_region = omega arith in
      sym (ap (take 128) (region_part unit_sizes u calculations_region (lit< tt)) ∙ part-part u (region_start calculations_region) 256 0 128 (lit≤ tt) ∙ ap (λ (a : ℕ). part u a 128) z)

  -- the equipment of the configuration
  pub equipped_copied : (entry : List ℕ) {table : List ℕ} → length entry ≡ 128 → length u ≡ unit_figure → table ≡ put entry 0 (part u (region_start calculations_region) 128) → table ≡ take 128 (config_in u).calculations
  unfolding start_in unit_sizes
  equipped_copied entry l long e =
      e ∙ put_all entry _ (l ∙ sym (length_part u (region_start calculations_region) 128 (omega arith))) ∙ first_part

  pub equipped-struck : {table exit : List ℕ} → table ≡ take 128 (config_in u).calculations → exit ≡ struck_to (config_in u) ss 16 table → exit ≡ equipped_now (config_in u) ss
  unfolding equipped_now
  equipped-struck e f = f ∙ ap (struck_to (config_in u) ss 16) e

  -- without means nothing is struck
  module _ (e : (every (λ p. eqb (window_at (config_in u) p) 0) (up_from 0 16) && every (λ p. eqb (get_or (unit_in u).taken p 0) 0) (up_from 0 16)) ≡ true) where
    none_to : (k : ℕ) (table : List ℕ) → k ≤ 16 → struck_to (config_in u) ss k table ≡ table
    none_to zero table h = sym (struck-none table)
    none_to (suc k) table h =
        let z : window_at (config_in u) k ≤ get_or (unit_in u).taken k 0 = rw (none-window u e k (omega arith)) (omega arith) in
        let f = strike_off (struck_to (config_in u) ss k table) k refl refl z in
        sym (sym (none_to k table (omega arith)) ∙ f ∙ unfold struck_to in refl)

    pub none-struck : {table : List ℕ} → table ≡ take 128 (config_in u).calculations → table ≡ equipped_now (config_in u) ss
    unfolding equipped_now
    none-struck f = f ∙ sym (none_to 16 _ (omega arith))
