-- The mean of samples where they lie, and one sample more there. Assumes nothing.
use Rattle.std.proofs.Common.{◌≡◌, ℕ, zero, suc, ◌+◌, ◌-◌, ◌*◌, ◌/◌, ◌%◌, ◌^◌, ◌<◌, ◌≤◌, Bool, true, cond, not, T, ltb, List, [], ◌∷◌, ◌++◌, length, get_or, drop, set, pos, nat_abs, sym, refl, ap, ◌∙◌, subst, add-one, arith, length-append, get_or-drop, pow_pos, w16, to_z, le-ltb, lt-ltb}
use native.Mathlib.Decide.{dec_lt}
use lib.Ieee.{Float, binary32, of_int, of_bits, of_fields, round, add, div, is_nan, to_bits}
use Rattle.chars.specs.Put.{put, part}
use Rattle.chars.specs.Word.{Characters, word, word_at}
use Rattle.chars.specs.Gather.{gather}
use lib.ListN.{set}
use Rattle.chars.proofs.PutLaws.{put_one, put-more, put-put, put-own, put_then, drop-put, part_none, part-more, part_add, length_part}
use Rattle.chars.proofs.GatherLaws.{gather-more}
use Rattle.model.specs.Config.{analog_at, window_at, is_power}
use Rattle.model.specs.Means.{signed_of, sum_of, mean_of, last_of, sampled_of}
use Rattle.model.specs.declared.Input.{Input}
use Rattle.model.specs.declared.Sampled.TheVariants.{Ready, NotReady}
use Rattle.model.proofs.Conditions.{by_bool}
use Rattle.model.proofs.Exact.{add_whole, signed_most, sum_most, sum_more, power, power_most, mean_number}
use Rattle.model.proofs.Sampling.{last-short}
use Rattle.model.proofs.SampleLaws.{length_last}
use Rattle.layout.specs.Unit.{unit_in, config_in, put_value, put_taken}
use Rattle.layout.specs.Records.{records_room, windows_to, words_from, packed}
use Rattle.layout.proofs.MeansLaws.{length_from}
use Rattle.unit.specs.Samples.{slid, slid_in, put_mean, TakePromise}

-- stores side by side are one run
put_two : (l : List ℕ) (i a b : ℕ) → set (set l i a) (i + 1) b ≡ put l i (a ∷ b ∷ [])
put_two l i a b = rw (← put_one l i a) (put-more l i (a ∷ []) b (i + 1) (omega arith))

-- ---- a word as a float

pub signed_is : (w : ℕ) → to_z w16 w ≡ signed_of w
unfolding signed_of
signed_is w = by_bool (ltb w 32768) (λ b. rw b) (λ b. let z : 65536 - suc w ≡ 65535 - w = omega arith in rw (b, z))

-- ---- the sum of words where they lie

from_next : (area : List ℕ) (at i : ℕ) → words_from area at (suc i) ≡ words_from area at i ++ (word_at area (at + 2 * i) ∷ [])
unfolding words_from
from_next area at zero = let z : at + 2 * 0 ≡ at = omega arith in ap (λ (j : ℕ). word_at area j ∷ []) (sym z)
from_next area at (suc i) =
    let z : at + 2 + 2 * i ≡ at + 2 * suc i = omega arith in
    ap (λ (ws : List ℕ). word_at area at ∷ ws) (from_next area (at + 2) i ∙ ap (λ (j : ℕ). words_from area (at + 2) i ++ (word_at area j ∷ [])) z)

from_more : (area : List ℕ) (at i : ℕ) → words_from area at (i + 1) ≡ words_from area at i ++ (word_at area (at + 2 * i) ∷ [])
from_more area at i = ap (words_from area at) (add-one i) ∙ from_next area at i

pub sum_none : (area : List ℕ) (at : ℕ) → of_bits binary32 0 ≡ of_int binary32 (sum_of (words_from area at 0))
unfolding sum_of words_from of_int of_bits of_fields round
sum_none area at = refl

-- one word more is added exactly
sum_one : (ws : List ℕ) (w : ℕ) {sum x : Float} → length ws < 256 → sum ≡ of_int binary32 (sum_of ws) → x ≡ of_int binary32 (signed_of w) → add binary32 sum x ≡ of_int binary32 (sum_of (ws ++ (w ∷ [])))
sum_one ws w h s t =
    let most : nat_abs (sum_of ws) ≤ 2 ^ 24 = omega (arith, sum_most ws) in
    let one : nat_abs (signed_of w) ≤ 2 ^ 24 = omega (arith, signed_most w) in
    (λ j. add binary32 (s j) (t j)) ∙ add_whole (sum_of ws) (signed_of w) most one ∙ ap (of_int binary32) (sym (sum_more ws w))

pub power_some : (n : ℕ) → is_power n ≡ true → 0 < n
power_some n e = let p = power n e in rw p.is (pow_pos p.doublings)

pub power_few : (n : ℕ) → is_power n ≡ true → n ≤ 256
power_few n e = power_most n (power n e)

-- ---- one sample more

pair : (area : List ℕ) (at : ℕ) → at + 2 ≤ length area → part area at 2 ≡ get_or area at 0 ∷ get_or area (at + 1) 0 ∷ []
pair area at h =
    let z : at + 0 ≡ at = omega arith in
    let one : part area at 1 ≡ get_or area at 0 ∷ [] = part-more area at 0 (omega arith) ∙ (λ i. part_none area at i ++ (get_or area (z i) 0 ∷ [])) in
    part-more area at 1 (omega arith) ∙ ap (λ (ys : List ℕ). ys ++ (get_or area (at + 1) 0 ∷ [])) one

two : (area : List ℕ) (at : ℕ) → Characters area → at + 2 ≤ length area → word (word_at area at) ≡ part area at 2
unfolding word word_at
two area at chars h =
    let a = chars at in
    let b = chars (at + 1) in
    let p : (get_or area at 0 + 256 * get_or area (at + 1) 0) % 256 ≡ get_or area at 0 = omega arith in
    let q : (get_or area at 0 + 256 * get_or area (at + 1) 0) / 256 ≡ get_or area (at + 1) 0 = omega arith in
    (λ i. p i ∷ q i ∷ []) ∙ sym (pair area at h)

-- words that stand somewhere are the characters there
words_back : (area : List ℕ) → Characters area → (at k : ℕ) → at + 2 * k ≤ length area → gather word (words_from area at k) ≡ part area at (2 * k)
unfolding words_from gather
words_back area chars at zero h = let z : 2 * 0 ≡ 0 = omega arith in sym (ap (part area at) z ∙ part_none area at)
words_back area chars at (suc k) h =
    let z : 2 + 2 * k ≡ 2 * suc k = omega arith in
    let first : word (word_at area at) ≡ part area at 2 = two area at chars (omega arith) in
    let rest = words_back area chars (at + 2) k (omega arith) in
    (λ i. first i ++ rest i) ∙ sym (part_add area at 2 (2 * k)) ∙ ap (part area at) z

first_gone : (area : List ℕ) (at m : ℕ) (ys : List ℕ) → drop 1 (words_from area at (suc m) ++ ys) ≡ words_from area (at + 2) m ++ ys
unfolding words_from
first_gone area at m ys = refl

module _ (area : List ℕ) (chars : Characters area) (at w : ℕ) where
  long-more : (k : ℕ) → length (words_from area at k ++ (w ∷ [])) ≡ k + 1
  long-more k = length-append (words_from area at k) (w ∷ []) ∙ ap (λ (m : ℕ). m + 1) (length_from area at k)

  slid-more : (k n : ℕ) → k < n → slid area at k n w ≡ words_from area at k ++ (w ∷ [])
  unfolding slid
  slid-more k n h = last-short n _ (omega (arith, long-more k))

  slid-full : (n : ℕ) → 0 < n → slid area at n n w ≡ words_from area (at + 2) (n - 1) ++ (w ∷ [])
  unfolding slid last_of
  slid-full zero h = absurd (omega arith)
  slid-full (suc m) h =
      let z : length (words_from area at (suc m) ++ (w ∷ [])) - suc m ≡ 1 = omega (arith, long-more (suc m)) in
      let y : suc m - 1 ≡ m = omega arith in
      ap (λ (d : ℕ). drop d (words_from area at (suc m) ++ (w ∷ []))) z ∙ first_gone area at m (w ∷ []) ∙ ap (λ (j : ℕ). words_from area (at + 2) j ++ (w ∷ [])) (sym y)

  -- behind those held
  more-put : (k n : ℕ) {b : List ℕ} → k < n → at + 2 * n ≤ length area → b ≡ put area (at + 2 * k) (word w) → b ≡ put area at (gather word (slid area at k n w))
  more-put k n h room e =
      let long = length_part area at (2 * k) (omega arith) in
      e ∙ ap (λ (xs : List ℕ). put xs (at + 2 * k) (word w)) (sym (put-own area at (2 * k)))
      ∙ put-put area at (part area at (2 * k)) (word w) (at + 2 * k) (omega arith)
      ∙ ap (λ (ys : List ℕ). put area at (ys ++ word w)) (sym (words_back area chars at k (omega arith)))
      ∙ ap (put area at) (sym (ap (gather word) (slid-more k n h) ∙ gather-more word (words_from area at k) w))

  -- all in: the n - 1 latest of those held, and this one
  latest : (k n : ℕ) → k ≤ n → n ≤ k + 1 → 0 < n → slid area at k n w ≡ words_from area (at + 2 * (k - (n - 1))) (n - 1) ++ (w ∷ [])
  latest k n h l g =
      elim (dec_lt k n) [
        | yes f ↦
            let y : at + 2 * (k - (n - 1)) ≡ at = omega arith in
            let z : n - 1 ≡ k = omega arith in
            slid-more k n f ∙ (λ i. words_from area (sym y i) (sym z i) ++ (w ∷ []))
        | no f ↦
            let same : k ≡ n = omega arith in
            let y : at + 2 * (k - (n - 1)) ≡ at + 2 = omega arith in
            ap (λ (j : ℕ). slid area at j n w) same ∙ slid-full n g ∙ ap (λ (j : ℕ). words_from area j (n - 1) ++ (w ∷ [])) (sym y)
      ]

  module _ (k n : ℕ) (even : is_power n ≡ true) (h : k ≤ n) (l : n ≤ k + 1) (room : at + 2 * n ≤ length area) where
    abbrev from : ℕ
    from = at + 2 * (k - (n - 1))

    some : 0 < n
    some = power_some n even

    pub slide_asked : (n - 1 ≤ 256) × (at + 2 * (k - (n - 1)) + 2 * (n - 1) ≤ length area)
    slide_asked = (omega (arith, power_few n even), omega (arith, some))

    module _ {sum x : Float} {a b : List ℕ} (s : sum ≡ of_int binary32 (sum_of (words_from area from (n - 1)))) (t : x ≡ of_int binary32 (signed_of w))
        (moved : a ≡ put area at (part area from (2 * (n - 1)))) (written : b ≡ put a (at + 2 * (n - 1)) (word w)) where
      pub mean_is : div binary32 (add binary32 sum x) (of_int binary32 (pos n)) ≡ mean_of n (slid area at k n w)
      unfolding mean_of
      mean_is =
          ap (λ (y : Float). div binary32 y (of_int binary32 (pos n)))
          (sum_one (words_from area from (n - 1)) w (omega (arith, length_from area from (n - 1), power_few n even, some)) s t
          ∙ ap (λ (ws : List ℕ). of_int binary32 (sum_of ws)) (sym (latest k n h l some)))

      pub all-put : b ≡ put area at (gather word (slid area at k n w))
      all-put =
          let ws = words_from area from (n - 1) in
          let inside : from + 2 * (n - 1) ≤ length area = omega (arith, some) in
          let long = length_part area from (2 * (n - 1)) inside in
          put_then area _ _ at (at + 2 * (n - 1)) _ (word w) moved (omega arith) written
          ∙ ap (λ (ys : List ℕ). put area at (ys ++ word w)) (sym (words_back area chars from (n - 1) inside))
          ∙ ap (put area at) (sym (ap (gather word) (latest k n h l some) ∙ gather-more word ws w))

-- ---- a turn of the slide: i words are down and summed

module _ (area : List ℕ) (at by i : ℕ) {us : List ℕ} (room : at + by + 2 * (i + 1) ≤ length area) (e : us ≡ put area at (part area (at + by) (2 * i))) where
  long_down : length (part area (at + by) (2 * i)) ≡ 2 * i
  long_down = length_part area (at + by) (2 * i) (omega arith)

  -- what is read has not been written over
  unwritten : (j : ℕ) → at + 2 * i ≤ j → get_or us j 0 ≡ get_or area j 0
  unwritten j h =
      let z : at + 2 * i + (j - (at + 2 * i)) ≡ j = omega arith in
      let same = ap (drop (at + 2 * i)) e ∙ drop-put (at + 2 * i) area at (part area (at + by) (2 * i)) (omega (arith, long_down)) in
      ap (λ (k : ℕ). get_or us k 0) (sym z) ∙ sym (get_or-drop (at + 2 * i) us (j - (at + 2 * i)) 0)
      ∙ ap (λ (l : List ℕ). get_or l (j - (at + 2 * i)) 0) same
      ∙ get_or-drop (at + 2 * i) area (j - (at + 2 * i)) 0 ∙ ap (λ (k : ℕ). get_or area k 0) z

  low_is : get_or us (at + 2 * i + by) 0 ≡ get_or area (at + by + 2 * i) 0
  low_is = let z : at + 2 * i + by ≡ at + by + 2 * i = omega arith in unwritten (at + 2 * i + by) (omega arith) ∙ ap (λ (k : ℕ). get_or area k 0) z

  high_is : get_or us (at + 2 * i + by + 1) 0 ≡ get_or area (at + by + 2 * i + 1) 0
  high_is = let z : at + 2 * i + by + 1 ≡ at + by + 2 * i + 1 = omega arith in unwritten (at + 2 * i + by + 1) (omega arith) ∙ ap (λ (k : ℕ). get_or area k 0) z

  pub slid-turn : set (set us (at + 2 * i) (get_or us (at + 2 * i + by) 0)) (at + 2 * i + 1) (get_or us (at + 2 * i + by + 1) 0) ≡ put area at (part area (at + by) (2 * (i + 1)))
  slid-turn =
      let z : 2 * i + 2 ≡ 2 * (i + 1) = omega arith in
      put_two us (at + 2 * i) _ _
      ∙ (λ j. put (e j) (at + 2 * i) (low_is j ∷ high_is j ∷ []))
      ∙ put-put area at (part area (at + by) (2 * i)) _ (at + 2 * i) (omega (arith, long_down))
      ∙ ap (put area at) (sym (ap (part area (at + by)) (sym z) ∙ part_add area (at + by) (2 * i) 2 ∙ ap (λ (ys : List ℕ). part area (at + by) (2 * i) ++ ys) (pair area (at + by + 2 * i) (omega arith))))

  pub sum_turn : {sum x : Float} → i < 256 → sum ≡ of_int binary32 (sum_of (words_from area (at + by) i))
      → x ≡ of_int binary32 (signed_of (get_or us (at + 2 * i + by) 0 + get_or us (at + 2 * i + by + 1) 0 * 256))
      → add binary32 sum x ≡ of_int binary32 (sum_of (words_from area (at + by) (i + 1)))
  unfolding word_at
  sum_turn h s t =
      let z : get_or us (at + 2 * i + by + 1) 0 * 256 ≡ 256 * get_or us (at + 2 * i + by + 1) 0 = omega arith in
      sum_one (words_from area (at + by) i) _ (omega (arith, length_from area (at + by) i)) s (rw z at t)
      ∙ (λ j. of_int binary32 (sum_of (words_from area (at + by) i ++ ((low_is j + 256 * high_is j) ∷ []))))
      ∙ ap (λ (ws : List ℕ). of_int binary32 (sum_of ws)) (sym (from_more area (at + by) i))

-- ---- at a place

-- what the code reads there, and what the place owes
module _ (u area : List ℕ) (p : ℕ) {at n k w : ℕ} {a : Input} (start : at ≡ records_room (config_in u) + windows_to (config_in u) p) (window : n ≡ window_at (config_in u) p)
    (analog : a ≡ record { 0 = analog_at (config_in u) p }) (read : w ≡ get_or (unit_in u).words a.0 0) (held : k ≡ get_or (unit_in u).taken p 0)
    (even : is_power (window_at (config_in u) p) ≡ true) (few : get_or (unit_in u).taken p 0 ≤ window_at (config_in u) p)
    (room : (packed (config_in u)).window p + 2 * window_at (config_in u) p ≤ length area) where
  started : at ≡ (packed (config_in u)).window p
  unfolding packed
  started = start

  is_power_lem : is_power n ≡ true
  is_power_lem = ap is_power window ∙ even

  -- how far the samples reach, and how many they are
  pub inside : (at + 2 * n ≤ length area) × (k ≤ n) × (n ≤ 256)
  inside = (omega (arith, started, window, room), omega (arith, held, window, few), power_few n is_power_lem)

  pub mean_asked : n ≤ k + 1 → (is_power n ≡ true) × (k ≤ n) × (n ≤ k + 1) × (at + 2 * n ≤ length area)
  mean_asked h = (is_power_lem, inside.1, h, inside.0)

  taken_is : slid area at k n w ≡ slid_in u area p
  taken_is =
      let now-is : w ≡ get_or (unit_in u).words (analog_at (config_in u) p) 0 = read ∙ ap (λ (j : Input). get_or (unit_in u).words j.0 0) analog in
      λ i. slid area (started i) (held i) (window i) (now-is i)

  moved_is : {area' : List ℕ} → area' ≡ put area at (gather word (slid area at k n w)) → area' ≡ put area ((packed (config_in u)).window p) (gather word (slid_in u area p))
  moved_is moved = moved ∙ (λ i. put area (started i) (gather word (taken_is i)))

  -- not yet as many as are asked for
  pub waits-more : Characters area → (num : ℕ) {area' v : List ℕ} → k + 1 < n → area' ≡ put area (at + 2 * k) (word w) → v ≡ put_taken u p (k + 1)
      → TakePromise u area p num v area' (NotReady (n - (k + 1)))
  unfolding sampled_of put_mean
  waits-more chars num h moved e =
      let less : k < n = omega arith in
      let counted : k + 1 ≡ length (slid_in u area p) = sym (ap length (sym taken_is ∙ slid-more area chars at w k n less) ∙ long-more area chars at w k) in
      let few' : length (slid_in u area p) < window_at (config_in u) p = omega (arith, counted, window) in
      record {
        ended = (λ i. NotReady (window i - counted i))
            ∙ sym (ap (λ (b : Bool). cond b (NotReady (window_at (config_in u) p - length (slid_in u area p))) (Ready (mean_of (window_at (config_in u) p) (slid_in u area p)))) (lt-ltb _ _ few'));
        moved = moved_is (more-put area chars at w k n less inside.0 moved);
        left = e ∙ ap (put_taken u p) counted;
      }

  -- as many
  module _ (h : n ≤ k + 1) where
    all_in : n ≡ length (slid_in u area p)
    unfolding slid
    all_in =
        let long = length-append (words_from area at k) (w ∷ []) in
        sym (ap length (sym taken_is) ∙ length_last n (words_from area at k ++ (w ∷ [])) ∙ omega (arith, long, length_from area at k))

    pub number_now : {x : Float} → x ≡ mean_of n (slid area at k n w) → T (not (is_nan x))
    number_now e =
        let some : length (slid area at k n w) ≤ n = omega (arith, all_in, ap length taken_is) in
        subst (λ (y : Float). T (not (is_nan y))) (sym e) (mean_number n (slid area at k n w) is_power_lem some)

    pub ready_now : (num : ℕ) {area' u' v : List ℕ} {x : Float} → x ≡ mean_of n (slid area at k n w) → area' ≡ put area at (gather word (slid area at k n w))
        → u' ≡ put_taken u p n → v ≡ put_value u' num (to_bits binary32 x) → TakePromise u area p num v area' (Ready x)
    unfolding sampled_of put_mean
    ready_now num {x = x} e moved g f =
        let all : window_at (config_in u) p ≤ length (slid_in u area p) = omega (arith, all_in, window) in
        record {
          ended = ap Ready (e ∙ (λ i. mean_of (window i) (taken_is i)))
              ∙ sym (ap (λ (b : Bool). cond b (NotReady (window_at (config_in u) p - length (slid_in u area p))) (Ready (mean_of (window_at (config_in u) p) (slid_in u area p)))) (le-ltb _ _ all));
          moved = moved_is moved;
          left = f ∙ ap (λ (z : List ℕ). put_value z num (to_bits binary32 x)) (g ∙ ap (put_taken u p) all_in);
        }
