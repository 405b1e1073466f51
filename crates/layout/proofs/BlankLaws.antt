-- A unit's memory with nothing in it but a configuration: what its characters mean. Assumes nothing.
use Rattle.std.specs.Prelude.{◌≡◌, ℕ, zero, suc, ◌+◌, ◌-◌, ◌*◌, ◌<◌, ◌≤◌, List, ◌∷◌, length, get_or, take, drop, replicate}
use mathlib.Core.Path.{refl, sym, ap, ◌∙◌}
use native.Mathlib.Omega.{arith}
use lib.ListN.{length-replicate, length-drop}
use lib.Dec.{lit<, lit≤}
use Rattle.chars.specs.Put.{put, part}
use Rattle.chars.specs.Word.{word, word_at}
use Rattle.chars.proofs.PutLaws.{length-put, take_put, take-put_front, drop-put, drop-put_in, part-part, part-whole}
use Rattle.chars.proofs.WordLaws.{length-word}
use Rattle.layout.specs.Regions.{start_in, region_in}
use Rattle.layout.specs.Unit.{
  config_sizes,
  unit_sizes,
  unit_long,
  config_long,
  region_start,
  layout_number,
  layout_region,
  number_region,
  length_region,
  inputs_region,
  outputs_region,
  calculations_region,
  files_region,
  values_region,
  oldest_region,
  means_region,
  sampled_region,
  windows_region,
  numbers_region,
  words_region,
  results_region,
  fixed_region,
  counts_region,
  dropped_region,
  changed_region,
  taken_region,
  plans_region,
  words_in,
  results_in,
  config_from,
  config_given,
  unit_from,
  unit_in,
  blank_unit,
  blank_of,
}
use Rattle.layout.proofs.RegionLaws.{region_part}
use Rattle.layout.proofs.UnitLaws.{unit_figure, config_figure}

written-part : (xs cs : List ℕ) (at : ℕ) → at + length cs ≤ length xs → part (put xs at cs) at (length cs) ≡ cs
unfolding part
written-part xs cs at l =
    let z : at - at ≡ 0 = omega arith in
    ap (take (length cs)) (drop-put_in at xs at cs (omega arith) ∙ ap (λ (a : ℕ). put (drop at xs) a cs) z)
    ∙ take-put_front (drop at xs) cs (omega (arith, length-drop at xs))

-- what lies in the characters written
inner-part : (xs cs : List ℕ) (at base size : ℕ) → base + size ≤ length cs → at + length cs ≤ length xs → part (put xs at cs) (at + base) size ≡ part cs base size
inner-part xs cs at base size h l =
    sym (part-part (put xs at cs) at (length cs) base size h) ∙ ap (λ (ys : List ℕ). part ys base size) (written-part xs cs at l)

zero-part : (n base size : ℕ) → base + size ≤ n → part (replicate n 0) base size ≡ replicate size 0
unfolding part
zero-part n zero zero h = refl
zero-part zero zero (suc size) h = absurd (omega arith)
zero-part (suc n) zero (suc size) h = ap (λ (l : List ℕ). 0 ∷ l) (zero-part n zero size (omega arith))
zero-part zero (suc base) size h = absurd (omega arith)
zero-part (suc n) (suc base) size h = zero-part n base size (omega arith)

-- what lies behind two runs of characters written is 0
back-part : (ws cs : List ℕ) (n at base size : ℕ) → length ws ≤ base → at + length cs ≤ base → base + size ≤ n
    → part (put (put (replicate n 0) 0 ws) at cs) base size ≡ replicate size 0
unfolding part
back-part ws cs n at base size h k l =
    ap (take size) (drop-put base (put (replicate n 0) 0 ws) at cs (omega arith) ∙ drop-put base (replicate n 0) 0 ws (omega arith)) ∙ zero-part n base size l

zero-words : (n : ℕ) → words_in (replicate (2 * n) 0) ≡ replicate n 0
unfolding words_in
zero-words zero = refl
zero-words (suc n) = let e : 2 * suc n ≡ suc (suc (2 * n)) = omega arith in rw e (ap (λ (l : List ℕ). 0 ∷ l) (zero-words n))

zero-results : (n : ℕ) → results_in (replicate (4 * n) 0) ≡ replicate n 0
unfolding results_in
zero-results zero = refl
zero-results (suc n) = let e : 4 * suc n ≡ suc (suc (suc (suc (4 * n)))) = omega arith in rw e (ap (λ (l : List ℕ). 0 ∷ l) (zero-results n))

pub blank_long : (cs : List ℕ) → length (blank_unit cs) ≡ unit_long
unfolding blank_unit
blank_long cs =
    length-put (put (replicate unit_long 0) (region_start layout_region) (word layout_number)) (region_start number_region) cs
    ∙ length-put (replicate unit_long 0) (region_start layout_region) (word layout_number) ∙ length-replicate {A = ℕ} unit_long 0

-- CONFIG and UNIT of src/lib.rt
pub blank_laid : (cs : List ℕ) {u v : List ℕ} → length cs ≡ config_figure → u ≡ put (replicate unit_figure 0) 0 (word layout_number) → v ≡ put u 2 (part cs 0 config_figure) → v ≡ blank_unit cs
unfolding blank_unit start_in unit_sizes
blank_laid cs l e f = f ∙ (λ i. put (e i) 2 (part-whole cs config_figure (sym l) i))

module _ (cs : List ℕ) (long : length cs ≡ config_long) where
  front : region_in unit_sizes (blank_unit cs) layout_region ≡ word layout_number
  unfolding blank_unit region_in unit_sizes start_in
  front =
      take_put 2 (put (replicate unit_figure 0) 0 (word layout_number)) 2 cs (lit≤ tt)
      ∙ ap (λ (n : ℕ). take n (put (replicate unit_figure 0) 0 (word layout_number))) (sym (length-word layout_number))
      ∙ take-put_front (replicate unit_figure 0) (word layout_number) (omega (arith, length-word layout_number, length-replicate {A = ℕ} unit_figure 0))

  inner : (k : ℕ) → k < length unit_sizes → k < length (0 ∷ config_sizes) → region_start k ≡ 2 + start_in (0 ∷ config_sizes) k → get_or unit_sizes k 0 ≡ get_or (0 ∷ config_sizes) k 0
      → start_in (0 ∷ config_sizes) k + get_or (0 ∷ config_sizes) k 0 ≤ config_long → region_start number_region ≡ 2 → 2 + config_long ≤ unit_long
      → region_in unit_sizes (blank_unit cs) k ≡ region_in (0 ∷ config_sizes) cs k
  unfolding blank_unit
  inner k h g a b l n m =
      let z = put (replicate unit_long 0) (region_start layout_region) (word layout_number) in
      let w : length z ≡ unit_long = length-put (replicate unit_long 0) (region_start layout_region) (word layout_number) ∙ length-replicate {A = ℕ} unit_long 0 in
      region_part unit_sizes (blank_unit cs) k h ∙ (λ i. part (put z (n i) cs) (a i) (b i))
      ∙ inner-part z cs 2 (start_in (0 ∷ config_sizes) k) (get_or (0 ∷ config_sizes) k 0) (omega arith) (omega arith)
      ∙ sym (region_part (0 ∷ config_sizes) cs k g)

  back : (k : ℕ) → k < length unit_sizes → region_start layout_region ≡ 0 → region_start number_region ≡ 2 → 2 + config_long ≤ region_start k → region_start k + get_or unit_sizes k 0 ≤ unit_long
      → region_in unit_sizes (blank_unit cs) k ≡ replicate (get_or unit_sizes k 0) 0
  unfolding blank_unit
  back k h a b l m =
      region_part unit_sizes (blank_unit cs) k h
      ∙ (λ i. part (put (put (replicate unit_long 0) (a i) (word layout_number)) (b i) cs) (region_start k) (get_or unit_sizes k 0))
      ∙ back-part (word layout_number) cs unit_long 2 (region_start k) (get_or unit_sizes k 0) (omega (arith, length-word layout_number)) (omega arith) m

  blank_config : config_from (region_in unit_sizes (blank_unit cs)) ≡ config_given cs
  unfolding config_from unit_sizes start_in
  blank_config =
      λ i. record {
        unit = word_at (inner number_region (lit< tt) (lit< tt) refl refl (lit≤ tt) refl (lit≤ tt) i) 0;
        inputs = inner inputs_region (lit< tt) (lit< tt) refl refl (lit≤ tt) refl (lit≤ tt) i;
        outputs = inner outputs_region (lit< tt) (lit< tt) refl refl (lit≤ tt) refl (lit≤ tt) i;
        calculations = inner calculations_region (lit< tt) (lit< tt) refl refl (lit≤ tt) refl (lit≤ tt) i;
        files = inner files_region (lit< tt) (lit< tt) refl refl (lit≤ tt) refl (lit≤ tt) i;
        values = inner values_region (lit< tt) (lit< tt) refl refl (lit≤ tt) refl (lit≤ tt) i;
        oldest = inner oldest_region (lit< tt) (lit< tt) refl refl (lit≤ tt) refl (lit≤ tt) i;
        block = word_at (inner length_region (lit< tt) (lit< tt) refl refl (lit≤ tt) refl (lit≤ tt) i) 0;
        means = inner means_region (lit< tt) (lit< tt) refl refl (lit≤ tt) refl (lit≤ tt) i;
        sampled = inner sampled_region (lit< tt) (lit< tt) refl refl (lit≤ tt) refl (lit≤ tt) i;
        windows = words_in (inner windows_region (lit< tt) (lit< tt) refl refl (lit≤ tt) refl (lit≤ tt) i);
      }

  blank_layout : word_at (region_in unit_sizes (blank_unit cs) layout_region) 0 ≡ layout_number
  unfolding word_at word
  blank_layout = ap (λ (r : List ℕ). word_at r 0) front

  pub blank_means : unit_in (blank_unit cs) ≡ blank_of (config_given cs)
  unfolding unit_from unit_sizes start_in
  blank_means =
      λ i. record {
        layout = blank_layout i;
        config = blank_config i;
        numbers = (ap words_in (back numbers_region (lit< tt) refl refl (lit≤ tt) (lit≤ tt)) ∙ zero-words 26) i;
        words = (ap words_in (back words_region (lit< tt) refl refl (lit≤ tt) (lit≤ tt)) ∙ zero-words 256) i;
        values = (ap results_in (back results_region (lit< tt) refl refl (lit≤ tt) (lit≤ tt)) ∙ zero-results 128) i;
        fixed = back fixed_region (lit< tt) refl refl (lit≤ tt) (lit≤ tt) i;
        counts = back counts_region (lit< tt) refl refl (lit≤ tt) (lit≤ tt) i;
        dropped = (ap words_in (back dropped_region (lit< tt) refl refl (lit≤ tt) (lit≤ tt)) ∙ zero-words 32) i;
        changed = back changed_region (lit< tt) refl refl (lit≤ tt) (lit≤ tt) i;
        taken = (ap words_in (back taken_region (lit< tt) refl refl (lit≤ tt) (lit≤ tt)) ∙ zero-words 16) i;
        plans = back plans_region (lit< tt) refl refl (lit≤ tt) (lit≤ tt) i;
      }
