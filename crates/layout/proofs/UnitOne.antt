-- Two memories of a unit that are characters and mean the same are the same. Assumes nothing.
use Rattle.std.specs.Prelude.{◌≡◌, ℕ, zero, suc, ◌+◌, ◌*◌, ◌<◌, List, [], ◌∷◌, ◌++◌, length, get_or, take, drop}
use mathlib.Core.Path.{refl, sym, ap, ◌∙◌}
use native.Mathlib.Omega.{arith}
use native.Mathlib.Decide.{dec_lt}
use lib.ListN.{length-drop, take-append-drop}
use lib.Dec.{lit<}
use Rattle.chars.specs.Word.{Characters, word_at}
use Rattle.layout.specs.Regions.{start_in, region_in}
use Rattle.layout.specs.Unit.{Unit, unit_sizes, unit_long, words_in, results_in, config_from, unit_from, unit_in}
use Rattle.layout.proofs.RegionLaws.{region_at, region_past, region_whole}

nil_one : (u v : List ℕ) → length u ≡ 0 → length v ≡ 0 → u ≡ v
nil_one [] [] a b = refl
nil_one [] (y ∷ v) a b = absurd (omega arith)
nil_one (x ∷ u) v a b = absurd (omega arith)

-- a memory is its regions
regions_one : (ns u v : List ℕ) → length u ≡ start_in ns (length ns) → length v ≡ start_in ns (length ns)
    → ((j : ℕ) → region_in ns u j ≡ region_in ns v j) → u ≡ v
unfolding start_in region_in
regions_one [] u v a b h = nil_one u v a b
regions_one (n ∷ ns) u v a b h =
    let t = regions_one ns (drop n u) (drop n v) (omega (arith, length-drop n u)) (omega (arith, length-drop n v)) (λ j. h (suc j)) in
    sym (take-append-drop n u) ∙ ap (λ (l : List ℕ). l ++ drop n u) (h zero) ∙ ap (λ (l : List ℕ). take n v ++ l) t ∙ take-append-drop n v

region_chars : (ns u : List ℕ) (k : ℕ) → Characters u → Characters (region_in ns u k)
region_chars ns u k p = λ i.
    elim (dec_lt i (get_or ns k 0)) [
      | yes h ↦ omega (arith, region_at ns u k i h, p (start_in ns k + i))
      | no h ↦ omega (arith, region_past ns u k i (omega arith))
    ]

-- ---- a region from what it means

word-one : (r s : List ℕ) → length r ≡ 2 → length s ≡ 2 → Characters r → Characters s → word_at r 0 ≡ word_at s 0 → r ≡ s
unfolding word_at
word-one (a ∷ b ∷ []) (x ∷ y ∷ []) l m p q e =
    let h : a ≡ x = omega (arith, p 0, p 1, q 0, q 1) in
    let k : b ≡ y = omega (arith, p 0, p 1, q 0, q 1) in
    rw (h, k)
word-one [] s l m p q e = absurd (omega arith)
word-one (a ∷ []) s l m p q e = absurd (omega arith)
word-one (a ∷ b ∷ c ∷ r) s l m p q e = absurd (omega arith)
word-one (a ∷ b ∷ []) [] l m p q e = absurd (omega arith)
word-one (a ∷ b ∷ []) (x ∷ []) l m p q e = absurd (omega arith)
word-one (a ∷ b ∷ []) (x ∷ y ∷ z ∷ s) l m p q e = absurd (omega arith)

words-one : (r s : List ℕ) → length r ≡ length s → Characters r → Characters s → words_in r ≡ words_in s → r ≡ s
unfolding words_in
words-one [] [] l p q e = refl
words-one (a ∷ []) (x ∷ []) l p q e = let h : a ≡ x = ap (λ (t : List ℕ). get_or t 0 0) e in rw h
words-one (a ∷ b ∷ r) (x ∷ y ∷ s) l p q e =
    let d : a + 256 * b ≡ x + 256 * y = ap (λ (t : List ℕ). get_or t 0 0) e in
    let h : a ≡ x = omega (arith, p 0, p 1, q 0, q 1) in
    let k : b ≡ y = omega (arith, p 0, p 1, q 0, q 1) in
    rw (h, k) (ap (λ (t : List ℕ). x ∷ y ∷ t) (words-one r s (omega arith) (λ i. p (suc (suc i))) (λ i. q (suc (suc i))) (ap (drop 1) e)))
words-one [] (x ∷ s) l p q e = absurd (omega arith)
words-one (a ∷ []) [] l p q e = absurd (omega arith)
words-one (a ∷ []) (x ∷ y ∷ s) l p q e = absurd (omega arith)
words-one (a ∷ b ∷ r) [] l p q e = absurd (omega arith)
words-one (a ∷ b ∷ r) (x ∷ []) l p q e = absurd (omega arith)

-- four characters from the value that they tell
four_one : (a b c d x y z w : ℕ) → a < 256 → b < 256 → c < 256 → x < 256 → y < 256 → z < 256
    → a + 256 * b + 65536 * (c + 256 * d) ≡ x + 256 * y + 65536 * (z + 256 * w) → (a ≡ x) × (b ≡ y) × (c ≡ z) × (d ≡ w)
four_one a b c d x y z w h i j k l m e = (omega arith, omega arith, omega arith, omega arith)

values_one : (n : ℕ) (r s : List ℕ) → length r ≡ 4 * n → length s ≡ 4 * n → Characters r → Characters s → results_in r ≡ results_in s → r ≡ s
unfolding results_in
values_one zero r s l m p q e = nil_one r s l m
values_one (suc n) (a ∷ b ∷ c ∷ d ∷ r) (x ∷ y ∷ z ∷ w ∷ s) l m p q e =
    let f = four_one a b c d x y z w (p 0) (p 1) (p 2) (q 0) (q 1) (q 2) (ap (λ (t : List ℕ). get_or t 0 0) e) in
    rw (f.0, f.1, f.2, f.3)
    (ap (λ (t : List ℕ). x ∷ y ∷ z ∷ w ∷ t)
    (values_one n r s (omega arith) (omega arith) (λ i. p (suc (suc (suc (suc i))))) (λ i. q (suc (suc (suc (suc i))))) (ap (drop 1) e)))
values_one (suc n) [] s l m p q e = absurd (omega arith)
values_one (suc n) (a ∷ []) s l m p q e = absurd (omega arith)
values_one (suc n) (a ∷ b ∷ []) s l m p q e = absurd (omega arith)
values_one (suc n) (a ∷ b ∷ c ∷ []) s l m p q e = absurd (omega arith)
values_one (suc n) (a ∷ b ∷ c ∷ d ∷ r) [] l m p q e = absurd (omega arith)
values_one (suc n) (a ∷ b ∷ c ∷ d ∷ r) (x ∷ []) l m p q e = absurd (omega arith)
values_one (suc n) (a ∷ b ∷ c ∷ d ∷ r) (x ∷ y ∷ []) l m p q e = absurd (omega arith)
values_one (suc n) (a ∷ b ∷ c ∷ d ∷ r) (x ∷ y ∷ z ∷ []) l m p q e = absurd (omega arith)

-- ---- the whole

module _ (u v : List ℕ) (l : length u ≡ unit_long) (m : length v ≡ unit_long) (p : Characters u) (q : Characters v) (e : unit_in u ≡ unit_in v) where
  chars_u : (k : ℕ) → Characters (region_in unit_sizes u k)
  chars_u k = region_chars unit_sizes u k p

  chars_v : (k : ℕ) → Characters (region_in unit_sizes v k)
  chars_v k = region_chars unit_sizes v k q

  long_u : (k : ℕ) → k < length unit_sizes → length (region_in unit_sizes u k) ≡ get_or unit_sizes k 0
  long_u k h = region_whole unit_sizes u k h l

  long_v : (k : ℕ) → k < length unit_sizes → length (region_in unit_sizes v k) ≡ get_or unit_sizes k 0
  long_v k h = region_whole unit_sizes v k h m

  region_one : (j : ℕ) → region_in unit_sizes u j ≡ region_in unit_sizes v j
  unfolding unit_sizes unit_from config_from region_in
  region_one zero = word-one _ _ (long_u 0 (lit< tt)) (long_v 0 (lit< tt)) (chars_u 0) (chars_v 0) (ap (λ (x : Unit). x.layout) e)
  region_one (suc zero) = word-one _ _ (long_u 1 (lit< tt)) (long_v 1 (lit< tt)) (chars_u 1) (chars_v 1) (ap (λ (x : Unit). x.config.unit) e)
  region_one (suc (suc zero)) = word-one _ _ (long_u 2 (lit< tt)) (long_v 2 (lit< tt)) (chars_u 2) (chars_v 2) (ap (λ (x : Unit). x.config.block) e)
  region_one (suc (suc (suc zero))) = ap (λ (x : Unit). x.config.inputs) e
  region_one (suc (suc (suc (suc zero)))) = ap (λ (x : Unit). x.config.outputs) e
  region_one (suc (suc (suc (suc (suc zero))))) = ap (λ (x : Unit). x.config.calculations) e
  region_one (suc (suc (suc (suc (suc (suc zero)))))) = ap (λ (x : Unit). x.config.files) e
  region_one (suc (suc (suc (suc (suc (suc (suc zero))))))) = ap (λ (x : Unit). x.config.values) e
  region_one (suc (suc (suc (suc (suc (suc (suc (suc zero)))))))) = ap (λ (x : Unit). x.config.oldest) e
  region_one (suc (suc (suc (suc (suc (suc (suc (suc (suc zero))))))))) = ap (λ (x : Unit). x.config.means) e
  region_one (suc (suc (suc (suc (suc (suc (suc (suc (suc (suc zero)))))))))) = ap (λ (x : Unit). x.config.sampled) e
  region_one (suc (suc (suc (suc (suc (suc (suc (suc (suc (suc (suc zero))))))))))) = words-one _ _ (long_u 11 (lit< tt) ∙ sym (long_v 11 (lit< tt))) (chars_u 11) (chars_v 11) (ap (λ (x : Unit). x.config.windows) e)
  region_one (suc (suc (suc (suc (suc (suc (suc (suc (suc (suc (suc (suc zero)))))))))))) = words-one _ _ (long_u 12 (lit< tt) ∙ sym (long_v 12 (lit< tt))) (chars_u 12) (chars_v 12) (ap (λ (x : Unit). x.numbers) e)
  region_one (suc (suc (suc (suc (suc (suc (suc (suc (suc (suc (suc (suc (suc zero))))))))))))) = words-one _ _ (long_u 13 (lit< tt) ∙ sym (long_v 13 (lit< tt))) (chars_u 13) (chars_v 13) (ap (λ (x : Unit). x.words) e)
  region_one (suc (suc (suc (suc (suc (suc (suc (suc (suc (suc (suc (suc (suc (suc zero)))))))))))))) = values_one 128 _ _ (long_u 14 (lit< tt)) (long_v 14 (lit< tt)) (chars_u 14) (chars_v 14) (ap (λ (x : Unit). x.values) e)
  region_one (suc (suc (suc (suc (suc (suc (suc (suc (suc (suc (suc (suc (suc (suc (suc zero))))))))))))))) = ap (λ (x : Unit). x.fixed) e
  region_one (suc (suc (suc (suc (suc (suc (suc (suc (suc (suc (suc (suc (suc (suc (suc (suc zero)))))))))))))))) = ap (λ (x : Unit). x.counts) e
  region_one (suc (suc (suc (suc (suc (suc (suc (suc (suc (suc (suc (suc (suc (suc (suc (suc (suc zero))))))))))))))))) = words-one _ _ (long_u 17 (lit< tt) ∙ sym (long_v 17 (lit< tt))) (chars_u 17) (chars_v 17) (ap (λ (x : Unit). x.dropped) e)
  region_one (suc (suc (suc (suc (suc (suc (suc (suc (suc (suc (suc (suc (suc (suc (suc (suc (suc (suc zero)))))))))))))))))) = ap (λ (x : Unit). x.changed) e
  region_one (suc (suc (suc (suc (suc (suc (suc (suc (suc (suc (suc (suc (suc (suc (suc (suc (suc (suc (suc zero))))))))))))))))))) = words-one _ _ (long_u 19 (lit< tt) ∙ sym (long_v 19 (lit< tt))) (chars_u 19) (chars_v 19) (ap (λ (x : Unit). x.taken) e)
  region_one (suc (suc (suc (suc (suc (suc (suc (suc (suc (suc (suc (suc (suc (suc (suc (suc (suc (suc (suc (suc zero)))))))))))))))))))) = ap (λ (x : Unit). x.plans) e
  region_one (suc (suc (suc (suc (suc (suc (suc (suc (suc (suc (suc (suc (suc (suc (suc (suc (suc (suc (suc (suc (suc j))))))))))))))))))))) = refl

  pub unit-one : u ≡ v
  unit-one = regions_one unit_sizes u v l m region_one
