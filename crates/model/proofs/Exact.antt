-- Means in single precision lose nothing: sums of samples and their quotients by a power of two are exact. Assumes nothing.
use mathlib.Core.Path.{◌≡◌, refl, sym, ap, ◌∙◌, subst}
use mathlib.Core.List.{List, [], ◌∷◌, ◌++◌}
use mathlib.Core.Bool.{Bool, true, false, cond, not, ◌&&◌, beq}
use Prim.Native.Nat.{ℕ, zero, suc, ◌+◌, ◌-◌, ◌*◌, ◌^◌, ◌≤◌, ◌<◌}
use native.Mathlib.Nat.{mul-mul-mul_comm, mul-one, one-mul, mul_comm, mul_assoc, mul-pos, lt_of_lt_of_le, zero-lt-suc, zero-mul, add-mul, mul-sub, mul-le-mul_right, mul-lt-mul_of_pos_right}
use native.Mathlib.Omega.{arith}
use lib.IntN.{ℤ, pos, negsuc, nat_abs, ◌+ℤ◌, +ℤ_assoc, +ℤ_idl, +ℤ_idr}
use lib.ListN.{length}
use lib.Pow.{pow-add, pow_pos, pow_mono, shl_lt}
use lib.Dec.{T, eqb, ltb}
use borrow.Author.Tests.{ne_eqb, ltb-true, ltb-false, lt-ltb, le-ltb, leb-true, eqb-true}
use lib.Ieee.{Float, nan, inf, fin, binary32, up, down, unlike, round, sum, add, div, of_int, is_nan}
use lib.Ieee.Fits.{up_pos, down_pos}
use lib.Ieee.Digits.{back}
use lib.Ieee.Exact.{HasValue, round_exact}
use lib.Ieee.Back.{round_whole}
use lib.Ieee.Scale.{round_same}
use Rattle.model.specs.Limits.{most_doublings, most_samples}
use Rattle.model.specs.Config.{first_of, doublings_of, is_power}
use Rattle.model.specs.Means.{signed_of, sum_of, mean_of, MeanIs}
use Rattle.model.proofs.Conditions.{by_cond, by_bool}

-- the greatest sum of samples, in size
abbrev pub most_sum : ℕ
most_sum = 32768 * most_samples

-- ---- a quotient

not_none : (b w u d : ℕ) → 0 < b → 0 < w → 0 * u * d ≡ b * w → ⊥
not_none b w u d B D e = let p : 0 < b * w = mul-pos B D in let z : 0 * u * d ≡ 0 = simp zero-mul in omega (arith, e, z, p)

same : (s : Bool) → unlike s false ≡ s
same true = refl
same false = refl

-- x / w over y / z is a / c over b / d, where x / w is a / c and y / z is b / d
cross : (x w y z a c b d : ℕ) → x * c ≡ a * w → y * d ≡ b * z → x * z * (c * b) ≡ a * d * (y * w)
cross x w y z a c b d h k =
    mul-mul-mul_comm x z c b
    ∙ ap (λ (t : ℕ). t * (z * b)) h
    ∙ ap (λ (t : ℕ). a * w * t) (mul_comm z b ∙ sym k)
    ∙ mul-mul-mul_comm a w y d
    ∙ ap (λ (t : ℕ). a * y * t) (mul_comm w d)
    ∙ mul-mul-mul_comm a y d w

-- of two finite values, by any fractions that they equal
div_at : (s : Bool) (x y : Float) (a c b d : ℕ) → 0 < c → 0 < d → 0 < b → HasValue x s a c → HasValue y false b d → div binary32 x y ≡ round binary32 s (a * d) (c * b)
unfolding div
div_at s nan y a c b d C D B h k = absurd h
div_at s (inf t) y a c b d C D B h k = absurd h
div_at s (fin t m e) nan a c b d C D B h k = absurd k
div_at s (fin t m e) (inf u) a c b d C D B h k = absurd k
div_at s (fin t m e) (fin u n g) a c b d C D B h k =
    let nz : n ≡ 0 → ⊥ = λ z. not_none b (down g) (up g) d B (down_pos g) (subst (λ (v : ℕ). v * up g * d ≡ b * down g) z k.1) in
    let np : 0 < n = omega arith in
    ap (λ (v : Bool). cond v (cond (eqb m 0) nan (inf (unlike t u))) (round binary32 (unlike t u) (m * up e * down g) (n * up g * down e))) (ne_eqb n 0 nz)
    ∙ ap (λ (v : Bool). round binary32 (unlike t v) (m * up e * down g) (n * up g * down e)) k.0
    ∙ ap (λ (v : Bool). round binary32 v (m * up e * down g) (n * up g * down e)) (same t ∙ h.0)
    ∙ round_same binary32 s (m * up e * down g) (n * up g * down e) (a * d) (c * b) (mul-pos (mul-pos np (up_pos g)) (down_pos e)) (mul-pos C B)
    (cross (m * up e) (down e) (n * up g) (down g) a c b d h.1 k.1)

-- a whole number of up to 24 binary digits over a power of two up to 256
quotient : (s : Bool) (a k : ℕ) → a ≤ most_sum → k ≤ most_doublings → HasValue (div binary32 (round binary32 s a 1) (round binary32 false (2 ^ k) 1)) s a (2 ^ k)
quotient s a k A K =
    let small : a < 2 ^ 24 = omega arith in
    let k24 : k ≤ 24 = omega arith in
    let pow : 2 ^ k ≤ 2 ^ 24 = pow_mono k24 in
    let room : 24 + (149 - k) ≤ 277 = omega arith in
    let fine : a * 2 ^ (149 - k) < 2 ^ 277 = lt_of_lt_of_le (shl_lt 24 (149 - k) small) (pow_mono room) in
    let even : a * 2 ^ 149 ≡ a * 2 ^ (149 - k) * 2 ^ k = ap (λ (t : ℕ). a * t) (ap (λ (t : ℕ). 2 ^ t) (sym (back 149 k (omega arith))) ∙ pow-add 2 (149 - k) k) ∙ sym (mul_assoc a (2 ^ (149 - k)) (2 ^ k)) in
    subst (λ (x : Float). HasValue x s a (2 ^ k))
    (sym (div_at s (round binary32 s a 1) (round binary32 false (2 ^ k) 1) a 1 (2 ^ k) 1 (zero-lt-suc 0) (zero-lt-suc 0) (pow_pos k) (round_whole binary32 s a (omega arith)) (round_whole binary32 false (2 ^ k) pow)
    ∙ ap (λ (t : ℕ). round binary32 s t (1 * 2 ^ k)) (mul-one a)
    ∙ ap (λ (t : ℕ). round binary32 s a t) (one-mul (2 ^ k))))
    (round_exact binary32 s a (2 ^ k) a (149 - k) (pow_pos k) small fine even)

-- ---- a sum of two whole numbers

scaled : (a b d : ℕ) → 0 < d → ltb (a * d) (b * d) ≡ ltb a b
scaled a b d D =
    by_bool (ltb a b)
    (λ e. rw e (lt-ltb (a * d) (b * d) (mul-lt-mul_of_pos_right (ltb-true a b e) D)))
    (λ e. rw e (le-ltb (a * d) (b * d) (mul-le-mul_right d (ltb-false a b e))))

sub_mul : (a b d : ℕ) → (a - b) * d ≡ a * d - b * d
sub_mul a b d = mul_comm (a - b) d ∙ mul-sub d a b ∙ rw (mul_comm d a, mul_comm d b)

-- two fractions by one denominator
joined : (s t : Bool) (a b d : ℕ) → 0 < d
    → sum binary32 s (a * d) t (b * d) d ≡ cond (beq s t) (round binary32 s (a + b) 1) (cond (ltb a b) (round binary32 t (b - a) 1) (round binary32 (s && ltb b a) (a - b) 1))
unfolding sum
joined s t a b d D =
    let plain : (u : Bool) (x y : ℕ) → x ≡ y * d → round binary32 u x d ≡ round binary32 u y 1 = λ u x y e. round_same binary32 u x d y 1 D (zero-lt-suc 0) (mul-one x ∙ e) in
    rw (
      scaled a b d D,
      scaled b a d D,
      plain s (a * d + b * d) (a + b) (sym (add-mul a b d)),
      plain t (b * d - a * d) (b - a) (sym (sub_mul b a d)),
      plain (s && ltb b a) (a * d - b * d) (a - b) (sym (sub_mul a b d)),
    )

-- of two floats that are whole numbers
add_at : (s t : Bool) (x y : Float) (a b : ℕ) → HasValue x s a 1 → HasValue y t b 1
    → add binary32 x y ≡ cond (beq s t) (round binary32 s (a + b) 1) (cond (ltb a b) (round binary32 t (b - a) 1) (round binary32 (s && ltb b a) (a - b) 1))
unfolding add
add_at s t nan y a b h k = absurd h
add_at s t (inf u) y a b h k = absurd h
add_at s t (fin u m e) nan a b h k = absurd k
add_at s t (fin u m e) (inf v) a b h k = absurd k
add_at s t (fin u m e) (fin v n g) a b h k =
    let p : m * up e * down g ≡ a * (down e * down g) = ap (λ (z : ℕ). z * down g) (sym (mul-one (m * up e)) ∙ h.1) ∙ mul_assoc a (down e) (down g) in
    let q : n * up g * down e ≡ b * (down e * down g) = ap (λ (z : ℕ). z * down e) (sym (mul-one (n * up g)) ∙ k.1) ∙ mul_assoc b (down g) (down e) ∙ ap (λ (z : ℕ). b * z) (mul_comm (down g) (down e)) in
    rw (p, q, h.0, k.0) (joined s t a b (down e * down g) (mul-pos (down_pos e) (down_pos g)))

-- a sum of whole numbers that the format counts without a gap is the whole-number sum, and plus zero where that is 0
pub add_whole : (y z : ℤ) → nat_abs y ≤ 2 ^ 24 → nat_abs z ≤ 2 ^ 24 → add binary32 (of_int binary32 y) (of_int binary32 z) ≡ of_int binary32 (y +ℤ z)
unfolding of_int
add_whole (pos a) (pos b) g h = add_at false false _ _ a b (round_whole binary32 false a g) (round_whole binary32 false b h)
add_whole (pos a) (negsuc b) g h =
    add_at false true _ _ a (suc b) (round_whole binary32 false a g) (round_whole binary32 true (suc b) h)
    ∙ by_bool (ltb a (suc b)) (λ e. let l = ltb-true a (suc b) e in let z : suc b - a ≡ suc (suc b - suc a) = omega arith in rw (e, z)) (λ e. rw e)
add_whole (negsuc a) (pos b) g h =
    add_at true false _ _ (suc a) b (round_whole binary32 true (suc a) g) (round_whole binary32 false b h)
    ∙ by_bool (ltb b (suc a)) (λ e. let l = ltb-true b (suc a) e in let z : suc a - b ≡ suc (suc a - suc b) = omega arith in rw (e, le-ltb (suc a) b (omega arith), z))
    (λ e. let l = ltb-false b (suc a) e in by_bool (ltb (suc a) b) (λ d. rw (e, d)) (λ d. let k = ltb-false (suc a) b d in let z : b ≡ suc a = omega arith in rw (e, d, z)))
add_whole (negsuc a) (negsuc b) g h =
    add_at true true _ _ (suc a) (suc b) (round_whole binary32 true (suc a) g) (round_whole binary32 true (suc b) h)
    ∙ let z : suc a + suc b ≡ suc (suc (a + b)) = omega arith in rw z

-- ---- samples

abs_add : (y z : ℤ) → nat_abs (y +ℤ z) ≤ nat_abs y + nat_abs z
abs_add (pos a) (pos b) = omega arith
abs_add (pos a) (negsuc b) = apart a (suc b)
  where
    apart : (a b : ℕ) → nat_abs (cond (ltb a b) (negsuc (b - suc a)) (pos (a - b))) ≤ a + b
    apart a b = by_cond (λ (z : ℤ). nat_abs z ≤ a + b) (ltb a b) (λ e. let l = ltb-true a b e in omega arith) (λ e. omega arith)
abs_add (negsuc a) (pos b) = apart a b
  where
    apart : (a b : ℕ) → nat_abs (cond (ltb b (suc a)) (negsuc (suc a - suc b)) (pos (b - suc a))) ≤ suc a + b
    apart a b = by_cond (λ (z : ℤ). nat_abs z ≤ suc a + b) (ltb b (suc a)) (λ e. let l = ltb-true b (suc a) e in omega arith) (λ e. omega arith)
abs_add (negsuc a) (negsuc b) = omega arith

pub signed_most : (w : ℕ) → nat_abs (signed_of w) ≤ 32768
unfolding signed_of
signed_most w = by_cond (λ (z : ℤ). nat_abs z ≤ 32768) (ltb w 32768) (λ e. let l = ltb-true w 32768 e in omega arith) (λ e. let l = ltb-false w 32768 e in omega arith)

pub sum_most : (ws : List ℕ) → nat_abs (sum_of ws) ≤ 32768 * length ws
unfolding sum_of
sum_most [] = omega arith
sum_most (w ∷ ws) = omega (arith, abs_add (signed_of w) (sum_of ws), signed_most w, sum_most ws)

-- one sample more
pub sum_more : (ws : List ℕ) (w : ℕ) → sum_of (ws ++ (w ∷ [])) ≡ sum_of ws +ℤ signed_of w
unfolding sum_of
sum_more [] w = +ℤ_idr (signed_of w) ∙ sym (+ℤ_idl (signed_of w))
sum_more (x ∷ ws) w = ap (λ (z : ℤ). signed_of x +ℤ z) (sum_more ws w) ∙ sym (+ℤ_assoc (signed_of x) (sum_of ws) (signed_of w))

-- ---- the number of samples

pub first_passes : (f : ℕ → Bool) (p k : ℕ) → first_of f p k < p + k → f (first_of f p k) ≡ true
unfolding first_of
first_passes f p zero h = absurd (omega arith)
first_passes f p (suc k) h = go (f p) refl h (first_passes f (suc p) k)
  where
    go : (b : Bool) → f p ≡ b → cond b p (first_of f (suc p) k) < p + suc k → (first_of f (suc p) k < suc p + k → f (first_of f (suc p) k) ≡ true)
        → f (cond b p (first_of f (suc p) k)) ≡ true
    go true e l next = e
    go false e l next = next (omega arith)

pub record Power (n : ℕ) : Type 0 where
  pub doublings : ℕ
  pub small : doublings ≤ most_doublings
  pub is : n ≡ 2 ^ doublings

pub power : (n : ℕ) → is_power n ≡ true → Power n
unfolding is_power doublings_of
power n e =
    let h = leb-true (doublings_of n) most_doublings e in
    record { doublings = doublings_of n; small = h; is = eqb-true n _ (first_passes (λ k. eqb n (2 ^ k)) 0 (suc most_doublings) (omega arith)) }

-- ---- THE LAW: the mean of n samples times n is their whole-number sum, exactly, and plus zero where that is 0

quotient_exact : (z : ℤ) (n : ℕ) → nat_abs z ≤ most_sum → Power n → MeanIs (div binary32 (of_int binary32 z) (of_int binary32 (pos n))) z n
unfolding of_int
quotient_exact (pos a) n h p = subst (λ (m : ℕ). HasValue (div binary32 (round binary32 false a 1) (round binary32 false m 1)) false a m) (sym p.is) (quotient false a p.doublings h p.small)
quotient_exact (negsuc a) n h p = subst (λ (m : ℕ). HasValue (div binary32 (round binary32 true (suc a) 1) (round binary32 false m 1)) true (suc a) m) (sym p.is) (quotient true (suc a) p.doublings h p.small)

pub power_most : (n : ℕ) → Power n → n ≤ most_samples
power_most n p = rw p.is (pow_mono p.small)

pub mean_exact : (n : ℕ) (ws : List ℕ) → is_power n ≡ true → length ws ≤ n → MeanIs (mean_of n ws) (sum_of ws) n
unfolding mean_of
mean_exact n ws e l = let p = power n e in quotient_exact (sum_of ws) n (omega (arith, sum_most ws, power_most n p)) p

-- so it is a number
value-number : (x : Float) (z : ℤ) (n : ℕ) → MeanIs x z n → T (not (is_nan x))
unfolding is_nan
value-number nan (pos a) n h = h
value-number nan (negsuc a) n h = h
value-number (inf s) z n h = tt
value-number (fin s m e) z n h = tt

pub mean_number : (n : ℕ) (ws : List ℕ) → is_power n ≡ true → length ws ≤ n → T (not (is_nan (mean_of n ws)))
mean_number n ws e l = value-number (mean_of n ws) (sum_of ws) n (mean_exact n ws e l)
