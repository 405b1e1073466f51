-- A run written into one region leaves every other region as it was: once, for all sizes and all pairs.
use Rattle.std.specs.Prelude.{◌≡◌, ℕ, zero, suc, ◌+◌, ◌<◌, ◌≤◌, List, [], ◌∷◌, length, get_or, take, drop}
use mathlib.Core.Path.{refl, sym, ap, ◌∙◌}
use native.Mathlib.Omega.{arith}
use lib.ListN.{length-take}
use lib.Seq.{drop-drop, get_or-drop}
use Rattle.chars.specs.Put.{put, part}
use Rattle.chars.proofs.PutLaws.{take_put, drop-put, drop-put_in, length_part, put-own}
use Rattle.layout.specs.Regions.{start_in, region_in, set_at}

-- a front of what was written to
pub take-put_in : (n : ℕ) (xs : List ℕ) (at : ℕ) (ys : List ℕ) → take n (put xs at ys) ≡ put (take n xs) at ys
unfolding put
take-put_in zero xs at ys = refl
take-put_in (suc n) [] at ys = refl
take-put_in (suc n) (x ∷ xs) zero [] = refl
take-put_in (suc n) (x ∷ xs) zero (y ∷ ys) = ap (λ (l : List ℕ). y ∷ l) (take-put_in n xs zero ys)
take-put_in (suc n) (x ∷ xs) (suc at) ys = ap (λ (l : List ℕ). x ∷ l) (take-put_in n xs at ys)

put_nil : (at : ℕ) (ys : List ℕ) → put [] at ys ≡ []
unfolding put
put_nil at ys = refl

get_d_take : (u : List ℕ) (n i : ℕ) → i < n → get_or (take n u) i 0 ≡ get_or u i 0
get_d_take u zero i h = absurd (omega arith)
get_d_take [] (suc n) i h = refl
get_d_take (x ∷ u) (suc n) zero h = refl
get_d_take (x ∷ u) (suc n) (suc i) h = get_d_take u n i (omega arith)

pub region_put : (ns u : List ℕ) (k i : ℕ) (ys : List ℕ) → i + length ys ≤ get_or ns k 0 → (j : ℕ)
    → region_in ns (put u (start_in ns k + i) ys) j ≡ set_at (region_in ns u) k (put (region_in ns u k) i ys) j
unfolding start_in region_in set_at
region_put [] u zero i ys h zero = sym (put_nil i ys)
region_put [] u zero i ys h (suc j) = refl
region_put [] u (suc k) i ys h zero = refl
region_put [] u (suc k) i ys h (suc j) = region_put [] u k i ys h j
region_put (n ∷ ns) u zero i ys h zero = ap (λ (a : ℕ). take n (put u a ys)) (omega arith) ∙ take-put_in n u i ys
region_put (n ∷ ns) u zero i ys h (suc j) = ap (λ (l : List ℕ). region_in ns l j) (drop-put n u (0 + i) ys (omega arith))
region_put (n ∷ ns) u (suc k) i ys h zero = take_put n u (n + start_in ns k + i) ys (omega arith)
region_put (n ∷ ns) u (suc k) i ys h (suc j) =
    ap (λ (l : List ℕ). region_in ns l j) (drop-put_in n u (n + start_in ns k + i) ys (omega arith) ∙ ap (λ (a : ℕ). put (drop n u) a ys) (omega arith))
    ∙ region_put ns (drop n u) k i ys h j

-- the same of all regions at once
pub regions_put : (ns u : List ℕ) (k i : ℕ) (ys : List ℕ) → i + length ys ≤ get_or ns k 0
    → region_in ns (put u (start_in ns k + i) ys) ≡ set_at (region_in ns u) k (put (region_in ns u k) i ys)
regions_put ns u k i ys h = λ x j. region_put ns u k i ys h j x

-- where a region's characters stand
pub region_part : (ns u : List ℕ) (k : ℕ) → k < length ns → region_in ns u k ≡ part u (start_in ns k) (get_or ns k 0)
unfolding start_in region_in part
region_part [] u k h = absurd (omega arith)
region_part (n ∷ ns) u zero h = refl
region_part (n ∷ ns) u (suc k) h =
    region_part ns (drop n u) k (omega arith) ∙ ap (take (get_or ns k 0)) (drop-drop (start_in ns k) n u)

-- a character of a region
pub region_at : (ns u : List ℕ) (k i : ℕ) → i < get_or ns k 0 → get_or (region_in ns u k) i 0 ≡ get_or u (start_in ns k + i) 0
unfolding start_in region_in
region_at [] u k i h = absurd (omega arith)
region_at (n ∷ ns) u zero i h = get_d_take u n i h ∙ ap (λ (a : ℕ). get_or u a 0) (omega arith)
region_at (n ∷ ns) u (suc k) i h = region_at ns (drop n u) k i h ∙ get_or-drop n u (start_in ns k + i) 0 ∙ ap (λ (a : ℕ). get_or u a 0) (omega arith)

get_d_take-past : (u : List ℕ) (n i : ℕ) → n ≤ i → get_or (take n u) i 0 ≡ 0
get_d_take-past u zero i h = refl
get_d_take-past [] (suc n) i h = refl
get_d_take-past (x ∷ u) (suc n) zero h = absurd (omega arith)
get_d_take-past (x ∷ u) (suc n) (suc i) h = get_d_take-past u n i (omega arith)

-- past a region's end there is none
pub region_past : (ns u : List ℕ) (k i : ℕ) → get_or ns k 0 ≤ i → get_or (region_in ns u k) i 0 ≡ 0
unfolding region_in
region_past [] u k i h = refl
region_past (n ∷ ns) u zero i h = get_d_take-past u n i h
region_past (n ∷ ns) u (suc k) i h = region_past ns (drop n u) k i h

-- a region is as long as it is to be, where the memory reaches
pub region_long : (ns u : List ℕ) (k : ℕ) → k < length ns → start_in ns k + get_or ns k 0 ≤ length u → length (region_in ns u k) ≡ get_or ns k 0
region_long ns u k h l = ap length (region_part ns u k h) ∙ length_part u (start_in ns k) (get_or ns k 0) l

region_inside : (ns : List ℕ) (k : ℕ) → k < length ns → start_in ns k + get_or ns k 0 ≤ start_in ns (length ns)
unfolding start_in
region_inside [] k h = absurd (omega arith)
region_inside (n ∷ ns) zero h = omega arith
region_inside (n ∷ ns) (suc k) h = omega (arith, region_inside ns k (omega arith))

pub region_whole : (ns u : List ℕ) (k : ℕ) → k < length ns → length u ≡ start_in ns (length ns) → length (region_in ns u k) ≡ get_or ns k 0
region_whole ns u k h e = region_long ns u k h (omega (arith, region_inside ns k h))

-- a region's own characters written again leave the memory
pub region_own : (ns u : List ℕ) (k : ℕ) → k < length ns → put u (start_in ns k) (region_in ns u k) ≡ u
region_own ns u k h = ap (put u (start_in ns k)) (region_part ns u k h) ∙ put-own u (start_in ns k) (get_or ns k 0)

pub region_most : (ns u : List ℕ) (k : ℕ) → length (region_in ns u k) ≤ get_or ns k 0
unfolding region_in
region_most [] u k = omega arith
region_most (n ∷ ns) u zero = simp length-take (omega arith)
region_most (n ∷ ns) u (suc k) = region_most ns (drop n u) k
