-- A memory cut into regions of given sizes, one after the other.
use Rattle.std.specs.Prelude.{ℕ, zero, suc, ◌+◌, List, [], ◌∷◌, take, drop}

-- where region k starts
unfoldable pub start_in : List ℕ → ℕ → ℕ
start_in [] k = 0
start_in (n ∷ ns) zero = 0
start_in (n ∷ ns) (suc k) = n + start_in ns k

-- the characters of region k
unfoldable pub region_in : List ℕ → List ℕ → ℕ → List ℕ
region_in [] u k = []
region_in (n ∷ ns) u zero = take n u
region_in (n ∷ ns) u (suc k) = region_in ns (drop n u) k

-- all regions as they were, but region k
unfoldable pub set_at : (ℕ → List ℕ) → ℕ → List ℕ → ℕ → List ℕ
set_at r zero x zero = x
set_at r zero x (suc j) = r (suc j)
set_at r (suc k) x zero = r zero
set_at r (suc k) x (suc j) = set_at (λ i. r (suc i)) k x j
