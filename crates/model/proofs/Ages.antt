-- What an age after some time says of the test behind it. Assumes nothing.
use mathlib.Core.Path.{◌≡◌, refl}
use Prim.Native.Nat.{ℕ, ◌+◌}
use mathlib.Core.Bool.{Bool, true, false, cond}
use native.Mathlib.Omega.{arith}
use Rattle.model.specs.Control.{lives, aged_of}
use Rattle.std.specs.Prelude.{None, Some}

came : (b : Bool) (m n : ℕ) → cond b (Some m) None ≡ Some n → (b ≡ true) × (n ≡ m)
came true m n e = (refl, cc)
came false m n e = absurd (let z : ◌≡◌ {A = ℕ} 0 1 = cc in omega arith)

gone : (b : Bool) (m : ℕ) → cond b (Some m) None ≡ None → b ≡ false
gone true m e = absurd (let z : ◌≡◌ {A = ℕ} 0 1 = cc in omega arith)
gone false m e = refl

pub aged_lives : (age ms n : ℕ) → aged_of age ms ≡ Some n → (lives age ms ≡ true) × (n ≡ age + ms)
unfolding aged_of
aged_lives age ms n e = came (lives age ms) (age + ms) n e

pub aged_over : (age ms : ℕ) → aged_of age ms ≡ None → lives age ms ≡ false
unfolding aged_of
aged_over age ms e = gone (lives age ms) (age + ms) e
