-- An answer whose data fit a reply, at most 511 characters: how that is shown case by case.
-- Assumes nothing.
use Rattle.std.proofs.Common.{◌≡◌, ◌≤◌, Bool, true, false, cond, length, refl, zero-le}
use Rattle.model.specs.Limits.{most_data}
use Rattle.model.specs.Frame.{Request}
use Rattle.model.specs.Scan.{Scan, counts, with_no_data}

abbrev pub Fits : Scan → Type 0
Fits m = length m.chars ≤ most_data

pub either : (b : Bool) (m n : Scan) → (b ≡ true → Fits m) → (b ≡ false → Fits n) → Fits (cond b m n)
either true m n f g = f refl
either false m n f g = g refl

pub no_data_fits : (q : Request) (m : Scan) → Fits m → Fits (with_no_data q m)
unfolding with_no_data
no_data_fits q m h = either (counts 0 q) _ _ (λ e. h) (λ e. zero-le)
