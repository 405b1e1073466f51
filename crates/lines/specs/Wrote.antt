-- Characters written one run after the other, as far as there is room.
use Rattle.std.specs.Prelude.{◌≡◌, ℕ, ◌+◌, ◌-◌, min, List, length}
use Rattle.chars.specs.Put.{put}
use Rattle.lines.specs.declared.Page.{Page}

-- ys was written over the buffer r₀ from index `at` on: it is r now, and the next character goes to index `to`
pub record Wrote (r₀ : List ℕ) (at : ℕ) (ys r : List ℕ) (to : ℕ) : Type 0 where
  pub chars : r ≡ put r₀ at ys
  pub place : to ≡ at + min (length ys) (length r₀ - at)

-- ys was written on a page, whose memory is the same that it was
pub record Adds (old new : Page) (ys : List ℕ) : Type 0 where
  pub same : new.out.ghost_name ≡ old.out.ghost_name
  pub wrote : Wrote old.out.now old.at ys new.out.now new.at
