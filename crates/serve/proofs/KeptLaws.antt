-- What is kept where nothing is changed, and where one change follows another. Assumes nothing.
use mathlib.Core.Path.{◌≡◌, refl, ap, ◌∙◌}
use Prim.Native.Nat.{ℕ}
use mathlib.Core.List.{List}
use lib.ListN.{length}
use Rattle.model.specs.Config.{Config}
use Rattle.model.specs.Change.{stays}
use Rattle.history.specs.Change.{area_after, counts_after}
use Rattle.layout.specs.Unit.{Unit, unit_in, config_in}
use Rattle.serve.specs.Changes.{Shifted}
use Rattle.serve.specs.Promises.{Undropped}

-- nothing is changed
pub still : (c : Config) (area held : List ℕ) → Shifted c stays area held area held
unfolding area_after counts_after
still c area held = record { moved = refl; counted = refl; behind = λ _. refl }

pub steady-same : (u : List ℕ) → Undropped u u
steady-same u = record { steady = record { layout = refl; config = refl; long = refl }; dropped = refl; taken = refl }

pub steady_then : (u v w : List ℕ) → Undropped u v → Undropped v w → Undropped u w
steady_then u v w x y =
    let a = x.steady in
    let b = y.steady in
    record {
      steady = record { layout = b.layout ∙ a.layout; config = b.config ∙ a.config; long = b.long ∙ a.long };
      dropped = y.dropped ∙ x.dropped;
      taken = y.taken ∙ x.taken;
    }

-- a memory that means what it did but in parts that are neither its configuration nor its numbers of drops and samples
pub steady-means : (u v : List ℕ) {m : Unit} → unit_in v ≡ m → m.layout ≡ (unit_in u).layout → m.config ≡ config_in u → m.dropped ≡ (unit_in u).dropped → m.taken ≡ (unit_in u).taken → length v ≡ length u → Undropped u v
steady-means u v e a b d t l =
    record {
      steady = record { layout = ap (λ (x : Unit). x.layout) e ∙ a; config = ap (λ (x : Unit). x.config) e ∙ b; long = l };
      dropped = ap (λ (x : Unit). x.dropped) e ∙ d;
      taken = ap (λ (x : Unit). x.taken) e ∙ t;
    }
