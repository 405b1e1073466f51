-- What the two functions leave is the definition's port after the same event. Assumes nothing.
use mathlib.Core.Path.{◌≡◌, refl}
use Prim.Native.Nat.{ℕ}
use native.Mathlib.Omega.{arith}
use mathlib.Core.List.{List, [], ◌∷◌}
use mathlib.Core.Bool.{false}
use lib.ListN.{length}
use lib.Dec.{eqb}
use borrow.Author.Tests.{ne_eqb}
use Rattle.model.specs.Event.{Stretch, stretch, elapsed}
use Rattle.model.specs.Port.{silent_after, port_heard, port_after}
use Rattle.model.specs.declared.Outcome.{Outcome}
use Rattle.model.specs.declared.Answer.{Answer}
use Rattle.model.specs.declared.Answer.TheVariants.{Ended}
use Rattle.model.specs.declared.Port.{Port}
use Rattle.port.specs.Heard.{port_heard_by}

-- after an elapsed time (Frames 13)
pub waited_after : (p : Port) (ms : ℕ) (a : Answer) → silent_after p ms ≡ port_after p (elapsed ms) a
unfolding port_after
waited_after p ms a = refl

-- by the length as by the characters
pub heard_as : (p : Port) (s : List ℕ) (o : Outcome) → port_heard_by p (length s) o ≡ port_heard p s o
unfolding port_heard_by port_heard
heard_as p [] o = refl
heard_as p (x ∷ s) o =
    let z : eqb (length (x ∷ s)) 0 ≡ false = ne_eqb (length (x ∷ s)) 0 (λ w. omega arith) in
    rw z

-- after a stretch with this outcome (Frames 13 to 16)
pub heard-after : (p : Port) (t : Stretch) (o : Outcome) → port_heard_by p (length t.chars) o ≡ port_after p (stretch t) (Ended o)
unfolding port_after
heard-after p t o = heard_as p t.chars o
