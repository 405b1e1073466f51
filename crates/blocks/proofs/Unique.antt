-- Two ends of a call that meet its contract are equal: what each public function promises says everything. Assumes nothing.
use mathlib.Core.Path.{◌≡◌, sym, ap, ◌∙◌}
use Rattle.chars.specs.One.{One}
use Prim.Native.Nat.{ℕ}
use mathlib.Core.Bool.{Bool}
use mathlib.Core.List.{List}
use Rattle.model.specs.Blocks as definition
use Rattle.model.specs.declared.Outcome.{Outcome}
use Rattle.std.specs.Prelude.{Option}
use Rattle.model.specs.declared.Write.{Write}
use Rattle.blocks.specs.Answers.{WritesAs, ExecutesAs}
use Rattle.blocks.specs.declared.Written.{Written}
use Rattle.blocks.specs.declared.Executed.{Executed}
use Rattle.model.proofs.Unique.{one_fill}
use Rattle.blocks.proofs.find.Reads as find
use Rattle.blocks.proofs.reaches.Reads as reaches
use Rattle.blocks.proofs.write.Reads as write
use Rattle.blocks.proofs.waits_after.Reads as waits-after
use Rattle.blocks.proofs.execute.Reads as execute
use Rattle.blocks.proofs.read.Reads as read

-- write
one_written : (m : definition.WriteResult) (r s : Written) → WritesAs m r → WritesAs m s → r ≡ s
one_written m r s a b = ap (λ (o : Outcome). made o r.write) (a.ended ∙ sym b.ended) ∙ ap (made s.outcome) (a.waiting ∙ sym b.waiting)
  where
    made : Outcome → Option Write → Written
    made o w = record { outcome = o; write = w }

-- execute
one-executed : (u : List ℕ) (m : definition.Executed) (v block v' block' : List ℕ) (r s : Executed)
    → ExecutesAs u m v block r → ExecutesAs u m v' block' s
    → (r ≡ s) × (v ≡ v') × (block ≡ block')
one-executed u m v block v' block' r s a b = (
  ap (λ (o : Outcome). made o r.configures r.clears) (a.ended ∙ sym b.ended)
      ∙ ap (λ (t : Bool). made s.outcome t r.clears) (a.configured ∙ sym b.configured)
      ∙ ap (made s.outcome s.configures) (a.cleared ∙ sym b.cleared),
  a.left ∙ sym b.left,
  a.block-left ∙ sym b.block-left,
)
  where
    made : Outcome → Bool → Bool → Executed
    made o t c = record { outcome = o; configures = t; clears = c }

pub one_find : One find.Post (λ κ r s. r.now)
one_find κ a x y s t p q = p ∙ sym q

pub one-reaches : One reaches.Post (λ κ r s. r)
one-reaches κ a x y s t p q = p ∙ sym q

pub one-write : One write.Post (λ κ r s. r)
one-write κ a x y s t p q = one_written _ x y p q

pub one-waits-after : One waits-after.Post (λ κ r s. r)
one-waits-after κ a x y s t p q = p ∙ sym q

pub one-execute : One execute.Post (λ κ r s. r)
one-execute κ a x y s t p q = (one-executed _ _ _ _ _ _ x y p q).0

pub one-execute-unit : One execute.Post (λ κ r s. s.1.1.1.0.now)
one-execute-unit κ a x y s t p q = (one-executed _ _ _ _ _ _ x y p q).1

pub one-execute-block : One execute.Post (λ κ r s. s.1.1.1.1.0.now)
one-execute-block κ a x y s t p q = (one-executed _ _ _ _ _ _ x y p q).2

pub one-read : One read.Post (λ κ r s. r)
one-read κ a x y s t p q = (one_fill p q).1

pub one-read-reply : One read.Post (λ κ r s. s.1.1.1.1.0.now)
one-read-reply κ a x y s t p q = (one_fill p q).0
