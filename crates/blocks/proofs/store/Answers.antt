-- `blocks::store` meets its contract: what was written is the run that the definition puts.
use Rattle.std.proofs.Common.{rules}
use mathlib.Core.Path.{◌≡◌, ap, ◌∙◌}
use Rattle.std.specs.Prelude.{Some}
use Rattle.blocks.specs.Places.{place_of_block}
use Rattle.blocks.proofs.AnswerLaws.{judged_as, not-stored, stored-block, stored-fixed}
use Rattle.blocks.proofs.BlockLaws.{lies_fixed, lies_apart, lies_nowhere}
use Rattle.blocks.proofs.store.Goals as goal
use Rattle.blocks.proofs.store.Goals.{in-Fixed, in-Parameters}

pub returns-in_default : goal.returns-in_default
returns-in_default c =
    let place : place_of_block c.args.ordinal.0 ≡ c.place_of_block.result = search rules in
    not-stored _ _ _ _ _ _ (lies_nowhere _ _ _ _ _ (place ∙ c.in_default.is)) c.not_executed.ensures

pub returns-then-not-reaches : goal.returns-then-not-reaches
returns-then-not-reaches c =
    let out = judged_as _ _ _ _ _ _ _ _ c.fixed_of.ensures c.reaches.ensures c.if-not-reaches.true in
    not-stored _ _ _ _ _ _ out c.not_executed-then-not-reaches.ensures

pub returns : goal.returns
returns c =
    let in_block = judged_as _ _ _ _ _ _ _ _ c.fixed_of.ensures c.reaches.ensures c.if-not-reaches.false in
    let known : place_of_block c.args.ordinal.0 ≡ c.place_of_block.result = search rules in
    let place = known ∙ c.in-Some.is in
    elim c.match-place.branch [
      | in-Fixed w ↦
          let lies = lies_fixed _ _ _ (place ∙ ap Some w.in-Fixed.is) in
          rw (w.unit-is, w.block-is)
          (stored-fixed _ _ _ _ _ _ _ _ in_block lies.0 lies.1 (rw c.from-bias.ensures at w.put_fixed.ensures) c.accepted.ensures)
      | in-Parameters w ↦
          let lies = lies_apart _ (place ∙ ap Some w.in-Parameters.is) in
          rw (w.unit-is, w.block-is)
          (stored-block _ _ _ _ _ _ _ in_block lies (rw c.from-bias.ensures at w.copy.ensures) c.accepted.ensures)
    ]
