-- `layout::table::none_in` meets its contract: what is joined is 0 where none is equipped. Assumes nothing.
use Rattle.std.proofs.Common.{rules, arith, ℕ, take, drop, eqb, bit_or, ap, ◌∙◌}
use Rattle.std.proofs.lemmas.Iterator.{YieldsList-from_slice}
use Rattle.std.proofs.lemmas.Iterator.Consumers.{fold_from_yields_List}
use Rattle.chars.specs.Put.{part}
use Rattle.model.specs.Config.{none_in}
use Rattle.layout.proofs.JudgedLaws.{joined-none}
use Rattle.layout.proofs.table.none_in.Goals as goal

pub returns : goal.returns
unfolding none_in part
returns c =
    ap (λ (r : ℕ). eqb r 0) (fold_from_yields_List _ bit_or 0 c.fold.result c.fold.ensures.ran (YieldsList-from_slice (part c.args.memory.now c.args.low c.args.n) (c.iter.ensures.rest ∙ ap (λ (k : ℕ). take k (drop c.args.low c.args.memory.now)) (omega arith))) (λ a x b q k. search rules))
    ∙ joined-none 0 (part c.args.memory.now c.args.low c.args.n)
