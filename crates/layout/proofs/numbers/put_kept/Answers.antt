-- `layout::numbers::put_kept` meets its contract. Assumes nothing.
use mathlib.Core.Path.{sym, ◌∙◌}
use Rattle.std.specs.Prelude.{◌*◌}
use native.Mathlib.Omega.{arith}
use Rattle.chars.specs.Word.{word}
use Rattle.chars.proofs.WordLaws.{length-word}
use Rattle.layout.specs.Regions.{start_in}
use Rattle.layout.specs.Unit.{unit_sizes, numbers_region}
use Rattle.layout.proofs.UnitLaws.{unit-long, put_in_lem, put_out, renumbered_in, renumbered_out}
use Rattle.layout.proofs.numbers.put_kept.Goals as goal

pub returns-then-i-lt26 : goal.returns-then-i-lt26
unfolding start_in unit_sizes
returns-then-i-lt26 c =
    let e = c.put_word.ensures ∙ sym (put_in_lem c.args.unit.now numbers_region (2 * c.args.i) (word c.args.v) (omega (arith, length-word c.args.v))) in
    record { unit_after = e; renumbered = renumbered_in c.args.unit.now _ c.args.i c.args.v (unit-long c.args.unit.now c.put_word-arg-1.given.0.1) c.if-i-lt26.true e }

pub returns-else-i-lt26 : goal.returns-else-i-lt26
unfolding unit_sizes
returns-else-i-lt26 c =
    record {
      unit_after = sym (put_out c.args.unit.now numbers_region (2 * c.args.i) (word c.args.v) (omega (arith, length-word c.args.v)));
      renumbered = renumbered_out c.args.unit.now c.args.i c.args.v c.if-i-lt26.false;
    }
