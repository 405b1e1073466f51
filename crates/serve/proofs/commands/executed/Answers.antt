-- `serve::commands::executed` meets its contract. Assumes nothing.
use mathlib.Core.Path.{◌≡◌, subst}
use mathlib.Core.Bool.{false, cond}
use Rattle.std.proofs.Common.{arith}
use Rattle.std.proofs.lemmas.Grind.{common_steps}
use Rattle.model.specs.Step.{with_configure, with_error}
use Rattle.model.specs.declared.Core.{Core}
use Rattle.layout.specs.Numbers.{core_in, memory_in, port_in, Written}
use Rattle.layout.proofs.NumbersLaws.{readable-written}
use Rattle.layout.proofs.PlaceLaws.{configure_written, error_written}
use Rattle.layout.specs.Unit.{numbers_in}
use Rattle.layout.proofs.UnitLaws.{numbers-left, numbers_only, numbers_on}
use Rattle.serve.proofs.commands.executed.Goals as goal

pub returns : goal.returns
returns c =
    let ks = numbers_in c.args.unit.now in
    let configure : c.if-configure_in.configure ≡ cond c.args.done.configures false (core_in ks).configure = grind (arith, common_steps) in
    let error : c.if-error_in.error ≡ cond c.args.done.clears false (core_in ks).error = grind (arith, common_steps) in
    let one = c.keep_configure.ensures in
    let two = c.keep_error.ensures in
    record {
      value = c.from.ensures;
      numbers_promise = (
        λ stands.
            subst (λ (k : Core). Written k (memory_in ks) (port_in ks) (numbers_in c.keep_error.new.unit)) (λ i. with_error (with_configure (core_in ks) (configure i)) (error i))
            (error_written (configure_written (readable-written ks stands) (numbers-left _ _ one)) (numbers-left _ _ two)),
        numbers_on _ _ _ (numbers_only _ _ one) (numbers_only _ _ two),
      );
    }
