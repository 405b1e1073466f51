-- `calculations::scan_by` meets its contract. Assumes nothing.
use mathlib.Core.Path.{ap, ◌∙◌}
use Rattle.std.proofs.Common.{arith}
use Rattle.std.proofs.lemmas.Grind.{common_steps}
use Rattle.std.specs.Prelude.{Ok}
use Rattle.chars.proofs.PutLaws.{put-none}
use Rattle.model.specs.Command.{calculations_code}
use Rattle.model.specs.Config.{within}
use Rattle.model.specs.Scan.{counts, with_no_data}
use Rattle.model.specs.Calculations.{calculations_of}
use Rattle.model.specs.declared.command.CalculationsCommand.{CalculationsCommand}
use Rattle.frames.proofs.Named.{named, unnamed}
use Rattle.calculations.proofs.scan_by.Goals as goal

pub returns-then-not-is_empty : goal.returns-then-not-is_empty
unfolding calculations_of with_no_data counts
returns-then-not-is_empty c =
    let code = named calculations_code c.args.frame.command (c.in-Ok-All.is ∙ ap Ok c.in-Ok-All.field-0-is) c.try_from.ensures in
    grind (arith, common_steps, put-none)

pub returns-then-not-contains : goal.returns-then-not-contains
unfolding calculations_of within
returns-then-not-contains c =
    let code = named calculations_code c.args.frame.command (c.in-Ok-Asked.is ∙ ap Ok c.in-Ok-Asked.field-0-is) c.try_from.ensures in
    grind (arith, common_steps, put-none)

pub returns-else-not-is_empty : goal.returns-else-not-is_empty
unfolding calculations_of with_no_data counts
returns-else-not-is_empty c =
    let code = named calculations_code c.args.frame.command (c.in-Ok-All.is ∙ ap Ok c.in-Ok-All.field-0-is) c.try_from.ensures in
    grind (arith, common_steps)

pub returns-else-not-contains : goal.returns-else-not-contains
unfolding calculations_of within
returns-else-not-contains c =
    let code = named calculations_code c.args.frame.command (c.in-Ok-Asked.is ∙ ap Ok c.in-Ok-Asked.field-0-is) c.try_from.ensures in
    grind (arith, common_steps)

pub returns-in-Err : goal.returns-in-Err
unfolding calculations_of
returns-in-Err c =
    let none = unnamed calculations_code c.args.frame.command c.in-Err.is c.try_from.ensures in
    let a = none CalculationsCommand.All in
    let b = none CalculationsCommand.Asked in
    grind (arith, common_steps, put-none)
