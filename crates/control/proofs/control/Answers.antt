-- `control::control` meets its contract, an arm for each command.
use Rattle.std.proofs.Common.{arith}
use Rattle.std.proofs.lemmas.Grind.{common_steps}
use Rattle.chars.proofs.PutLaws.{put-none}
use Rattle.model.specs.Scan.{counts}
use Rattle.model.specs.Control.{control_of}
use Rattle.model.specs.Command.{control_code}
use Rattle.model.specs.declared.command.ControlCommand.{ControlCommand}
use Rattle.frames.proofs.Named.{named, unnamed}
use Rattle.control.proofs.RunLaws.{operate_silent, reset-silent}
use Rattle.control.proofs.control.Goals as goal

pub returns-in-Ok-Open : goal.returns-in-Ok-Open
unfolding control_of counts
returns-in-Ok-Open c = let code = named control_code c.args.frame.command c.in-Ok-Open.is c.try_from.ensures in grind (arith, common_steps)

pub returns-in-Ok-Close : goal.returns-in-Ok-Close
unfolding control_of counts
returns-in-Ok-Close c = let code = named control_code c.args.frame.command c.in-Ok-Close.is c.try_from.ensures in grind (arith, common_steps)

pub returns-in-Ok-Operate : goal.returns-in-Ok-Operate
unfolding control_of counts
returns-in-Ok-Operate c = let code = named control_code c.args.frame.command c.in-Ok-Operate.is c.try_from.ensures in grind (arith, common_steps, put-none, operate_silent)

pub returns-in-Ok-Reset : goal.returns-in-Ok-Reset
unfolding control_of counts
returns-in-Ok-Reset c = let code = named control_code c.args.frame.command c.in-Ok-Reset.is c.try_from.ensures in grind (arith, common_steps, put-none, reset-silent)

pub returns-in-Err : goal.returns-in-Err
unfolding control_of counts
returns-in-Err c =
    let none = unnamed control_code c.args.frame.command c.in-Err.is c.try_from.ensures in
    let a = none ControlCommand.Open in
    let b = none ControlCommand.Close in
    let d = none ControlCommand.Operate in
    let e = none ControlCommand.Reset in
    grind (arith, common_steps, put-none)
