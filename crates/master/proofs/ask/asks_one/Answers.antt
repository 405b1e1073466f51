-- `master::ask::asks_one` meets its contract: a code of no function asks nothing.
use Rattle.std.proofs.Common.{arith}
use Rattle.std.proofs.lemmas.Grind.{common_steps}
use Rattle.model.specs.Ask.{asks_one}
use Rattle.model.specs.Function.{code_of}
use Rattle.model.specs.declared.function.Function.TheVariants.{Inputs, Calculations, History, Tables, Control, Internal, Return}
use Rattle.frames.proofs.Named.{unnamed}
use Rattle.master.proofs.ask.asks_one.Goals as goal

pub returns-in-Err : goal.returns-in-Err
unfolding asks_one
returns-in-Err c =
    let m = unnamed code_of c.args.frame.function c.in-Err.is c.try_from.ensures in
    let a = m Inputs in
    let b = m Calculations in
    let d = m History in
    let e = m Tables in
    let f = m Control in
    let g = m Internal in
    let h = m Return in
    grind (arith, common_steps)
