-- `serve::commands::returned` meets its contract. Assumes nothing.
use native.Mathlib.Omega.{arith}
use mathlib.Core.Path.{refl, ap, ◌∙◌}
use Rattle.model.specs.Frame.{asked}
use Rattle.layout.specs.Numbers.{core_in}
use Rattle.layout.proofs.NumbersLaws.{readable-written}
use Rattle.clock.specs.Times.{time_read_of}
use Rattle.layout.specs.Kept.{inner_by}
use Rattle.std.specs.Prelude.{Ok}
use Rattle.frames.proofs.Named.{named, unnamed}
use Rattle.model.specs.Command.{return_code}
use Rattle.model.specs.declared.command.ReturnCommand.{ReturnCommand}
use Rattle.serve.proofs.CommandLaws.{return_read, return_time, return_unknown, acts_scan, acts-refused}
use Rattle.serve.proofs.TameLaws.{read-tame, time-tame}
use Rattle.serve.proofs.commands.returned.Goals as goal

pub returns-in-Ok-Read : goal.returns-in-Ok-Read
returns-in-Ok-Read c =
    λ ss fs stands.
    let q = asked c.args.frame c.args.body.now in
    let i = inner_by c.args.unit.now c.args.block.now ss fs in
    acts_scan i _ (read-tame _ _ q (omega (arith, c.shared_slice_known-2-1.given 3))) (return_read i q (named return_code c.args.frame.command (c.in-Ok-Read.is ∙ ap Ok c.in-Ok-Read.field-0-is) c.try_from.ensures)) c.read.ensures c.from.ensures (readable-written _ stands) refl

pub returns-in-Ok-ReadTime : goal.returns-in-Ok-ReadTime
unfolding time_read_of core_in
returns-in-Ok-ReadTime c =
    λ ss fs stands.
    let q = asked c.args.frame c.args.body.now in
    let i = inner_by c.args.unit.now c.args.block.now ss fs in
    acts_scan i _ (time-tame _ q) (return_time i q (named return_code c.args.frame.command (c.in-Ok-ReadTime.is ∙ ap Ok c.in-Ok-ReadTime.field-0-is) c.try_from.ensures)) (rw c.requires at (rw c.clock_in.ensures at c.read_time.ensures)) c.from-in-Ok-ReadTime.ensures (readable-written _ stands) refl

pub returns-in-Err : goal.returns-in-Err
returns-in-Err c =
    λ ss fs stands.
    let q = asked c.args.frame c.args.body.now in
    let i = inner_by c.args.unit.now c.args.block.now ss fs in
    acts-refused i (return_unknown i q (unnamed return_code c.args.frame.command c.in-Err.is c.try_from.ensures ReturnCommand.Read) (unnamed return_code c.args.frame.command c.in-Err.is c.try_from.ensures ReturnCommand.ReadTime)) refl c.from-in-Err.ensures (readable-written _ stands) refl
