-- `layout::table::put_chars` meets its contract. Assumes nothing.
use Rattle.std.proofs.Common.{◌+◌, ◌-◌, length, arith, refl, ap, ◌∙◌}
use borrow.Author.Tests.{le-leb}
use Rattle.chars.specs.Put.{put}
use Rattle.chars.proofs.PutLaws.{part-whole}
use Rattle.layout.proofs.table.put_chars.Goals as goal

pub returns-then-at-room : goal.returns-then-at-room
returns-then-at-room c = rw (le-leb (c.args.at + length c.args.chars.now) (c.args.end - c.args.start) (omega arith)) (c.copy.ensures ∙ ap (put c.args.unit.now (c.args.start + c.args.at)) (part-whole _ _ refl))
