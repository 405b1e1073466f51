-- `lines::write_line` meets its contract: its parts, each from where the one before it ended.
use Rattle.std.proofs.Common.{rules}
use Rattle.lines.proofs.WroteLaws.{wrote_all}
use Rattle.lines.proofs.ShownLaws.{shown_added}
use Rattle.lines.proofs.write_line.Goals as goal

pub returns : goal.returns
returns c =
    let all = wrote_all (shown_added _ _ _ c.put_column.ensures c.put_column-2.ensures c.put_reply.ensures c.put.ensures).wrote in
    search rules
