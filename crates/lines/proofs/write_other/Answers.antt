-- `lines::write_other` meets its contract: its parts, each from where the one before it ended.
use Rattle.std.proofs.Common.{rules}
use Rattle.lines.proofs.WroteLaws.{wrote_all}
use Rattle.lines.proofs.ShownLaws.{other_added}
use Rattle.lines.proofs.write_other.Goals as goal

pub returns : goal.returns
returns c =
    let all = wrote_all (other_added _ c.put_column.ensures c.put_all.ensures).wrote in
    search rules
