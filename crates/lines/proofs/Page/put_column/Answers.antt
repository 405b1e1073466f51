-- `lines::Page::put_column` meets its contract: the digits, which stand at the end of its own buffer, and a tab behind them.
use mathlib.Core.Path.{◌∙◌}
use native.Mathlib.Omega.{arith}
use lib.ListN.{length-drop}
use lib.Seq.{take_all}
use Rattle.lines.proofs.WroteLaws.{adds_as}
use Rattle.lines.proofs.ShownLaws.{column_added}
use Rattle.lines.proofs.Page.put_column.Goals as goal

pub returns : goal.returns
returns c = column_added _ (adds_as c.put_all.ensures (take_all _ _ (omega (arith, length-drop c.put_digits-from.result c.put_digits-from.new.buf)) ∙ c.put_digits-from.ensures.0)) c.put.ensures
