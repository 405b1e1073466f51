-- `lines::Page::put_hex` meets its contract: the high digit first.
use Rattle.lines.proofs.WroteLaws.{adds_as, adds_join}
use Rattle.lines.proofs.ShownLaws.{hex_both}
use Rattle.lines.proofs.Page.put_hex.Goals as goal

pub returns : goal.returns
returns c = adds_as (adds_join c.put.ensures c.put-2.ensures) (hex_both _ _ _ c.hex_digit.ensures c.hex_digit-2.ensures)
