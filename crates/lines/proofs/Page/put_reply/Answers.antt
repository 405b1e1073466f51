-- `lines::Page::put_reply` meets its contract: a dash for an empty reply.
use mathlib.Core.Path.{refl}
use Rattle.std.proofs.Common.{arith}
use Rattle.std.proofs.lemmas.Grind.{common_steps}
use Rattle.lines.proofs.WroteLaws.{adds_as}
use Rattle.lines.proofs.ShownLaws.{reply-none, reply-some}
use Rattle.lines.proofs.Page.put_reply.Goals as goal

pub returns-in-empty : goal.returns-in-empty
returns-in-empty c = adds_as c.put.ensures (reply-none _ _ (grind (arith, common_steps)) refl)

pub returns-in_default : goal.returns-in_default
returns-in_default c = adds_as c.put_hexes.ensures (reply-some _ (λ e. grind (arith, common_steps)))
