-- `chars::put_bytes` meets its contract: a part as long as the list is the list.
use mathlib.Core.Path.{ap, ◌∙◌}
use native.Mathlib.Omega.{arith}
use Rattle.chars.specs.Put.{put}
use Rattle.chars.proofs.PutLaws.{part-whole}
use Rattle.chars.proofs.put_bytes.Goals as goal

pub returns : goal.returns
returns g c = c.copy_all.ensures ∙ ap (put c.args.b.now c.args.at) (part-whole c.args.bytes g.row.N (omega arith))
