-- `layout::config::equip_input` meets its contract. Assumes nothing.
use mathlib.Core.Path.{sym}
use Rattle.chars.proofs.PutLaws.{put_one}
use Rattle.layout.specs.Regions.{start_in}
use Rattle.layout.proofs.config.equip_input.Goals as goal

pub returns : goal.returns
unfolding start_in
returns c = rw (← c.from-n.ensures) (sym (put_one _ _ _))
