-- `lines::Page::put_all` meets its contract: the run is copied as far as there is room.
use mathlib.Core.Path.{refl, ap, ◌∙◌}
use native.Mathlib.Omega.{arith}
use Rattle.chars.specs.Put.{put}
use Rattle.chars.proofs.PutLaws.{part-whole}
use Rattle.lines.proofs.Page.put_all.Goals as goal

pub returns : goal.returns
returns c =
    record {
      same = refl;
      wrote = record { chars = c.copy.ensures ∙ ap (put c.args.self.now.out.now c.args.self.now.at) (part-whole _ _ refl); place = omega arith };
    }
