-- `lines::Page::put` meets its contract: past the end nothing is stored, and the place stays.
use mathlib.Core.Path.{refl, sym}
use native.Mathlib.Omega.{arith}
use Rattle.chars.proofs.PutLaws.{put_one, put_clipped}
use Rattle.lines.proofs.Page.put.Goals as goal

pub returns-then-self : goal.returns-then-self
returns-then-self c = record { same = refl; wrote = record { chars = sym (put_one _ _ _); place = omega arith } }

pub returns-else-self : goal.returns-else-self
returns-else-self c = record { same = refl; wrote = record { chars = sym (put_clipped _ _ _ (omega arith)); place = omega arith } }
