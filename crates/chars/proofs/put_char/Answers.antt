-- `chars::put_char` meets its contract: a store is a run of one, and past the end nothing is stored.
use mathlib.Core.Path.{sym}
use native.Mathlib.Omega.{arith}
use Rattle.chars.proofs.PutLaws.{put_one, put_clipped}
use Rattle.chars.proofs.put_char.Goals as goal

pub returns-then-at-b : goal.returns-then-at-b
returns-then-at-b c = sym (put_one _ _ _)

pub returns-else-at-b : goal.returns-else-at-b
returns-else-at-b c = sym (put_clipped _ _ _ (omega arith))
