-- `chars::copy` meets its contract: what is left out would lie past an end.
use mathlib.Core.Path.{◌∙◌}
use native.Mathlib.Omega.{arith}
use Rattle.chars.proofs.PutLaws.{copy_clipped}
use Rattle.chars.proofs.copy.Goals as goal

pub returns : goal.returns
returns c = c.copy_all.ensures ∙ copy_clipped _ _ _ _ _ _ (omega arith)
