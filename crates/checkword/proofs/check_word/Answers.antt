-- `checkword::check_word` meets its contract: a short list is one number with the start in it, and its check word what that number leaves.
-- Assumes nothing.
use mathlib.Core.Path.{refl, sym, ◌∙◌}
use native.Mathlib.Omega.{arith}
use Rattle.checkword.proofs.Eights.{in_none, in_high}
use Rattle.checkword.proofs.check_word.Goals as goal

pub returns-then-n-eq0 : goal.returns-then-n-eq0
returns-then-n-eq0 c = let a = c.args in sym (in_none a.start a.s.now (omega arith))

pub returns-then-n-lt4 : goal.returns-then-n-lt4
returns-then-n-lt4 c =
    let a = c.args in
    c.check_number.ensures ∙ in_high a.start a.s.now _ _ _ refl (omega arith) c.few.ensures c.started.ensures

pub returns : goal.returns
returns c =
    let a = c.args in
    c.check_number-2.ensures ∙ in_high a.start a.s.now _ _ _ refl (omega arith) c.several.ensures c.started-2.ensures
