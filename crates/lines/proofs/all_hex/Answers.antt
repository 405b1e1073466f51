-- `lines::all_hex` meets its contract: every digit is judged.
use Rattle.std.proofs.Common.{rules, tests, ◌∙◌, sym}
use Rattle.std.proofs.lemmas.Iterator.{YieldsList-from_slice}
use Rattle.std.proofs.lemmas.Iterator.Search.{all_from_yields_List}
use Rattle.lines.specs.Line.{is_hex}
use Rattle.lines.proofs.Tests.{every-list_all}
use Rattle.lines.proofs.all_hex.Goals as goal

pub returns : goal.returns
returns c =
    all_from_yields_List is_hex _ _ _ c.all.ensures.ran (YieldsList-from_slice c.args.digits.now cc) (λ x b q k. search (rules, tests))
    ∙ sym (every-list_all is_hex _)
