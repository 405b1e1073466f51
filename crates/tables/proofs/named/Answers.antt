-- `tables::named` meets its contract. Assumes nothing.
use Rattle.std.proofs.Common.{◌∙◌, arith}
use Rattle.tables.proofs.WalkLaws.{kept-present, kept_absent, none_named}
use Rattle.tables.proofs.named.Goals as goal

pub returns-then-k-eq0-clause-value : goal.returns-then-k-eq0-clause-value
returns-then-k-eq0-clause-value c = c.empty.ensures ∙ none_named _ _ c.if-k-eq0.true

pub returns-in-255-clause-value : goal.returns-in-255-clause-value
returns-in-255-clause-value c = c.empty-in-255.ensures ∙ kept_absent c.requires.1 (omega arith) (omega arith) c.in-255.is

pub standing-requires : goal.standing-requires
standing-requires c = (kept-present c.requires.1 (omega arith) c.from.ensures (omega arith)).0

pub returns-in_default-clause-value : goal.returns-in_default-clause-value
returns-in_default-clause-value c = c.standing.ensures.value ∙ (kept-present c.requires.1 (omega arith) c.from.ensures (omega arith)).1
