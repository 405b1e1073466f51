-- `tables::parts_of` meets its contract. Assumes nothing.
use Rattle.std.proofs.Common.{◌≡◌, ◌-◌, ◌/◌, ◌%◌, max, sym, ap, ◌∙◌, arith}
use Rattle.model.specs.Tables.{table_at}
use Rattle.tables.specs.Judged.{Within}
use Rattle.tables.proofs.TableLaws.{start_none, table_more}
use Rattle.tables.proofs.WalkLaws.{passed_none, nibbles-stand, none_named}
use Rattle.tables.proofs.parts_of.Goals as goal

pub walk-s-requires-clause-s_value : goal.walk-s-requires-clause-s_value
walk-s-requires-clause-s_value c = (sym (start_none _), omega arith, passed_none _ 16 (omega arith))

pub returns-then-own-eq0 : goal.returns-then-own-eq0
returns-then-own-eq0 c =
    let e : max 0 (c.args.k.value - 1) ≡ c.args.k.value - 1 = omega arith in
    let o = c.table_at-own in
    let z = c.if-own-eq0.true in
    let h : o.result.nibbles / 16 ≡ 0 = omega arith in
    let l : o.result.nibbles % 16 ≡ 0 = omega arith in
    let n : Within c.args.area.now c.empty-none.result = rw c.empty-none.ensures (record { inside = omega arith }) in
    record {
      own = o.ensures.value ∙ ap (table_at _) (rw e at c.walk-s.ensures.value.0) ∙ sym (table_more _ _ (omega arith));
      one = c.empty-none.ensures ∙ none_named _ _ h;
      two = c.empty-none.ensures ∙ none_named _ _ l;
      within = (n, n, o.ensures.within);
    }

pub follow-requires-clause-s_value : goal.follow-requires-clause-s_value
follow-requires-clause-s_value c =
    let e : max 0 (c.args.k.value - 1) ≡ c.args.k.value - 1 = omega arith in
    let o = c.table_at-own in
    (rw e at c.walk-s.ensures.value.0, nibbles-stand _ _ o.ensures.value c.if-own-eq0.false, o.ensures.value)

pub returns : goal.returns
returns c =
    let e : max 0 (c.args.k.value - 1) ≡ c.args.k.value - 1 = omega arith in
    c.with_named.ensures _ (c.table_at-own.ensures.value ∙ ap (table_at _) (rw e at c.walk-s.ensures.value.0) ∙ sym (table_more _ _ (omega arith)))
