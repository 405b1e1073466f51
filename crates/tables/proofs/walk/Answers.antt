-- `tables::walk` meets its contract. The invariant: the first k tables are passed, and next is where the one after them would start. Assumes nothing.
use Rattle.std.proofs.Common.{◌≡◌, max, length-set, sym, ap, ◌∙◌, arith}
use Rattle.model.specs.Tables.{table_at}
use Rattle.model.specs.declared.Table.{Table}
use Rattle.tables.proofs.TableLaws.{start-next, start-ended, stands-fits}
use Rattle.tables.proofs.WalkLaws.{flag-down, flag-up, present-stands, passed_more, passed_ended}
use Rattle.tables.proofs.walk.Goals as goal

pub returns-then-not-t-clause-value : goal.returns-then-not-t-clause-value
returns-then-not-t-clause-value c =
    let e = c.table_at-t.ensures.value ∙ ap (table_at _) c.loop-k.invariant.0 in
    (sym c.told-area ∙ sym (start-ended _ _ _ e (flag-down _ c.if-not-t.true) (omega arith)), omega arith)

pub returns-then-not-t-clause-passed : goal.returns-then-not-t-clause-passed
returns-then-not-t-clause-passed c =
    let e = c.table_at-t.ensures.value ∙ ap (table_at _) c.loop-k.invariant.0 in
    passed_ended c.loop-k.invariant.2 _ (ap (λ (t : Table). t.present) (sym e) ∙ flag-down _ c.if-not-t.true) (omega arith) (omega (arith, c.loop-k.invariant.4))

pub overflow_cast-starts : goal.overflow_cast-starts
overflow_cast-starts c = omega (arith, stands-fits _ _ (present-stands _ _ c.table_at-t.ensures.value (flag-up _ c.if-not-t.false)))

pub loop-k-preserved : goal.loop-k-preserved
loop-k-preserved c =
    let i = c.loop-k.invariant in
    let t = c.table_at-t in
    let h = flag-up _ c.if-not-t.false in (
      rw c.from.ensures (sym (start-next _ _ (t.ensures.value ∙ ap (table_at _) i.0) h)),
      omega (arith, t.ensures.within.inside),
      passed_more i.2 (omega (arith, i.4)) i.0 (present-stands _ _ t.ensures.value h),
      omega arith,
      simp length-set i.4,
    )

pub returns : goal.returns
returns c =
    let i = c.loop-k.invariant in
    let e : c.loop-k.k ≡ max c.args.from c.args.to = omega arith in
    rw (← e) record { value = (i.0, i.1); passed = i.2 }
