-- `lines::read_line` meets its contract: each of its arms is a case of the definition.
use native.Mathlib.Omega.{arith}
use Rattle.lines.specs.declared.Line.{Line}
use Rattle.lines.proofs.ReadLaws.{answered, read_as, read-quiet, read-other, line-long, line-short, line-other, line-stretch, line-time, time-quiet}
use Rattle.lines.proofs.read_line.Goals as goal

pub returns-then-line-gt2000 : goal.returns-then-line-gt2000
returns-then-line-gt2000 c = read-other _ _ (line-long _ c.if-line-gt2000.true)

pub returns-in-82 : goal.returns-in-82
returns-in-82 c =
    let says = line-stretch c.args.line.now (omega arith) (omega arith) (omega arith) (omega arith) in
    read_as _ _ _ _ _ says (answered Line.Stretch _ _ _ c.map_or.ensures c.read_stretch.ensures.answer, c.read_stretch.ensures.heard)

pub returns-in-84 : goal.returns-in-84
returns-in-84 c =
    let says = line-time c.args.line.now (omega arith) (omega arith) (omega arith) (omega arith) (omega arith) in
    read-quiet _ _ _ _ says (time-quiet _) (answered Line.Time _ _ _ c.map_or-in-84.ensures c.read_time.ensures)

pub returns-in_default : goal.returns-in_default
returns-in_default c = read-other _ _ (line-short _ (omega arith))

pub returns-in_default-2 : goal.returns-in_default-2
returns-in_default-2 c = read-other _ _ (line-other _ (omega arith) (omega arith) (λ t k. omega arith) (λ t k. omega arith))

pub returns-in_default-3 : goal.returns-in_default-3
returns-in_default-3 c = read-other _ _ (line-other _ (omega arith) (omega arith) (λ t k. omega arith) (λ t k. omega arith))

pub returns-in_default-4 : goal.returns-in_default-4
returns-in_default-4 c = read-other _ _ (line-other _ (omega arith) (omega arith) (λ t k. omega arith) (λ t k. omega arith))
