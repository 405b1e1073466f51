-- `lines::read_stretch` meets its contract: nothing is written unless every digit is one.
use mathlib.Core.Path.{◌≡◌, sym, ◌∙◌}
use Rattle.lines.specs.Line.{stretch_of, other}
use Rattle.lines.proofs.ReadLaws.{read-other, read-stretch, stretch_odd, stretch_wrong, stretch-right, length_pairs}
use Rattle.lines.proofs.read_stretch.Goals as goal
use Rattle.lines.proofs.read_stretch.Goals.{then-digits-eq1-via-then-digits-eq1, then-digits-eq1-via-else-digits-eq1+then-not-all_hex}

pub returns-then-digits-eq1 : goal.returns-then-digits-eq1
returns-then-digits-eq1 c =
    let says : stretch_of c.args.digits.now ≡ other =
    elim c.then-digits-eq1.branch [
      | then-digits-eq1-via-then-digits-eq1 w ↦ stretch_odd _ w.if-digits-eq1.true
      | then-digits-eq1-via-else-digits-eq1+then-not-all_hex w ↦ stretch_wrong _ (sym w.all_hex.ensures ∙ w.if-not-all_hex.true)
    ] in
    let read = read-other _ _ says in
    record { answer = read.0; heard = read.1 }

pub put_pairs-requires : goal.put_pairs-requires
put_pairs-requires c = sym c.all_hex.ensures ∙ c.if-not-all_hex.false

pub returns : goal.returns
returns c =
    let digits = sym c.all_hex.ensures ∙ c.if-not-all_hex.false in
    let read = read-stretch _ _ _ _ _ (stretch-right _ c.if-digits-eq1.false digits) (sym (length_pairs _)) c.put_pairs.ensures in
    record { answer = read.0; heard = read.1 }
