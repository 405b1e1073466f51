-- `lines::hex_digit` meets its contract: the digit that stands at its value.
use Prim.Native.Nat.{ℕ}
use native.Mathlib.Omega.{arith}
use mathlib.Core.Path.{◌≡◌}
use lib.Dec.{eqb}
use lib.ListN.{get_or}
use borrow.Author.Tests.{eqb-true}
use Rattle.std.specs.List.{range_with_len}
use Rattle.std.proofs.lemmas.List.FromFn.{get_or-range_with_len, length-range_with_len}
use Rattle.lines.specs.Line.{hex_digit}
use Rattle.lines.proofs.Tests.{every_at}
use Rattle.lines.proofs.hex_digit.Goals as goal

pub returns : goal.returns
returns c =
    let v = c.args.value in
    let at : get_or (range_with_len 0 16) v 0 ≡ v = omega (arith, get_or-range_with_len 0 16 v 0 (omega arith)) in
    let test = every_at (λ (n : ℕ). eqb (get_or c.digits.result.now n 0) (hex_digit n)) (range_with_len 0 16) v c.digits.ensures (omega (arith, length-range_with_len 0 16)) in
    rw c.from.ensures (eqb-true _ _ (rw at at test))
