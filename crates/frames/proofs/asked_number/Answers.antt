-- `frames::asked_number` meets its contract: its sum is that of the head's characters by their places.
-- Assumes nothing.
use mathlib.Core.Path.{◌≡◌, ap, ◌∙◌}
use Prim.Native.Nat.{◌+◌, ◌*◌}
use native.Mathlib.Omega.{arith}
use lib.ListN.{get_or}
use Rattle.frames.proofs.NumberLaws.{asked-line}
use Rattle.frames.proofs.asked_number.Goals as goal

pub returns : goal.returns
returns c =
    let f = c.args.frame in
    let low = ap (λ l. get_or l 0 0) c.to_le_bytes.ensures in
    let high = ap (λ l. get_or l 1 0) c.to_le_bytes.ensures in
    let sum : c.from_le_bytes.result ≡ 65536 * f.address + (4294967296 * f.function + 1099511627776 * f.command) = omega (arith, low, high, c.from_le_bytes.ensures) in
    sum ∙ asked-line f (omega arith) (omega arith) (omega arith)
