-- `frames::reply_number` meets its contract: its sum is that of head and data by their places.
-- Assumes nothing.
use mathlib.Core.Path.{◌≡◌, ap, ◌∙◌}
use Prim.Native.Nat.{◌+◌, ◌*◌}
use native.Mathlib.Omega.{arith}
use lib.ListN.{get_or}
use Rattle.frames.proofs.NumberLaws.{front, none-line, one_line}
use Rattle.frames.proofs.reply_number.Goals as goal

pub returns-then-head-eq0 : goal.returns-then-head-eq0
returns-then-head-eq0 c =
    let r = c.args.head in
    let low = ap (λ l. get_or l 0 0) c.to_le_bytes.ensures in
    let high = ap (λ l. get_or l 1 0) c.to_le_bytes.ensures in
    let sum : c.from_le_bytes.result ≡ 256 * front r = omega (arith, low, high, c.from_le_bytes.ensures) in
    sum ∙ none-line r (omega arith) (omega arith) (omega arith) (omega arith) c.args.first (omega arith)

pub returns : goal.returns
returns c =
    let r = c.args.head in
    let low = ap (λ l. get_or l 0 0) c.to_le_bytes.ensures in
    let high = ap (λ l. get_or l 1 0) c.to_le_bytes.ensures in
    let sum : c.from_le_bytes-2.result ≡ front r + 72057594037927936 * c.args.first = omega (arith, low, high, c.from_le_bytes-2.ensures) in
    sum ∙ one_line r (omega arith) (omega arith) (omega arith) (omega arith) c.args.first (omega arith) (omega arith)
