-- `lines::put_pairs` meets its contract. The invariant of its loop: out is out₀ with the first i characters of the stretch at its front.
use mathlib.Core.Path.{◌≡◌, sym, ◌∙◌}
use mathlib.Core.Bool.{true}
use Prim.Native.Nat.{◌<◌, ◌+◌, ◌*◌}
use native.Mathlib.Omega.{arith}
use lib.ListN.{get_or}
use Rattle.std.proofs.lemmas.Grind.{common_steps}
use Rattle.chars.proofs.PutLaws.{copy_none}
use Rattle.lines.specs.Line.{hex_val, is_hex}
use Rattle.lines.proofs.Tests.{every_at}
use Rattle.lines.proofs.ReadLaws.{hex_at, pairs-more, pairs_end}
use Rattle.lines.proofs.put_pairs.Goals as goal

pub loop-i-init : goal.loop-i-init
loop-i-init c = sym (copy_none _ _ _ _)

pub overflow_mul-out : goal.overflow_mul-out
overflow_mul-out c =
    let h : is_hex (get_or c.args.digits.now (2 * c.loop-i.i) 0) ≡ true = every_at is_hex _ _ c.requires (omega arith) in
    let high : c.unwrap_or-high.result ≡ hex_val (get_or c.args.digits.now (2 * c.loop-i.i) 0) = grind (arith, common_steps) in
    let less : c.unwrap_or-high.result < 16 = hex_at _ _ _ (omega arith) high c.requires in
    omega arith

pub overflow_add-out : goal.overflow_add-out
overflow_add-out c =
    let h : is_hex (get_or c.args.digits.now (2 * c.loop-i.i) 0) ≡ true = every_at is_hex _ _ c.requires (omega arith) in
    let l : is_hex (get_or c.args.digits.now (2 * c.loop-i.i + 1) 0) ≡ true = every_at is_hex _ _ c.requires (omega arith) in
    let high : c.unwrap_or-high.result ≡ hex_val (get_or c.args.digits.now (2 * c.loop-i.i) 0) = grind (arith, common_steps) in
    let low : c.unwrap_or-low.result ≡ hex_val (get_or c.args.digits.now (2 * c.loop-i.i + 1) 0) = grind (arith, common_steps) in
    let less : c.unwrap_or-high.result < 16 = hex_at _ _ _ (omega arith) high c.requires in
    let lower : c.unwrap_or-low.result < 16 = hex_at _ _ _ (omega arith) low c.requires in
    omega arith

pub loop-i-preserved : goal.loop-i-preserved
loop-i-preserved c =
    let h : is_hex (get_or c.args.digits.now (2 * c.loop-i.i) 0) ≡ true = every_at is_hex _ _ c.requires (omega arith) in
    let l : is_hex (get_or c.args.digits.now (2 * c.loop-i.i + 1) 0) ≡ true = every_at is_hex _ _ c.requires (omega arith) in
    let high : c.unwrap_or-high.result ≡ hex_val (get_or c.args.digits.now (2 * c.loop-i.i) 0) = grind (arith, common_steps) in
    let low : c.unwrap_or-low.result ≡ hex_val (get_or c.args.digits.now (2 * c.loop-i.i + 1) 0) = grind (arith, common_steps) in
    rw c.loop-i.invariant (pairs-more _ _ _ _ _ (omega arith) high low)

pub returns : goal.returns
returns c = c.loop-i.invariant ∙ pairs_end _ _ _ (omega arith)
