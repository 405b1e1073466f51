-- Laws of a part that is read from a list, and of the bits of a reply's function.
-- Assumes nothing.
use mathlib.Core.Path.{◌≡◌}
use Prim.Native.Nat.{ℕ, ◌-◌, ◌≤◌}
use native.Mathlib.Omega.{arith}
use mathlib.Core.List.{List}
use lib.ListN.{take, drop}
use Rattle.chars.specs.Put.{part}
use Rattle.model.specs.Outcome.{function_bits}
use Rattle.model.specs.declared.Sending.{Sending}
use Rattle.model.specs.declared.Sending.TheVariants.{Normal, Nop, Rst, Unanswered}

-- up to an index
pub part_up : (s : List ℕ) (at end n : ℕ) → end - at ≡ n → take (end - at) (drop at s) ≡ part s at n
unfolding part
part_up s at end n e = rw e

-- what is added to six bits leaves a character
pub bits_most : (s : Sending) → function_bits s ≤ 128
bits_most Normal = omega arith
bits_most Nop = omega arith
bits_most Rst = omega arith
bits_most Unanswered = omega arith
