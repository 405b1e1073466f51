-- How many inputs function 00 can tell of, by its command.
-- Assumes nothing.
use mathlib.Core.Path.{◌≡◌, ◌∙◌}
use Prim.Native.Nat.{ℕ, ◌+◌, ◌*◌, ◌/◌, ◌%◌, ◌≤◌}
use native.Mathlib.Omega.{arith}
use mathlib.Core.List.{[]}
use mathlib.Core.Bool.{Bool, true, false, cond}
use lib.ListN.{length, length-append}
use lib.Dec.{eqb}
use mir.Val.{bool_byte}
use Rattle.chars.specs.Gather.{up_from}
use Rattle.chars.proofs.GatherLaws.{length_up}
use Rattle.model.specs.Inputs.{chosen}

length_any : (b : Bool) (from n : ℕ) → (length (cond b (up_from from n) []) ≡ bool_byte b * n) × (bool_byte b ≤ 1)
length_any true from n = (length_up from n ∙ omega arith, omega arith)
length_any false from n = (omega arith, omega arith)

-- as many as the kinds chosen have
pub chosen-long : (c w x y z : ℕ) → w ≡ bool_byte (eqb (c / 4 % 2) 1) → x ≡ bool_byte (eqb (c % 2) 1) → y ≡ bool_byte (eqb (c / 64 % 2) 1) → z ≡ bool_byte (eqb (c / 8 % 2) 1)
    → (w * 32 + x * 16 + y * 32 + z * 128 ≡ length (chosen c)) × (w * 32 + x * 16 + y * 32 + z * 128 ≤ 208)
unfolding chosen
chosen-long c w x y z d e f g =
    let p = length_any (eqb (c / 4 % 2) 1) 0x00 32 in
    let q = length_any (eqb (c % 2) 1) 0x30 16 in
    let r = length_any (eqb (c / 64 % 2) 1) 0x40 32 in
    let s = length_any (eqb (c / 8 % 2) 1) 0x80 128 in
    (rw (length-append, length-append, length-append) (omega (arith, p.0, q.0, r.0, s.0)), omega (arith, p.1, q.1, r.1, s.1))
