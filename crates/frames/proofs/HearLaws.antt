-- What a stretch that is heard as a pair has, and a part from an index to the end. Assumes nothing.
use mathlib.Core.Path.{◌≡◌}
use Prim.Native.Nat.{ℕ, ◌-◌, ◌≤◌, ◌<◌}
use native.Mathlib.Omega.{arith}
use mathlib.Core.List.{List}
use mathlib.Core.Bool.{true, false, and-false}
use lib.ListN.{length, take, drop, length-drop}
use lib.Seq.{take_all}
use Rattle.model.specs.Limits.{write_frame}
use Rattle.model.specs.Frame.{whole, commands, paired}
use Rattle.model.proofs.Conditions.{and_left, and_right}
use Rattle.model.proofs.FrameLaws.{short_unwhole, whole_long}

-- all behind an index
pub rest : (n : ℕ) (s : List ℕ) → take (length s - n) (drop n s) ≡ drop n s
rest n s = take_all (length s - n) (drop n s) (omega (arith, length-drop n s))

module _ (s : List ℕ) where
  command-whole : (k : ℕ) (t : List ℕ) → commands k t ≡ true → whole t ≡ true
  unfolding commands
  command-whole k t e = and_left (whole t) _ e

  -- both parts are whole, and the second has its characters
  pub pair_parts : paired s ≡ true → (whole (take write_frame s) ≡ true) × (whole (drop write_frame s) ≡ true)
  unfolding paired
  pair_parts e =
      (command-whole 0x30 (take write_frame s) (and_left (commands 0x30 (take write_frame s)) _ e), command-whole 0x31 (drop write_frame s) (and_left (commands 0x31 (drop write_frame s)) _ (and_right (commands 0x30 (take write_frame s)) _ e)))

  -- what has less than a WRITE and a frame is none
  pub short_none : length s < write_frame → paired s ≡ false
  unfolding paired commands
  short_none h =
      let e : whole (drop write_frame s) ≡ false = short_unwhole (drop write_frame s) (omega (arith, length-drop write_frame s)) in simp (e, and-false)

  pub pair-long : paired s ≡ true → write_frame ≤ length s
  pair-long e = omega (arith, whole_long (drop write_frame s) (pair_parts e).1, length-drop write_frame s)
