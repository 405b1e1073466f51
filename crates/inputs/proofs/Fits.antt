-- The data of function 00 fit a reply: at most 208 words.
-- Assumes nothing.
use Prim.Native.Nat.{ℕ, ◌*◌, ◌/◌, ◌%◌, ◌≤◌, zero-le}
use native.Mathlib.Omega.{arith}
use mathlib.Core.List.{List, []}
use mathlib.Core.Bool.{Bool, true, false, cond}
use lib.Dec.{eqb}
use lib.ListN.{length, get_or, length-append}
use Rattle.chars.specs.Word.{word}
use Rattle.chars.specs.Gather.{gather, up_from}
use Rattle.chars.proofs.WordLaws.{length-word}
use Rattle.chars.proofs.GatherLaws.{gather-most, length_up}
use Rattle.model.specs.Frame.{Request}
use Rattle.model.specs.Config.{has}
use Rattle.model.specs.Inputs.{word_of, chosen, unreserved, inputs_of}
use Rattle.points.proofs.Fits.{Fits, either, no_data_fits}

-- where a condition holds at most n characters, else none
short : (b : Bool) (xs : List ℕ) (n : ℕ) → length xs ≤ n → length (cond b xs []) ≤ n
short true xs n h = h
short false xs n h = zero-le

short_run : (b : Bool) (from n : ℕ) → length (cond b (up_from from n) []) ≤ n
short_run b from n = short b (up_from from n) n (omega (arith, length_up from n))

chosen-short : (c : ℕ) → length (chosen c) ≤ 208
unfolding chosen
chosen-short c =
    simp length-append (omega (
      arith,
      short_run (eqb (c / 4 % 2) 1) 0x00 32,
      short_run (eqb (c % 2) 1) 0x30 16,
      short_run (eqb (c / 64 % 2) 1) 0x40 32,
      short_run (eqb (c / 8 % 2) 1) 0x80 128,
    ))

words-short : (table words ns : List ℕ) → length (gather (word_of table words) ns) ≤ 2 * length ns
unfolding word_of
words-short table words ns =
    gather-most (word_of table words) 2 (λ n. short (has table n) (word (get_or words n 0)) 2 (omega (arith, length-word (get_or words n 0)))) ns

pub inputs_fit : (table words : List ℕ) (q : Request) → Fits (inputs_of table words q)
unfolding inputs_of
inputs_fit table words q =
    either (unreserved q.command) _ _
    (λ e. no_data_fits q _ (omega (arith, words-short table words (chosen q.command), chosen-short q.command)))
    (λ e. zero-le)
