-- `chars::word_at` meets its contract, a return for each number of characters that are there.
use mathlib.Core.Path.{◌≡◌, refl}
use native.Mathlib.Omega.{arith}
use lib.ListN.{drop, get_or-eq_default}
use Rattle.chars.proofs.WordLaws.{left_from, word_at-left}
use Rattle.chars.proofs.word_at.Goals as goal

pub returns-in-empty : goal.returns-in-empty
returns-in-empty c =
    let a = c.args in
    let left = c.unwrap_or.result.now in
    let e : left ≡ drop a.at a.s.now = left_from _ _ _ _ _ c.get.ensures.lookup refl c.unwrap_or.ensures in
    omega (arith, word_at-left a.s.now _ a.at e, get_or-eq_default left 0 {n = 0} (omega arith), get_or-eq_default left 0 {n = 1} (omega arith))

pub returns-in-len1 : goal.returns-in-len1
returns-in-len1 c =
    let a = c.args in
    let left = c.unwrap_or.result.now in
    let e : left ≡ drop a.at a.s.now = left_from _ _ _ _ _ c.get.ensures.lookup refl c.unwrap_or.ensures in
    omega (arith, word_at-left a.s.now _ a.at e, get_or-eq_default left 0 {n = 1} (omega arith), c.from.ensures)

pub returns-in-len2-up : goal.returns-in-len2-up
returns-in-len2-up c =
    let a = c.args in
    let left = c.unwrap_or.result.now in
    let e : left ≡ drop a.at a.s.now = left_from _ _ _ _ _ c.get.ensures.lookup refl c.unwrap_or.ensures in
    omega (arith, word_at-left a.s.now _ a.at e, c.from_le_bytes.ensures)
