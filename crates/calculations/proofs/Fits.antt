-- The data of function 03 fit a reply: at most 511 characters.
-- Assumes nothing.
use Prim.Native.Nat.{ℕ, ◌*◌, ◌≤◌, zero-le}
use native.Mathlib.Omega.{arith}
use mathlib.Core.List.{List, [], ◌∷◌}
use mathlib.Core.Bool.{Bool, true, false, cond}
use borrow.Author.Tests.{leb-true}
use lib.Dec.{eqb, leb}
use lib.ListN.{length}
use Rattle.chars.specs.Gather.{gather}
use Rattle.chars.proofs.GatherLaws.{gather-most}
use Rattle.model.specs.Limits.{most_data, most_asked}
use Rattle.model.specs.Frame.{Request}
use Rattle.model.specs.Config.{within, has_calculation}
use Rattle.model.specs.Calculations.{fitting, missing_of, all_of, asked_of, calculations_of}
use Rattle.points.proofs.NumberLaws.{within-most}
use Rattle.points.proofs.Fits.{Fits, either, no_data_fits}

fitting-fits : (ys : List ℕ) → Fits (fitting ys)
unfolding fitting
fitting-fits ys = either (leb (length ys) most_data) _ _ (λ e. leb-true _ _ e) (λ e. zero-le)

all_fit : (table values : List ℕ) → Fits (all_of table values)
unfolding all_of
all_fit table values = fitting-fits _

short-missing : (b : Bool) (n : ℕ) → length (cond b [] (n ∷ [])) ≤ 1
short-missing true n = zero-le
short-missing false n = omega arith

missing-short : (table ns : List ℕ) → length (gather (missing_of table) ns) ≤ 1 * length ns
unfolding missing_of
missing-short table ns = gather-most (missing_of table) 1 (λ n. short-missing (has_calculation table n) n) ns

asked_fit : (table values ns : List ℕ) → length ns ≤ most_asked → Fits (asked_of table values ns)
unfolding asked_of
asked_fit table values ns h =
    either (eqb (length (gather (missing_of table) ns)) 0) _ _ (λ e. fitting-fits _) (λ e. omega (arith, missing-short table ns))

pub calculations_fit : (table values : List ℕ) (q : Request) → Fits (calculations_of table values q)
unfolding calculations_of
calculations_fit table values q =
    either (eqb q.command 0x80) _ _ (λ e. no_data_fits q _ (all_fit table values))
    (λ e. either (eqb q.command 0x00) _ _
    (λ f. either (within 1 most_asked (length q.body)) _ _
    (λ g. asked_fit table values q.body (within-most 1 most_asked (length q.body) g)) (λ g. zero-le))
    (λ f. zero-le))
