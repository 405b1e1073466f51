-- A fresh unit is taken where its configuration is valid. Assumes nothing.
use mathlib.Core.Path.{◌≡◌, refl, sym, ap, ◌∙◌}
use Prim.Native.Nat.{ℕ, zero, suc}
use native.Mathlib.Omega.{arith}
use mathlib.Core.List.{List, []}
use mathlib.Core.Bool.{true, false}
use lib.ListN.{length, get_or, replicate, length-replicate}
use borrow.Author.Tests.{le-leb, eq-eqb}
use Rattle.model.specs.Config.{Config, valid_of}
use Rattle.model.specs.State.{held_in, fresh_core, fresh_areas, fresh_history, fresh_port, fresh_of}
use Rattle.model.specs.Means.{samples_at}
use Rattle.model.specs.Plans.{empty_plans}
use Rattle.model.specs.Fits.{fits}
use Rattle.std.specs.Prelude.{None}
use Rattle.model.proofs.Conditions.{by_bool}
use Rattle.model.proofs.Valid.{fresh-fits}
use Rattle.layout.specs.Numbers.{core_in, memory_in, port_in, readable}
use Rattle.layout.proofs.NumbersLaws.{written-readable}
use Rattle.layout.specs.Unit.{Unit, config_in, numbers_in, config_given}
use Rattle.layout.specs.Records.{room_of}
use Rattle.layout.specs.Judged.{fits_by, fits_in}
use Rattle.layout.proofs.JudgedLaws.{fits_by_lem}
use Rattle.unit.specs.Fresh.{FreshPromise}
use Rattle.unit.proofs.FreshLaws.{fresh-written}

none-held : (n f : ℕ) → length (held_in (replicate n []) f) ≡ get_or (replicate {A = ℕ} n 0) f 0
unfolding held_in
none-held zero f = refl
none-held (suc n) zero = refl
none-held (suc n) (suc f) = none-held n f

none-taken : (n p : ℕ) → length (samples_at (replicate n []) p) ≡ get_or (replicate {A = ℕ} n 0) p 0
unfolding samples_at
none-taken zero p = refl
none-taken (suc n) zero = refl
none-taken (suc n) (suc p) = none-taken n p

fresh-valid : (c : Config) → fits c (fresh_of c) ≡ valid_of c
fresh-valid c = by_bool (valid_of c) (λ e. fresh-fits c e ∙ sym e) (λ e. let z : fits c (fresh_of c) ≡ false = unfold fits in rw e refl in z ∙ sym e)

-- judged with a block as long as its configuration says and the room that it asks for
pub fresh-taken : (cs : List ℕ) {n lent room : ℕ} {u bl : List ℕ} → FreshPromise cs n u bl → lent ≡ (config_in u).block → room ≡ room_of (config_in u)
    → fits_in u lent room ≡ valid_of (config_given cs)
unfolding fits_in fresh_of fresh_areas fresh_history
fresh-taken cs {n} {lent} {room} {u} f l r =
    let x = f.means in
    let c = config_given cs in
    let w = fresh-written.means in
    let b : lent ≡ c.block = l ∙ ap (λ (y : Unit). y.config.block) x in
    let e : readable (numbers_in u) ≡ true = ap (λ (y : Unit). readable y.numbers) x ∙ written-readable fresh-written in
    rw (eq-eqb _ _ (ap (λ (y : Unit). y.layout) x), le-leb (room_of (config_in u)) room (omega arith), e)
    ((λ i. fits_by (x i).config (b i) (x i).plans (x i).counts (x i).taken (core_in (x i).numbers) (memory_in (x i).numbers) (port_in (x i).numbers))
    ∙ (λ i. fits_by c c.block empty_plans (replicate 32 0) (replicate 16 0) (w.core i) (w.memory i) (w.port i))
    ∙ fits_by_lem c c.block (replicate 32 0) (replicate 16 0) fresh_core None fresh_port (fresh_areas c) (replicate 32 []) (replicate 32 0) (length-replicate {A = ℕ} c.block 0) (λ p h. none-taken 16 p) (λ g h. none-held 32 g)
    ∙ fresh-valid c)
