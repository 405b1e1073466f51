-- A fresh unit: the state that what is laid and cleared stands for. Assumes nothing.
use Rattle.std.proofs.Common.{◌≡◌, ℕ, ◌≤◌, true, List, length, replicate, sym, refl, ap, ◌∙◌, eq-eqb, le-leb}
use Rattle.model.specs.Config.{Config}
use Rattle.model.specs.State.{fresh_core, fresh_areas, fresh_history, fresh_port, fresh_of}
use Rattle.model.specs.Tables.{table_area}
use Rattle.model.specs.Plans.{plans_of, empty_plans}
use Rattle.model.specs.Port.{mark_number}
use Rattle.std.specs.Prelude.{None}
use Rattle.model.proofs.Conditions.{and_both}
use Rattle.model.proofs.PlanLaws.{plans-long, plans-empty}
use Rattle.layout.specs.Records.{packed, room_of}
use Rattle.history.proofs.RunLaws.{files-none, samples-none}
use Rattle.layout.specs.Numbers.{
  bit_of,
  hold_numbers,
  write_numbers,
  memory_numbers,
  numbers_of,
  hold_in,
  write_in,
  reply_in,
  mark_in,
  clock_in,
  core_in,
  memory_in,
  port_in,
  put_clock,
  put_configure,
  Written,
}
use Rattle.layout.proofs.NumbersLaws.{written-readable}
use Rattle.layout.specs.Unit.{unit_long, Unit, unit_in, config_in, numbers_in, config_given, set_numbers, set_plans, plans_region, put_plans, blank_unit, blank_of, Renumbered}
use Rattle.layout.specs.Regions.{start_in}
use Rattle.layout.proofs.UnitLaws.{config_figure, renumbered_then, plans-written, length-put_in}
use Rattle.layout.proofs.BlankLaws.{blank_long, blank_means}
use Rattle.layout.specs.Kept.{kept_of, state_of, owned_of, kept_in, standing}
use Rattle.unit.specs.Fresh.{fresh_unit, FreshPromise}

-- ---- the numbers

pub fresh-written : Written fresh_core None fresh_port (numbers_of fresh_core None fresh_port)
unfolding fresh_core fresh_port numbers_of core_in memory_in port_in clock_in hold_numbers write_numbers memory_numbers mark_number bit_of hold_in write_in reply_in mark_in
fresh-written = record { plain = refl; means = record { core = refl; memory = refl; port = refl } }

fresh-numbers : (c : Config) → put_configure true (put_clock (record { day = 1; hour = 0; minute = 0; second = 0; ms = 0 }) (blank_of c).numbers) ≡ numbers_of fresh_core None fresh_port
unfolding fresh_core fresh_port numbers_of hold_numbers write_numbers memory_numbers mark_number bit_of
fresh-numbers c = refl

-- the memory of a configuration's characters, the clock kept in it, then the configure bit and the plans
pub fresh_kept : (cs : List ℕ) {u v w x : List ℕ} → length cs ≡ config_figure → u ≡ blank_unit cs
    → Renumbered u v (put_clock (record { day = 1; hour = 0; minute = 0; second = 0; ms = 0 }) (numbers_in u)) → Renumbered v w (put_configure true (numbers_in v))
    → x ≡ put_plans w (plans_of (config_in w).inputs (table_area (unit_in w).fixed))
    → (unit_in x ≡ fresh_unit (config_given cs)) × (length x ≡ unit_long)
unfolding start_in
fresh_kept cs {u} {v} {w} {x} l e a b f =
    let r = renumbered_then (put_configure true) u v w a b in
    let m : unit_in u ≡ blank_of (config_given cs) = ap unit_in e ∙ blank_means cs l in
    let n : unit_in w ≡ set_numbers (blank_of (config_given cs)) (numbers_of fresh_core None fresh_port) =
    r.means
    ∙ ap (λ (x : Unit). set_numbers x (put_configure true (put_clock (record { day = 1; hour = 0; minute = 0; second = 0; ms = 0 }) x.numbers))) m
    ∙ ap (set_numbers (blank_of (config_given cs))) (fresh-numbers (config_given cs)) in
    let long : length w ≡ unit_long = r.long ∙ ap length e ∙ blank_long cs in (
      ap unit_in f ∙ plans-written w _ long (plans-long (config_in w).inputs (table_area (unit_in w).fixed))
          ∙ ap (λ (x : Unit). set_plans x (plans_of x.config.inputs (table_area x.fixed))) n
          ∙ ap (set_plans (set_numbers (blank_of (config_given cs)) (numbers_of fresh_core None fresh_port))) (plans-empty (config_given cs).inputs),
      ap length f ∙ length-put_in w plans_region 0 _ ∙ long,
    )

-- ---- the state

-- a unit that was laid of a configuration's characters, with a parameter block as long as they say
module _ (cs : List ℕ) {n : ℕ} (as_said : n ≡ (config_given cs).block) {u bl : List ℕ} (area : List ℕ) (f : FreshPromise cs n u bl) where
  pub laid-config : config_in u ≡ config_given cs
  laid-config = ap (λ (x : Unit). x.config) f.means

  laid-numbers : numbers_in u ≡ numbers_of fresh_core None fresh_port
  laid-numbers = ap (λ (x : Unit). x.numbers) f.means

  blank : bl ≡ replicate (config_in u).block 0
  blank = f.block-cleared ∙ ap (λ (k : ℕ). replicate {A = ℕ} k 0) (as_said ∙ sym (ap (λ (c : Config). c.block) laid-config))

  -- whatever the characters of records hold, it is the definition's fresh unit
  pub laid-state : state_of (config_in u) (kept_in (owned_of u bl area)) ≡ fresh_of (config_in u)
  unfolding fresh_of fresh_areas fresh_history
  laid-state =
      let w = fresh-written.means in
      let ks = laid-numbers in
      let x = f.means in
      (λ i. state_of (config_in u) (kept_of (core_in (ks i)) (memory_in (ks i)) (port_in (ks i)) (x i).words (x i).values (x i).fixed (blank i) area (x i).counts (x i).dropped (x i).changed (x i).taken (x i).plans))
      ∙ (λ i. state_of (config_in u)
      (kept_of (w.core i) (w.memory i) (w.port i) (replicate 256 0) (replicate 128 0) (replicate 528 0) (replicate (config_in u).block 0) area (replicate 32 0) (replicate 32 0) (replicate 32 0) (replicate 16 0) empty_plans))
      ∙ rw (files-none (packed (config_in u)) (config_in u).values area, samples-none (packed (config_in u)) area)

  pub laid-stands : room_of (config_in u) ≤ length area → standing (owned_of u bl area) ≡ true
  unfolding standing
  laid-stands r =
      and_both (eq-eqb _ _ (ap (λ (x : Unit). x.layout) f.means))
      (and_both (le-leb _ _ r) (rw laid-numbers (written-readable fresh-written)))
