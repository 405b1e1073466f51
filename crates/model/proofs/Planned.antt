-- In every run from a fresh unit the plans are those of the tables: each event leaves both, or makes the plans anew. Assumes nothing.
use Prim.Native.Nat.{ℕ}
use mathlib.Core.Path.{◌≡◌, sym, ap, ◌∙◌}
use mathlib.Core.List.{List}
use lib.ListN.{get_or}
use Rattle.model.specs.Config.{Config}
use Rattle.model.specs.State.{Areas, State, fresh_areas, fresh_of}
use Rattle.model.specs.Tables.{table_area}
use Rattle.model.specs.Plans.{plans_of, planned_numbers, planned_of}
use Rattle.model.specs.Means.{areas_sampled}
use Rattle.model.specs.Event.{Event}
use Rattle.model.specs.Step.{make_of}
use Rattle.model.specs.Run.{moves, after}
use Rattle.model.specs.Planned.{replanned, PlansHeld}
use Rattle.model.proofs.AreaLaws.{Replans, stay, made}
use Rattle.model.proofs.Parts.{Parts, Lasts, make_has}
use Rattle.model.proofs.PlanLaws.{plans-empty, area-most, planned-carried, planned_tables}
use Rattle.model.proofs.Runs.{by_next, by_run}

Own : Config → Areas → Type 0
Own c a = a.plans ≡ plans_of c.inputs (table_area a.fixed)

-- of the areas alone
abbrev owning : Config → Parts
owning c =
    record {
      clock = λ k. Unit {0};
      hold = λ h. Unit {0};
      write = λ w. Unit {0};
      areas = Own c;
      history = λ h. Unit {0};
      request = λ q. Unit {0};
      event = λ e. Unit {0};
    }

own-left : (c : Config) (a b : Areas) → Replans c.inputs a b → Own c a → Own c b
unfolding Own
own-left c a b (stay e t) h = e ∙ h ∙ ap (plans_of c.inputs) (sym t)
own-left c a b (made e) h = e

owning_lasts : (c : Config) → Lasts c (owning c)
unfolding Own areas_sampled
owning_lasts c =
    record {
      heard = λ s q g e. tt;
      set-time = λ lag k q h. tt;
      clock-after = λ k ms h. tt;
      free = tt;
      control = λ h q g k. tt;
      held_after = λ h ms k. tt;
      no_write = tt;
      write = λ w q g k. tt;
      waits-after = λ w ms k. tt;
      leaves = λ a b s r h. own-left c a b r h;
      valued = λ a n v g e h. h;
      sampled = λ a n g e h. h;
      told = λ h q g e k. tt;
      forgotten = λ h k. tt;
      kept = λ h f r vs e k. tt;
      swapped = λ h f r vs e k. tt;
    }

Owns : Config → State → Type 0
Owns c s = Own c s.inner.areas

moved_owns : (c : Config) (s : State) (e : Event) → Owns c s → Owns c (moves s.port e (make_of c s.inner e))
unfolding Owns moves
moved_owns c s e h =
    (make_has c (owning c) (owning_lasts c) s.inner (record { core = record { clock = tt; hold = tt; write = tt }; areas = h; history = tt }) e tt).areas

fresh_owns : (c : Config) → Owns c (fresh_of c)
unfolding Owns Own fresh_of fresh_areas
fresh_owns c = sym (plans-empty c.inputs)

run_owns : (c : Config) (es : List Event) → Owns c (after c es)
run_owns c es = by_run (λ xs. Owns c) c (λ s e xs h. by_next (Owns c) c s e h (λ b. moved_owns c s e h)) (fresh_of c) es (fresh_owns c)

held : (c : Config) (a : Areas) → Own c a → PlansHeld c a
unfolding Own replanned
held c a h =
    record {
      plans = h;
      scans = λ q. ap (λ (ps : List ℕ). planned_of ps a.fixed a.words q) h ∙ planned_tables c.inputs a.fixed a.words q;
      carried = λ k l z.
          let e : planned_numbers a.plans (table_area a.fixed) k ≡ planned_numbers (plans_of c.inputs (table_area a.fixed)) (table_area a.fixed) k =
          ap (λ (ps : List ℕ). planned_numbers ps (table_area a.fixed) k) h in
          let y : get_or (plans_of c.inputs (table_area a.fixed)) k 0 ≡ 0 = sym (ap (λ (ps : List ℕ). get_or ps k 0) h) ∙ z in
          e ∙ planned-carried c.inputs (table_area a.fixed) a.words (area-most a.fixed) k l y;
      anew = λ i. record { words = a.words; values = a.values; fixed = a.fixed; block = a.block; changed = a.changed; samples = a.samples; plans = sym h i };
    }

-- THE LAW: no plan of a run is older than its tables
pub run_plans : (c : Config) (es : List Event) → PlansHeld c (after c es).inner.areas
unfolding Owns
run_plans c es = held c _ (run_owns c es)
