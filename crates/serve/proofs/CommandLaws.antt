-- Functions 20h and 28h by command: the step that each comes to, and how what a function hands back makes that step. Assumes nothing.
use Rattle.std.specs.Prelude.{None}
use mathlib.Core.Path.{◌≡◌, refl, sym, ap, ◌∙◌}
use Prim.Native.Nat.{ℕ}
use mathlib.Core.List.{List, []}
use mathlib.Core.Bool.{Bool, true, false, cond}
use lib.ListN.{length, get_or}
use lib.Dec.{eqb}
use borrow.Author.Tests.{ne_eqb}
use Rattle.chars.specs.Put.{put}
use Rattle.chars.proofs.PutLaws.{put-none}
use Rattle.model.specs.Limits.{reply_head}
use Rattle.model.specs.Frame.{Request}
use Rattle.model.specs.Outcome.{number_of}
use Rattle.model.specs.Config.{Config}
use Rattle.model.specs.State.{Areas, Inner}
use Rattle.model.specs.Change.{stays}
use Rattle.model.specs.Scan.{Scan, refuses, Fills, counts}
use Rattle.model.specs.Inputs as points
use Rattle.model.specs.Blocks as blocks
use Rattle.model.specs.Tables.{table_area}
use Rattle.model.specs.Plans.{plans_of}
use Rattle.model.specs.Clock.{Timed, set_time_of, read_time_of}
use Rattle.model.specs.Step.{
  with_clock,
  with_write,
  with_words,
  with_configure,
  with_error,
  scanned,
  changed,
  timed,
  written,
  executed,
  internal_of,
  broadcast_of,
  return_of,
  restarted,
  Stepped,
  alone,
  initial_step,
  internal_step,
}
use Rattle.model.specs.declared.Outcome.{Outcome}
use Rattle.model.specs.declared.Outcome.TheVariants.{Done, Unknown, WrongCount}
use Rattle.model.specs.declared.Filled.{Filled}
use Rattle.model.specs.declared.Core.{Core}
use Rattle.model.proofs.Conditions.{by_bool}
use Rattle.model.proofs.PlanLaws.{plans-long}
use Rattle.points.proofs.MeansLaws.{sets_long, reset_sets, reset-count-means}
use Rattle.blocks.specs.Answers.{WritesAs, ExecutesAs}
use Rattle.blocks.specs.declared.Written.{Written}
use Rattle.blocks.specs.declared.Executed.{Executed}
use Rattle.layout.specs.Unit.{Unit, NumbersOnly, numbers_in, unit_long, plans_region, unit_in, config_in, set_words, set_fixed, set_plans, put_word, put_plans}
use Rattle.layout.proofs.UnitLaws.{plans-written, length-put_in}
use Rattle.layout.specs.Kept.{areas_by, areas_in}
use Rattle.model.specs.declared.Port.{Port}
use Rattle.layout.specs.Numbers.{Written as Kept}
use Rattle.serve.specs.declared.step.Step.{Step}
use Rattle.serve.specs.Promises.{Tame, StepPromise, common_of, Unshifted}
use Rattle.serve.proofs.KeptLaws.{steady-means, steady-same, steady_then}
use Rattle.serve.proofs.TameLaws.{mute, bare_tame}

-- ---- the plans after an EXECUTE, made anew or as they were

abbrev pub planned_anew : List ℕ → Areas → Bool → Areas
planned_anew table a b =
    record { words = a.words; values = a.values; fixed = a.fixed; block = a.block; changed = a.changed; samples = a.samples; plans = cond b (plans_of table (table_area a.fixed)) a.plans }

-- ---- which step

module _ (c : Config) (k : Core) (a : Areas) (lag : ℕ) (q : Request) where
  -- what a broadcast knows too
  pub common_reset : q.command ≡ 0x11 → common_of c k a lag q ≡ changed k a (points.reset_count_of c.inputs a.words q)
  common_reset e = simp e

  pub common_time : q.command ≡ 0x38 → common_of c k a lag q ≡ timed k a (set_time_of lag k.clock q)
  common_time e = simp e

  pub common_unknown : (q.command ≡ 0x11 → ⊥) → (q.command ≡ 0x38 → ⊥) → common_of c k a lag q ≡ scanned k a (refuses Unknown)
  common_unknown f₀ f₁ = simp (ne_eqb _ _ f₀, ne_eqb _ _ f₁)

  pub broadcast_common : q.function ≡ 0x20 → broadcast_of c k a lag q ≡ common_of c k a lag q
  unfolding broadcast_of
  broadcast_common e = simp e

  pub broadcast_not : (q.function ≡ 0x20 → ⊥) → broadcast_of c k a lag q ≡ scanned k a (refuses Unknown)
  unfolding broadcast_of
  broadcast_not n = simp (ne_eqb _ _ n)

module _ (c : Config) (i : Inner) (lag : ℕ) (q : Request) where
  -- function 20h by command
  pub internal_initial : q.command ≡ 0x00 → internal_step c i lag q ≡ initial_step i q
  unfolding internal_step
  internal_initial e = simp e

  pub internal_write : q.command ≡ 0x30 → internal_step c i lag q ≡ alone i (written i.core i.areas (blocks.write_of i.core.write q))
  unfolding internal_step internal_of
  internal_write e = simp e

  pub internal_execute : q.command ≡ 0x31 → internal_step c i lag q ≡ alone i (executed c.inputs i.core i.areas (blocks.execute_of i.core.write i.areas.fixed i.areas.block q))
  unfolding internal_step internal_of
  internal_execute e = simp e

  pub internal_common : (q.command ≡ 0x00 → ⊥) → (q.command ≡ 0x30 → ⊥) → (q.command ≡ 0x31 → ⊥)
      → internal_step c i lag q ≡ alone i (common_of c i.core i.areas lag q)
  unfolding internal_step internal_of
  internal_common f₀ f₁ f₂ = simp (ne_eqb _ _ f₀, ne_eqb _ _ f₁, ne_eqb _ _ f₂)

  -- it leaves the files
  pub internal_stays : (internal_step c i lag q).change ≡ stays
  unfolding internal_step initial_step alone
  internal_stays = by_bool (eqb q.command 0x00) (λ a. by_bool (counts 0 q) (λ b. rw (a, b)) (λ b. rw (a, b))) (λ a. rw a)

-- function 28h by command
module _ (i : Inner) (q : Request) where
  pub return_read : q.command ≡ 0x30 → alone i (return_of i.core i.areas q) ≡ alone i (scanned i.core i.areas (blocks.read_of i.areas.fixed i.areas.block q))
  unfolding return_of
  return_read e = simp e

  pub return_time : q.command ≡ 0x31 → alone i (return_of i.core i.areas q) ≡ alone i (scanned i.core i.areas (read_time_of i.core.clock q))
  unfolding return_of
  return_time e = simp e

  pub return_unknown : (q.command ≡ 0x30 → ⊥) → (q.command ≡ 0x31 → ⊥) → alone i (return_of i.core i.areas q) ≡ alone i (scanned i.core i.areas (refuses Unknown))
  unfolding return_of
  return_unknown f₀ f₁ = simp (ne_eqb _ _ f₀, ne_eqb _ _ f₁)

  -- it leaves the files
  pub return_stays : (alone i (return_of i.core i.areas q)).change ≡ stays
  unfolding alone
  return_stays = refl

-- ---- what a function hands back

module _ (i : Inner) {m : Stepped} {a : Areas} {p : Port} {ls entry exit : List ℕ} {r : Step} where
  pub acts_scan : {x : Scan} (f : Filled) → Tame x.outcome x.chars → m ≡ alone i (scanned i.core i.areas x) → Fills entry exit x f
      → r ≡ record { outcome = f.outcome; action = None; count = f.count } → Kept i.core i.history.memory p ls → a ≡ i.areas
      → StepPromise m a p ls entry exit r
  unfolding alone scanned
  acts_scan f t z w e k y =
      rw (z, e, y) (record { ended = w.ended; acted = refl; counted = w.counted; written = w.written; kept = k; areas = refl; tame = t })

  -- no data, with this core
  pub acts-refused : {k : Core} {o : Outcome} → m ≡ alone i (scanned k i.areas (refuses o)) → exit ≡ entry
      → r ≡ record { outcome = o; action = None; count = 0 } → Kept k i.history.memory p ls → a ≡ i.areas
      → StepPromise m a p ls entry exit r
  unfolding alone scanned
  acts-refused z x e k y =
      let t = mute in
      rw (z, e, y, x) (record { ended = refl; acted = refl; counted = refl; written = sym (put-none entry reply_head); kept = k; areas = refl; tame = t })

  -- 20h/11h changes the words
  pub acts-changed : {x : points.Changed} (f : Filled) → Tame x.says.outcome x.says.chars → m ≡ alone i (changed i.core i.areas x) → Fills entry exit x.says f
      → r ≡ record { outcome = f.outcome; action = None; count = f.count } → Kept i.core i.history.memory p ls → a ≡ with_words i.areas x.area
      → StepPromise m a p ls entry exit r
  unfolding alone changed
  acts-changed f t z w e k y =
      rw (z, e, y)
      (record { ended = w.ended; acted = refl; counted = w.counted; written = w.written; kept = k; areas = refl; tame = t })

  -- 20h/30h
  pub acts-written : {x : blocks.WriteResult} (f : Written) → x.says.chars ≡ [] → m ≡ alone i (written i.core i.areas x) → WritesAs x f → exit ≡ entry
      → r ≡ record { outcome = f.outcome; action = None; count = 0 } → Kept (with_write i.core f.write) i.history.memory p ls → a ≡ i.areas
      → StepPromise m a p ls entry exit r
  unfolding alone written
  acts-written f bare z w x e k y =
      let t = bare_tame bare in
      rw (z, e, y, x)
      (record { ended = w.ended; acted = refl; counted = sym (ap length bare); written = sym (put-none entry reply_head) ∙ ap (put entry reply_head) (sym bare); kept = rw (← w.waiting) k; areas = refl; tame = t })

  -- 20h/31h
  pub acts-executed : (table : List ℕ) {x : blocks.Executed} {u v bl : List ℕ} (f : Executed) → x.says.chars ≡ [] → m ≡ alone i (executed table i.core i.areas x)
      → ExecutesAs u x v bl f → exit ≡ entry
      → r ≡ record { outcome = f.outcome; action = None; count = 0 }
      → Kept (with_error (with_configure i.core (cond f.configures false i.core.configure)) (cond f.clears false i.core.error)) i.history.memory p ls
      → a ≡ planned_anew table (record { words = i.areas.words; values = i.areas.values; fixed = x.fixed; block = bl; changed = i.areas.changed; samples = i.areas.samples; plans = i.areas.plans }) f.configures
      → StepPromise m a p ls entry exit r
  unfolding alone executed
  acts-executed table f bare z w x e k y =
      let t = bare_tame bare in
      rw (z, e, y, x)
      (record {
        ended = w.ended;
        acted = refl;
        counted = sym (ap length bare);
        written = sym (put-none entry reply_head) ∙ ap (put entry reply_head) (sym bare);
        kept = rw (w.configured, w.cleared) at k;
        areas = rw (w.block-left, w.configured);
        tame = t;
      })

  -- 20h/38h
  pub acts-timed : {x : Timed} {o : Outcome} → x.says.chars ≡ [] → m ≡ alone i (timed i.core i.areas x) → o ≡ x.says.outcome → exit ≡ entry
      → r ≡ record { outcome = o; action = None; count = 0 } → Kept (with_clock i.core x.clock) i.history.memory p ls → a ≡ i.areas
      → StepPromise m a p ls entry exit r
  unfolding alone timed
  acts-timed bare z w x e k y =
      let t = bare_tame bare in
      rw (z, e, y, x)
      (record { ended = w; acted = refl; counted = sym (ap length bare); written = sym (put-none entry reply_head) ∙ ap (put entry reply_head) (sym bare); kept = k; areas = refl; tame = t })

  -- 20h/00
  pub acts_initial : (q : Request) → m ≡ initial_step i q → exit ≡ entry
      → r ≡ record { outcome = cond (eqb (length q.body) 0) Done WrongCount; action = None; count = 0 }
      → Kept (cond (eqb (length q.body) 0) (restarted i.core) i.core) (cond (eqb (length q.body) 0) None i.history.memory) p ls
      → a ≡ i.areas → StepPromise m a p ls entry exit r
  unfolding initial_step alone scanned counts
  acts_initial q z x e k y =
      by_bool (eqb (length q.body) 0)
      (λ b.
      rw (z, e, y, x, b)
      (record { ended = refl; acted = refl; counted = refl; written = sym (put-none entry reply_head); kept = rw b at k; areas = refl; tame = mute }))
      (λ b.
      rw (z, e, y, x, b)
      (record { ended = refl; acted = refl; counted = refl; written = sym (put-none entry reply_head); kept = rw b at k; areas = refl; tame = mute }))

-- ---- what is left of the unit's memory

module _ (u : List ℕ) where
  pub unshifted : Unshifted u u
  unshifted = record { steady = steady-same u; counts = refl }

  pub unshifted_words : (v : List ℕ) {ws : List ℕ} → unit_in v ≡ set_words (unit_in u) ws → length v ≡ length u → Unshifted u v
  unshifted_words v e l = record { steady = steady-means u v e refl refl refl refl l; counts = ap (λ (x : Unit). x.counts) e }

  pub unshifted_fixed : (v : List ℕ) {fs : List ℕ} → unit_in v ≡ set_fixed (unit_in u) fs → length v ≡ length u → Unshifted u v
  unshifted_fixed v e l = record { steady = steady-means u v e refl refl refl refl l; counts = ap (λ (x : Unit). x.counts) e }

  pub unshifted_numbers : (v : List ℕ) → NumbersOnly u v → Unshifted u v
  unshifted_numbers v r =
      record {
        steady = steady-means u v r.means refl refl refl refl r.long;
        counts = ap (λ (x : Unit). x.counts) r.means;
      }

  pub unshifted_then : (v w : List ℕ) → Unshifted u v → Unshifted v w → Unshifted u w
  unshifted_then v w a b =
      record { steady = steady_then u v w a.steady b.steady; counts = b.counts ∙ a.counts }

  -- the areas, where only numbers were written, or with the words as they were left
  pub numbers-kept : (block : List ℕ) (ss : List (List ℕ)) (v : List ℕ) → NumbersOnly u v → areas_in v block ss ≡ areas_in u block ss
  numbers-kept block ss v r = ap (λ (x : Unit). areas_by x block ss) r.means

  pub numbers_by_words : (v : List ℕ) {ws : List ℕ} → unit_in v ≡ set_words (unit_in u) ws → numbers_in v ≡ numbers_in u
  numbers_by_words v e = ap (λ (x : Unit). x.numbers) e

  pub numbers_by_fixed : (v : List ℕ) {fs : List ℕ} → unit_in v ≡ set_fixed (unit_in u) fs → numbers_in v ≡ numbers_in u
  numbers_by_fixed v e = ap (λ (x : Unit). x.numbers) e

  pub words_left : (block : List ℕ) (ss : List (List ℕ)) (v : List ℕ) {ws : List ℕ} → unit_in v ≡ set_words (unit_in u) ws → areas_in v block ss ≡ with_words (areas_in u block ss) ws
  words_left block ss v e = ap (λ (x : Unit). areas_by x block ss) e

  -- the plans, where the tables may have changed
  pub plans-means : (v : List ℕ) (b : Bool) → length u ≡ unit_long
      → v ≡ cond b (put_plans u (plans_of (config_in u).inputs (table_area (unit_in u).fixed))) u
      → (unit_in v ≡ set_plans (unit_in u) (cond b (plans_of (config_in u).inputs (table_area (unit_in u).fixed)) (unit_in u).plans)) × (length v ≡ length u)
  plans-means v true long e =
      (ap unit_in e ∙ plans-written u _ long (plans-long (config_in u).inputs (table_area (unit_in u).fixed)), ap length e ∙ length-put_in u plans_region 0 _)
  plans-means v false long e = (ap unit_in e, ap length e)

  -- of a fixed area that was written before them
  pub plans-left : (v w block : List ℕ) (ss : List (List ℕ)) (b : Bool) {fs : List ℕ} → unit_in v ≡ set_fixed (unit_in u) fs
      → unit_in w ≡ set_plans (unit_in v) (cond b (plans_of (config_in v).inputs (table_area (unit_in v).fixed)) (unit_in v).plans)
      → areas_in w block ss
      ≡ planned_anew (config_in u).inputs (record { words = (unit_in u).words; values = (unit_in u).values; fixed = fs; block = block; changed = (unit_in u).changed; samples = ss; plans = (unit_in u).plans }) b
  plans-left v w block ss b e f = ap (λ (x : Unit). areas_by x block ss) f ∙ ap (λ (x : Unit). planned_anew x.config.inputs (areas_by x block ss) b) e

  pub unshifted_plans : (v : List ℕ) {ps : List ℕ} → unit_in v ≡ set_plans (unit_in u) ps → length v ≡ length u → Unshifted u v
  unshifted_plans v e l = record { steady = steady-means u v e refl refl refl refl l; counts = ap (λ (x : Unit). x.counts) e }

  pub numbers_by_plans : (v : List ℕ) {ps : List ℕ} → unit_in v ≡ set_plans (unit_in u) ps → numbers_in v ≡ numbers_in u
  numbers_by_plans v e = ap (λ (x : Unit). x.numbers) e

  -- 20h/11h
  pub reset-left : (q : Request) (v : List ℕ) {entry exit : List ℕ} {r : Filled} → length u ≡ unit_long
      → Fills entry exit (points.reset_count_of (config_in u).inputs (unit_in u).words q).says r × (v ≡ cond (eqb (number_of r.outcome) 0) (put_word u (get_or q.body 0 0) 0) u)
      → (unit_in v ≡ set_words (unit_in u) (points.reset_count_of (config_in u).inputs (unit_in u).words q).area) × (length v ≡ length u)
  reset-left q v long p =
      let w = reset_sets (points.reset_count_of (config_in u).inputs (unit_in u).words q) u (put_word u (get_or q.body 0 0) 0) p in
      (reset-count-means u long q w, sets_long _ _ _ w)
