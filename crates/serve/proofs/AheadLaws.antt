-- The WRITE of a pair ahead of its EXECUTE: kept where it is taken, it is what the whole frame leaves, and 5 is its answer nowhere else.
-- Assumes nothing.
use Rattle.std.specs.Prelude.{None}
use mathlib.Core.Path.{◌≡◌, refl, sym, ap, ◌∙◌}
use Prim.Native.Nat.{ℕ, ◌+◌, ◌-◌, ◌≤◌}
use mathlib.Core.List.{List}
use mathlib.Core.Bool.{true, false}
use lib.ListN.{length}
use lib.Dec.{eqb}
use borrow.Author.Tests.{ne_eqb}
use Rattle.chars.specs.Put.{part}
use Rattle.model.specs.Limits.{shortest_frame, longest_reply}
use Rattle.model.specs.Frame.{Request, asked, unit_of, request_in}
use Rattle.model.specs.Outcome.{number_of, answer_number}
use Rattle.model.specs.Config.{Config}
use Rattle.model.specs.State.{Inner}
use Rattle.model.specs.Control.{breaks}
use Rattle.model.specs.Blocks.{write_of}
use Rattle.model.specs.Step.{Made, Stepped, scanned, written, answered, settled, finished, alone, broken_off, step_of, areas_left, served, framed}
use Rattle.model.specs.declared.Outcome.TheVariants.{WriteTaken}
use Rattle.model.specs.declared.Answer.TheVariants.{Ended}
use Rattle.model.specs.declared.Frame.{Frame}
use Rattle.model.proofs.Pairs.{framed-own as own-framed, write-taken}
use Rattle.blocks.specs.Answers.{WritesAs}
use Rattle.blocks.specs.declared.Written.{Written}
use Rattle.layout.specs.Numbers.{core_in, port_in, put_port, put_write, write_numbers, write_in}
use Rattle.layout.specs.Unit.{Renumbered, unit_in, config_in, numbers_in}
use Rattle.layout.proofs.NumbersLaws.{readable-written, written-readable}
use Rattle.layout.proofs.PlaceLaws.{write-written}
use Rattle.layout.proofs.UnitLaws.{numbers-left, numbers_only, numbers_on}
use Rattle.layout.specs.Kept.{samples_held, areas_in, files_held, inner_in, owned_of}
use Rattle.port.specs.Heard.{port_heard_by}
use Rattle.serve.specs.Promises.{FramedPromise}
use Rattle.serve.proofs.CommandLaws.{internal_write, acts-written, unshifted_numbers}
use Rattle.serve.proofs.EndingLaws.{replies-none}
use Rattle.serve.proofs.StepLaws.{step_broken, step_internal, acted-still, alone-stays, makes_renumbered}
use Rattle.serve.proofs.ServedLaws.{step-heard, makes-served}
use Rattle.serve.proofs.StretchLaws.{request_as, framed-own}
use Rattle.serve.proofs.TameLaws.{write_bare}

module _ (c : Config) (i : Inner) (lag : ℕ) (f : Frame) (s : List ℕ) {body : List ℕ} (n : length s ≡ shortest_frame + f.count) (d : body ≡ part s 6 (length s - 8))
    (function : f.function ≡ 0x20) (command : f.command ≡ 0x30) where
  abbrev q : Request
  q = asked f body

  abbrev Refused : Type 0
  Refused = eqb (answer_number (framed c i lag (request_in f s)).answer) 5 ≡ false

  -- for another unit, or for all
  pub ahead-other : (unit_of f.address ≡ c.unit → ⊥) → Refused
  unfolding request_in
  ahead-other k = ne_eqb _ 5 (λ e. k (write-taken c i lag (request_in f s) function command e).0)

  module _ (own : unit_of f.address ≡ c.unit) where
    answers : answer_number (framed c i lag (request_in f s)).answer ≡ number_of (step_of c i lag q).step.says.outcome
    unfolding finished
    answers = rw (request_as s f n d) (ap (λ (m : Made). answer_number m.answer) (own-framed c i lag q own))

    -- 12
    pub ahead_broken : breaks i.core.hold q ≡ true → Refused
    unfolding broken_off scanned alone
    ahead_broken b = rw (answers, step_broken c i lag q b) refl

    module _ (b : breaks i.core.hold q ≡ false) {r : Written} (w : WritesAs (write_of i.core.write q) r) where
      pub wrote : step_of c i lag q ≡ alone i (written i.core i.areas (write_of i.core.write q))
      wrote = step_internal c i lag q b function ∙ internal_write c i lag q command

      outcome_as : answer_number (framed c i lag (request_in f s)).answer ≡ number_of r.outcome
      unfolding written alone
      outcome_as = answers ∙ ap (λ (m : Stepped). number_of m.step.says.outcome) wrote ∙ ap number_of (sym w.ended)

      -- 15
      pub ahead-held : eqb (number_of r.outcome) 5 ≡ false → Refused
      ahead-held k = ap (λ (n : ℕ). eqb n 5) outcome_as ∙ k

      pub outcome-taken : number_of r.outcome ≡ 5 → r.outcome ≡ WriteTaken
      unfolding request_in finished written alone
      outcome-taken five =
          let t = (write-taken c i lag (request_in f s) function command (outcome_as ∙ five)).1 in
          let a : (framed c i lag (request_in f s)).answer ≡ Ended r.outcome =
          ap (λ (x : Request). (framed c i lag x).answer) (request_as s f n d) ∙ ap (λ (m : Made). m.answer) (own-framed c i lag q own)
          ∙ ap (λ (m : Stepped). Ended m.step.says.outcome) wrote ∙ ap Ended (sym w.ended) in
          let e : Ended r.outcome ≡ Ended WriteTaken = sym a ∙ t.answer in
          cc

-- taken
pub ahead-taken : (u v w block area entry : List ℕ) (lag : ℕ) (f : Frame) (s : List ℕ) {body : List ℕ} (r : Written) → length s ≡ shortest_frame + f.count → body ≡ part s 6 (length s - 8)
    → f.function ≡ 0x20 → f.command ≡ 0x30 → unit_of f.address ≡ (config_in u).unit → breaks (core_in (numbers_in u)).hold (asked f body) ≡ false
    → WritesAs (write_of (core_in (numbers_in u)).write (asked f body)) r → r.outcome ≡ WriteTaken
    → Renumbered u v (put_write (write_numbers r.write) (numbers_in u)) × (write_in (write_numbers r.write) ≡ r.write)
    → Renumbered v w (put_port (port_heard_by (port_in (numbers_in v)) (length s) r.outcome) (numbers_in v)) → longest_reply ≤ length entry
    → FramedPromise lag f s (owned_of u block area) (owned_of w block area) entry entry (record { outcome = WriteTaken; action = None; sent = 0 })
unfolding settled served finished answered
ahead-taken u v w block area entry lag f s {body} r n d function command own b writes taken kept heard long =
    let i = inner_in u block area in
    let q = asked f body in
    let z = wrote (config_in u) i lag f s n d function command own b writes in
    let only = numbers_on _ _ _ (numbers_only _ _ kept.0) (numbers_only _ _ heard) in (
      λ ready stands.
          let step = acts-written i {a = areas_in u block (samples_held u area)} {exit = entry} r (write_bare _ q) z writes refl refl (write-written (readable-written _ stands) (numbers-left _ _ kept.0, kept.1)) refl in
          let h = rw (taken, n) at (step-heard (length s) step (numbers-left _ _ heard)) in
          let a = acted-still {c = config_in u} {fs = files_held u area} {area = area} {held = (unit_in u).counts} (alone-stays i _ z) h in
          makes_renumbered _ u w block (samples_held u area) only
          (framed-own (config_in u) i lag s (port_in (numbers_in u)).mark (port_in (numbers_in u)) f n d refl own
          (record {
            makes = makes-served (config_in u) i lag q _ long h a.files (replies-none entry WriteTaken _ refl) (readable-written _ (written-readable h.kept)) refl (unfold areas_left in refl);
            changed = a.changed;
          })),
      (unshifted_numbers u _ only).steady,
    )
