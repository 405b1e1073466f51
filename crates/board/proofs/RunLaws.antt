-- A run of calls from C is a run of the unit's entries: no call of the library leaves what the next turns away. Assumes nothing.
use mathlib.Core.Path.{◌≡◌, refl, sym, ap, subst, ◌∙◌}
use Prim.Native.Nat.{ℕ, ◌≤◌}
use mathlib.Core.List.{List, [], ◌∷◌, map}
use mathlib.Core.Bool.{true}
use lib.ListN.{length}
use native.Mathlib.Omega.{arith}
use Rattle.model.specs.Outcome.{answer_number}
use Rattle.model.specs.Config.{Config, valid_of}
use Rattle.model.specs.State.{State, fresh_of}
use Rattle.model.specs.Fits.{fits}
use Rattle.model.specs.Formed.{AllGiven}
use Rattle.chars.specs.Word.{word, value}
use Rattle.model.specs.Event.{set_word, set_value, pulses, store, contact, sample, Event, stretch, elapsed, local}
use Rattle.model.specs.Step.{quiet, elapsed_made, local_made, word_made, value_made, contact_made, store_made, local_of, make_of}
use Rattle.model.specs.Run.{Result, short, decided, turned_away, shows, result_of, next_of, entry_of, after_from, trace_from, after, trace}
use Rattle.model.specs.declared.SpecialCalculation.{SpecialCalculation}
use Rattle.model.specs.declared.Answer.{Answer}
use Rattle.model.specs.declared.Answer.TheVariants.{Ended, Storing, Sampling}
use Rattle.model.specs.declared.Stored.TheVariants.{Kept as KeptRecord, Swapped, Full, NotEquipped, WrongValues}
use Rattle.model.proofs.Conditions.{by_bool, by_cond}
use Rattle.model.proofs.TurnedAway.{short_away, works, made_row}
use Rattle.model.proofs.Valid.{fresh-fits, step_fits}
use Rattle.layout.specs.Unit.{config_in, config_given}
use Rattle.layout.specs.Records.{room_of}
use Rattle.layout.specs.Kept.{state_of, Owned, owned_of, kept_in, standing}
use Rattle.unit.specs.Fresh.{FreshPromise}
use Rattle.unit.specs.Calls.{NoStretch, results as resultsOf, Calls, none as noCalls, heard as heardCall, heeded as heededCall}
use Rattle.unit.proofs.FreshLaws.{laid-config, laid-state, laid-stands}
use Rattle.unit.proofs.CallLaws.{calls-after, calls-trace}
use Rattle.board.specs.Told.{action_number, output_number, missing_number, bits_number, sampled_by}
use Rattle.board.specs.Runs.{Numbered, numbered, unsampled, sample_shown, NoSample, Runs, none, heard, heeded, sampled, RunsAs, Taken, none as none_taken, one}
use Rattle.board.proofs.ToldLaws.{shown-told}

-- ---- what a call showed, in numbers

-- only a sample tells of samples
no_sample_made : (c : Config) (s : State) (e : Event) → NoStretch e → NoSample e → sampled_by (make_of c s.inner e).answer ≡ unsampled
unfolding NoStretch NoSample make_of elapsed_made local_of word_made value_made contact_made local_made store_made quiet sampled_by missing_number bits_number word value
no_sample_made c s (stretch t) n m = absurd (n t refl)
no_sample_made c s (elapsed ms) n m = refl
no_sample_made c s (local (set_word i w)) n m = refl
no_sample_made c s (local (set_value i v)) n m = refl
no_sample_made c s (local (pulses i p)) n m = refl
no_sample_made c s (local (contact i p)) n m = refl
no_sample_made c s (local (store f t vs)) n m = refl
no_sample_made c s (local (sample i)) n m = absurd (m i refl)

no_sample-told : (c : Config) (s : State) (e : Event) → NoStretch e → NoSample e → sampled_by (result_of c s e).answer ≡ unsampled
unfolding result_of decided turned_away shows sampled_by missing_number bits_number word value
no_sample-told c s e n m =
    by_cond {A = Result} (λ r. sampled_by r.answer ≡ unsampled) (short e) (λ _. refl)
    (λ _. by_cond {A = Result} (λ r. sampled_by r.answer ≡ unsampled) (fits c s) (λ _. no_sample_made c s e n m) (λ _. refl))

sample-heard : (n : SpecialCalculation) → NoStretch (local (sample n))
unfolding NoStretch
sample-heard n s e = subst Heard e tt
  where
    Heard : Event → Type 0
    Heard (stretch t) = ⊥
    Heard (elapsed ms) = Unit
    Heard (local l) = Unit

pub runs_as : {x y : Owned} {es : List Event} {xs : List Numbered} → standing x ≡ true → Runs x es xs y → RunsAs x es xs y
unfolding numbered action_number output_number
runs_as e none = record { results = []; calls = noCalls; shown = refl; stand = e; steady = record { layout = refl; config = refl; long = refl } }
runs_as {y = z} e (heard {y = y} {exit = exit} {es = es} a rest) =
    let b = a.serves.read e in
    let w = runs_as b.stand rest in
    let t = b.turns in
    record {
      results = _;
      calls = heardCall t (subst (λ (c : Config). Calls c (kept_in y) es w.results (kept_in z)) b.steady.config w.calls);
      shown = λ i. shown-told a.turn exit t.small a.number a.told i ∷ w.shown i;
      stand = w.stand;
      steady = record { layout = w.steady.layout ∙ b.steady.layout; config = w.steady.config ∙ b.steady.config; long = w.steady.long ∙ b.steady.long };
    }
runs_as {y = z} e (sampled {y = y} {c = n} {es = es} a rest) =
    let b = a.tells.read e in
    let w = runs_as b.stand rest in
    record {
      results = _;
      calls = heededCall (sample-heard n) b.heeds (subst (λ (c : Config). Calls c (kept_in y) es w.results (kept_in z)) b.steady.config w.calls);
      shown = λ i. sample_shown (a.said i) (a.told i) ∷ w.shown i;
      stand = w.stand;
      steady = record { layout = w.steady.layout ∙ b.steady.layout; config = w.steady.config ∙ b.steady.config; long = w.steady.long ∙ b.steady.long };
    }
runs_as {x = x} {y = z} e (heeded {y = y} {e = ev} {es = es} l o a rest) =
    let b = a.tells.read e in
    let w = runs_as b.stand rest in
    record {
      results = _;
      calls = heededCall l b.heeds (subst (λ (c : Config). Calls c (kept_in y) es w.results (kept_in z)) b.steady.config w.calls);
      shown = λ i. record { answer = a.said i; action = 0; output = 0; sampled = (sym (ap sampled_by b.heeds.answered ∙ no_sample-told (config_in x.unit) _ ev l o)) i; reply = [] } ∷ w.shown i;
      stand = w.stand;
      steady = record { layout = w.steady.layout ∙ b.steady.layout; config = w.steady.config ∙ b.steady.config; long = w.steady.long ∙ b.steady.long };
    }

-- ---- a unit that fits gives no 17

answer-row : (c : Config) (s : State) (e : Event) (a : Answer) → (make_of c s.inner e).answer ≡ a → answer_number a ≡ 17 → ⊥
answer-row c s e (Ended o) h n = omega (arith, made_row c s.inner e o h)
answer-row c s e (Storing KeptRecord) h n = omega arith
answer-row c s e (Storing Swapped) h n = omega arith
answer-row c s e (Storing Full) h n = omega arith
answer-row c s e (Storing NotEquipped) h n = omega arith
answer-row c s e (Storing WrongValues) h n = omega arith
answer-row c s e (Sampling r) h n = omega arith

result_row : (c : Config) (s : State) (e : Event) → fits c s ≡ true → answer_number (result_of c s e).answer ≡ 17 → ⊥
unfolding turned_away shows
result_row c s e f n =
    by_bool (short e)
    (λ b. let q : 18 ≡ 17 = sym (ap (λ (r : Result). answer_number r.answer) (short_away c s e b).0) ∙ n in omega arith)
    (λ b. answer-row c s e _ refl (sym (ap (λ (r : Result). answer_number r.answer) (works c s e b f).0) ∙ n))

trace-taken : (c : Config) (s : State) (es : List Event) → fits c s ≡ true → AllGiven es → Taken (map numbered (resultsOf (trace_from c s es)))
unfolding resultsOf trace_from entry_of numbered
trace-taken c s [] f g = none_taken
trace-taken c s (e ∷ es) f g = one (result_row c s e f) (trace-taken c (next_of c s e) es (step_fits c s e g.0 f) g.1)

-- ---- from a fresh unit

-- its configuration's characters, a parameter block as long as they say, and the room for records that they ask for
module _ (cs : List ℕ) {n : ℕ} (said : n ≡ (config_given cs).block) {u bl : List ℕ} (area : List ℕ) (f : FreshPromise cs n u bl) (room : room_of (config_in u) ≤ length area) where
  module _ {es : List Event} {xs : List Numbered} {y : Owned} (r : Runs (owned_of u bl area) es xs y) where
    ran : RunsAs (owned_of u bl area) es xs y
    ran = runs_as (laid-stands cs said area f room) r

    -- the configuration stays the one that was given
    pub run_config : config_in y.unit ≡ config_given cs
    run_config = ran.steady.config ∙ laid-config cs said area f

    over : {A : Type 0} (g : Config → A) → g (config_in u) ≡ g (config_given cs)
    over g = ap g (laid-config cs said area f)

    -- the state afterwards is the definition's
    pub run_after : state_of (config_given cs) (kept_in y) ≡ after (config_given cs) es
    run_after =
        sym (over (λ c. state_of c (kept_in y))) ∙ calls-after (config_in u) ran.calls
        ∙ ap (λ s. after_from (config_in u) s es) (laid-state cs said area f) ∙ over (λ c. after c es)

    -- what was shown is the definition's trace in numbers
    pub run_trace : xs ≡ map numbered (resultsOf (trace (config_given cs) es))
    run_trace =
        ran.shown
        ∙ ap (map numbered) (calls-trace (config_in u) ran.calls ∙ ap (λ s. resultsOf (trace_from (config_in u) s es)) (laid-state cs said area f) ∙ over (λ c. resultsOf (trace c es)))

    -- a valid configuration is never turned away by 17
    pub run_taken : valid_of (config_given cs) ≡ true → AllGiven es → Taken xs
    run_taken v g = subst Taken (sym run_trace) (trace-taken (config_given cs) (fresh_of (config_given cs)) es (fresh-fits (config_given cs) v) g)
