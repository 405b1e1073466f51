-- Demand 3 holds of every run of calls from C. Assumes nothing.
use Prim.Native.Nat.{ℕ}
use mathlib.Core.Path.{◌≡◌, refl, sym, ap, ◌∙◌}
use mathlib.Core.List.{List, [], ◌∷◌, ◌++◌, map}
use lib.ListN.{get_or}
use Rattle.model.specs.Config.{Config}
use Rattle.model.specs.State.{Inner, State, held_in, fresh_of}
use Rattle.model.specs.Event.{Stretch, Event, stretch}
use Rattle.model.specs.Run.{Entry, result_of, next_of, entry_of, after_from, trace_from, after, trace}
use Rattle.model.specs.Demand3.{dropped_by}
use Rattle.model.specs.Damage.{Damaged, AlikeEntry, AlikeTrace, none, more}
use Rattle.model.proofs.Damage.{damage, after_append, trace_append}
use Rattle.model.proofs.Demand3.{demand_3}
use Rattle.layout.specs.Unit.{config_in, config_given}
use Rattle.layout.specs.Kept.{Owned, kept_in, state_of}
use Rattle.unit.specs.Calls.{results}
use Rattle.board.specs.Told.{action_number}
use Rattle.board.specs.Runs.{Numbered, numbered}
use Rattle.board.specs.Demand3.{Called, inner_lent, held_lent, dropped_lent, AlikeShown, AlikeRun, none as noneShown, more as moreShown, UnseenCall, Accounts, AccountsFor, CallsDemand3}
use Rattle.board.proofs.RunLaws.{run_config, run_after, run_trace, run_taken}

-- ---- what entries show, in numbers

abbrev told : List Entry → List Numbered
told xs = map numbered (results xs)

told_append : (xs ys : List Entry) → told (xs ++ ys) ≡ told xs ++ told ys
unfolding results
told_append [] ys = refl
told_append (x ∷ xs) ys = ap (λ (k : List Numbered). numbered x.result ∷ k) (told_append xs ys)

alike-told : (a b : Entry) → AlikeEntry a b → AlikeShown (numbered a.result) (numbered b.result)
unfolding numbered
alike-told a b e =
    record { answer = rw e.answer refl; action = rw e.action refl; output = rw e.action refl; sampled = rw e.answer refl; reply = e.reply }

alike_run : {xs ys : List Entry} → AlikeTrace xs ys → AlikeRun (told xs) (told ys)
unfolding results
alike_run none = noneShown
alike_run (more {a = a} {b = b} e k) = moreShown (alike-told a b e) (alike_run k)

-- ---- a run of calls is the definition's

module _ (cs : List ℕ) {es : List Event} {xs : List Numbered} {y : Owned} (r : Called cs es xs y) where
  shown_is : xs ≡ told (trace (config_given cs) es)
  shown_is = run_trace cs refl r.area r.fresh r.room r.runs

  pub state_is : state_of (config_in y.unit) (kept_in y) ≡ after (config_given cs) es
  state_is =
      ap (λ (c : Config). state_of c (kept_in y)) (run_config cs refl r.area r.fresh r.room r.runs)
      ∙ run_after cs refl r.area r.fresh r.room r.runs

  inner_is : inner_lent y ≡ (after (config_given cs) es).inner
  unfolding inner_lent
  inner_is = ap (λ (s : State). s.inner) state_is

  held_is : (g : ℕ) → held_lent y g ≡ held_in (after (config_given cs) es).inner.history.files g
  unfolding held_lent
  held_is g = ap (λ (i : Inner). held_in i.history.files g) inner_is

  dropped_is : (g : ℕ) → dropped_lent y g ≡ dropped_by (after (config_given cs) es) g
  dropped_is g = ap (λ (s : State). get_or s.inner.history.dropped g 0) state_is

-- ---- a damaged stretch among calls

module _ (cs : List ℕ) (ds : List Event) (t : Stretch) (es : List Event) {xs ys : List Numbered} {y z : Owned}
    (d : Damaged t.chars) (a : Called cs (ds ++ (stretch t ∷ es)) xs y) (b : Called cs (ds ++ es) ys z) where
  abbrev c : Config
  c = config_given cs

  abbrev e : Event
  e = stretch t

  split : (zs : List Event) → told (trace c (ds ++ zs)) ≡ told (trace c ds) ++ told (trace_from c (after c ds) zs)
  split zs = ap told (trace_append c (fresh_of c) ds zs) ∙ told_append (trace c ds) (trace_from c (after c ds) zs)

  next_is : after c (ds ++ (e ∷ [])) ≡ next_of c (after c ds) e
  unfolding after_from
  next_is = after_append c (fresh_of c) ds (e ∷ [])

  first : told (trace_from c (after c ds) (e ∷ es)) ≡ numbered (result_of c (after c ds) e) ∷ told (trace_from c (next_of c (after c ds) e) es)
  unfolding trace_from results entry_of
  first = refl

  unseen : UnseenCall xs ys y z
  unfolding numbered action_number
  unseen =
      let u = damage c ds t d es in
      record {
        earlier = told (trace c ds);
        call = numbered (result_of c (after c ds) e);
        later = told (trace_from c (next_of c (after c ds) e) es);
        without = told (trace_from c (after c ds) es);
        parts = shown_is cs a ∙ split (e ∷ es) ∙ ap (λ (k : List Numbered). told (trace c ds) ++ k) first;
        rest = shown_is cs b ∙ split es;
        unanswered = u.unanswered;
        rests = ap action_number u.rests;
        alike = alike_run (rw next_is at u.later);
        kept = inner_is cs a ∙ u.kept ∙ sym (inner_is cs b);
      }

-- ---- the demand

module _ (cs : List ℕ) {es : List Event} {xs : List Numbered} {y : Owned} (r : Called cs es xs y) where
  accounts : Accounts (config_given cs) es xs y
  accounts =
      record {
        shown = shown_is cs r;
        stored = λ g. ((demand_3 (config_given cs)).records es g).stored;
        records = λ g. rw (held_is cs r g) ((demand_3 (config_given cs)).records es g).left;
        dropped = λ g. dropped_is cs r g ∙ ((demand_3 (config_given cs)).records es g).counted;
        oldest = λ g m. rw (held_is cs r g) ((demand_3 (config_given cs)).oldest es g m);
        memory = rw (inner_is cs r) ((demand_3 (config_given cs)).memory es);
      }

  accounts_for : (e : Event) {ys : List Numbered} {z : Owned} → Called cs (es ++ (e ∷ [])) ys z → (g : ℕ) → AccountsFor (config_given cs) es e y z g
  unfolding after_from
  accounts_for e q g =
      let a = (demand_3 (config_given cs)).events es e g in
      record {
        balance = rw (held_is cs r g, inner_is cs r, held_is cs q g, after_append (config_given cs) (fresh_of (config_given cs)) es (e ∷ [])) a.balance;
        release = a.release;
        dropping = λ d. rw (held_is cs r g) (a.dropping d);
      }

-- THE THEOREM
pub calls_demand_3 : (cs : List ℕ) → CallsDemand3 cs
calls_demand_3 cs =
    record {
      taken = λ v g r. run_taken cs refl r.area r.fresh r.room r.runs v g;
      damage = λ ds t es d a b. unseen cs ds t es d a b;
      records = λ r. accounts cs r;
      calls = λ es e r q. accounts_for cs r e q;
    }
