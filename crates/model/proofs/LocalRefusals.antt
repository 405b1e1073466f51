-- What a refused local event leaves: all, but that a full file sets bit 3. Assumes nothing.
use Rattle.std.specs.Prelude.{None}
use Prim.Native.Nat.{ℕ, ◌/◌, ◌≤◌}
use mathlib.Core.Path.{◌≡◌, refl, sym, ◌∙◌}
use mathlib.Core.List.{List}
use mathlib.Core.Bool.{true, false, ◌&&◌, true≢false}
use lib.Dec.{ltb}
use native.Mathlib.Omega.{arith}
use Rattle.model.specs.Outcome.{carried_out, answer_number}
use Rattle.model.specs.Config.{Config, has, is_mean}
use Rattle.model.specs.State.{Inner}
use Rattle.model.specs.Change.{applied, dropped_after, added_by, changed_by}
use Rattle.model.specs.Inputs.{settable, has_accumulator, set_word_of, pulses_of}
use Rattle.model.specs.Means.{value_settable}
use Rattle.model.specs.Calculations.{set_value_of}
use Rattle.model.specs.Contacts.{contact_of}
use Rattle.model.specs.History.{record_chars, stored_as}
use Rattle.model.specs.Event.{Local, set_word, set_value, pulses, store, contact, sample, Event, stretch, elapsed, local}
use Rattle.model.specs.Step.{silent, Made, quiet, elapsed_made, local_made, word_made, value_made, contact_made, noted_in, store_made, sampled_made, sample_made, local_of, make_of}
use Rattle.model.specs.Port.{port_after}
use Rattle.model.specs.Refusal.{arrives, succeeded, was_full, refused_local, RefusedLocally}
use Rattle.model.specs.declared.Stored.{Stored}
use Rattle.model.specs.declared.Stored.TheVariants.{Kept, Swapped, Full, NotEquipped, WrongValues}
use Rattle.model.specs.declared.Contact.{Contact}
use Rattle.model.specs.declared.Input.{Input}
use Rattle.model.specs.declared.SpecialCalculation.{SpecialCalculation}
use Rattle.model.specs.declared.File.{File}
use Rattle.model.specs.declared.Port.{Port}
use Rattle.model.proofs.Conditions.{by_cond}

-- r, made by w of the event e, refuses no otherwise than a local event may
pub record Meets {A : Type 0} (i : Inner) (e : Event) (w : A → Made) (r : A) : Type 0 where
  pub refuses : succeeded (w r).answer ≡ false → RefusedLocally i e (w r)

module _ {A : Type 0} {i : Inner} {e : Event} {w : A → Made} {r : A} where
  succeeds : succeeded (w r).answer ≡ true → Meets i e w r
  succeeds d = record { refuses = λ n. absurd (true≢false (sym d ∙ n)) }

  fails : (w r).inner ≡ refused_local (w r).answer i → (w r).action ≡ None → (w r).sent ≡ silent
      → ((p : Port) → port_after p e (w r).answer ≡ p) → answer_number (w r).answer ≤ 16 → Meets i e w r
  fails a b d f g = record { refuses = λ n. record { inner = a; action = b; sent = d; port = f; row = g } }

module _ (c : Config) (i : Inner) where
  set-word_meets : (n : Input) (w : ℕ) → Meets i (local (set_word n w)) (word_made i) (set_word_of c.inputs i.areas.words n.0 w)
  unfolding set_word_of word_made local_made quiet succeeded carried_out refused_local was_full port_after
  set-word_meets n w = by_cond (Meets i (local (set_word n w)) (word_made i)) (has c.inputs n.0 && settable n.0) (λ e. succeeds refl) (λ e. fails refl refl refl (λ p. refl) (omega arith))

  set-value_meets : (n : SpecialCalculation) (v : ℕ) → Meets i (local (set_value n v)) (value_made i) (set_value_of c i.areas.values n.0 v)
  unfolding set_value_of value_made local_made quiet succeeded carried_out refused_local was_full port_after
  set-value_meets n v = by_cond (Meets i (local (set_value n v)) (value_made i)) (value_settable c n.0) (λ e. succeeds refl) (λ e. fails refl refl refl (λ p. refl) (omega arith))

  pulses_meets : (n : Input) (k : ℕ) → Meets i (local (pulses n k)) (word_made i) (pulses_of c.inputs i.areas.words n.0 k)
  unfolding pulses_of word_made local_made quiet succeeded carried_out refused_local was_full port_after
  pulses_meets n k = by_cond (Meets i (local (pulses n k)) (word_made i)) (has_accumulator c.inputs n.0) (λ e. succeeds refl) (λ e. fails refl refl refl (λ p. refl) (omega arith))

  contact_meets : (n : Contact) (s : ℕ) → Meets i (local (contact n s)) (contact_made i) (contact_of c.inputs i.areas.words i.areas.changed n.0 s)
  unfolding contact_of contact_made local_made quiet succeeded carried_out refused_local was_full port_after
  contact_meets n s = by_cond (Meets i (local (contact n s)) (contact_made i)) (has c.inputs (n.0 / 8) && ltb s 2) (λ e. succeeds refl) (λ e. fails refl refl refl (λ p. refl) (omega arith))

  store_meets : (f : File) (x : ℕ) (vs r : List ℕ) (d : Stored) → Meets i (local (store f x vs)) (store_made i f.0 r) d
  unfolding store_made noted_in added_by changed_by applied dropped_after succeeded refused_local was_full port_after
  store_meets f x vs r Kept = succeeds refl
  store_meets f x vs r Swapped = succeeds refl
  store_meets f x vs r Full = fails refl refl refl (λ p. refl) (omega arith)
  store_meets f x vs r NotEquipped = fails refl refl refl (λ p. refl) (omega arith)
  store_meets f x vs r WrongValues = fails refl refl refl (λ p. refl) (omega arith)

  sample_meets : (n : SpecialCalculation) → Meets i (local (sample n)) (λ m. m) (sample_made c i n.0)
  unfolding sample_made sampled_made quiet succeeded carried_out refused_local was_full port_after
  sample_meets n = by_cond (Meets i (local (sample n)) (λ m. m)) (is_mean c n.0) (λ e. succeeds refl) (λ e. fails refl refl refl (λ p. refl) (omega arith))

  each_meets : (e : Local) → Meets i (local e) (local_of c i) e
  unfolding local_of
  each_meets (set_word n w) = record { refuses = (set-word_meets n w).refuses }
  each_meets (set_value n v) = record { refuses = (set-value_meets n v).refuses }
  each_meets (pulses n k) = record { refuses = (pulses_meets n k).refuses }
  each_meets (contact n s) = record { refuses = (contact_meets n s).refuses }
  each_meets (store f x vs) =
      record { refuses = (store_meets f x vs (record_chars (record { event = x; clock = i.core.clock }) vs) (stored_as c i.history f.0 vs)).refuses }
  each_meets (sample n) = record { refuses = (sample_meets n).refuses }

  -- every event but a stretch
  pub local_meets : (e : Event) → arrives e ≡ false → Meets i e (make_of c i) e
  unfolding arrives make_of elapsed_made quiet succeeded carried_out
  local_meets (stretch t) a = absurd (true≢false a)
  local_meets (elapsed ms) a = succeeds refl
  local_meets (local e) a = record { refuses = (each_meets e).refuses }
