-- Demand 3 holds for every configuration and every run from a fresh unit. Assumes nothing.
use Prim.Native.Nat.{ℕ, ◌+◌}
use mathlib.Core.Path.{◌≡◌, refl, sym, ap, ap₂, subst, ◌∙◌}
use mathlib.Core.List.{List, [], ◌∷◌, ◌++◌, append-nil, append_assoc, append_cancel_right}
use lib.ListN.{length, length-append}
use native.Mathlib.Omega.{arith}
use Rattle.model.specs.Config.{Config}
use Rattle.model.specs.Frame.{heard_of}
use Rattle.model.specs.State.{Inner, State, held_in, fresh_of}
use Rattle.model.specs.Event.{Stretch, Event, stretch}
use Rattle.model.specs.Run.{Entry, result_of, next_of, entry_of, after_from, trace_from, after, trace}
use Rattle.model.specs.Formed.{Formed}
use Rattle.model.specs.Line.{
  Shown,
  other,
  shown_in,
  shown_by,
  shown,
  Latest,
  nobody,
  latest_after,
  released_by,
  latest_from,
  released_from,
  stored_by,
  stored_in,
  latest_in,
  released_in,
  Lot,
  drops_by,
  spared_by,
  ledger_after,
  ledger_from,
  ledger_in,
}
use Rattle.model.specs.Damage.{Damaged, AlikeEntry, AlikeTrace, none, more}
use Rattle.model.specs.Demand3.{held_by, without, Demand3}
use Rattle.model.specs.declared.Answer.{Answer}
use Rattle.model.specs.declared.Clock.{Clock}
use Rattle.model.proofs.Damage.{Twins, twins_next, alike_entry, damage, damaged_twins, run_port, after_append, trace_append, seam}
use Rattle.model.proofs.Shape.{step_formed, run_formed}
use Rattle.model.proofs.Shown.{shown_unheard}
use Rattle.model.proofs.Releases.{Matches, released-other}
use Rattle.model.proofs.Records.{moved_on, run_matches, remembered, came, repeated}
use Rattle.model.proofs.Ledgers.{accounted, ledger, kept-all}

-- ---- traces in two parts

stored_append : (xs ys : List Entry) (g : ℕ) → stored_in (xs ++ ys) g ≡ stored_in xs g ++ stored_in ys g
unfolding stored_in
stored_append [] ys g = refl
stored_append (x ∷ xs) ys g =
    let z = stored_by x.event x.clock x.result.answer g in
    ap (λ (k : List (List ℕ)). z ++ k) (stored_append xs ys g) ∙ sym (append_assoc z (stored_in xs g) (stored_in ys g))

stored-once : (a b : Entry) (g : ℕ) → AlikeEntry a b → stored_by a.event a.clock a.result.answer g ≡ stored_by b.event b.clock b.result.answer g
stored-once a b g e = rw (e.event, e.clock, e.answer)

stored-alike : {xs ys : List Entry} (g : ℕ) → AlikeTrace xs ys → stored_in xs g ≡ stored_in ys g
unfolding stored_in
stored-alike g none = refl
stored-alike g (more {a = a} {b = b} e k) = ap₂ (λ (x y : List (List ℕ)). x ++ y) (stored-once a b g e) (stored-alike g k)

released_append : (c : Config) (l : Latest) (xs ys : List Entry) (g : ℕ) → released_from c l (xs ++ ys) g ≡ released_from c l xs g ++ released_from c (latest_from c l xs) ys g
unfolding released_from latest_from
released_append c l [] ys g = refl
released_append c l (x ∷ xs) ys g =
    let z = released_by l (shown c x) g in
    ap (λ (k : List (List ℕ)). z ++ k) (released_append c (latest_after l (shown c x)) xs ys g) ∙ sym (append_assoc z _ _)

ledger_append : (c : Config) (l : Latest) (n m : ℕ) (lots : List Lot) (xs ys : List Entry) (g : ℕ) → m ≡ n + length (released_from c l xs g)
    → ledger_from c l n lots (xs ++ ys) g ≡ ledger_from c (latest_from c l xs) m (ledger_from c l n lots xs g) ys g
unfolding released_from latest_from ledger_from
ledger_append c l n m lots [] ys g e = let z : m ≡ n = omega arith in rw z
ledger_append c l n m lots (x ∷ xs) ys g e =
    let z = released_by l (shown c x) g in
    ledger_append c (latest_after l (shown c x)) _ m _ xs ys g (omega (arith, length-append z (released_from c (latest_after l (shown c x)) xs g)))

-- ---- two units that are the same but for the port

module _ (c : Config) (g : ℕ) where
  -- an event releases and drops the same
  module _ (s t : State) (w : Twins s t) (l : Latest) (m : Matches s.inner.history l) (k : Matches t.inner.history l) (f : Formed c s) (h : Formed c t) (e : Event) where
    abbrev a : AlikeEntry (entry_of c s e) (entry_of c t e)
    a = alike_entry c s t w e

    -- what was held, and is stored, by an event of this answer
    abbrev offers : Inner → Clock → Answer → List (List ℕ)
    offers i k x = without (drops_by e x g) (length (spared_by l g)) (held_in i.history.files g) ++ stored_by e k x g

    same_offers : offers s.inner s.inner.core.clock (result_of c s e).answer ≡ offers t.inner t.inner.core.clock (result_of c t e).answer
    unfolding entry_of
    same_offers = λ i. offers (w.inner i) (a.clock i) (a.answer i)

    same-released : released_by l (shown c (entry_of c s e)) g ≡ released_by l (shown c (entry_of c t e)) g
    same-released =
        append_cancel_right _ _ (held_by (next_of c t e) g)
        (ap (λ (i : Inner). released_by l (shown c (entry_of c s e)) g ++ held_in i.history.files g) (sym (twins_next c s t w e).inner)
        ∙ sym ((moved_on c s l m f e).moved g) ∙ same_offers ∙ (moved_on c t l k h e).moved g)

    same_matches : Matches (next_of c t e).inner.history (latest_after l (shown c (entry_of c s e)))
    same_matches = subst (λ (i : Inner). Matches i.history (latest_after l (shown c (entry_of c s e)))) (twins_next c s t w e).inner (moved_on c s l m f e).matches

    same-latest : latest_after l (shown c (entry_of c s e)) ≡ latest_after l (shown c (entry_of c t e))
    same-latest = same_matches.latest ∙ sym (moved_on c t l k h e).matches.latest

    same_lots : (n : ℕ) (xs : List Lot)
        → ledger_after xs (drops_by e (result_of c s e).answer g) n (stored_by e s.inner.core.clock (result_of c s e).answer g)
        ≡ ledger_after xs (drops_by e (result_of c t e).answer g) n (stored_by e t.inner.core.clock (result_of c t e).answer g)
    unfolding entry_of
    same_lots n xs = λ i. ledger_after xs (drops_by e (a.answer i) g) n (stored_by e (a.clock i) (a.answer i) g)

  same_from : (s t : State) → Twins s t → (l : Latest) → Matches s.inner.history l → Matches t.inner.history l → Formed c s → Formed c t → (n : ℕ) (xs : List Lot) (es : List Event)
      → (released_from c l (trace_from c s es) g ≡ released_from c l (trace_from c t es) g) × (ledger_from c l n xs (trace_from c s es) g ≡ ledger_from c l n xs (trace_from c t es) g)
  unfolding trace_from released_from ledger_from entry_of
  same_from s t w l m k f h n xs [] = (refl, refl)
  same_from s t w l m k f h n xs (e ∷ es) =
      let r = same-released s t w l m k f h e in
      let q = same-latest s t w l m k f h e in
      let o = same_lots s t w l m k f h e (n + length (spared_by l g)) xs in
      let z = same_from (next_of c s e) (next_of c t e) (twins_next c s t w e) (latest_after l (shown c (entry_of c s e))) (moved_on c s l m f e).matches (same_matches s t w l m k f h e)
      (step_formed c s e f) (step_formed c t e h) (n + length (released_by l (shown c (entry_of c s e)) g)) _ es in (
        ap₂ (λ (x y : List (List ℕ)). x ++ y) r (z.0 ∙ ap (λ (b : Latest). released_from c b (trace_from c (next_of c t e) es) g) q),
        z.1 ∙ (λ i. ledger_from c (q i) (n + length (r i)) (o i) (trace_from c (next_of c t e) es) g),
      )

module _ (c : Config) (xs : List Event) (t : Stretch) (d : Damaged t.chars) (ys : List Event) (g : ℕ) where
  stored-later : stored_in (trace_from c (after c xs) (stretch t ∷ ys)) g ≡ stored_in (trace_from c (after c xs) ys) g
  unfolding trace_from after_from stored_in entry_of stored_by
  stored-later =
      stored-alike g (rw (after_append c (fresh_of c) xs (stretch t ∷ [])) at (damage c xs t d ys).later)

  stored_same : stored_in (trace c (xs ++ (stretch t ∷ ys))) g ≡ stored_in (trace c (xs ++ ys)) g
  stored_same =
      rw (trace_append c (fresh_of c) xs (stretch t ∷ ys), trace_append c (fresh_of c) xs ys, stored_append, stored_append)
      (ap (λ (z : List (List ℕ)). stored_in (trace c xs) g ++ z) stored-later)

  abbrev e : Event
  e = stretch t

  abbrev s : State
  s = after c xs

  abbrev l : Latest
  l = latest_in c (trace c xs)

  hurt : Twins (next_of c s e) s
  hurt = damaged_twins c s t d (run_port c xs)

  -- the damaged stretch itself shows nothing
  none-shown : shown c (entry_of c s e) ≡ other
  unfolding entry_of shown shown_by
  none-shown = ap (shown_in c t.chars (heard_of t.chars)) (damage c xs t d ys).unanswered ∙ shown_unheard c t.chars (heard_of t.chars)

  none-released : released_by l (shown c (entry_of c s e)) g ≡ []
  none-released = ap (λ (x : Shown). released_by l x g) none-shown ∙ released-other l g

  same_line : latest_after l (shown c (entry_of c s e)) ≡ l
  unfolding latest_after
  same_line = ap (latest_after l) none-shown

  later_same : (n : ℕ) (lots : List Lot)
      → (released_from c l (trace_from c s (e ∷ ys)) g ≡ released_from c l (trace_from c s ys) g) × (ledger_from c l n lots (trace_from c s (e ∷ ys)) g ≡ ledger_from c l n lots (trace_from c s ys) g)
  unfolding trace_from released_from ledger_from ledger_after entry_of stored_by drops_by
  later_same n lots =
      let f = run_formed c xs in
      let m = run_matches c xs in
      let z = same_from c g (next_of c s e) s hurt l (subst (λ (i : Inner). Matches i.history l) (sym hurt.inner) m) m (step_formed c s e f) f n lots ys in
      let y : n + 0 ≡ n = omega arith in
      let rest = trace_from c (next_of c s e) ys in (
        rw (none-released, same_line) z.0,
        (λ i. ledger_from c (same_line i) (n + length (none-released i)) (append-nil lots i) rest g) ∙ ap (λ (m : ℕ). ledger_from c l m lots rest g) y ∙ z.1,
      )

  released-same : released_in c (trace c (xs ++ (stretch t ∷ ys))) g ≡ released_in c (trace c (xs ++ ys)) g
  released-same =
      rw (trace_append c (fresh_of c) xs (stretch t ∷ ys), trace_append c (fresh_of c) xs ys, released_append, released_append)
      (ap (λ (z : List (List ℕ)). released_in c (trace c xs) g ++ z) (later_same 0 []).0)

  ledger_same : ledger_in c (trace c (xs ++ (stretch t ∷ ys))) g ≡ ledger_in c (trace c (xs ++ ys)) g
  ledger_same =
      let n = length (released_in c (trace c xs) g) in
      let y : n ≡ 0 + n = omega arith in
      rw (trace_append c (fresh_of c) xs (stretch t ∷ ys), trace_append c (fresh_of c) xs ys)
      (ledger_append c nobody 0 n [] (trace c xs) (trace_from c s (e ∷ ys)) g y ∙ (later_same n (ledger_in c (trace c xs) g)).1
      ∙ sym (ledger_append c nobody 0 n [] (trace c xs) (trace_from c s ys) g y))

-- ---- the demand

-- THE THEOREM
pub demand_3 : (c : Config) → Demand3 c
demand_3 c =
    record {
      damage = damage c;
      spared = λ xs t d ys g. record { stored = stored_same c xs t d ys g; released = released-same c xs t d ys g; dropped = ledger_same c xs t d ys g };
      seam = λ xs t p e. seam c xs t p e;
      records = λ es g. ledger c g es;
      oldest = λ es g m. kept-all c g m es;
      events = accounted c;
      latest = λ es e. came c (trace c es) e;
      repeats = λ es e k. repeated c es e k;
      memory = remembered c;
    }
