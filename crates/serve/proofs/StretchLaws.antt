-- A stretch: what its parts made, put together. Assumes nothing.
use Rattle.std.specs.Prelude.{None}
use native.Mathlib.Omega.{arith}
use mathlib.Core.Path.{◌≡◌, refl, sym, ap, ◌∙◌}
use Prim.Native.Nat.{ℕ, ◌+◌, ◌-◌, ◌≤◌, ◌<◌}
use mathlib.Core.List.{List}
use mathlib.Core.Bool.{true, false}
use lib.ListN.{length}
use borrow.Author.Tests.{eq-eqb, ne_eqb, lt-ltb, le-ltb}
use Rattle.chars.specs.Put.{put, part}
use Rattle.chars.proofs.PutLaws.{put-none, take-put_front}
use Rattle.model.specs.Limits.{shortest_frame, longest_reply}
use Rattle.model.specs.Frame.{asked, unit_of, broadcast_unit, heard_of, request_in}
use Rattle.model.specs.Config.{Config}
use Rattle.model.specs.State.{Areas, Files, Inner}
use Rattle.model.specs.Fits.{fits}
use Rattle.model.specs.Step.{Made, quiet, served, broadcast_of, broadcast_made, framed, judged, make_of}
use Rattle.model.specs.Port.{port_heard, port_after}
use Rattle.model.specs.Change.{stays, Change}
use Rattle.model.specs.Run.{short, Result, turned_away, shows, moves, decided, result_of, next_of, change_of}
use Rattle.model.specs.declared.Outcome.{Outcome}
use Rattle.model.specs.declared.Outcome.TheVariants.{NotWhole, CheckWrong, OtherUnit, NotConfigured, BufferShort}
use Rattle.model.specs.declared.Frame.{Frame}
use Rattle.model.specs.declared.Heard.TheVariants.{Broken, Wrong, Whole}
use Rattle.model.specs.declared.Mark.{Mark}
use Rattle.model.specs.declared.Port.{Port}
use Rattle.model.proofs.Conditions.{false-true, by_bool}
use Rattle.layout.specs.Numbers.{port_in, put_port, Written}
use Rattle.layout.proofs.NumbersLaws.{written-readable}
use Rattle.layout.proofs.PlaceLaws.{port-written}
use Rattle.port.specs.Heard.{port_heard_by}
use Rattle.port.proofs.PortLaws.{heard_as}
use Rattle.layout.specs.Records.{files_in, packed, samples_laid}
use Rattle.history.proofs.LayoutLaws.{length-area}
use Rattle.history.specs.Change.{taken_after, changes_samples}
use Rattle.layout.proofs.RecordsLaws.{packed-serves}
use Rattle.layout.proofs.MeansLaws.{samples-left}
use Rattle.history.proofs.ChangeLaws.{stretch_undropped, judged-change}
use Rattle.layout.specs.Unit.{Renumbered, unit_in, config_in, numbers_in}
use Rattle.layout.proofs.UnitLaws.{numbers-left, numbers_only}
use Rattle.model.proofs.TurnedAway.{short_away, unfit_away, works}
use Rattle.layout.specs.Kept.{Kept, areas_in, inner_of, state_of, Owned, kept_in, standing, samples_held}
use Rattle.serve.proofs.FitLaws.{stands-again}
use Rattle.serve.proofs.KeptLaws.{still, steady-same}
use Rattle.serve.specs.declared.Made.{Made as MadeOf}
use Rattle.serve.specs.Promises.{Undropped, MadePromise, MadeInPromise}
use Rattle.serve.proofs.CommandLaws.{unshifted_numbers, numbers-kept}
use Rattle.serve.proofs.BroadcastLaws.{makes-quiet}
use Rattle.serve.specs.Stretch.{coming, Turns, StretchPromise}

-- ---- a stretch that a working unit hears

frame_data : (s : List ℕ) (f : Frame) {body : List ℕ} → length s ≡ shortest_frame + f.count → body ≡ part s 6 (length s - 8) → body ≡ part s 6 f.count
frame_data s f h b = let n : length s - 8 ≡ f.count = omega arith in b ∙ ap (part s 6) n

pub request_as : (s : List ℕ) (f : Frame) {body : List ℕ} → length s ≡ shortest_frame + f.count → body ≡ part s 6 (length s - 8) → request_in f s ≡ asked f body
unfolding request_in
request_as s f h b = ap (asked f) (sym (frame_data s f h b))

module _ (c : Config) (i : Inner) (lag : ℕ) (s : List ℕ) (mark : Mark) (p : Port) {area held entry : List ℕ} {x : MadeOf} where
  module _ {ks : List ℕ} (k : Written i.core i.history.memory p ks) where
    pub judged_broken : heard_of s ≡ Broken → x ≡ record { outcome = NotWhole; action = None; sent = 0 }
        → MadeInPromise c (judged c i lag s (heard_of s)) mark i.areas i.history.files p ks area held area held entry entry x
    unfolding judged quiet
    judged_broken h e = rw h (record { makes = makes-quiet i mark entry NotWhole e k; changed = still c area held })

    pub judged_wrong : heard_of s ≡ Wrong → x ≡ record { outcome = CheckWrong; action = None; sent = 0 }
        → MadeInPromise c (judged c i lag s (heard_of s)) mark i.areas i.history.files p ks area held area held entry entry x
    unfolding judged quiet
    judged_wrong h e = rw h (record { makes = makes-quiet i mark entry CheckWrong e k; changed = still c area held })

  -- one frame
  pub judged-frame : (f : Frame) {a : Areas} {fs : Files} {q : Port} {ls area' held' exit : List ℕ} → heard_of s ≡ Whole f
      → MadeInPromise c (framed c i lag (request_in f s)) mark a fs q ls area held area' held' entry exit x
      → MadeInPromise c (judged c i lag s (heard_of s)) mark a fs q ls area held area' held' entry exit x
  unfolding judged
  judged-frame f h w = rw h w

  module _ (f : Frame) {body : List ℕ} {to : ℕ} (n : length s ≡ shortest_frame + f.count) (b : body ≡ part s 6 (length s - 8)) (u : to ≡ unit_of f.address) where
    -- for this unit
    pub framed-own : {a : Areas} {fs : Files} {ls area' held' exit : List ℕ} → to ≡ c.unit
        → MadeInPromise c (served c i lag (asked f body)) mark a fs (port_heard_by p (shortest_frame + f.count) x.outcome) ls area held area' held' entry exit x
        → MadeInPromise c (framed c i lag (request_in f s)) mark a fs (port_heard p s x.outcome) ls area held area' held' entry exit x
    unfolding framed request_in
    framed-own t w = rw (eq-eqb (unit_of f.address) c.unit (sym u ∙ t), ← frame_data s f n b, ← (heard_as p s x.outcome), n) w

    -- for all
    pub framed-all : {a : Areas} {fs : Files} {ls : List ℕ} → (to ≡ c.unit → ⊥) → to ≡ 0x7FF
        → MadePromise (broadcast_made i (broadcast_of c i.core i.areas lag (asked f body))) mark a fs p ls entry entry x
        → MadeInPromise c (framed c i lag (request_in f s)) mark a fs p ls area held area held entry entry x
    unfolding framed request_in broadcast_made quiet
    framed-all k t w =
        rw (ne_eqb (unit_of f.address) c.unit (λ e. k (u ∙ e)), eq-eqb (unit_of f.address) broadcast_unit (sym u ∙ t), ← frame_data s f n b)
        (record { makes = w; changed = still c area held })

    -- for another
    pub framed-other : {ks : List ℕ} → Written i.core i.history.memory p ks → (to ≡ c.unit → ⊥) → (to ≡ 0x7FF → ⊥)
        → x ≡ record { outcome = OtherUnit; action = None; sent = 0 }
        → MadeInPromise c (framed c i lag (request_in f s)) mark i.areas i.history.files p ks area held area held entry entry x
    unfolding framed request_in quiet
    framed-other k l m e =
        rw (ne_eqb (unit_of f.address) c.unit (λ e. l (u ∙ e)), ne_eqb (unit_of f.address) broadcast_unit (λ e. m (u ∙ e)))
        (record { makes = makes-quiet i mark entry OtherUnit e k; changed = still c area held })

-- ---- the entry

module _ (c : Config) (lag : ℕ) (s : List ℕ) (k : Kept) (entry : List ℕ) {r : MadeOf} where
  -- turned away by o, and nothing is changed
  turned : (o : Outcome) → (result_of c (state_of c k) (coming entry lag s) ≡ turned_away o) × (next_of c (state_of c k) (coming entry lag s) ≡ state_of c k)
      → change_of c (state_of c k) (coming entry lag s) ≡ stays → r ≡ record { outcome = o; action = None; sent = 0 } → Turns c lag s k k entry entry r
  unfolding turned_away taken_after
  turned o w z e =
      rw e
      (record {
        answered = sym (ap (λ (x : Result). x.answer) w.0);
        acted = sym (ap (λ (x : Result). x.action) w.0);
        counted = sym (ap (λ (x : Result). length x.reply) w.0);
        inside = omega arith;
        small = omega arith;
        written = sym (put-none entry 0) ∙ sym (ap (λ (x : Result). put entry 0 x.reply) w.0);
        next = sym w.1;
        changed = rw z (still c k.area k.counts);
        taken = rw z refl;
      })

  pub turns-short : length entry < longest_reply
      → r ≡ record { outcome = BufferShort; action = None; sent = 0 } → Turns c lag s k k entry entry r
  unfolding short change_of decided
  turns-short l e =
      let t : short (coming entry lag s) ≡ true = lt-ltb (length entry) longest_reply l in
      turned BufferShort (short_away c (state_of c k) (coming entry lag s) t) (rw t) e

  pub turns_unfit : longest_reply ≤ length entry → fits c (state_of c k) ≡ false
      → r ≡ record { outcome = NotConfigured; action = None; sent = 0 } → Turns c lag s k k entry entry r
  unfolding short change_of decided
  turns_unfit l b e =
      let t : short (coming entry lag s) ≡ false = le-ltb (length entry) longest_reply l in
      turned NotConfigured (unfit_away c (state_of c k) (coming entry lag s) t b) (rw (t, b)) e

-- ---- what is owned

module _ (lag : ℕ) (s : List ℕ) (x : Owned) (entry : List ℕ) {r : MadeOf} where
  -- 18 whatever is lent
  pub stretch-short : length entry < longest_reply → r ≡ record { outcome = BufferShort; action = None; sent = 0 } → StretchPromise lag s x x entry entry r
  stretch-short l e =
      record {
        read = λ t. record { turns = turns-short (config_in x.unit) lag s (kept_in x) entry l e; stand = t; steady = (steady-same x.unit).steady };
        unread = λ _. record { shown = rw (lt-ltb (length entry) longest_reply l) e; written = refl; owned = refl };
      }

  -- 17 where it is not such as a unit that fits writes
  pub stretch_unfit : longest_reply ≤ length entry → (standing x ≡ true → fits (config_in x.unit) (state_of (config_in x.unit) (kept_in x)) ≡ false)
      → r ≡ record { outcome = NotConfigured; action = None; sent = 0 } → StretchPromise lag s x x entry entry r
  stretch_unfit l b e =
      record {
        read = λ t. record { turns = turns_unfit (config_in x.unit) lag s (kept_in x) entry l (b t) e; stand = t; steady = (steady-same x.unit).steady };
        unread = λ _. record { shown = rw (le-ltb (length entry) longest_reply l) e; written = refl; owned = refl };
      }

-- what was made of a stretch, and the port by its outcome
makes-marked : (s : List ℕ) {c : Config} {m : Made} {mark : Mark} {a : Areas} {fs : Files} {p : Port} {ks ls area held area' held' entry exit : List ℕ} {r x : MadeOf}
    → MadeInPromise c m mark a fs p ks area held area' held' entry exit r
    → (x ≡ r) × (ls ≡ put_port (port_heard_by (port_in ks) (length s) r.outcome) ks)
    → MadeInPromise c m mark a fs (port_heard p s x.outcome) ls area held area' held' entry exit x
makes-marked s {p = p} {r = r} v n =
    let z = v.makes in
    let heard = ap (λ (p : Port). port_heard_by p (length s) r.outcome) z.kept.means.port ∙ heard_as p s r.outcome in
    rw n.0
    (record {
      makes = record {
        answered = z.answered;
        acted = z.acted;
        counted = z.counted;
        inside = z.inside;
        small = z.small;
        written = z.written;
        kept = rw heard at (port-written z.kept n.1);
        areas = z.areas;
        files = z.files;
      };
      changed = v.changed;
    })

-- the same in a unit's memory, of which only numbers are written
pub unit-marked : (s : List ℕ) (c : Config) (v w block : List ℕ) (ss : List (List ℕ)) {m : Made} {mark : Mark} {p : Port} {area held area' entry exit : List ℕ} {r x : MadeOf}
    → MadeInPromise c m mark (areas_in v block ss) (files_in c area' (unit_in v).counts) p (numbers_in v) area held area' (unit_in v).counts entry exit r
    → (x ≡ r) × Renumbered v w (put_port (port_heard_by (port_in (numbers_in v)) (length s) r.outcome) (numbers_in v))
    → MadeInPromise c m mark (areas_in w block ss) (files_in c area' (unit_in w).counts) (port_heard p s x.outcome) (numbers_in w) area held area' (unit_in w).counts entry exit x
unit-marked s c v w block ss h n =
    let only = numbers_only v w n.1 in
    rw ((unshifted_numbers v w only).counts, numbers-kept v block ss w only) (makes-marked s h (n.0, numbers-left v w n.1))

pub stretch_made : (lag : ℕ) (s : List ℕ) (x : Owned) (entry : List ℕ) (y : Owned) {exit : List ℕ} (m : MadeOf) → standing x ≡ true → longest_reply ≤ length entry
    → fits (config_in x.unit) (state_of (config_in x.unit) (kept_in x)) ≡ true
    → MadeInPromise (config_in x.unit) (judged (config_in x.unit) (state_of (config_in x.unit) (kept_in x)).inner lag s (heard_of s))
    (port_in (numbers_in x.unit)).mark (areas_in y.unit y.block (samples_held x.unit x.area)) (files_in (config_in x.unit) y.area (unit_in y.unit).counts) (port_heard (port_in (numbers_in x.unit)) s m.outcome) (numbers_in y.unit)
    x.area (unit_in x.unit).counts y.area (unit_in y.unit).counts entry exit m → Undropped x.unit y.unit
    → StretchPromise lag s x y entry exit m
unfolding short make_of shows moves port_after change_of decided changes_samples taken_after
stretch_made lag s x entry y {exit} m g l b v u =
    let c = config_in x.unit in
    let t : short (coming entry lag s) ≡ false = le-ltb (length entry) longest_reply l in
    let w = works c (state_of c (kept_in x)) (coming entry lag s) t b in
    let z = v.makes in
    let k = z.kept in
    let port = ap (port_after (port_in (numbers_in x.unit)) (coming entry lag s)) z.answered in
    let drops = u.dropped ∙ sym (stretch_undropped c (state_of c (kept_in x)).inner lag s) in
    let long : length y.area ≡ length x.area = ap length v.changed.moved ∙ length-area _ _ _ _ in
    let i = (state_of c (kept_in x)).inner in
    let calm = judged-change c (λ (ch : Change). changes_samples ch ≡ false) refl (λ f at n. refl) i lag s in
    let ss : samples_laid (packed c) y.area (unit_in y.unit).taken ≡ samples_held x.unit x.area =
    ap (samples_laid (packed c) y.area) u.taken ∙ samples-left (packed-serves c) x.area y.area (unit_in x.unit).taken (v.changed.behind calm) in
    let areas = ap (areas_in y.unit y.block) ss ∙ z.areas in
    let none = judged-change c (λ (ch : Change). taken_after ch (unit_in x.unit).taken ≡ (unit_in x.unit).taken) refl (λ f at n. refl) i lag s in
    record {
      read = λ _. record {
        turns = record {
          answered = z.answered ∙ sym (ap (λ (x : Result). x.answer) w.0);
          acted = z.acted ∙ sym (ap (λ (x : Result). x.action) w.0);
          counted = z.counted ∙ sym (ap (λ (x : Result). length x.reply) w.0);
          inside = z.inside;
          small = z.small;
          written = z.written ∙ sym (ap (λ (x : Result). put entry 0 x.reply) w.0);
          next = (λ j.
              record {
                inner = inner_of (k.means.core j) (areas j) (k.means.memory j) (z.files j) (drops j);
                port = (k.means.port ∙ port) j;
              })
              ∙ sym w.1;
          changed = rw (t, b) v.changed;
          taken = rw (t, b) (u.taken ∙ sym none);
        };
        stand = stands-again x y g u.steady long (written-readable k);
        steady = u.steady;
      };
      unread = λ n. false-true (sym n ∙ g);
    }

-- what is to be sent lies in the buffer
pub sent-inside : (lag : ℕ) (s : List ℕ) (x y : Owned) {entry exit : List ℕ} {r : MadeOf} → StretchPromise lag s x y entry exit r → r.sent ≤ length entry
sent-inside lag s x y h = by_bool (standing x) (λ e. (h.read e).turns.inside) (λ e. rw (h.unread e).shown (omega arith))

-- and what `reply` then hands back is the definition's reply (Frames 17)
pub handed_back : (c : Config) (lag : ℕ) (s : List ℕ) (k l : Kept) {entry exit : List ℕ} {r : MadeOf} → Turns c lag s k l entry exit r
    → part exit 0 r.sent ≡ (result_of c (state_of c k) (coming entry lag s)).reply
unfolding part
handed_back c lag s k l {entry} t = rw (t.counted, t.written) (take-put_front entry (result_of c (state_of c k) (coming entry lag s)).reply (omega (arith, t.inside, t.counted)))
