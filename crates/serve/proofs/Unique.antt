-- Two results that satisfy the contract of `stretch` are equal, and so is all that is kept and lent: the promise says everything.
-- Assumes nothing.
use mathlib.Core.Path.{◌≡◌, sym, ap, ◌∙◌}
use mathlib.Core.List.{List}
use mathlib.Core.Bool.{true}
use Prim.Native.Nat.{ℕ}
use lib.ListN.{length}
use Rattle.chars.specs.Word.{Characters}
use Rattle.chars.specs.One.{One, OneWhere}
use Rattle.model.specs.Config.{Config}
use Rattle.model.specs.State.{State}
use Rattle.model.specs.declared.Outcome.{Outcome}
use Rattle.model.specs.declared.Answer.TheVariants.{Ended}
use Rattle.model.proofs.Conditions.{by_bool}
use Rattle.layout.proofs.NumbersLaws.{readable-one}
use Rattle.layout.specs.Unit.{unit_long, unit_in, config_in, numbers_in}
use Rattle.layout.proofs.UnitOne.{unit-one}
use Rattle.layout.specs.Kept.{Kept, state_of, Owned, kept_in, standing}
use Rattle.serve.specs.Stretch.{Served, StretchPromise}
use Rattle.serve.specs.declared.Made.{Made}
use Rattle.serve.proofs.FitLaws.{stands-readable}
use Rattle.serve.proofs.line.stretch.Reads as stretch
use Rattle.serve.proofs.handed.reply.Reads as reply

-- all that is kept follows from the state, and from the lent characters and the counts of records and samples
pub kept_same : (c : Config) (l m : Kept) → state_of c l ≡ state_of c m → l.area ≡ m.area → l.counts ≡ m.counts → l.taken ≡ m.taken → l ≡ m
kept_same c l m e a n t =
    λ i. record {
      core = ap (λ (s : State). s.inner.core) e i;
      memory = ap (λ (s : State). s.inner.history.memory) e i;
      port = ap (λ (s : State). s.port) e i;
      words = ap (λ (s : State). s.inner.areas.words) e i;
      results = ap (λ (s : State). s.inner.areas.values) e i;
      fixed = ap (λ (s : State). s.inner.areas.fixed) e i;
      block = ap (λ (s : State). s.inner.areas.block) e i;
      area = a i;
      counts = n i;
      dropped = ap (λ (s : State). s.inner.history.dropped) e i;
      changed = ap (λ (s : State). s.inner.areas.changed) e i;
      taken = t i;
      plans = ap (λ (s : State). s.inner.areas.plans) e i;
    }

-- what is owned follows from the unit that it means, as its memory is characters
pub owned-same : (y z : Owned) → length y.unit ≡ unit_long → length z.unit ≡ unit_long → Characters y.unit → Characters z.unit
    → standing y ≡ true → standing z ≡ true → (unit_in y.unit).layout ≡ (unit_in z.unit).layout → config_in y.unit ≡ config_in z.unit → kept_in y ≡ kept_in z → y ≡ z
owned-same y z l m p q a b t c e =
    let n = readable-one (numbers_in y.unit) (numbers_in z.unit) (stands-readable y a) (stands-readable z b) (ap (λ (k : Kept). k.core) e) (ap (λ (k : Kept). k.memory) e) (ap (λ (k : Kept). k.port) e) in
    let u = unit-one y.unit z.unit l m p q (λ i. record { layout = t i; config = c i; numbers = n i; words = (e i).words; values = (e i).results; fixed = (e i).fixed; counts = (e i).counts; dropped = (e i).dropped; changed = (e i).changed; taken = (e i).taken; plans = (e i).plans }) in
    λ i. record { unit = u i; block = (e i).block; area = (e i).area }

pub ended_same : (o p : Outcome) → Ended o ≡ Ended p → o ≡ p
ended_same o p e = cc

module _ (lag : ℕ) (s : List ℕ) (x y z : Owned) (entry : List ℕ) {exit exit' : List ℕ} {r t : Made}
    (long : length x.unit ≡ unit_long) (p : Characters y.unit) (q : Characters z.unit) where
  one-served : Served lag s x y entry exit r → Served lag s x z entry exit' t → (r ≡ t) × (exit ≡ exit') × (y ≡ z)
  one-served a b =
      let f = a.turns in
      let g = b.turns in
      let k = kept_same (config_in x.unit) _ _ (f.next ∙ sym g.next) (f.changed.moved ∙ sym g.changed.moved) (f.changed.counted ∙ sym g.changed.counted) (f.taken ∙ sym g.taken) in
      let o = ended_same r.outcome t.outcome (f.answered ∙ sym g.answered) in (
        λ i. record { outcome = o i; action = (f.acted ∙ sym g.acted) i; sent = (f.counted ∙ sym g.counted) i },
        f.written ∙ sym g.written,
        owned-same y z (a.steady.long ∙ long) (b.steady.long ∙ long) p q a.stand b.stand (a.steady.layout ∙ sym b.steady.layout) (a.steady.config ∙ sym b.steady.config) k,
      )

  -- stretch: the result, the buffer, and all that is kept and lent, as a memory that was lent is characters
  pub one-turn : StretchPromise lag s x y entry exit r → StretchPromise lag s x z entry exit' t → (r ≡ t) × (exit ≡ exit') × (y ≡ z)
  one-turn a b =
      by_bool (standing x) (λ e. one-served (a.read e) (b.read e))
      (λ e. let u = a.unread e in let v = b.unread e in
      (u.shown ∙ sym v.shown, u.written ∙ sym v.written, u.owned ∙ sym v.owned))

-- ---- the contract of `reply`

pub one-reply : One reply.Post (λ κ r s. r.now)
one-reply κ a x y s t p q = p.0 ∙ sym q.0

-- ---- the contract of `stretch`, for a memory that is characters, as long as a unit

pub one-stretch : OneWhere (λ κ a s. (length a.0.now ≡ unit_long) × Characters s.0.now) stretch.Post (λ κ r s. r)
one-stretch κ a x y s t g h p q = (one-turn _ _ _ _ _ _ g.0 g.1 h.1 p q).0

pub one-stretch-unit : OneWhere (λ κ a s. (length a.0.now ≡ unit_long) × Characters s.0.now) stretch.Post (λ κ r s. s.0.now)
one-stretch-unit κ a x y s t g h p q = ap (λ (z : Owned). z.unit) (one-turn _ _ _ _ _ _ g.0 g.1 h.1 p q).2

pub one-stretch-block : OneWhere (λ κ a s. (length a.0.now ≡ unit_long) × Characters s.0.now) stretch.Post (λ κ r s. s.1.0.now)
one-stretch-block κ a x y s t g h p q = ap (λ (z : Owned). z.block) (one-turn _ _ _ _ _ _ g.0 g.1 h.1 p q).2

pub one-stretch-records : OneWhere (λ κ a s. (length a.0.now ≡ unit_long) × Characters s.0.now) stretch.Post (λ κ r s. s.1.1.0.now)
one-stretch-records κ a x y s t g h p q = ap (λ (z : Owned). z.area) (one-turn _ _ _ _ _ _ g.0 g.1 h.1 p q).2

pub one-stretch_buffer : OneWhere (λ κ a s. (length a.0.now ≡ unit_long) × Characters s.0.now) stretch.Post (λ κ r s. s.1.1.1.0.now)
one-stretch_buffer κ a x y s t g h p q = (one-turn _ _ _ _ _ _ g.0 g.1 h.1 p q).1
