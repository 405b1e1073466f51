-- Two results that satisfy an entry's contract are equal, and so is all that is kept and lent: each promise says everything.
-- Assumes nothing.
use Rattle.std.proofs.Common.{◌≡◌, ℕ, List, length, sym, ap, ◌∙◌}
use Rattle.chars.specs.Word.{Characters}
use Rattle.chars.specs.One.{OneWhere}
use Rattle.model.specs.Config.{Config}
use Rattle.model.specs.Event.{Event}
use Rattle.model.specs.declared.Answer.{Answer}
use Rattle.model.proofs.Conditions.{by_bool}
use Rattle.layout.specs.Unit.{unit_long, config_in}
use Rattle.layout.proofs.UnitOne.{unit-one}
use Rattle.layout.specs.Kept.{Kept, Owned, kept_in, standing}
use Rattle.serve.proofs.Unique.{kept_same, owned-same, ended_same}
use Rattle.unit.specs.Events.{Heeds, EventPromise}
use Rattle.unit.specs.Fresh.{FreshPromise}
use Rattle.unit.proofs.local.set_word.Reads as set_word
use Rattle.unit.proofs.local.contact.Reads as contact
use Rattle.unit.proofs.local.pulses.Reads as pulses
use Rattle.unit.proofs.local.set_value.Reads as set_value
use Rattle.unit.proofs.local.store_record.Reads as store-record
use Rattle.unit.proofs.samples.sample.Reads as sample
use Rattle.unit.proofs.start.fresh.Reads as fresh
use Rattle.unit.proofs.time.elapsed.Reads as elapsed

pub one_heed : (c : Config) (e : Event) (k l m : Kept) (a b : Answer) → Heeds c e k l a → Heeds c e k m b → (a ≡ b) × (l ≡ m)
one_heed c e k l m a b x y = (
  x.answered ∙ sym y.answered,
  kept_same c l m (x.next ∙ sym y.next) (x.changed.moved ∙ sym y.changed.moved) (x.changed.counted ∙ sym y.changed.counted) (x.taken ∙ sym y.taken),
)

-- elapsed, set_word, set_value, pulses, store_record, sample: a memory that was lent is characters, as long as a unit
pub one-event : (e : Event) (x y z : Owned) {a b : Answer} → length x.unit ≡ unit_long → Characters y.unit → Characters z.unit
    → EventPromise e x y a → EventPromise e x z b → (a ≡ b) × (y ≡ z)
one-event e x y z {a} {b} l p q t u =
    by_bool (standing x)
    (λ s. let v = t.read s in let w = u.read s in
    let h = one_heed (config_in x.unit) e (kept_in x) (kept_in y) (kept_in z) a b v.heeds w.heeds in
    (h.0, owned-same y z (v.steady.long ∙ l) (w.steady.long ∙ l) p q v.stand w.stand (v.steady.layout ∙ sym w.steady.layout) (v.steady.config ∙ sym w.steady.config) h.1))
    (λ s. let v = t.unread s in let w = u.unread s in (v.0 ∙ sym w.0, v.1 ∙ sym w.1))

-- fresh: for memories that are characters
pub one-laid : {cs : List ℕ} {n : ℕ} (u v : List ℕ) {bl bl' : List ℕ} → length u ≡ unit_long → length v ≡ unit_long → Characters u → Characters v
    → FreshPromise cs n u bl → FreshPromise cs n v bl' → (u ≡ v) × (bl ≡ bl')
one-laid u v l m p q f g = (unit-one u v l m p q (f.means ∙ sym g.means), f.block-cleared ∙ sym g.block-cleared)

-- ---- the contract of each entry, for a memory that is characters, as long as a unit

pub one-set-word : OneWhere (λ κ a s. (length a.0.now ≡ unit_long) × Characters s.0.now) set_word.Post (λ κ r s. r)
one-set-word κ a x y s t g h p q = ended_same x y (one-event _ _ _ _ g.0 g.1 h.1 p q).0

pub one-set-word-unit : OneWhere (λ κ a s. (length a.0.now ≡ unit_long) × Characters s.0.now) set_word.Post (λ κ r s. s.0.now)
one-set-word-unit κ a x y s t g h p q = ap (λ (z : Owned). z.unit) (one-event _ _ _ _ g.0 g.1 h.1 p q).1

pub one-contact : OneWhere (λ κ a s. (length a.0.now ≡ unit_long) × Characters s.0.now) contact.Post (λ κ r s. r)
one-contact κ a x y s t g h p q = ended_same x y (one-event _ _ _ _ g.0 g.1 h.1 p q).0

pub one-contact-unit : OneWhere (λ κ a s. (length a.0.now ≡ unit_long) × Characters s.0.now) contact.Post (λ κ r s. s.0.now)
one-contact-unit κ a x y s t g h p q = ap (λ (z : Owned). z.unit) (one-event _ _ _ _ g.0 g.1 h.1 p q).1

pub one-pulses : OneWhere (λ κ a s. (length a.0.now ≡ unit_long) × Characters s.0.now) pulses.Post (λ κ r s. r)
one-pulses κ a x y s t g h p q = ended_same x y (one-event _ _ _ _ g.0 g.1 h.1 p q).0

pub one-pulses-unit : OneWhere (λ κ a s. (length a.0.now ≡ unit_long) × Characters s.0.now) pulses.Post (λ κ r s. s.0.now)
one-pulses-unit κ a x y s t g h p q = ap (λ (z : Owned). z.unit) (one-event _ _ _ _ g.0 g.1 h.1 p q).1

pub one-set-value : OneWhere (λ κ a s. (length a.0.now ≡ unit_long) × Characters s.0.now) set_value.Post (λ κ r s. r)
one-set-value κ a x y s t g h p q = ended_same x y (one-event _ _ _ _ g.0 g.1 h.1 p q).0

pub one-set-value-unit : OneWhere (λ κ a s. (length a.0.now ≡ unit_long) × Characters s.0.now) set_value.Post (λ κ r s. s.0.now)
one-set-value-unit κ a x y s t g h p q = ap (λ (z : Owned). z.unit) (one-event _ _ _ _ g.0 g.1 h.1 p q).1

pub one-store_record : OneWhere (λ κ a s. (length a.0.now ≡ unit_long) × Characters s.0.now) store-record.Post (λ κ r s. r)
one-store_record κ a x y s t g h p q = (one-event _ _ _ _ g.0 g.1 h.1 p q).0

pub one-store_record_unit : OneWhere (λ κ a s. (length a.0.now ≡ unit_long) × Characters s.0.now) store-record.Post (λ κ r s. s.0.now)
one-store_record_unit κ a x y s t g h p q = ap (λ (z : Owned). z.unit) (one-event _ _ _ _ g.0 g.1 h.1 p q).1

pub one-store_record_records : OneWhere (λ κ a s. (length a.0.now ≡ unit_long) × Characters s.0.now) store-record.Post (λ κ r s. s.1.1.0.now)
one-store_record_records κ a x y s t g h p q = ap (λ (z : Owned). z.area) (one-event _ _ _ _ g.0 g.1 h.1 p q).1

pub one-sample : OneWhere (λ κ a s. (length a.0.now ≡ unit_long) × Characters s.0.now) sample.Post (λ κ r s. r)
one-sample κ a x y s t g h p q = (one-event _ _ _ _ g.0 g.1 h.1 p.0 q.0).0

pub one-sample-unit : OneWhere (λ κ a s. (length a.0.now ≡ unit_long) × Characters s.0.now) sample.Post (λ κ r s. s.0.now)
one-sample-unit κ a x y s t g h p q = ap (λ (z : Owned). z.unit) (one-event _ _ _ _ g.0 g.1 h.1 p.0 q.0).1

pub one-sample-records : OneWhere (λ κ a s. (length a.0.now ≡ unit_long) × Characters s.0.now) sample.Post (λ κ r s. s.1.1.0.now)
one-sample-records κ a x y s t g h p q = ap (λ (z : Owned). z.area) (one-event _ _ _ _ g.0 g.1 h.1 p.0 q.0).1

pub one-fresh-unit : OneWhere (λ κ a s. (length s.0.now ≡ unit_long) × Characters s.0.now) fresh.Post (λ κ r s. s.0.now)
one-fresh-unit κ a x y s t g h p q = (one-laid _ _ g.0 h.0 g.1 h.1 p q).0

pub one-fresh-block : OneWhere (λ κ a s. (length s.0.now ≡ unit_long) × Characters s.0.now) fresh.Post (λ κ r s. s.1.0.now)
one-fresh-block κ a x y s t g h p q = (one-laid _ _ g.0 h.0 g.1 h.1 p q).1

pub one-elapsed : OneWhere (λ κ a s. (length a.0.now ≡ unit_long) × Characters s.0.now) elapsed.Post (λ κ r s. r)
one-elapsed κ a x y s t g h p q = ended_same x y (one-event _ _ _ _ g.0 g.1 h.1 p q).0

pub one-elapsed-unit : OneWhere (λ κ a s. (length a.0.now ≡ unit_long) × Characters s.0.now) elapsed.Post (λ κ r s. s.0.now)
one-elapsed-unit κ a x y s t g h p q = ap (λ (z : Owned). z.unit) (one-event _ _ _ _ g.0 g.1 h.1 p q).1
