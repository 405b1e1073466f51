-- Two ends of a call that meet its contract are equal: what each public function promises says everything. Assumes nothing.
use Rattle.std.proofs.Common.{◌≡◌, ℕ, cond, eqb, List, length, sym, ap, ◌∙◌}
use Rattle.chars.specs.One.{One, OneWhere}
use Rattle.model.specs.Outcome.{number_of}
use Rattle.model.specs.Scan.{Scan, Fills}
use Rattle.model.proofs.Unique.{one_fill}
use Rattle.model.specs.Inputs.{Changed}
use Rattle.model.specs.declared.Outcome.{Outcome}
use Rattle.model.specs.declared.Filled.{Filled}
use Rattle.points.specs.Answer.{Sets}
use Rattle.points.proofs.changes.set_word.Reads as set_word
use Rattle.points.proofs.changes.pulses.Reads as pulses
use Rattle.points.proofs.changes.set_value.Reads as set_value
use Rattle.points.proofs.changes.reset_count.Reads as reset-count
use Rattle.points.proofs.contacts.contact.Reads as contact
use Rattle.points.proofs.equipment.refused.Reads as refused
use Rattle.chars.specs.Word.{Characters}
use Rattle.layout.specs.Unit.{unit_long}
use Rattle.layout.proofs.ContactLaws.{one-anew}
use Rattle.points.proofs.contacts.start_anew.Reads as start-anew

-- what an outcome left of a memory
left_by : (u w : List ℕ) {x y : List ℕ} {r s : Outcome} → x ≡ cond (eqb (number_of r) 0) w u → y ≡ cond (eqb (number_of s) 0) w u → r ≡ s → x ≡ y
left_by u w a b e = a ∙ ap (λ (o : Outcome). cond (eqb (number_of o) 0) w u) e ∙ sym b

-- set_word, pulses, set_value
one_set : {m : Changed} {u w x y : List ℕ} {r s : Outcome} → Sets m u w x r → Sets m u w y s → (x ≡ y) × (r ≡ s)
one_set {u = u} {w = w} a b = let e = a.ended ∙ sym b.ended in (left_by u w a.left b.left e, e)

-- reset_count
one-reset : (m : Scan) (u w : List ℕ) {entry x y v z : List ℕ} {r s : Filled}
    → Fills entry x m r × (v ≡ cond (eqb (number_of r.outcome) 0) w u)
    → Fills entry y m s × (z ≡ cond (eqb (number_of s.outcome) 0) w u) → (x ≡ y) × (r ≡ s) × (v ≡ z)
one-reset m u w a b = let f = one_fill a.0 b.0 in (f.0, f.1, left_by u w a.1 b.1 (ap (λ (g : Filled). g.outcome) f.1))

pub one-set-word : One set_word.Post (λ κ r s. r)
one-set-word κ a x y s t p q = (one_set p q).1

pub one-set-word-unit : One set_word.Post (λ κ r s. s.0.now)
one-set-word-unit κ a x y s t p q = (one_set p q).0

pub one-pulses : One pulses.Post (λ κ r s. r)
one-pulses κ a x y s t p q = (one_set p q).1

pub one-pulses-unit : One pulses.Post (λ κ r s. s.0.now)
one-pulses-unit κ a x y s t p q = (one_set p q).0

pub one-set-value : One set_value.Post (λ κ r s. r)
one-set-value κ a x y s t p q = (one_set p q).1

pub one-set-value-unit : One set_value.Post (λ κ r s. s.0.now)
one-set-value-unit κ a x y s t p q = (one_set p q).0

pub one-reset-count : One reset-count.Post (λ κ r s. r)
one-reset-count κ a x y s t p q = (one-reset _ _ _ p q).1

pub one-reset-count-unit : One reset-count.Post (λ κ r s. s.0.now)
one-reset-count-unit κ a x y s t p q = (one-reset _ _ _ p q).2

pub one-reset-count-reply : One reset-count.Post (λ κ r s. s.1.1.1.0.now)
one-reset-count-reply κ a x y s t p q = (one-reset _ _ _ p q).0

pub one-contact : One contact.Post (λ κ r s. r)
one-contact κ a x y s t p q = p.0 ∙ sym q.0

pub one-contact-unit : One contact.Post (λ κ r s. s.0.now)
one-contact-unit κ a x y s t p q = left_by _ _ p.1 q.1 (p.0 ∙ sym q.0)

pub one-refused : One refused.Post (λ κ r s. r)
one-refused κ a x y s t p q = p ∙ sym q

-- the groups that start anew, for a memory that is characters, as long as a unit
pub one-start-anew-unit : OneWhere (λ κ a s. (length a.0.now ≡ unit_long) × Characters s.0.now) start-anew.Post (λ κ r s. s.0.now)
one-start-anew-unit κ a x y s t g h p q = one-anew _ _ _ _ g.0 g.1 h.1 p q
