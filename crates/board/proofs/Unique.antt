-- Two results that satisfy a call's contract are equal, and so is all that the caller owns: each promise says everything. A memory
-- that was lent is characters, as long as a unit. Assumes nothing.
use mathlib.Core.Path.{◌≡◌, sym, ap, ◌∙◌}
use Prim.Native.Nat.{ℕ}
use mathlib.Core.List.{List}
use lib.ListN.{length}
use Rattle.chars.specs.Word.{Characters}
use Rattle.chars.specs.One.{One, OneWhere}
use Rattle.model.specs.Outcome.{number_of, answer_number}
use Rattle.model.specs.Event.{Event}
use Rattle.layout.specs.Unit.{unit_long}
use Rattle.layout.specs.Kept.{Owned}
use Rattle.serve.proofs.Unique.{one-turn}
use Rattle.unit.proofs.Unique.{one-event, one-laid}
use Rattle.serve.specs.declared.Made.{Made}
use Rattle.model.specs.declared.SpecialCalculation.{SpecialCalculation}
use Rattle.board.specs.Told.{turned_by, sampled_by, TurnPromise, AnswerPromise, SamplePromise}
use Rattle.board.proofs.osturdam_layout.Reads as osturdam-layout
use Rattle.board.proofs.osturdam_check.Reads as osturdam-check
use Rattle.board.proofs.osturdam_valid.Reads as osturdam-valid
use Rattle.board.proofs.osturdam_room.Reads as osturdam-room
use Rattle.board.proofs.osturdam_dropped.Reads as osturdam-dropped
use Rattle.board.proofs.osturdam_fresh.Reads as osturdam-fresh
use Rattle.board.proofs.osturdam_replan.Reads as osturdam-replan
use Rattle.board.proofs.osturdam_stretch.Reads as osturdam-stretch
use Rattle.board.proofs.osturdam_elapsed.Reads as osturdam-elapsed
use Rattle.board.proofs.osturdam_contact.Reads as osturdam-contact
use Rattle.board.proofs.osturdam_set_word.Reads as osturdam-set-word
use Rattle.board.proofs.osturdam_pulses.Reads as osturdam-pulses
use Rattle.board.proofs.osturdam_set_value.Reads as osturdam-set-value
use Rattle.board.proofs.osturdam_store_record.Reads as osturdam-store-record
use Rattle.board.proofs.osturdam_sample.Reads as osturdam-sample

module _ (x y z : Owned) (long : length x.unit ≡ unit_long) (p : Characters y.unit) (q : Characters z.unit) where
  -- osturdam_stretch
  pub one_showing : (lag : ℕ) (s entry : List ℕ) {exit exit' ts ts' : List ℕ} {n m : ℕ} → TurnPromise lag s x y entry exit n ts → TurnPromise lag s x z entry exit' m ts'
      → (n ≡ m) × (ts ≡ ts') × (exit ≡ exit') × (y ≡ z)
  one_showing lag s entry a b =
      let w = one-turn lag s x y z entry long p q a.serves b.serves in (
        a.number ∙ ap (λ (u : Made). number_of u.outcome) w.0 ∙ sym b.number,
        a.told ∙ ap turned_by w.0 ∙ sym b.told,
        w.1,
        w.2,
      )

  -- osturdam_elapsed, osturdam_set_word, osturdam_contact, osturdam_pulses, osturdam_set_value, osturdam_store_record
  pub one_saying : (e : Event) {n m : ℕ} → AnswerPromise e x y n → AnswerPromise e x z m → (n ≡ m) × (y ≡ z)
  one_saying e a b =
      let w = one-event e x y z long p q a.tells b.tells in (a.said ∙ ap answer_number w.0 ∙ sym b.said, w.1)

  -- osturdam_sample
  pub one_sampling : (c : SpecialCalculation) {n m : ℕ} {cs ds : List ℕ} → SamplePromise c x y n cs → SamplePromise c x z m ds → (n ≡ m) × (cs ≡ ds) × (y ≡ z)
  one_sampling c a b =
      let w = one-event _ x y z long p q a.tells b.tells in
      (a.said ∙ ap answer_number w.0 ∙ sym b.said, a.told ∙ ap sampled_by w.0 ∙ sym b.told, w.1)

-- ---- the contract of each call

pub one_osturdam_layout : One osturdam-layout.Post (λ κ r s. r)
one_osturdam_layout κ a x y s t p q = p ∙ sym q

pub one_osturdam_check : One osturdam-check.Post (λ κ r s. r)
one_osturdam_check κ a x y s t p q = p ∙ sym q

pub one_osturdam_valid : One osturdam-valid.Post (λ κ r s. r)
one_osturdam_valid κ a x y s t p q = p ∙ sym q

pub one_osturdam_room : One osturdam-room.Post (λ κ r s. r)
one_osturdam_room κ a x y s t p q = p ∙ sym q

pub one_osturdam_dropped : One osturdam-dropped.Post (λ κ r s. r)
one_osturdam_dropped κ a x y s t p q = p ∙ sym q

pub one_osturdam_replan_unit : One osturdam-replan.Post (λ κ r s. s.0.now)
one_osturdam_replan_unit κ a x y s t p q = p ∙ sym q

pub one_osturdam_fresh-unit : OneWhere (λ κ a s. (length s.0.now ≡ unit_long) × Characters s.0.now) osturdam-fresh.Post (λ κ r s. s.0.now)
one_osturdam_fresh-unit κ a x y s t g h p q = (one-laid _ _ g.0 h.0 g.1 h.1 p q).0

pub one_osturdam_fresh-block : OneWhere (λ κ a s. (length s.0.now ≡ unit_long) × Characters s.0.now) osturdam-fresh.Post (λ κ r s. s.1.0.now)
one_osturdam_fresh-block κ a x y s t g h p q = (one-laid _ _ g.0 h.0 g.1 h.1 p q).1

pub one_osturdam_stretch : OneWhere (λ κ a s. (length a.0.now ≡ unit_long) × Characters s.0.now) osturdam-stretch.Post (λ κ r s. r)
one_osturdam_stretch κ a x y s t g h p q = (one_showing _ _ _ g.0 g.1 h.1 _ _ _ p q).0

pub one_osturdam_stretch-unit : OneWhere (λ κ a s. (length a.0.now ≡ unit_long) × Characters s.0.now) osturdam-stretch.Post (λ κ r s. s.0.now)
one_osturdam_stretch-unit κ a x y s t g h p q = ap (λ (z : Owned). z.unit) (one_showing _ _ _ g.0 g.1 h.1 _ _ _ p q).3

pub one_osturdam_stretch-block : OneWhere (λ κ a s. (length a.0.now ≡ unit_long) × Characters s.0.now) osturdam-stretch.Post (λ κ r s. s.1.0.now)
one_osturdam_stretch-block κ a x y s t g h p q = ap (λ (z : Owned). z.block) (one_showing _ _ _ g.0 g.1 h.1 _ _ _ p q).3

pub one_osturdam_stretch-records : OneWhere (λ κ a s. (length a.0.now ≡ unit_long) × Characters s.0.now) osturdam-stretch.Post (λ κ r s. s.1.1.0.now)
one_osturdam_stretch-records κ a x y s t g h p q = ap (λ (z : Owned). z.area) (one_showing _ _ _ g.0 g.1 h.1 _ _ _ p q).3

pub one_osturdam_stretch_buffer : OneWhere (λ κ a s. (length a.0.now ≡ unit_long) × Characters s.0.now) osturdam-stretch.Post (λ κ r s. s.1.1.1.0.now)
one_osturdam_stretch_buffer κ a x y s t g h p q = (one_showing _ _ _ g.0 g.1 h.1 _ _ _ p q).2

pub one_osturdam_stretch_turned : OneWhere (λ κ a s. (length a.0.now ≡ unit_long) × Characters s.0.now) osturdam-stretch.Post (λ κ r s. s.1.1.1.1.1.1.0.now)
one_osturdam_stretch_turned κ a x y s t g h p q = (one_showing _ _ _ g.0 g.1 h.1 _ _ _ p q).1

pub one_osturdam_elapsed : OneWhere (λ κ a s. (length a.0.now ≡ unit_long) × Characters s.0.now) osturdam-elapsed.Post (λ κ r s. r)
one_osturdam_elapsed κ a x y s t g h p q = (one_saying _ _ _ g.0 g.1 h.1 _ p q).0

pub one_osturdam_elapsed-unit : OneWhere (λ κ a s. (length a.0.now ≡ unit_long) × Characters s.0.now) osturdam-elapsed.Post (λ κ r s. s.0.now)
one_osturdam_elapsed-unit κ a x y s t g h p q = ap (λ (z : Owned). z.unit) (one_saying _ _ _ g.0 g.1 h.1 _ p q).1

pub one_osturdam_set-word : OneWhere (λ κ a s. (length a.0.now ≡ unit_long) × Characters s.0.now) osturdam-set-word.Post (λ κ r s. r)
one_osturdam_set-word κ a x y s t g h p q = (one_saying _ _ _ g.0 g.1 h.1 _ p q).0

pub one_osturdam_set-word-unit : OneWhere (λ κ a s. (length a.0.now ≡ unit_long) × Characters s.0.now) osturdam-set-word.Post (λ κ r s. s.0.now)
one_osturdam_set-word-unit κ a x y s t g h p q = ap (λ (z : Owned). z.unit) (one_saying _ _ _ g.0 g.1 h.1 _ p q).1

pub one_osturdam_contact : OneWhere (λ κ a s. (length a.0.now ≡ unit_long) × Characters s.0.now) osturdam-contact.Post (λ κ r s. r)
one_osturdam_contact κ a x y s t g h p q = (one_saying _ _ _ g.0 g.1 h.1 _ p q).0

pub one_osturdam_contact-unit : OneWhere (λ κ a s. (length a.0.now ≡ unit_long) × Characters s.0.now) osturdam-contact.Post (λ κ r s. s.0.now)
one_osturdam_contact-unit κ a x y s t g h p q = ap (λ (z : Owned). z.unit) (one_saying _ _ _ g.0 g.1 h.1 _ p q).1

pub one_osturdam_pulses : OneWhere (λ κ a s. (length a.0.now ≡ unit_long) × Characters s.0.now) osturdam-pulses.Post (λ κ r s. r)
one_osturdam_pulses κ a x y s t g h p q = (one_saying _ _ _ g.0 g.1 h.1 _ p q).0

pub one_osturdam_pulses-unit : OneWhere (λ κ a s. (length a.0.now ≡ unit_long) × Characters s.0.now) osturdam-pulses.Post (λ κ r s. s.0.now)
one_osturdam_pulses-unit κ a x y s t g h p q = ap (λ (z : Owned). z.unit) (one_saying _ _ _ g.0 g.1 h.1 _ p q).1

pub one_osturdam_set-value : OneWhere (λ κ a s. (length a.0.now ≡ unit_long) × Characters s.0.now) osturdam-set-value.Post (λ κ r s. r)
one_osturdam_set-value κ a x y s t g h p q = (one_saying _ _ _ g.0 g.1 h.1 _ p q).0

pub one_osturdam_set-value-unit : OneWhere (λ κ a s. (length a.0.now ≡ unit_long) × Characters s.0.now) osturdam-set-value.Post (λ κ r s. s.0.now)
one_osturdam_set-value-unit κ a x y s t g h p q = ap (λ (z : Owned). z.unit) (one_saying _ _ _ g.0 g.1 h.1 _ p q).1

pub one_osturdam_store_record : OneWhere (λ κ a s. (length a.0.now ≡ unit_long) × Characters s.0.now) osturdam-store-record.Post (λ κ r s. r)
one_osturdam_store_record κ a x y s t g h p q = (one_saying _ _ _ g.0 g.1 h.1 _ p q).0

pub one_osturdam_store_record_unit : OneWhere (λ κ a s. (length a.0.now ≡ unit_long) × Characters s.0.now) osturdam-store-record.Post (λ κ r s. s.0.now)
one_osturdam_store_record_unit κ a x y s t g h p q = ap (λ (z : Owned). z.unit) (one_saying _ _ _ g.0 g.1 h.1 _ p q).1

pub one_osturdam_store_record_records : OneWhere (λ κ a s. (length a.0.now ≡ unit_long) × Characters s.0.now) osturdam-store-record.Post (λ κ r s. s.1.1.0.now)
one_osturdam_store_record_records κ a x y s t g h p q = ap (λ (z : Owned). z.area) (one_saying _ _ _ g.0 g.1 h.1 _ p q).1

pub one_osturdam_sample : OneWhere (λ κ a s. (length a.0.now ≡ unit_long) × Characters s.0.now) osturdam-sample.Post (λ κ r s. r)
one_osturdam_sample κ a x y s t g h p q = (one_sampling _ _ _ g.0 g.1 h.1 _ p q).0

pub one_osturdam_sample-unit : OneWhere (λ κ a s. (length a.0.now ≡ unit_long) × Characters s.0.now) osturdam-sample.Post (λ κ r s. s.0.now)
one_osturdam_sample-unit κ a x y s t g h p q = ap (λ (z : Owned). z.unit) (one_sampling _ _ _ g.0 g.1 h.1 _ p q).2

pub one_osturdam_sample-records : OneWhere (λ κ a s. (length a.0.now ≡ unit_long) × Characters s.0.now) osturdam-sample.Post (λ κ r s. s.1.1.0.now)
one_osturdam_sample-records κ a x y s t g h p q = ap (λ (z : Owned). z.area) (one_sampling _ _ _ g.0 g.1 h.1 _ p q).2

pub one_osturdam_sample-sampled : OneWhere (λ κ a s. (length a.0.now ≡ unit_long) × Characters s.0.now) osturdam-sample.Post (λ κ r s. s.1.1.1.1.0.now)
one_osturdam_sample-sampled κ a x y s t g h p q = (one_sampling _ _ _ g.0 g.1 h.1 _ p q).1
