-- What may happen to a unit: a stretch, time, and the local events.
use Rattle.std.specs.Prelude.{ℕ, List}
use Rattle.model.specs.declared.Contact.{Contact}
use Rattle.model.specs.declared.Input.{Input}
use Rattle.model.specs.declared.SpecialCalculation.{SpecialCalculation}
use Rattle.model.specs.declared.File.{File}

-- a stretch as it comes: the length of the lent buffer, its characters, and the milliseconds from the sync point to the idle mark (Covers 3;
-- Frames 17; Request 2.3)
pub record Stretch : Type 0 where
  pub room : ℕ
  pub chars : List ℕ
  pub lag : ℕ

-- a word set, a calculation value set, pulses counted, a record stored, the state of a contact given, a sample taken for a mean (Scans 3; Request 4.3, 8.1)
pub data Local : Type 0 where
  set_word : Input → ℕ → Local
  set_value : SpecialCalculation → ℕ → Local
  pulses : Input → ℕ → Local
  store : File → ℕ → List ℕ → Local
  contact : Contact → ℕ → Local
  sample : SpecialCalculation → Local

-- time is in milliseconds (Outcomes 9)
pub data Event : Type 0 where
  stretch : Stretch → Event
  elapsed : ℕ → Event
  local : Local → Event
