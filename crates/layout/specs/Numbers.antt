-- What a unit keeps besides lent areas and records, as 26 plain numbers: written, and read whatever they are.
use Rattle.std.specs.Prelude.{◌≡◌, ℕ, ◌%◌, Bool, true, false, cond, ◌&&◌, List, [], ◌∷◌, ◌==◌, slice_index, slice_set, None, Option, Some}
use Rattle.model.specs.Port.{mark_number}
use Rattle.model.specs.declared.Hold.{Hold}
use Rattle.model.specs.declared.Hold.TheVariants.{Free, Held, TimedOut}
use Rattle.model.specs.declared.Write.{Write}
use Rattle.model.specs.declared.HistoryReply.{HistoryReply}
use Rattle.model.specs.declared.Mark.{Mark}
use Rattle.model.specs.declared.Mark.TheVariants.{Fine, Silent, Damaged}
use Rattle.model.specs.declared.Clock.{Clock}
use Rattle.model.specs.declared.Core.{Core}
use Rattle.model.specs.declared.Port.{Port}
use Rattle.layout.specs.declared.select.HoldNumbers.{HoldNumbers}
use Rattle.layout.specs.declared.write.WriteNumbers.{WriteNumbers}
use Rattle.layout.specs.declared.memory.MemoryNumbers.{MemoryNumbers}

-- ---- written: a tag first, and 0 in each place that its case does not use

unfoldable pub bit_of : Bool → ℕ
bit_of on = cond on 1 0

unfoldable pub hold_numbers : Hold → HoldNumbers
hold_numbers Free = record { hold = 0; master = 0; output = 0; close = 0; age = 0 }
hold_numbers (Held s) = record { hold = 1; master = s.master.0; output = s.output.0; close = bit_of s.close; age = s.age }
hold_numbers (TimedOut m) = record { hold = 2; master = m.0; output = 0; close = 0; age = 0 }

unfoldable pub write_numbers : Option Write → WriteNumbers
write_numbers None = record { write = 0; master = 0; bias = 0; ordinal = 0; age = 0 }
write_numbers (Some w) = record { write = 1; master = w.master.0; bias = w.bias; ordinal = w.ordinal.0; age = w.age }

unfoldable pub memory_numbers : Option HistoryReply → MemoryNumbers
memory_numbers None = record { memory = 0; master = 0; file = 0; dump = 0; quantity = 0; more = 0 }
memory_numbers (Some t) =
    record { memory = 1; master = t.master.0; file = t.file.0; dump = bit_of t.dump; quantity = t.quantity; more = bit_of t.more }

-- the 26 numbers, in the order of include/osturdam.h
unfoldable pub numbers_of : Core → Option HistoryReply → Port → List ℕ
numbers_of k m p =
    k.clock.day ∷ k.clock.hour ∷ k.clock.minute ∷ k.clock.second ∷ k.clock.ms
    ∷ (hold_numbers k.hold).hold ∷ (hold_numbers k.hold).master ∷ (hold_numbers k.hold).output ∷ (hold_numbers k.hold).close ∷ (hold_numbers k.hold).age
    ∷ (write_numbers k.write).write ∷ (write_numbers k.write).master ∷ (write_numbers k.write).bias ∷ (write_numbers k.write).ordinal ∷ (write_numbers k.write).age
    ∷ bit_of k.configure ∷ bit_of k.error ∷ bit_of k.broadcast
    ∷ (memory_numbers m).memory ∷ (memory_numbers m).master ∷ (memory_numbers m).file ∷ (memory_numbers m).dump ∷ (memory_numbers m).quantity ∷ (memory_numbers m).more
    ∷ p.silence ∷ mark_number p.mark ∷ []

-- ---- in their places

abbrev pub hold_places : HoldNumbers → List ℕ
hold_places n = n.hold ∷ n.master ∷ n.output ∷ n.close ∷ n.age ∷ []

abbrev pub write_places : WriteNumbers → List ℕ
write_places n = n.write ∷ n.master ∷ n.bias ∷ n.ordinal ∷ n.age ∷ []

abbrev pub memory_places : MemoryNumbers → List ℕ
memory_places n = n.memory ∷ n.master ∷ n.file ∷ n.dump ∷ n.quantity ∷ n.more ∷ []

abbrev pub put_clock : Clock → List ℕ → List ℕ
put_clock t ks = slice_set (slice_set (slice_set (slice_set (slice_set ks 0 t.day) 1 t.hour) 2 t.minute) 3 t.second) 4 t.ms

abbrev pub put_hold : HoldNumbers → List ℕ → List ℕ
put_hold n ks = slice_set (slice_set (slice_set (slice_set (slice_set ks 5 n.hold) 6 n.master) 7 n.output) 8 n.close) 9 n.age

abbrev pub put_write : WriteNumbers → List ℕ → List ℕ
put_write n ks = slice_set (slice_set (slice_set (slice_set (slice_set ks 10 n.write) 11 n.master) 12 n.bias) 13 n.ordinal) 14 n.age

abbrev pub put_memory : MemoryNumbers → List ℕ → List ℕ
put_memory n ks = slice_set (slice_set (slice_set (slice_set (slice_set (slice_set ks 18 n.memory) 19 n.master) 20 n.file) 21 n.dump) 22 n.quantity) 23 n.more

abbrev pub put_configure : Bool → List ℕ → List ℕ
put_configure on ks = slice_set ks 15 (bit_of on)

abbrev pub put_error : Bool → List ℕ → List ℕ
put_error on ks = slice_set ks 16 (bit_of on)

abbrev pub put_broadcast : Bool → List ℕ → List ℕ
put_broadcast on ks = slice_set ks 17 (bit_of on)

abbrev pub put_port : Port → List ℕ → List ℕ
put_port p ks = slice_set (slice_set ks 24 p.silence) 25 (mark_number p.mark)

abbrev pub put_core : Core → List ℕ → List ℕ
put_core k ks =
    let ls = put_write (write_numbers k.write) (put_hold (hold_numbers k.hold) (put_clock k.clock ks)) in
    put_broadcast k.broadcast (put_error k.error (put_configure k.configure ls))

-- ---- read: any numbers mean something

unfoldable pub hold_in : HoldNumbers → Hold
hold_in n =
    cond (n.hold == 0) Free
    (cond (n.hold == 1)
    (Held (record { master = record { 0 = n.master % 256 }; output = record { 0 = n.output % 256 }; close = (n.close == 1); age = n.age }))
    (TimedOut (record { 0 = n.master % 256 })))

unfoldable pub write_in : WriteNumbers → Option Write
write_in n =
    cond (n.write == 0) None
    (Some (record { master = record { 0 = n.master % 256 }; bias = n.bias; ordinal = record { 0 = n.ordinal % 256 }; age = n.age }))

unfoldable pub reply_in : MemoryNumbers → Option HistoryReply
reply_in n =
    cond (n.memory == 0) None
    (Some (record {
      master = record { 0 = n.master % 256 };
      file = record { 0 = n.file % 256 };
      dump = (n.dump == 1);
      quantity = n.quantity % 256;
      more = (n.more == 1);
    }))

unfoldable pub mark_in : ℕ → Mark
mark_in n = cond (n == 0) Fine (cond (n == 1) Silent Damaged)

unfoldable pub clock_in : List ℕ → Clock
clock_in ks = record { day = slice_index ks 0; hour = slice_index ks 1 % 256; minute = slice_index ks 2 % 256; second = slice_index ks 3 % 256; ms = slice_index ks 4 }

abbrev pub hold_at : List ℕ → HoldNumbers
hold_at ks = record { hold = slice_index ks 5; master = slice_index ks 6; output = slice_index ks 7; close = slice_index ks 8; age = slice_index ks 9 }

abbrev pub write_at : List ℕ → WriteNumbers
write_at ks = record { write = slice_index ks 10; master = slice_index ks 11; bias = slice_index ks 12; ordinal = slice_index ks 13; age = slice_index ks 14 }

abbrev pub memory_at : List ℕ → MemoryNumbers
memory_at ks =
    record { memory = slice_index ks 18; master = slice_index ks 19; file = slice_index ks 20; dump = slice_index ks 21; quantity = slice_index ks 22; more = slice_index ks 23 }

unfoldable pub core_in : List ℕ → Core
core_in ks =
    record {
      clock = clock_in ks;
      hold = hold_in (hold_at ks);
      write = write_in (write_at ks);
      configure = (slice_index ks 15 == 1);
      error = (slice_index ks 16 == 1);
      broadcast = (slice_index ks 17 == 1);
    }

unfoldable pub memory_in : List ℕ → Option HistoryReply
memory_in ks = reply_in (memory_at ks)

-- the mark's number, whatever it is
abbrev pub mark_at : List ℕ → ℕ
mark_at ks = slice_index ks 25

unfoldable pub port_in : List ℕ → Port
port_in ks = record { silence = slice_index ks 24; mark = mark_in (mark_at ks) }

-- ---- both

unfoldable pub same : List ℕ → List ℕ → Bool
same [] [] = true
same [] (y ∷ ys) = false
same (x ∷ xs) [] = false
same (x ∷ xs) (y ∷ ys) = x == y && same xs ys

-- numbers that a unit writes for what they mean
unfoldable pub readable : List ℕ → Bool
readable ks = same (numbers_of (core_in ks) (memory_in ks) (port_in ks)) ks

-- numbers that mean this core, memory and port
pub record Means (ks : List ℕ) (k : Core) (m : Option HistoryReply) (p : Port) : Type 0 where
  pub core : core_in ks ≡ k
  pub memory : memory_in ks ≡ m
  pub port : port_in ks ≡ p

-- what is written: the numbers, and that they mean what was written
pub record Written (k : Core) (m : Option HistoryReply) (p : Port) (ks : List ℕ) : Type 0 where
  pub plain : ks ≡ numbers_of k m p
  pub means : Means ks k m p
