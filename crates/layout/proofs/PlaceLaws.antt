-- One part of readable numbers written anew: they are readable, and mean the same but for that part. Assumes nothing.
use Rattle.std.specs.Prelude.{◌≡◌, ℕ, ◌<◌, Bool, List, Option}
use mathlib.Core.Path.{refl, ◌∙◌}
use native.Mathlib.Nat.{mod-eq_of_lt}
use Rattle.model.specs.Step.{with_clock, with_hold, with_write, with_configure, with_error, with_broadcast}
use Rattle.model.specs.declared.Clock.{Clock}
use Rattle.model.specs.declared.Hold.{Hold}
use Rattle.model.specs.declared.Write.{Write}
use Rattle.model.specs.declared.HistoryReply.{HistoryReply}
use Rattle.model.specs.declared.Core.{Core}
use Rattle.model.specs.declared.Port.{Port}
use Rattle.layout.specs.Numbers.{
  hold_numbers,
  write_numbers,
  memory_numbers,
  numbers_of,
  put_clock,
  put_hold,
  put_write,
  put_memory,
  put_configure,
  put_error,
  put_broadcast,
  put_port,
  put_core,
  hold_in,
  write_in,
  reply_in,
  clock_in,
  core_in,
  memory_in,
  port_in,
  Written,
}
use Rattle.layout.proofs.NumbersLaws.{bit-back, mark-back}

module _ {k : Core} {w : Option HistoryReply} {p : Port} {ks : List ℕ} (a : Written k w p ks) {ls : List ℕ} where
  -- the clock
  pub clock-written : {t : Clock} → (ls ≡ put_clock t ks) × (t.hour < 256) × (t.minute < 256) × (t.second < 256) → Written (with_clock k t) w p ls
  unfolding numbers_of clock_in core_in memory_in port_in
  clock-written {t} b =
      let s = rw a.plain at a.means in
      rw (b.0, a.plain) (record { plain = refl; means = record { core = λ i. record { clock = record { day = t.day; hour = mod-eq_of_lt b.1 i; minute = mod-eq_of_lt b.2 i; second = mod-eq_of_lt b.3 i; ms = t.ms }; hold = (s.core i).hold; write = (s.core i).write; configure = (s.core i).configure; error = (s.core i).error; broadcast = (s.core i).broadcast }; memory = s.memory; port = s.port } })

  -- the select
  pub hold-written : {h : Hold} → (ls ≡ put_hold (hold_numbers h) ks) × (hold_in (hold_numbers h) ≡ h) → Written (with_hold k h) w p ls
  unfolding numbers_of clock_in core_in memory_in port_in
  hold-written b =
      let s = rw a.plain at a.means in
      rw (b.0, a.plain) (record { plain = refl; means = record { core = λ i. record { clock = (s.core i).clock; hold = b.1 i; write = (s.core i).write; configure = (s.core i).configure; error = (s.core i).error; broadcast = (s.core i).broadcast }; memory = s.memory; port = s.port } })

  -- the write
  pub write-written : {n : Option Write} → (ls ≡ put_write (write_numbers n) ks) × (write_in (write_numbers n) ≡ n) → Written (with_write k n) w p ls
  unfolding numbers_of clock_in core_in memory_in port_in
  write-written b =
      let s = rw a.plain at a.means in
      rw (b.0, a.plain) (record { plain = refl; means = record { core = λ i. record { clock = (s.core i).clock; hold = (s.core i).hold; write = b.1 i; configure = (s.core i).configure; error = (s.core i).error; broadcast = (s.core i).broadcast }; memory = s.memory; port = s.port } })

  -- status bit 7
  pub configure_written : {on : Bool} → ls ≡ put_configure on ks → Written (with_configure k on) w p ls
  unfolding numbers_of clock_in core_in memory_in port_in
  configure_written {on} b =
      let s = rw a.plain at a.means in
      rw (b, a.plain) (record { plain = refl; means = record { core = λ i. record { clock = (s.core i).clock; hold = (s.core i).hold; write = (s.core i).write; configure = bit-back on i; error = (s.core i).error; broadcast = (s.core i).broadcast }; memory = s.memory; port = s.port } })

  -- status bit 3
  pub error_written : {on : Bool} → ls ≡ put_error on ks → Written (with_error k on) w p ls
  unfolding numbers_of clock_in core_in memory_in port_in
  error_written {on} b =
      let s = rw a.plain at a.means in
      rw (b, a.plain) (record { plain = refl; means = record { core = λ i. record { clock = (s.core i).clock; hold = (s.core i).hold; write = (s.core i).write; configure = (s.core i).configure; error = bit-back on i; broadcast = (s.core i).broadcast }; memory = s.memory; port = s.port } })

  -- status bit 2
  pub broadcast_written : {on : Bool} → ls ≡ put_broadcast on ks → Written (with_broadcast k on) w p ls
  unfolding numbers_of clock_in core_in memory_in port_in
  broadcast_written {on} b =
      let s = rw a.plain at a.means in
      rw (b, a.plain) (record { plain = refl; means = record { core = λ i. record { clock = (s.core i).clock; hold = (s.core i).hold; write = (s.core i).write; configure = (s.core i).configure; error = (s.core i).error; broadcast = bit-back on i }; memory = s.memory; port = s.port } })

  -- the remembered history reply
  pub memory-written : {m : Option HistoryReply} → (ls ≡ put_memory (memory_numbers m) ks) × (reply_in (memory_numbers m) ≡ m) → Written k m p ls
  unfolding numbers_of clock_in core_in memory_in port_in
  memory-written b =
      let s = rw a.plain at a.means in
      rw (b.0, a.plain) (record { plain = refl; means = record { core = s.core; memory = b.1; port = s.port } })

  -- the port
  pub port-written : {q : Port} → ls ≡ put_port q ks → Written k w q ls
  unfolding numbers_of clock_in core_in memory_in port_in
  port-written {q} b =
      let s = rw a.plain at a.means in
      rw (b, a.plain) (record { plain = refl; means = record { core = s.core; memory = s.memory; port = λ i. record { silence = q.silence; mark = mark-back q.mark i } } })

  -- the core
  pub core-written : {l : Core} → ls ≡ put_core l ks → core_in ls ≡ l → Written l w p ls
  unfolding numbers_of clock_in core_in memory_in port_in
  core-written {l} b c =
      let s = rw a.plain at a.means in
      record { plain = b ∙ rw a.plain; means = record { core = c; memory = rw (b, a.plain) s.memory; port = rw (b, a.plain) s.port } }
