-- Numbers written are read as what was written, and readable numbers are those written for what they mean. Assumes nothing.
use mir.Val.{bool_byte}
use Rattle.std.specs.Prelude.{◌≡◌, ℕ, zero, suc, ◌%◌, ◌<◌, Bool, true, false, eqb, List, [], ◌∷◌, length, get_or, drop, Option, Some}
use mathlib.Core.Path.{refl, sym, ◌∙◌}
use native.Mathlib.Omega.{arith}
use native.Mathlib.Nat.{mod-eq_of_lt}
use borrow.Author.Tests.{eqb-true, eq-eqb}
use Rattle.model.specs.Port.{mark_number}
use Rattle.model.specs.declared.Master.{Master}
use Rattle.model.specs.declared.Select.{Select}
use Rattle.model.specs.declared.Hold.{Hold}
use Rattle.model.specs.declared.Hold.TheVariants.{Held, TimedOut}
use Rattle.model.specs.declared.Write.{Write}
use Rattle.model.specs.declared.HistoryReply.{HistoryReply}
use Rattle.model.specs.declared.Core.{Core}
use Rattle.model.specs.declared.Mark.{Mark}
use Rattle.model.specs.declared.Mark.TheVariants.{Fine, Silent, Damaged}
use Rattle.model.specs.declared.Port.{Port}
use Rattle.model.proofs.Conditions.{false-true, and_left, and_right, and_both}
use Rattle.layout.specs.declared.select.HoldNumbers.{HoldNumbers}
use Rattle.layout.specs.declared.write.WriteNumbers.{WriteNumbers}
use Rattle.layout.specs.declared.memory.MemoryNumbers.{MemoryNumbers}
use Rattle.layout.specs.Numbers.{
  bit_of,
  hold_numbers,
  write_numbers,
  memory_numbers,
  numbers_of,
  put_core,
  hold_in,
  write_in,
  reply_in,
  mark_in,
  clock_in,
  core_in,
  memory_in,
  port_in,
  same,
  readable,
  Written,
}

-- ---- two lists

pub same_refl : (xs : List ℕ) → same xs xs ≡ true
unfolding same
same_refl [] = refl
same_refl (x ∷ xs) = and_both (eq-eqb x x refl) (same_refl xs)

pub same_equal : (xs ys : List ℕ) → same xs ys ≡ true → xs ≡ ys
unfolding same
same_equal [] [] e = refl
same_equal [] (y ∷ ys) e = false-true e
same_equal (x ∷ xs) [] e = false-true e
same_equal (x ∷ xs) (y ∷ ys) e =
    λ i. eqb-true x y (and_left (eqb x y) (same xs ys) e) i ∷ same_equal xs ys (and_right (eqb x y) (same xs ys) e) i

-- ---- written and read back

pub one_none : {n : ℕ} → n ≡ 1 → n ≡ 0 → ⊥
one_none p q = omega arith

-- a byte written is its number, below 256; a bit is 0 or 1
abbrev pub Byte : ℕ → ℕ → Type 0
Byte x n = (n ≡ x) × (n < 256)

abbrev pub Bit : Bool → ℕ → Type 0
Bit on n = (n ≡ bit_of on) × (eqb n 1 ≡ on)

back : {x n : ℕ} → Byte x n → n % 256 ≡ x
back b = mod-eq_of_lt b.1 ∙ b.0

pub bit-back : (b : Bool) → eqb (bit_of b) 1 ≡ b
unfolding bit_of
bit-back true = refl
bit-back false = refl

-- a flag as a number
pub flag-number : (b : Bool) → bool_byte b ≡ bit_of b
unfolding bit_of
flag-number true = refl
flag-number false = refl

pub bit_told : {b : Bool} {n : ℕ} → n ≡ bool_byte b → Bit b n
bit_told {b = b} e = let z = e ∙ flag-number b in (z, rw z (bit-back b))

abbrev pub HoldBack : Hold → HoldNumbers → Type 0
HoldBack h n = (n ≡ hold_numbers h) × (hold_in n ≡ h)

pub held_back : {s : Select} {h : Hold} {m o b : ℕ} → h ≡ Held s → Byte s.master.0 m → Byte s.output.0 o → Bit s.close b
    → HoldBack h (record { hold = 1; master = m; output = o; close = b; age = s.age })
unfolding hold_numbers hold_in
held_back {s} e m o b =
    rw e (
      λ i. record { hold = 1; master = m.0 i; output = o.0 i; close = b.0 i; age = s.age },
      λ i. Held (record { master = record { 0 = back m i }; output = record { 0 = back o i }; close = b.1 i; age = s.age }),
    )

pub timed_out_back : {t : Master} {h : Hold} {m : ℕ} → h ≡ TimedOut t → Byte t.0 m
    → HoldBack h (record { hold = 2; master = m; output = 0; close = 0; age = 0 })
unfolding hold_numbers hold_in
timed_out_back e m = rw e (λ i. record { hold = 2; master = m.0 i; output = 0; close = 0; age = 0 }, λ i. TimedOut (record { 0 = back m i }))

abbrev pub WriteBack : Option Write → WriteNumbers → Type 0
WriteBack p n = (n ≡ write_numbers p) × (write_in n ≡ p)

pub waits_back : {w : Write} {p : Option Write} {m o : ℕ} → p ≡ Some w → Byte w.master.0 m → Byte w.ordinal.0 o
    → WriteBack p (record { write = 1; master = m; bias = w.bias; ordinal = o; age = w.age })
unfolding write_numbers write_in
waits_back {w} e m o =
    rw e (
      λ i. record { write = 1; master = m.0 i; bias = w.bias; ordinal = o.0 i; age = w.age },
      λ i. Some (record { master = record { 0 = back m i }; bias = w.bias; ordinal = record { 0 = back o i }; age = w.age }),
    )

abbrev pub MemoryBack : Option HistoryReply → MemoryNumbers → Type 0
MemoryBack m n = (n ≡ memory_numbers m) × (reply_in n ≡ m)

pub remembered_back : {t : HistoryReply} {w : Option HistoryReply} {m f d q b : ℕ} → w ≡ Some t
    → Byte t.master.0 m → Byte t.file.0 f → Bit t.dump d → Byte t.quantity q → Bit t.more b
    → MemoryBack w (record { memory = 1; master = m; file = f; dump = d; quantity = q; more = b })
unfolding memory_numbers reply_in
remembered_back e m f d q b =
    rw e (
      λ i. record { memory = 1; master = m.0 i; file = f.0 i; dump = d.0 i; quantity = q.0 i; more = b.0 i },
      λ i. Some (record { master = record { 0 = back m i }; file = record { 0 = back f i }; dump = d.1 i; quantity = back q i; more = b.1 i }),
    )

-- a list of n numbers, number by number
unfoldable pub firsts : ℕ → List ℕ → List ℕ
firsts zero ks = []
firsts (suc n) ks = get_or ks 0 0 ∷ firsts n (drop 1 ks)

pub all_firsts : (n : ℕ) (ks : List ℕ) → length ks ≡ n → ks ≡ firsts n ks
unfolding firsts
all_firsts zero [] e = refl
all_firsts zero (x ∷ xs) e = absurd (omega arith)
all_firsts (suc n) [] e = absurd (omega arith)
all_firsts (suc n) (x ∷ xs) e = let l : length xs ≡ n = omega arith in λ i. x ∷ all_firsts n xs l i

pub mark-back : (m : Mark) → mark_in (mark_number m) ≡ m
unfolding mark_in mark_number
mark-back Fine = refl
mark-back Silent = refl
mark-back Damaged = refl

-- the core
pub core-back : {k : Core} (ks : List ℕ) → length ks ≡ 26
    → (k.clock.hour < 256) × (k.clock.minute < 256) × (k.clock.second < 256)
    → hold_in (hold_numbers k.hold) ≡ k.hold → write_in (write_numbers k.write) ≡ k.write → core_in (put_core k ks) ≡ k
unfolding firsts clock_in core_in
core-back {k} ks l t h n =
    rw (all_firsts 26 ks l)
    (λ i.
    record {
      clock = record {
        day = k.clock.day;
        hour = mod-eq_of_lt t.0 i;
        minute = mod-eq_of_lt t.1 i;
        second = mod-eq_of_lt t.2 i;
        ms = k.clock.ms;
      };
      hold = h i;
      write = n i;
      configure = bit-back k.configure i;
      error = bit-back k.error i;
      broadcast = bit-back k.broadcast i;
    })

-- what was written, is readable
pub written-readable : {core : Core} {memory : Option HistoryReply} {port : Port} {ks : List ℕ} → Written core memory port ks → readable ks ≡ true
unfolding readable
written-readable {ks = ks} w =
    rw (w.means.core, w.means.memory, w.means.port, ← w.plain) (same_refl ks)

-- numbers that are readable are those written for what they mean
pub readable-written : (ks : List ℕ) → readable ks ≡ true → Written (core_in ks) (memory_in ks) (port_in ks) ks
unfolding readable
readable-written ks e =
    record { plain = sym (same_equal (numbers_of (core_in ks) (memory_in ks) (port_in ks)) ks e); means = record { core = refl; memory = refl; port = refl } }

-- and two lists of them with the same meaning are equal
pub readable-one : (ks ls : List ℕ) → readable ks ≡ true → readable ls ≡ true
    → core_in ks ≡ core_in ls → memory_in ks ≡ memory_in ls → port_in ks ≡ port_in ls → ks ≡ ls
readable-one ks ls e f c m p =
    (readable-written ks e).plain ∙ rw (c, m, p) (sym (readable-written ls f).plain)
