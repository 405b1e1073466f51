-- Numbers that a unit writes for what they mean are those in their ranges, and 0 where their case writes none. Assumes nothing.
use Rattle.std.specs.Prelude.{◌≡◌, ℕ, ◌%◌, ◌<◌, Bool, true, false, ◌&&◌, eqb, ltb, List, length, get_or}
use mathlib.Core.Path.{refl, sym, subst}
use native.Mathlib.Omega.{arith}
use native.Mathlib.Nat.{mod-eq_of_lt}
use mathlib.Core.Bool.{and_assoc, and-true}
use borrow.Author.Tests.{eqb-true, eq-eqb, ne_eqb, ltb-true, lt-ltb}
use Rattle.model.specs.Port.{mark_number}
use Rattle.model.proofs.Conditions.{by_eqb}
use Rattle.layout.specs.declared.select.HoldNumbers.{HoldNumbers}
use Rattle.layout.specs.declared.write.WriteNumbers.{WriteNumbers}
use Rattle.layout.specs.declared.memory.MemoryNumbers.{MemoryNumbers}
use Rattle.layout.specs.Numbers.{
  bit_of,
  hold_numbers,
  write_numbers,
  memory_numbers,
  numbers_of,
  hold_places,
  write_places,
  memory_places,
  hold_in,
  write_in,
  reply_in,
  mark_in,
  clock_in,
  hold_at,
  write_at,
  memory_at,
  core_in,
  memory_in,
  port_in,
  same,
  readable,
}
use Rattle.layout.proofs.NumbersLaws.{firsts, all_firsts}

pub same_bool : (a b : Bool) → (a ≡ true → b ≡ true) → (b ≡ true → a ≡ true) → a ≡ b
same_bool true b f g = sym (f refl)
same_bool false true f g = g refl
same_bool false false f g = refl

eqb_same : (n : ℕ) → eqb n n ≡ true
eqb_same n = eq-eqb n n refl

zero_same : (n : ℕ) → eqb 0 n ≡ eqb n 0
zero_same n = same_bool (eqb 0 n) (eqb n 0) (λ e. eq-eqb n 0 (sym (eqb-true 0 n e))) (λ e. eq-eqb 0 n (sym (eqb-true n 0 e)))

byte_same : (n : ℕ) → eqb (n % 256) n ≡ ltb n 256
byte_same n =
    same_bool (eqb (n % 256) n) (ltb n 256)
    (λ e. let p : n % 256 ≡ n = eqb-true (n % 256) n e in let l : n < 256 = omega arith in lt-ltb n 256 l)
    (λ e. eq-eqb (n % 256) n (mod-eq_of_lt (ltb-true n 256 e)))

bit-same : (n : ℕ) → eqb (bit_of (eqb n 1)) n ≡ ltb n 2
unfolding bit_of
bit-same n =
    by_eqb n 1 (λ p. rw p)
    (λ p. rw (ne_eqb n 1 p)
    (same_bool (eqb 0 n) (ltb n 2) (λ e. let q : 0 ≡ n = eqb-true 0 n e in let l : n < 2 = omega arith in lt-ltb n 2 l)
    (λ e. let l : n < 2 = ltb-true n 2 e in eq-eqb 0 n (omega arith))))

mark-same : (n : ℕ) → eqb (mark_number (mark_in n)) n ≡ ltb n 3
unfolding mark_number mark_in
mark-same n =
    by_eqb n 0 (λ p. rw p)
    (λ p. by_eqb n 1 (λ q. rw q)
    (λ q. rw (ne_eqb n 0 p, ne_eqb n 1 q)
    (same_bool (eqb 2 n) (ltb n 3) (λ e. let z : 2 ≡ n = eqb-true 2 n e in let l : n < 3 = omega arith in lt-ltb n 3 l)
    (λ e. let l : n < 3 = ltb-true n 3 e in eq-eqb 2 n (omega arith)))))

module _ (n : HoldNumbers) where
  pub hold-free : n.hold ≡ 0 → (eqb n.master 0 && eqb n.output 0 && eqb n.close 0 && eqb n.age 0) ≡ same (hold_places (hold_numbers (hold_in n))) (hold_places n)
  unfolding hold_in hold_numbers same
  hold-free e = rw e (simp (zero_same, and_assoc, and-true))

  pub hold-held : n.hold ≡ 1 → (ltb n.master 256 && ltb n.output 256 && ltb n.close 2) ≡ same (hold_places (hold_numbers (hold_in n))) (hold_places n)
  unfolding hold_in hold_numbers same
  hold-held e = rw e (simp (byte_same, bit-same, eqb_same, and_assoc, and-true))

  pub hold-timed_out : n.hold ≡ 2 → (ltb n.master 256 && eqb n.output 0 && eqb n.close 0 && eqb n.age 0) ≡ same (hold_places (hold_numbers (hold_in n))) (hold_places n)
  unfolding hold_in hold_numbers same
  hold-timed_out e = rw e (simp (byte_same, zero_same, and_assoc, and-true))

  pub hold-none : (n.hold ≡ 0 → ⊥) → (n.hold ≡ 1 → ⊥) → (n.hold ≡ 2 → ⊥) → false ≡ same (hold_places (hold_numbers (hold_in n))) (hold_places n)
  unfolding hold_in hold_numbers same
  hold-none p q r = rw (ne_eqb n.hold 0 p, ne_eqb n.hold 1 q, ne_eqb 2 n.hold (λ e. r (sym e)))

module _ (n : WriteNumbers) where
  pub write-free : n.write ≡ 0 → (eqb n.master 0 && eqb n.bias 0 && eqb n.ordinal 0 && eqb n.age 0) ≡ same (write_places (write_numbers (write_in n))) (write_places n)
  unfolding write_in write_numbers same
  write-free e = rw e (simp (zero_same, and_assoc, and-true))

  pub write-waits : n.write ≡ 1 → (ltb n.master 256 && ltb n.ordinal 256) ≡ same (write_places (write_numbers (write_in n))) (write_places n)
  unfolding write_in write_numbers same
  write-waits e = rw e (simp (byte_same, eqb_same, and-true))

  pub write-none : (n.write ≡ 0 → ⊥) → (n.write ≡ 1 → ⊥) → false ≡ same (write_places (write_numbers (write_in n))) (write_places n)
  unfolding write_in write_numbers same
  write-none p q = rw (ne_eqb n.write 0 p, ne_eqb 1 n.write (λ e. q (sym e)))

module _ (n : MemoryNumbers) where
  pub memory-nothing : n.memory ≡ 0 → (eqb n.master 0 && eqb n.file 0 && eqb n.dump 0 && eqb n.quantity 0 && eqb n.more 0) ≡ same (memory_places (memory_numbers (reply_in n))) (memory_places n)
  unfolding reply_in memory_numbers same
  memory-nothing e = rw e (simp (zero_same, and_assoc, and-true))

  pub memory_remembered : n.memory ≡ 1 → (ltb n.master 256 && ltb n.file 256 && ltb n.dump 2 && ltb n.quantity 256 && ltb n.more 2) ≡ same (memory_places (memory_numbers (reply_in n))) (memory_places n)
  unfolding reply_in memory_numbers same
  memory_remembered e = rw e (simp (byte_same, bit-same, and_assoc, and-true))

  pub memory-none : (n.memory ≡ 0 → ⊥) → (n.memory ≡ 1 → ⊥) → false ≡ same (memory_places (memory_numbers (reply_in n))) (memory_places n)
  unfolding reply_in memory_numbers same
  memory-none p q = rw (ne_eqb n.memory 0 p, ne_eqb 1 n.memory (λ e. q (sym e)))

-- the parts together
abbrev pub Parts : List ℕ → Type 0
Parts ks =
    readable ks
    ≡ ((ltb (get_or ks 1 0) 256 && ltb (get_or ks 2 0) 256 && ltb (get_or ks 3 0) 256)
    && (same (hold_places (hold_numbers (hold_in (hold_at ks)))) (hold_places (hold_at ks))
    && (same (write_places (write_numbers (write_in (write_at ks)))) (write_places (write_at ks))
    && ((ltb (get_or ks 15 0) 2 && ltb (get_or ks 16 0) 2 && ltb (get_or ks 17 0) 2)
    && (same (memory_places (memory_numbers (reply_in (memory_at ks)))) (memory_places (memory_at ks)) && ltb (get_or ks 25 0) 3)))))

firsts_parts : (ks : List ℕ) → Parts (firsts 26 ks)
unfolding firsts readable numbers_of clock_in core_in memory_in port_in same
firsts_parts ks = simp (byte_same, bit-same, mark-same, eqb_same, and_assoc, and-true)

pub readable-parts : (ks : List ℕ) → length ks ≡ 26 → Parts ks
readable-parts ks l = subst Parts (sym (all_firsts 26 ks l)) (firsts_parts ks)
