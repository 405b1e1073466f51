-- What a scan's function says is such as a master believes: functions 00, 0Ah and 03 over any words, tables and values. Assumes nothing.
use Prim.Native.Nat.{ℕ, ◌*◌, ◌≤◌}
use mathlib.Core.Path.{◌≡◌, refl, sym, ◌∙◌}
use mathlib.Core.Logic.{◌⊎◌, inl, inr}
use mathlib.Core.List.{List}
use mathlib.Core.Bool.{Bool, true, false, cond, not, ◌&&◌, ◌||◌}
use lib.ListN.{length}
use lib.Dec.{eqb, leb}
use native.Mathlib.Omega.{arith}
use borrow.Author.Tests.{eq-eqb, ne_eqb}
use Rattle.model.specs.Frame.{Request}
use Rattle.model.specs.Outcome.{sending_of}
use Rattle.model.specs.Scan.{Scan, tells, refuses, refuses_with}
use Rattle.model.specs.Inputs.{chosen}
use Rattle.model.specs.Believe.{
  empty,
  same_chars,
  filled_by,
  tells_values,
  tells_missing,
  tells_records,
  all_serve,
  tells_control,
  tells_internal,
  tells_return,
  could_tell,
  could_refuse,
}
use Rattle.model.specs.History.{dumps}
use Rattle.model.specs.declared.Outcome.{Outcome}
use Rattle.model.specs.declared.Sending.{Sending}
use Rattle.model.specs.declared.Sending.TheVariants.{Normal, Nop, Rst, Unanswered}

-- ---- what a master believes of an outcome

unfoldable pub could_send : Sending → Request → List ℕ → Bool
could_send Normal q ys = could_tell q ys
could_send Nop q ys = could_refuse q ys
could_send Rst q ys = empty ys
could_send Unanswered q ys = true

-- no more than a reply takes, and such data
unfoldable pub Answers : Request → Scan → Type 0
Answers q r = (length r.chars ≤ 511) × (could_send (sending_of r.outcome) q r.chars ≡ true)

module _ (q : Request) where
  pub told : (ys : List ℕ) → length ys ≤ 511 → could_tell q ys ≡ true → Answers q (tells ys)
  unfolding Answers could_send
  told ys l e = (l, e)

  pub declined : (ys : List ℕ) (o : Outcome) → sending_of o ≡ Nop → length ys ≤ 511 → could_refuse q ys ≡ true → Answers q (refuses_with ys o)
  unfolding Answers could_send
  declined ys o s l e = (l, rw s e)

  pub reset : (o : Outcome) → sending_of o ≡ Rst → Answers q (refuses o)
  unfolding Answers could_send empty
  reset o s = (omega arith, rw s refl)

-- ---- by the function that was asked

pub unlike : (q : Request) (n : ℕ) → (q.function ≡ n → ⊥) → eqb q.function n ≡ false
unlike q n h = ne_eqb q.function n h

module _ (q : Request) (ys : List ℕ) where
  pub tell_inputs : q.function ≡ 0x00 → could_tell q ys ≡ (filled_by 2 ys && leb (length ys) (2 * length (chosen q.command)))
  unfolding could_tell
  tell_inputs e = rw (eq-eqb q.function 0x00 e)

  pub tell_calculations : q.function ≡ 0x03 → could_tell q ys ≡ cond (eqb q.command 0x80) (filled_by 4 ys) (tells_values q.body ys)
  unfolding could_tell
  tell_calculations e = rw (unlike q 0x00 (λ k. omega arith), eq-eqb q.function 0x03 e)

  pub tell_history : q.function ≡ 0x04 → could_tell q ys ≡ tells_records (dumps q) ys
  unfolding could_tell
  tell_history e = rw (unlike q 0x00 (λ k. omega arith), unlike q 0x03 (λ k. omega arith), eq-eqb q.function 0x04 e)

  pub tell_tables : q.function ≡ 0x0A → could_tell q ys ≡ filled_by 2 ys
  unfolding could_tell
  tell_tables e = rw (unlike q 0x00 (λ k. omega arith), unlike q 0x03 (λ k. omega arith), unlike q 0x04 (λ k. omega arith), eq-eqb q.function 0x0A e)

  pub tell_control : q.function ≡ 0x10 → could_tell q ys ≡ tells_control q ys
  unfolding could_tell
  tell_control e =
      rw (unlike q 0x00 (λ k. omega arith), unlike q 0x03 (λ k. omega arith), unlike q 0x04 (λ k. omega arith), unlike q 0x0A (λ k. omega arith), eq-eqb q.function 0x10 e)

  pub tell_internal : q.function ≡ 0x20 → could_tell q ys ≡ tells_internal q ys
  unfolding could_tell
  tell_internal e =
      rw (
        unlike q 0x00 (λ k. omega arith),
        unlike q 0x03 (λ k. omega arith),
        unlike q 0x04 (λ k. omega arith),
        unlike q 0x0A (λ k. omega arith),
        unlike q 0x10 (λ k. omega arith),
        eq-eqb q.function 0x20 e,
      )

  pub tell_return : q.function ≡ 0x28 → could_tell q ys ≡ tells_return q ys
  unfolding could_tell
  tell_return e =
      rw (
        unlike q 0x00 (λ k. omega arith),
        unlike q 0x03 (λ k. omega arith),
        unlike q 0x04 (λ k. omega arith),
        unlike q 0x0A (λ k. omega arith),
        unlike q 0x10 (λ k. omega arith),
        unlike q 0x20 (λ k. omega arith),
      )

  pub refuse_calculations : q.function ≡ 0x03 → could_refuse q ys ≡ cond (eqb q.command 0x80) (empty ys) (tells_missing q.body ys)
  unfolding could_refuse
  refuse_calculations e = rw (unlike q 0x00 (λ k. omega arith), eq-eqb q.function 0x03 e)

  -- history and tables
  neither : (q.function ≡ 0x04) ⊎ (q.function ≡ 0x0A) → (n : ℕ) → (0x04 ≡ n → ⊥) → (0x0A ≡ n → ⊥) → eqb q.function n ≡ false
  neither (inl e) n a b = unlike q n (λ k. a (sym e ∙ k))
  neither (inr e) n a b = unlike q n (λ k. b (sym e ∙ k))

  pub refuse_plain : (q.function ≡ 0x04) ⊎ (q.function ≡ 0x0A) → could_refuse q ys ≡ empty ys
  unfolding could_refuse
  refuse_plain h =
      let but : (n : ℕ) → (0x04 ≡ n → ⊥) → (0x0A ≡ n → ⊥) → eqb q.function n ≡ false = neither h in
      rw (
        but 0x00 (λ k. omega arith) (λ k. omega arith),
        but 0x03 (λ k. omega arith) (λ k. omega arith),
        but 0x10 (λ k. omega arith) (λ k. omega arith),
        but 0x20 (λ k. omega arith) (λ k. omega arith),
        but 0x28 (λ k. omega arith) (λ k. omega arith),
      )

  pub refuse_control : q.function ≡ 0x10 → could_refuse q ys ≡ (not (eqb q.command 0x21) && empty ys)
  unfolding could_refuse
  refuse_control e = rw (unlike q 0x00 (λ k. omega arith), unlike q 0x03 (λ k. omega arith), eq-eqb q.function 0x10 e)

  pub refuse_internal : q.function ≡ 0x20 → could_refuse q ys ≡ (not (eqb q.command 0x00 || eqb q.command 0x30) && empty ys)
  unfolding could_refuse
  refuse_internal e = rw (unlike q 0x00 (λ k. omega arith), unlike q 0x03 (λ k. omega arith), unlike q 0x10 (λ k. omega arith), eq-eqb q.function 0x20 e)

  pub refuse_return : q.function ≡ 0x28 → could_refuse q ys ≡ (eqb q.command 0x30 && (same_chars ys q.body && not (all_serve q.body)))
  unfolding could_refuse
  refuse_return e =
      rw (unlike q 0x00 (λ k. omega arith), unlike q 0x03 (λ k. omega arith), unlike q 0x10 (λ k. omega arith), unlike q 0x20 (λ k. omega arith), eq-eqb q.function 0x28 e)
