-- What the events on points and 20h/11h come to, case by case.
-- Assumes nothing.
use Rattle.std.proofs.Common.{◌≡◌, ℕ, ◌+◌, ◌%◌, true, false, List, [], ◌∷◌, length, get_or, set, refl, arith, eq-eqb, ne_eqb}
use Rattle.model.specs.Frame.{Request}
use Rattle.model.specs.Config.{has, has_calculation, Config, is_mean}
use Rattle.model.specs.Scan.{counts}
use Rattle.model.specs.Inputs.{changes, unchanged, settable, has_accumulator, set_word_of, pulses_of, reset_count_of}
use Rattle.model.specs.Means.{value_settable}
use Rattle.model.proofs.Conditions.{by_bool}
use Rattle.model.specs.Calculations.{set_value_of}
use Rattle.model.specs.declared.Outcome.TheVariants.{NotValid, WrongCount}

-- ---- events

module _ (table words : List ℕ) (n v : ℕ) where
  pub word_set : has table n ≡ true → settable n ≡ true → set_word_of table words n v ≡ changes [] (set words n v)
  unfolding set_word_of
  word_set e f = simp (e, f)

  pub word-other : has table n ≡ true → settable n ≡ false → set_word_of table words n v ≡ unchanged NotValid words
  unfolding set_word_of
  word-other e f = simp (e, f)

  pub word-missing : has table n ≡ false → set_word_of table words n v ≡ unchanged NotValid words
  unfolding set_word_of
  word-missing e = simp e

  pub pulses_added : has_accumulator table n ≡ true → pulses_of table words n v ≡ changes [] (set words n ((get_or words n 0 + v) % 65536))
  unfolding pulses_of
  pulses_added e = simp e

  pub pulses-missing : has_accumulator table n ≡ false → pulses_of table words n v ≡ unchanged NotValid words
  unfolding pulses_of
  pulses-missing e = simp e

-- ---- a calculation value

module _ (c : Config) (values : List ℕ) (n v : ℕ) where
  pub value_set : has_calculation c.calculations n ≡ true → is_mean c n ≡ false → set_value_of c values n v ≡ changes [] (set values n v)
  unfolding set_value_of value_settable
  value_set e m = simp (e, m)

  pub value_mean : is_mean c n ≡ true → set_value_of c values n v ≡ unchanged NotValid values
  unfolding set_value_of value_settable
  value_mean m = by_bool (has_calculation c.calculations n) (λ e. simp (e, m)) (λ e. simp e)

  pub value-missing : has_calculation c.calculations n ≡ false → set_value_of c values n v ≡ unchanged NotValid values
  unfolding set_value_of value_settable
  value-missing e = simp e

-- ---- 20h/11h

-- one number is all the data
pub only : (s : List ℕ) → length s ≡ 1 → s ≡ get_or s 0 0 ∷ []
only [] h = absurd (omega arith)
only (x ∷ []) h = refl
only (x ∷ y ∷ s) h = absurd (omega arith)

module _ (table words : List ℕ) (q : Request) where
  pub reset_miscounted : (length q.body ≡ 1 → ⊥) → reset_count_of table words q ≡ unchanged WrongCount words
  unfolding reset_count_of counts
  reset_miscounted h = simp (ne_eqb _ _ h)

  pub reset-missing : length q.body ≡ 1 → has_accumulator table (get_or q.body 0 0) ≡ false → reset_count_of table words q ≡ unchanged NotValid words
  unfolding reset_count_of counts
  reset-missing h e = simp (eq-eqb _ _ h, e)

  pub reset-done : length q.body ≡ 1 → has_accumulator table (get_or q.body 0 0) ≡ true
      → reset_count_of table words q ≡ changes q.body (set words (get_or q.body 0 0) 0)
  unfolding reset_count_of counts
  reset-done h e = simp (eq-eqb _ _ h, e)
