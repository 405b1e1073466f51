-- What a unit's memory means after an event on a point that met its promise: the point's area as the model has it, all else as it was.
-- Assumes nothing.
use Rattle.std.proofs.Common.{◌≡◌, ℕ, ◌+◌, ◌*◌, ◌/◌, ◌%◌, ◌<◌, Bool, true, false, cond, ◌&&◌, eqb, ltb, List, [], ◌∷◌, length, get_or, set, refl, ap, ◌∙◌, arith, lit<}
use Rattle.model.proofs.Conditions.{by_bool, by_eqb, and_right}
use Rattle.model.specs.Outcome.{number_of}
use Rattle.model.specs.Frame.{Request}
use Rattle.model.specs.Config.{has, accumulator, has_calculation, is_mean}
use Rattle.model.specs.Scan.{Fills}
use Rattle.model.specs.Inputs.{Changed, changes, unchanged, settable, has_accumulator, set_word_of, pulses_of, reset_count_of}
use Rattle.model.specs.Calculations.{set_value_of}
use Rattle.model.specs.Contacts.{Contacted, word_after, changed_after, contact_of}
use Rattle.model.specs.declared.Outcome.{Outcome}
use Rattle.model.specs.declared.Outcome.TheVariants.{Done, NotValid, WrongCount}
use Rattle.model.specs.declared.Filled.{Filled}
use Rattle.layout.specs.Unit.{Unit, unit_sizes, unit_long, inputs_region, words_region, changed_region, config_from, unit_from, unit_in, config_in, set_words, set_values, set_changed, set_contacts, put_in, put_word, put_value, put_changed}
use Rattle.layout.proofs.UnitLaws.{length-put_in, region_size, word-written, value_written, changed-written}
use Rattle.points.specs.Answer.{Sets}
use Rattle.points.proofs.NumberLaws.{has_below, calculation_below}
use Rattle.points.proofs.ChangeLaws.{word_set, word-other, word-missing, pulses_added, pulses-missing, value_set, value_mean, value-missing, reset_miscounted, reset-missing, reset-done}

-- ---- how long the memory is

long_either : (b : Bool) (u w : List ℕ) → length w ≡ length u → length (cond b w u) ≡ length u
long_either true u w e = e
long_either false u w e = refl

-- set_word, pulses, set_value
pub sets_long : {m : Changed} {u v : List ℕ} {r : Outcome} (k i : ℕ) (ys : List ℕ) → Sets m u (put_in u k i ys) v r → length v ≡ length u
sets_long {u = u} {r = r} k i ys p = ap length p.left ∙ long_either (eqb (number_of r) 0) u (put_in u k i ys) (length-put_in u k i ys)

-- reset_count is the same promise
pub reset_sets : {entry exit v : List ℕ} {r : Filled} (m : Changed) (u w : List ℕ)
    → Fills entry exit m.says r × (v ≡ cond (eqb (number_of r.outcome) 0) w u) → Sets m u w v r.outcome
reset_sets m u w p = record { ended = p.0.ended; left = p.1 }

-- ---- done, or left

done : {m : Changed} {u w v : List ℕ} {r : Outcome} (ys area : List ℕ) → Sets m u w v r → m ≡ changes ys area → v ≡ w
done ys area p e = rw (p.ended ∙ ap (λ (x : Changed). x.says.outcome) e) at p.left

kept : {m : Changed} {u w v : List ℕ} {r : Outcome} (o : Outcome) (area : List ℕ) → eqb (number_of o) 0 ≡ false → Sets m u w v r → m ≡ unchanged o area → v ≡ u
kept o area z p e = rw z at (rw (p.ended ∙ ap (λ (x : Changed). x.says.outcome) e) at p.left)

-- ---- what it means

accumulator-has : (table : List ℕ) (n : ℕ) → has_accumulator table n ≡ true → has table n ≡ true
unfolding has_accumulator
accumulator-has table n e = and_right (accumulator n) (has table n) e

-- an area kept, or one element of it set, by what m came to
module _ (u : List ℕ) (long : length u ≡ unit_long) where
  input_below : (n : ℕ) → has (config_in u).inputs n ≡ true → n < 256
  unfolding unit_sizes unit_from config_from
  input_below n e = omega (arith, has_below _ n e, region_size u long inputs_region (lit< tt))

  module _ {m : Changed} {v : List ℕ} {r : Outcome} where
    words-kept : {x : List ℕ} (o : Outcome) → eqb (number_of o) 0 ≡ false → Sets m u x v r → m ≡ unchanged o (unit_in u).words
        → unit_in v ≡ set_words (unit_in u) m.area
    unfolding unit_from
    words-kept o z p e = rw (kept o _ z p e, e)

    word-done : (n w : ℕ) (ys : List ℕ) → n < 256 → Sets m u (put_word u n w) v r → m ≡ changes ys (set (unit_in u).words n w)
        → unit_in v ≡ set_words (unit_in u) m.area
    word-done n w ys h p e = rw (done ys _ p e, e) (word-written u long n w h)

    values-kept : {x : List ℕ} (o : Outcome) → eqb (number_of o) 0 ≡ false → Sets m u x v r → m ≡ unchanged o (unit_in u).values
        → unit_in v ≡ set_values (unit_in u) m.area
    unfolding unit_from
    values-kept o z p e = rw (kept o _ z p e, e)

    value-done : (n w : ℕ) (ys : List ℕ) → n < 128 → Sets m u (put_value u n w) v r → m ≡ changes ys (set (unit_in u).values n w)
        → unit_in v ≡ set_values (unit_in u) m.area
    value-done n w ys h p e = rw (done ys _ p e, e) (value_written u long n w h)

  module _ {v : List ℕ} {r : Outcome} (n w : ℕ) where
    pub set-word-means : Sets (set_word_of (config_in u).inputs (unit_in u).words n w) u (put_word u n w) v r
        → unit_in v ≡ set_words (unit_in u) (set_word_of (config_in u).inputs (unit_in u).words n w).area
    set-word-means p =
        by_bool (has (config_in u).inputs n)
        (λ e. by_bool (settable n)
        (λ f. word-done n w [] (input_below n e) p (word_set _ _ n w e f))
        (λ f. words-kept NotValid refl p (word-other _ _ n w e f)))
        (λ e. words-kept NotValid refl p (word-missing _ _ n w e))

    pub pulses-means : Sets (pulses_of (config_in u).inputs (unit_in u).words n w) u (put_word u n ((get_or (unit_in u).words n 0 + w) % 65536)) v r
        → unit_in v ≡ set_words (unit_in u) (pulses_of (config_in u).inputs (unit_in u).words n w).area
    pulses-means p =
        by_bool (has_accumulator (config_in u).inputs n)
        (λ e. word-done n _ [] (input_below n (accumulator-has _ n e)) p (pulses_added _ _ n w e))
        (λ e. words-kept NotValid refl p (pulses-missing _ _ n w e))

    pub set-value-means : Sets (set_value_of (config_in u) (unit_in u).values n w) u (put_value u n w) v r
        → unit_in v ≡ set_values (unit_in u) (set_value_of (config_in u) (unit_in u).values n w).area
    set-value-means p =
        by_bool (is_mean (config_in u) n)
        (λ m. values-kept NotValid refl p (value_mean _ _ n w m))
        (λ m. by_bool (has_calculation (config_in u).calculations n)
        (λ e. value-done n w [] (calculation_below _ n e) p (value_set _ _ n w e m))
        (λ e. values-kept NotValid refl p (value-missing _ _ n w e)))

  pub reset-count-means : {v : List ℕ} {r : Outcome} (q : Request)
      → Sets (reset_count_of (config_in u).inputs (unit_in u).words q) u (put_word u (get_or q.body 0 0) 0) v r
      → unit_in v ≡ set_words (unit_in u) (reset_count_of (config_in u).inputs (unit_in u).words q).area
  reset-count-means q p =
      by_eqb (length q.body) 1
      (λ h. by_bool (has_accumulator (config_in u).inputs (get_or q.body 0 0))
      (λ e. word-done _ 0 q.body (input_below _ (accumulator-has _ _ e)) p (reset-done _ _ q h e))
      (λ e. words-kept NotValid refl p (reset-missing _ _ q h e)))
      (λ h. words-kept WrongCount refl p (reset_miscounted _ _ q h))

-- ---- a contact

module _ (u : List ℕ) (long : length u ≡ unit_long) (n s : ℕ) (small : n < 256) where
  abbrev ends : Contacted
  ends = contact_of (config_in u).inputs (unit_in u).words (unit_in u).changed n s

  abbrev word : ℕ
  word = word_after (get_or (unit_in u).words (n / 8) 0) (get_or (unit_in u).changed (n / 8) 0) (n % 8) s

  abbrev bits : ℕ
  bits = changed_after (get_or (unit_in u).words (n / 8) 0) (get_or (unit_in u).changed (n / 8) 0) (n % 8) s

  abbrev given : List ℕ
  given = put_changed (put_word u (n / 8) word) (n / 8) bits

  pub contact-long : {v : List ℕ} (r : Outcome) → v ≡ cond (eqb (number_of r) 0) given u → length v ≡ length u
  contact-long r e =
      ap length e
      ∙ long_either (eqb (number_of r) 0) u given (length-put_in (put_word u (n / 8) word) changed_region (n / 8) (bits ∷ []) ∙ length-put_in u words_region (2 * (n / 8)) _)

  given-means : unit_in given ≡ set_contacts (unit_in u) (set (unit_in u).words (n / 8) word) (set (unit_in u).changed (n / 8) bits)
  given-means =
      changed-written (put_word u (n / 8) word) (n / 8) bits (omega arith)
      ∙ ap (λ (x : Unit). set_changed x (set x.changed (n / 8) bits)) (word-written u long (n / 8) word (omega arith))

  pub contact-means : {v : List ℕ} {r : Outcome} → r ≡ ends.outcome → v ≡ cond (eqb (number_of r) 0) given u → unit_in v ≡ set_contacts (unit_in u) ends.words ends.changed
  unfolding contact_of unit_from
  contact-means {r = r} e f =
      by_bool (has (config_in u).inputs (n / 8) && ltb s 2)
      (λ z. let o : r ≡ Done = e ∙ rw z in rw (z, f, o) given-means)
      (λ z. let o : r ≡ NotValid = e ∙ rw z in rw (z, f, o) refl)
