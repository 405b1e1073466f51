-- Two-bit status from contacts: what a group of eight keeps, and what a reply that carried it clears.
use Rattle.std.specs.Prelude.{ℕ, zero, suc, ◌+◌, ◌*◌, ◌/◌, ◌%◌, List, [], ◌∷◌, Bool, cond, ◌&&◌, get_or, set, eqb, ltb}
use Rattle.chars.specs.Gather.{gather}
use Rattle.model.specs.Frame.{Request}
use Rattle.model.specs.Config.{has, two_bit}
use Rattle.model.specs.State.{Areas}
use Rattle.model.specs.Inputs.{chosen}
use Rattle.model.specs.Tables.{table_area, scan_numbers}
use Rattle.model.specs.declared.Outcome.{Outcome}
use Rattle.model.specs.declared.Outcome.TheVariants.{Done, NotValid}

-- ---- bits

-- bit i of a number, and the number with another bit there
unfoldable pub bit_in : ℕ → ℕ → ℕ
bit_in x zero = x % 2
bit_in x (suc i) = bit_in (x / 2) i

unfoldable pub with_bit : ℕ → ℕ → ℕ → ℕ
with_bit x zero b = 2 * (x / 2) + b
with_bit x (suc i) b = 2 * with_bit (x / 2) i b + x % 2

-- ---- a contact's state is given

-- a group's word has the states in its low eight bits and the marks in its high eight (Request 8.2): a contact that changes, and has
-- changed since the group's last reply, is marked (Request 8.1); one reported twice the same does not change (Request 8.5)
unfoldable pub word_after : ℕ → ℕ → ℕ → ℕ → ℕ
word_after w b i s = cond (eqb (bit_in w i) s) w (with_bit (cond (eqb (bit_in b i) 1) (with_bit w (8 + i) 1) w) i s)

-- and its bit tells that it has changed
unfoldable pub changed_after : ℕ → ℕ → ℕ → ℕ → ℕ
changed_after w b i s = cond (eqb (bit_in w i) s) b (with_bit b i 1)

-- what it comes to
pub record Contacted : Type 0 where
  pub outcome : Outcome
  pub words : List ℕ
  pub changed : List ℕ

abbrev pub with_contacts : Areas → List ℕ → List ℕ → Areas
with_contacts a words changed = record { words = words; values = a.values; fixed = a.fixed; block = a.block; changed = changed; samples = a.samples; plans = a.plans }

-- contact n is at place n % 8 of group n / 8; a group that is not equipped and a state that is none are refused (Request 8.2, 8.6)
unfoldable pub contact_of : List ℕ → List ℕ → List ℕ → ℕ → ℕ → Contacted
contact_of table words changed n s =
    cond (has table (n / 8) && ltb s 2)
    (record {
      outcome = Done;
      words = set words (n / 8) (word_after (get_or words (n / 8) 0) (get_or changed (n / 8) 0) (n % 8) s);
      changed = set changed (n / 8) (changed_after (get_or words (n / 8) 0) (get_or changed (n / 8) 0) (n % 8) s);
    })
    (record { outcome = NotValid; words = words; changed = changed })

-- ---- a reply has been made

-- the input numbers that a scan asks for, in reply order: of the chosen kinds, or of a table and those that it names (Scans 5, 13)
unfoldable pub asks_for : List ℕ → Request → List ℕ
asks_for fixed q =
    cond (eqb q.function 0x00) (chosen q.command)
    (cond (eqb q.function 0x0A) (scan_numbers (table_area fixed) (q.command % 16)) [])

unfoldable pub group_in : List ℕ → ℕ → List ℕ
group_in table n = cond (two_bit n && has table n) (n ∷ []) []

-- the groups that a normal reply to a request carried, by function 00 or 0Ah (Request 8.3)
unfoldable pub groups_carried : List ℕ → List ℕ → Request → List ℕ
groups_carried table fixed q = gather (group_in table) (asks_for fixed q)

-- each of the groups anew, where f says how (a group twice is as once)
unfoldable pub anew : (ℕ → ℕ) → List ℕ → List ℕ → List ℕ
anew f [] xs = xs
anew f (g ∷ gs) xs = anew f gs (set xs g (f (get_or xs g 0)))

-- the states of a word stay, its marks clear (Request 8.2, 8.3)
unfoldable pub unmarked : ℕ → ℕ
unmarked w = w % 256

-- the tally starts anew (Request 8.4)
unfoldable pub untallied : ℕ → ℕ
untallied b = 0

unfoldable pub areas_anew : List ℕ → Areas → Areas
areas_anew gs a = with_contacts a (anew unmarked gs a.words) (anew untallied gs a.changed)
