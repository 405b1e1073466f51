-- How often a contact changed since the last reply that carried its group, read off a run's events and replies (Request 8.1).
use Rattle.std.specs.Prelude.{ℕ, suc, ◌+◌, ◌/◌, ◌%◌, ◌≡◌, List, [], ◌∷◌, Bool, false, cond, ◌&&◌, ◌||◌, get_or, eqb, ltb}
use Rattle.model.specs.Frame.{heard_of, request_in}
use Rattle.model.specs.Outcome.{answer_number}
use Rattle.model.specs.Config.{Config}
use Rattle.model.specs.State.{Areas, State, fresh_of}
use Rattle.model.specs.Contacts.{bit_in, groups_carried}
use Rattle.model.specs.Event.{Local, set_word, set_value, pulses, store, contact, sample, Event, stretch, elapsed, local}
use Rattle.model.specs.Run.{result_of, next_of}
use Rattle.model.specs.declared.Answer.{Answer}
use Rattle.model.specs.declared.Heard.{Heard}
use Rattle.model.specs.declared.Heard.TheVariants.{Broken, Wrong, Whole, Pair}

pub record Tally : Type 0 where
  pub state : ℕ
  pub changes : ℕ

-- a state is given: only another one is a change (Request 8.5)
unfoldable pub given : ℕ → Tally → Tally
given s t = cond (eqb t.state s) t (record { state = s; changes = suc t.changes })

-- a reply has carried the group (Request 8.4)
abbrev pub started_over : Tally → Tally
started_over t = record { state = t.state; changes = 0 }

unfoldable pub is_in : ℕ → List ℕ → Bool
is_in g [] = false
is_in g (h ∷ hs) = eqb h g || is_in g hs

-- the groups in the reply to a stretch that was answered 0; a pair carries none
unfoldable pub groups_in : Config → Areas → List ℕ → Heard → List ℕ
groups_in c a s Broken = []
groups_in c a s Wrong = []
groups_in c a s (Whole f) = groups_carried c.inputs a.fixed (request_in f s)
groups_in c a s (Pair w x) = []

unfoldable pub tally_locally : ℕ → Local → Answer → Tally → Tally
tally_locally n (set_word m w) o t = t
tally_locally n (set_value m v) o t = t
tally_locally n (pulses m p) o t = t
tally_locally n (store f e vs) o t = t
tally_locally n (sample m) o t = t
tally_locally n (contact m s) o t = cond (eqb (answer_number o) 0 && eqb m.0 n) (given s t) t

-- the tally of contact n after an event that found these areas and was answered so
unfoldable pub tally_by : Config → Areas → ℕ → Event → Answer → Tally → Tally
tally_by c a n (stretch s) o t = cond (eqb (answer_number o) 0 && is_in (n / 8) (groups_in c a s.chars (heard_of s.chars))) (started_over t) t
tally_by c a n (elapsed ms) o t = t
tally_by c a n (local l) o t = tally_locally n l o t

unfoldable pub tally_from : Config → State → List Event → ℕ → Tally → Tally
tally_from c s [] n t = t
tally_from c s (e ∷ es) n t = tally_from c (next_of c s e) es n (tally_by c s.inner.areas n e (result_of c s e).answer t)

-- from a fresh unit, where every contact is 0 (Request 8.5)
abbrev pub tally : Config → List Event → ℕ → Tally
tally c es n = tally_from c (fresh_of c) es n (record { state = 0; changes = 0 })

-- areas that tell of contact n what its tally is: the state, the mark where it changed more than once, and whether it changed (Request 8.1, 8.2)
pub record Tells (a : Areas) (n : ℕ) (t : Tally) : Type 0 where
  pub state : bit_in (get_or a.words (n / 8) 0) (n % 8) ≡ t.state
  pub mark : bit_in (get_or a.words (n / 8) 0) (8 + n % 8) ≡ cond (ltb 1 t.changes) 1 0
  pub once : bit_in (get_or a.changed (n / 8) 0) (n % 8) ≡ cond (ltb 0 t.changes) 1 0
