-- The groups of contacts in a unit's memory: which wait for a reply, and a memory in which some start anew.
use Rattle.std.specs.Prelude.{◌≡◌, ℕ, ◌/◌, Bool, ◌&&◌, List, length, ◌==◌, slice_index}
use Rattle.chars.specs.Gather.{up_from, every}
use Rattle.model.specs.Contacts.{anew, unmarked, untallied}
use Rattle.layout.specs.Unit.{unit_in, set_contacts}

-- group g has no mark, and none of its contacts has changed since its last reply
unfoldable pub markless : List ℕ → ℕ → Bool
markless words g = slice_index words g / 256 == 0

unfoldable pub changeless : List ℕ → ℕ → Bool
changeless changed g = slice_index changed g == 0

-- nothing of it waits for a reply
unfoldable pub told : List ℕ → List ℕ → ℕ → Bool
told words changed g = markless words g && changeless changed g

unfoldable pub all_told : List ℕ → List ℕ → Bool
all_told words changed = every (told words changed) (up_from 0 32)

-- a memory v that means what u means, but that the groups gs have started anew, and is as long (Request 8.3, 8.4)
pub record Anew (u v gs : List ℕ) : Type 0 where
  pub means : unit_in v ≡ set_contacts (unit_in u) (anew unmarked gs (unit_in u).words) (anew untallied gs (unit_in u).changed)
  pub long : length v ≡ length u
