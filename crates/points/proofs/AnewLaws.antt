-- Groups of several numbers that start anew one after another. Assumes nothing.
use Rattle.std.proofs.Common.{◌≡◌, ℕ, List, [], ◌∷◌, ◌++◌, ap}
use Rattle.chars.specs.Gather.{gather}
use Rattle.chars.proofs.GatherLaws.{gather_append, gather-more}
use Rattle.model.specs.Config.{Config}
use Rattle.model.specs.Contacts.{group_in}
use Rattle.layout.specs.Unit.{Unit, unit_in, config_in}
use Rattle.layout.specs.Contacts.{Anew}
use Rattle.layout.proofs.ContactLaws.{anew-then}

-- configuration and fixed blocks are as they were
pub anew-config : {u v gs : List ℕ} → Anew u v gs → config_in v ≡ config_in u
anew-config a = ap (λ (x : Unit). x.config) a.means

pub anew-fixed : {u v gs : List ℕ} → Anew u v gs → (unit_in v).fixed ≡ (unit_in u).fixed
anew-fixed a = ap (λ (x : Unit). x.fixed) a.means

-- the groups among some numbers, by a unit's configuration
abbrev pub groups_of : List ℕ → List ℕ → List ℕ
groups_of u ns = gather (group_in (config_in u).inputs) ns

pub anew-joined : (u v w ms ns : List ℕ) → Anew u v (groups_of u ms) → Anew v w (groups_of v ns) → Anew u w (groups_of u (ms ++ ns))
anew-joined u v w ms ns a b =
    rw (gather_append (group_in (config_in u).inputs) ms ns)
    (anew-then a (rw (ap (λ (c : Config). gather (group_in c.inputs) ns) (anew-config a)) at b))

pub anew-more : (u v w ms : List ℕ) (n : ℕ) → Anew u v (groups_of u ms) → Anew v w (group_in (config_in v).inputs n) → Anew u w (groups_of u (ms ++ (n ∷ [])))
anew-more u v w ms n a b =
    rw (gather-more (group_in (config_in u).inputs) ms n)
    (anew-then a (rw (ap (λ (c : Config). group_in c.inputs n) (anew-config a)) at b))
