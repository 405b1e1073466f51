-- A promise that says everything: of two ends of a call that both meet it, what is seen is the same.
use Rattle.std.specs.Prelude.{◌≡◌}

-- P is what a contract says of a call (its lifetimes, its arguments, its result, and what was lent, as it is left); seen is its result or a
-- part of what was lent
abbrev pub One : {L : Type 0} {A R S : L → Type 0} {B : Type 0}
    → ((κ : L) → A κ → R κ → S κ → Type 0) → ((κ : L) → R κ → S κ → B) → Type 0
One {L} {A} {R} {S} P seen = (κ : L) (a : A κ) (x y : R κ) (s t : S κ) → P κ a x s → P κ a y t → seen κ x s ≡ seen κ y t

-- the same where more is known of what was lent, before and after
abbrev pub OneWhere : {L : Type 0} {A R S : L → Type 0} {B : Type 0}
    → ((κ : L) → A κ → S κ → Type 0) → ((κ : L) → A κ → R κ → S κ → Type 0) → ((κ : L) → R κ → S κ → B) → Type 0
OneWhere {L} {A} {R} {S} known P seen =
    (κ : L) (a : A κ) (x y : R κ) (s t : S κ) → known κ a s → known κ a t → P κ a x s → P κ a y t → seen κ x s ≡ seen κ y t
