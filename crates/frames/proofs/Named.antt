-- What a code names, where it is known what was answered. Assumes nothing.
use Prim.Native.Nat.{ℕ}
use mathlib.Core.Path.{◌≡◌, subst}
use Rattle.std.specs.Prelude.{Result, Ok, Err}
use Rattle.model.specs.Function.{Names}
use Rattle.model.specs.declared.function.NoSuchCode.{NoSuchCode}

pub named : {X : Type 0} (code : X → ℕ) (n : ℕ) {r : Result X NoSuchCode} {x : X} → r ≡ Ok x → Names code n r → n ≡ code x
named code n e names = subst (Names code n) e names

pub unnamed : {X : Type 0} (code : X → ℕ) (n : ℕ) {r : Result X NoSuchCode} {d : NoSuchCode} → r ≡ Err d → Names code n r → (x : X) → n ≡ code x → ⊥
unnamed code n e names = subst (Names code n) e names

-- where something else, or nothing, was answered; a code is never answered in two ways
pub other : {X : Type 0} (code : X → ℕ) (once : (n : ℕ) (r s : Result X NoSuchCode) → Names code n r → Names code n s → r ≡ s)
    → (n : ℕ) (r : Result X NoSuchCode) → Names code n r → (x : X) → (r ≡ Ok x → ⊥) → n ≡ code x → ⊥
other code once n r names x differs e = differs (once n r (Ok x) names e)
