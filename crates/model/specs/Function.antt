-- Functions: what a request asks for, by its code.
use Rattle.std.specs.Prelude.{ℕ, ◌≡◌, Result, MatchResult}
use Rattle.model.specs.declared.function.Function.{Function}
use Rattle.model.specs.declared.function.Function.TheVariants.{Inputs, Calculations, History, Tables, Control, Internal, Return}
use Rattle.model.specs.declared.function.NoSuchCode.{NoSuchCode}

-- the code of each (Covers 1)
abbrev pub code_of : Function → ℕ
code_of Inputs = 0x00
code_of Calculations = 0x03
code_of History = 0x04
code_of Tables = 0x0A
code_of Control = 0x10
code_of Internal = 0x20
code_of Return = 0x28

-- what a code names, where each thing has a code, or nothing where it is the code of none
abbrev pub Names : {X : Type 0} → (X → ℕ) → ℕ → Result X NoSuchCode → Type 0
Names {X} code n r = MatchResult r (λ x. n ≡ code x) (λ _. (x : X) → n ≡ code x → ⊥)
