-- A code names one function, or one command, or none: no two answers to it. Assumes nothing.
use Prim.Native.Nat.{ℕ}
use mathlib.Core.Path.{◌≡◌, refl, sym, ap, ◌∙◌}
use Rattle.std.specs.Prelude.{cond, eqb, Result, Ok, Err}
use Rattle.model.specs.Function.{code_of, Names}
use Rattle.model.specs.Command.{calculations_code, control_code, internal_code, return_code}
use Rattle.model.specs.declared.function.Function.{Function}
use Rattle.model.specs.declared.function.Function.TheVariants.{Inputs, Calculations, History, Tables, Control, Internal, Return}
use Rattle.model.specs.declared.function.NoSuchCode.{NoSuchCode}
use Rattle.model.specs.declared.command.CalculationsCommand.{CalculationsCommand}
use Rattle.model.specs.declared.command.ControlCommand.{ControlCommand}
use Rattle.model.specs.declared.command.InternalCommand.{InternalCommand}
use Rattle.model.specs.declared.command.ReturnCommand.{ReturnCommand}

-- where what has a code is read back from it
once : {X : Type 0} (code : X → ℕ) (back : ℕ → X) → ((x : X) → back (code x) ≡ x)
    → (n : ℕ) (r s : Result X NoSuchCode) → Names code n r → Names code n s → r ≡ s
once code back known n (Ok x) (Ok y) p q = ap Ok (sym (known x) ∙ ap back (sym p ∙ q) ∙ known y)
once code back known n (Ok x) (Err e) p q = absurd (q x p)
once code back known n (Err d) (Ok y) p q = absurd (p y q)
once code back known n (Err d) (Err e) p q = refl

function-back : ℕ → Function
function-back n =
    cond (eqb n 0x00) Inputs
    (cond (eqb n 0x03) Calculations
    (cond (eqb n 0x04) History
    (cond (eqb n 0x0A) Tables
    (cond (eqb n 0x10) Control
    (cond (eqb n 0x20) Internal Return)))))

function-known : (f : Function) → function-back (code_of f) ≡ f
unfolding function-back
function-known Inputs = refl
function-known Calculations = refl
function-known History = refl
function-known Tables = refl
function-known Control = refl
function-known Internal = refl
function-known Return = refl

pub function-once : (n : ℕ) (r s : Result Function NoSuchCode) → Names code_of n r → Names code_of n s → r ≡ s
function-once = once code_of function-back function-known

calculations-back : ℕ → CalculationsCommand
calculations-back n = cond (eqb n 0x00) CalculationsCommand.Asked (CalculationsCommand.All)

calculations-known : (x : CalculationsCommand) → calculations-back (calculations_code x) ≡ x
unfolding calculations-back
calculations-known CalculationsCommand.Asked = refl
calculations-known CalculationsCommand.All = refl

pub calculations-once : (n : ℕ) (r s : Result CalculationsCommand NoSuchCode) → Names calculations_code n r → Names calculations_code n s → r ≡ s
calculations-once = once calculations_code calculations-back calculations-known

control-back : ℕ → ControlCommand
control-back n = cond (eqb n 0x10) ControlCommand.Open (cond (eqb n 0x11) ControlCommand.Close (cond (eqb n 0x20) ControlCommand.Operate (ControlCommand.Reset)))

control-known : (x : ControlCommand) → control-back (control_code x) ≡ x
unfolding control-back
control-known ControlCommand.Open = refl
control-known ControlCommand.Close = refl
control-known ControlCommand.Operate = refl
control-known ControlCommand.Reset = refl

pub control-once : (n : ℕ) (r s : Result ControlCommand NoSuchCode) → Names control_code n r → Names control_code n s → r ≡ s
control-once = once control_code control-back control-known

internal-back : ℕ → InternalCommand
internal-back n = cond (eqb n 0x00) InternalCommand.Restart (cond (eqb n 0x11) InternalCommand.ResetCount (cond (eqb n 0x30) InternalCommand.Write (cond (eqb n 0x31) InternalCommand.Execute (InternalCommand.SetTime))))

internal-known : (x : InternalCommand) → internal-back (internal_code x) ≡ x
unfolding internal-back
internal-known InternalCommand.Restart = refl
internal-known InternalCommand.ResetCount = refl
internal-known InternalCommand.Write = refl
internal-known InternalCommand.Execute = refl
internal-known InternalCommand.SetTime = refl

pub internal-once : (n : ℕ) (r s : Result InternalCommand NoSuchCode) → Names internal_code n r → Names internal_code n s → r ≡ s
internal-once = once internal_code internal-back internal-known

return-back : ℕ → ReturnCommand
return-back n = cond (eqb n 0x30) ReturnCommand.Read (ReturnCommand.ReadTime)

return-known : (x : ReturnCommand) → return-back (return_code x) ≡ x
unfolding return-back
return-known ReturnCommand.Read = refl
return-known ReturnCommand.ReadTime = refl

pub return-once : (n : ℕ) (r s : Result ReturnCommand NoSuchCode) → Names return_code n r → Names return_code n s → r ≡ s
return-once = once return_code return-back return-known
