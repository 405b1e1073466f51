-- Two ends of a call that meet its contract are equal: what each public function promises says everything. Assumes nothing.
use mathlib.Core.Path.{◌≡◌, sym, ◌∙◌}
use Rattle.chars.specs.One.{One}
use Prim.Native.Nat.{ℕ}
use mathlib.Core.List.{List}
use Rattle.model.specs.Scan.{Scan, Fills}
use Rattle.model.specs.declared.Outcome.{Outcome}
use Rattle.model.specs.declared.Filled.{Filled}
use Rattle.model.proofs.Frame.new.Reads as frame-new
use Rattle.model.proofs.MasterPartialEq.eq.Reads as master-is
use Rattle.model.proofs.U8FromOutcome.from.Reads as number
use Rattle.model.proofs.function.FunctionTryFromU8.try_from.Reads as function-try_from
use Rattle.model.proofs.Functions.{function-once, calculations-once, control-once, internal-once, return-once}
use Rattle.model.proofs.command.CalculationsCommandTryFromU8.try_from.Reads as calculations-try_from
use Rattle.model.proofs.command.ControlCommandTryFromU8.try_from.Reads as control-try_from
use Rattle.model.proofs.command.InternalCommandTryFromU8.try_from.Reads as internal-try_from
use Rattle.model.proofs.command.ReturnCommandTryFromU8.try_from.Reads as return-try_from
use Rattle.model.proofs.Select.new.Reads as select-new
use Rattle.model.proofs.aged.Reads as aged
use Rattle.model.proofs.Record.size.Reads as record-size
use Rattle.model.proofs.Record.new.Reads as record-new
use Rattle.model.proofs.limits_told.Reads as limits-told

-- a reply buffer that is filled, and its result
filled : Outcome → ℕ → Filled
filled o n = record { outcome = o; count = n }

same : {o p : Outcome} {m n : ℕ} → o ≡ p → m ≡ n → filled o m ≡ filled p n
same e f = cc

pub one_fill : {entry x y : List ℕ} {m : Scan} {r s : Filled} → Fills entry x m r → Fills entry y m s → (x ≡ y) × (r ≡ s)
unfolding filled
one_fill a b = (a.written ∙ sym b.written, same (a.ended ∙ sym b.ended) (a.counted ∙ sym b.counted))

pub one-frame_new : One frame-new.Post (λ κ r s. r)
one-frame_new κ a x y s t p q = p ∙ sym q

pub one-master_is : One master-is.Post (λ κ r s. r)
one-master_is κ a x y s t p q = p ∙ sym q

pub one_aged : One aged.Post (λ κ r s. r)
one_aged κ a x y s t p q = p ∙ sym q

pub one_select_new : One select-new.Post (λ κ r s. r)
one_select_new κ a x y s t p q = p ∙ sym q

pub one_record_size : One record-size.Post (λ κ r s. r)
one_record_size κ a x y s t p q = p ∙ sym q

pub one_record_new : One record-new.Post (λ κ r s. r)
one_record_new κ a x y s t p q = p ∙ sym q

pub one_limits_told : One limits-told.Post (λ κ r s. r)
one_limits_told κ a x y s t p q = p ∙ sym q

pub one_number : One number.Post (λ κ r s. r)
one_number κ a x y s t p q = p ∙ sym q

pub one-function_try_from : One function-try_from.Post (λ κ r s. r)
one-function_try_from κ a x y s t p q = function-once _ x y p q

pub one-calculations_try_from : One calculations-try_from.Post (λ κ r s. r)
one-calculations_try_from κ a x y s t p q = calculations-once _ x y p q

pub one-control_try_from : One control-try_from.Post (λ κ r s. r)
one-control_try_from κ a x y s t p q = control-once _ x y p q

pub one-internal_try_from : One internal-try_from.Post (λ κ r s. r)
one-internal_try_from κ a x y s t p q = internal-once _ x y p q

pub one-return_try_from : One return-try_from.Post (λ κ r s. r)
one-return_try_from κ a x y s t p q = return-once _ x y p q
