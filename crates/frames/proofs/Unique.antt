-- Two ends of a call that meet its contract are equal: what each public function promises says everything. Assumes nothing.
use mathlib.Core.Path.{sym, ◌∙◌}
use Rattle.chars.specs.One.{One}
use Rattle.frames.proofs.unit_of.Reads as unit-of
use Rattle.frames.proofs.master_of.Reads as master-of
use Rattle.frames.proofs.address_of.Reads as address-of
use Rattle.frames.proofs.is_checked.Reads as is-checked
use Rattle.frames.proofs.is_unreserved.Reads as is-unreserved
use Rattle.frames.proofs.hear.Reads as hear
use Rattle.frames.proofs.data_behind.Reads as data_behind
use Rattle.frames.proofs.data_of.Reads as data_of
use Rattle.frames.proofs.fill.Reads as fill
use Rattle.frames.proofs.lay.Reads as lay
use Rattle.frames.proofs.outcomes.sending.Reads as sending
use Rattle.frames.proofs.outcomes.is_answered.Reads as is-answered
use Rattle.frames.proofs.outcomes.is_damaged.Reads as is-damaged
use Rattle.frames.proofs.outcomes.reply_function.Reads as reply-function

pub one-unit_of : One unit-of.Post (λ κ r s. r)
one-unit_of κ a x y s t p q = p ∙ sym q

pub one-master_of : One master-of.Post (λ κ r s. r)
one-master_of κ a x y s t p q = p ∙ sym q

pub one-address_of : One address-of.Post (λ κ r s. r)
one-address_of κ a x y s t p q = p ∙ sym q

pub one-is_unreserved : One is-unreserved.Post (λ κ r s. r)
one-is_unreserved κ a x y s t p q = p ∙ sym q

pub one-is_checked : One is-checked.Post (λ κ r s. r)
one-is_checked κ a x y s t p q = p ∙ sym q

pub one_hear : One hear.Post (λ κ r s. r)
one_hear κ a x y s t p q = p ∙ sym q

pub one_data_behind : One data_behind.Post (λ κ r s. r.now)
one_data_behind κ a x y s t p q = p ∙ sym q

pub one_data_of : One data_of.Post (λ κ r s. r.now)
one_data_of κ a x y s t p q = p ∙ sym q

pub one_fill : One fill.Post (λ κ r s. r)
one_fill κ a x y s t p q = p.0 ∙ sym q.0

pub one_fill_buffer : One fill.Post (λ κ r s. s.0.now)
one_fill_buffer κ a x y s t p q = p.1 ∙ sym q.1

pub one_lay : One lay.Post (λ κ r s. r)
one_lay κ a x y s t p q = p.0 ∙ sym q.0

pub one_lay_buffer : One lay.Post (λ κ r s. s.0.now)
one_lay_buffer κ a x y s t p q = p.1 ∙ sym q.1

pub one_sending : One sending.Post (λ κ r s. r)
one_sending κ a x y s t p q = p ∙ sym q

pub one_is_answered : One is-answered.Post (λ κ r s. r)
one_is_answered κ a x y s t p q = p ∙ sym q

pub one_is_damaged : One is-damaged.Post (λ κ r s. r)
one_is_damaged κ a x y s t p q = p ∙ sym q

pub one-reply-function : One reply-function.Post (λ κ r s. r)
one-reply-function κ a x y s t p q = p ∙ sym q
