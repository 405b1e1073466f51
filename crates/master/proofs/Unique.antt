-- Two ends of a call that meet its contract are equal: what each public function promises says everything. Assumes nothing.
use mathlib.Core.Path.{sym, ◌∙◌}
use Rattle.chars.specs.One.{One}
use Rattle.master.proofs.memory.retry.Reads as retry
use Rattle.master.proofs.request.begin.Reads as begin
use Rattle.master.proofs.request.build.Reads as build
use Rattle.master.proofs.reply.data_of.Reads as data_of
use Rattle.master.proofs.reply.read.Reads as read

pub one-retry : One retry.Post (λ κ r s. r)
one-retry κ a x y s t p q = p ∙ sym q

pub one_begin_poll : One begin.Post (λ κ r s. s.0.now)
one_begin_poll κ a x y s t p q = p ∙ sym q

pub one_build : One build.Post (λ κ r s. r)
one_build κ a x y s t p q = p.long ∙ sym q.long

pub one_build_poll : One build.Post (λ κ r s. s.0.now)
one_build_poll κ a x y s t p q = p.kept ∙ sym q.kept

pub one_build_buffer : One build.Post (λ κ r s. s.1.1.1.1.1.1.0.now)
one_build_buffer κ a x y s t p q = p.laid ∙ sym q.laid

pub one_data_of : One data_of.Post (λ κ r s. r.now)
one_data_of κ a x y s t p q = p ∙ sym q

pub one-read : One read.Post (λ κ r s. r)
one-read κ a x y s t p q = p.0 ∙ sym q.0

pub one-read-poll : One read.Post (λ κ r s. s.0.now)
one-read-poll κ a x y s t p q = p.1 ∙ sym q.1

pub one-read-room : One read.Post (λ κ r s. s.1.1.0.now)
one-read-room κ a x y s t p q = p.2 ∙ sym q.2
