-- Two ends of a call that meet its contract are equal: what each public function promises says everything. Assumes nothing.
use mathlib.Core.Path.{sym, ◌∙◌}
use Rattle.chars.specs.One.{One}
use Rattle.poll.proofs.osturdam_poll_begin.Reads as osturdam-poll-begin
use Rattle.poll.proofs.osturdam_poll_ask.Reads as osturdam-poll-ask
use Rattle.poll.proofs.osturdam_poll_read.Reads as osturdam-poll-read
use Rattle.poll.proofs.osturdam_poll_retry.Reads as osturdam-poll-retry

pub one_osturdam_poll_begin_poll : One osturdam-poll-begin.Post (λ κ r s. s.0.now)
one_osturdam_poll_begin_poll κ a x y s t p q = p ∙ sym q

pub one_osturdam_poll_ask : One osturdam-poll-ask.Post (λ κ r s. r)
one_osturdam_poll_ask κ a x y s t p q = p.long ∙ sym q.long

pub one_osturdam_poll_ask_poll : One osturdam-poll-ask.Post (λ κ r s. s.0.now)
one_osturdam_poll_ask_poll κ a x y s t p q = p.kept ∙ sym q.kept

pub one_osturdam_poll_ask_buffer : One osturdam-poll-ask.Post (λ κ r s. s.1.1.1.1.1.1.0.now)
one_osturdam_poll_ask_buffer κ a x y s t p q = p.laid ∙ sym q.laid

pub one_osturdam_poll-read : One osturdam-poll-read.Post (λ κ r s. r)
one_osturdam_poll-read κ a x y s t p q = p.0 ∙ sym q.0

pub one_osturdam_poll-read-poll : One osturdam-poll-read.Post (λ κ r s. s.0.now)
one_osturdam_poll-read-poll κ a x y s t p q = p.1 ∙ sym q.1

pub one_osturdam_poll-read-room : One osturdam-poll-read.Post (λ κ r s. s.1.1.0.now)
one_osturdam_poll-read-room κ a x y s t p q = p.2 ∙ sym q.2

pub one_osturdam_poll-read-kept : One osturdam-poll-read.Post (λ κ r s. s.1.1.1.0.now)
one_osturdam_poll-read-kept κ a x y s t p q = p.3 ∙ sym q.3

pub one_osturdam_poll-retry : One osturdam-poll-retry.Post (λ κ r s. r)
one_osturdam_poll-retry κ a x y s t p q = p ∙ sym q
