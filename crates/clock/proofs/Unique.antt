-- Two ends of a call that meet its contract are equal: what each public function promises says everything. Assumes nothing.
use mathlib.Core.Path.{sym, ◌∙◌}
use Rattle.chars.specs.One.{One}
use Rattle.model.proofs.Unique.{one_fill}
use Rattle.clock.proofs.to_bcd.Reads as to-bcd
use Rattle.clock.proofs.from_bcd.Reads as from-bcd
use Rattle.clock.proofs.clock_fits.Reads as clock-fits
use Rattle.clock.proofs.good_time.Reads as good_time_lem
use Rattle.clock.proofs.set_time.Reads as set-time
use Rattle.clock.proofs.read_time.Reads as read-time
use Rattle.clock.proofs.clock_after.Reads as clock-after

pub one_to_bcd : One to-bcd.Post (λ κ r s. r)
one_to_bcd κ a x y s t p q = p ∙ sym q

pub one_from_bcd : One from-bcd.Post (λ κ r s. r)
one_from_bcd κ a x y s t p q = p ∙ sym q

pub one-clock-fits : One clock-fits.Post (λ κ r s. r)
one-clock-fits κ a x y s t p q = p ∙ sym q

pub one_good_time : One good_time_lem.Post (λ κ r s. r)
one_good_time κ a x y s t p q = p ∙ sym q

pub one-set-time : One set-time.Post (λ κ r s. r)
one-set-time κ a x y s t p q = p ∙ sym q

pub one-read-time : One read-time.Post (λ κ r s. r)
one-read-time κ a x y s t p q = (one_fill p q).1

pub one-read-time-reply : One read-time.Post (λ κ r s. s.1.1.1.0.now)
one-read-time-reply κ a x y s t p q = (one_fill p q).0

pub one-clock-after : One clock-after.Post (λ κ r s. r)
one-clock-after κ a x y s t p q = p ∙ sym q
