-- Two ends of a call that meet its contract are equal: what each public function promises says everything. Assumes nothing.
use Rattle.chars.specs.One.{One}
use Rattle.model.proofs.Unique.{one_fill}
use Rattle.calculations.proofs.scan.Reads as scan

pub one_scan : One scan.Post (λ κ r s. r)
one_scan κ a x y s t p q = (one_fill p q).1

pub one_scan_reply : One scan.Post (λ κ r s. s.1.1.1.0.now)
one_scan_reply κ a x y s t p q = (one_fill p q).0
