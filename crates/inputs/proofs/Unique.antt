-- Two ends of a call that meet its contract are equal: what each public function promises says everything. Assumes nothing.
use mathlib.Core.Path.{◌≡◌, sym, ◌∙◌}
use Rattle.chars.specs.One.{One, OneWhere}
use Rattle.model.proofs.Unique.{one_fill}
use Rattle.inputs.proofs.scan.Reads as scan
use lib.ListN.{length}
use Rattle.chars.specs.Word.{Characters}
use Rattle.layout.specs.Unit.{unit_long}
use Rattle.layout.proofs.ContactLaws.{one-anew}
use Rattle.inputs.proofs.start_anew.Reads as start-anew

pub one_scan : One scan.Post (λ κ r s. r)
one_scan κ a x y s t p q = (one_fill p q).1

pub one_scan_reply : One scan.Post (λ κ r s. s.1.1.1.0.now)
one_scan_reply κ a x y s t p q = (one_fill p q).0

-- the groups that start anew, for a memory that is characters, as long as a unit
pub one-start-anew-unit : OneWhere (λ κ a s. (length a.0.now ≡ unit_long) × Characters s.0.now) start-anew.Post (λ κ r s. s.0.now)
one-start-anew-unit κ a x y s t g h p q = one-anew _ _ _ _ g.0 g.1 h.1 p q
