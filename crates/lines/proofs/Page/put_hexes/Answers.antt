-- `lines::Page::put_hexes` meets its contract. The invariant of its loop: the characters so far stand on the page, in hex.
use mathlib.Core.Path.{sym}
use native.Mathlib.Omega.{arith}
use Rattle.lines.specs.Line.{hex_of}
use Rattle.lines.proofs.WroteLaws.{adds_none, adds_as, adds_more, adds_gathered, gather_none}
use Rattle.lines.proofs.Page.put_hexes.Goals as goal

pub loop-character-init : goal.loop-character-init
loop-character-init c = adds_as (adds_none _) (sym (gather_none hex_of _))

pub loop-character-preserved : goal.loop-character-preserved
loop-character-preserved c = let l = c.loop-character in adds_more hex_of _ l.character-index (omega arith) l.invariant c.put_hex.ensures

pub returns : goal.returns
returns c = let l = c.loop-character in adds_gathered hex_of _ l.character-index (omega arith) l.invariant
