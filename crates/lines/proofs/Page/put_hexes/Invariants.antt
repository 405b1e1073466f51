use Rattle.chars.specs.Put.{part}
use Rattle.chars.specs.Gather.{gather}
use Rattle.lines.specs.Line.{hex_of}
use Rattle.lines.specs.Wrote.{Adds}
use Rattle.lines.proofs.Page.put_hexes.Given as goal

abbrev pub invariant-loop-character : goal.invariant-loop-character
invariant-loop-character l = Adds l.initial.self l.self (gather hex_of (part l.characters 0 l.character-index))
