use Rattle.chars.specs.Put.{part}
use Rattle.layout.specs.Contacts.{Anew}
use Rattle.points.proofs.AnewLaws.{groups_of}
use Rattle.tables.proofs.ToldLaws.{area_of}
use Rattle.tables.proofs.told.numbers_anew.Given as goal

abbrev pub invariant-loop-i : goal.invariant-loop-i
invariant-loop-i l = Anew l.initial.unit l.unit (groups_of l.initial.unit (part (area_of l.initial.unit) l.t.start l.i))
