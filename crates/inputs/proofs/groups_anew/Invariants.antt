use Rattle.chars.specs.Gather.{up_from}
use Rattle.layout.specs.Contacts.{Anew}
use Rattle.points.proofs.AnewLaws.{groups_of}
use Rattle.inputs.proofs.groups_anew.Given as goal

abbrev pub invariant-loop-k : goal.invariant-loop-k
invariant-loop-k l = Anew l.initial.unit l.unit (groups_of l.initial.unit (up_from 0 l.k))
