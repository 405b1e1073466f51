-- `layout::port::port_in` meets its contract. Assumes nothing.
use mathlib.Core.Path.{ap, ◌∙◌}
use Rattle.layout.specs.Numbers.{mark_in, port_in}
use Rattle.layout.proofs.port.port_in.Goals as goal

pub returns : goal.returns
unfolding port_in
returns c = λ i. record { silence = c.kept_of.ensures i; mark = (c.mark_in.ensures ∙ ap mark_in c.kept_of-2.ensures) i }
