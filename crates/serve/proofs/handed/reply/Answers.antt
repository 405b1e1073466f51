-- `serve::handed::reply` meets its contract: so many characters from the buffer's front, or all of a shorter one. Assumes nothing.
use mathlib.Core.Path.{refl, ap, sym, ◌∙◌}
use native.Mathlib.Omega.{arith}
use lib.Seq.{length-take-le}
use lib.ListN.{take}
use Rattle.std.proofs.lemmas.List.{take_min}
use Rattle.chars.specs.Put.{part}
use Rattle.serve.proofs.handed.reply.Goals as goal

pub slice_bounds-result-end : goal.slice_bounds-result-end
slice_bounds-result-end c = sym (length-take-le _ _ (omega arith))

pub returns : goal.returns
unfolding part
returns c = (ap (λ n. take n c.args.buffer.now) c.min-n.ensures ∙ take_min c.args.made.sent c.args.buffer.now, refl)
