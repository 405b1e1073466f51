-- `master::request::keep_asked` meets its contract: six writes, each where its part stands. Assumes nothing.
use mathlib.Core.Path.{refl, ◌∙◌}
use Rattle.chars.proofs.PutLaws.{part-whole, put_one}
use Rattle.master.proofs.SameLaws.{bool_byte_is}
use Rattle.master.specs.Built.{turns_in, char_of}
use Rattle.master.proofs.request.keep_asked.Goals as goal

pub returns : goal.returns
unfolding turns_in char_of
returns c = c.copy.ensures ∙ rw (part-whole _ _ refl, c.from.ensures, bool_byte_is) (simp put_one)
