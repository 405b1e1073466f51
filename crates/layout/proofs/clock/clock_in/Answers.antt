-- `layout::clock::clock_in` meets its contract. Assumes nothing.
use mathlib.Core.Path.{ap, ◌∙◌}
use Rattle.std.specs.Prelude.{ℕ, ◌%◌}
use Rattle.layout.specs.Numbers.{clock_in}
use Rattle.layout.proofs.clock.clock_in.Goals as goal

pub returns : goal.returns
unfolding clock_in
returns c =
    λ i. record {
      day = c.kept_of.ensures i;
      hour = (c.low.ensures ∙ ap (λ (n : ℕ). n % 256) c.kept_of-2.ensures) i;
      minute = (c.low-2.ensures ∙ ap (λ (n : ℕ). n % 256) c.kept_of-3.ensures) i;
      second = (c.low-3.ensures ∙ ap (λ (n : ℕ). n % 256) c.kept_of-4.ensures) i;
      ms = c.kept_of-5.ensures i;
    }
