-- An outcome is known by its number: no two have the same. Assumes nothing.
use Prim.Native.Nat.{ℕ}
use mathlib.Core.Path.{◌≡◌, refl, sym, ap, ◌∙◌}
use Rattle.std.specs.Prelude.{get_or, [], ◌∷◌, List}
use Rattle.model.specs.Outcome.{number_of}
use Rattle.model.specs.declared.Outcome.{Outcome}
use Rattle.model.specs.declared.Outcome.TheVariants.{Done, NotWhole, CheckWrong, OtherUnit, BroadcastDone, WriteTaken, Unknown, WrongCount, NotValid, TooLong, NothingAgain, SelectTimedOut, BrokenOff, SelectHeld, NothingWaits, WriteHeld, BroadcastRefused, NotConfigured, BufferShort}

-- all of them, in their order
abbrev outcomes : List Outcome
outcomes =
    Done ∷ NotWhole ∷ CheckWrong ∷ OtherUnit ∷ BroadcastDone ∷ WriteTaken ∷ Unknown ∷ WrongCount ∷ NotValid ∷ TooLong
    ∷ NothingAgain ∷ SelectTimedOut ∷ BrokenOff ∷ SelectHeld ∷ NothingWaits ∷ WriteHeld ∷ BroadcastRefused ∷ NotConfigured ∷ BufferShort ∷ []

at-number : (o : Outcome) → get_or outcomes (number_of o) Done ≡ o
unfolding number_of
at-number Done = refl
at-number NotWhole = refl
at-number CheckWrong = refl
at-number OtherUnit = refl
at-number BroadcastDone = refl
at-number WriteTaken = refl
at-number Unknown = refl
at-number WrongCount = refl
at-number NotValid = refl
at-number TooLong = refl
at-number NothingAgain = refl
at-number SelectTimedOut = refl
at-number BrokenOff = refl
at-number SelectHeld = refl
at-number NothingWaits = refl
at-number WriteHeld = refl
at-number BroadcastRefused = refl
at-number NotConfigured = refl
at-number BufferShort = refl

pub same_number : (o p : Outcome) → number_of o ≡ number_of p → o ≡ p
same_number o p e = sym (at-number o) ∙ ap (λ (n : ℕ). get_or outcomes n Done) e ∙ at-number p
