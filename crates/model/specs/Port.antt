-- The port beside the rest: its silence count and its mark, which enters a reply here alone.
use Rattle.std.specs.Prelude.{ℕ, ◌+◌, min, List, [], ◌∷◌, cond, length, leb}
use Rattle.model.specs.Limits.{silence_limit}
use Rattle.model.specs.Frame.{reply_chars}
use Rattle.model.specs.Outcome.{sending_of, damaged}
use Rattle.model.specs.Event.{Event, stretch, elapsed, local}
use Rattle.model.specs.Step.{Sent, silent, said, answered}
use Rattle.model.specs.declared.Outcome.{Outcome}
use Rattle.model.specs.declared.Answer.{Answer}
use Rattle.model.specs.declared.Answer.TheVariants.{Ended, Storing, Sampling}
use Rattle.model.specs.declared.Mark.{Mark}
use Rattle.model.specs.declared.Mark.TheVariants.{Fine, Silent, Damaged}
use Rattle.model.specs.declared.Port.{Port}

-- the two bits of a mark (Frames 13, 14; paper 1.2.5)
unfoldable pub mark_number : Mark → ℕ
mark_number Fine = 0
mark_number Silent = 1
mark_number Damaged = 2

-- ports 2 to 4 read 01 (Frames 11)
unfoldable pub port_status : Mark → ℕ
port_status m = 0x54 + mark_number m

-- the characters sent: empty where nothing is (Frames 3, 18)
unfoldable pub sent_chars : Mark → Sent → List ℕ
sent_chars m silent = []
sent_chars m (said r) =
    reply_chars
    (record { address = r.address; function = r.function; status = r.status; port = port_status m; count = length r.chars })
    r.chars

-- an answered frame sets the mark to 00, damage marks the port, and any other outcome leaves the mark (Frames 13, 14)
unfoldable pub mark_after : Mark → Outcome → Mark
mark_after m o = cond (answered (sending_of o)) Fine (cond (damaged o) Damaged m)

-- 60,000 ms with no stretch mark the port, and the count stays there (Frames 13)
unfoldable pub silent_after : Port → ℕ → Port
silent_after p ms = record { silence = min silence_limit (p.silence + ms); mark = cond (leb silence_limit (p.silence + ms)) Silent p.mark }

-- an empty stretch changes nothing, any other ends the silence (Frames 15, 16)
unfoldable pub port_heard : Port → List ℕ → Outcome → Port
port_heard p [] o = p
port_heard p (x ∷ s) o = record { silence = 0; mark = mark_after p.mark o }

-- the port after an event with this answer; only a local event has one of storing or sampling
unfoldable pub port_after : Port → Event → Answer → Port
port_after p (stretch s) (Ended o) = port_heard p s.chars o
port_after p (stretch s) (Storing r) = p
port_after p (stretch s) (Sampling r) = p
port_after p (elapsed ms) a = silent_after p ms
port_after p (local l) a = p
