-- The master's side: the requests of document 01 that a master builds.
use Rattle.std.specs.Prelude.{ℕ, ◌+◌, ◌*◌, ◌/◌, List, Bool, false, cond, ◌&&◌, ◌||◌, length, eqb, ltb}
use Rattle.model.specs.Limits.{most_asked}
use Rattle.model.specs.Frame.{Request, unit_of, broadcast_unit}
use Rattle.model.specs.Config.{within}
use Rattle.model.specs.Scan.{counts}
use Rattle.model.specs.Inputs.{unreserved}
use Rattle.model.specs.Clock.{time_fits}

-- seven characters that tell a time which is one (Write 14; paper 6.5)
unfoldable pub good_time : List ℕ → Bool
good_time s = eqb (length s) 7 && time_fits s

-- function 03: all values, or those of 1 to 128 numbers (Scans 18, 20)
unfoldable pub asks_values : Request → Bool
asks_values q = (eqb q.command 0x80 && counts 0 q) || (eqb q.command 0x00 && within 1 most_asked (length q.body))

-- function 10h: select of one number, operate and 10h/21h with none (Select 1, 6, 10)
unfoldable pub asks_control : Request → Bool
asks_control q = (within 0x10 0x11 q.command && counts 1 q) || (within 0x20 0x21 q.command && counts 0 q)

-- function 20h to one unit or to all: an accumulator reset, a time set (Write 14, 18; Outcomes 10)
unfoldable pub asks_all : Request → Bool
asks_all q = (eqb q.command 0x11 && counts 1 q) || (eqb q.command 0x38 && good_time q.body)

-- and to one unit alone: 20h/00, WRITE, EXECUTE (Write 3, 7, 19)
unfoldable pub asks_internal : Request → Bool
asks_internal q =
    asks_all q || ((eqb q.command 0x00 && counts 0 q) || ((eqb q.command 0x30 && counts 3 q)
    || (eqb q.command 0x31 && within 1 most_asked (length q.body))))

-- function 28h: a part of a block, the time (Write 11, 17)
unfoldable pub asks_return : Request → Bool
asks_return q = (eqb q.command 0x30 && counts 4 q) || (eqb q.command 0x31 && counts 0 q)

-- a request of document 01 to one unit; of a history request file and kind are wished, the acknowledge bit is the master's own (Request 1.2, 1.5)
unfoldable pub asks_one : Request → Bool
asks_one q =
    cond (eqb q.function 0x00) (unreserved q.command && counts 0 q)
    (cond (eqb q.function 0x03) (asks_values q)
    (cond (eqb q.function 0x04) (ltb q.command 64 && counts 0 q)
    (cond (eqb q.function 0x0A) (within 0x41 0x4F q.command && counts 0 q)
    (cond (eqb q.function 0x10) (asks_control q)
    (cond (eqb q.function 0x20) (asks_internal q)
    (cond (eqb q.function 0x28) (asks_return q)
    false))))))

-- figures that make a request of document 01, to one unit or to all
unfoldable pub askable : Request → Bool
askable q = cond (eqb (unit_of q.address) broadcast_unit) (eqb q.function 0x20 && asks_all q) (asks_one q)

-- the address word of a master's broadcasts, from that of the unit it polls (Frames 6)
unfoldable pub to_all : ℕ → ℕ
to_all a = a / 2048 * 2048 + broadcast_unit
