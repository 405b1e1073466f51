-- Function 10h: select and operate, over the unit's one select.
use Rattle.std.specs.Prelude.{None, Option, Some, ℕ, ◌+◌, List, [], ◌∷◌, Bool, true, false, cond, not, ◌&&◌, get_or, eqb, leb}
use Rattle.model.specs.Limits.{hold_time}
use Rattle.model.specs.Frame.{Request, master_of}
use Rattle.model.specs.Config.{has}
use Rattle.model.specs.Scan.{Scan, tells, refuses, counts}
use Rattle.model.specs.declared.Outcome.{Outcome}
use Rattle.model.specs.declared.Outcome.TheVariants.{
  Unknown,
  WrongCount,
  NotValid,
  SelectTimedOut,
  SelectHeld,
  NothingWaits,
}
use Rattle.model.specs.declared.Operation.{Operation}
use Rattle.model.specs.declared.Master.{Master}
use Rattle.model.specs.declared.ControlOutput.{ControlOutput}
use Rattle.model.specs.declared.Select.{Select}
use Rattle.model.specs.declared.Hold.{Hold}
use Rattle.model.specs.declared.Hold.TheVariants.{Free, Held, TimedOut}

-- what a control request comes to
pub record Controlled : Type 0 where
  pub says : Scan
  pub action : Option Operation
  pub hold : Hold

abbrev pub keeps : Outcome → Hold → Controlled
keeps o h = record { says = refuses o; action = None; hold = h }

-- the same master
abbrev pub is_of : Master → Master → Bool
is_of m n = eqb m.0 n.0

-- a select is taken, and its number echoed (Select 4)
unfoldable pub takes : Master → ℕ → Bool → Controlled
takes m n close =
    record {
      says = tells (n ∷ []);
      action = None;
      hold = Held (record { master = m; output = record { 0 = n }; close = close; age = 0 });
    }

-- 10h/10h and 10h/11h of an equipped number: refused while a select is held; a timed-out mark gives way (Select 3, 4)
unfoldable pub select_when : Hold → Master → ℕ → Bool → Controlled
select_when Free m n close = takes m n close
select_when (TimedOut p) m n close = takes m n close
select_when (Held s) m n close = keeps SelectHeld (Held s)

-- 10h/20h: its master's operates, and the select is gone; another's, timed out, or none (Select 6)
unfoldable pub operate_when : Hold → Master → Controlled
operate_when Free m = keeps NothingWaits Free
operate_when (TimedOut p) m = cond (is_of p m) (keeps SelectTimedOut Free) (keeps NothingWaits (TimedOut p))
operate_when (Held s) m =
    cond (is_of s.master m)
    (record { says = tells []; action = Some (record { output = s.output; close = s.close }); hold = Free })
    (keeps SelectHeld (Held s))

-- 10h/21h where the select's own master has not broken it off (Select 7)
unfoldable pub reset_when : Hold → Controlled
reset_when Free = keeps NothingWaits Free
reset_when (TimedOut p) = keeps NothingWaits (TimedOut p)
reset_when (Held s) = keeps SelectHeld (Held s)

-- a select: one output number, which is equipped (Select 1, 2)
unfoldable pub select_of : List ℕ → Hold → Request → Bool → Controlled
select_of table h q close =
    cond (counts 1 q)
    (cond (has table (get_or q.body 0 0)) (select_when h (master_of q.address) (get_or q.body 0 0) close) (keeps NotValid h))
    (keeps WrongCount h)

-- function 10h (Select 1, 6, 7; paper 4.1)
unfoldable pub control_of : List ℕ → Hold → Request → Controlled
control_of table h q =
    cond (eqb q.command 0x10) (select_of table h q false)
    (cond (eqb q.command 0x11) (select_of table h q true)
    (cond (eqb q.command 0x20) (cond (counts 0 q) (operate_when h (master_of q.address)) (keeps WrongCount h))
    (cond (eqb q.command 0x21) (cond (counts 0 q) (reset_when h) (keeps WrongCount h))
    (keeps Unknown h))))

-- 10h/20h with count 0
unfoldable pub operates : Request → Bool
operates q = eqb q.function 0x10 && (eqb q.command 0x20 && counts 0 q)

-- any other frame of the select's master breaks it off (Select 5)
unfoldable pub breaks : Hold → Request → Bool
breaks Free q = false
breaks (TimedOut p) q = false
breaks (Held s) q = is_of s.master (master_of q.address) && not (operates q)

-- time passes: at 5,000 ms a select or a write lives, at 5,001 its time is over (Select 4; Write 6)
abbrev pub lives : ℕ → ℕ → Bool
lives age ms = leb (age + ms) hold_time

unfoldable pub aged_of : ℕ → ℕ → Option ℕ
aged_of age ms = cond (lives age ms) (Some (age + ms)) None

-- a select whose time is over leaves its master's mark (Select 4)
unfoldable pub held_after : Hold → ℕ → Hold
held_after Free ms = Free
held_after (TimedOut p) ms = TimedOut p
held_after (Held s) ms =
    cond (lives s.age ms)
    (Held (record { master = s.master; output = s.output; close = s.close; age = s.age + ms }))
    (TimedOut s.master)
