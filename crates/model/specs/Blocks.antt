-- Blocks: WRITE, EXECUTE and READ over the fixed area and the parameter block.
use Rattle.std.specs.Prelude.{ℕ, ◌+◌, List, [], ◌∷◌, Bool, true, false, cond, not, ◌&&◌, ◌||◌, length, get_or, eqb, leb, None, Option, Some}
use Rattle.chars.specs.Put.{put, part}
use Rattle.chars.specs.Word.{word_at}
use Rattle.model.specs.Limits.{most_asked}
use Rattle.model.specs.Frame.{Request, master_of}
use Rattle.model.specs.Config.{within}
use Rattle.model.specs.Scan.{Scan, tells, refuses_with, refuses, counts}
use Rattle.model.specs.Control.{is_of, lives}
use Rattle.model.specs.declared.Outcome.{Outcome}
use Rattle.model.specs.declared.Outcome.TheVariants.{WriteTaken, WrongCount, NotValid, NothingWaits, WriteHeld}
use Rattle.model.specs.declared.Master.{Master}
use Rattle.model.specs.declared.Ordinal.{Ordinal}
use Rattle.model.specs.declared.Write.{Write}

-- the ordinals that there are; 02 and 05 are left out (Write 1; Covers 2; paper 8.1)
unfoldable pub known : ℕ → Bool
known o = eqb o 0x00 || (eqb o 0x03 || (eqb o 0x06 || eqb o 0x0B))

-- where an ordinal of the fixed area starts: 00 has 16 characters, 03 and 0Bh have 256 each (Write 1)
unfoldable pub ordinal_start : ℕ → ℕ
ordinal_start o = cond (eqb o 0x00) 0 (cond (eqb o 0x03) 16 272)

-- the characters of an ordinal, from whichever of the two areas holds it (Write 1, 2)
unfoldable pub block_of : List ℕ → List ℕ → ℕ → List ℕ
block_of fixed block o =
    cond (eqb o 0x06) block
    (cond (eqb o 0x00) (part fixed 0 16)
    (cond (eqb o 0x03) (part fixed 16 256)
    (cond (eqb o 0x0B) (part fixed 272 256)
    [])))

-- n characters from the bias on lie in the ordinal's block (Write 9, 12)
unfoldable pub reaches : List ℕ → List ℕ → ℕ → ℕ → ℕ → Bool
reaches fixed block o bias n = known o && leb (bias + n) (length (block_of fixed block o))

-- what a WRITE comes to
pub record WriteResult : Type 0 where
  pub says : Scan
  pub write : Option Write

-- a WRITE is taken, and waits (Write 5)
unfoldable pub waits_for : Master → ℕ → ℕ → WriteResult
waits_for m bias o = record { says = record { outcome = WriteTaken; chars = [] }; write = Some (record { master = m; bias = bias; ordinal = record { 0 = o }; age = 0 }) }

-- 20h/30h: another master's write stands; a master's own is replaced (Write 4, 5)
unfoldable pub write_when : Option Write → Master → ℕ → ℕ → WriteResult
write_when None m bias o = waits_for m bias o
write_when (Some w) m bias o = cond (is_of w.master m) (waits_for m bias o) (record { says = refuses WriteHeld; write = Some w })

-- 20h/30h: bias word and ordinal, which EXECUTE judges (Write 3; paper 6.4)
unfoldable pub write_of : Option Write → Request → WriteResult
write_of p q =
    cond (counts 3 q) (write_when p (master_of q.address) (word_at q.body 0) (get_or q.body 2 0)) (record { says = refuses WrongCount; write = p })

-- what an EXECUTE comes to: both areas after it, and whether bit 7 and bit 3 are to be cleared
pub record Executed : Type 0 where
  pub says : Scan
  pub fixed : List ℕ
  pub block : List ℕ
  pub configures : Bool
  pub clears : Bool

unfoldable pub not_executed : Outcome → List ℕ → List ℕ → Executed
not_executed o fixed block = record { says = refuses o; fixed = fixed; block = block; configures = false; clears = false }

-- the write's block takes the characters; 03 has the unit configured, 00 clears the error (Write 7, 9; Frames 10)
unfoldable pub executes : List ℕ → List ℕ → ℕ → ℕ → List ℕ → Executed
executes fixed block o bias ys =
    cond (reaches fixed block o bias (length ys))
    (record {
      says = tells [];
      fixed = cond (eqb o 0x06) fixed (put fixed (ordinal_start o + bias) ys);
      block = cond (eqb o 0x06) (put block bias ys) block;
      configures = eqb o 0x03;
      clears = eqb o 0x00;
    })
    (not_executed NotValid fixed block)

-- another master's write, or none (Write 8)
unfoldable pub execute_when : Option Write → List ℕ → List ℕ → Request → Executed
execute_when None fixed block q = not_executed NothingWaits fixed block
execute_when (Some w) fixed block q =
    cond (is_of w.master (master_of q.address))
    (executes fixed block w.ordinal.0 w.bias q.body)
    (not_executed WriteHeld fixed block)

-- 20h/31h: 1 to 128 characters (Write 7; paper 6.4)
unfoldable pub execute_of : Option Write → List ℕ → List ℕ → Request → Executed
execute_of p fixed block q = cond (within 1 most_asked (length q.body)) (execute_when p fixed block q) (not_executed WrongCount fixed block)

-- a refused READ sends the request's data back (Write 13)
unfoldable pub returned : Outcome → Request → Scan
returned o q = refuses_with (part q.body 0 most_asked) o

-- 28h/30h: bias word, ordinal, quantity (Write 11, 12; paper 7.1)
unfoldable pub read_of : List ℕ → List ℕ → Request → Scan
read_of fixed block q =
    cond (counts 4 q)
    (cond (reaches fixed block (get_or q.body 2 0) (word_at q.body 0) (get_or q.body 3 0))
    (tells (part (block_of fixed block (get_or q.body 2 0)) (word_at q.body 0) (get_or q.body 3 0)))
    (returned NotValid q))
    (returned WrongCount q)

-- a frame of its master, or time, drops a write (Write 6)
unfoldable pub dropped : Option Write → Master → Option Write
dropped None m = None
dropped (Some w) m = cond (is_of w.master m) None (Some w)

unfoldable pub waits_after : Option Write → ℕ → Option Write
waits_after None ms = None
waits_after (Some w) ms =
    cond (lives w.age ms)
    (Some (record { master = w.master; bias = w.bias; ordinal = w.ordinal; age = w.age + ms }))
    None
