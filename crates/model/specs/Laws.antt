-- What the definitions promise besides demand 3, as statements: scans, broadcasts, words on the line, pairs.
use Rattle.std.specs.Prelude.{◌≡◌, ℕ, ◌+◌, ◌*◌, ◌/◌, ◌%◌, ◌<◌, List, [], ◌∷◌, cond, length, get_or}
use Rattle.chars.specs.Word.{word_at}
use Rattle.model.specs.Config.{has}
use Rattle.model.specs.State.{Inner, State}
use Rattle.model.specs.Tables.{table_of, table_numbers}
use Rattle.model.specs.Blocks.{dropped}
use Rattle.model.specs.Step.{status_of, Said, said, Made}
use Rattle.model.specs.declared.Outcome.{Outcome}
use Rattle.model.specs.declared.Outcome.TheVariants.{Done, WriteTaken, WrongCount, NotValid, BrokenOff, WriteHeld}
use Rattle.model.specs.declared.Answer.{Answer}
use Rattle.model.specs.declared.Answer.TheVariants.{Ended}
use Rattle.model.specs.declared.Master.{Master}

-- two table areas have the same tables, as far as a scan of table k may see: of all the numbers, and of k the nibbles (Scans 13, 14)
pub record SeenAlike (xs ys : List ℕ) (k : ℕ) : Type 0 where
  pub present : (j : ℕ) → (table_of xs j).present ≡ (table_of ys j).present
  pub quantity : (j : ℕ) → (table_of xs j).quantity ≡ (table_of ys j).quantity
  pub numbers : (j : ℕ) → table_numbers xs (table_of xs j) ≡ table_numbers ys (table_of ys j)
  pub nibbles : (table_of xs k).nibbles ≡ (table_of ys k).nibbles

-- select, write and history, the latest history reply among it, are as they were (Outcomes 11)
pub record Untouched (s n : State) : Type 0 where
  pub hold : n.inner.core.hold ≡ s.inner.core.hold
  pub write : n.inner.core.write ≡ s.inner.core.write
  pub history : n.inner.history ≡ s.inner.history

-- data that are a word for each of ns, the word w n for n: low character first, then high, and read back as the word (Head 1; paper 1.1.1)
pub record LowFirst (w : ℕ → ℕ) (ns ys : List ℕ) : Type 0 where
  pub long : length ys ≡ 2 * length ns
  pub low : (i : ℕ) → i < length ns → get_or ys (2 * i) 0 ≡ w (get_or ns i 0) % 256
  pub high : (i : ℕ) → i < length ns → get_or ys (2 * i + 1) 0 ≡ w (get_or ns i 0) / 256
  pub back : (i : ℕ) → i < length ns → word_at ys (2 * i) ≡ w (get_or ns i 0)

-- those of the numbers ns that are equipped (Scans 7)
unfoldable pub equipped : List ℕ → List ℕ → List ℕ
equipped table [] = []
equipped table (n ∷ ns) = cond (has table n) (n ∷ equipped table ns) (equipped table ns)

-- how a WRITE of 11 characters for this unit ends: taken, or refused by 12 or 15 (Request 5.4)
pub data WriteEnds : Outcome → Type 0 where
  taken : WriteEnds WriteTaken
  broken_off : WriteEnds BrokenOff
  held : WriteEnds WriteHeld

pub record WriteAnswered (a : Answer) : Type 0 where
  pub outcome : Outcome
  pub ends : WriteEnds outcome
  pub answer : a ≡ Ended outcome

-- how a pair for this unit ends: its EXECUTE done, or refused by 7 or 8; or its WRITE refused (Request 5.2, 5.4)
pub data PairEnds : Outcome → Type 0 where
  done : PairEnds Done
  wrong_count : PairEnds WrongCount
  not_valid : PairEnds NotValid
  unwritten : {o : Outcome} → WriteEnds o → (o ≡ WriteTaken → ⊥) → PairEnds o

-- what a unit makes of a pair of master a: its one reply has the status as the stretch found it, and no write of that master waits then
pub record PairMade (i : Inner) (a : Master) (m : Made) : Type 0 where
  pub outcome : Outcome
  pub ends : PairEnds outcome
  pub answer : m.answer ≡ Ended outcome
  pub status : (r : Said) → m.sent ≡ said r → r.status ≡ status_of i.core
  pub gone : dropped m.inner.core.write a ≡ m.inner.core.write
