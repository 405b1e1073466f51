-- A master in turn with the line: what asking and hearing change in it, and which replies it keeps, as statements.
use Rattle.std.specs.Prelude.{ℕ, ◌≡◌, ◌⊎◌, List, [], ◌∷◌, ◌++◌, Bool, true, false, cond, eqb}
use Rattle.model.specs.Line.{data_of}
use Rattle.model.specs.Believe.{records_told}
use Rattle.model.specs.Poll.{
  Waiting,
  nothing,
  history,
  another,
  Last,
  last,
  Polling,
  Wish,
  builds,
  reads,
  keeps_anew,
  believed,
  reading,
  received,
}
use Rattle.model.specs.declared.Read.{Read}
use Rattle.model.specs.declared.Read.TheVariants.{Normal, NotWhole, CheckWrong, OtherAddress, OtherFunction, NoSuchData, Nop, Rst}

-- ---- one turn

-- file, kind and bit of the latest history request
pub record SameLatest (m n : Polling) : Type 0 where
  pub file : n.file ≡ m.file
  pub dump : n.dump ≡ m.dump
  pub bit : n.bit ≡ m.bit

-- nothing changed but the retry mark, which is set
pub record OnlyMarked (m n : Polling) : Type 0 where
  pub latest : SameLatest m n
  pub free : n.free ≡ m.free
  pub waiting : n.waiting ≡ m.waiting
  pub kept : n.kept ≡ m.kept
  pub retry : n.retry ≡ true

-- asking leaves the last data kept and the retry mark; a request that is none of history leaves what is said of history (Request 1.5, 1.7)
pub record AsksOnly (a : ℕ) (m : Polling) (room : ℕ) (w : Wish) : Type 0 where
  pub kept : (builds a m room w).polling.kept ≡ m.kept
  pub retry : (builds a m room w).polling.retry ≡ m.retry
  pub latest : eqb w.function 0x04 ≡ false → SameLatest m (builds a m room w).polling
  pub free : eqb w.function 0x04 ≡ false → (builds a m room w).polling.free ≡ m.free

-- a reply: one that is not believed changes nothing but the retry mark, one that is clears it, and then nothing is outstanding (Request 1.7);
-- the acknowledge bit is free after a normal or a NOP reply to the latest history request, not after RST, and as it was after any other (Request 1.5)
pub record Believes (a : ℕ) (m : Polling) (r : List ℕ) : Type 0 where
  pub doubted : believed (reads a m r) ≡ false → OnlyMarked m (reading a m r) × (received a m r ≡ [])
  pub cleared : believed (reads a m r) ≡ true → ((reading a m r).retry ≡ false) × ((reading a m r).waiting ≡ nothing)
  pub latest : SameLatest m (reading a m r)
  pub frees : m.waiting ≡ history → (reads a m r ≡ Normal) ⊎ (reads a m r ≡ Nop) → (reading a m r).free ≡ true
  pub reset : m.waiting ≡ history → reads a m r ≡ Rst → (reading a m r).free ≡ false
  pub beside : (m.waiting ≡ history → ⊥) → ((reading a m r).free ≡ m.free) × ((reading a m r).kept ≡ m.kept) × (received a m r ≡ [])

-- a normal reply to the latest history request: always kept where that had the bit; else kept unless it equals the last one kept, file and kind
-- too, which leaves all as it was (Request 1.6)
pub record Keeps (a : ℕ) (m : Polling) (r : List ℕ) : Type 0 where
  pub acknowledged : m.bit ≡ true → (received a m r ≡ records_told (data_of r)) × ((reading a m r).kept ≡ last m.file m.dump (data_of r))
  pub differs : (m.kept ≡ last m.file m.dump (data_of r) → ⊥)
      → (received a m r ≡ records_told (data_of r)) × ((reading a m r).kept ≡ last m.file m.dump (data_of r))
  pub again : m.bit ≡ false → m.kept ≡ last m.file m.dump (data_of r) → (received a m r ≡ []) × ((reading a m r).kept ≡ m.kept)

-- ---- a run of turns

-- a wish, with the room lent for records; characters that came
pub data Turn : Type 0 where
  asking : ℕ → Wish → Turn
  hearing : List ℕ → Turn

unfoldable pub after_turn : ℕ → Polling → Turn → Polling
after_turn a m (asking room w) = (builds a m room w).polling
after_turn a m (hearing r) = reading a m r

unfoldable pub after_turns : ℕ → Polling → List Turn → Polling
after_turns a m [] = m
after_turns a m (t ∷ ts) = after_turns a (after_turn a m t) ts

-- the records that a run keeps, in the order received (Request 1.4)
unfoldable pub received_by : ℕ → Polling → Turn → List (List ℕ)
received_by a m (asking room w) = []
received_by a m (hearing r) = received a m r

unfoldable pub received_in : ℕ → Polling → List Turn → List (List ℕ)
received_in a m [] = []
received_in a m (t ∷ ts) = received_by a m t ++ received_in a (after_turn a m t) ts

-- a history reply that was kept: file and kind, whether its request had the bit, its data
pub record TakenReply : Type 0 where
  pub file : ℕ
  pub dump : Bool
  pub bit : Bool
  pub chars : List ℕ

unfoldable pub taken_when : Waiting → Polling → List ℕ → Read → List TakenReply
taken_when nothing m ys x = []
taken_when (another q) m ys x = []
taken_when history m ys Normal = cond (keeps_anew m ys) (record { file = m.file; dump = m.dump; bit = m.bit; chars = ys } ∷ []) []
taken_when history m ys NotWhole = []
taken_when history m ys CheckWrong = []
taken_when history m ys OtherAddress = []
taken_when history m ys OtherFunction = []
taken_when history m ys NoSuchData = []
taken_when history m ys Nop = []
taken_when history m ys Rst = []

unfoldable pub taken_by : ℕ → Polling → Turn → List TakenReply
taken_by a m (asking room w) = []
taken_by a m (hearing r) = taken_when m.waiting m (data_of r) (reads a m r)

unfoldable pub taken_in : ℕ → Polling → List Turn → List TakenReply
taken_in a m [] = []
taken_in a m (t ∷ ts) = taken_by a m t ++ taken_in a (after_turn a m t) ts

-- the records in what was kept
unfoldable pub records_taken : List TakenReply → List (List ℕ)
records_taken [] = []
records_taken (x ∷ xs) = records_told x.chars ++ records_taken xs

-- each was the reply to an acknowledging request, or differs from the one kept before it in file, kind or data; l is the one before the first
pub data Once : Last → List TakenReply → Type 0 where
  none : {l : Last} → Once l []
  one : {l : Last} {x : TakenReply} {xs : List TakenReply} → (x.bit ≡ false → l ≡ last x.file x.dump x.chars → ⊥)
      → Once (last x.file x.dump x.chars) xs → Once l (x ∷ xs)

-- over every run of turns, from any state of a master
pub record KeptOnce (a : ℕ) (m : Polling) (ts : List Turn) : Type 0 where
  pub records : received_in a m ts ≡ records_taken (taken_in a m ts)
  pub once : Once m.kept (taken_in a m ts)
