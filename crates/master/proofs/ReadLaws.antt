-- What a call that reads answers and leaves, case by case of its tests.
-- Assumes nothing.
use mathlib.Core.Path.{◌≡◌, refl, sym, ap, ◌∙◌}
use Prim.Native.Nat.{ℕ, ◌+◌, ◌*◌, ◌-◌, ◌<◌, ◌≤◌}
use native.Mathlib.Omega.{arith}
use mathlib.Core.List.{List, []}
use mathlib.Core.Bool.{Bool, true, false, cond, ◌&&◌, ◌||◌, false≢true}
use lib.ListN.{length, get_or}
use lib.Dec.{eqb, leb}
use borrow.Author.Tests.{le-leb, le-ltb, lt-ltb, eqb-true}
use Rattle.std.specs.Prelude.{Result, Ok, Err}
use Rattle.chars.specs.Put.{put}
use Rattle.chars.specs.Word.{word_at}
use Rattle.chars.proofs.PutLaws.{put-none, part-most}
use Rattle.model.specs.Frame.{Request, checked}
use Rattle.model.specs.Line.{data_of}
use Rattle.model.specs.History.{dumps}
use Rattle.model.specs.Believe.{quantity_in, size_in, records_told, sized, tells_records, could_tell, could_refuse, empty}
use Rattle.model.specs.Poll.{Polling, Waiting, nothing, history, another, keeps_anew, records_kept, kept_when, poll_of, whole_reply, to_one, read_for, read_over, reads, received}
use Rattle.model.specs.declared.Read.{Read}
use Rattle.model.specs.declared.Read.TheVariants.{Normal, NotWhole, CheckWrong, OtherAddress, OtherFunction, NoSuchData, Nop, Rst}
use Rattle.master.specs.declared.Refusal.{Refusal}
use Rattle.master.specs.declared.Refusal.TheVariants.{NotConfigured, RoomShort}
use Rattle.master.specs.declared.Taken.{Taken}
use Rattle.master.specs.Polled.{waiting_at, address_in, asked_in, waiting_in, poll_in, in_range}
use Rattle.master.specs.Taken.{address_waiting, data_read, asks_history, keeps_for, is_normal, settled_in, takes_in, can_read, memory_taken, records_read, joined, wholly, size_taken, taken_of}
use Rattle.master.proofs.SameLaws.{and_parts, and_false}
use Rattle.master.proofs.RecordsLaws.{sized_bounds}
use Rattle.master.proofs.ReplyLaws.{reads_over, whole_long, data_poll}

-- what a call that reads promises
abbrev pub Taking : List ℕ → List ℕ → List ℕ → Result Taken Refusal → List ℕ → List ℕ → Type 0
Taking p r room t p' room' =
    (t ≡ taken_of p r (length room)) × (p' ≡ memory_taken p r (length room)) × (room' ≡ put room 0 (joined (records_read p r (length room))))

-- ---- nothing is read

module _ (p r room : List ℕ) where
  pub read_short : length room < 511 → Taking p r room (Err RoomShort) p room
  unfolding taken_of memory_taken records_read can_read joined
  read_short h = let e = lt-ltb (length room) 511 h in rw e (refl, refl, sym (put-none room 0))

  pub read_unranged : 511 ≤ length room → in_range p ≡ false → Taking p r room (Err NotConfigured) p room
  unfolding taken_of memory_taken records_read can_read joined
  read_unranged h n = let e = le-ltb (length room) 511 h in rw (e, n) (refl, refl, sym (put-none room 0))

-- ---- the records received

kept_is : (b c : Bool) (q : Request) (m : Polling) (ys : List ℕ) (x : Read) → (b ≡ true → c ≡ false)
    → kept_when (cond b nothing (cond c history (another q))) m ys x ≡ cond (is_normal x && (c && keeps_anew m ys)) (records_told ys) []
unfolding kept_when records_kept is_normal
kept_is true c q m ys x h = rw (h refl, and_false)
kept_is false false q m ys x h = rw and_false
kept_is false true q m ys Normal h = refl
kept_is false true q m ys NotWhole h = refl
kept_is false true q m ys CheckWrong h = refl
kept_is false true q m ys OtherAddress h = refl
kept_is false true q m ys OtherFunction h = refl
kept_is false true q m ys NoSuchData h = refl
kept_is false true q m ys Nop h = refl
kept_is false true q m ys Rst h = refl

not_both : (n : ℕ) → eqb n 0 ≡ true → eqb n 1 ≡ false
not_both n e = rw (eqb-true n 0 e)

pub waiting_of : (p : List ℕ) → (poll_in p).waiting ≡ waiting_in p
unfolding poll_in
waiting_of p = refl

received_is : (p r : List ℕ) → received (address_in p) (poll_in p) r ≡ cond (is_normal (reads (address_in p) (poll_in p) r) && keeps_for p (data_of r)) (records_told (data_of r)) []
unfolding received keeps_for asks_history waiting_in
received_is p r =
    ap (λ (w : Waiting). kept_when w (poll_in p) (data_of r) (reads (address_in p) (poll_in p) r)) (waiting_of p)
    ∙ kept_is (eqb (get_or p waiting_at 0) 0) (eqb (get_or p waiting_at 0) 1) (asked_in p) (poll_in p) (data_of r) (reads (address_in p) (poll_in p) r) (not_both (get_or p waiting_at 0))

-- ---- a normal reply

normal_of : (b : Bool) (x y : Read) → is_normal y ≡ false → is_normal (cond b x y) ≡ true → (b ≡ true) × (is_normal x ≡ true)
normal_of true x y n e = (refl, e)
normal_of false x y n e = absurd (false≢true (sym n ∙ e))

pub over_normal : (a : ℕ) (r : List ℕ) (x : Read) → is_normal (read_over a r x) ≡ true → (whole_reply r ≡ true) × (is_normal x ≡ true)
unfolding read_over is_normal
over_normal a r x e =
    let w = normal_of (whole_reply r) (cond (checked r) (cond (eqb (word_at r 0) a) x OtherAddress) CheckWrong) NotWhole refl e in
    let c = normal_of (checked r) (cond (eqb (word_at r 0) a) x OtherAddress) CheckWrong refl w.1 in
    (w.0, (normal_of (eqb (word_at r 0) a) x OtherAddress refl c.1).1)

by_told : (a b c : Bool) (x y z : Bool) → is_normal (cond a (cond x Normal NoSuchData) (cond b (cond y Nop NoSuchData) (cond c (cond z Rst NoSuchData) OtherFunction))) ≡ true → x ≡ true
unfolding is_normal
by_told true b c true y z e = refl
by_told true b c false y z e = absurd (false≢true e)
by_told false true c x true z e = absurd (false≢true e)
by_told false true c x false z e = absurd (false≢true e)
by_told false false true x y true e = absurd (false≢true e)
by_told false false true x y false e = absurd (false≢true e)
by_told false false false x y z e = absurd (false≢true e)

for_told : (q : Request) (r : List ℕ) → is_normal (read_for q r) ≡ true → could_tell q (data_of r) ≡ true
unfolding read_for
for_told q r e =
    (and_parts (to_one q) (could_tell q (data_of r))
    (by_told (eqb (get_or r 2 0) q.function) (eqb (get_or r 2 0) (q.function + 0x40)) (eqb (get_or r 2 0) (q.function + 0x80))
    (to_one q && could_tell q (data_of r)) (to_one q && could_refuse q (data_of r)) (to_one q && empty (data_of r)) e)).1

by_none : (d : Bool) (ys : List ℕ) (b : Bool) → eqb (quantity_in ys) 0 ≡ b → tells_records d ys ≡ true
    → b || (eqb (length ys) (1 + quantity_in ys * size_in ys) && leb (size_in ys) 38) ≡ true
unfolding tells_records
by_none d ys true h e = refl
by_none d ys false h e =
    let t = and_parts (eqb (length ys) (1 + quantity_in ys * size_in ys)) _ (rw h at e) in
    let s = and_parts (sized (size_in ys)) _ t.1 in
    rw (t.0, le-leb (size_in ys) 38 (sized_bounds (size_in ys) s.0).1)

told-wholly : (d : Bool) (ys : List ℕ) → tells_records d ys ≡ true → wholly ys ≡ true
unfolding wholly
told-wholly d ys e = by_none d ys (eqb (quantity_in ys) 0) refl e

poll-told : (p r : List ℕ) → could_tell (poll_of (address_in p) (poll_in p)) (data_of r) ≡ true → wholly (data_of r) ≡ true
unfolding could_tell poll_of
poll-told p r e = told-wholly (dumps (poll_of (address_in p) (poll_in p))) (data_of r) e

pub data_long : (r : List ℕ) → length r ≤ 520 → length (data_of r) ≤ 511
unfolding data_of
data_long r h = omega (arith, part-most r 7 (length r - 9))

-- ---- all of it

module _ (p r room : List ℕ) (h : 511 ≤ length room) (n : in_range p ≡ true) (x : Read) (e : x ≡ reads (address_in p) (poll_in p) r)
    (ys : List ℕ) (d : ys ≡ data_of r) (t k : Bool) (f : t ≡ is_normal x) (g : k ≡ keeps_for p ys) where
  can_read_lem : can_read p (length room) ≡ true
  unfolding can_read
  can_read_lem = rw (le-ltb (length room) 511 h) n

  anew_is : is_normal (reads (address_in p) (poll_in p) r) && keeps_for p (data_of r) ≡ t && k
  anew_is = rw (← e, ← d, ← f, ← g)

  records_are : records_read p r (length room) ≡ cond (t && k) (records_told ys) []
  unfolding records_read
  records_are = rw (can_read_lem, received_is, anew_is, ← d)

  memory_is : memory_taken p r (length room) ≡ settled_in p ys (t && k) x
  unfolding memory_taken takes_in
  memory_is = rw (can_read_lem, anew_is, ← d, ← e)

  taken_is : taken_of p r (length room) ≡ Ok (record { read = x; count = length (cond (t && k) (records_told ys) []); size = size_taken ys (cond (t && k) (records_told ys) []) })
  unfolding taken_of
  taken_is = rw (le-ltb (length room) 511 h, n, records_are, ← d, ← e)

  is_normal_lem : t && k ≡ true → is_normal (read_over (address_waiting p) r (data_read p r)) ≡ true
  is_normal_lem a = rw (← reads_over p r, ← e, ← f) (and_parts t k a).0

  pub kept-long : t && k ≡ true → length ys ≤ 511
  kept-long a = rw d (data_long r (whole_long r (over_normal (address_waiting p) r (data_read p r) (is_normal_lem a)).0).1)

  pub kept_whole : t && k ≡ true → wholly ys ≡ true
  unfolding keeps_for asks_history
  kept_whole a =
      let one = (and_parts (eqb (get_or p waiting_at 0) 1) _ (sym g ∙ (and_parts t k a).1)).0 in
      let z = eqb-true (get_or p waiting_at 0) 1 one in
      let normal = (over_normal (address_waiting p) r (data_read p r) (is_normal_lem a)).1 in
      rw d (poll-told p r (for_told (poll_of (address_in p) (poll_in p)) r (rw (← data_poll p r (get_or p waiting_at 0) refl z) at normal)))

  pub read_kept : t && k ≡ true → (p' room' : List ℕ) (count size : ℕ) → p' ≡ settled_in p ys (t && k) x
      → count ≡ length (records_told ys) → size ≡ size_taken ys (records_told ys)
      → room' ≡ put room 0 (joined (records_told ys)) → Taking p r room (Ok (record { read = x; count = count; size = size })) p' room'
  read_kept a p' room' count size m u w v = (rw (u, w) (sym (taken_is ∙ rw a)), m ∙ sym memory_is, v ∙ rw (records_are, a))

  pub read_none : t && k ≡ false → (p' : List ℕ) → p' ≡ settled_in p ys (t && k) x → Taking p r room (Ok (record { read = x; count = 0; size = 0 })) p' room
  unfolding joined size_taken
  read_none a p' m = (sym (taken_is ∙ rw a), m ∙ sym memory_is, rw (records_are, a) (sym (put-none room 0)))
