-- What the memory means after each call: the definition's next state.
-- Assumes nothing.
use mathlib.Core.Path.{◌≡◌, refl, sym, ap, ◌∙◌}
use Prim.Native.Nat.{ℕ, zero, suc, ◌+◌, ◌*◌, ◌/◌, ◌%◌, ◌<◌, ◌≤◌}
use native.Mathlib.Omega.{arith}
use mathlib.Core.List.{List, [], ◌∷◌}
use mathlib.Core.Bool.{Bool, true, false, cond, not, ◌&&◌, false≢true}
use lib.ListN.{length, get_or, set, replicate}
use lib.Seq.{get_or-set_same, get_or-set_other, get_or-drop}
use lib.Dec.{eqb, leb, ltb}
use borrow.Author.Tests.{eqb-true, eqb-false, ltb-true, ltb-false}
use Rattle.chars.specs.Put.{put, part}
use Rattle.chars.specs.Word.{word, word_at}
use Rattle.chars.proofs.WordLaws.{length-word}
use Rattle.chars.proofs.PutLaws.{length-put, put_one, put-put, put_clipped, part-put, part-put-after, get_d_put-before, drop-put}
use Rattle.model.specs.Frame.{unit_of, broadcast_unit, checked}
use Rattle.model.specs.Line.{data_of}
use Rattle.model.specs.History.{file_of, dumps}
use Rattle.model.specs.Ask.{askable, to_all}
use Rattle.model.specs.Poll.{Waiting, nothing, history, another, last, fresh_polling, polls, turns, Wish, wished, Built, unbuilt, built_poll, builds, whole_reply, read_over, reads, keeps_anew, doubts, believes, takes, believed, passes, polled_when, reading}
use Rattle.model.specs.declared.Read.{Read}
use Rattle.model.specs.declared.Read.TheVariants.{Normal, NotWhole, CheckWrong, OtherAddress, OtherFunction, NoSuchData, Nop, Rst}
use Rattle.master.specs.Polled.{free_at, latest_at, waiting_at, function_at, command_at, all_at, count_at, kept_at, file_at, length_at, data_at, poll_length, address_in, address_asked, asked_in, waiting_in, last_in, poll_in}
use Rattle.master.specs.Built.{begun, char_of, latest_built, polls_in, turns_in, memory_polled, asks_in, can_build, memory_built}
use Rattle.master.specs.Taken.{address_waiting, data_read, doubts_in, believes_in, keeps_in, asks_history, free_for, keeps_for, is_normal, settled_in, takes_in, can_read, memory_taken}
use Rattle.master.proofs.SameLaws.{and_parts}
use Rattle.master.proofs.AskLaws.{asked-short, asked-history}
use Rattle.master.proofs.ReplyLaws.{reads_over, whole_long, data_nothing}
use Rattle.master.proofs.ReadLaws.{over_normal, data_long, waiting_of}

-- ---- a character, and a part, after one character was written

module _ (xs : List ℕ) (at y : ℕ) where
  by_place : (i : ℕ) (b c : Bool) → eqb i at ≡ b → ltb at (length xs) ≡ c → get_or (put xs at (y ∷ [])) i 0 ≡ cond (b && c) y (get_or xs i 0)
  by_place i true true e h =
      let z : i ≡ at = eqb-true i at e in
      rw (z, put_one) (get_or-set_same xs at y 0 (ltb-true at (length xs) h))
  by_place i true false e h = rw (put_clipped xs at (y ∷ []) (ltb-false at (length xs) h))
  by_place i false c e h = rw put_one (get_or-set_other xs at i y 0 (eqb-false i at e))

  pub got : (i : ℕ) → get_or (put xs at (y ∷ [])) i 0 ≡ cond (eqb i at && ltb at (length xs)) y (get_or xs i 0)
  got i = by_place i (eqb i at) (ltb at (length xs)) refl refl

  by_start : (base n : ℕ) (b : Bool) → ltb at base ≡ b → part (put xs at (y ∷ [])) base n ≡ cond b (part xs base n) (part (set xs at y) base n)
  by_start base n true e = let h : at < base = ltb-true at base e in part-put-after xs at (y ∷ []) base n (omega arith)
  by_start base n false e = rw put_one

  pub part_got : (base n : ℕ) → part (put xs at (y ∷ [])) base n ≡ cond (ltb at base) (part xs base n) (part (set xs at y) base n)
  part_got base n = by_start base n (ltb at base) refl

-- ---- a reply that is not believed, and one that is

module _ (p : List ℕ) (l : length p ≡ poll_length) where
  pub doubts-means : poll_in (doubts_in p) ≡ doubts (poll_in p)
  unfolding poll_in doubts_in doubts waiting_in asked_in address_asked address_in last_in word_at
  doubts-means = simp (got, part_got, l)

  pub believes-means : (v : ℕ) → poll_in (believes_in p v) ≡ believes (poll_in p) (eqb v 0) (last_in p)
  unfolding poll_in believes_in believes waiting_in asked_in address_asked address_in last_in word_at
  believes-means v = simp (got, part_got, length-put, l)

-- ---- data that are kept

-- file and kind stand in the low six bits
low-file : (x : ℕ) → x % 64 % 32 ≡ x % 32
low-file x = omega arith

low-kind : (x : ℕ) → x % 64 / 32 % 2 ≡ x / 32 % 2
low-kind x = omega arith

word-whole : (n : ℕ) → n % 256 + 256 * (n / 256) ≡ n
word-whole n = omega arith

module _ (p ys : List ℕ) (l : length p ≡ poll_length) (k : length ys ≤ 511) (v : ℕ) where
  -- all that is written before the data, a character each
  marked : List ℕ
  marked =
      put (put (put (put (believes_in p v) kept_at (1 ∷ [])) file_at (get_or (believes_in p v) latest_at 0 % 64 ∷ [])) length_at (length ys % 256 ∷ [])) (length_at + 1) (length ys / 256 ∷ [])

  keeps_is : keeps_in (believes_in p v) ys ≡ put marked data_at ys
  unfolding keeps_in marked word
  keeps_is =
      ap (λ (x : List ℕ). put x data_at ys)
      (sym (put-put (put (put (believes_in p v) kept_at (1 ∷ [])) file_at (get_or (believes_in p v) latest_at 0 % 64 ∷ [])) length_at (length ys % 256 ∷ []) (length ys / 256 ∷ []) (length_at + 1) refl))

  marked-long : length marked ≡ 653
  unfolding marked believes_in
  marked-long = simp length-put l

  ahead : (i : ℕ) → i < 142 → get_or (put marked 142 ys) i 0 ≡ get_or marked i 0
  ahead i h = get_d_put-before marked 142 ys i h

  data_got : part (put marked 142 ys) 142 (length ys) ≡ ys
  data_got = part-put marked 142 ys (length ys) refl (omega (arith, marked-long))

  -- each number, as it is read then
  at_2 : get_or (put marked 142 ys) 2 0 ≡ 0
  unfolding marked believes_in
  at_2 = ahead 2 (omega arith) ∙ simp (got, length-put, l)

  at_3 : get_or (put marked 142 ys) 3 0 ≡ v
  unfolding marked believes_in
  at_3 = ahead 3 (omega arith) ∙ simp (got, length-put, l)

  at_4 : get_or (put marked 142 ys) 4 0 ≡ get_or p 4 0
  unfolding marked believes_in
  at_4 = ahead 4 (omega arith) ∙ simp (got, length-put, l)

  at_5 : get_or (put marked 142 ys) 5 0 ≡ 0
  unfolding marked believes_in
  at_5 = ahead 5 (omega arith) ∙ simp (got, length-put, l)

  at_138 : get_or (put marked 142 ys) 138 0 ≡ 1
  unfolding marked believes_in
  at_138 = ahead 138 (omega arith) ∙ simp (got, length-put, l)

  at_139 : get_or (put marked 142 ys) 139 0 ≡ get_or p 4 0 % 64
  unfolding marked believes_in
  at_139 = ahead 139 (omega arith) ∙ simp (got, length-put, l)

  at_140 : get_or (put marked 142 ys) 140 0 ≡ length ys % 256
  unfolding marked believes_in
  at_140 = ahead 140 (omega arith) ∙ simp (got, length-put, l)

  at_141 : get_or (put marked 142 ys) 141 0 ≡ length ys / 256
  unfolding marked believes_in
  at_141 = ahead 141 (omega arith) ∙ simp (got, length-put, l)

  length_got : word_at (put marked 142 ys) 140 ≡ length ys
  unfolding word_at
  length_got = rw (at_140, at_141) (word-whole (length ys))

  last_got : last_in (put marked 142 ys) ≡ last (poll_in p).file (poll_in p).dump ys
  unfolding last_in poll_in
  last_got = rw (at_138, at_139, length_got, data_got, low-file (get_or p 4 0), low-kind (get_or p 4 0))

  pub kept-means : poll_in (keeps_in (believes_in p v) ys) ≡ believes (poll_in p) (eqb v 0) (last (poll_in p).file (poll_in p).dump ys)
  unfolding poll_in believes waiting_in
  kept-means = ap poll_in keeps_is ∙ rw (at_2, at_3, at_4, at_5, last_got)

-- ---- a history request

built_file : (b : Bool) (c x : ℕ) → c < 64 → cond b (64 + c) (x % 64) % 32 ≡ cond b (c % 32) (x % 32)
built_file true c x h = omega arith
built_file false c x h = omega arith

built_dump : (b : Bool) (c x : ℕ) → c < 64 → eqb (cond b (64 + c) (x % 64) / 32 % 2) 1 ≡ cond b (eqb (c / 32 % 2) 1) (eqb (x / 32 % 2) 1)
built_dump true c x h = let e : (64 + c) / 32 % 2 ≡ c / 32 % 2 = omega arith in rw e
built_dump false c x h = rw (low-kind x)

built_bit : (b : Bool) (c x : ℕ) → c < 64 → eqb (cond b (64 + c) (x % 64) / 64 % 2) 1 ≡ b
built_bit true c x h = let e : (64 + c) / 64 % 2 ≡ 1 = omega arith in rw e
built_bit false c x h = let e : x % 64 / 64 % 2 ≡ 0 = omega arith in rw e

module _ (p : List ℕ) (l : length p ≡ poll_length) where
  last_polled : (c : ℕ) → last_in (polls_in p c) ≡ last_in p
  unfolding last_in polls_in word_at
  last_polled c = simp (got, part_got, length-put, l)

  pub polls-means : (c : ℕ) → c < 64 → poll_in (polls_in p c) ≡ polls (poll_in p) (c % 32) (eqb (c / 32 % 2) 1)
  unfolding poll_in polls_in polls waiting_in latest_built
  polls-means c h =
      let free = eqb (get_or p 3 0) 0 in
      simp (last_polled c, got, length-put, l, built_file free c (get_or p 4 0) h, built_dump free c (get_or p 4 0) h, built_bit free c (get_or p 4 0) h)

-- ---- any other request

char_one : (b : Bool) → eqb (char_of b) 1 ≡ b
unfolding char_of
char_one true = refl
char_one false = refl

get_d_put-after : (xs : List ℕ) (at : ℕ) (ys : List ℕ) (i : ℕ) → at + length ys ≤ i → get_or (put xs at ys) i 0 ≡ get_or xs i 0
get_d_put-after xs at ys i h =
    let e : i + 0 ≡ i = omega arith in
    ap (λ (n : ℕ). get_or (put xs at ys) n 0) (sym e) ∙ sym (get_or-drop i (put xs at ys) 0 0) ∙ rw (drop-put i xs at ys h) (get_or-drop i xs 0 0 ∙ ap (λ (n : ℕ). get_or xs n 0) e)

-- ---- a fresh master

zero_at : (n i : ℕ) → ◌≡◌ {A = ℕ} (get_or (replicate n 0) i 0) 0
zero_at zero i = refl
zero_at (suc n) zero = refl
zero_at (suc n) (suc i) = zero_at n i

fresh_of_lem : (xs : List ℕ) (a : ℕ) → ((i : ℕ) → get_or xs i 0 ≡ 0) → poll_in (put xs 0 (word a)) ≡ fresh_polling
unfolding poll_in fresh_polling waiting_in last_in
fresh_of_lem xs a z =
    let at : (i : ℕ) → 2 ≤ i → get_or (put xs 0 (word a)) i 0 ≡ 0 = λ i h. get_d_put-after xs 0 (word a) i (omega (arith, length-word a)) ∙ z i in
    rw (at 2 (omega arith), at 3 (omega arith), at 4 (omega arith), at 5 (omega arith), at 138 (omega arith))

pub begin_means : (a : ℕ) → poll_in (begun a) ≡ fresh_polling
unfolding begun
begin_means a = fresh_of_lem (replicate poll_length 0) a (zero_at poll_length)

-- ---- the head and the data of any other request

module _ (p : List ℕ) (l : length p ≡ poll_length) (w : Wish) (k : length w.body ≤ 128) where
  headed : List ℕ
  headed =
      put (put (put (put (put p waiting_at (2 ∷ [])) function_at (w.function ∷ [])) command_at (w.command ∷ [])) all_at (char_of w.all ∷ [])) count_at (length w.body ∷ [])

  headed_long : length headed ≡ 653
  unfolding headed
  headed_long = simp length-put l

  turns_is : turns_in p w ≡ put headed 10 w.body
  unfolding turns_in headed
  turns_is = refl

  front : (i : ℕ) → i < 10 → get_or (put headed 10 w.body) i 0 ≡ get_or headed i 0
  front i h = get_d_put-before headed 10 w.body i h

  behind : (i : ℕ) → 138 ≤ i → get_or (put headed 10 w.body) i 0 ≡ get_or headed i 0
  behind i h = get_d_put-after headed 10 w.body i (omega arith)

  body_got : part (put headed 10 w.body) 10 (length w.body) ≡ w.body
  body_got = part-put headed 10 w.body (length w.body) refl (omega (arith, headed_long))

  asked_got : asked_in (put headed 10 w.body) ≡ wished (address_in p) w
  unfolding asked_in address_asked address_in wished word_at headed
  asked_got =
      simp (front 0 (omega arith), front 1 (omega arith), front 6 (omega arith), front 7 (omega arith), front 8 (omega arith), front 9 (omega arith), got, length-put, l, char_one)
      (ap (λ (ys : List ℕ). record { address = cond w.all (to_all (get_or p 0 0 + 256 * get_or p 1 0)) (get_or p 0 0 + 256 * get_or p 1 0); function = w.function; command = w.command; body = ys }) body_got)

  last_turned : last_in (put headed 10 w.body) ≡ last_in p
  unfolding last_in word_at headed
  last_turned =
      let d : part (put headed 10 w.body) 142 (get_or p 140 0 + 256 * get_or p 141 0) ≡ part headed 142 (get_or p 140 0 + 256 * get_or p 141 0) =
      part-put-after headed 10 w.body 142 (get_or p 140 0 + 256 * get_or p 141 0) (omega arith) in
      simp (behind 138 (omega arith), behind 139 (omega arith), behind 140 (omega arith), behind 141 (omega arith), got, length-put, l, d, part_got)

  pub turns-means : poll_in (turns_in p w) ≡ turns (poll_in p) (wished (address_in p) w)
  unfolding poll_in turns waiting_in headed
  turns-means =
      ap poll_in turns_is
      ∙ simp (asked_got, last_turned, front 2 (omega arith), front 3 (omega arith), front 4 (omega arith), front 5 (omega arith), got, length-put, l)

-- ---- a call that builds

pull : {A B : Type 0} (f : A → B) (b : Bool) (x y : A) → f (cond b x y) ≡ cond b (f x) (f y)
pull f true x y = refl
pull f false x y = refl

by_both : {A : Type 0} (b : Bool) (x y z w : A) → (b ≡ true → x ≡ z) → (b ≡ false → y ≡ w) → cond b x y ≡ cond b z w
by_both true x y z w f g = f refl
by_both false x y z w f g = g refl

module _ (p : List ℕ) (l : length p ≡ poll_length) (room : ℕ) (w : Wish) where
  abbrev May : Bool
  May = not (eqb (unit_of (address_in p)) broadcast_unit) && askable (wished (address_in p) w)

  may_ask : May ≡ true → askable (wished (address_in p) w) ≡ true
  may_ask e = (and_parts (not (eqb (unit_of (address_in p)) broadcast_unit)) (askable (wished (address_in p) w)) e).1

  may_short : May ≡ true → length w.body ≤ 128
  unfolding wished
  may_short e = asked-short (wished (address_in p) w) (may_ask e)

  polled_means : May ≡ true → w.function ≡ 4 → poll_in (memory_polled p room w.command) ≡ (built_poll (address_in p) (poll_in p) room (wished (address_in p) w)).polling
  unfolding memory_polled built_poll unbuilt file_of dumps wished
  polled_means e f =
      let h = (asked-history _ w.function w.command w.body f (may_ask e)).0 in
      pull poll_in (leb 511 room) (polls_in p w.command) p
      ∙ by_both (leb 511 room) _ _ _ _ (λ t. polls-means p l w.command h) (λ t. refl)
      ∙ sym (pull (λ (b : Built). b.polling) (leb 511 room) _ _)

  asks-means : poll_in (asks_in p room w) ≡ (builds (address_in p) (poll_in p) room w).polling
  unfolding asks_in builds unbuilt
  asks-means =
      pull poll_in May _ p
      ∙ by_both May _ _ _ _
      (λ e. pull poll_in (eqb w.function 0x04) _ _
      ∙ by_both (eqb w.function 0x04) _ _ _ _ (λ f. polled_means e (eqb-true w.function 4 f)) (λ f. turns-means p l w (may_short e))
      ∙ sym (pull (λ (b : Built). b.polling) (eqb w.function 0x04) _ _))
      (λ e. refl)
      ∙ sym (pull (λ (b : Built). b.polling) May _ _)

  -- what is built leaves the definition's next state; a memory out of range and a buffer too short leave it as it was
  pub build_means : (buffer : ℕ) → poll_in (memory_built p buffer room w) ≡ cond (can_build p buffer) (builds (address_in p) (poll_in p) room w).polling (poll_in p)
  unfolding memory_built
  build_means buffer = pull poll_in (can_build p buffer) _ p ∙ by_both (can_build p buffer) _ _ _ _ (λ t. asks-means) (λ t. refl)

-- ---- a call that reads

refusal : (a b c : Bool) → believed (cond a (cond b (cond c OtherFunction OtherAddress) CheckWrong) NotWhole) ≡ false
unfolding believed
refusal true true true = refl
refusal true true false = refl
refusal true false c = refl
refusal false b c = refl

module _ (p : List ℕ) (l : length p ≡ poll_length) (ys : List ℕ) where
  -- nothing is outstanding: no reply is believed
  none-means : (x : Read) → believed x ≡ false → poll_in (takes_in p ys x) ≡ doubts (poll_in p)
  unfolding takes_in settled_in believed
  none-means Normal e = absurd (false≢true (sym e))
  none-means NotWhole e = doubts-means p l
  none-means CheckWrong e = doubts-means p l
  none-means OtherAddress e = doubts-means p l
  none-means OtherFunction e = doubts-means p l
  none-means NoSuchData e = doubts-means p l
  none-means Nop e = absurd (false≢true (sym e))
  none-means Rst e = absurd (false≢true (sym e))

  -- another request is: history is left as it was
  other-means : (x : Read) → asks_history p ≡ false → poll_in (takes_in p ys x) ≡ passes (poll_in p) x
  unfolding takes_in settled_in passes believed is_normal keeps_for free_for poll_in
  other-means Normal e = rw e (believes-means p l (get_or p free_at 0))
  other-means NotWhole e = doubts-means p l
  other-means CheckWrong e = doubts-means p l
  other-means OtherAddress e = doubts-means p l
  other-means OtherFunction e = doubts-means p l
  other-means NoSuchData e = doubts-means p l
  other-means Nop e = rw e (believes-means p l (get_or p free_at 0))
  other-means Rst e = rw e (believes-means p l (get_or p free_at 0))

  -- the latest history request is
  normal_means : length ys ≤ 511 → (b : Bool) → poll_in (cond b (keeps_in (believes_in p 0) ys) (believes_in p 0))
      ≡ believes (poll_in p) true (cond b (last (poll_in p).file (poll_in p).dump ys) (poll_in p).kept)
  unfolding poll_in
  normal_means k true = kept-means p ys l k 0
  normal_means k false = believes-means p l 0

  history-means : (x : Read) → asks_history p ≡ true → (is_normal x ≡ true → length ys ≤ 511) → poll_in (takes_in p ys x) ≡ takes (poll_in p) ys x
  unfolding takes_in settled_in takes is_normal keeps_for free_for poll_in
  history-means Normal e k = rw e (normal_means (k refl) (keeps_anew (poll_in p) ys))
  history-means NotWhole e k = doubts-means p l
  history-means CheckWrong e k = doubts-means p l
  history-means OtherAddress e k = doubts-means p l
  history-means OtherFunction e k = doubts-means p l
  history-means NoSuchData e k = doubts-means p l
  history-means Nop e k = rw e (believes-means p l 0)
  history-means Rst e k = rw e (believes-means p l 1)

  by_asked : (b c : Bool) (x : Read) → eqb (get_or p waiting_at 0) 1 ≡ c → (b ≡ true → believed x ≡ false) → (is_normal x ≡ true → length ys ≤ 511)
      → poll_in (takes_in p ys x) ≡ polled_when (cond b nothing (cond c history (another (asked_in p)))) (poll_in p) ys x
  unfolding polled_when asks_history
  by_asked true c x e n k = none-means x (n refl)
  by_asked false true x e n k = history-means x e k
  by_asked false false x e n k = other-means x e

module _ (p : List ℕ) (l : length p ≡ poll_length) (r : List ℕ) where
  nothing-asked : eqb (get_or p waiting_at 0) 0 ≡ true → believed (reads (address_in p) (poll_in p) r) ≡ false
  unfolding read_over
  nothing-asked e =
      rw (reads_over p r, ← data_nothing p r (get_or p waiting_at 0) refl (eqb-true (get_or p waiting_at 0) 0 e))
      (refusal (whole_reply r) (checked r) (eqb (word_at r 0) (address_waiting p)))

  normal_long : is_normal (reads (address_in p) (poll_in p) r) ≡ true → length (data_of r) ≤ 511
  normal_long e = data_long r (whole_long r (over_normal (address_waiting p) r (data_read p r) (rw (reads_over p r) at e)).0).1

  -- what is read leaves the definition's next state; a memory out of range and room too short leave it as it was
  pub read-means : (room : ℕ) → poll_in (memory_taken p r room) ≡ cond (can_read p room) (reading (address_in p) (poll_in p) r) (poll_in p)
  unfolding memory_taken reading waiting_in
  read-means room =
      pull poll_in (can_read p room) _ p
      ∙ by_both (can_read p room) _ _ _ _
      (λ t. by_asked p l (data_of r) (eqb (get_or p waiting_at 0) 0) (eqb (get_or p waiting_at 0) 1) (reads (address_in p) (poll_in p) r) refl nothing-asked normal_long
      ∙ ap (λ (w : Waiting). polled_when w (poll_in p) (data_of r) (reads (address_in p) (poll_in p) r)) (sym (waiting_of p)))
      (λ t. refl)
