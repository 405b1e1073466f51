-- A stretch moves the records as the line shows: a request for this unit, and any other. Assumes nothing.
use Prim.Native.Nat.{ℕ, ◌+◌, ◌*◌, ◌/◌, ◌≤◌, ◌<◌, min}
use mathlib.Core.Path.{◌≡◌, refl, sym, ap, ◌∙◌, subst}
use mathlib.Core.List.{List, [], ◌++◌, append-nil}
use mathlib.Core.Bool.{Bool, true, false, cond, not, ◌&&◌, beq}
use lib.ListN.{length, get_or, take}
use lib.Dec.{eqb, ltb}
use native.Mathlib.Nat.{div-lt_iff_lt-mul}
use native.Mathlib.Omega.{arith}
use borrow.Author.Tests.{eqb-true, eq-eqb}
use Rattle.model.specs.Limits.{most_dropped}
use Rattle.model.specs.Frame.{Request, unit_of, master_of, broadcast_unit, frame_in, heard_of, request_in}
use Rattle.model.specs.Outcome.{sending_of, function_bits, reply_function}
use Rattle.model.specs.Config.{Config, has_file, size_of}
use Rattle.model.specs.State.{Areas, Files, History, Inner, held_in}
use Rattle.model.specs.Change.{Change, stays, cuts, applied, dropped_after, changed_by}
use Rattle.model.specs.Scan.{tells, refuses, counts}
use Rattle.model.specs.Control.{is_of, breaks}
use Rattle.model.specs.History.{Told, acknowledges, dumps, file_of, untold, history_chars, freed_for, most_of, told_from, agrees, again_when, tell_of, history_of}
use Rattle.model.specs.Step.{Step, scanned, internal_of, Made, quiet, Stepped, finished, alone, broken_off, telling, restarted, initial_step, internal_step, step_of, started_anew, served, other_of, broadcast_of, broadcast_made, framed, judged}
use Rattle.model.specs.Port.{sent_chars}
use Rattle.model.specs.Formed.{AllSized}
use Rattle.model.specs.Line.{Shown, told, forgot, other, initialises, shown_for, shown_in, Latest, nobody, gave, latest_after, released_by, spared_by}
use Rattle.model.specs.Demand3.{without, remembered_as}
use Rattle.model.specs.declared.Outcome.{Outcome}
use Rattle.model.specs.declared.Outcome.TheVariants.{Unknown, WrongCount, NotValid, NothingAgain, OtherUnit}
use Rattle.model.specs.declared.Answer.{Answer}
use Rattle.model.specs.declared.Answer.TheVariants.{Ended}
use Rattle.model.specs.declared.Master.{Master}
use Rattle.model.specs.declared.Mark.{Mark}
use Rattle.model.specs.declared.Core.{Core}
use Rattle.model.specs.declared.HistoryReply.{HistoryReply}
use Rattle.std.specs.Prelude.{None, Option, Some}
use Rattle.model.proofs.PairLaws.{by_heard}
use Rattle.model.proofs.Pairs.{by_pair}
use Rattle.model.proofs.Conditions.{by_cond, false-true, and_left, and_right, and_both}
use Rattle.model.proofs.FileLaws.{held_front}
use Rattle.model.proofs.Shape.{sized-rest}
use Rattle.model.proofs.Shown.{shown-beside, shown-refused, shown-forgot, shown-told}

-- ---- the invariant: the unit's memory is what the line showed last

-- the records of a remembered reply are held, and no more than a reply can tell
abbrev pub Holds : Option HistoryReply → Files → Type 0
Holds None fs = Unit {0}
Holds (Some t) fs = (t.quantity ≤ length (held_in fs t.file.0)) × (t.quantity < 128)

pub record Matches (h : History) (l : Latest) : Type 0 where
  pub latest : l ≡ remembered_as h.memory h.files
  pub holds : Holds h.memory h.files

-- a number of dropped records after an event
abbrev pub counts_on : Bool → ℕ → ℕ
counts_on d n = cond d (min (n + 1) most_dropped) n

-- one event: a repeat shows what was shown last; what was held without what is dropped, and what is stored, is what is released and what is
-- held then; what is dropped is counted; and memory and line match again
pub record Moved (l : Latest) (h : History) (x : Shown) (drops : ℕ → Bool) (new : ℕ → List (List ℕ)) (k : History) : Type 0 where
  pub repeats : {m : Master} {f : ℕ} {ys : List ℕ} {rs : List (List ℕ)} → x ≡ told m f false ys rs → l ≡ gave m f ys rs
  pub moved : (g : ℕ) → without (drops g) (length (spared_by l g)) (held_in h.files g) ++ new g ≡ released_by l x g ++ held_in k.files g
  pub counted : (g : ℕ) → get_or k.dropped g 0 ≡ counts_on (drops g) (get_or h.dropped g 0)
  pub matches : Matches k (latest_after l x)

-- what is no repeat
abbrev repeats : Shown → Bool
repeats (told m f a ys rs) = not a
repeats forgot = false
repeats other = false

pub shown-else : {X : Type 0} {x : Shown} {m : Master} {f : ℕ} {ys : List ℕ} {rs : List (List ℕ)} → repeats x ≡ false → x ≡ told m f false ys rs → X
shown-else e r = false-true (sym e ∙ ap repeats r)

abbrev pub nothing : ℕ → List (List ℕ)
nothing g = []

abbrev pub never : ℕ → Bool
never g = false

as_shown : {l : Latest} {h k : History} {x y : Shown} {drops : ℕ → Bool} {new : ℕ → List (List ℕ)} → x ≡ y → Moved l h y drops new k → Moved l h x drops new k
as_shown e m = rw e m

-- an entry that shows nothing of history, and keeps it
pub released-other : (l : Latest) (g : ℕ) → released_by l other g ≡ []
unfolding released_by
released-other nobody g = refl
released-other (gave m f ys rs) g = refl

released-forgot : (l : Latest) (g : ℕ) → released_by l forgot g ≡ []
unfolding released_by
released-forgot nobody g = refl
released-forgot (gave m f ys rs) g = refl

released_repeat : (l : Latest) (m : Master) (f : ℕ) (zs : List ℕ) (ps : List (List ℕ)) (g : ℕ) → released_by l (told m f false zs ps) g ≡ []
unfolding released_by
released_repeat nobody m f zs ps g = refl
released_repeat (gave h k ys rs) m f zs ps g = refl

unreleased : (fs : Files) (g : ℕ) {rs : List (List ℕ)} → rs ≡ [] → held_in fs g ++ [] ≡ rs ++ held_in fs g
unreleased fs g e = rw e (append-nil (held_in fs g))

pub still : {l : Latest} {h : History} → Matches h l → {x : Shown} → x ≡ other → Moved l h x never nothing h
unfolding latest_after without
still {l} {h} t e = rw e (record { repeats = shown-else refl; moved = λ g. unreleased h.files g (released-other l g); counted = λ g. refl; matches = t })

-- ---- what a release takes, and how many records a reply tells

file-quantity : (values : List ℕ) (f : ℕ) (d : Bool) (n : ℕ) → min n (most_of values f d) < 128
unfolding most_of size_of
file-quantity values f d n = by_cond (λ k. min n k < 128) d (λ e. omega (arith, fit)) (λ e. omega arith)
  where
    fit : 510 / (6 + 2 * get_or values f 0) < 128
    fit =
        let k : 0 < 6 + 2 * get_or values f 0 = omega arith in
        let h : 510 < 128 * (6 + 2 * get_or values f 0) = omega arith in
        (div-lt_iff_lt-mul k).1 h

-- the records of the latest reply, if it went to this master, stood before what is held then
pub released_for : (w : Option HistoryReply) (fs : Files) (m : Master) (f : ℕ) (zs : List ℕ) (ps : List (List ℕ)) (g : ℕ)
    → held_in fs g ≡ released_by (remembered_as w fs) (told m f true zs ps) g ++ held_in (applied (freed_for w m) fs) g
unfolding freed_for applied released_by
released_for None fs m f zs ps g = refl
released_for (Some t) fs m f zs ps g = go (is_of t.master m)
  where
    go : (a : Bool) → held_in fs g ≡ cond (a && eqb t.file.0 g) (take t.quantity (held_in fs t.file.0)) [] ++ held_in (applied (cond a (cuts t.file.0 0 t.quantity) stays) fs) g
    go true = held_front fs t.file.0 g t.quantity
    go false = refl

-- and none is dropped
freed_drops : (w : Option HistoryReply) (m : Master) (ns : List ℕ) → dropped_after (freed_for w m) ns ≡ ns
unfolding freed_for dropped_after
freed_drops None m ns = refl
freed_drops (Some t) m ns = by_cond (λ ch. dropped_after ch ns ≡ ns) (is_of t.master m) (λ e. refl) (λ e. refl)

-- what is left is sized as before
pub sized_for : {n : ℕ} (w : Option HistoryReply) (fs : Files) (m : Master) (g : ℕ) → AllSized n (held_in fs g) → AllSized n (held_in (applied (freed_for w m) fs) g)
sized_for w fs m g h = sized-rest (released_by (remembered_as w fs) (told m 0 true [] []) g) (rw (released_for w fs m 0 [] [] g) at h)

-- ---- a frame for this unit

-- what a frame comes to is fine if the records held move as the line shows
Fine : Config → Latest → Inner → Mark → Request → Made → Type 0
Fine c l i mark q m = Moved l i.history (shown_for c q (sent_chars mark m.sent)) never nothing m.inner.history

module _ (c : Config) (l : Latest) (i : Inner) (mark : Mark) (q : Request) (t : Matches i.history l) where
  refused_fine : (p : Step) → 64 ≤ function_bits (sending_of p.says.outcome) → Fine c l i mark q (finished i q (alone i p))
  unfolding Fine alone finished changed_by applied dropped_after reply_function
  refused_fine p h = still t (shown-refused c q mark (sending_of p.says.outcome) _ (omega arith))

  -- a function that sees no history: its code alone tells that it shows none
  keeps_fine : (p : Step) → eqb q.function 0x04 ≡ false → initialises q ≡ false → Fine c l i mark q (finished i q (alone i p))
  unfolding Fine alone finished changed_by applied dropped_after
  keeps_fine p a b = still t (shown-beside c q _ a b)

  forgot-moved : Moved l i.history forgot never nothing (changed_by stays None i.history)
  unfolding changed_by applied dropped_after latest_after without
  forgot-moved = record { repeats = shown-else refl; moved = λ g. unreleased i.history.files g (released-forgot l g); counted = λ g. refl; matches = record { latest = refl; holds = tt } }

  abbrev begun : Stepped
  begun = record { step = scanned (restarted i.core) i.areas (tells []); memory = None; change = stays }

  forgot_fine : initialises q ≡ true → Fine c l i mark q (finished i q begun)
  unfolding Fine finished scanned
  forgot_fine a = as_shown (shown-forgot c q i mark begun refl a) forgot-moved

  initial_fine : initialises q ≡ true → Fine c l i mark q (finished i q (initial_step i q))
  unfolding initial_step scanned
  initial_fine a =
      by_cond (λ m. Fine c l i mark q (finished i q m)) (counts 0 q) (λ n. forgot_fine a)
      (λ n. refused_fine (scanned i.core i.areas (refuses WrongCount)) (omega arith))

  internal_fine : (lag : ℕ) → q.function ≡ 0x20 → Fine c l i mark q (finished i q (internal_step c i lag q))
  unfolding internal_step initialises
  internal_fine lag a =
      by_cond (λ m. Fine c l i mark q (finished i q m)) (eqb q.command 0x00)
      (λ e. initial_fine (and_both (eq-eqb _ _ a) e))
      (λ e. keeps_fine (internal_of c i.core i.areas lag q) (rw a) (rw (a, e)))

  untold_fine : (o : Outcome) → 64 ≤ function_bits (sending_of o) → Fine c l i mark q (finished i q (telling i (untold o i.history.memory)))
  unfolding Fine telling scanned untold finished changed_by applied dropped_after reply_function
  untold_fine o h = still t (shown-refused c q mark (sending_of o) _ (omega arith))

  -- an acknowledging request: the records of the latest reply leave, and the new reply is remembered
  abbrev freed : Change
  freed = freed_for i.history.memory (master_of q.address)

  abbrev left : Files
  left = applied freed i.history.files

  told_moved : (n : ℕ) (b : Bool) → n < 128 → n ≤ length (held_in left (file_of q))
      → Moved l i.history (told (master_of q.address) (file_of q) true (history_chars n b (held_in left (file_of q))) (take n (held_in left (file_of q)))) never nothing
      (record { memory = Some (record { master = master_of q.address; file = record { 0 = file_of q }; dump = dumps q; quantity = n; more = b }); files = left; dropped = dropped_after freed i.history.dropped })
  unfolding latest_after without
  told_moved n b few most =
      let zs = history_chars n b (held_in left (file_of q)) in
      let ps = take n (held_in left (file_of q)) in
      let k : (g : ℕ) → held_in i.history.files g ≡ released_by l (told (master_of q.address) (file_of q) true zs ps) g ++ held_in left g =
      λ g. rw t.latest (released_for i.history.memory i.history.files (master_of q.address) (file_of q) zs ps g) in
      record { repeats = shown-else refl; moved = λ g. append-nil (held_in i.history.files g) ∙ k g; counted = λ g. rw (freed_drops i.history.memory (master_of q.address) i.history.dropped); matches = record { latest = refl; holds = (most, few) } }

  module _ (sized : (g : ℕ) → AllSized (size_of c.values g) (held_in i.history.files g)) (a : q.function ≡ 0x04) where
    acked_fine : acknowledges q ≡ true → Fine c l i mark q (finished i q (telling i (told_from c.values freed left q)))
    unfolding Fine told_from telling scanned finished changed_by
    acked_fine k =
        let rs = held_in left (file_of q) in
        let n = min (length rs) (most_of c.values (file_of q) (dumps q)) in
        let few = file-quantity c.values (file_of q) (dumps q) (length rs) in
        let most : n ≤ length rs = omega arith in
        let m = told_moved n (ltb n (length rs)) few most in
        let e = shown-told c q i mark n (ltb n (length rs)) rs (told_from c.values freed left q).memory freed a few most (sized_for i.history.memory i.history.files (master_of q.address) (file_of q) (sized (file_of q))) in
        as_shown (e ∙ ap (λ (x : Bool). told (master_of q.address) (file_of q) x (history_chars n (ltb n (length rs)) rs) (take n rs)) k) m

-- a repeat: the same records to the same master
abbrev holding : Core → Areas → Option HistoryReply → Files → List ℕ → Inner
holding k a w fs ns = record { core = k; areas = a; history = record { memory = w; files = fs; dropped = ns } }

pub same-master : (m n : Master) → is_of m n ≡ true → m ≡ n
same-master m n e = ap (λ (k : ℕ). record { 0 = k }) (eqb-true m.0 n.0 e)

agrees-names : (r : HistoryReply) (q : Request) → agrees r q ≡ true → (r.master ≡ master_of q.address) × (r.file.0 ≡ file_of q)
unfolding agrees
agrees-names r q e =
    let u = and_right (is_of r.master (master_of q.address)) (eqb r.file.0 (file_of q) && beq r.dump (dumps q)) e in
    let m = and_left (is_of r.master (master_of q.address)) (eqb r.file.0 (file_of q) && beq r.dump (dumps q)) e in
    (same-master r.master (master_of q.address) m, eqb-true r.file.0 (file_of q) (and_left (eqb r.file.0 (file_of q)) (beq r.dump (dumps q)) u))

module _ (c : Config) (l : Latest) (k : Core) (a : Areas) (fs : Files) (ns : List ℕ) (mark : Mark) (q : Request)
    (sized : (g : ℕ) → AllSized (size_of c.values g) (held_in fs g)) (function : q.function ≡ 0x04) (plain : acknowledges q ≡ false) where
  repeat_fine : (r : HistoryReply) → Matches (record { memory = Some r; files = fs; dropped = ns }) l → r.master ≡ master_of q.address → r.file.0 ≡ file_of q
      → Fine c l (holding k a (Some r) fs ns) mark q
      (finished (holding k a (Some r) fs ns) q (telling (holding k a (Some r) fs ns)
      (record { says = tells (history_chars r.quantity r.more (held_in fs r.file.0)); memory = Some r; change = stays })))
  unfolding Fine latest_after without telling scanned finished changed_by applied dropped_after
  repeat_fine r t em ef =
      let rs = take r.quantity (held_in fs r.file.0) in
      let e =
      shown-told c q (holding k a (Some r) fs ns) mark r.quantity r.more (held_in fs r.file.0) (Some r) stays function t.holds.1 t.holds.0
      (rw (← ef) (sized r.file.0)) in
      let zs = history_chars r.quantity r.more (held_in fs r.file.0) in
      let s : told (master_of q.address) (file_of q) (acknowledges q) zs rs ≡ told r.master r.file.0 false zs rs = rw (← em, ← ef, plain) in
      as_shown (e ∙ s)
      (record {
        repeats = λ again. t.latest ∙ ap (latest_after l) again;
        moved = λ g. unreleased fs g (released_repeat l r.master r.file.0 zs rs g);
        counted = λ g. refl;
        matches = record { latest = refl; holds = t.holds };
      })

  again_fine : (w : Option HistoryReply) → Matches (record { memory = w; files = fs; dropped = ns }) l
      → Fine c l (holding k a w fs ns) mark q (finished (holding k a w fs ns) q (telling (holding k a w fs ns) (again_when w fs q)))
  unfolding again_when
  again_fine None t = untold_fine c l (holding k a None fs ns) mark q t NothingAgain (omega arith)
  again_fine (Some r) t =
      by_cond {A = Told} (λ x. Fine c l (holding k a (Some r) fs ns) mark q (finished (holding k a (Some r) fs ns) q (telling (holding k a (Some r) fs ns) x))) (agrees r q)
      (λ e. let n = agrees-names r q e in repeat_fine r t n.0 n.1)
      (λ e. untold_fine c l (holding k a (Some r) fs ns) mark q t NothingAgain (omega arith))

module _ (c : Config) (l : Latest) (i : Inner) (mark : Mark) (t : Matches i.history l)
    (sized : (g : ℕ) → AllSized (size_of c.values g) (held_in i.history.files g)) where
  history_fine : (q : Request) → q.function ≡ 0x04 → Fine c l i mark q (finished i q (telling i (history_of c.files c.values i.history q)))
  unfolding history_of tell_of applied
  history_fine q a =
      let P : Told → Type 0 = λ x. Fine c l i mark q (finished i q (telling i x)) in
      by_cond P (ltb q.command 128)
      (λ e. by_cond P (counts 0 q)
      (λ e. by_cond P (has_file c.files (file_of q))
      (λ e. by_cond P (acknowledges q) (acked_fine c l i mark q t sized a)
      (λ n. again_fine c l i.core i.areas i.history.files i.history.dropped mark q sized a n i.history.memory t))
      (λ e. untold_fine c l i mark q t NotValid (omega arith)))
      (λ e. untold_fine c l i mark q t WrongCount (omega arith)))
      (λ e. untold_fine c l i mark q t Unknown (omega arith))

  -- the groups that a reply carried are none of it
  anew_fine : (q : Request) (m : Made) → Fine c l i mark q m → Fine c l i mark q (started_anew c q m)
  unfolding Fine
  anew_fine q m h = h

  served_fine : (lag : ℕ) (q : Request) → Fine c l i mark q (served c i lag q)
  unfolding served step_of broken_off scanned initialises
  served_fine lag q =
      let P : Stepped → Type 0 = λ m. Fine c l i mark q (finished i q m) in
      anew_fine q _
      (by_cond P (breaks i.core.hold q) (λ e. refused_fine c l i mark q t (broken_off i.core i.areas) (omega arith))
      (λ e. by_cond P (eqb q.function 0x04) (λ a. history_fine q (eqb-true _ _ a))
      (λ a. by_cond P (eqb q.function 0x20) (λ b. internal_fine c l i mark q t lag (eqb-true _ _ b))
      (λ b. keeps_fine c l i mark q t (other_of c i.core i.areas q) a (rw b)))))

  -- ---- any other stretch

  quiet_fine : (q : Request) (o : Answer) (k : Core) (a : Areas) → Fine c l i mark q (quiet o (record { core = k; areas = a; history = i.history }))
  unfolding Fine quiet sent_chars shown_for
  quiet_fine q o k a = still t refl

  broadcast_fine : (q : Request) (p : Step) → Fine c l i mark q (broadcast_made i p)
  unfolding broadcast_made
  broadcast_fine q p = quiet_fine q _ _ _

  framed_fine : (lag : ℕ) (q : Request) → Fine c l i mark q (framed c i lag q)
  unfolding framed
  framed_fine lag q =
      let P : Made → Type 0 = Fine c l i mark q in
      by_cond P (eqb (unit_of q.address) c.unit) (λ e. served_fine lag q)
      (λ e. by_cond P (eqb (unit_of q.address) broadcast_unit) (λ e. broadcast_fine q (broadcast_of c i.core i.areas lag q)) (λ e. quiet_fine q (Ended OtherUnit) i.core i.areas))

-- a pair: neither is of history, and the WRITE leaves it as it was
module _ (c : Config) (l : Latest) (i : Inner) (mark : Mark) (t : Matches i.history l)
    (sized : (g : ℕ) → AllSized (size_of c.values g) (held_in i.history.files g)) where
  beside_fine : (lag : ℕ) (q : Request) → q.function ≡ 0x20 → eqb q.command 0x00 ≡ false → Moved l i.history other never nothing (framed c i lag q).inner.history
  unfolding Fine initialises
  beside_fine lag q f e = rw (shown-beside c q (sent_chars mark (framed c i lag q).sent) (rw f) (rw (f, e))) at (framed_fine c l i mark t sized lag q)

module _ (c : Config) (l : Latest) (i : Inner) (mark : Mark) (t : Matches i.history l)
    (sized : (g : ℕ) → AllSized (size_of c.values g) (held_in i.history.files g)) where
  -- the EXECUTE finds the history that the WRITE found
  after_fine : (j : Inner) (lag : ℕ) (q : Request) → q.function ≡ 0x20 → q.command ≡ 0x31 → j.history ≡ i.history
      → Moved l i.history other never nothing (framed c j lag q).inner.history
  after_fine j lag q f k e =
      subst (λ (h : History). Moved l h other never nothing (framed c j lag q).inner.history) e (beside_fine c l j mark (rw e t) (λ g. rw e (sized g)) lag q f (rw k))

  pub judged_fine : (lag : ℕ) (s : List ℕ) → Moved l i.history (shown_in c s (heard_of s) (sent_chars mark (judged c i lag s (heard_of s)).sent)) never nothing (judged c i lag s (heard_of s)).inner.history
  unfolding Fine shown_in judged quiet request_in
  judged_fine lag s =
      by_heard s (λ h. Moved l i.history (shown_in c s h (sent_chars mark (judged c i lag s h).sent)) never nothing (judged c i lag s h).inner.history)
      (λ w. framed_fine c l i mark t sized lag (request_in (frame_in s) s)) (still t refl)
      (λ p. by_pair c i lag s _ _ p (λ m. Moved l i.history other never nothing m.inner.history)
      (λ o m. after_fine _ lag _ p.executes.0 p.executes.1 (ap (λ (z : Inner). z.history) m.inner))
      (λ e. beside_fine c l i mark t sized lag _ p.writes.0 (rw p.writes.1)))
      (still t refl)
