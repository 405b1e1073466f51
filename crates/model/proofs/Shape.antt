-- The lists that a unit keeps have their lengths in every run: the areas, the files, and each file's records. Assumes nothing.
use Prim.Native.Nat.{ℕ, zero, suc, ◌+◌, ◌*◌, ◌<◌}
use mathlib.Core.Path.{◌≡◌, refl, ap, ◌∙◌}
use mathlib.Core.List.{List, [], ◌∷◌, ◌++◌}
use lib.ListN.{length, take, drop, take-append-drop, length-set}
use lib.Dec.{eqb, ltb}
use native.Mathlib.Omega.{arith}
use borrow.Author.Tests.{eqb-true, ltb-true}
use Rattle.chars.specs.Word.{word}
use Rattle.chars.proofs.WordLaws.{length-word}
use Rattle.chars.proofs.GatherLaws.{gather-each}
use Rattle.model.specs.Frame.{Request, master_of}
use Rattle.model.specs.Config.{Config, has_file, size_of}
use Rattle.model.specs.State.{Areas, History, State, held_in, fresh_areas, fresh_history, fresh_of}
use Rattle.model.specs.Change.{stays, cuts, adds, swaps, applied, dropped_after, changed_by}
use Rattle.model.specs.Means.{values_after, areas_sampled}
use Rattle.model.specs.Control.{is_of}
use Rattle.model.specs.History.{freed_for, told_from, record_chars, spared_in}
use Rattle.model.specs.Event.{Event}
use Rattle.model.specs.Step.{make_of}
use Rattle.model.specs.Run.{moves, next_of, after}
use Rattle.model.specs.Formed.{AllSized, none, one, Formed}
use Rattle.model.specs.declared.Sampled.{Sampled}
use Rattle.model.specs.declared.Sampled.TheVariants.{Ready, NotReady}
use Rattle.model.specs.declared.Master.{Master}
use Rattle.model.specs.declared.Record.{Record}
use Rattle.std.specs.Prelude.{None, Option, Some}
use Rattle.model.specs.declared.HistoryReply.{HistoryReply}
use Rattle.model.proofs.Conditions.{by_cond, and_left}
use Rattle.model.proofs.FileLaws.{held-store, held_cut, length-store, length_cut, held_none, told_after, new_told, TakenIn, stored-kept, stored-swapped}
use Rattle.model.proofs.Parts.{Parts, InnerHas, Lasts, make_has}
use Rattle.model.proofs.Runs.{by_next, by_run}

-- ---- records of one size

pub sized_append : {n : ℕ} {xs ys : List (List ℕ)} → AllSized n xs → AllSized n ys → AllSized n (xs ++ ys)
sized_append none k = k
sized_append (one e h) k = one e (sized_append h k)

pub sized_front : {n : ℕ} (k : ℕ) {rs : List (List ℕ)} → AllSized n rs → AllSized n (take k rs)
sized_front zero h = none
sized_front (suc k) none = none
sized_front (suc k) (one e h) = one e (sized_front k h)

pub sized-rest : {n : ℕ} (xs : List (List ℕ)) {ys : List (List ℕ)} → AllSized n (xs ++ ys) → AllSized n ys
sized-rest [] h = h
sized-rest (x ∷ xs) (one e h) = sized-rest xs h

sized-back : {n : ℕ} (k : ℕ) {rs : List (List ℕ)} → AllSized n rs → AllSized n (drop k rs)
sized-back k {rs} h = sized-rest (take k rs) (rw (take-append-drop k rs) h)

-- a record of v values has 6 + 2v characters
pub length_record : (r : Record) (vs : List ℕ) → length (record_chars r vs) ≡ 6 + 2 * length vs
unfolding record_chars
length_record r vs = omega (arith, gather-each word 2 length-word vs)

-- ---- the history

record HistoryFormed (c : Config) (h : History) : Type 0 where
  files : length h.files ≡ 32
  dropped : length h.dropped ≡ 32
  records : (f : ℕ) → AllSized (size_of c.values f) (held_in h.files f)

module _ (c : Config) where
  -- what is left of a file after a cut is sized as before
  cut_formed : (h : History) (m : Option HistoryReply) (f at n : ℕ) → HistoryFormed c h → HistoryFormed c (changed_by (cuts f at n) m h)
  unfolding changed_by applied dropped_after
  cut_formed h m f at n k =
      record {
        files = length_cut h.files f at n ∙ k.files;
        dropped = k.dropped;
        records =
            λ g.
            rw (held_cut h.files f g at n)
            (by_cond (AllSized (size_of c.values g)) (eqb f g)
            (λ b. let s = rw (← eqb-true f g b) at (k.records g) in rw (← eqb-true f g b) (sized_append (sized_front at s) (sized-back (at + n) s)))
            (λ b. k.records g));
      }

  stays_formed : (h : History) (m : Option HistoryReply) → HistoryFormed c h → HistoryFormed c (changed_by stays m h)
  unfolding changed_by applied dropped_after
  stays_formed h m k = record { files = k.files; dropped = k.dropped; records = k.records }

  freed_formed : (w : Option HistoryReply) (h : History) (p : Master) (m : Option HistoryReply) → HistoryFormed c h → HistoryFormed c (changed_by (freed_for w p) m h)
  unfolding freed_for
  freed_formed None h p m k = stays_formed h m k
  freed_formed (Some t) h p m k =
      by_cond (λ ch. HistoryFormed c (changed_by ch m h)) (is_of t.master p) (λ e. cut_formed h m t.file.0 0 t.quantity k) (λ e. stays_formed h m k)

  told_formed : (h : History) (q : Request) → HistoryFormed c h → HistoryFormed c (told_after h (new_told c h q))
  unfolding told_from
  told_formed h q k = freed_formed h.memory h (master_of q.address) _ k

  -- a record that is kept has its file's size
  taken-sized : (f : ℕ) (r : Record) (vs : List ℕ) → TakenIn c f (length vs) → length (record_chars r vs) ≡ size_of c.values f
  unfolding size_of
  taken-sized f r vs t = omega (arith, length_record r vs, t.counted)

  pub taken_there : {m : ℕ} (f n : ℕ) → m ≡ 32 → TakenIn c f n → f < m
  unfolding has_file
  taken_there f n k t = let h = ltb-true f 32 (and_left (ltb f 32) _ t.equipped) in omega arith

  taken_formed : (h : History) (f : ℕ) (r : Record) (vs : List ℕ) → TakenIn c f (length vs) → HistoryFormed c h → HistoryFormed c (changed_by (adds f (record_chars r vs)) h.memory h)
  unfolding changed_by applied dropped_after
  taken_formed h f r vs t k =
      record {
        files = length-store h.files f (record_chars r vs) ∙ k.files;
        dropped = k.dropped;
        records =
            λ g.
            rw (held-store h.files f g (record_chars r vs) (taken_there f (length vs) k.files t))
            (sized_append (k.records g)
            (by_cond (AllSized (size_of c.values g)) (eqb f g)
            (λ b. one (taken-sized f r vs t ∙ ap (size_of c.values) (eqb-true f g b)) none)
            (λ b. none)));
      }

  -- a swap is a cut and an addition, and counts a drop
  swapped_formed : (h : History) (f at : ℕ) (r : Record) (vs : List ℕ) → TakenIn c f (length vs) → HistoryFormed c h → HistoryFormed c (changed_by (swaps f at (record_chars r vs)) h.memory h)
  unfolding changed_by applied dropped_after
  swapped_formed h f at r vs t k =
      let z = taken_formed (changed_by (cuts f at 1) h.memory h) f r vs t (cut_formed h h.memory f at 1 k) in
      record { files = z.files; dropped = length-set h.dropped f _ ∙ k.dropped; records = z.records }

-- ---- the whole, part by part

record AreasFormed (a : Areas) : Type 0 where
  words : length a.words ≡ 256
  values : length a.values ≡ 128
  fixed : length a.fixed ≡ 528
  changed : length a.changed ≡ 32
  samples : length a.samples ≡ 16

after-long : (vs : List ℕ) (n : ℕ) (s : Sampled) → length (values_after vs n s) ≡ length vs
unfolding values_after
after-long vs n (Ready x) = length-set vs n _
after-long vs n (NotReady m) = refl

sampled_formed : (c : Config) (a : Areas) (n : ℕ) → AreasFormed a → AreasFormed (areas_sampled c a n)
unfolding areas_sampled
sampled_formed c a n h =
    record { words = h.words; values = after-long a.values n _ ∙ h.values; fixed = h.fixed; changed = h.changed; samples = length-set a.samples _ _ ∙ h.samples }

abbrev forming : Config → Parts
forming c =
    record {
      clock = λ k. Unit {0};
      hold = λ h. Unit {0};
      write = λ w. Unit {0};
      areas = AreasFormed;
      history = HistoryFormed c;
      request = λ q. Unit {0};
      event = λ e. Unit {0};
    }

forming_lasts : (c : Config) → Lasts c (forming c)
forming_lasts c =
    record {
      heard = λ s q g e. tt;
      set-time = λ lag k q h. tt;
      clock-after = λ k ms h. tt;
      free = tt;
      control = λ h q g k. tt;
      held_after = λ h ms k. tt;
      no_write = tt;
      write = λ w q g k. tt;
      waits-after = λ w ms k. tt;
      leaves = λ a b s r h. record { words = s.words ∙ h.words; values = ap length s.values ∙ h.values; fixed = s.fixed ∙ h.fixed; changed = s.changed ∙ h.changed; samples = ap length s.samples ∙ h.samples };
      valued = λ a n v g e h. record { words = h.words; values = length-set a.values n.0 v ∙ h.values; fixed = h.fixed; changed = h.changed; samples = h.samples };
      sampled = λ a n g e h. sampled_formed c a n.0 h;
      told = λ h q g e k. told_formed c h q k;
      forgotten = λ h k. stays_formed c h _ k;
      kept = λ h f r vs e k. taken_formed c h f r vs (stored-kept c h f vs e).taken k;
      swapped = λ h f r vs e k. swapped_formed c h f (spared_in h.memory f) r vs (stored-swapped c h f vs e).taken k;
    }

formed_inner : (c : Config) (s : State) → Formed c s → InnerHas (forming c) s.inner
formed_inner c s f =
    record {
      core = record { clock = tt; hold = tt; write = tt };
      areas = record { words = f.words; values = f.values; fixed = f.fixed; changed = f.changed; samples = f.samples };
      history = record { files = f.files; dropped = f.dropped; records = f.records };
    }

inner_formed : (c : Config) (s : State) → InnerHas (forming c) s.inner → Formed c s
inner_formed c s i =
    record {
      words = i.areas.words;
      values = i.areas.values;
      fixed = i.areas.fixed;
      changed = i.areas.changed;
      samples = i.areas.samples;
      files = i.history.files;
      dropped = i.history.dropped;
      records = i.history.records;
    }

pub fresh_formed : (c : Config) → Formed c (fresh_of c)
unfolding fresh_of fresh_areas fresh_history
fresh_formed c =
    record {
      words = refl;
      values = refl;
      fixed = refl;
      changed = refl;
      samples = refl;
      files = refl;
      dropped = refl;
      records = λ f. rw (held_none 32 f) none;
    }

moved_formed : (c : Config) (s : State) (e : Event) → Formed c s → Formed c (moves s.port e (make_of c s.inner e))
unfolding moves
moved_formed c s e f = inner_formed c _ (make_has c (forming c) (forming_lasts c) s.inner (formed_inner c s f) e tt)

-- an event keeps the lengths, whatever it carries and whether the unit fits or not
pub step_formed : (c : Config) (s : State) (e : Event) → Formed c s → Formed c (next_of c s e)
step_formed c s e f = by_next (Formed c) c s e f (λ b. moved_formed c s e f)

pub run_formed : (c : Config) (es : List Event) → Formed c (after c es)
run_formed c es = by_run (λ xs. Formed c) c (λ s e xs f. step_formed c s e f) (fresh_of c) es (fresh_formed c)
