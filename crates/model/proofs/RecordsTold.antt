-- The records that a master reads in any history reply of a run are those that it carried. Assumes nothing.
use Prim.Native.Nat.{ℕ}
use mathlib.Core.Path.{◌≡◌, refl, sym, ap, ◌∙◌, subst}
use mathlib.Core.List.{List, [], ◌∷◌, ◌++◌}
use mathlib.Core.Bool.{Bool, true}
use lib.ListN.{take}
use native.Mathlib.Omega.{arith}
use Rattle.model.specs.Config.{Config, valid_of}
use Rattle.model.specs.State.{Files, fresh_of, held_in}
use Rattle.model.specs.History.{history_chars}
use Rattle.model.specs.Event.{Event}
use Rattle.model.specs.Run.{Entry, entry_of, trace_from, after, trace}
use Rattle.model.specs.Formed.{AllGiven}
use Rattle.model.specs.Fits.{memory_fits, reply_fits}
use Rattle.model.specs.Line.{told, shown, Latest, nobody, gave, latest_after, latest_from, latest_in}
use Rattle.model.specs.Demand3.{remembered_as}
use Rattle.model.specs.Believe.{records_told}
use Rattle.model.specs.declared.Master.{Master}
use Rattle.model.specs.declared.HistoryReply.{HistoryReply}
use Rattle.std.specs.Prelude.{None, Option, Some}
use Rattle.model.proofs.PartFits.{history-files, history-memory}
use Rattle.model.proofs.Valid.{run_fits}
use Rattle.model.proofs.Shape.{run_formed}
use Rattle.model.proofs.Damage.{trace_append}
use Rattle.model.proofs.Records.{remembered}
use Rattle.model.proofs.Stamps.{fitting-history, run_stamped}
use Rattle.model.proofs.TellsHistory.{file-room, reply-file, reply-records}

latest_append : (c : Config) (l : Latest) (xs ys : List Entry) → latest_from c l (xs ++ ys) ≡ latest_from c (latest_from c l xs) ys
unfolding latest_from
latest_append c l [] ys = refl
latest_append c l (x ∷ xs) ys = latest_append c (latest_after l (shown c x)) xs ys

-- the latest history reply, after one event more
latest-more : (c : Config) (es : List Event) (e : Event)
    → latest_in c (trace c (es ++ (e ∷ []))) ≡ latest_after (latest_in c (trace c es)) (shown c (entry_of c (after c es) e))
latest-more c es e =
    ap (latest_from c nobody) (trace_append c (fresh_of c) es (e ∷ [])) ∙ (latest_append c nobody (trace c es) (trace_from c (after c es) (e ∷ [])) ∙ (unfold trace_from latest_from in refl))

-- a reply that is remembered is the one that was given
same_data : {m : Master} {f : ℕ} {ys : List ℕ} {rs : List (List ℕ)} (t : HistoryReply) (fs : Files) → gave m f ys rs ≡ remembered_as (Some t) fs
    → (ys ≡ history_chars t.quantity t.more (held_in fs t.file.0)) × (rs ≡ take t.quantity (held_in fs t.file.0))
same_data t fs e = (cc, (cc))

module _ (c : Config) (valid : valid_of c ≡ true) (es : List Event) (all : AllGiven es) where
  abbrev fs : Files
  fs = (after c es).inner.history.files

  -- what the unit remembers at any time is read as the records that the line showed
  given-records : (w : Option HistoryReply) → (after c es).inner.history.memory ≡ w → {m : Master} {f : ℕ} {ys : List ℕ} {rs : List (List ℕ)} → gave m f ys rs ≡ remembered_as w fs
      → records_told ys ≡ rs
  given-records None k e = let z : ◌≡◌ {A = ℕ} 0 1 = cc in absurd (omega arith)
  given-records (Some t) k e =
      let h = (after c es).inner.history in
      let ok = fitting-history c (after c es) (run_fits c es valid all) in
      let r : reply_fits c fs t ≡ true = (unfold memory_fits in subst (λ (w : Option HistoryReply). memory_fits c fs w ≡ true) k (history-memory c h ok)) in
      let f = t.file.0 in
      let room = file-room c fs (history-files c h ok) f (reply-file c fs t r) in
      let d = same_data t fs e in
      ap records_told d.0 ∙ (reply-records c valid fs t r room ((run_formed c es).records f) (run_stamped c es f valid all) ∙ sym d.1)

-- THE THEOREM: of a valid configuration, in any run
pub told-records : (c : Config) → valid_of c ≡ true → (es : List Event) (e : Event) → AllGiven (es ++ (e ∷ []))
    → {m : Master} {f : ℕ} {a : Bool} {ys : List ℕ} {rs : List (List ℕ)} → shown c (entry_of c (after c es) e) ≡ told m f a ys rs → records_told ys ≡ rs
told-records c valid es e all {m} {f} {a} {ys} {rs} h =
    let l : latest_in c (trace c (es ++ (e ∷ []))) ≡ gave m f ys rs = latest-more c es e ∙ (ap (latest_after (latest_in c (trace c es))) h ∙ (unfold latest_after in refl)) in
    given-records c valid (es ++ (e ∷ [])) all (after c (es ++ (e ∷ []))).inner.history.memory refl (sym l ∙ remembered c (es ++ (e ∷ [])))
