-- Function 04 as the step that it comes to. Assumes nothing.
use Rattle.std.specs.Prelude.{None}
use mathlib.Core.Path.{◌≡◌, refl, ap, ◌∙◌}
use Prim.Native.Nat.{ℕ, ◌≤◌}
use native.Mathlib.Omega.{arith}
use mathlib.Core.List.{List}
use mathlib.Core.Bool.{true}
use lib.ListN.{length, drop}
use Rattle.model.specs.Frame.{Request}
use Rattle.model.specs.History.{history_of}
use Rattle.model.specs.Step.{scanned, Stepped, telling}
use Rattle.model.specs.declared.Filled.{Filled}
use Rattle.layout.specs.Numbers.{port_in, readable}
use Rattle.layout.specs.Records.{files_in, packed}
use Rattle.history.specs.Tell.{ServePromise}
use Rattle.model.specs.Change.{Change}
use Rattle.history.specs.Change.{area_after, changes_samples}
use Rattle.history.proofs.LayoutLaws.{stays_untouched, cuts_untouched}
use Rattle.history.proofs.ChangeLaws.{told-cut}
use Rattle.layout.proofs.RecordsLaws.{packed-serves}
use Rattle.history.proofs.FitsLaws.{serves-told, serves_shifted, serves-files, serves-written, lent_unit}
use Rattle.serve.specs.declared.step.Step.{Step}
use Rattle.layout.specs.Unit.{Unit, unit_long, unit_in, config_in, numbers_in}
use Rattle.layout.specs.Kept.{areas_by, areas_in, files_held, history_in, inner_in, samples_held}
use Rattle.serve.proofs.TameLaws.{tame, history-says, told-short}
use Rattle.serve.specs.Promises.{Undropped, Ready, StepInPromise}
use Rattle.serve.proofs.KeptLaws.{steady-means}

-- what function 04 changes leaves what lies behind the records
told-behind : (u block area : List ℕ) (q : Request) → length u ≡ unit_long → Ready u area
    → drop (packed (config_in u)).room (area_after (packed (config_in u)) (history_of (config_in u).files (config_in u).values (history_in u area) q).change (unit_in u).counts area)
    ≡ drop (packed (config_in u)).room area
unfolding changes_samples
told-behind u block area q long y =
    let c = config_in u in
    let m = lent_unit u area y.fits y.room long in
    told-cut c (λ (ch : Change). drop (packed c).room (area_after (packed c) ch (unit_in u).counts area) ≡ drop (packed c).room area)
    ((stays_untouched c (packed c) area (unit_in u).counts).behind refl) (λ f at n. (cuts_untouched (packed-serves c) m f at n).behind refl) (inner_in u block area) q

pub acted-told : (u block area : List ℕ) (q : Request) {m : Stepped} (v : List ℕ) {entry exit area' : List ℕ} (t : Filled) {r : Step}
    → length u ≡ unit_long → Ready u area → readable (numbers_in u) ≡ true → ServePromise u q area entry t v area' exit
    → m ≡ telling (inner_in u block area) (history_of (config_in u).files (config_in u).values (history_in u area) q)
    → r ≡ record { outcome = t.outcome; action = None; count = t.count }
    → StepInPromise (config_in u) m (areas_in v block (samples_held u area)) (files_held u area) (files_in (config_in u) area' (unit_in v).counts) (port_in (numbers_in u)) (numbers_in v) area (unit_in u).counts area' (unit_in v).counts entry exit r
unfolding telling scanned
acted-told u block area q v t long y stands s z e =
    let w = serves-told u area y.fits y.room long q s in
    let f = serves-files u area y.fits y.room long q s in
    let k = serves-written u area y.fits y.room long q s stands in
    let ch = serves_shifted u area y.fits y.room long q s in
    let n : t.count ≤ 511 = omega (arith, told-short u area q y.valid, s.told.sent.counted) in
    rw (z, e)
    (record {
      acts = record {
        ended = w.ended;
        acted = refl;
        counted = w.sent.counted;
        written = w.sent.written;
        kept = k;
        areas = ap (λ (x : Unit). areas_by x block (samples_held u area)) s.left;
        tame = tame (history-says (config_in u).files (config_in u).values (history_in u area) q) (omega (arith, w.sent.counted));
      };
      files = f;
      changed = record { moved = ch.0; counted = ch.1; behind = λ _. ap (drop (packed (config_in u)).room) ch.0 ∙ told-behind u block area q long y };
    })

pub told-steady : (u v : List ℕ) {area entry area' exit : List ℕ} {q : Request} {t : Filled} → ServePromise u q area entry t v area' exit → Undropped u v
told-steady u v s = steady-means u v s.left refl refl refl refl s.long
