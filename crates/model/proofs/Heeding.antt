-- What asking and hearing change in a master: what is believed and what is not, and when the acknowledge bit is free. Assumes nothing.
use Prim.Native.Nat.{ℕ, ◌<◌}
use mathlib.Core.Path.{◌≡◌, refl, sym, ◌∙◌}
use mathlib.Core.Logic.{◌⊎◌, inl, inr}
use mathlib.Core.List.{List, [], ◌∷◌}
use mathlib.Core.Bool.{Bool, true, false, not, ◌&&◌}
use lib.Dec.{eqb, leb}
use native.Mathlib.Omega.{arith}
use Rattle.chars.specs.Word.{word_at}
use Rattle.model.specs.Limits.{most_data}
use Rattle.model.specs.Frame.{Request, unit_of, broadcast_unit, checked}
use Rattle.model.specs.History.{dumps, file_of}
use Rattle.model.specs.Ask.{askable}
use Rattle.model.specs.Line.{data_of}
use Rattle.model.specs.Poll.{
  Waiting,
  nothing,
  history,
  another,
  Last,
  Polling,
  fresh_polling,
  polls,
  turns,
  Wish,
  wished,
  Built,
  unbuilt,
  built_poll,
  builds,
  whole_reply,
  read_over,
  read_when,
  reads,
  doubts,
  believes,
  takes,
  believed,
  passes,
  polled_when,
  reading,
  records_kept,
  kept_when,
  received,
}
use Rattle.model.specs.Understood.{InFiles}
use Rattle.model.specs.Turns.{
  SameLatest,
  OnlyMarked,
  AsksOnly,
  Believes,
  Turn,
  asking,
  hearing,
  after_turn,
  after_turns,
}
use Rattle.model.specs.declared.Read.{Read}
use Rattle.model.specs.declared.Read.TheVariants.{Normal, NotWhole, CheckWrong, OtherAddress, OtherFunction, NoSuchData, Nop, Rst}
use Rattle.model.proofs.Conditions.{by_cond, false-true}

-- ---- asking

module _ (a : ℕ) (m : Polling) (room : ℕ) (w : Wish) where
  After : (Polling → Type 0) → Built → Type 0
  After P b = P b.polling

  abbrev some : Bool
  some = not (eqb (unit_of a) broadcast_unit) && askable (wished a w)

  -- what all that may be built leaves
  by_built : (P : Polling → Type 0) → P m → P (polls m (file_of (wished a w)) (dumps (wished a w))) → ((q : Request) → P (turns m q)) → P (builds a m room w).polling
  unfolding After builds built_poll unbuilt
  by_built P h p t =
      by_cond (After P) some
      (λ e. by_cond (After P) (eqb w.function 0x04) (λ e. by_cond (After P) (leb most_data room) (λ e. p) (λ e. h)) (λ e. t (wished a w)))
      (λ e. h)

  by_other : (P : Polling → Type 0) → eqb w.function 0x04 ≡ false → P m → ((q : Request) → P (turns m q)) → P (builds a m room w).polling
  unfolding After builds unbuilt
  by_other P o h t =
      by_cond (After P) some (λ e. by_cond (After P) (eqb w.function 0x04) (λ e. false-true (sym o ∙ e)) (λ e. t (wished a w))) (λ e. h)

  pub asks_only : AsksOnly a m room w
  unfolding polls turns
  asks_only =
      record {
        kept = by_built (λ n. n.kept ≡ m.kept) refl refl (λ q. refl);
        retry = by_built (λ n. n.retry ≡ m.retry) refl refl (λ q. refl);
        latest = λ o. by_other (SameLatest m) o (record { file = refl; dump = refl; bit = refl }) (λ q. record { file = refl; dump = refl; bit = refl });
        free = λ o. by_other (λ n. n.free ≡ m.free) o refl (λ q. refl);
      }

  asks-files : InFiles m → InFiles (builds a m room w).polling
  unfolding polls turns file_of
  asks-files h = by_built InFiles h (by_cond (λ x. x < 32) m.free (λ e. omega arith) (λ e. h)) (λ q. h)

-- ---- hearing

unasked : (a : ℕ) (m : Polling) (r : List ℕ) → m.waiting ≡ nothing → believed (reads a m r) ≡ false
unfolding reads read_when read_over believed
unasked a m r e =
    let P : Read → Type 0 = λ x. believed x ≡ false in
    rw e
    (by_cond P (whole_reply r) (λ e. by_cond P (checked r) (λ e. by_cond P (eqb (word_at r 0) a) (λ e. refl) (λ e. refl)) (λ e. refl)) (λ e. refl))

module _ (m : Polling) (ys : List ℕ) where
  doubts-latest : SameLatest m (doubts m)
  unfolding doubts
  doubts-latest = record { file = refl; dump = refl; bit = refl }

  Doubted : Polling → List (List ℕ) → Type 0
  Doubted n rs = OnlyMarked m n × (rs ≡ [])

  doubts-marked : Doubted (doubts m) []
  unfolding Doubted doubts
  doubts-marked = (record { latest = unfold doubts in doubts-latest; free = refl; waiting = refl; kept = refl; retry = refl }, refl)

  takes-doubted : (x : Read) → believed x ≡ false → Doubted (takes m ys x) (records_kept m ys x)
  unfolding believed takes records_kept
  takes-doubted Normal e = false-true (sym e)
  takes-doubted NotWhole e = doubts-marked
  takes-doubted CheckWrong e = doubts-marked
  takes-doubted OtherAddress e = doubts-marked
  takes-doubted OtherFunction e = doubts-marked
  takes-doubted NoSuchData e = doubts-marked
  takes-doubted Nop e = false-true (sym e)
  takes-doubted Rst e = false-true (sym e)

  when_doubted : (w : Waiting) (x : Read) → believed x ≡ false → Doubted (polled_when w m ys x) (kept_when w m ys x)
  unfolding polled_when kept_when passes
  when_doubted nothing x e = doubts-marked
  when_doubted history x e = takes-doubted x e
  when_doubted (another q) x e = rw e doubts-marked

  Cleared : Polling → Type 0
  Cleared n = (n.retry ≡ false) × (n.waiting ≡ nothing)

  takes-cleared : (x : Read) → believed x ≡ true → Cleared (takes m ys x)
  unfolding Cleared believed takes believes
  takes-cleared Normal e = (refl, refl)
  takes-cleared NotWhole e = false-true e
  takes-cleared CheckWrong e = false-true e
  takes-cleared OtherAddress e = false-true e
  takes-cleared OtherFunction e = false-true e
  takes-cleared NoSuchData e = false-true e
  takes-cleared Nop e = (refl, refl)
  takes-cleared Rst e = (refl, refl)

  when_cleared : (w : Waiting) (x : Read) → (w ≡ nothing → believed x ≡ false) → believed x ≡ true → Cleared (polled_when w m ys x)
  unfolding Cleared polled_when passes believes
  when_cleared nothing x u e = false-true (sym (u refl) ∙ e)
  when_cleared history x u e = takes-cleared x e
  when_cleared (another q) x u e = rw e (refl, refl)

  believes-latest : (free : Bool) (kept : Last) → SameLatest m (believes m free kept)
  unfolding believes
  believes-latest free kept = record { file = refl; dump = refl; bit = refl }

  takes-latest : (x : Read) → SameLatest m (takes m ys x)
  unfolding takes
  takes-latest Normal = believes-latest _ _
  takes-latest NotWhole = doubts-latest
  takes-latest CheckWrong = doubts-latest
  takes-latest OtherAddress = doubts-latest
  takes-latest OtherFunction = doubts-latest
  takes-latest NoSuchData = doubts-latest
  takes-latest Nop = believes-latest _ _
  takes-latest Rst = believes-latest _ _

  when_latest : (w : Waiting) (x : Read) → SameLatest m (polled_when w m ys x)
  unfolding polled_when passes
  when_latest nothing x = doubts-latest
  when_latest history x = takes-latest x
  when_latest (another q) x = by_cond (SameLatest m) (believed x) (λ e. believes-latest _ _) (λ e. doubts-latest)

  when_frees : (w : Waiting) (x : Read) → w ≡ history → (x ≡ Normal) ⊎ (x ≡ Nop) → (polled_when w m ys x).free ≡ true
  unfolding polled_when takes believes
  when_frees w x e (inl k) = rw (e, k) refl
  when_frees w x e (inr k) = rw (e, k) refl

  when_reset : (w : Waiting) (x : Read) → w ≡ history → x ≡ Rst → (polled_when w m ys x).free ≡ false
  unfolding polled_when takes believes
  when_reset w x e k = rw (e, k) refl

  Beside : Polling → List (List ℕ) → Type 0
  Beside n rs = (n.free ≡ m.free) × (n.kept ≡ m.kept) × (rs ≡ [])

  passes-beside : (x : Read) → Beside (passes m x) []
  unfolding Beside passes believes doubts
  passes-beside x = by_cond (λ n. Beside n []) (believed x) (λ e. (unfold Beside in (refl, refl, refl))) (λ e. (unfold Beside in (refl, refl, refl)))

  when_beside : (w : Waiting) (x : Read) → (w ≡ history → ⊥) → Beside (polled_when w m ys x) (kept_when w m ys x)
  unfolding Beside polled_when kept_when doubts
  when_beside nothing x h = (refl, refl, refl)
  when_beside history x h = absurd (h refl)
  when_beside (another q) x h = passes-beside x

-- THE THEOREM: what is not believed changes nothing but the retry mark, what is believed clears it, and when the acknowledge bit is free
pub believes-reply : (a : ℕ) (m : Polling) (r : List ℕ) → Believes a m r
unfolding reading received Doubted Cleared Beside
believes-reply a m r =
    let ys = data_of r in
    let w = m.waiting in
    let x = reads a m r in
    record {
      doubted = when_doubted m ys w x;
      cleared = when_cleared m ys w x (unasked a m r);
      latest = when_latest m ys w x;
      frees = when_frees m ys w x;
      reset = when_reset m ys w x;
      beside = when_beside m ys w x;
    }

-- from fresh on, the master's file is one
turn-files : (a : ℕ) (m : Polling) (t : Turn) → InFiles m → InFiles (after_turn a m t)
unfolding after_turn
turn-files a m (asking room w) h = asks-files a m room w h
turn-files a m (hearing r) h = omega (arith, (believes-reply a m r).latest.file)

turns-files : (a : ℕ) (m : Polling) (ts : List Turn) → InFiles m → InFiles (after_turns a m ts)
unfolding after_turns
turns-files a m [] h = h
turns-files a m (t ∷ ts) h = turns-files a (after_turn a m t) ts (turn-files a m t h)

pub reached_files : (a : ℕ) (ts : List Turn) → InFiles (after_turns a fresh_polling ts)
unfolding fresh_polling
reached_files a ts = turns-files a fresh_polling ts (omega arith)
