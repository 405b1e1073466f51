-- What an outcome has sent, and a reply laid round the data that stand in the buffer. Assumes nothing.
use mathlib.Core.Path.{◌≡◌, refl, sym, ap, ◌∙◌}
use Prim.Native.Nat.{ℕ, ◌+◌, ◌%◌}
use mathlib.Core.List.{List}
use mathlib.Core.Bool.{true, false}
use lib.ListN.{length}
use Rattle.chars.specs.Put.{put}
use Rattle.chars.proofs.PutLaws.{put-none}
use Rattle.model.specs.Frame.{Request}
use Rattle.model.specs.Outcome.{sending_of, reply_function}
use Rattle.model.specs.Step.{Said, silent, said, sent_as, answered, status_of}
use Rattle.model.specs.Port.{mark_number, port_status}
use Rattle.model.specs.declared.Core.{Core}
use Rattle.model.specs.declared.Mark.{Mark}
use Rattle.model.specs.declared.Mark.TheVariants.{Fine, Silent, Damaged}
use Rattle.model.specs.declared.Outcome.{Outcome}
use Rattle.model.specs.declared.Sending.{Sending}
use Rattle.model.specs.declared.Sending.TheVariants.{Normal, Nop, Rst, Unanswered}
use Rattle.model.specs.declared.Reply.{Reply}
use Rattle.model.proofs.Conditions.{false-true}
use Rattle.frames.specs.Framed.{framed_in}
use Rattle.layout.specs.Numbers.{numbers_of, mark_at, port_in, readable}
use Rattle.layout.proofs.NumbersLaws.{readable-written}
use Rattle.serve.specs.Ends.{replied_in, Replies, status_at}

-- ---- what is sent

-- to a request that found this core
abbrev pub said_of : Core → Request → Outcome → List ℕ → Said
said_of found q o ys = record { address = q.address; function = reply_function q.function o; status = status_of found; chars = ys }

pub said_when : (s : Sending) (r : Said) → answered s ≡ true → sent_as s r ≡ said r
unfolding sent_as answered
said_when Normal r e = refl
said_when Nop r e = refl
said_when Rst r e = refl
said_when Unanswered r e = false-true e

pub silent_when : (s : Sending) (r : Said) → answered s ≡ false → sent_as s r ≡ silent
unfolding sent_as answered
silent_when Normal r e = false-true (sym e)
silent_when Nop r e = false-true (sym e)
silent_when Rst r e = false-true (sym e)
silent_when Unanswered r e = refl

-- ---- the port's status by the number of its mark

status-marked : (m : Mark) → 0x54 + mark_number m % 4 ≡ port_status m
unfolding mark_number port_status
status-marked Fine = refl
status-marked Silent = refl
status-marked Damaged = refl

pub status-numbered : (ks : List ℕ) → readable ks ≡ true → status_at ks ≡ port_status (port_in ks).mark
unfolding numbers_of
status-numbered ks e =
    ap (λ (ls : List ℕ). 0x54 + mark_at ls % 4) (readable-written ks e).plain ∙ status-marked (port_in ks).mark

-- ---- head and check laid round the data, or nothing

module _ (entry : List ℕ) (o : Outcome) (head : Reply) where
  pub replies-said : {exit : List ℕ} {n : ℕ} (g : Reply) → answered (sending_of o) ≡ true → g ≡ head
      → (n ≡ length (framed_in entry g)) × (exit ≡ put entry 0 (framed_in entry g)) → Replies entry exit o head n
  unfolding replied_in
  replies-said g b e f = record {
    counted = f.0 ∙ ap (λ (h : Reply). length (framed_in entry h)) e ∙ sym (rw b);
    written = f.1 ∙ ap (λ (h : Reply). put entry 0 (framed_in entry h)) e ∙ sym (rw b);
  }

  pub replies-none : answered (sending_of o) ≡ false → Replies entry entry o head 0
  unfolding replied_in
  replies-none b = record { counted = sym (rw b); written = sym (rw b (put-none entry 0)) }
