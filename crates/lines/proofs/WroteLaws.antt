-- Laws of Wrote: runs written one after the other are one run, wherever the room ends.
use mathlib.Core.Path.{◌≡◌, refl, sym, ap, ◌∙◌}
use Prim.Native.Nat.{ℕ, ◌+◌, ◌-◌, ◌≤◌, ◌<◌, min}
use native.Mathlib.Omega.{arith}
use mathlib.Core.List.{List, [], ◌++◌}
use lib.ListN.{length, get_or, length-append}
use lib.Seq.{take-append_seam}
use lib.Dec.{leb}
use borrow.Author.Tests.{leb-true, leb-false}
use Rattle.chars.specs.Put.{put, part}
use Rattle.chars.specs.Gather.{gather}
use Rattle.chars.proofs.PutLaws.{length-put, put-none, put_clipped, put-take, put_then, part_none, part-whole, front_more}
use Rattle.chars.proofs.GatherLaws.{gather-more}
use Rattle.lines.specs.declared.Page.{Page}
use Rattle.lines.specs.Wrote.{Wrote, Adds}
use Rattle.lines.proofs.Tests.{by_test}

pub wrote_none : (r : List ℕ) (at : ℕ) → Wrote r at [] r at
wrote_none r at = record { chars = sym (put-none r at); place = omega arith }

-- a run that ends past the room: what follows it is left out
past : (r₀ : List ℕ) (at : ℕ) (ys zs : List ℕ) → length r₀ - at ≤ length ys → put r₀ at ys ≡ put r₀ at (ys ++ zs)
past r₀ at ys zs h =
    ap (put r₀ at) (sym (take-append_seam ys zs)) ∙ put-take r₀ at (ys ++ zs) (length ys) (rw length-append (omega arith))

module _ {r₀ ys r : List ℕ} {at to : ℕ} (w : Wrote r₀ at ys r to) where
  pub wrote_long : length r ≡ length r₀
  wrote_long = ap length w.chars ∙ length-put r₀ at ys

  -- two runs, the second from where the first ended
  pub wrote_join : {zs r' : List ℕ} {to' : ℕ} → Wrote r to zs r' to' → Wrote r₀ at (ys ++ zs) r' to'
  wrote_join {zs} {r'} {to'} x =
      by_test
      (leb (length ys) (length r₀ - at))
      (λ e.
      let h : length ys ≤ length r₀ - at = leb-true _ _ e in
      record {
        chars = put_then r₀ r r' at to ys zs w.chars (omega (arith, w.place)) x.chars;
        place = rw length-append (omega (arith, w.place, x.place, wrote_long));
      })
      (λ e.
      let h : length r₀ - at < length ys = leb-false _ _ e in
      record {
        chars = x.chars ∙ put_clipped r to zs (omega (arith, w.place, wrote_long)) ∙ w.chars ∙ past r₀ at ys zs (omega arith);
        place = rw length-append (omega (arith, w.place, x.place, wrote_long));
      })

-- from the front on
pub wrote_all : {r₀ ys r : List ℕ} {to : ℕ} → Wrote r₀ 0 ys r to → (r ≡ put r₀ 0 ys) × (to ≡ min (length ys) (length r₀))
wrote_all w = (w.chars, omega (arith, w.place))

-- ---- pages

pub adds_none : (p : Page) → Adds p p []
adds_none p = record { same = refl; wrote = wrote_none p.out.now p.at }

pub adds_as : {p q : Page} {ys zs : List ℕ} → Adds p q ys → ys ≡ zs → Adds p q zs
adds_as w e = rw e at w

-- two runs, one after the other
pub adds_join : {p q r : Page} {ys zs : List ℕ} → Adds p q ys → Adds q r zs → Adds p r (ys ++ zs)
adds_join w x = record { same = x.same ∙ w.same; wrote = wrote_join w.wrote x.wrote }

-- what each of a run of numbers gives, one number a turn
module _ (f : ℕ → List ℕ) (ns : List ℕ) where
  pub gather_none : gather f (part ns 0 0) ≡ []
  unfolding gather
  gather_none = rw part_none

  pub adds_more : {p q r : Page} (i : ℕ) → i < length ns → Adds p q (gather f (part ns 0 i)) → Adds q r (f (get_or ns i 0)) → Adds p r (gather f (part ns 0 (i + 1)))
  adds_more i h w x = rw (front_more ns i h, gather-more) (adds_join w x)

  pub adds_gathered : {p q : Page} (i : ℕ) → i ≡ length ns → Adds p q (gather f (part ns 0 i)) → Adds p q (gather f ns)
  adds_gathered i e w = rw (part-whole ns i e) at w
