-- `chars::rest` meets its contract. The invariant of its loop: as many characters went down as the digits below k count.
use mathlib.Core.Path.{◌≡◌, ap}
use Prim.Native.Nat.{◌+◌, ◌%◌, ◌^◌}
use native.Mathlib.Nat.{mod-one}
use native.Mathlib.Omega.{arith}
use Rattle.chars.proofs.DownLaws.{moved_none, moved_is, moved-room, moved_more, digit_more, digits-most}
use Rattle.chars.proofs.rest.Goals as goal

pub loop-k-init : goal.loop-k-init
loop-k-init c = moved_none _ _ _ _ (mod-one _)

pub digit-at-requires : goal.digit-at-requires
digit-at-requires c =
    let l = c.loop-k in
    let a = c.args in (
      omega arith,
      moved-room l.invariant _ (a.n % 2 ^ (l.k + 1)) (digit_more a.n l.k) (omega (arith, digits-most a.n (l.k + 1) (omega arith))),
    )

pub loop-k-preserved : goal.loop-k-preserved
loop-k-preserved c =
    let l = c.loop-k in
    let a = c.args in
    moved_more l.invariant _ (a.n % 2 ^ (l.k + 1)) _ _ (digit_more a.n l.k)
    (omega (arith, digits-most a.n (l.k + 1) (omega arith)))
    c.digit-at.ensures.0
    c.digit-at.ensures.1

pub returns : goal.returns
returns c =
    let l = c.loop-k in
    let n = c.args.n in
    let e : l.k ≡ 6 = omega arith in
    moved_is l.invariant (n % 64) (ap (λ k. n % 2 ^ k) e)
