-- `serve::line::stretch` meets its contract. Assumes nothing.
use mathlib.Core.Path.{refl}
use native.Mathlib.Omega.{arith}
use Prim.Native.Nat.{◌≤◌, ◌<◌}
use lib.ListN.{length}
use Rattle.layout.specs.Kept.{owned_of}
use Rattle.serve.proofs.FitLaws.{judged-stands, judged-fits, judged_unfit, stands_works}
use Rattle.serve.proofs.StretchLaws.{stretch-short, stretch_unfit, stretch_made}
use Rattle.serve.proofs.line.stretch.Goals as goal

pub returns-then-buffer-lt-LONGEST : goal.returns-then-buffer-lt-LONGEST
returns-then-buffer-lt-LONGEST c =
    let l : length c.args.buffer.now < 520 = omega arith in
    stretch-short _ _ _ c.args.buffer.now l c.quiet.ensures

pub judged-requires : goal.judged-requires
judged-requires c =
    let x = owned_of c.args.unit.now c.args.block.now c.args.records.now in
    let l : 520 ≤ length c.args.buffer.now = omega (arith, c.if-buffer-lt-LONGEST.false) in
    let j = c.fits.ensures in
    let t = c.if-fits.true in
    (l, stands_works x (judged-stands x refl refl j t) (judged-fits x refl refl j t))

pub returns-then-fits : goal.returns-then-fits
returns-then-fits c =
    let x = owned_of c.args.unit.now c.args.block.now c.args.records.now in
    let l : 520 ≤ length c.args.buffer.now = omega (arith, c.if-buffer-lt-LONGEST.false) in
    let j = c.fits.ensures in
    let t = c.if-fits.true in
    let stands = judged-stands x refl refl j t in
    let fits = judged-fits x refl refl j t in
    let g = stands_works x stands fits in
    let done = c.judged.ensures in
    stretch_made c.args.lag c.args.s.now x c.args.buffer.now _ _ stands l fits
    (done.0 g.ready g.numbers) done.1

pub returns : goal.returns
returns c =
    let x = owned_of c.args.unit.now c.args.block.now c.args.records.now in
    let l : 520 ≤ length c.args.buffer.now = omega (arith, c.if-buffer-lt-LONGEST.false) in
    stretch_unfit c.args.lag c.args.s.now x c.args.buffer.now l (judged_unfit x refl refl c.fits.ensures c.if-fits.false) c.quiet-2.ensures
