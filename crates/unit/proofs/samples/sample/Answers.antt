-- `unit::samples::sample` meets its contract. Assumes nothing.
use Rattle.std.proofs.Common.{refl}
use Rattle.model.specs.Run.{short}
use Rattle.layout.specs.Unit.{config_in}
use Rattle.layout.proofs.UnitLaws.{unit-long}
use Rattle.layout.specs.Kept.{owned_of}
use Rattle.serve.proofs.FitLaws.{judged-stands, judged-fits}
use Rattle.unit.specs.Samples.{Numeric}
use Rattle.unit.proofs.EventLaws.{event_away}
use Rattle.unit.proofs.SampleLaws.{mean_found, no_mean, at_place, event_no_mean, place_owes, event-sample}
use Rattle.unit.proofs.samples.sample.Goals as goal

pub take-requires : goal.take-requires
take-requires c =
    let x = owned_of c.args.unit.now c.args.block.now c.args.records.now in
    let long = unit-long x.unit c.told-unit in
    let j = c.fits.ensures in
    let t = c.if-not-fits.false in
    let mean = mean_found (config_in x.unit) c.args.number.0 c.place_of.ensures.value _ c.in-Some.is in
    rw mean.1 (place_owes x c.args.number long (judged-stands x refl refl j t) (judged-fits x refl refl j t) mean.0)

pub returns-then-not-fits : goal.returns-then-not-fits
unfolding short Numeric
returns-then-not-fits c = record { event_promise = event_away _ _ refl refl refl c.fits.ensures c.if-not-fits.true; numeric = tt }

pub returns-in_default : goal.returns-in_default
unfolding Numeric
returns-in_default c =
    let x = owned_of c.args.unit.now c.args.block.now c.args.records.now in
    let long = unit-long x.unit c.told-unit in
    let j = c.fits.ensures in
    let t = c.if-not-fits.false in
    record { event_promise = event_no_mean x c.args.number long (judged-stands x refl refl j t) (judged-fits x refl refl j t) (no_mean (config_in x.unit) c.args.number.0 c.place_of.ensures.value c.in_default.is); numeric = tt }

pub returns : goal.returns
unfolding Numeric
returns c =
    let x = owned_of c.args.unit.now c.args.block.now c.args.records.now in
    let long = unit-long x.unit c.told-unit in
    let j = c.fits.ensures in
    let t = c.if-not-fits.false in
    let mean = mean_found (config_in x.unit) c.args.number.0 c.place_of.ensures.value _ c.in-Some.is in
    let taken = c.take.ensures in
    record {
      event_promise = event-sample x c.args.number long (judged-stands x refl refl j t) (judged-fits x refl refl j t) mean.0
          (at_place mean.1 taken.take_promise);
      numeric = taken.number;
    }
