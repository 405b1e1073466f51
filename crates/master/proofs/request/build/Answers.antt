-- `master::request::build` meets its contract, a return for each way in which it ends. Assumes nothing.
use mathlib.Core.Path.{sym, ◌∙◌}
use native.Mathlib.Omega.{arith}
use Rattle.model.specs.Poll.{Wish}
use Rattle.master.specs.Polled.{address_in}
use Rattle.master.proofs.BuildLaws.{built_short, built_unranged, lays_none, lays_poll, lays_other, wish_short, wish_history}
use Rattle.master.proofs.request.build.Goals as goal
use Rattle.master.proofs.request.build.Goals.{then-buffer-lt-LONGEST-via-then-buffer-lt-LONGEST, then-buffer-lt-LONGEST-via-else-buffer-lt-LONGEST+then-not-in_range}

pub returns-then-buffer-lt-LONGEST : goal.returns-then-buffer-lt-LONGEST
returns-then-buffer-lt-LONGEST c =
    elim c.then-buffer-lt-LONGEST.branch [
      | then-buffer-lt-LONGEST-via-then-buffer-lt-LONGEST w ↦ built_short _ _ _ _ w.if-buffer-lt-LONGEST.true
      | then-buffer-lt-LONGEST-via-else-buffer-lt-LONGEST+then-not-in_range w ↦
          built_unranged _ _ _ _ w.if-buffer-lt-LONGEST.false (sym w.in_range.ensures ∙ w.if-not-in_range.true)
    ]

pub build_poll-requires : goal.build_poll-requires
unfolding address_in
build_poll-requires c =
    let s = c.args in
    let w : Wish = record { all = s.all; function = s.function; command = s.command; body = s.body.now } in
    let k = wish_history s.poll.now s.buffer.now s.room w (omega arith) (sym c.in_range.ensures ∙ c.if-not-in_range.false) _ c.word_at-address.ensures _ _ c.address_for.ensures c.new-frame.ensures _ c.may_ask.ensures c.if-not-may_ask.false c.if-function-eq4.true in
    (k.0, k.1, omega arith)

pub returns-then-function-eq4 : goal.returns-then-function-eq4
unfolding address_in
returns-then-function-eq4 c =
    let s = c.args in
    let w : Wish = record { all = s.all; function = s.function; command = s.command; body = s.body.now } in
    lays_poll s.poll.now s.buffer.now s.room w (omega arith) (sym c.in_range.ensures ∙ c.if-not-in_range.false) _ c.word_at-address.ensures _ _ c.address_for.ensures c.new-frame.ensures _ c.may_ask.ensures c.if-not-may_ask.false _ _ _ c.if-function-eq4.true c.build_poll.ensures

pub build_other-requires : goal.build_other-requires
unfolding address_in
build_other-requires c =
    let s = c.args in
    let w : Wish = record { all = s.all; function = s.function; command = s.command; body = s.body.now } in
    let k = wish_short s.poll.now s.buffer.now s.room w (omega arith) (sym c.in_range.ensures ∙ c.if-not-in_range.false) _ c.word_at-address.ensures _ _ c.address_for.ensures c.new-frame.ensures _ c.may_ask.ensures c.if-not-may_ask.false in
    (k, omega arith)

pub returns-else-function-eq4 : goal.returns-else-function-eq4
unfolding address_in
returns-else-function-eq4 c =
    let s = c.args in
    let w : Wish = record { all = s.all; function = s.function; command = s.command; body = s.body.now } in
    lays_other s.poll.now s.buffer.now s.room w (omega arith) (sym c.in_range.ensures ∙ c.if-not-in_range.false) _ c.word_at-address.ensures _ _ c.address_for.ensures c.new-frame.ensures _ c.may_ask.ensures c.if-not-may_ask.false _ _ _ c.if-function-eq4.false c.build_other.ensures

pub returns-then-not-may_ask : goal.returns-then-not-may_ask
unfolding address_in
returns-then-not-may_ask c =
    let s = c.args in
    let w : Wish = record { all = s.all; function = s.function; command = s.command; body = s.body.now } in
    lays_none s.poll.now s.buffer.now s.room w (omega arith) (sym c.in_range.ensures ∙ c.if-not-in_range.false) _ c.word_at-address.ensures _ _ c.address_for.ensures c.new-frame.ensures _ c.may_ask.ensures c.if-not-may_ask.true
