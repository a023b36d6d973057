-- Each move goes one further, and adds the place from which it was made.
use Rattle.std.proofs.Common.{◌≡◌, ◌∙◌, sym, ap, refl, arith, false, []}
use Rattle.qil_semantics.specs.Timeline.{forward, at_end}
use Rattle.qil_counts.specs.Counts.{is_filled}
use Rattle.qil_replies.specs.SessionState.{session_at}
use Rattle.qil_session.proofs.MoveAnswers.{step_wants}
use Rattle.qil_session.proofs.AccessAnswers.{either_goes, either_room, forward_once, forward_none}
use Rattle.qil_session.proofs.CountAnswers.{counted_few, counted_none, counted_more, counted_position, counts_enough, counts_all, counts_short, here_at}
use Rattle.qil_session.proofs.counting.count_moves.Goals as goal

pub loop-init : goal.loop-init
loop-init g c = record {
  program = refl;
  way = λ stops limit. counted_none (session_at g.H.Runs.wants_memory (g.H.Runs.program c.args.history.now) (g.H.Runs.timeline c.args.history.now) stops limit) c.args.table.now c.requires.unmet;
}

pub returns-then-is_counted-clause-counted : goal.returns-then-is_counted-clause-counted
returns-then-is_counted-clause-counted g c = λ stops limit.
    counts_enough (session_at g.H.Runs.wants_memory (g.H.Runs.program c.args.history.now) (g.H.Runs.timeline c.args.history.now) stops limit) c.args.moves c.loop.counter
    (g.H.Runs.timeline c.loop.history) c.loop.table (c.loop.invariant.way stops limit) c.loop-test.true (sym c.is_counted.ensures ∙ c.if-is_counted.true)

pub forward_by-requires : goal.forward_by-requires
forward_by-requires g c =
    let at = counted_position (session_at g.H.Runs.wants_memory (g.H.Runs.program c.args.history.now) (g.H.Runs.timeline c.args.history.now) (record { given = 0; kept = [] }) 0) c.loop.counter
    (g.H.Runs.timeline c.loop.history) c.loop.table (c.loop.invariant.way (record { given = 0; kept = [] }) 0) in
    omega (arith, at, c.requires.before, c.loop-test.true)

pub returns-in-Err-clause-counted : goal.returns-in-Err-clause-counted
returns-in-Err-clause-counted g c = λ stops limit.
    let m = c.in-Err.ensures.moved in
    let now = g.H.Runs.timeline c.loop.history in
    counts_short (session_at g.H.Runs.wants_memory (g.H.Runs.program c.args.history.now) (g.H.Runs.timeline c.args.history.now) stops limit) c.args.moves c.loop.counter
    now (g.H.Runs.timeline c.forward_by.new.self) c.loop.table (c.loop.invariant.way stops limit) c.loop-test.true (sym c.is_counted.ensures ∙ c.if-is_counted.false)
    (step_wants g.H.Runs.wants_memory c.forward_by.result tt c.in-Err._made c.forward_by.ensures.spared c.in-Err.is)
    (m.1 ∙ forward_none (g.H.Runs.program c.loop.history) c.in-Err._made now m.0)

pub add-requires-clause-room : goal.add-requires-clause-room
add-requires-clause-room g c = either_room (at_end (g.H.Runs.timeline c.loop.history)) (is_filled c.loop.table) (sym c.is_counted.ensures ∙ c.if-is_counted.false)

pub add-requires-clause-few : goal.add-requires-clause-few
add-requires-clause-few g c =
    counted_few (session_at g.H.Runs.wants_memory (g.H.Runs.program c.args.history.now) (g.H.Runs.timeline c.args.history.now) (record { given = 0; kept = [] }) 0) c.loop.counter
    (g.H.Runs.timeline c.loop.history) c.loop.table (c.loop.invariant.way (record { given = 0; kept = [] }) 0) (omega (arith, c.loop-test.true))

pub loop-preserved : goal.loop-preserved
loop-preserved g c =
    let i = c.loop.invariant in
    let p = g.H.Runs.program c.args.history.now in
    let now = g.H.Runs.timeline c.loop.history in
    let new = g.H.Runs.timeline c.forward_by.new.self in
    let enough = sym c.is_counted.ensures ∙ c.if-is_counted.false in
    let goes = either_goes (at_end now) (is_filled c.loop.table) enough in
    let f = c.in-Ok.ensures.moved ∙ forward_once (g.H.Runs.program c.loop.history) now goes ∙ ap (λ q. forward q now) i.program in
    record {
      program = c.forward_by.ensures.program ∙ i.program;
      way = λ stops limit.
          counted_more (session_at g.H.Runs.wants_memory p (g.H.Runs.timeline c.args.history.now) stops limit) c.loop.counter now new c.loop.table _ c.here-place.result
          (i.way stops limit) enough f (here_at p (g.H.Runs.program c.loop.history) now.now now.now c.here-place.result i.program refl (c.here-place.ensures goes)) c.add.ensures;
    }

pub returns-clause-counted : goal.returns-clause-counted
returns-clause-counted g c = λ stops limit.
    counts_all (session_at g.H.Runs.wants_memory (g.H.Runs.program c.args.history.now) (g.H.Runs.timeline c.args.history.now) stops limit) c.args.moves c.loop.counter
    (g.H.Runs.timeline c.loop.history) c.loop.table (c.loop.invariant.way stops limit) (omega (arith, c.loop-test.false, c.loop.auto.counter-end))
