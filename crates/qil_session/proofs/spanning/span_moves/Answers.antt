-- Each move goes one further, and what it began or ended is noted.
use Rattle.std.proofs.Common.{◌≡◌, ◌∙◌, sym, ap, refl, arith, false, []}
use Rattle.qil_semantics.specs.Timeline.{forward, at_end}
use Rattle.qil_spans.specs.Spans.{is_filled}
use Rattle.qil_replies.specs.SessionState.{session_at}
use Rattle.qil_session.proofs.MoveAnswers.{step_wants}
use Rattle.qil_session.proofs.AccessAnswers.{either_goes, either_room, forward_once, forward_none}
use Rattle.qil_session.proofs.SpanAnswers.{innermost_at, spanned_few, spanned_more, spanned_none, spanned_position, spans_all, spans_enough, spans_short}
use Rattle.qil_session.proofs.spanning.span_moves.Goals as goal

pub loop-init : goal.loop-init
loop-init g c = record {
  program = refl;
  depth = c.inner-before.ensures.depth;
  func = c.inner-before.ensures.func;
  way = λ stops limit. spanned_none (session_at g.H.Runs.wants_memory (g.H.Runs.program c.args.history.now) (g.H.Runs.timeline c.args.history.now) stops limit) c.args.least c.args.table.now c.requires.nothing;
}

pub returns-then-is_spanned-clause-spanned : goal.returns-then-is_spanned-clause-spanned
returns-then-is_spanned-clause-spanned g c = λ stops limit.
    spans_enough (session_at g.H.Runs.wants_memory (g.H.Runs.program c.args.history.now) (g.H.Runs.timeline c.args.history.now) stops limit) c.args.least c.args.moves c.loop.counter
    (g.H.Runs.timeline c.loop.history) c.loop.table (c.loop.invariant.way stops limit) c.loop-test.true (sym c.is_spanned.ensures ∙ c.if-is_spanned.true)

pub forward_by-requires : goal.forward_by-requires
forward_by-requires g c =
    let at = spanned_position (session_at g.H.Runs.wants_memory (g.H.Runs.program c.args.history.now) (g.H.Runs.timeline c.args.history.now) (record { given = 0; kept = [] }) 0) c.args.least c.loop.counter
    (g.H.Runs.timeline c.loop.history) c.loop.table (c.loop.invariant.way (record { given = 0; kept = [] }) 0) in
    omega (arith, at, c.requires.before, c.loop-test.true)

pub returns-in-Err-clause-spanned : goal.returns-in-Err-clause-spanned
returns-in-Err-clause-spanned g c = λ stops limit.
    let m = c.in-Err.ensures.moved in
    let now = g.H.Runs.timeline c.loop.history in
    spans_short (session_at g.H.Runs.wants_memory (g.H.Runs.program c.args.history.now) (g.H.Runs.timeline c.args.history.now) stops limit) c.args.least c.args.moves c.loop.counter
    now (g.H.Runs.timeline c.forward_by.new.self) c.loop.table (c.loop.invariant.way stops limit) c.loop-test.true (sym c.is_spanned.ensures ∙ c.if-is_spanned.false)
    (step_wants g.H.Runs.wants_memory c.forward_by.result tt c.in-Err._made c.forward_by.ensures.spared c.in-Err.is)
    (m.1 ∙ forward_none (g.H.Runs.program c.loop.history) c.in-Err._made now m.0)

pub add-requires-clause-room : goal.add-requires-clause-room
add-requires-clause-room g c = either_room (at_end (g.H.Runs.timeline c.loop.history)) (is_filled c.loop.table.ended) (sym c.is_spanned.ensures ∙ c.if-is_spanned.false)

pub add-requires-clause-below : goal.add-requires-clause-below
add-requires-clause-below g c =
    let few = spanned_few (session_at g.H.Runs.wants_memory (g.H.Runs.program c.args.history.now) (g.H.Runs.timeline c.args.history.now) (record { given = 0; kept = [] }) 0) c.args.least c.loop.counter
    (g.H.Runs.timeline c.loop.history) c.loop.table (c.loop.invariant.way (record { given = 0; kept = [] }) 0) in
    omega (arith, few, c.loop.invariant.depth)

pub loop-preserved : goal.loop-preserved
loop-preserved g c =
    let i = c.loop.invariant in
    let p = g.H.Runs.program c.args.history.now in
    let now = g.H.Runs.timeline c.loop.history in
    let new = g.H.Runs.timeline c.forward_by.new.self in
    let enough = sym c.is_spanned.ensures ∙ c.if-is_spanned.false in
    let goes = either_goes (at_end now) (is_filled c.loop.table.ended) enough in
    let f = c.in-Ok.ensures.moved ∙ forward_once (g.H.Runs.program c.loop.history) now goes ∙ ap (λ q. forward q now) i.program in
    let program = c.forward_by.ensures.program ∙ i.program in
    record {
      program = program;
      depth = c.inner-after.ensures.depth;
      func = innermost_at p (g.H.Runs.program c.forward_by.new.self) new.now c.inner-after.result.func program c.inner-after.ensures.func;
      way = λ stops limit.
          spanned_more (session_at g.H.Runs.wants_memory p (g.H.Runs.timeline c.args.history.now) stops limit) c.args.least c.loop.counter c.position.result c.loop.before.depth c.inner-after.result.depth c.loop.before.func now new
          c.loop.table _ (i.way stops limit) enough f i.depth i.func c.inner-after.ensures.depth c.position.ensures c.add.ensures;
    }

pub returns-clause-spanned : goal.returns-clause-spanned
returns-clause-spanned g c = λ stops limit.
    spans_all (session_at g.H.Runs.wants_memory (g.H.Runs.program c.args.history.now) (g.H.Runs.timeline c.args.history.now) stops limit) c.args.least c.args.moves c.loop.counter
    (g.H.Runs.timeline c.loop.history) c.loop.table (c.loop.invariant.way stops limit) (omega (arith, c.loop-test.false, c.loop.auto.counter-end))
