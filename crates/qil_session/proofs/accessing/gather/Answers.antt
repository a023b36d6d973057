-- Each move goes one further, and adds its accesses.
use Rattle.std.proofs.Common.{◌≡◌, ◌∙◌, sym, ap, refl, subst, arith, false, []}
use Rattle.qil_semantics.specs.Timeline.{forward, at_end}
use Rattle.qil_replies.specs.SessionState.{session_at}
use Rattle.qil_session.proofs.MoveAnswers.{step_wants}
use Rattle.qil_session.proofs.AccessAnswers.{forward_once, forward_none, gathered_none, gathered_more, gathered_position, ahead_at, noted_at, runs_on, has_room, gathers_enough, gathers_all, gathers_short}
use Rattle.qil_session.proofs.accessing.gather.Goals as goal

pub loop-init : goal.loop-init
loop-init g c = record {
  program = refl;
  way = λ stops limit. gathered_none (session_at g.H.Runs.wants_memory (g.H.Runs.program c.args.history.now) (g.H.Runs.timeline c.args.history.now) stops limit) c.args.start c.args.count c.args.list.now c.requires.empty;
}

pub returns-then-is_enough-clause-gathered : goal.returns-then-is_enough-clause-gathered
returns-then-is_enough-clause-gathered g c = λ stops limit.
    gathers_enough (session_at g.H.Runs.wants_memory (g.H.Runs.program c.args.history.now) (g.H.Runs.timeline c.args.history.now) stops limit) c.args.start c.args.count c.args.moves c.loop.counter
    (g.H.Runs.timeline c.loop.history) c.loop.list (c.loop.invariant.way stops limit) c.loop-test.true (sym c.is_enough.ensures ∙ c.if-is_enough.true)

pub forward_by-requires : goal.forward_by-requires
forward_by-requires g c =
    let at = gathered_position (session_at g.H.Runs.wants_memory (g.H.Runs.program c.args.history.now) (g.H.Runs.timeline c.args.history.now) (record { given = 0; kept = [] }) 0) c.args.start c.args.count c.loop.counter
    (g.H.Runs.timeline c.loop.history) c.loop.list (c.loop.invariant.way (record { given = 0; kept = [] }) 0) in
    omega (arith, at, c.requires.before, c.loop-test.true)

pub returns-in-Err-clause-gathered : goal.returns-in-Err-clause-gathered
returns-in-Err-clause-gathered g c = λ stops limit.
    let m = c.in-Err.ensures.moved in
    let now = g.H.Runs.timeline c.loop.history in
    gathers_short (session_at g.H.Runs.wants_memory (g.H.Runs.program c.args.history.now) (g.H.Runs.timeline c.args.history.now) stops limit) c.args.start c.args.count c.args.moves c.loop.counter
    now (g.H.Runs.timeline c.forward_by.new.self) c.loop.list (c.loop.invariant.way stops limit) c.loop-test.true (sym c.is_enough.ensures ∙ c.if-is_enough.false)
    (step_wants g.H.Runs.wants_memory c.forward_by.result tt c.in-Err._made c.forward_by.ensures.spared c.in-Err.is)
    (m.1 ∙ forward_none (g.H.Runs.program c.loop.history) c.in-Err._made now m.0)

pub note-requires : goal.note-requires
note-requires g c = λ lifetimes. ((refl, (refl, tt)), has_room (g.H.Runs.timeline c.loop.history) c.loop.list (sym c.is_enough.ensures ∙ c.if-is_enough.false))

pub loop-preserved : goal.loop-preserved
loop-preserved g c =
    let i = c.loop.invariant in
    let p = g.H.Runs.program c.args.history.now in
    let now = g.H.Runs.timeline c.loop.history in
    let new = g.H.Runs.timeline c.forward_by.new.self in
    let goes = sym c.is_enough.ensures ∙ c.if-is_enough.false in
    let f = c.in-Ok.ensures.moved ∙ forward_once (g.H.Runs.program c.loop.history) now (runs_on now c.loop.list goes) ∙ ap (λ q. forward q now) i.program in
    record {
      program = c.forward_by.ensures.program ∙ i.program;
      way = λ stops limit.
          gathered_more (session_at g.H.Runs.wants_memory p (g.H.Runs.timeline c.args.history.now) stops limit) c.args.start c.args.count c.loop.counter now new c.loop.list _ c.position-position.result
          (i.way stops limit) goes f c.position-position.ensures
          (noted_at p (g.H.Runs.program c.forward_by.new.self) c.args.start c.args.count c.position-position.result now.now new.now new.now c.ahead_of-ahead.result c.loop.list _
          (c.forward_by.ensures.program ∙ i.program) refl
          (ahead_at p (g.H.Runs.program c.loop.history) now.now now.now c.ahead_of-ahead.result i.program refl c.ahead_of-ahead.ensures) c.note.ensures);
    }

pub returns-clause-gathered : goal.returns-clause-gathered
returns-clause-gathered g c = λ stops limit.
    gathers_all (session_at g.H.Runs.wants_memory (g.H.Runs.program c.args.history.now) (g.H.Runs.timeline c.args.history.now) stops limit) c.args.start c.args.count c.args.moves c.loop.counter
    (g.H.Runs.timeline c.loop.history) c.loop.list (c.loop.invariant.way stops limit) (omega (arith, c.loop-test.false, c.loop.auto.counter-end))
