-- Each move goes one further on the way, and what was read at the start is still read.
use Rattle.std.proofs.Common.{◌≡◌, arith, ◌∙◌, sym, ap, refl, false}
use Rattle.qil_semantics.specs.Timeline.{forward, at_end}
use Rattle.qil_stops.specs.Named.{named_stops}
use Rattle.qil_stops.proofs.OnWay.{on-begun, on-more, on-halt, on-position, not_true}
use Rattle.qil_stops.proofs.Telling.{found-at, reported-still}
use Rattle.qil_stops.proofs.running.run_watching.Goals as goal

pub loop-moves-init : goal.loop-moves-init
loop-moves-init g c = record {
  program = refl;
  way = on-begun (g.H.History.program c.args.history.now) (named_stops (g.H.History.program c.args.history.now) c.args.list.now) (g.H.History.timeline c.args.history.now);
  reported = c.readings_here-before.ensures.reported;
}

pub forward-requires : goal.forward-requires
forward-requires g c =
    let i = c.loop-moves.invariant in
    let p = g.H.History.program c.args.history.now in
    let at = on-position p (named_stops p c.args.list.now) c.loop-moves.moves (g.H.History.timeline c.args.history.now) (g.H.History.timeline c.loop-moves.history) i.way in
    omega (arith, at)

pub returns-in-Some-clause-run : goal.returns-in-Some-clause-run
returns-in-Some-clause-run g c =
    let i = c.loop-moves.invariant in
    let p = g.H.History.program c.args.history.now in
    let now = g.H.History.timeline c.loop-moves.history in
    let new = g.H.History.timeline c.forward.new.self in
    let goes : at_end now ≡ false = not_true (at_end now) (λ e. let w = c.in-Ok.ensures.end.1 e in absurd cc) in
    on-halt p (named_stops p c.args.list.now) c.args.limit c.loop-moves.moves (g.H.History.timeline c.args.history.now) now new c.in-Some.reason c.end_or.result (at_end new) i.way goes
    (c.in-Ok.ensures.ok ∙ ap (λ q. forward q now) i.program)
    (sym c.in-Some.is ∙ found-at (g.H.History.program c.forward.new.self) p new.now now.now new.now c.args.list.now _ _ c.stopped_here.result (c.in-Ok.ensures.program ∙ i.program) refl c.as_slice-read.ensures.value c.stopped_here.ensures i.reported)
    refl c.end_or.ensures c.loop-moves-test.true

pub loop-moves-preserved : goal.loop-moves-preserved
loop-moves-preserved g c =
    let i = c.loop-moves.invariant in
    let p = g.H.History.program c.args.history.now in
    let now = g.H.History.timeline c.loop-moves.history in
    let new = g.H.History.timeline c.forward.new.self in
    let goes : at_end now ≡ false = not_true (at_end now) (λ e. let w = c.in-Ok.ensures.end.1 e in absurd cc) in
    let none = sym c.in_default.is ∙ found-at (g.H.History.program c.forward.new.self) p new.now now.now new.now c.args.list.now _ _ c.stopped_here.result (c.in-Ok.ensures.program ∙ i.program) refl c.as_slice-read.ensures.value c.stopped_here.ensures i.reported in
    record {
      program = c.in-Ok.ensures.program ∙ i.program;
      way = on-more p (named_stops p c.args.list.now) c.loop-moves.moves (g.H.History.timeline c.args.history.now) now new i.way goes (c.in-Ok.ensures.ok ∙ ap (λ q. forward q now) i.program) none;
      reported = reported-still p now.now new.now c.args.list.now c.readings_here-before.result.items i.reported none;
    }
