-- Each move goes one further on the way, what was read at the start is still read, and calls are open.
use Rattle.std.proofs.Common.{◌≡◌, ◌<◌, ◌≤◌, arith, ◌∙◌, sym, ap, refl, false, Some, None}
use Rattle.std.proofs.lemmas.Bool.Decides.{nat_tests}
use Rattle.qil_semantics.specs.Timeline.{forward, at_end, moved}
use Rattle.qil_stops.specs.Named.{named_stops}
use Rattle.qil_stops.proofs.OnWay.{on-begun, on-more, on-position, moved-more, not_true}
use Rattle.qil_stops.proofs.Telling.{found-at, reported-still}
use Rattle.qil_stops.specs.Depths.{depth}
use Rattle.qil_stops.proofs.Walking.{deep-begun, deep-more, one-more, depth-stop, depth-shallow}
use Rattle.qil_stops.proofs.depth_running.forward_to_depth.Goals as goal

pub loop-moves-init : goal.loop-moves-init
loop-moves-init g c =
    let p = g.H.History.program c.args.history.now in
    let t = g.H.History.timeline c.args.history.now in
    record {
      program = refl;
      way = on-begun p (named_stops p c.args.list.now) t;
      deep = deep-begun (λ j. moved p j t) c.args.most;
      reported = c.readings_here-before.ensures.reported;
    }

pub forward-requires : goal.forward-requires
forward-requires g c =
    let i = c.loop-moves.invariant in
    let p = g.H.History.program c.args.history.now in
    let at = on-position p (named_stops p c.args.list.now) c.loop-moves.moves (g.H.History.timeline c.args.history.now) (g.H.History.timeline c.loop-moves.history) i.way in
    omega (arith, at)

pub returns-in-Some-clause-run : goal.returns-in-Some-clause-run
returns-in-Some-clause-run g c =
    let i = c.loop-moves.invariant in
    let p = g.H.History.program c.args.history.now in
    let t = g.H.History.timeline c.args.history.now in
    let now = g.H.History.timeline c.loop-moves.history in
    let new = g.H.History.timeline c.forward.new.self in
    let goes : at_end now ≡ false = not_true (at_end now) (λ e. let w = c.in-Ok.ensures.end.1 e in absurd cc) in
    let found = sym c.in-Some.is ∙ found-at (g.H.History.program c.forward.new.self) p new.now now.now new.now c.args.list.now _ _ c.stopped_here.result (c.in-Ok.ensures.program ∙ i.program) refl c.as_slice-read.ensures.value c.stopped_here.ensures i.reported in
    let one = one-more p (named_stops p c.args.list.now) c.args.most c.args.limit c.loop-moves.moves t now new (Some c.in-Some.reason) i.way i.deep goes (c.in-Ok.ensures.ok ∙ ap (λ q. forward q now) i.program) found c.loop-moves-test.true in
    depth-stop p (named_stops p c.args.list.now) c.args.most c.args.limit c.loop-moves.moves t new c.in-Some.reason c.end_or.result (at_end new) one refl c.end_or.ensures

pub returns-then-depth-most-clause-run : goal.returns-then-depth-most-clause-run
returns-then-depth-most-clause-run g c =
    let i = c.loop-moves.invariant in
    let p = g.H.History.program c.args.history.now in
    let t = g.H.History.timeline c.args.history.now in
    let now = g.H.History.timeline c.loop-moves.history in
    let new = g.H.History.timeline c.forward.new.self in
    let goes : at_end now ≡ false = not_true (at_end now) (λ e. let w = c.in-Ok.ensures.end.1 e in absurd cc) in
    let none = sym c.in_default.is ∙ found-at (g.H.History.program c.forward.new.self) p new.now now.now new.now c.args.list.now _ _ c.stopped_here.result (c.in-Ok.ensures.program ∙ i.program) refl c.as_slice-read.ensures.value c.stopped_here.ensures i.reported in
    let one = one-more p (named_stops p c.args.list.now) c.args.most c.args.limit c.loop-moves.moves t now new None i.way i.deep goes (c.in-Ok.ensures.ok ∙ ap (λ q. forward q now) i.program) none c.loop-moves-test.true in
    let few : depth new ≤ c.args.most = grind (arith, nat_tests, c.depth.ensures, c.if-depth-most.true) in
    depth-shallow p (named_stops p c.args.list.now) c.args.most c.args.limit c.loop-moves.moves t new c.shallow_end.result (at_end new) one refl c.shallow_end.ensures few

pub loop-moves-preserved : goal.loop-moves-preserved
loop-moves-preserved g c =
    let i = c.loop-moves.invariant in
    let p = g.H.History.program c.args.history.now in
    let t = g.H.History.timeline c.args.history.now in
    let now = g.H.History.timeline c.loop-moves.history in
    let new = g.H.History.timeline c.forward.new.self in
    let goes : at_end now ≡ false = not_true (at_end now) (λ e. let w = c.in-Ok.ensures.end.1 e in absurd cc) in
    let none = sym c.in_default.is ∙ found-at (g.H.History.program c.forward.new.self) p new.now now.now new.now c.args.list.now _ _ c.stopped_here.result (c.in-Ok.ensures.program ∙ i.program) refl c.as_slice-read.ensures.value c.stopped_here.ensures i.reported in
    let f = c.in-Ok.ensures.ok ∙ ap (λ q. forward q now) i.program in
    let deeper : c.args.most < depth new = grind (arith, nat_tests, c.depth.ensures, c.if-depth-most.false) in
    record {
      program = c.in-Ok.ensures.program ∙ i.program;
      way = on-more p (named_stops p c.args.list.now) c.loop-moves.moves t now new i.way goes f none;
      deep = deep-more (λ j. moved p j t) c.args.most c.loop-moves.moves new i.deep (moved-more p c.loop-moves.moves t now new i.way.moves f) deeper;
      reported = reported-still p now.now new.now c.args.list.now c.readings_here-before.result.items i.reported none;
    }
