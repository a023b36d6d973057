-- Each move goes one further on the way, what was read at the start is still read, and calls are open.
use Rattle.std.proofs.Common.{◌≡◌, ◌<◌, ◌≤◌, arith, ◌∙◌, sym, refl, Some, None}
use Rattle.std.proofs.lemmas.Bool.Decides.{nat_tests}
use Rattle.qil_semantics.specs.Timeline.{gone}
use Rattle.qil_semantics.specs.Runs.{bottom}
use Rattle.qil_stops.specs.Named.{named_stops}
use Rattle.qil_stops.proofs.BackWay.{back-begun, back-more, gone-more}
use Rattle.qil_stops.proofs.Telling.{found-at, reported-still}
use Rattle.qil_stops.specs.Depths.{depth}
use Rattle.qil_stops.proofs.Walking.{deep-begun, deep-more, one-back, depth-back_stop, depth-back_shallow}
use Rattle.qil_stops.proofs.depth_running.back_to_depth.Goals as goal

pub loop-taken-init : goal.loop-taken-init
loop-taken-init g c =
    let p = g.H.History.program c.args.history.now in
    let t = g.H.History.timeline c.args.history.now in
    record {
      program = refl;
      way = back-begun (named_stops p c.args.list.now) t;
      deep = deep-begun (λ j. gone j t) c.args.most;
      reported = c.readings_here-before.ensures.reported;
    }

pub returns-in-Some-clause-run : goal.returns-in-Some-clause-run
returns-in-Some-clause-run g c =
    let i = c.loop-taken.invariant in
    let p = g.H.History.program c.args.history.now in
    let t = g.H.History.timeline c.args.history.now in
    let now = g.H.History.timeline c.loop-taken.history in
    let new = g.H.History.timeline c.back.new.self in
    let found = sym c.in-Some.is ∙ found-at (g.H.History.program c.back.new.self) p new.now now.now new.now c.args.list.now _ _ c.stopped_here.result (c.in-Ok.ensures.program ∙ i.program) refl c.as_slice-read.ensures.value c.stopped_here.ensures i.reported in
    let one = one-back (named_stops p c.args.list.now) c.args.most c.args.limit c.loop-taken.taken t now new (Some c.in-Some.reason) i.way i.deep c.in-Ok.ensures.ok found c.loop-taken-test.true in
    depth-back_stop (named_stops p c.args.list.now) c.args.most c.args.limit c.loop-taken.taken t new c.in-Some.reason one

pub returns-then-depth-most-clause-run : goal.returns-then-depth-most-clause-run
returns-then-depth-most-clause-run g c =
    let i = c.loop-taken.invariant in
    let p = g.H.History.program c.args.history.now in
    let t = g.H.History.timeline c.args.history.now in
    let now = g.H.History.timeline c.loop-taken.history in
    let new = g.H.History.timeline c.back.new.self in
    let none = sym c.in_default.is ∙ found-at (g.H.History.program c.back.new.self) p new.now now.now new.now c.args.list.now _ _ c.stopped_here.result (c.in-Ok.ensures.program ∙ i.program) refl c.as_slice-read.ensures.value c.stopped_here.ensures i.reported in
    let one = one-back (named_stops p c.args.list.now) c.args.most c.args.limit c.loop-taken.taken t now new None i.way i.deep c.in-Ok.ensures.ok none c.loop-taken-test.true in
    let few : depth new ≤ c.args.most = grind (arith, nat_tests, c.depth.ensures, c.if-depth-most.true) in
    depth-back_shallow (named_stops p c.args.list.now) c.args.most c.args.limit c.loop-taken.taken t new c.shallow_bottom.result (bottom new 0) one refl c.shallow_bottom.ensures few

pub loop-taken-preserved : goal.loop-taken-preserved
loop-taken-preserved g c =
    let i = c.loop-taken.invariant in
    let p = g.H.History.program c.args.history.now in
    let t = g.H.History.timeline c.args.history.now in
    let now = g.H.History.timeline c.loop-taken.history in
    let new = g.H.History.timeline c.back.new.self in
    let none = sym c.in_default.is ∙ found-at (g.H.History.program c.back.new.self) p new.now now.now new.now c.args.list.now _ _ c.stopped_here.result (c.in-Ok.ensures.program ∙ i.program) refl c.as_slice-read.ensures.value c.stopped_here.ensures i.reported in
    let deeper : c.args.most < depth new = grind (arith, nat_tests, c.depth.ensures, c.if-depth-most.false) in
    record {
      program = c.in-Ok.ensures.program ∙ i.program;
      way = back-more (named_stops p c.args.list.now) c.loop-taken.taken t now new i.way c.in-Ok.ensures.ok none;
      deep = deep-more (λ j. gone j t) c.args.most c.loop-taken.taken new i.deep (gone-more c.loop-taken.taken t now new i.way.moves c.in-Ok.ensures.ok) deeper;
      reported = reported-still p now.now new.now c.args.list.now c.readings_here-before.result.items i.reported none;
    }
