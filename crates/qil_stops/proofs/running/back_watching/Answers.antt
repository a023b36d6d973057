-- Each move goes one further on the way, and what was read at the start is still read.
use Rattle.std.proofs.Common.{◌∙◌, sym, refl}
use Rattle.qil_stops.specs.Named.{named_stops}
use Rattle.qil_stops.proofs.BackWay.{back-begun, back-more, back-stop}
use Rattle.qil_stops.proofs.Telling.{found-at, reported-still}
use Rattle.qil_stops.proofs.running.back_watching.Goals as goal

pub loop-taken-init : goal.loop-taken-init
loop-taken-init g c = record {
  program = refl;
  way = back-begun (named_stops (g.H.History.program c.args.history.now) c.args.list.now) (g.H.History.timeline c.args.history.now);
  reported = c.readings_here-before.ensures.reported;
}

pub returns-in-Some-clause-run : goal.returns-in-Some-clause-run
returns-in-Some-clause-run g c =
    let i = c.loop-taken.invariant in
    let p = g.H.History.program c.args.history.now in
    let now = g.H.History.timeline c.loop-taken.history in
    let new = g.H.History.timeline c.back.new.self in
    back-stop (named_stops p c.args.list.now) c.args.limit c.loop-taken.taken (g.H.History.timeline c.args.history.now) now new c.in-Some.reason i.way c.in-Ok.ensures.ok
    (sym c.in-Some.is ∙ found-at (g.H.History.program c.back.new.self) p new.now now.now new.now c.args.list.now _ _ c.stopped_here.result (c.in-Ok.ensures.program ∙ i.program) refl c.as_slice-read.ensures.value c.stopped_here.ensures i.reported)
    c.loop-taken-test.true

pub loop-taken-preserved : goal.loop-taken-preserved
loop-taken-preserved g c =
    let i = c.loop-taken.invariant in
    let p = g.H.History.program c.args.history.now in
    let now = g.H.History.timeline c.loop-taken.history in
    let new = g.H.History.timeline c.back.new.self in
    let none = sym c.in_default.is ∙ found-at (g.H.History.program c.back.new.self) p new.now now.now new.now c.args.list.now _ _ c.stopped_here.result (c.in-Ok.ensures.program ∙ i.program) refl c.as_slice-read.ensures.value c.stopped_here.ensures i.reported in
    record {
      program = c.in-Ok.ensures.program ∙ i.program;
      way = back-more (named_stops p c.args.list.now) c.loop-taken.taken (g.H.History.timeline c.args.history.now) now new i.way c.in-Ok.ensures.ok none;
      reported = reported-still p now.now new.now c.args.list.now c.readings_here-before.result.items i.reported none;
    }
