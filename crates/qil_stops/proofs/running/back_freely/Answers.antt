-- Each move goes one further on the way.
use Rattle.std.proofs.Common.{◌∙◌, refl, []}
use Rattle.qil_stops.proofs.OnWay.{none-stopped}
use Rattle.qil_stops.proofs.BackWay.{back-begun, back-more}
use Rattle.qil_stops.proofs.running.back_freely.Goals as goal

pub loop-gone-init : goal.loop-gone-init
loop-gone-init g c = record { program = refl; way = back-begun [] (g.H.History.timeline c.args.history.now) }

pub loop-gone-preserved : goal.loop-gone-preserved
loop-gone-preserved g c =
    let i = c.loop-gone.invariant in
    let now = g.H.History.timeline c.loop-gone.history in
    let new = g.H.History.timeline c.back.new.self in
    record {
      program = c.in-Ok.ensures.program ∙ i.program;
      way = back-more [] c.loop-gone.gone (g.H.History.timeline c.args.history.now) now new i.way c.in-Ok.ensures.ok (none-stopped now.now new.now);
    }
