-- Each move goes one further.
use Rattle.std.proofs.Common.{◌∙◌, refl, []}
use Rattle.qil_stops.proofs.OnWay.{none-stopped}
use Rattle.qil_stops.proofs.BackWay.{back-begun, back-more}
use Rattle.qil_undo_log.proofs.walk.back_by.Goals as goal

pub loop-taken-init : goal.loop-taken-init
loop-taken-init g c = record { program = refl; way = back-begun [] (g.H.History.timeline c.args.history.now) }

pub loop-taken-preserved : goal.loop-taken-preserved
loop-taken-preserved g c =
    let i = c.loop-taken.invariant in
    let now = g.H.History.timeline c.loop-taken.history in
    let new = g.H.History.timeline c.back.new.self in
    record {
      program = c.in-Ok.ensures.program ∙ i.program;
      way = back-more [] c.loop-taken.taken (g.H.History.timeline c.args.history.now) now new i.way c.in-Ok.ensures.ok (none-stopped now.now new.now);
    }
