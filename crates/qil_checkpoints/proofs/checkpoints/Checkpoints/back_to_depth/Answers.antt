-- A run back that stops where so few calls are open, or on the way there.
use Rattle.std.proofs.Common.{◌≡◌, ◌≤◌, ◌∙◌, sym, ap, subst, length, arith}
use Rattle.qil_tree.specs.declared.tree.Program.{Program}
use Rattle.qil_semantics.specs.Timeline.{Timeline}
use Rattle.qil_semantics.specs.Runs.{RunsBack}
use Rattle.qil_stops.specs.Named.{named_stops}
use Rattle.qil_stops.specs.Depths.{RunsBackToDepth}
use Rattle.qil_stops.specs.declared.depth_end.DepthEnd.{DepthEnd}
use Rattle.qil_checkpoints.specs.Held.{first_of, held_timeline}
use Rattle.qil_checkpoints.proofs.AtDepths.{depth-found, depth-none, runs-by}
use Rattle.qil_checkpoints.proofs.WalkTimelines.{walked-length}
use Rattle.qil_checkpoints.proofs.checkpoints.Checkpoints.back_to_depth.Goals as goal

pub returns-in-Some-clause-run : goal.returns-in-Some-clause-run
returns-in-Some-clause-run g c =
    let p = (g.M.HasCopies.present c.args.self.now.machine).program in
    let q = (g.M.HasCopies.present c.moves_to_depth.new.self.machine).program in
    let t = held_timeline g.M.HasCopies.present g.M.HasCopies.kept c.args.self.now in
    let mid = held_timeline g.M.HasCopies.present g.M.HasCopies.kept c.moves_to_depth.new.self in
    let new = held_timeline g.M.HasCopies.present g.M.HasCopies.kept c.back_to_stop-reason.new.self in
    let made = c.back_to_stop-reason.result in
    subst (λ (end : DepthEnd). RunsBackToDepth (named_stops p c.args.stops.now) c.args.most c.args.limit t end made.1 new) (sym c.depth_or.ensures)
    (depth-found (named_stops p c.args.stops.now) c.args.most c.args.limit c.in-Some.moves made.1 t new made.0 (c.in-Some.ensures.first)
    (runs-by q p c.args.stops.now c.in-Some.moves mid t made.0 made.1 new c.moves_to_depth.ensures.program c.moves_to_depth.ensures.same c.back_to_stop-reason.ensures.run))

pub returns-in-None-clause-run : goal.returns-in-None-clause-run
returns-in-None-clause-run g c =
    let p = (g.M.HasCopies.present c.args.self.now.machine).program in
    let q = (g.M.HasCopies.present c.moves_to_depth.new.self.machine).program in
    let t = held_timeline g.M.HasCopies.present g.M.HasCopies.kept c.args.self.now in
    let mid = held_timeline g.M.HasCopies.present g.M.HasCopies.kept c.moves_to_depth.new.self in
    let new = held_timeline g.M.HasCopies.present g.M.HasCopies.kept c.back_to_stop-reason-in-None.new.self in
    let made = c.back_to_stop-reason-in-None.result in
    let long : length t.past ≡ c.args.self.now.position = walked-length p (first_of (g.M.HasCopies.kept c.args.self.now.machine)) c.args.self.now.pokes c.args.self.now.position in
    depth-none (named_stops p c.args.stops.now) c.args.most c.args.limit made.1 t new made.0 (c.in-None.ensures.first) (omega (arith, long, c.back_to_stop-reason-in-None.ensures.few, c.moves_to_depth.ensures.position))
    (runs-by q p c.args.stops.now c.args.limit mid t made.0 made.1 new c.moves_to_depth.ensures.program c.moves_to_depth.ensures.same c.back_to_stop-reason-in-None.ensures.run)
