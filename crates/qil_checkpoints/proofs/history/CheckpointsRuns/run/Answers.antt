-- With no stops and with some.
use Rattle.std.proofs.Common.{◌≡◌, subst, List, length, ◌+◌, ◌≤◌, arith}
use Rattle.qil_semantics.specs.Stops.{Numbered}
use Rattle.qil_semantics.specs.Runs.{RunsOn}
use Rattle.qil_stops.proofs.Naming.{named-none, no_length}
use Rattle.qil_stops.proofs.OnWay.{on-near}
use Rattle.qil_checkpoints.specs.Held.{held_timeline}
use Rattle.qil_checkpoints.proofs.HeldLemmas.{held-position}
use Rattle.qil_checkpoints.proofs.history.CheckpointsRuns.run.Goals as goal

pub run_freely-requires : goal.run_freely-requires
run_freely-requires g c = let at = held-position g.M.HasCopies.present g.M.HasCopies.kept c.args.self.now in
    let fits : c.args.self.now.position + c.args.limit ≤ 4611686018427387904 = omega (arith, at, c.requires.near) in fits

pub returns-then-is_empty-clause-run : goal.returns-then-is_empty-clause-run
returns-then-is_empty-clause-run g c =
    let p = (g.M.HasCopies.present c.args.self.now.machine).program in
    let none : length c.args.stops.now ≡ 0 = no_length c.args.stops.now c.is_empty.result c.is_empty.ensures c.if-is_empty.true in
    subst (λ (stops : List Numbered). RunsOn p stops c.args.limit (held_timeline g.M.HasCopies.present g.M.HasCopies.kept c.args.self.now) c.run_freely.result.0 c.run_freely.result.1 (held_timeline g.M.HasCopies.present g.M.HasCopies.kept c.run_freely.new.self))
    (named-none p c.args.stops.now none) c.run_freely.ensures.run

pub returns-then-is_empty-clause-near : goal.returns-then-is_empty-clause-near
returns-then-is_empty-clause-near g c = on-near _ _ c.args.limit _ _ _ _ c.run_freely.ensures.run

pub returns-else-is_empty-clause-near : goal.returns-else-is_empty-clause-near
returns-else-is_empty-clause-near g c = on-near _ _ c.args.limit _ _ _ _ c.run_watching.ensures.run

pub run_watching-requires : goal.run_watching-requires
run_watching-requires g c =
    let at = held-position g.M.HasCopies.present g.M.HasCopies.kept c.args.self.now in
    let fits : c.args.self.now.position + c.args.limit ≤ 4611686018427387904 = omega (arith, at, c.requires.near) in
    record { near = fits; few = c.requires.few; readable = c.requires.readable }
