-- Part after part.
use Rattle.std.proofs.Common.{◌∙◌, sym, refl, subst, ◌≡◌, ◌≤◌, ◌<◌, ℕ, arith}
use Rattle.qil_tree.specs.declared.tree.Program.{Program}
use Rattle.qil_state.specs.State.{state_of}
use Rattle.qil_checkpoints.specs.Walk.{AreMoves, walk}
use Rattle.qil_checkpoints.specs.Held.{first_of}
use Rattle.qil_checkpoints.specs.Hits.{IsLastHit}
use Rattle.qil_checkpoints.specs.CallDepths.{shallow_at}
use Rattle.qil_checkpoints.proofs.AlongWalks.{moves-below}
use Rattle.qil_checkpoints.proofs.HeldLemmas.{walk-as}
use Rattle.qil_checkpoints.proofs.AtDepths.{shallow-by}
use Rattle.qil_checkpoints.proofs.Hitting.{hit-done, hit-passed}
use Rattle.qil_checkpoints.proofs.shallow.search_shallow.Goals as goal

pub last_shallow-found-requires : goal.last_shallow-found-requires
last_shallow-found-requires g c =
    let i = c.loop-end.invariant in
    let le = c.requires.1 in
    record { order = omega (arith, c.part_start-from.ensures.high); poked = (c.requires.0, omega (arith, i.under, le), c.requires.2.poked) }

pub returns-then-is_some-clause-hit : goal.returns-then-is_some-clause-hit
returns-then-is_some-clause-hit g c =
    let i = c.loop-end.invariant in
    let p = (g.M.HasCopies.present c.args.machine.now).program in
    let first = first_of (g.M.HasCopies.kept c.args.machine.now) in
    let made = g.M.HasCopies.present c.jump.new.machine in
    let le = c.requires.1 in
    let end : c.loop-end.end ≤ c.requires.0 = omega (arith, i.under, le) in
    let there = c.jump.ensures.state ∙ walk-as (g.M.HasCopies.present c.loop-end.machine).program p (g.M.HasCopies.kept c.loop-end.machine) (g.M.HasCopies.kept c.args.machine.now) c.args.pokes.now c.part_start-from.result i.program i.kept in
    hit-done (shallow_at p c.args.most first c.args.pokes.now) c.args.lowest c.part_start-from.result c.loop-end.end c.args.now c.last_shallow-found.result (sym c.is_some.ensures ∙ c.if-is_some.true)
    (shallow-by made.program p c.args.most first (state_of made) c.args.pokes.now c.part_start-from.result c.loop-end.end c.last_shallow-found.result (c.jump.ensures.program ∙ i.program)
    (c.last_shallow-found.ensures.hit first) (moves-below p first c.args.pokes.now c.requires.0 c.loop-end.end c.requires.2.moves end) there)
    c.part_start-from.ensures.low i.under i.none

pub loop-end-preserved : goal.loop-end-preserved
loop-end-preserved g c =
    let i = c.loop-end.invariant in
    let p = (g.M.HasCopies.present c.args.machine.now).program in
    let first = first_of (g.M.HasCopies.kept c.args.machine.now) in
    let made = g.M.HasCopies.present c.jump.new.machine in
    let le = c.requires.1 in
    let end : c.loop-end.end ≤ c.requires.0 = omega (arith, i.under, le) in
    let there = c.jump.ensures.state ∙ walk-as (g.M.HasCopies.present c.loop-end.machine).program p (g.M.HasCopies.kept c.loop-end.machine) (g.M.HasCopies.kept c.args.machine.now) c.args.pokes.now c.part_start-from.result i.program i.kept in
    record {
      program = c.last_shallow-found.ensures.program ∙ c.jump.ensures.program ∙ i.program;
      kept = c.last_shallow-found.ensures.kept ∙ c.jump.ensures.kept ∙ i.kept;
      under = omega (arith, c.part_start-from.ensures.high, i.under);
      none = hit-passed (shallow_at p c.args.most first c.args.pokes.now) c.part_start-from.result c.loop-end.end c.args.now c.last_shallow-found.result (sym c.is_some.ensures ∙ c.if-is_some.false)
          (shallow-by made.program p c.args.most first (state_of made) c.args.pokes.now c.part_start-from.result c.loop-end.end c.last_shallow-found.result (c.jump.ensures.program ∙ i.program)
          (c.last_shallow-found.ensures.hit first) (moves-below p first c.args.pokes.now c.requires.0 c.loop-end.end c.requires.2.moves end) there) i.none;
    }
