-- Part after part.
use Rattle.std.proofs.Common.{◌∙◌, sym, subst, ◌≤◌, List, arith}
use Rattle.qil_state.specs.State.{state_of}
use Rattle.qil_stops.specs.Named.{named_stops}
use Rattle.qil_stops.proofs.Naming.{named-none, no_length}
use Rattle.qil_checkpoints.specs.declared.poked.Poked.{Poked}
use Rattle.qil_checkpoints.specs.Walk.{ArePoked, IsPart}
use Rattle.qil_checkpoints.specs.Held.{first_of}
use Rattle.qil_checkpoints.specs.Hits.{stop_at}
use Rattle.qil_checkpoints.proofs.Parts.{are_rising, part-poked, part-is}
use Rattle.qil_checkpoints.proofs.AlongWalks.{moves-below}
use Rattle.qil_checkpoints.proofs.HeldLemmas.{walk-as}
use Rattle.qil_checkpoints.proofs.Hitting.{hit-unwatched, hit-by, hit-done, hit-passed}
use Rattle.qil_checkpoints.proofs.searching.search_back.Goals as goal

pub returns-then-is_empty-clause-hit : goal.returns-then-is_empty-clause-hit
returns-then-is_empty-clause-hit g c =
    let p = (g.M.HasCopies.present c.args.machine.now).program in
    hit-unwatched p (first_of (g.M.HasCopies.kept c.args.machine.now)) c.args.pokes.now (named_stops p c.args.stops.now) c.args.lowest c.args.now
    (named-none p c.args.stops.now (no_length c.args.stops.now c.is_empty.result c.is_empty.ensures c.if-is_empty.true))

pub part_of-requires : goal.part_of-requires
part_of-requires g c = are_rising 0 c.args.pokes.now c.requires.kept.0 c.requires.kept.2.poked

pub last_hit-found-requires : goal.last_hit-found-requires
last_hit-found-requires g c =
    let i = c.loop-end.invariant in
    let poked = part-poked c.args.pokes.now c.requires.kept.0 c.part_start-from.result c.loop-end.end c.requires.kept.2.poked (omega (arith, c.part_start-from.ensures.high)) (omega (arith, i.under, c.requires.kept.1)) in
    record { few = c.requires.few; readable = c.requires.readable; poked = subst (λ (qs : List Poked). ArePoked c.part_start-from.result qs c.loop-end.end) (sym c.part_of.ensures) poked }

pub returns-then-is_some-clause-hit : goal.returns-then-is_some-clause-hit
returns-then-is_some-clause-hit g c =
    let i = c.loop-end.invariant in
    let p = (g.M.HasCopies.present c.args.machine.now).program in
    let first = first_of (g.M.HasCopies.kept c.args.machine.now) in
    let made = g.M.HasCopies.present c.jump.new.machine in
    let end : c.loop-end.end ≤ c.requires.kept.0 = omega (arith, i.under, c.requires.kept.1) in
    let part = subst (λ (qs : List Poked). IsPart c.args.pokes.now qs c.part_start-from.result c.loop-end.end) (sym c.part_of.ensures)
    (part-is c.args.pokes.now c.requires.kept.0 c.part_start-from.result c.loop-end.end c.requires.kept.2.poked (omega (arith, c.part_start-from.ensures.high)) end) in
    let there = c.jump.ensures.state ∙ walk-as (g.M.HasCopies.present c.loop-end.machine).program p (g.M.HasCopies.kept c.loop-end.machine) (g.M.HasCopies.kept c.args.machine.now) c.args.pokes.now c.part_start-from.result i.program i.kept in
    hit-done (stop_at p (named_stops p c.args.stops.now) first c.args.pokes.now) c.args.lowest c.part_start-from.result c.loop-end.end c.args.now c.last_hit-found.result (sym c.is_some.ensures ∙ c.if-is_some.true)
    (hit-by made.program p c.args.stops.now first (state_of made) c.args.pokes.now c.part_start-from.result c.loop-end.end c.last_hit-found.result (c.jump.ensures.program ∙ i.program)
    (c.last_hit-found.ensures.hit first c.args.pokes.now part) (moves-below p first c.args.pokes.now c.requires.kept.0 c.loop-end.end c.requires.kept.2.moves end) there)
    c.part_start-from.ensures.low i.under i.none

pub loop-end-preserved : goal.loop-end-preserved
loop-end-preserved g c =
    let i = c.loop-end.invariant in
    let p = (g.M.HasCopies.present c.args.machine.now).program in
    let first = first_of (g.M.HasCopies.kept c.args.machine.now) in
    let made = g.M.HasCopies.present c.jump.new.machine in
    let end : c.loop-end.end ≤ c.requires.kept.0 = omega (arith, i.under, c.requires.kept.1) in
    let part = subst (λ (qs : List Poked). IsPart c.args.pokes.now qs c.part_start-from.result c.loop-end.end) (sym c.part_of.ensures)
    (part-is c.args.pokes.now c.requires.kept.0 c.part_start-from.result c.loop-end.end c.requires.kept.2.poked (omega (arith, c.part_start-from.ensures.high)) end) in
    let there = c.jump.ensures.state ∙ walk-as (g.M.HasCopies.present c.loop-end.machine).program p (g.M.HasCopies.kept c.loop-end.machine) (g.M.HasCopies.kept c.args.machine.now) c.args.pokes.now c.part_start-from.result i.program i.kept in
    record {
      program = c.last_hit-found.ensures.program ∙ c.jump.ensures.program ∙ i.program;
      kept = c.last_hit-found.ensures.kept ∙ c.jump.ensures.kept ∙ i.kept;
      under = omega (arith, c.part_start-from.ensures.high, i.under);
      none = hit-passed (stop_at p (named_stops p c.args.stops.now) first c.args.pokes.now) c.part_start-from.result c.loop-end.end c.args.now c.last_hit-found.result (sym c.is_some.ensures ∙ c.if-is_some.false)
          (hit-by made.program p c.args.stops.now first (state_of made) c.args.pokes.now c.part_start-from.result c.loop-end.end c.last_hit-found.result (c.jump.ensures.program ∙ i.program)
          (c.last_hit-found.ensures.hit first c.args.pokes.now part) (moves-below p first c.args.pokes.now c.requires.kept.0 c.loop-end.end c.requires.kept.2.moves end) there) i.none;
    }
