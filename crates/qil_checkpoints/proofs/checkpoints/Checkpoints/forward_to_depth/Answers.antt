-- Each step goes one further on the way, what was read at the start is still read, and calls are open.
use Rattle.std.proofs.Common.{◌≡◌, ◌<◌, ◌≤◌, ◌+◌, ◌∙◌, sym, ap, refl, subst, length, Some, None, arith}
use Rattle.std.proofs.lemmas.Bool.Decides.{nat_tests}
use Rattle.qil_semantics.specs.Timeline.{Timeline, forward, at_end, moved}
use Rattle.qil_stops.specs.Named.{named_stops}
use Rattle.qil_stops.specs.Readings.{AllTell}
use Rattle.qil_stops.specs.Depths.{depth}
use Rattle.qil_stops.proofs.OnWay.{IsOnWay, on-begun, on-more, moved-more}
use Rattle.qil_stops.proofs.Telling.{found-at, reported-still}
use Rattle.qil_stops.proofs.Told.{told-as}
use Rattle.qil_stops.proofs.Walking.{deep-begun, deep-more, one-more, depth-end, depth-stop, depth-shallow, depth-last}
use Rattle.qil_checkpoints.specs.Held.{held_timeline}
use Rattle.qil_checkpoints.proofs.AtDepths.{advanced, ended-there}
use Rattle.qil_checkpoints.proofs.checkpoints.Checkpoints.forward_to_depth.Goals as goal

pub loop-moves-init : goal.loop-moves-init
loop-moves-init g c =
    let p = (g.M.HasCopies.present c.args.self.now.machine).program in
    let t = held_timeline g.M.HasCopies.present g.M.HasCopies.kept c.args.self.now in
    record {
      program = refl;
      within = omega arith;
      position = omega arith;
      way = on-begun p (named_stops p c.args.stops.now) t;
      deep = deep-begun (λ j. moved p j t) c.args.most;
      count = ap length c.as_slice-before.ensures.value ∙ c.readings-readings.ensures.count;
      reported = told-as p t.now c.args.stops.now c.readings-readings.result.items c.as_slice-before.result.now c.as_slice-before.ensures.value c.readings-readings.ensures.reported;
    }

pub advance-requires : goal.advance-requires
advance-requires g c = omega (arith, c.loop-moves.invariant.position, c.loop-moves-test.true, c.requires.near)

pub returns-then-not-advance-clause-run : goal.returns-then-not-advance-clause-run
returns-then-not-advance-clause-run g c =
    let i = c.loop-moves.invariant in
    let p = (g.M.HasCopies.present c.args.self.now.machine).program in
    let q = (g.M.HasCopies.present c.loop-moves.self.machine).program in
    let t = held_timeline g.M.HasCopies.present g.M.HasCopies.kept c.args.self.now in
    let now = held_timeline g.M.HasCopies.present g.M.HasCopies.kept c.loop-moves.self in
    let new = held_timeline g.M.HasCopies.present g.M.HasCopies.kept c.advance.new.self in
    let over = ended-there q c.advance.result now new c.if-not-advance.true c.advance.ensures.made in
    depth-end p (named_stops p c.args.stops.now) c.args.most c.args.limit c.loop-moves.moves t now new i.way i.deep over.0 over.1 (omega (arith, c.loop-moves-test.true))

pub returns-in-Some-clause-run : goal.returns-in-Some-clause-run
returns-in-Some-clause-run g c =
    let i = c.loop-moves.invariant in
    let p = (g.M.HasCopies.present c.args.self.now.machine).program in
    let q = (g.M.HasCopies.present c.loop-moves.self.machine).program in
    let t = held_timeline g.M.HasCopies.present g.M.HasCopies.kept c.args.self.now in
    let now = held_timeline g.M.HasCopies.present g.M.HasCopies.kept c.loop-moves.self in
    let new = held_timeline g.M.HasCopies.present g.M.HasCopies.kept c.advance.new.self in
    let step = advanced q p c.advance.result now new i.program c.if-not-advance.false c.advance.ensures.made in
    let found = sym c.in-Some.is ∙ found-at (g.M.HasCopies.present c.advance.new.self.machine).program p new.now now.now new.now c.args.stops.now c.as_slice-before.result.now c.as_slice-before.result.now c.stopped_here.result (c.advance.ensures.program ∙ i.program) refl refl c.stopped_here.ensures i.reported in
    let one = one-more p (named_stops p c.args.stops.now) c.args.most c.args.limit c.loop-moves.moves t now new (Some c.in-Some.reason) i.way i.deep step.0 step.1 found c.loop-moves-test.true in
    depth-stop p (named_stops p c.args.stops.now) c.args.most c.args.limit c.loop-moves.moves t new c.in-Some.reason c.end_or.result (at_end new) one refl c.end_or.ensures

pub returns-then-depth-most-clause-run : goal.returns-then-depth-most-clause-run
returns-then-depth-most-clause-run g c =
    let i = c.loop-moves.invariant in
    let p = (g.M.HasCopies.present c.args.self.now.machine).program in
    let q = (g.M.HasCopies.present c.loop-moves.self.machine).program in
    let t = held_timeline g.M.HasCopies.present g.M.HasCopies.kept c.args.self.now in
    let now = held_timeline g.M.HasCopies.present g.M.HasCopies.kept c.loop-moves.self in
    let new = held_timeline g.M.HasCopies.present g.M.HasCopies.kept c.advance.new.self in
    let step = advanced q p c.advance.result now new i.program c.if-not-advance.false c.advance.ensures.made in
    let none = sym c.in_default.is ∙ found-at (g.M.HasCopies.present c.advance.new.self.machine).program p new.now now.now new.now c.args.stops.now c.as_slice-before.result.now c.as_slice-before.result.now c.stopped_here.result (c.advance.ensures.program ∙ i.program) refl refl c.stopped_here.ensures i.reported in
    let one = one-more p (named_stops p c.args.stops.now) c.args.most c.args.limit c.loop-moves.moves t now new None i.way i.deep step.0 step.1 none c.loop-moves-test.true in
    let few : depth new ≤ c.args.most = grind (arith, nat_tests, c.depth.ensures, c.if-depth-most.true) in
    depth-shallow p (named_stops p c.args.stops.now) c.args.most c.args.limit c.loop-moves.moves t new c.shallow_end.result (at_end new) one refl c.shallow_end.ensures few

pub loop-moves-preserved : goal.loop-moves-preserved
loop-moves-preserved g c =
    let i = c.loop-moves.invariant in
    let p = (g.M.HasCopies.present c.args.self.now.machine).program in
    let q = (g.M.HasCopies.present c.loop-moves.self.machine).program in
    let t = held_timeline g.M.HasCopies.present g.M.HasCopies.kept c.args.self.now in
    let now = held_timeline g.M.HasCopies.present g.M.HasCopies.kept c.loop-moves.self in
    let new = held_timeline g.M.HasCopies.present g.M.HasCopies.kept c.advance.new.self in
    let kept = held_timeline g.M.HasCopies.present g.M.HasCopies.kept c.keep_between.new.self in
    let step = advanced q p c.advance.result now new i.program c.if-not-advance.false c.advance.ensures.made in
    let none = sym c.in_default.is ∙ found-at (g.M.HasCopies.present c.advance.new.self.machine).program p new.now now.now new.now c.args.stops.now c.as_slice-before.result.now c.as_slice-before.result.now c.stopped_here.result (c.advance.ensures.program ∙ i.program) refl refl c.stopped_here.ensures i.reported in
    let deeper : c.args.most < depth new = grind (arith, nat_tests, c.depth.ensures, c.if-depth-most.false) in
    record {
      program = c.keep_between.ensures.program ∙ c.advance.ensures.program ∙ i.program;
      within = omega (arith, c.loop-moves-test.true);
      position = omega (arith, c.keep_between.ensures.position, c.advance.ensures.position, i.position);
      way = subst (λ (u : Timeline). IsOnWay p (named_stops p c.args.stops.now) t (c.loop-moves.moves + 1) u) (sym c.keep_between.ensures.same) (on-more p (named_stops p c.args.stops.now) c.loop-moves.moves t now new i.way step.0 step.1 none);
      deep = deep-more (λ j. moved p j t) c.args.most c.loop-moves.moves new i.deep (moved-more p c.loop-moves.moves t now new i.way.moves step.1) deeper;
      count = i.count;
      reported = subst (λ (u : Timeline). AllTell p u.now c.args.stops.now c.as_slice-before.result.now) (sym c.keep_between.ensures.same) (reported-still p now.now new.now c.args.stops.now c.as_slice-before.result.now i.reported none);
    }

pub returns-clause-run : goal.returns-clause-run
returns-clause-run g c =
    let i = c.loop-moves.invariant in
    let p = (g.M.HasCopies.present c.args.self.now.machine).program in
    let t = held_timeline g.M.HasCopies.present g.M.HasCopies.kept c.args.self.now in
    let now = held_timeline g.M.HasCopies.present g.M.HasCopies.kept c.loop-moves.self in
    depth-last p (named_stops p c.args.stops.now) c.args.most c.args.limit c.loop-moves.moves t now c.end_or-2.result (at_end now) i.way i.deep refl c.end_or-2.ensures (omega (arith, i.within, c.loop-moves-test.false))
