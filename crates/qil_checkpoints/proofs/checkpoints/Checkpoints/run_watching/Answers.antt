-- Part after part, behind whose moves but the last no stop may hold; what was read at the start is still read.
use Rattle.std.proofs.Common.{◌≡◌, ◌∙◌, sym, refl, ap, subst, length, ◌+◌, ◌-◌, ◌<◌, arith}
use Rattle.qil_semantics.specs.Timeline.{Timeline, at_end, moved}
use Rattle.qil_semantics.specs.Runs.{RunsOn}
use Rattle.qil_stops.specs.Named.{named_stops}
use Rattle.qil_stops.specs.Readings.{AllTell}
use Rattle.qil_stops.proofs.OnWay.{IsOnWay, on-begun, on-more, on-halt, on-end, stopped-plain}
use Rattle.qil_stops.proofs.Telling.{found-at, reported-still}
use Rattle.qil_stops.proofs.Told.{told-as}
use Rattle.qil_checkpoints.specs.Held.{held_timeline}
use Rattle.qil_checkpoints.proofs.Onward.{no-step, spared-by}
use Rattle.qil_checkpoints.proofs.Quiet.{before-last-by, ended}
use Rattle.qil_checkpoints.proofs.checkpoints.Checkpoints.run_watching.Goals as goal

pub loop-made-init : goal.loop-made-init
loop-made-init g c =
    let p = (g.M.HasCopies.present c.args.self.now.machine).program in
    let t = held_timeline g.M.HasCopies.present g.M.HasCopies.kept c.args.self.now in
    record {
      program = refl;
      position = omega arith;
      few = omega arith;
      way = on-begun p (named_stops p c.args.stops.now) t;
      count = ap length c.as_slice-before.ensures.value ∙ c.readings-readings.ensures.count;
      reported = told-as p t.now c.args.stops.now c.readings-readings.result.items c.as_slice-before.result.now c.as_slice-before.ensures.value c.readings-readings.ensures.reported;
    }

pub returns-then-done-eq0-clause-run : goal.returns-then-done-eq0-clause-run
returns-then-done-eq0-clause-run g c =
    let i = c.loop-made.invariant in
    let p = (g.M.HasCopies.present c.args.self.now.machine).program in
    let q = (g.M.HasCopies.present c.loop-made.self.machine).program in
    let now = held_timeline g.M.HasCopies.present g.M.HasCopies.kept c.loop-made.self in
    let new = held_timeline g.M.HasCopies.present g.M.HasCopies.kept c.run_part_quietly-done.new.self in
    let part : 0 < c.part_length-part.result = c.part_length-part.ensures.some (omega (arith, c.loop-made-test.true)) in
    let same : new ≡ now = no-step q c.run_part_quietly-done.result now new c.if-done-eq0.true c.run_part_quietly-done.ensures.moved in
    on-end p (named_stops p c.args.stops.now) c.args.limit c.loop-made.made (held_timeline g.M.HasCopies.present g.M.HasCopies.kept c.args.self.now) now new i.way
    (ended c.part_length-part.result now new same part (c.run_part_quietly-done.ensures.some c.if-done-eq0.true)) same i.few

pub returns-in-Some-clause-run : goal.returns-in-Some-clause-run
returns-in-Some-clause-run g c =
    let i = c.loop-made.invariant in
    let p = (g.M.HasCopies.present c.args.self.now.machine).program in
    let q = (g.M.HasCopies.present c.loop-made.self.machine).program in
    let t = held_timeline g.M.HasCopies.present g.M.HasCopies.kept c.args.self.now in
    let now = held_timeline g.M.HasCopies.present g.M.HasCopies.kept c.loop-made.self in
    let new = held_timeline g.M.HasCopies.present g.M.HasCopies.kept c.run_part_quietly-done.new.self in
    let r = c.run_part_quietly-done.result in
    let some : 0 < r = omega (arith, c.if-done-eq0.false) in
    let mid = moved p (r - 1) now in
    let last = before-last-by q p c.args.stops.now c.as_slice-before.result.now c.loop-made.made r t now new i.program i.count some i.way i.reported c.run_part_quietly-done.ensures.quiet c.run_part_quietly-done.ensures.running c.run_part_quietly-done.ensures.moved in
    let sum : (c.loop-made.made + (r - 1)) + 1 ≡ c.loop-made.made + r = omega (arith, some) in
    subst (λ n. RunsOn p (named_stops p c.args.stops.now) c.args.limit t c.end_or.result n new) sum
    (on-halt p (named_stops p c.args.stops.now) c.args.limit (c.loop-made.made + (r - 1)) t mid new c.in-Some.reason c.end_or.result (at_end new) last.way last.runs last.step
    (sym c.in-Some.is ∙ found-at (g.M.HasCopies.present c.run_part_quietly-done.new.self.machine).program p new.now mid.now new.now c.args.stops.now c.as_slice-before.result.now c.as_slice-before.result.now c.stopped_here.result (c.run_part_quietly-done.ensures.program ∙ i.program) refl
    refl c.stopped_here.ensures last.told)
    refl c.end_or.ensures (omega (arith, some, i.few, c.run_part_quietly-done.ensures.few, c.part_length-part.ensures.few, c.loop-made-test.true)))

pub returns-in-Some-clause-spared : goal.returns-in-Some-clause-spared
returns-in-Some-clause-spared g c =
    let i = c.loop-made.invariant in
    let p = (g.M.HasCopies.present c.args.self.now.machine).program in
    let q = (g.M.HasCopies.present c.loop-made.self.machine).program in
    let t = held_timeline g.M.HasCopies.present g.M.HasCopies.kept c.args.self.now in
    let now = held_timeline g.M.HasCopies.present g.M.HasCopies.kept c.loop-made.self in
    let new = held_timeline g.M.HasCopies.present g.M.HasCopies.kept c.run_part_quietly-done.new.self in
    let r = c.run_part_quietly-done.result in
    let some : 0 < r = omega (arith, c.if-done-eq0.false) in
    let mid = moved p (r - 1) now in
    let last = before-last-by q p c.args.stops.now c.as_slice-before.result.now c.loop-made.made r t now new i.program i.count some i.way i.reported c.run_part_quietly-done.ensures.quiet c.run_part_quietly-done.ensures.running c.run_part_quietly-done.ensures.moved in
    spared-by (at_end new) c.end_or.result c.in-Some.reason c.end_or.ensures
    (stopped-plain (named_stops p c.args.stops.now) mid.now new.now c.in-Some.reason
    (sym c.in-Some.is ∙ found-at (g.M.HasCopies.present c.run_part_quietly-done.new.self.machine).program p new.now mid.now new.now c.args.stops.now c.as_slice-before.result.now c.as_slice-before.result.now c.stopped_here.result (c.run_part_quietly-done.ensures.program ∙ i.program) refl
    refl c.stopped_here.ensures last.told))

pub loop-made-preserved : goal.loop-made-preserved
loop-made-preserved g c =
    let i = c.loop-made.invariant in
    let p = (g.M.HasCopies.present c.args.self.now.machine).program in
    let q = (g.M.HasCopies.present c.loop-made.self.machine).program in
    let t = held_timeline g.M.HasCopies.present g.M.HasCopies.kept c.args.self.now in
    let now = held_timeline g.M.HasCopies.present g.M.HasCopies.kept c.loop-made.self in
    let new = held_timeline g.M.HasCopies.present g.M.HasCopies.kept c.run_part_quietly-done.new.self in
    let kept = held_timeline g.M.HasCopies.present g.M.HasCopies.kept c.keep_between.new.self in
    let r = c.run_part_quietly-done.result in
    let some : 0 < r = omega (arith, c.if-done-eq0.false) in
    let mid = moved p (r - 1) now in
    let last = before-last-by q p c.args.stops.now c.as_slice-before.result.now c.loop-made.made r t now new i.program i.count some i.way i.reported c.run_part_quietly-done.ensures.quiet c.run_part_quietly-done.ensures.running c.run_part_quietly-done.ensures.moved in
    let none = sym c.in_default.is
    ∙ found-at (g.M.HasCopies.present c.run_part_quietly-done.new.self.machine).program p new.now mid.now new.now c.args.stops.now c.as_slice-before.result.now c.as_slice-before.result.now c.stopped_here.result (c.run_part_quietly-done.ensures.program ∙ i.program) refl
    refl c.stopped_here.ensures last.told in
    let sum : (c.loop-made.made + (r - 1)) + 1 ≡ c.loop-made.made + r = omega (arith, some) in
    let way = subst (λ n. IsOnWay p (named_stops p c.args.stops.now) t n new) sum (on-more p (named_stops p c.args.stops.now) (c.loop-made.made + (r - 1)) t mid new last.way last.runs last.step none) in
    let told = reported-still p mid.now new.now c.args.stops.now c.as_slice-before.result.now last.told none in
    record {
      program = c.keep_between.ensures.program ∙ c.run_part_quietly-done.ensures.program ∙ i.program;
      position = omega (arith, c.keep_between.ensures.position, c.run_part_quietly-done.ensures.position, i.position);
      few = omega (arith, c.run_part_quietly-done.ensures.few, c.part_length-part.ensures.few, c.loop-made-test.true);
      way = subst (λ (u : Timeline). IsOnWay p (named_stops p c.args.stops.now) t (c.loop-made.made + r) u) (sym c.keep_between.ensures.same) way;
      count = i.count;
      reported = subst (λ (u : Timeline). AllTell p u.now c.args.stops.now c.as_slice-before.result.now) (sym c.keep_between.ensures.same) told;
    }
