-- Each stretch of moves goes further, and an event is that of the last.
use Rattle.std.proofs.Common.{◌≡◌, ◌+◌, ◌≤◌, ◌<◌, arith, ◌∙◌, sym, ap, refl, subst, Some, None}
use Rattle.qil_tree.specs.declared.tree.Program.{Program}
use Rattle.qil_semantics.specs.Timeline.{at_end, moved}
use Rattle.qil_compare.specs.declared.event.Found.{Found}
use Rattle.qil_compare.specs.Next.{RunsToEvent}
use Rattle.qil_compare.proofs.Likeness.{alike_as}
use Rattle.qil_compare.proofs.Walking.{IsSilent, silent_begun, silent_more, position_at, kept_at, happened_at, strode, run_event, run_over, run_last}
use Rattle.qil_compare.proofs.running.run_to_event.Goals as goal

pub loop-made-init : goal.loop-made-init
loop-made-init g c = record {
  few = omega arith;
  program = refl;
  way = silent_begun (g.R.Readers.whole c.args.side.now).program c.args.other.now c.args.kinds (g.R.Forward.timeline c.args.side.now);
}

pub returns-then-is_at_end-clause-run : goal.returns-then-is_at_end-clause-run
returns-then-is_at_end-clause-run g c =
    let i = c.loop-made.invariant in
    let now = g.R.Forward.timeline c.loop-made.side in
    run_over (g.R.Readers.whole c.args.side.now).program c.args.other.now c.args.kinds c.args.limit c.loop-made.made (g.R.Forward.timeline c.args.side.now) now now c.written.result i.way
    (sym c.is_at_end.ensures ∙ c.if-is_at_end.true) refl i.few c.written.ensures

pub before_moves-before-requires : goal.before_moves-before-requires
before_moves-before-requires g c = λ lifetimes. ((refl, tt), sym c.is_at_end.ensures ∙ c.if-is_at_end.false)

pub run-done-requires : goal.run-done-requires
run-done-requires g c =
    let i = c.loop-made.invariant in
    let at = position_at (g.R.Readers.whole c.args.side.now).program c.loop-made.made (g.R.Forward.timeline c.args.side.now) (g.R.Forward.timeline c.loop-made.side) i.way.moves in
    omega (arith, at, c.requires.near, c.min-count.ensures, c.loop-made-test.true)

pub happened_now-requires : goal.happened_now-requires
happened_now-requires g c = λ lifetimes.
    let same = sym (c.run-done.ensures.program ∙ c.loop-made.invariant.program) in (
      (refl, tt),
      alike_as (g.R.Readers.whole c.args.side.now).program c.args.other.now (g.R.Readers.whole c.run-done.new.self).program c.args.other.now c.args.alike same refl c.requires.alike,
    )

pub returns-in-Some-clause-run : goal.returns-in-Some-clause-run
returns-in-Some-clause-run g c =
    let i = c.loop-made.invariant in
    let p = (g.R.Readers.whole c.args.side.now).program in
    let q = (g.R.Readers.whole c.loop-made.side).program in
    let other = c.args.other.now in
    let kinds = c.args.kinds in
    let t = g.R.Forward.timeline c.args.side.now in
    let now = g.R.Forward.timeline c.loop-made.side in
    let new = g.R.Forward.timeline c.run-done.new.self in
    let before = c.before_moves-before.result in
    let done = c.run-done.result in
    let kept = kept_at q p now.now now.now kinds before i.program refl c.before_moves-before.ensures in
    let some = kept.ahead.some in
    let stride = strode p other kinds c.loop-made.made done c.min-count.result t now new before i.way kept (sym c.is_at_end.ensures ∙ c.if-is_at_end.false)
    (c.run-done.ensures.moved ∙ ap (λ (x : Program _). moved x done now) i.program) c.run-done.ensures.few (omega (arith, c.min-count.ensures)) (omega (arith, c.min-count.ensures, some, c.loop-made-test.true))
    (λ j lt. ap (λ (x : Program _). at_end (moved x j now)) (sym i.program) ∙ c.run-done.ensures.running j lt) c.run-done.ensures.over in
    let had = happened_at (g.R.Readers.whole c.run-done.new.self).program p other new.now new.now kinds before (Some c.in-Some.first) (c.run-done.ensures.program ∙ i.program) refl c.in-Some.ensures in
    run_event p other kinds c.args.limit (c.loop-made.made + stride.count) t stride.last new c.in-Some.first stride.way stride.goes stride.on
    (let count = stride.count_is in omega (arith, count, c.run-done.ensures.few, c.min-count.ensures, c.loop-made-test.true)) (stride.told (Some c.in-Some.first) had)

pub loop-made-preserved : goal.loop-made-preserved
loop-made-preserved g c =
    let i = c.loop-made.invariant in
    let p = (g.R.Readers.whole c.args.side.now).program in
    let q = (g.R.Readers.whole c.loop-made.side).program in
    let other = c.args.other.now in
    let kinds = c.args.kinds in
    let t = g.R.Forward.timeline c.args.side.now in
    let now = g.R.Forward.timeline c.loop-made.side in
    let new = g.R.Forward.timeline c.run-done.new.self in
    let before = c.before_moves-before.result in
    let done = c.run-done.result in
    let kept = kept_at q p now.now now.now kinds before i.program refl c.before_moves-before.ensures in
    let some = kept.ahead.some in
    let stride = strode p other kinds c.loop-made.made done c.min-count.result t now new before i.way kept (sym c.is_at_end.ensures ∙ c.if-is_at_end.false)
    (c.run-done.ensures.moved ∙ ap (λ (x : Program _). moved x done now) i.program) c.run-done.ensures.few (omega (arith, c.min-count.ensures)) (omega (arith, c.min-count.ensures, some, c.loop-made-test.true))
    (λ j lt. ap (λ (x : Program _). at_end (moved x j now)) (sym i.program) ∙ c.run-done.ensures.running j lt) c.run-done.ensures.over in
    let had = happened_at (g.R.Readers.whole c.run-done.new.self).program p other new.now new.now kinds before None (c.run-done.ensures.program ∙ i.program) refl c.in_default.ensures in
    let count = stride.count_is in
    let sum : (c.loop-made.made + stride.count) + 1 ≡ c.loop-made.made + done = omega (arith, count) in
    record {
      few = omega (arith, c.run-done.ensures.few, c.min-count.ensures, c.loop-made-test.true);
      program = c.run-done.ensures.program ∙ i.program;
      way = subst (λ n. IsSilent p other kinds t n new) sum (silent_more p other kinds (c.loop-made.made + stride.count) t stride.last new stride.way stride.goes stride.on (stride.told None had));
    }

pub loop-made-smaller : goal.loop-made-smaller
loop-made-smaller g c =
    let i = c.loop-made.invariant in
    let p = (g.R.Readers.whole c.args.side.now).program in
    let q = (g.R.Readers.whole c.loop-made.side).program in
    let other = c.args.other.now in
    let kinds = c.args.kinds in
    let t = g.R.Forward.timeline c.args.side.now in
    let now = g.R.Forward.timeline c.loop-made.side in
    let new = g.R.Forward.timeline c.run-done.new.self in
    let before = c.before_moves-before.result in
    let done = c.run-done.result in
    let kept = kept_at q p now.now now.now kinds before i.program refl c.before_moves-before.ensures in
    let some = kept.ahead.some in
    let stride = strode p other kinds c.loop-made.made done c.min-count.result t now new before i.way kept (sym c.is_at_end.ensures ∙ c.if-is_at_end.false)
    (c.run-done.ensures.moved ∙ ap (λ (x : Program _). moved x done now) i.program) c.run-done.ensures.few (omega (arith, c.min-count.ensures)) (omega (arith, c.min-count.ensures, some, c.loop-made-test.true))
    (λ j lt. ap (λ (x : Program _). at_end (moved x j now)) (sym i.program) ∙ c.run-done.ensures.running j lt) c.run-done.ensures.over in
    let count = stride.count_is in
    omega (arith, count, c.run-done.ensures.few, c.min-count.ensures, c.loop-made-test.true)

pub returns-clause-run : goal.returns-clause-run
returns-clause-run g c =
    let i = c.loop-made.invariant in
    let p = (g.R.Readers.whole c.args.side.now).program in
    let other = c.args.other.now in
    let kinds = c.args.kinds in
    let now = g.R.Forward.timeline c.loop-made.side in
    let t = g.R.Forward.timeline c.args.side.now in
    let few = i.few in
    let all : c.loop-made.made ≡ c.args.limit = omega (arith, c.loop-made-test.false, few) in
    subst (λ (found : Found). RunsToEvent p other kinds c.args.limit t now c.written-2.result found) (sym c.over_or_limit.ensures)
    (run_last p other kinds c.args.limit c.loop-made.made t now c.written-2.result (at_end now) i.way refl all c.written-2.ensures)
