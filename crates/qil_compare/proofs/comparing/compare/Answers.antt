-- Both sides go on to their next events, which are judged.
use Rattle.std.proofs.Common.{◌≡◌, ◌∙◌, refl, sym, subst, inl, inr, arith, Some, None}
use Rattle.qil_compare.proofs.Likeness.{alike_as, alike_swapped}
use Rattle.qil_compare.proofs.Fronts.{AreAlike, alike_begun, both_found, alike_more, answered, limited, next_as, judges_as}
use Rattle.qil_compare.proofs.comparing.compare.Goals as goal

pub loop-events-init : goal.loop-events-init
loop-events-init g c = record {
  good_program = refl;
  bad_program = refl;
  good_near = omega (arith, c.requires.start.0);
  bad_near = omega (arith, c.requires.start.1);
  alike = alike_begun c.args.kinds (g.R.Readers.whole c.args.good.now).program (g.R.Readers.whole c.args.bad.now).program (g.R.Forward.timeline c.args.good.now) (g.R.Forward.timeline c.args.bad.now) c.written-good_told.result c.written-bad_told.result
      c.written-good_told.ensures c.written-bad_told.ensures;
}

pub next_event-one-requires : goal.next_event-one-requires
next_event-one-requires g c = λ lifetimes.
    let i = c.loop-events.invariant in
    let p = (g.R.Readers.whole c.args.good.now).program in
    let q = (g.R.Readers.whole c.args.bad.now).program in
    let near = c.is_far.ensures.near c.if-is_far.false in
    let limit = c.requires.limit in (
      (refl, tt),
      (
        omega (arith, near.0, limit),
        alike_as p q (g.R.Readers.whole c.loop-events.good).program c.code_of-bad_code.result.now c.names_alike-alike.result (sym i.good_program) (sym (c.code_of-bad_code.ensures ∙ i.bad_program)) c.names_alike-alike.ensures,
      ),
    )

pub next_event-other-requires : goal.next_event-other-requires
next_event-other-requires g c = λ lifetimes.
    let i = c.loop-events.invariant in
    let p = (g.R.Readers.whole c.args.good.now).program in
    let q = (g.R.Readers.whole c.args.bad.now).program in
    let near = c.is_far.ensures.near c.if-is_far.false in
    let limit = c.requires.limit in (
      (refl, tt),
      (
        omega (arith, near.1, limit),
        alike_as q p (g.R.Readers.whole c.loop-events.bad).program c.code_of-good_code.result.now c.names_alike-alike.result (sym i.bad_program) (sym (c.code_of-good_code.ensures ∙ (c.next_event-one.ensures.program ∙ i.good_program)))
            (alike_swapped p q c.names_alike-alike.result c.names_alike-alike.ensures),
      ),
    )

pub judge_here-judged-requires : goal.judge_here-judged-requires
judge_here-judged-requires g c = λ lifetimes.
    let i = c.loop-events.invariant in
    let p = (g.R.Readers.whole c.args.good.now).program in
    let q = (g.R.Readers.whole c.args.bad.now).program in
    let good = c.next_event-one.ensures.program ∙ i.good_program in
    let bad = c.next_event-other.ensures.program ∙ i.bad_program in (
      (refl, tt),
      alike_as p q (g.R.Readers.whole c.next_event-one.new.side).program (g.R.Readers.whole c.next_event-other.new.side).program c.names_alike-alike.result (sym good) (sym bad)
          c.names_alike-alike.ensures,
    )

pub returns-in-Some-clause-answer : goal.returns-in-Some-clause-answer
returns-in-Some-clause-answer g c =
    let i = c.loop-events.invariant in
    let p = (g.R.Readers.whole c.args.good.now).program in
    let q = (g.R.Readers.whole c.args.bad.now).program in
    let kinds = c.args.kinds in
    let u = g.R.Forward.timeline c.next_event-one.new.side in
    let v = g.R.Forward.timeline c.next_event-other.new.side in
    let one = next_as p (g.R.Readers.whole c.loop-events.good).program q c.code_of-bad_code.result.now kinds kinds c.args.limit (g.R.Forward.timeline c.loop-events.good) u c.loop-events.good_told c.next_event-one.new.told c.next_event-one.result
    i.good_program (c.code_of-bad_code.ensures ∙ i.bad_program) refl c.next_event-one.ensures.next in
    let other = next_as q (g.R.Readers.whole c.loop-events.bad).program p c.code_of-good_code.result.now kinds c.args.kinds c.args.limit (g.R.Forward.timeline c.loop-events.bad) v c.loop-events.bad_told c.next_event-other.new.told c.next_event-other.result
    i.bad_program (c.code_of-good_code.ensures ∙ (c.next_event-one.ensures.program ∙ i.good_program)) refl c.next_event-other.ensures.next in
    rw c.told_of.ensures (answered kinds c.args.limit p q (g.R.Forward.timeline c.args.good.now) u (g.R.Forward.timeline c.args.bad.now) v c.loop-events.events c.next_event-one.new.told c.next_event-other.new.told c.next_event-one.result c.next_event-other.result c.in-Some.verdict
    (both_found kinds p q c.args.limit (g.R.Forward.timeline c.args.good.now) (g.R.Forward.timeline c.loop-events.good) u (g.R.Forward.timeline c.args.bad.now) (g.R.Forward.timeline c.loop-events.bad) v c.loop-events.events
    c.loop-events.good_told c.loop-events.bad_told c.next_event-one.new.told c.next_event-other.new.told c.next_event-one.result c.next_event-other.result i.alike one other)
    (judges_as p (g.R.Readers.whole c.next_event-one.new.side).program q (g.R.Readers.whole c.next_event-other.new.side).program u.now v.now c.next_event-one.result c.next_event-other.result (Some c.in-Some.verdict) (Some c.in-Some.verdict)
    (c.next_event-one.ensures.program ∙ i.good_program) (c.next_event-other.ensures.program ∙ i.bad_program) refl c.in-Some.ensures))

pub loop-events-preserved : goal.loop-events-preserved
loop-events-preserved g c =
    let i = c.loop-events.invariant in
    let p = (g.R.Readers.whole c.args.good.now).program in
    let q = (g.R.Readers.whole c.args.bad.now).program in
    let kinds = c.args.kinds in
    let u = g.R.Forward.timeline c.next_event-one.new.side in
    let v = g.R.Forward.timeline c.next_event-other.new.side in
    let near = c.is_far.ensures.near c.if-is_far.false in
    let one = next_as p (g.R.Readers.whole c.loop-events.good).program q c.code_of-bad_code.result.now kinds kinds c.args.limit (g.R.Forward.timeline c.loop-events.good) u c.loop-events.good_told c.next_event-one.new.told c.next_event-one.result
    i.good_program (c.code_of-bad_code.ensures ∙ i.bad_program) refl c.next_event-one.ensures.next in
    let other = next_as q (g.R.Readers.whole c.loop-events.bad).program p c.code_of-good_code.result.now kinds c.args.kinds c.args.limit (g.R.Forward.timeline c.loop-events.bad) v c.loop-events.bad_told c.next_event-other.new.told c.next_event-other.result
    i.bad_program (c.code_of-good_code.ensures ∙ (c.next_event-one.ensures.program ∙ i.good_program)) refl c.next_event-other.ensures.next in
    record {
      good_program = c.next_event-one.ensures.program ∙ i.good_program;
      bad_program = c.next_event-other.ensures.program ∙ i.bad_program;
      good_near = (let at = c.next_event-one.ensures.near in let before = near.0 in let limit = c.requires.limit in omega (arith, at, before, limit));
      bad_near = (let at = c.next_event-other.ensures.near in let before = near.1 in let limit = c.requires.limit in omega (arith, at, before, limit));
      alike = alike_more kinds c.args.limit p q (g.R.Forward.timeline c.args.good.now) u (g.R.Forward.timeline c.args.bad.now) v c.loop-events.events c.next_event-one.new.told c.next_event-other.new.told c.next_event-one.result c.next_event-other.result
          (both_found kinds p q c.args.limit (g.R.Forward.timeline c.args.good.now) (g.R.Forward.timeline c.loop-events.good) u (g.R.Forward.timeline c.args.bad.now) (g.R.Forward.timeline c.loop-events.bad) v c.loop-events.events
          c.loop-events.good_told c.loop-events.bad_told c.next_event-one.new.told c.next_event-other.new.told c.next_event-one.result c.next_event-other.result i.alike one other)
          (judges_as p (g.R.Readers.whole c.next_event-one.new.side).program q (g.R.Readers.whole c.next_event-other.new.side).program u.now v.now c.next_event-one.result c.next_event-other.result None None
          (c.next_event-one.ensures.program ∙ i.good_program) (c.next_event-other.ensures.program ∙ i.bad_program) refl c.in_default.ensures);
    }

pub returns-then-is_far-clause-answer : goal.returns-then-is_far-clause-answer
returns-then-is_far-clause-answer g c =
    let p = (g.R.Readers.whole c.args.good.now).program in
    let q = (g.R.Readers.whole c.args.bad.now).program in
    limited c.args.kinds c.args.limit p q (g.R.Forward.timeline c.args.good.now) (g.R.Forward.timeline c.loop-events.good) (g.R.Forward.timeline c.args.bad.now) (g.R.Forward.timeline c.loop-events.bad) c.loop-events.events
    c.loop-events.good_told c.loop-events.bad_told c.limited.result c.loop-events.invariant.alike (elim (c.is_far.ensures.far c.if-is_far.true) [
      | inl good ↦ inl good
      | inr bad ↦ inr (inl bad)
    ]) c.limited.ensures

pub returns-clause-answer : goal.returns-clause-answer
returns-clause-answer g c =
    let p = (g.R.Readers.whole c.args.good.now).program in
    let q = (g.R.Readers.whole c.args.bad.now).program in
    let t = g.R.Forward.timeline c.args.good.now in
    let u = g.R.Forward.timeline c.loop-events.good in
    let w = g.R.Forward.timeline c.args.bad.now in
    let v = g.R.Forward.timeline c.loop-events.bad in
    let last : c.loop-events.events ≡ 18446744073709551615 = omega (arith, c.loop-events-test.false, c.loop-events.auto.events-end) in
    let alike : AreAlike c.args.kinds p q t u w v 18446744073709551615 c.loop-events.good_told c.loop-events.bad_told =
    subst (λ n. AreAlike c.args.kinds p q t u w v n c.loop-events.good_told c.loop-events.bad_told) last c.loop-events.invariant.alike in
    limited c.args.kinds c.args.limit p q t u w v 18446744073709551615 c.loop-events.good_told c.loop-events.bad_told c.limited-2.result alike (inr (inr (omega arith))) c.limited-2.ensures
