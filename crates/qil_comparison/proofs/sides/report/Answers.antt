-- The report is that of the two runs, however their moves are kept.
use Rattle.std.proofs.Common.{◌≡◌, ◌≤◌, ◌∙◌, refl, sym, arith, ℕ}
use Rattle.std.specs.Prelude.{Some, None}
use Rattle.qil_semantics.specs.Timeline.{position}
use Rattle.qil_comparison.specs.Told.{told_text}
use Rattle.qil_comparison.proofs.Comparisons.{reported_of}
use Rattle.qil_comparison.proofs.Reporting.{reported}
use Rattle.qil_comparison.proofs.sides.report.Goals as goal

pub compare-answer-requires : goal.compare-answer-requires
compare-answer-requires g c = λ lifetimes.
    let good = c.requires.start.0 in
    let bad = c.requires.start.1 in
    ((refl, tt), (c.requires.limit, (omega (arith, good), omega (arith, bad))))

pub returns-in-Ok-clause-report : goal.returns-in-Ok-clause-report
returns-in-Ok-clause-report g c =
    let u = g.R.Forward.timeline c.compare-answer.new.good in
    let v = g.R.Forward.timeline c.compare-answer.new.bad in
    let p = (g.R.Readers.whole c.args.good).program in
    let q = (g.R.Readers.whole c.args.bad).program in
    let text = told_text (g.R.Readers.whole c.compare-answer.new.good).program (g.R.Readers.whole c.compare-answer.new.bad).program u v c.compare-answer.result in (
      text,
      reported_of c.args.request.now p q (g.R.Forward.timeline c.args.good).now (g.R.Forward.timeline c.args.bad).now _ _ _ _ c.compare-answer.result text c.position.ensures c.position-in-Ok.ensures
          (reported c.args.request.now p q (g.R.Readers.whole c.compare-answer.new.good).program (g.R.Readers.whole c.compare-answer.new.bad).program (g.R.Forward.timeline c.args.good) u (g.R.Forward.timeline c.args.bad) v c.compare-answer.result
          c.compare-answer.ensures.good_program c.compare-answer.ensures.bad_program c.requires.start.0 c.requires.start.1 c.compare-answer.ensures.near.0 c.compare-answer.ensures.near.1 c.compare-answer.ensures.answer),
      c.in-Ok.ensures.text,
    )

pub returns-clause-report : goal.returns-clause-report
returns-clause-report g c =
    let u = g.R.Forward.timeline c.compare-answer.new.good in
    let v = g.R.Forward.timeline c.compare-answer.new.bad in
    let p = (g.R.Readers.whole c.args.good).program in
    let q = (g.R.Readers.whole c.args.bad).program in
    let text = told_text (g.R.Readers.whole c.compare-answer.new.good).program (g.R.Readers.whole c.compare-answer.new.bad).program u v c.compare-answer.result in (
      position u,
      position v,
      c.compare-answer.result,
      text,
      reported c.args.request.now p q (g.R.Readers.whole c.compare-answer.new.good).program (g.R.Readers.whole c.compare-answer.new.bad).program (g.R.Forward.timeline c.args.good) u (g.R.Forward.timeline c.args.bad) v c.compare-answer.result
          c.compare-answer.ensures.good_program c.compare-answer.ensures.bad_program c.requires.start.0 c.requires.start.1 c.compare-answer.ensures.near.0 c.compare-answer.ensures.near.1 c.compare-answer.ensures.answer,
      c.in-Err.ensures.text,
    )
