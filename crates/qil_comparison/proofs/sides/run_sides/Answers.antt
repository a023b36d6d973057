-- Both programs start, their runs are reported, and a script is served on one of them.
use Rattle.std.specs.Prelude.{Some, None}
use Rattle.std.proofs.Common.{◌≡◌, ◌∙◌, ap, refl, arith}
use Rattle.qil_state.specs.State.{state_of}
use Rattle.qil_comparison.specs.declared.request.SideName.TheVariants.{Good, Bad}
use Rattle.qil_comparison.specs.Compared.{setup_of}
use Rattle.qil_comparison.proofs.Comparisons.{Written-memory, few_none, here_of, here_cut, here_told, here_good, here_bad}
use Rattle.qil_comparison.proofs.Reporting.{goes_started}
use Rattle.qil_comparison.proofs.sides.run_sides.Goals as goal

pub returns-in-Err-clause-written : goal.returns-in-Err-clause-written
returns-in-Err-clause-written g c = λ one two p q good bad ep eq. Written-memory g.row.A.Denot (setup_of one two c.args.request.now) _ None _ _ refl

pub returns-in-Err-start-clause-written : goal.returns-in-Err-start-clause-written
returns-in-Err-start-clause-written g c = λ one two p q good bad ep eq. Written-memory g.row.A.Denot (setup_of one two c.args.request.now) _ None _ _ refl

pub returns-in-Err-clause-few : goal.returns-in-Err-clause-few
returns-in-Err-clause-few g c = few_none (g.S.Source.remaining c.args.source.now)

pub returns-in-Err-start-clause-few : goal.returns-in-Err-start-clause-few
returns-in-Err-start-clause-few g c = few_none (g.S.Source.remaining c.args.source.now)

pub returns-in-Err-report-clause-few : goal.returns-in-Err-report-clause-few
returns-in-Err-report-clause-few g c = few_none (g.S.Source.remaining c.args.source.now)

pub returns-in-None-clause-few : goal.returns-in-None-clause-few
returns-in-None-clause-few g c = few_none (g.S.Source.remaining c.args.source.now)

pub returns-in-Err-report-clause-written : goal.returns-in-Err-report-clause-written
returns-in-Err-report-clause-written g c = λ one two p q good bad ep eq.
    let s = state_of c.in-Ok.first.whole in
    let t = state_of c.in-Ok-start.second.whole in
    let (k, j, answer, text, report, cut) = c.in-Err-report.ensures.report in
    here_cut (setup_of one two c.args.request.now) p q s t k j answer text _ None _ _
    (here_of one two c.args.request.now p q c.args.good.now.program c.args.bad.now.program c.in-Ok.first.whole.program c.in-Ok-start.second.whole.program s t k j answer text good bad ep eq c.in-Ok.ensures.program c.in-Ok-start.ensures.program
    c.in-Ok.ensures.ok c.in-Ok-start.ensures.ok report) cut

pub returns-in-None-clause-written : goal.returns-in-None-clause-written
returns-in-None-clause-written g c = λ one two p q good bad ep eq.
    let s = state_of c.in-Ok.first.whole in
    let t = state_of c.in-Ok-start.second.whole in
    let x = c.in-Ok-report.reported in
    let report = c.in-Ok-report.ensures.report in
    here_told (setup_of one two c.args.request.now) p q s t x.good x.bad x.answer report.0 _ None _ _
    (here_of one two c.args.request.now p q c.args.good.now.program c.args.bad.now.program c.in-Ok.first.whole.program c.in-Ok-start.second.whole.program s t x.good x.bad x.answer report.0 good bad ep eq c.in-Ok.ensures.program c.in-Ok-start.ensures.program
    c.in-Ok.ensures.ok c.in-Ok-start.ensures.ok report.1) c.in-None.is report.2

pub serve_from-requires : goal.serve_from-requires
serve_from-requires g c =
    let x = c.in-Ok-report.reported in
    let r = c.args.request.now in
    let counted = c.in-Ok-report.ensures.counted in
    let run = c.in-Ok.first in
    record {
      reads = c.requires.reads;
      writes = omega (arith, counted, c.requires.writes);
      limit = c.requires.limit;
      bound = c.requires.bound;
      goes = goes_started run.whole.program c.args.good.now.program r.func.now r.args.now (state_of run.whole) x.good c.in-Ok.ensures.program c.in-Ok.ensures.ok c.in-Ok-report.ensures.report.1.good_goes;
    }

pub serve_from-requires-in-Some-Bad : goal.serve_from-requires-in-Some-Bad
serve_from-requires-in-Some-Bad g c =
    let x = c.in-Ok-report.reported in
    let r = c.args.request.now in
    let counted = c.in-Ok-report.ensures.counted in
    let run = c.in-Ok-start.second in
    record {
      reads = c.requires.reads;
      writes = omega (arith, counted, c.requires.writes);
      limit = c.requires.limit;
      bound = c.requires.bound;
      goes = goes_started run.whole.program c.args.bad.now.program r.func.now r.args.now (state_of run.whole) x.bad c.in-Ok-start.ensures.program c.in-Ok-start.ensures.ok c.in-Ok-report.ensures.report.1.bad_goes;
    }

pub returns-in-Some-Good-clause-written : goal.returns-in-Some-Good-clause-written
returns-in-Some-Good-clause-written g c = λ one two p q good bad ep eq.
    let side : c.in-Some-Good.field-0 ≡ Good = rw c.in-Some-Good.is at c.in-Some-Good.field-0-is in
    let session : c.args.request.now.session ≡ Some Good = c.in-Some-Good.is ∙ ap Some side in
    let s = state_of c.in-Ok.first.whole in
    let t = state_of c.in-Ok-start.second.whole in
    let x = c.in-Ok-report.reported in
    let report = c.in-Ok-report.ensures.report in
    here_good c.serve_from.result (setup_of one two c.args.request.now) p q c.args.good.now.program s t x.good x.bad x.answer report.0 _ _ _ _ _
    (here_of one two c.args.request.now p q c.args.good.now.program c.args.bad.now.program c.in-Ok.first.whole.program c.in-Ok-start.second.whole.program s t x.good x.bad x.answer report.0 good bad ep eq c.in-Ok.ensures.program c.in-Ok-start.ensures.program
    c.in-Ok.ensures.ok c.in-Ok-start.ensures.ok report.1) session ep report.2 (c.serve_from.ensures.served s c.in-Ok.ensures.ok)

pub returns-in-Some-Bad-clause-written : goal.returns-in-Some-Bad-clause-written
returns-in-Some-Bad-clause-written g c = λ one two p q good bad ep eq.
    let side : c.in-Some-Bad.field-0 ≡ Bad = rw c.in-Some-Bad.is at c.in-Some-Bad.field-0-is in
    let session : c.args.request.now.session ≡ Some Bad = c.in-Some-Bad.is ∙ ap Some side in
    let s = state_of c.in-Ok.first.whole in
    let t = state_of c.in-Ok-start.second.whole in
    let x = c.in-Ok-report.reported in
    let report = c.in-Ok-report.ensures.report in
    here_bad c.serve_from-in-Some-Bad.result (setup_of one two c.args.request.now) p q c.args.bad.now.program s t x.good x.bad x.answer report.0 _ _ _ _ _
    (here_of one two c.args.request.now p q c.args.good.now.program c.args.bad.now.program c.in-Ok.first.whole.program c.in-Ok-start.second.whole.program s t x.good x.bad x.answer report.0 good bad ep eq c.in-Ok.ensures.program c.in-Ok-start.ensures.program
    c.in-Ok.ensures.ok c.in-Ok-start.ensures.ok report.1) session eq report.2 (c.serve_from-in-Some-Bad.ensures.served t c.in-Ok-start.ensures.ok)
