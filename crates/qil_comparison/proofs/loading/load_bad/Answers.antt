-- Why the text isn't loaded; and what is written of both, once it is.
use Rattle.std.proofs.Common.{◌∙◌, ap}
use Rattle.qil_tree.specs.declared.tree.Program.{Program}
use Rattle.qil_layout.specs.Layout.{fault_of}
use Rattle.qil_semantics.specs.Start.{start_of}
use Rattle.qil_session.proofs.Explaining.{check-explained}
use Rattle.qil_comparison.specs.declared.request.SideName.TheVariants.{Good}
use Rattle.qil_comparison.specs.Compared.{opened_as}
use Rattle.qil_comparison.proofs.Loads.{unloaded, refused_so}
use Rattle.qil_comparison.proofs.loading.load_bad.Goals as goal

pub returns-in-Ok-clause-written : goal.returns-in-Ok-clause-written
returns-in-Ok-clause-written g c = λ one p good ep. c.lay_bad.ensures.written one c.args.text.now p good c.in-Ok.ensures.accepted ep

pub returns-in-Ok-clause-unloaded : goal.returns-in-Ok-clause-unloaded
returns-in-Ok-clause-unloaded g c = c.lay_bad.ensures.unloaded c.args.text.now c.in-Ok.ensures.accepted

pub returns-in-Ok-clause-only_begun : goal.returns-in-Ok-clause-only_begun
returns-in-Ok-clause-only_begun g c = λ verdict start accepts starts.
    let r = c.args.request.now in
    let same = c.in-Ok.ensures.only_accepted verdict accepts.checks in
    c.lay_bad.ensures.only_begun start (ap (λ (p : Program g.row.A.Denot). fault_of p) same ∙ accepts.lies)
    (ap (λ (p : Program g.row.A.Denot). start_of p r.func.now r.args.now) same ∙ starts)

pub returns-in-Ok-clause-only_refused : goal.returns-in-Ok-clause-only_refused
returns-in-Ok-clause-only_refused g c = λ refusal refuses.
    let r = c.args.request.now in
    refused_so g.row.A.Denot c.args.text.now.bytes.now r.func.now r.args.now c.in-Ok.checked.program refusal refuses
    c.in-Ok.ensures.only_refused c.in-Ok.ensures.only_accepted c.lay_bad.ensures.only_laid_out c.lay_bad.ensures.only_started

pub returns-in-Err-clause-unloaded : goal.returns-in-Err-clause-unloaded
returns-in-Err-clause-unloaded g c =
    let text = c.args.text.now in
    let r = c.args.request.now in
    unloaded g.row.A.Denot text r c.in-Err.error (check-explained g.row.A.Denot (opened_as text r Good) c.in-Err.error c.in-Err.ensures.refused)

pub returns-in-Err-clause-only_begun : goal.returns-in-Err-clause-only_begun
returns-in-Err-clause-only_begun g c = λ verdict start accepts starts. c.in-Err.ensures.only_accepted verdict accepts.checks
