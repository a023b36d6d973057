-- Why the good text isn't loaded; and what comes of both, once it is.
use Rattle.std.proofs.Common.{◌∙◌, ap}
use Rattle.qil_tree.specs.declared.tree.Program.{Program}
use Rattle.qil_layout.specs.Layout.{fault_of}
use Rattle.qil_semantics.specs.Start.{start_of}
use Rattle.qil_session.proofs.Explaining.{check-explained}
use Rattle.qil_comparison.specs.declared.request.SideName.TheVariants.{Good}
use Rattle.qil_comparison.specs.Compared.{setup_of, opened_as}
use Rattle.qil_comparison.proofs.Loads.{unloaded, good_unloaded, refused_so, refused_on}
use Rattle.qil_comparison.proofs.loading.load_both.Goals as goal

pub returns-in-Ok-clause-written : goal.returns-in-Ok-clause-written
returns-in-Ok-clause-written g c = c.lay_good.ensures.written c.args.good.now c.in-Ok.ensures.accepted

pub returns-in-Ok-clause-unloaded : goal.returns-in-Ok-clause-unloaded
returns-in-Ok-clause-unloaded g c = c.lay_good.ensures.unloaded c.args.good.now c.in-Ok.ensures.accepted

pub returns-in-Ok-clause-only_begun : goal.returns-in-Ok-clause-only_begun
returns-in-Ok-clause-only_begun g c = λ p q s t begin.
    let r = c.args.request.now in
    let same = c.in-Ok.ensures.only_accepted p begin.good_begins.accepts.checks in
    c.lay_good.ensures.only_begun q s t (ap (λ (x : Program g.row.A.Denot). fault_of x) same ∙ begin.good_begins.accepts.lies)
    (ap (λ (x : Program g.row.A.Denot). start_of x r.func.now r.args.now) same ∙ begin.good_begins.starts) begin.bad_begins.accepts begin.bad_begins.starts

pub returns-in-Ok-clause-only_refused : goal.returns-in-Ok-clause-only_refused
returns-in-Ok-clause-only_refused g c = λ side refusal refused.
    let r = c.args.request.now in
    refused_on g.row.A.Denot (setup_of c.args.good.now c.args.bad.now r) side refusal refused
    (λ refuses. refused_so g.row.A.Denot c.args.good.now.bytes.now r.func.now r.args.now c.in-Ok.checked.program refusal refuses
    c.in-Ok.ensures.only_refused c.in-Ok.ensures.only_accepted c.lay_good.ensures.only_laid_out c.lay_good.ensures.only_started)
    (c.lay_good.ensures.only_refused refusal)

pub returns-in-Err-clause-unloaded : goal.returns-in-Err-clause-unloaded
returns-in-Err-clause-unloaded g c =
    let text = c.args.good.now in
    let r = c.args.request.now in
    rw c.not_loaded.ensures (good_unloaded g.row.A.Denot (setup_of text c.args.bad.now r) c.in-Err.error
    (unloaded g.row.A.Denot text r c.in-Err.error (check-explained g.row.A.Denot (opened_as text r Good) c.in-Err.error c.in-Err.ensures.refused)))

pub returns-in-Err-clause-only_begun : goal.returns-in-Err-clause-only_begun
returns-in-Err-clause-only_begun g c = λ p q s t begin. rw c.not_loaded.ensures (c.in-Err.ensures.only_accepted p begin.good_begins.accepts.checks)
