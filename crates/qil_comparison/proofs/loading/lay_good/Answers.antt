-- Why one of the texts isn't loaded; and what is written of both, once they are.
use Rattle.std.proofs.Common.{◌∙◌, ap, sym, subst}
use Rattle.qil_tree.specs.declared.tree.Program.{Program}
use Rattle.qil_semantics.specs.Start.{start_of}
use Rattle.qil_loading.specs.Load.{Accepts}
use Rattle.qil_session.proofs.Explaining.{layout-explained, layout-shortage}
use Rattle.qil_comparison.specs.declared.request.SideName.TheVariants.{Good, Bad}
use Rattle.qil_comparison.specs.Compared.{setup_of, opened_as}
use Rattle.qil_comparison.proofs.Loads.{unloaded, unstarted, starts_refused, ok_is_no_fault, lies_not, good_unloaded, bad_unloaded, good_begins}
use Rattle.qil_comparison.proofs.loading.lay_good.Goals as goal

pub returns-in-Err-clause-unloaded : goal.returns-in-Err-clause-unloaded
returns-in-Err-clause-unloaded g c = λ one checks.
    let r = c.args.request.now in
    rw c.not_loaded.ensures (good_unloaded g.row.A.Denot (setup_of one c.args.bad.now r) c.from.result
    (unloaded g.row.A.Denot one r c.from.result
    (layout-explained (opened_as one r Good) c.args.checked.now c.in-Err.error c.from.result checks c.in-Err.ensures.fault c.from.ensures)))

pub returns-in-Err-clause-only_begun : goal.returns-in-Err-clause-only_begun
returns-in-Err-clause-only_begun g c = λ q s t none ok accepts starts.
    rw c.not_loaded.ensures (layout-shortage c.args.checked.now.program c.in-Err.error c.from.result none c.in-Err.ensures.fault c.from.ensures)

pub returns-in-Ok-clause-written : goal.returns-in-Ok-clause-written
returns-in-Ok-clause-written g c = λ one checks. c.number_good.ensures.written one checks

pub returns-in-Ok-clause-unloaded : goal.returns-in-Ok-clause-unloaded
returns-in-Ok-clause-unloaded g c = λ one checks. c.number_good.ensures.unloaded one checks

pub returns-in-Ok-clause-only_begun : goal.returns-in-Ok-clause-only_begun
returns-in-Ok-clause-only_begun g c = λ q s t none ok accepts starts. c.number_good.ensures.only_begun q s t ok accepts starts

pub returns-in-Ok-clause-only_laid_out : goal.returns-in-Ok-clause-only_laid_out
returns-in-Ok-clause-only_laid_out g c = λ code line fault. lies_not c.args.checked.now.program code line c.in-Ok.ensures.no_fault fault

pub returns-in-Ok-clause-only_started : goal.returns-in-Ok-clause-only_started
returns-in-Ok-clause-only_started g c = λ fault refused. c.number_good.ensures.only_started fault refused

pub returns-in-Ok-clause-only_refused : goal.returns-in-Ok-clause-only_refused
returns-in-Ok-clause-only_refused g c = λ refusal refuses. c.number_good.ensures.only_refused refusal refuses
