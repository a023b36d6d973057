-- Why the program can't be run; and what is written of both, where it can.
use Rattle.std.proofs.Common.{◌∙◌, ap, sym}
use Rattle.qil_tree.specs.declared.tree.Program.{Program}
use Rattle.qil_semantics.specs.Start.{start_of}
use Rattle.qil_session.proofs.Explaining.{layout-explained, layout-shortage}
use Rattle.qil_comparison.specs.declared.request.SideName.TheVariants.{Good}
use Rattle.qil_comparison.specs.Compared.{opened_as}
use Rattle.qil_comparison.proofs.Loads.{unloaded, start_unloaded, start_shortage, lies_not}
use Rattle.qil_comparison.proofs.loading.lay_bad.Goals as goal

pub returns-in-Err-clause-unloaded : goal.returns-in-Err-clause-unloaded
returns-in-Err-clause-unloaded g c = λ two checks.
    let r = c.args.request.now in
    unloaded g.row.A.Denot two r c.from.result
    (layout-explained (opened_as two r Good) c.args.checked.now c.in-Err.error c.from.result checks c.in-Err.ensures.fault c.from.ensures)

pub returns-in-Err-clause-only_begun : goal.returns-in-Err-clause-only_begun
returns-in-Err-clause-only_begun g c = λ start none ok. layout-shortage c.args.checked.now.program c.in-Err.error c.from.result none c.in-Err.ensures.fault c.from.ensures

pub returns-in-Ok-clause-written : goal.returns-in-Ok-clause-written
returns-in-Ok-clause-written g c = λ one two p good checks ep. c.number_bad.ensures.written one two p good checks ep

pub returns-in-Ok-clause-unloaded : goal.returns-in-Ok-clause-unloaded
returns-in-Ok-clause-unloaded g c = λ two checks. c.number_bad.ensures.unloaded two checks

pub returns-in-Ok-clause-only_begun : goal.returns-in-Ok-clause-only_begun
returns-in-Ok-clause-only_begun g c = λ start none ok. c.number_bad.ensures.only_begun start ok

pub returns-in-Ok-clause-only_laid_out : goal.returns-in-Ok-clause-only_laid_out
returns-in-Ok-clause-only_laid_out g c = λ code line fault. lies_not c.args.checked.now.program code line c.in-Ok.ensures.no_fault fault

pub returns-in-Ok-clause-only_started : goal.returns-in-Ok-clause-only_started
returns-in-Ok-clause-only_started g c = λ fault refused. c.number_bad.ensures.only_started fault refused
