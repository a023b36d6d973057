-- What is written of both programs, where the bad one can be run.
use Rattle.std.proofs.Common.{◌∙◌, ap}
use Rattle.qil_tree.specs.declared.tree.Program.{Program}
use Rattle.qil_semantics.specs.Start.{start_of}
use Rattle.qil_comparison.proofs.Loads.{start_unloaded, start_shortage}
use Rattle.qil_comparison.proofs.loading.number_bad.Goals as goal

pub returns-clause-written : goal.returns-clause-written
returns-clause-written g c = λ one two p good checks ep.
    c.start_both.ensures.written one two p c.args.checked.now good (record { checks = checks; lies = c.requires.lies }) ep c.in-Ok.ensures

pub returns-clause-unloaded : goal.returns-clause-unloaded
returns-clause-unloaded g c = λ two checks.
    start_unloaded two c.args.request.now c.args.checked.now c.in-Ok.code c.start_both.result
    (record { checks = checks; lies = c.requires.lies }) c.in-Ok.ensures c.start_both.ensures.fault

pub returns-clause-only_begun : goal.returns-clause-only_begun
returns-clause-only_begun g c = λ start ok.
    let r = c.args.request.now in
    start_shortage (start_of c.in-Ok.code r.func.now r.args.now) start c.start_both.result
    (ap (λ (p : Program g.row.A.Denot). start_of p r.func.now r.args.now) c.in-Ok.ensures ∙ ok) c.start_both.ensures.fault

pub returns-clause-only_started : goal.returns-clause-only_started
returns-clause-only_started g c = λ fault refused.
    let r = c.args.request.now in
    c.start_both.ensures.only_started fault (ap (λ (p : Program g.row.A.Denot). start_of p r.func.now r.args.now) c.in-Ok.ensures ∙ refused)
