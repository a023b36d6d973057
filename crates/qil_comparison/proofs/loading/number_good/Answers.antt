-- Why one of the texts isn't loaded; and what is written of both, once they are.
use Rattle.std.proofs.Common.{◌∙◌, ap}
use Rattle.qil_tree.specs.declared.tree.Program.{Program}
use Rattle.qil_semantics.specs.Start.{start_of}
use Rattle.qil_loading.specs.Load.{Accepts}
use Rattle.qil_comparison.specs.Compared.{setup_of}
use Rattle.qil_comparison.proofs.Loads.{unstarted, starts_refused, ok_is_no_fault, good_unloaded, bad_unloaded, good_begins}
use Rattle.qil_comparison.proofs.loading.number_good.Goals as goal

pub returns-in-Err-can_start-clause-unloaded : goal.returns-in-Err-can_start-clause-unloaded
returns-in-Err-can_start-clause-unloaded g c = λ one checks.
    let r = c.args.request.now in
    rw c.not_loaded-in-Err-can_start.ensures (good_unloaded g.row.A.Denot (setup_of one c.args.bad.now r) c.in-Err-can_start.error
    (unstarted one r c.args.checked.now c.in-Ok.code c.in-Err-can_start.error
    (record { checks = checks; lies = c.requires.lies }) c.in-Ok.ensures c.in-Err-can_start.ensures.fault))

pub returns-in-Err-can_start-clause-only_begun : goal.returns-in-Err-can_start-clause-only_begun
returns-in-Err-can_start-clause-only_begun g c = λ q s t ok accepts starts.
    let r = c.args.request.now in
    starts_refused (start_of c.in-Ok.code r.func.now r.args.now) s c.in-Err-can_start.error
    (ap (λ (p : Program g.row.A.Denot). start_of p r.func.now r.args.now) c.in-Ok.ensures ∙ ok) c.in-Err-can_start.ensures.fault

pub returns-in-Ok-load_bad-clause-written : goal.returns-in-Ok-load_bad-clause-written
returns-in-Ok-load_bad-clause-written g c = λ one checks.
    c.in-Ok-load_bad.ensures.written one c.args.checked.now (record { checks = checks; lies = c.requires.lies }) c.in-Ok.ensures

pub returns-in-Ok-load_bad-clause-only_started : goal.returns-in-Ok-load_bad-clause-only_started
returns-in-Ok-load_bad-clause-only_started g c = λ fault refused.
    let r = c.args.request.now in
    ok_is_no_fault (start_of c.in-Ok.code r.func.now r.args.now) fault c.in-Ok-can_start.ensures.starts
    (ap (λ (p : Program g.row.A.Denot). start_of p r.func.now r.args.now) c.in-Ok.ensures ∙ refused)

pub returns-in-Ok-load_bad-clause-only_refused : goal.returns-in-Ok-load_bad-clause-only_refused
returns-in-Ok-load_bad-clause-only_refused g c = λ refusal refuses. c.in-Ok-load_bad.ensures.only_refused refusal refuses

pub returns-clause-unloaded : goal.returns-clause-unloaded
returns-clause-unloaded g c = λ one checks.
    let r = c.args.request.now in
    let setup = setup_of one c.args.bad.now r in
    let accepts : Accepts one.bytes.now c.args.checked.now = record { checks = checks; lies = c.requires.lies } in
    rw c.not_loaded-in-Err-load_bad.ensures (bad_unloaded setup c.in-Err-load_bad.error c.args.checked.now
    (good_begins setup c.args.checked.now c.in-Ok.code accepts c.in-Ok.ensures c.in-Ok-can_start.ensures.starts)
    c.in-Err-load_bad.ensures.unloaded)

pub returns-clause-only_begun : goal.returns-clause-only_begun
returns-clause-only_begun g c = λ q s t ok accepts starts. rw c.not_loaded-in-Err-load_bad.ensures (c.in-Err-load_bad.ensures.only_begun q t accepts starts)
