-- The shadow is that of the definition.
use Rattle.std.proofs.Common.{◌∙◌, ap, length}
use Rattle.qil_tree.specs.declared.tree.Program.{Program}
use Rattle.qil_shadow.specs.Shapes.{shapes_of}
use Rattle.qil_shadow.specs.Calls.{LiveCalls}
use Rattle.qil_shadow.proofs.StartObjects.{started, laid_datas}
use Rattle.qil_shadow.proofs.start.calls_at_start.Goals as goal

pub note_datas-requires : goal.note_datas-requires
note_datas-requires g c = record {
  laid = laid_datas c.args.code.now c.image.result.now c.as_slice.result.now c.image.ensures (c.as_slice.ensures ∙ ap (λ (p : Program g.row.A.Denot). p.datas) c.program-program.ensures) c.bytes.ensures.no_fault;
  first = c.new-objects.ensures;
  fresh = c.requires.fresh;
}

pub returns-clause-start : goal.returns-clause-start
returns-clause-start g c = λ f at.
    started c.args.code.now c.args.names.now f c.args.func.index _ c.new-calls.result _ c.note_datas.new.memory c.note_datas.new.objects c.note_functions.new.objects c.as_slice.result.now
    c.new-calls.ensures (c.in_ok-origins.ensures.frames f at) c.in_ok-note_datas.ensures.objects c.in_ok-note_functions.ensures.objects
    c.in_ok-note_datas.ensures.noted c.requires.own (c.as_slice.ensures ∙ ap (λ (p : Program g.row.A.Denot). p.datas) c.program-program.ensures)
    (ap length c.as_slice-count.ensures ∙ ap (λ (p : Program g.row.A.Denot). length p.funcs) c.program-program.ensures)

pub returns-clause-lies : goal.returns-clause-lies
returns-clause-lies g c = ap (λ (l : LiveCalls). shapes_of l.calls) c.new-calls.ensures ∙ c.in_ok-origins.ensures.lies
