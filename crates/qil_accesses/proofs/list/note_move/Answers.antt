-- A move that faulted made none; else those that were ahead were made.
use Rattle.std.proofs.Common.{sym, ◌∙◌}
use Rattle.qil_state.specs.State.{state_of}
use Rattle.qil_accesses.proofs.Here.{faulted_none, made_all}
use Rattle.qil_accesses.proofs.list.note_move.Goals as goal

pub returns-then-is_faulted : goal.returns-then-is_faulted
returns-then-is_faulted g c = λ s is.
    let w = g.M.Readers.whole c.args.machine.now in
    faulted_none w.program c.args.start c.args.count c.args.position s (state_of w) c.args.list.now (sym c.is_faulted.ensures ∙ c.if-is_faulted.true)

pub returns : goal.returns
returns g c = λ s is.
    let w = g.M.Readers.whole c.args.machine.now in
    made_all w.program c.args.start c.args.count c.args.position s (state_of w) c.args.ahead c.args.list.now _ (sym c.is_faulted.ensures ∙ c.if-is_faulted.false) is c.add_made.ensures
