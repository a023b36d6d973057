-- A write is told if it is to an object of both programs.
use Rattle.std.proofs.Common.{◌∙◌, ap}
use Rattle.qil_tree.specs.declared.tree.Program.{Program}
use Rattle.qil_state.specs.State.{state_of}
use Rattle.qil_compare.specs.Coded.{offset_of}
use Rattle.qil_compare.specs.Events.{has_data}
use Rattle.qil_compare.proofs.Happening.{if_not, if_so, write_is, write_none, told_as}
use Rattle.qil_compare.proofs.happened.wrote_at.Goals as goal

pub returns-in_default : goal.returns-in_default
returns-in_default g c = λ kinds. write_none (g.M.Readers.whole c.args.machine.now).program c.args.other.now (state_of (g.M.Readers.whole c.args.machine.now)) (record { start = c.args.start; count = c.args.count }) c.in_default.ensures

pub returns-then-not-has_data : goal.returns-then-not-has_data
returns-then-not-has_data g c = λ kinds.
    write_is (g.M.Readers.whole c.args.machine.now).program c.args.other.now (state_of (g.M.Readers.whole c.args.machine.now)) c.args.start c.args.count (offset_of c.in-Some.place) c.has_data.result c.in-Some.ensures
    (c.has_data.ensures ∙ ap (λ (q : Program _). has_data q c.in-Some.place.object.now) c.image.ensures) ∙ if_not c.has_data.result _ c.if-not-has_data.true

pub returns : goal.returns
returns g c = λ kinds.
    let p = (g.M.Readers.whole c.args.machine.now).program in
    let s = state_of (g.M.Readers.whole c.args.machine.now) in
    told_as p kinds s c.told.result _ _
    (write_is p c.args.other.now s c.args.start c.args.count (offset_of c.in-Some.place) c.has_data.result c.in-Some.ensures
    (c.has_data.ensures ∙ ap (λ (q : Program _). has_data q c.in-Some.place.object.now) c.image.ensures) ∙ if_so c.has_data.result _ c.if-not-has_data.false)
    (c.told.ensures kinds)
