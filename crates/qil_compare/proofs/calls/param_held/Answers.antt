-- The value of a parameter is that of its slot.
use Rattle.std.proofs.Common.{◌∙◌, sym, ap, subst}
use Rattle.std.specs.Prelude.{slice_get}
use Rattle.std.specs.Option.{option_copied}
use Rattle.qil_tree.specs.declared.tree.Program.{Program}
use Rattle.qil_code.specs.Facts.{Finds}
use Rattle.qil_code.specs.Reading.{params_at}
use Rattle.qil_code.proofs.NamedCode.{copied_at}
use Rattle.qil_compare.specs.Seen.{seen}
use Rattle.qil_compare.proofs.Calling.{param_first}
use Rattle.qil_compare.proofs.calls.param_held.Goals as goal

pub returns : goal.returns
returns g c =
    let p = (g.M.Readers.whole c.args.machine.now).program in
    let param = c.in-Some-get.param.now in
    param_first p (g.M.Readers.whole c.args.machine.now).frames c.in-Some.frame c.func.result.index c.args.index param (seen p param.1 c.held_or_zero.result)
    (subst (λ (q : Program _). Finds q) c.code_of-code.ensures c.names_are_distinct.ensures.finds) c.innermost.ensures.machine.frames (sym c.in-Some.ensures.frame) c.func.ensures
    (ap (λ qs. slice_get qs c.args.index) (sym (c.params.ensures ∙ ap (λ (q : Program _). params_at q c.func.result.index) c.code_of-code.ensures))
    ∙ sym (copied_at c.get.result c.params.result.now c.args.index c.get.ensures.lookup.3) ∙ ap (λ o. option_copied o) c.in-Some-get.is)
    (ap (seen p param.1) c.held_or_zero.ensures)
