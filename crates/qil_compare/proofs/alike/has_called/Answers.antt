-- The image is that of the machine's program; without a frame there is no name.
use Rattle.std.proofs.Common.{◌≡◌, ◌∙◌, sym, ap, refl, rules, List, []}
use Rattle.qil_state.specs.State.{frames_state}
use Rattle.qil_compare.specs.Events.{call_name, has_func}
use Rattle.qil_compare.proofs.Likeness.{alike_as}
use Rattle.qil_compare.proofs.alike.has_called.Goals as goal

pub has_like-requires : goal.has_like-requires
has_like-requires g c = alike_as (g.M.Readers.whole c.args.machine.now).program c.args.code.now c.image_of.result.now c.args.code.now c.args.alike (sym c.image_of.ensures) refl c.requires

pub returns-in-None : goal.returns-in-None
returns-in-None g c =
    let none : call_name (frames_state (g.M.Readers.whole c.args.machine.now).program (g.M.Readers.whole c.args.machine.now).frames) ≡ [] = search rules in
    c.has_func.ensures ∙ ap (has_func c.args.code.now) (sym none)
