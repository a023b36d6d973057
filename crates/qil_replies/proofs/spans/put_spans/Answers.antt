-- The lines, and after them the place.
use Rattle.std.proofs.Common.{ap}
use Rattle.std.specs.List.{flat_map}
use Rattle.qil_streams.proofs.TextLemmas.{HasPut-append, HasPut-as, HasPut-stop}
use Rattle.qil_tree.specs.declared.tree.Program.{Program}
use Rattle.qil_render.specs.qil_state.State.{state_of}
use Rattle.qil_replies.specs.Texts.{span_line, place_text}
use Rattle.qil_replies.proofs.spans.put_spans.Goals as goal

pub returns-in_err-put_list : goal.returns-in_err-put_list
returns-in_err-put_list g c =
    HasPut-stop _ _ c.from_residual.ensures.1 _ _ _ (flat_map (span_line (g.M.Readers.whole c.args.machine.now).program) c.args.list.now) (place_text c.args.reason c.args.position (state_of (g.M.Readers.whole c.args.machine.now)))
    (HasPut-as (ap (λ (p : Program _). flat_map (span_line p) c.args.list.now) c.code_of.ensures) c.in_err-put_list.ensures)

pub returns : goal.returns
returns g c =
    HasPut-append _ _ _ _ _ (flat_map (span_line (g.M.Readers.whole c.args.machine.now).program) c.args.list.now) (place_text c.args.reason c.args.position (state_of (g.M.Readers.whole c.args.machine.now)))
    (HasPut-as (ap (λ (p : Program _). flat_map (span_line p) c.args.list.now) c.code_of.ensures) c.in_ok-put_list.ensures) c.put_moved.ensures
