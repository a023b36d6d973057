-- The lines, and after them the place.
use Rattle.std.specs.List.{flat_map}
use Rattle.qil_streams.proofs.TextLemmas.{HasPut-append, HasPut-stop}
use Rattle.qil_render.specs.qil_state.State.{state_of}
use Rattle.qil_replies.specs.Texts.{access_line, place_text}
use Rattle.qil_replies.proofs.accesses.put_accesses.Goals as goal

pub returns-in_err-put_list : goal.returns-in_err-put_list
returns-in_err-put_list g c =
    HasPut-stop _ _ c.from_residual.ensures.1 _ _ _ (flat_map access_line c.args.list.now) (place_text c.args.reason c.args.position (state_of (g.M.Readers.whole c.args.machine.now))) c.in_err-put_list.ensures

pub returns : goal.returns
returns g c =
    HasPut-append _ _ _ _ _ (flat_map access_line c.args.list.now) (place_text c.args.reason c.args.position (state_of (g.M.Readers.whole c.args.machine.now))) c.in_ok-put_list.ensures c.put_moved.ensures
