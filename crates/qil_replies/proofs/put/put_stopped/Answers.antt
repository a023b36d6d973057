-- The reason, and after it the place.
use Rattle.qil_streams.proofs.TextLemmas.{HasPut-append, HasPut-stop}
use Rattle.qil_render.specs.qil_state.State.{state_of}
use Rattle.qil_render.specs.Texts.{state_line}
use Rattle.qil_replies.specs.Texts.{reason_line}
use Rattle.qil_replies.proofs.put.put_stopped.Goals as goal

pub returns-in_err-put_reason : goal.returns-in_err-put_reason
returns-in_err-put_reason g c =
    let now = state_of (g.M.Readers.whole c.args.machine.now) in
    HasPut-stop _ _ c.from_residual.ensures.1 _ _ _ (reason_line c.args.reason) (state_line c.args.position now.frames now.status) c.in_err-put_reason.ensures

pub returns : goal.returns
returns g c =
    let now = state_of (g.M.Readers.whole c.args.machine.now) in
    HasPut-append _ _ _ _ _ (reason_line c.args.reason) (state_line c.args.position now.frames now.status) c.in_ok-put_reason.ensures c.put_place.ensures
