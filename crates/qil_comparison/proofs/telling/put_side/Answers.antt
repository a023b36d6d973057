-- The name, what comes next, and where the side stands, as its machine has it.
use Rattle.std.proofs.Common.{◌≡◌, ◌++◌}
use Rattle.qil_semantics.specs.Timeline.{position}
use Rattle.qil_state.specs.State.{state_of}
use Rattle.qil_streams.proofs.TextLemmas.{HasPut-as, HasPut-append, HasPut-stop}
use Rattle.qil_render.specs.Texts.{state_line}
use Rattle.qil_render.specs.Shown.{frames_shown}
use Rattle.qil_render.specs.Listing.{block_shown}
use Rattle.qil_comparison.specs.Told.{found_line, stand_text, way_line}
use Rattle.qil_comparison.proofs.telling.put_side.Goals as goal

pub returns-in_err-put : goal.returns-in_err-put
returns-in_err-put g c =
    let p = (g.R.Readers.whole c.args.side.now).program in
    let t = g.R.Forward.timeline c.args.side.now in
    HasPut-stop _ _ c.from_residual.ensures.1 _ _ _ c.args.name.now (found_line p t.now c.args.found ++ stand_text p t) c.in_err-put.ensures

pub returns-in_err-put_found : goal.returns-in_err-put_found
returns-in_err-put_found g c =
    let p = (g.R.Readers.whole c.args.side.now).program in
    let s = state_of (g.R.Readers.whole c.args.side.now) in
    let t = g.R.Forward.timeline c.args.side.now in
    HasPut-as (λ i. c.args.name.now ++ (found_line p (c.is_read.ensures i) c.args.found ++ stand_text p t))
    (HasPut-append _ _ _ _ _ c.args.name.now (found_line p s c.args.found ++ stand_text p t) c.in_ok-put.ensures
    (HasPut-stop _ _ c.from_residual-in_err-put_found.ensures.1 _ _ _ (found_line p s c.args.found) (stand_text p t) c.in_err-put_found.ensures))

pub returns : goal.returns
returns g c =
    let p = (g.R.Readers.whole c.args.side.now).program in
    let s = state_of (g.R.Readers.whole c.args.side.now) in
    let n = c.position.result in
    HasPut-as (λ i. c.args.name.now ++ (found_line p (c.is_read.ensures i) c.args.found
    ++ (state_line (c.position.ensures i) (c.is_read.ensures i).frames (c.is_read.ensures i).status
    ++ (frames_shown (c.is_read.ensures i).frames ++ (block_shown p (c.is_read.ensures i).frames ++ way_line (c.position.ensures i))))))
    (HasPut-append _ _ _ _ _ c.args.name.now (found_line p s c.args.found ++ (state_line n s.frames s.status ++ (frames_shown s.frames ++ (block_shown p s.frames ++ way_line n)))) c.in_ok-put.ensures
    (HasPut-append _ _ _ _ _ (found_line p s c.args.found) (state_line n s.frames s.status ++ (frames_shown s.frames ++ (block_shown p s.frames ++ way_line n))) c.in_ok-put_found.ensures c.put_stand.ensures))
