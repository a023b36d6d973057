-- The place, the frames, the block, and the way there.
use Rattle.std.proofs.Common.{◌++◌}
use Rattle.qil_render.specs.Texts.{state_line}
use Rattle.qil_comparison.specs.Told.{way_line}
use Rattle.qil_state.specs.State.{state_of}
use Rattle.qil_render.specs.Shown.{frames_shown}
use Rattle.qil_render.specs.Listing.{block_shown}
use Rattle.qil_streams.proofs.TextLemmas.{HasPut-append, HasPut-stop}
use Rattle.qil_comparison.proofs.telling.put_stand.Goals as goal

pub returns-in_err-put_place : goal.returns-in_err-put_place
returns-in_err-put_place g c =
    HasPut-stop _ _ c.from_residual.ensures.1 _ _ _ (state_line c.args.position (state_of (g.M.Readers.whole c.args.machine.now)).frames (state_of (g.M.Readers.whole c.args.machine.now)).status) ((frames_shown (state_of (g.M.Readers.whole c.args.machine.now)).frames) ++ ((block_shown (g.M.Readers.whole c.args.machine.now).program (state_of (g.M.Readers.whole c.args.machine.now)).frames) ++ (way_line c.args.position))) c.in_err-put_place.ensures

pub returns-in_err-put_frames : goal.returns-in_err-put_frames
returns-in_err-put_frames g c =
    HasPut-append _ _ _ _ _ (state_line c.args.position (state_of (g.M.Readers.whole c.args.machine.now)).frames (state_of (g.M.Readers.whole c.args.machine.now)).status) ((frames_shown (state_of (g.M.Readers.whole c.args.machine.now)).frames) ++ ((block_shown (g.M.Readers.whole c.args.machine.now).program (state_of (g.M.Readers.whole c.args.machine.now)).frames) ++ (way_line c.args.position))) c.in_ok-put_place.ensures
    (HasPut-stop _ _ c.from_residual-in_err-put_frames.ensures.1 _ _ _ (frames_shown (state_of (g.M.Readers.whole c.args.machine.now)).frames) ((block_shown (g.M.Readers.whole c.args.machine.now).program (state_of (g.M.Readers.whole c.args.machine.now)).frames) ++ (way_line c.args.position)) c.in_err-put_frames.ensures)

pub returns-in_err-put_block : goal.returns-in_err-put_block
returns-in_err-put_block g c =
    HasPut-append _ _ _ _ _ (state_line c.args.position (state_of (g.M.Readers.whole c.args.machine.now)).frames (state_of (g.M.Readers.whole c.args.machine.now)).status) ((frames_shown (state_of (g.M.Readers.whole c.args.machine.now)).frames) ++ ((block_shown (g.M.Readers.whole c.args.machine.now).program (state_of (g.M.Readers.whole c.args.machine.now)).frames) ++ (way_line c.args.position))) c.in_ok-put_place.ensures
    (HasPut-append _ _ _ _ _ (frames_shown (state_of (g.M.Readers.whole c.args.machine.now)).frames) ((block_shown (g.M.Readers.whole c.args.machine.now).program (state_of (g.M.Readers.whole c.args.machine.now)).frames) ++ (way_line c.args.position)) c.in_ok-put_frames.ensures
    (HasPut-stop _ _ c.from_residual-in_err-put_block.ensures.1 _ _ _ (block_shown (g.M.Readers.whole c.args.machine.now).program (state_of (g.M.Readers.whole c.args.machine.now)).frames) (way_line c.args.position) c.in_err-put_block.ensures))

pub returns : goal.returns
returns g c =
    HasPut-append _ _ _ _ _ (state_line c.args.position (state_of (g.M.Readers.whole c.args.machine.now)).frames (state_of (g.M.Readers.whole c.args.machine.now)).status) ((frames_shown (state_of (g.M.Readers.whole c.args.machine.now)).frames) ++ ((block_shown (g.M.Readers.whole c.args.machine.now).program (state_of (g.M.Readers.whole c.args.machine.now)).frames) ++ (way_line c.args.position))) c.in_ok-put_place.ensures
    (HasPut-append _ _ _ _ _ (frames_shown (state_of (g.M.Readers.whole c.args.machine.now)).frames) ((block_shown (g.M.Readers.whole c.args.machine.now).program (state_of (g.M.Readers.whole c.args.machine.now)).frames) ++ (way_line c.args.position)) c.in_ok-put_frames.ensures
    (HasPut-append _ _ _ _ _ (block_shown (g.M.Readers.whole c.args.machine.now).program (state_of (g.M.Readers.whole c.args.machine.now)).frames) (way_line c.args.position) c.in_ok-put_block.ensures
    (c.put_way.ensures)))
