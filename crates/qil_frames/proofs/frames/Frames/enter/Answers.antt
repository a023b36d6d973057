use Rattle.std.proofs.Common.{◌-◌, arith}
use Rattle.qil_frames.proofs.Innermost.{stands_last}
use Rattle.qil_frames.proofs.Entering.{moves_frame, moves_here, all_entered, all_returned, all_fit, all_explain, all_counted, all_left, all_stay}
use Rattle.qil_frames.proofs.frames.Frames.enter.Goals as goal

pub returns-clause-ok : goal.returns-clause-ok
returns-clause-ok g c =
    let last = stands_last c.self.inside.stack.items c.args.self.now (c.len-last.result - 1) _ c.self.view_is (moves_frame c.args.self.now c.args.moves.now c.requires.moves) (omega arith) c.index_mut-frame.ensures.value in
    all_entered c.self.inside.stack.items c.args.self.now (c.len-last.result - 1) _ c.enter.new.self c.args.block.index c.args.moves.now c.enter.result last c.enter.ensures.ok

pub returns-clause-fits : goal.returns-clause-fits
returns-clause-fits g c =
    let last = stands_last c.self.inside.stack.items c.args.self.now (c.len-last.result - 1) _ c.self.view_is (moves_frame c.args.self.now c.args.moves.now c.requires.moves) (omega arith) c.index_mut-frame.ensures.value in
    all_fit c.self.inside.stack.items c.args.self.now (c.len-last.result - 1) _ c.enter.new.self c.args.block.index c.args.moves.now c.enter.result last c.enter.ensures.ok

pub returns-clause-undo : goal.returns-clause-undo
returns-clause-undo g c =
    let last = stands_last c.self.inside.stack.items c.args.self.now (c.len-last.result - 1) _ c.self.view_is (moves_frame c.args.self.now c.args.moves.now c.requires.moves) (omega arith) c.index_mut-frame.ensures.value in
    all_returned c.self.inside.stack.items c.args.self.now (c.len-last.result - 1) _ c.enter.new.self c.args.block.index c.args.moves.now c.enter.result last c.enter.ensures.ok

pub enter-requires-clause-moves : goal.enter-requires-clause-moves
enter-requires-clause-moves g c =
    let last = stands_last c.self.inside.stack.items c.args.self.now (c.len-last.result - 1) _ c.self.view_is (moves_frame c.args.self.now c.args.moves.now c.requires.moves) (omega arith) c.index_mut-frame.ensures.value in
    moves_here c.self.inside.stack.items c.args.self.now (c.len-last.result - 1) _ c.args.moves.now last c.requires.moves

pub returns-clause-fault : goal.returns-clause-fault
returns-clause-fault g c =
    let last = stands_last c.self.inside.stack.items c.args.self.now (c.len-last.result - 1) _ c.self.view_is (moves_frame c.args.self.now c.args.moves.now c.requires.moves) (omega arith) c.index_mut-frame.ensures.value in
    all_explain c.self.inside.stack.items c.args.self.now (c.len-last.result - 1) _ c.args.block.index c.args.moves.now c.enter.result last c.enter.ensures.fault

pub returns-clause-count : goal.returns-clause-count
returns-clause-count g c = all_counted _ c.enter.new.self c.args.block.index c.args.moves.now c.enter.result c.enter.ensures.ok

pub returns-clause-place : goal.returns-clause-place
returns-clause-place g c =
    let last = stands_last c.self.inside.stack.items c.args.self.now (c.len-last.result - 1) _ c.self.view_is (moves_frame c.args.self.now c.args.moves.now c.requires.moves) (omega arith) c.index_mut-frame.ensures.value in
    all_left c.self.inside.stack.items c.args.self.now (c.len-last.result - 1) _ c.enter.new.self c.args.block.index c.args.moves.now c.enter.result last c.enter.ensures.ok

pub returns-clause-err : goal.returns-clause-err
returns-clause-err g c =
    let last = stands_last c.self.inside.stack.items c.args.self.now (c.len-last.result - 1) _ c.self.view_is (moves_frame c.args.self.now c.args.moves.now c.requires.moves) (omega arith) c.index_mut-frame.ensures.value in
    all_stay c.self.inside.stack.items c.args.self.now (c.len-last.result - 1) _ c.enter.new.self c.enter.result last c.enter.ensures.err
