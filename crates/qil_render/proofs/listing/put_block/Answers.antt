-- Answers to the goals of `put_block`.
use Rattle.qil_streams.proofs.TextLemmas.{HasPut-append, HasPut-stop}
use Rattle.qil_code.specs.Numbered.{func_at, block_at}
use Rattle.qil_state.specs.State.{func_name, label_in}
use Rattle.qil_render.specs.Listing.{rows_in, block_head}
use Rattle.qil_render.proofs.Here.{block_none, block_some}
use Rattle.qil_render.proofs.listing.put_block.Goals as goal

pub returns-in_default : goal.returns-in_default
returns-in_default g c = rw (block_none (g.M.Readers.whole c.args.machine.now).program (g.M.Readers.whole c.args.machine.now).frames c.in_default.ensures.frame) c.put_line.ensures

pub returns-in_err-put_head : goal.returns-in_err-put_head
returns-in_err-put_head g c =
    let p = (g.M.Readers.whole c.args.machine.now).program in
    let f = c.in-Some.frame in
    rw (block_some p (g.M.Readers.whole c.args.machine.now).frames f c.innermost.ensures.fits (rw c.code_of-code.ensures at c.names_are_distinct.ensures.finds) c.in-Some.ensures.frame)
    (HasPut-stop _ _ c.from_residual.ensures.1 _ _ _ (block_head (func_name (func_at p f.func)) (label_in (block_at p f.func f.block))) (rows_in f.index (block_at p f.func f.block))
    (rw c.code_of-code.ensures at c.in_err-put_head.ensures))

pub returns : goal.returns
returns g c =
    let p = (g.M.Readers.whole c.args.machine.now).program in
    let f = c.in-Some.frame in
    rw (block_some p (g.M.Readers.whole c.args.machine.now).frames f c.innermost.ensures.fits (rw c.code_of-code.ensures at c.names_are_distinct.ensures.finds) c.in-Some.ensures.frame)
    (HasPut-append _ _ _ _ _ (block_head (func_name (func_at p f.func)) (label_in (block_at p f.func f.block))) (rows_in f.index (block_at p f.func f.block))
    (rw c.code_of-code.ensures at c.in_ok-put_head.ensures) (rw c.code_of-code.ensures at c.put_block_of.ensures))
