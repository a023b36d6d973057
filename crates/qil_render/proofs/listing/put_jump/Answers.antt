-- Answers to the goals of `put_jump`.
use Rattle.std.proofs.Common.{codes, ◌++◌}
use Rattle.qil_printer.specs.Canonical.{jump_text}
use Rattle.qil_render.specs.Listing.{row_prefix}
use Rattle.qil_streams.proofs.TextLemmas.{HasPut-append, HasPut-stop}
use Rattle.qil_render.proofs.listing.put_jump.Goals as goal

pub returns-in_err-put_prefix : goal.returns-in_err-put_prefix
returns-in_err-put_prefix g c =
    HasPut-stop _ _ c.from_residual.ensures.1 _ _ _ (row_prefix c.args.at c.args.index) ((jump_text c.args.jump.now) ++ (codes "\n")) c.in_err-put_prefix.ensures

pub returns-in_err-jump_text : goal.returns-in_err-jump_text
returns-in_err-jump_text g c =
    HasPut-append _ _ _ _ _ (row_prefix c.args.at c.args.index) ((jump_text c.args.jump.now) ++ (codes "\n")) c.in_ok-put_prefix.ensures
    (HasPut-stop _ _ c.from_residual-in_err-jump_text.ensures.1 _ _ _ (jump_text c.args.jump.now) (codes "\n") c.in_err-jump_text.ensures)

pub returns : goal.returns
returns g c =
    HasPut-append _ _ _ _ _ (row_prefix c.args.at c.args.index) ((jump_text c.args.jump.now) ++ (codes "\n")) c.in_ok-put_prefix.ensures
    (HasPut-append _ _ _ _ _ (jump_text c.args.jump.now) (codes "\n") c.in_ok-jump_text.ensures
    (c.put.ensures))
