-- Answers to the goals of `put_rows`.
use Rattle.std.proofs.Common.{◌++◌, length}
use Rattle.std.specs.List.{flat_map}
use Rattle.qil_printer.specs.Canonical.{jump_text}
use Rattle.qil_render.specs.Listing.{phi_row, inst_rows, row}
use Rattle.qil_streams.proofs.TextLemmas.{HasPut-append, HasPut-stop}
use Rattle.qil_render.proofs.listing.put_rows.Goals as goal

pub returns-in_err-put_phis : goal.returns-in_err-put_phis
returns-in_err-put_phis g c =
    HasPut-stop _ _ c.from_residual.ensures.1 _ _ _ (flat_map phi_row c.args.phis.now) ((inst_rows c.args.at 0 c.args.insts.now) ++ (row c.args.at (length c.args.insts.now) (jump_text c.args.jump.now))) c.in_err-put_phis.ensures

pub returns-in_err-put_insts : goal.returns-in_err-put_insts
returns-in_err-put_insts g c =
    HasPut-append _ _ _ _ _ (flat_map phi_row c.args.phis.now) ((inst_rows c.args.at 0 c.args.insts.now) ++ (row c.args.at (length c.args.insts.now) (jump_text c.args.jump.now))) c.in_ok-put_phis.ensures
    (HasPut-stop _ _ c.from_residual-in_err-put_insts.ensures.1 _ _ _ (inst_rows c.args.at 0 c.args.insts.now) (row c.args.at (length c.args.insts.now) (jump_text c.args.jump.now)) c.in_err-put_insts.ensures)

pub returns : goal.returns
returns g c =
    HasPut-append _ _ _ _ _ (flat_map phi_row c.args.phis.now) ((inst_rows c.args.at 0 c.args.insts.now) ++ (row c.args.at (length c.args.insts.now) (jump_text c.args.jump.now))) c.in_ok-put_phis.ensures
    (HasPut-append _ _ _ _ _ (inst_rows c.args.at 0 c.args.insts.now) (row c.args.at (length c.args.insts.now) (jump_text c.args.jump.now)) c.in_ok-put_insts.ensures
    (c.put_jump.ensures))
