-- Answers to the goals of `put_phi`.
use Rattle.std.proofs.Common.{codes, ◌++◌}
use Rattle.qil_printer.specs.Canonical.{phi_text}
use Rattle.qil_streams.proofs.TextLemmas.{HasPut-append, HasPut-stop}
use Rattle.qil_render.proofs.listing.put_phi.Goals as goal

pub returns-in_err-put : goal.returns-in_err-put
returns-in_err-put g c =
    HasPut-stop _ _ c.from_residual.ensures.1 _ _ _ (codes "  - ") ((phi_text c.args.phi.now) ++ (codes "\n")) c.in_err-put.ensures

pub returns-in_err-phi_text : goal.returns-in_err-phi_text
returns-in_err-phi_text g c =
    HasPut-append _ _ _ _ _ (codes "  - ") ((phi_text c.args.phi.now) ++ (codes "\n")) c.in_ok-put.ensures
    (HasPut-stop _ _ c.from_residual-in_err-phi_text.ensures.1 _ _ _ (phi_text c.args.phi.now) (codes "\n") c.in_err-phi_text.ensures)

pub returns : goal.returns
returns g c =
    HasPut-append _ _ _ _ _ (codes "  - ") ((phi_text c.args.phi.now) ++ (codes "\n")) c.in_ok-put.ensures
    (HasPut-append _ _ _ _ _ (phi_text c.args.phi.now) (codes "\n") c.in_ok-phi_text.ensures
    (c.put-2.ensures))
