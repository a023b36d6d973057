-- Answers to the goals of `put_phis`.
use Rattle.std.proofs.Common.{◌+◌, ◌∙◌, drop, rules}
use Rattle.std.specs.List.{flat_map}
use Rattle.qil_render.specs.Listing.{phi_row}
use Rattle.qil_render.proofs.Reported.{reported_as, reported_stop, reported_more}
use Rattle.qil_render.proofs.ListLines.{flat_at}
use Rattle.qil_render.proofs.listing.put_phis.Goals as goal

pub returns-in_err-put_phi : goal.returns-in_err-put_phi
returns-in_err-put_phi g c = record {
  text = reported_stop _ (phi_row c.phi-item.result) (flat_map phi_row (drop (c.loop-phi.phi-index + 1) c.args.phis.now)) _ _ _
      (reported_as _ _ _ _ _ (flat_at phi_row c.args.phis.now c.loop-phi.phi-index c.phi-item.result c.phi-item.is c.loop-phi-test.true) c.loop-phi.invariant.text)
      _ _ c.from_residual.ensures.1 c.in_err-put_phi.field-0.0 c.in_err-put_phi.ensures.text;
  counted = search rules;
  device = search rules;
}

pub loop-phi-preserved : goal.loop-phi-preserved
loop-phi-preserved g c = record {
  text = reported_more _ (phi_row c.phi-item.result) (flat_map phi_row (drop (c.loop-phi.phi-index + 1) c.args.phis.now)) _ _ _
      (reported_as _ _ _ _ _ (flat_at phi_row c.args.phis.now c.loop-phi.phi-index c.phi-item.result c.phi-item.is c.loop-phi-test.true) c.loop-phi.invariant.text)
      c.in_ok-put_phi.ensures.text;
  counted = c.in_ok-put_phi.ensures.counted ∙ c.loop-phi.invariant.counted;
  device = c.put_phi.ensures.device ∙ c.loop-phi.invariant.device;
}
