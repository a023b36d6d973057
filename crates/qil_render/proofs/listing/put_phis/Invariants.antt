-- The phis so far were put.
use Rattle.std.proofs.Common.{◌≡◌, drop}
use Rattle.std.specs.List.{flat_map}
use Rattle.qil_render.specs.Listing.{phi_row}
use Rattle.qil_render.proofs.Reported.{Reported}
use Rattle.qil_render.proofs.listing.put_phis.Given as goal

abbrev pub invariant-loop-phi : goal.invariant-loop-phi
invariant-loop-phi g l = record {
  text : Reported (flat_map phi_row l.phis) (flat_map phi_row (drop l.phi-index l.phis)) (g.P.Put.written l.fn.out) (g.P.Put.written l.out);
  counted : g.P.Put.stops l.out ≡ g.P.Put.stops l.fn.out;
  device : g.P.Put.device l.out ≡ g.P.Put.device l.fn.out;
}
