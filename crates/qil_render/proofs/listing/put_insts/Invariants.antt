-- The instructions so far were put.
use Rattle.std.proofs.Common.{◌≡◌, drop}
use Rattle.qil_render.specs.Listing.{inst_rows}
use Rattle.qil_render.proofs.Reported.{Reported}
use Rattle.qil_render.proofs.listing.put_insts.Given as goal

abbrev pub invariant-loop-index : goal.invariant-loop-index
invariant-loop-index g l = record {
  text : Reported (inst_rows l.fn.at 0 l.insts) (inst_rows l.fn.at l.index (drop l.index l.insts)) (g.P.Put.written l.fn.out) (g.P.Put.written l.out);
  counted : g.P.Put.stops l.out ≡ g.P.Put.stops l.fn.out;
  device : g.P.Put.device l.out ≡ g.P.Put.device l.fn.out;
}
