-- The fragments so far were put.
use Rattle.std.proofs.Common.{◌≡◌, take}
use Rattle.std.specs.List.{flat_map}
use Rattle.std.specs.Io.KnownBytes.{Appends}
use Rattle.qil_printer.specs.Fragments.{fragment_bytes}
use Rattle.qil_printer.proofs.canonical.put_fragments.Given as goal

abbrev pub invariant-loop-fragment : goal.invariant-loop-fragment
invariant-loop-fragment g l = record {
  text : Appends (g.P.Put.written l.fn.out) (g.P.Put.written l.out) (flat_map fragment_bytes (take l.fragment-index l.fragments));
  counted : g.P.Put.stops l.out ≡ g.P.Put.stops l.fn.out;
  device : g.P.Put.device l.out ≡ g.P.Put.device l.fn.out;
}
