-- The fragments so far were put.
use Rattle.std.proofs.Common.{◌≡◌, take}
use Rattle.std.specs.List.{flat_map}
use Rattle.std.specs.Io.KnownBytes.{Appends}
use Rattle.qil_printer.specs.Fragments.{more_source_text}
use Rattle.qil_printer.proofs.canonical.put_more_sources.Given as goal

abbrev pub invariant-loop-source : goal.invariant-loop-source
invariant-loop-source g l = record {
  text : Appends (g.P.Put.written l.fn.out) (g.P.Put.written l.out) (flat_map more_source_text (take l.source-index l.sources));
  counted : g.P.Put.stops l.out ≡ g.P.Put.stops l.fn.out;
  device : g.P.Put.device l.out ≡ g.P.Put.device l.fn.out;
}
