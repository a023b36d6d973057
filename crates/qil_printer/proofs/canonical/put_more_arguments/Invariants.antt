-- The fragments so far were put.
use Rattle.std.proofs.Common.{◌≡◌, take}
use Rattle.std.specs.List.{flat_map}
use Rattle.std.specs.Io.KnownBytes.{Appends}
use Rattle.qil_printer.specs.Fragments.{more_argument_text}
use Rattle.qil_printer.proofs.canonical.put_more_arguments.Given as goal

abbrev pub invariant-loop-argument : goal.invariant-loop-argument
invariant-loop-argument g l = record {
  text : Appends (g.P.Put.written l.fn.out) (g.P.Put.written l.out) (flat_map more_argument_text (take l.argument-index l.arguments));
  counted : g.P.Put.stops l.out ≡ g.P.Put.stops l.fn.out;
  device : g.P.Put.device l.out ≡ g.P.Put.device l.fn.out;
}
