-- The loop that writes the rest of the bytes.
use Rattle.std.proofs.Common.{◌≡◌, ℕ, List, ◌++◌, length}
use Rattle.std.specs.Io.KnownBytes.{Appends}
use Rattle.qil_streams.proofs.put.write_all.Given as goal

abbrev pub invariant-loop-rest : goal.invariant-loop-rest
invariant-loop-rest g l =
    (g.W.Sink.failures l.sink ≡ g.W.Sink.failures l.fn.sink)
    × ((prefix : List ℕ) × (l.fn.bytes ≡ prefix ++ l.rest) × Appends (g.W.Sink.contents l.fn.sink) (g.W.Sink.contents l.sink) prefix)

abbrev pub decreases-loop-rest : goal.decreases-loop-rest
decreases-loop-rest g l = length l.rest
