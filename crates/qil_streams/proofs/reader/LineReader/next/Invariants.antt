-- The loop over the bytes of a line.
use Rattle.std.proofs.Common.{◌≡◌, ◌-◌, ◌^◌}
use Rattle.qil_streams.proofs.ReaderLemmas.{TakesPrefix}
use Rattle.qil_streams.proofs.reader.LineReader.next.Given as goal

abbrev pub invariant-loop-byte : goal.invariant-loop-byte
invariant-loop-byte g l =
    let source = g.S.Source in
    TakesPrefix l.fn.self.bytes l.self.bytes l.self.kept (source.remaining l.fn.source) (source.remaining l.source)
    × (source.failures l.source ≡ source.failures l.fn.source)

abbrev pub decreases-loop-byte : goal.decreases-loop-byte
decreases-loop-byte g l = 2 ^ 24 - l.self.bytes.given
