-- The loop over the lines of a header.
use Rattle.std.proofs.Common.{◌≡◌}
use Rattle.std.specs.Io.KnownBytes.{prepend_known}
use Rattle.qrev_protocol.proofs.Heads.{ReadSoFar}
use Rattle.qrev_protocol.proofs.incoming.Incoming.read_head.Given as goal

abbrev pub invariant-loop-self : goal.invariant-loop-self
invariant-loop-self g l =
    let source = g.S.Source in
    (source.failures l.source ≡ source.failures l.fn.source)
    × ReadSoFar l.said l.room (prepend_known l.fn.self.pending (source.remaining l.fn.source)) (prepend_known l.self.pending (source.remaining l.source))

abbrev pub decreases-loop-self : goal.decreases-loop-self
decreases-loop-self g l = l.room
