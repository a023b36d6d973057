-- The loop over the bytes of a line.
use Rattle.std.proofs.Common.{◌≡◌, ◌-◌, ◌≤◌, length}
use Rattle.std.specs.Io.KnownBytes.{Consumes, prepend_known}
use Rattle.qrev_protocol.specs.Frame.{IsLine}
use Rattle.qrev_protocol.proofs.line.Line.read.Given as goal

abbrev pub invariant-loop-pending : goal.invariant-loop-pending
invariant-loop-pending g l =
    let source = g.S.Source in
    (source.failures l.source ≡ source.failures l.fn.source)
    × IsLine l.self
    × (length l.self ≤ l.room)
    × Consumes (prepend_known l.fn.pending (source.remaining l.fn.source)) (prepend_known l.pending (source.remaining l.source)) l.self

abbrev pub decreases-loop-pending : goal.decreases-loop-pending
decreases-loop-pending g l = l.room - length l.self
