-- The loop over the chunks of a body.
use Rattle.std.proofs.Common.{◌≡◌, ◌≤◌, ◌-◌, length}
use Rattle.std.specs.Io.KnownBytes.{Consumes, prepend_known}
use Rattle.qrev_protocol.proofs.incoming.Incoming.read_body.Given as goal

abbrev pub invariant-loop-self : goal.invariant-loop-self
invariant-loop-self g l =
    let source = g.S.Source in
    (source.failures l.source ≡ source.failures l.fn.source)
    × (length l.body.items ≤ l.length-2)
    × Consumes (prepend_known l.fn.self.pending (source.remaining l.fn.source)) (prepend_known l.self.pending (source.remaining l.source)) l.body.items

abbrev pub decreases-loop-self : goal.decreases-loop-self
decreases-loop-self g l = l.length-2 - length l.body.items
