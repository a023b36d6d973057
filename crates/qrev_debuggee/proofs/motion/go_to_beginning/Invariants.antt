-- So far it ran back by one run after the other.
use Rattle.qrev_debuggee.specs.Moves.{RanBackPast}
use Rattle.qrev_debuggee.proofs.motion.go_to_beginning.Given as goal

abbrev pub invariant-loop : goal.invariant-loop
invariant-loop g l =
    RanBackPast (record { session = g.L.Debugged.state l.fn.debuggee.recorder.live; script = l.fn.debuggee.recorder.script.items; transcript = l.fn.debuggee.recorder.transcript.items }) l.depth
    (record { session = g.L.Debugged.state l.debuggee.recorder.live; script = l.debuggee.recorder.script.items; transcript = l.debuggee.recorder.transcript.items }) l.end
