-- Answers to the goals of `read_memory`.
use Rattle.std.proofs.Common.{subst}
use Rattle.std.specs.Prelude.{min}
use Rattle.qil_semantics.specs.State.{State}
use Rattle.qrev_inspection.specs.ReadBytes.{AreRead, read_limit}
use Rattle.qrev_inspection.proofs.memory.read_memory.Goals as goal

pub returns-clause-shown : goal.returns-clause-shown
returns-clause-shown g c =
    let span = c.in_ok-span.span in
    let read = c.in_ok-body.ensures.shown in
    record {
      address = span.0;
      count = span.1;
      bytes = read.0;
      is_address = c.in_ok-span.ensures.said.0;
      is_count = c.in_ok-span.ensures.said.1;
      are_read = subst (λ (s : State). AreRead s.memory span.0 (min span.1 read_limit) read.0) c.machine-machine.ensures.now read.1;
      added = read.2;
    }
