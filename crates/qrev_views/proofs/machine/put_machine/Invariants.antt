-- What the page so far added.
use Rattle.std.proofs.Common.{◌≤◌, ◌≡◌}
use Rattle.qil_state.specs.State.{state_of}
use Rattle.qrev_views.specs.Variables.{fixed_tokens, machine_rows}
use Rattle.qrev_protocol.specs.Outgoing.{Adds}
use Rattle.qrev_views.proofs.Pages.{made}
use Rattle.qrev_views.proofs.machine.put_machine.Given as goal

abbrev pub invariant-loop-number : goal.invariant-loop-number
invariant-loop-number g l = record {
  begun : l.first ≤ l.number;
  within : l.number ≤ l.after;
  added : Adds l.fn.list.out l.list.out (made fixed_tokens (machine_rows l.fn.position l.fn.oldest (state_of (g.M.Readers.whole l.fn.machine))) l.first l.number);
}
