-- What the page so far added.
use Rattle.std.proofs.Common.{◌≤◌, ◌≡◌, ◌+◌, List}
use Rattle.json.specs.Token.{Token}
use Rattle.qil_state.specs.State.{frames_state}
use Rattle.qrev_protocol.specs.Outgoing.{Adds}
use Rattle.qrev_views.proofs.Stacks.{ShowsSoFar}
use Rattle.qrev_views.proofs.frames.put_page.Given as goal

abbrev pub invariant-loop-inner : goal.invariant-loop-inner
invariant-loop-inner g l = record {
  begun : l.first ≤ l.inner;
  within : l.inner ≤ l.after;
  added : (items : List Token) × ShowsSoFar (l.fn.page.start + 1) (frames_state (g.M.Readers.whole l.fn.machine).program (g.M.Readers.whole l.fn.machine).frames) l.first l.inner items × Adds l.fn.list.out l.list.out items;
}
