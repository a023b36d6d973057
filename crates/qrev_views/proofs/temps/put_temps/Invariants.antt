-- What the page so far added.
use Rattle.std.proofs.Common.{◌≤◌, ◌≡◌, ◌+◌, ℕ, drop, Some, List}
use Rattle.std.specs.Prelude.{slice_get, ◌==◌}
use Rattle.json.specs.Token.{Token}
use Rattle.qil_memory.specs.Live.{live}
use Rattle.qil_state.specs.State.{frame_state}
use Rattle.qil_render.specs.Shown.{temps_of_frame}
use Rattle.qrev_protocol.specs.Outgoing.{Adds}
use Rattle.qrev_views.proofs.Each.{EachSoFar}
use Rattle.qrev_views.proofs.Rows.{ShowsNamed}
use Rattle.qrev_views.proofs.temps.put_temps.Given as goal

abbrev pub invariant-loop-index : goal.invariant-loop-index
invariant-loop-index g l = record {
  begun : l.first ≤ l.index;
  within : l.index ≤ l.after;
  added : (k : ℕ) → slice_get (g.M.Readers.whole l.fn.machine).frames k ≡ Some l.fn.frame
      → (items : List Token) × EachSoFar (ShowsNamed (g.M.Readers.whole l.fn.machine).program (live (g.M.Readers.whole l.fn.machine).memory) l.fn.names.text.items l.fn.showing (l.fn.number == 1) (frame_state (g.M.Readers.whole l.fn.machine).program (drop (k + 1) (g.M.Readers.whole l.fn.machine).frames) l.fn.frame))
      (temps_of_frame (g.M.Readers.whole l.fn.machine).program (frame_state (g.M.Readers.whole l.fn.machine).program (drop (k + 1) (g.M.Readers.whole l.fn.machine).frames) l.fn.frame)) l.first l.index items × Adds l.fn.list.out l.list.out items;
}
