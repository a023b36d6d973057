-- What the page so far added.
use Rattle.std.proofs.Common.{◌≤◌, List}
use Rattle.json.specs.Token.{Token}
use Rattle.qil_memory.specs.Live.{live}
use Rattle.qrev_views.specs.Variables.{ShowsData}
use Rattle.qrev_protocol.specs.Outgoing.{Adds}
use Rattle.qrev_views.proofs.Each.{EachSoFar}
use Rattle.qrev_views.proofs.data.put_data.Given as goal

abbrev pub invariant-loop-index : goal.invariant-loop-index
invariant-loop-index g l = record {
  begun : l.first ≤ l.index;
  within : l.index ≤ l.after;
  added : (items : List Token) × EachSoFar (ShowsData (g.M.Readers.whole l.fn.machine).program (live (g.M.Readers.whole l.fn.machine).memory) l.fn.names.text.items l.fn.showing) l.fn.program.datas l.first l.index items × Adds l.fn.list.out l.list.out items;
}
