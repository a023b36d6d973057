-- The part so far was run through, and its last hit is known; what is left gets less.
use Rattle.std.proofs.Common.{◌≡◌, ◌-◌, ◌≤◌, List, length}
use Rattle.qil_semantics.specs.State.{State}
use Rattle.qil_state.specs.State.{state_of}
use Rattle.qil_stops.specs.Named.{named_stops}
use Rattle.qil_stops.specs.Readings.{AllTell}
use Rattle.qil_checkpoints.specs.declared.poked.Poked.{Poked}
use Rattle.qil_checkpoints.specs.Walk.{ArePoked, IsPart, walk, AreMoves}
use Rattle.qil_checkpoints.specs.Hits.{stop_at, IsLastHit}
use Rattle.qil_checkpoints.proofs.searching.last_hit.Given as goal

abbrev pub invariant-loop-at : goal.invariant-loop-at
invariant-loop-at g l = record {
  program : (g.M.HasCopies.present l.machine).program ≡ (g.M.HasCopies.present l.fn.machine).program;
  kept : g.M.HasCopies.kept l.machine ≡ g.M.HasCopies.kept l.fn.machine;
  order : l.from ≤ l.at;
  within : l.at ≤ l.to;
  poked : ArePoked l.at l.rest l.to;
  count : length l.before.items ≡ length l.stops;
  reported : AllTell (g.M.HasCopies.present l.fn.machine).program (state_of (g.M.HasCopies.present l.machine)) l.stops l.before.items;
  ran : (s : State) (pokes : List Poked) → IsPart pokes l.part l.from l.to → AreMoves (g.M.HasCopies.present l.fn.machine).program s pokes l.to
      → state_of (g.M.HasCopies.present l.fn.machine) ≡ walk (g.M.HasCopies.present l.fn.machine).program s pokes l.from
      → IsPart pokes l.rest l.at l.to × (state_of (g.M.HasCopies.present l.machine) ≡ walk (g.M.HasCopies.present l.fn.machine).program s pokes l.at)
      × IsLastHit (stop_at (g.M.HasCopies.present l.fn.machine).program (named_stops (g.M.HasCopies.present l.fn.machine).program l.stops) s pokes) l.from l.at l.last;
}

abbrev pub decreases-loop-at : goal.decreases-loop-at
decreases-loop-at g l = l.to - l.at
