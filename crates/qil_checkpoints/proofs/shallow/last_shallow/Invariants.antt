-- The part so far was gone through, and the last position of it where so few calls are open is known.
use Rattle.std.proofs.Common.{◌≡◌, ◌≤◌}
use Rattle.qil_semantics.specs.State.{State}
use Rattle.qil_state.specs.State.{state_of}
use Rattle.qil_checkpoints.specs.Walk.{walk, AreMoves}
use Rattle.qil_checkpoints.specs.Hits.{IsLastHit}
use Rattle.qil_checkpoints.specs.CallDepths.{shallow_at}
use Rattle.qil_checkpoints.proofs.shallow.last_shallow.Given as goal

abbrev pub invariant-loop-at : goal.invariant-loop-at
invariant-loop-at g l = record {
  program : (g.M.HasCopies.present l.machine).program ≡ (g.M.HasCopies.present l.fn.machine).program;
  kept : g.M.HasCopies.kept l.machine ≡ g.M.HasCopies.kept l.fn.machine;
  begun : l.from ≤ l.at;
  within : l.at ≤ l.to;
  ran : (s : State) → AreMoves (g.M.HasCopies.present l.fn.machine).program s l.pokes l.to
      → state_of (g.M.HasCopies.present l.fn.machine) ≡ walk (g.M.HasCopies.present l.fn.machine).program s l.pokes l.from
      → (state_of (g.M.HasCopies.present l.machine) ≡ walk (g.M.HasCopies.present l.fn.machine).program s l.pokes l.at)
      × IsLastHit (shallow_at (g.M.HasCopies.present l.fn.machine).program l.most s l.pokes) l.from l.at l.last;
}
