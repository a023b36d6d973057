-- The moves up to the pokes so far are made; the others are the part from there on.
use Rattle.std.proofs.Common.{◌≡◌, List, drop}
use Rattle.qil_semantics.specs.State.{State}
use Rattle.qil_state.specs.State.{state_of}
use Rattle.qil_checkpoints.specs.declared.poked.Poked.{Poked}
use Rattle.qil_checkpoints.specs.Walk.{ArePoked, IsPart, walk, AreMoves}
use Rattle.qil_checkpoints.proofs.replaying.replay.Given as goal

abbrev pub invariant-loop-made : goal.invariant-loop-made
invariant-loop-made g l = record {
  program : (g.M.HasCopies.present l.machine).program ≡ (g.M.HasCopies.present l.fn.machine).program;
  kept : g.M.HasCopies.kept l.machine ≡ g.M.HasCopies.kept l.fn.machine;
  poked : ArePoked l.at (drop l.made-index l.part) l.to;
  state : (s : State) (pokes : List Poked) → IsPart pokes l.part l.from l.to → AreMoves (g.M.HasCopies.present l.fn.machine).program s pokes l.to
      → state_of (g.M.HasCopies.present l.fn.machine) ≡ walk (g.M.HasCopies.present l.fn.machine).program s pokes l.from
      → IsPart pokes (drop l.made-index l.part) l.at l.to × (state_of (g.M.HasCopies.present l.machine) ≡ walk (g.M.HasCopies.present l.fn.machine).program s pokes l.at);
}
