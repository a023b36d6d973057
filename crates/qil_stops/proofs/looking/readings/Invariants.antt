-- What was read so far.
use Rattle.std.proofs.Common.{◌≡◌, ◌<◌, ℕ, length, None, get_or}
use Rattle.arrayvec.specs.ArrayVec.{array_vec_len}
use Rattle.qil_state.specs.State.{state_of}
use Rattle.qil_stops.specs.declared.stop.NumberedStop.{NumberedStop}
use Rattle.qil_stops.specs.Readings.{Tells}
use Rattle.qil_stops.proofs.looking.readings.Given as goal

abbrev pub invariant-loop-stop : goal.invariant-loop-stop
invariant-loop-stop g l = record {
  count : length l.all.items ≡ l.stop-index;
  room : array_vec_len l.all ≡ l.stop-index;
  reported : (j : ℕ) (e : NumberedStop) → j < l.stop-index → Tells (g.M.HasCopies.present l.machine).program (state_of (g.M.HasCopies.present l.machine)) (get_or l.stops j e).kind (get_or l.all.items j None);
}
