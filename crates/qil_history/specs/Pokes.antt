-- Pokes of all kinds as one, how each is answered, and what it costs.
use Rattle.std.specs.Prelude.{◌≡◌, ℕ, Result, Err, IsOk}
use Rattle.qil_tree.specs.declared.tree.Program.{Program}
use Rattle.qil_memory.specs.Calls.{IsWidth}
use Rattle.qil_semantics.specs.Cost.{temp_poke_cost, bytes_poke_cost}
use Rattle.qil_semantics.specs.State.{State}
use Rattle.qil_semantics.specs.Poke.{PokeFault, poke_temp, poke_memory, no_frame, unknown_temporary, dead_bytes}
use Rattle.qil_machine.specs.declared.error.PokeError.{PokeError}
use Rattle.qil_machine.specs.declared.error.PokeError.TheVariants as errors
use Rattle.qil_machine.specs.Pokes.{poke_slot}
use Rattle.qil_history.specs.declared.poke.Poke.{Poke}
use Rattle.qil_history.specs.declared.poke.Poke.TheVariants as pokes

-- memory is poked by 1, 2, 4 or 8 bytes
abbrev pub HasWidth : Poke → Type 0
HasWidth (pokes.Bytes a n v) = IsWidth n
HasWidth poke = Unit {0}

-- the state after it
abbrev pub poke_of : {A : Type 0} → Program A → State → Poke → Result State PokeFault
poke_of p s (pokes.Slot slot v) = poke_slot p s slot v
poke_of p s (pokes.Named x v) = poke_temp p s x.now v
poke_of p s (pokes.Bytes a n v) = poke_memory s a n v

-- the refusal is the one of the poke; out of memory comes only if there is none
abbrev pub Explains : Result State PokeFault → PokeError → Type 0
Explains r errors.NoFrame = r ≡ Err no_frame
Explains r errors.UnknownTemporary = r ≡ Err unknown_temporary
Explains r errors.DeadAddress = r ≡ Err dead_bytes
Explains r errors.OutOfMemory = IsOk r

-- what a poke adds at most to the weight of a history's undo records
abbrev pub poke_cost : Poke → ℕ
poke_cost (pokes.Slot slot v) = temp_poke_cost
poke_cost (pokes.Named x v) = temp_poke_cost
poke_cost (pokes.Bytes a n v) = bytes_poke_cost n
