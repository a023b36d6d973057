-- What pokes are never refused for.
use Rattle.std.proofs.Common.{◌≡◌, ℕ, List, [], ◌∷◌, Option, Some, None, Result, Ok, Err}
use Rattle.std.specs.Prelude.{slice_get, IfErr}
use Rattle.qil_tree.specs.declared.ops.Class.{Class}
use Rattle.qil_tree.specs.declared.tree.Program.{Program}
use Rattle.qil_memory.specs.declared.fault.Dead.{Dead}
use Rattle.qil_memory.specs.Live.{Live}
use Rattle.qil_memory.specs.Calls.{stored}
use Rattle.qil_semantics.specs.Step.{func_named}
use Rattle.qil_semantics.specs.State.{Name, Frame, State}
use Rattle.qil_semantics.specs.Poke.{PokeFault, poke_in, temp_class, poke_frames, poke_temp, poke_memory, remembered, no_frame, dead_bytes, unknown_temporary}
use Rattle.qil_machine.specs.qil_code.declared.numbered.Slot.{Slot}
use Rattle.qil_machine.specs.declared.error.PokeError.{PokeError}
use Rattle.qil_machine.specs.declared.error.PokeError.TheVariants as errors
use Rattle.qil_machine.specs.Pokes.{names_by_slot, poke_by, poke_slot_in, poke_slot}
use Rattle.qil_history.specs.Pokes.{Explains}

temp-in_live : (s : State) (f : Frame) (fs : List Frame) (x : Name) (v : ℕ) (c : Option Class) → poke_in s f fs x v c ≡ Err dead_bytes → ⊥
temp-in_live s f fs x v None e = cc
temp-in_live s f fs x v (Some c) e = cc

frames_live : {A : Type 0} (p : Program A) (s : State) (fs : List Frame) (x : Name) (v : ℕ) → poke_frames p s fs x v ≡ Err dead_bytes → ⊥
frames_live p s [] x v e = cc
frames_live p s (f ∷ fs) x v e = temp-in_live s f fs x v (temp_class (func_named p.funcs f.func) x) e

temp_live : {A : Type 0} (p : Program A) (s : State) (x : Name) (v : ℕ) → poke_temp p s x v ≡ Err dead_bytes → ⊥
temp_live p s x v e = frames_live p s s.frames x v e

by_live : {A : Type 0} (p : Program A) (s : State) (v : ℕ) (o : Option Name) → poke_by p s v o ≡ Err dead_bytes → ⊥
by_live p s v None e = cc
by_live p s v (Some x) e = temp_live p s x v e

slot-in_live : {A : Type 0} (p : Program A) (s : State) (fs : List Frame) (slot : Slot) (v : ℕ) → poke_slot_in p s fs slot v ≡ Err dead_bytes → ⊥
slot-in_live p s [] slot v e = cc
slot-in_live p s (f ∷ fs) slot v e = by_live p s v (slice_get (names_by_slot p (f ∷ fs)) slot.index) e

-- ---- answers

explained : (o : Result (Unit {0}) PokeError) (r : Result State PokeFault) (why : PokeError) → IfErr o (Explains r) → o ≡ Err why → Explains r why
explained o r why h e = rw e at h

-- a poke of a temporary is never refused for dead bytes
pub temp_never_dead : {A : Type 0} (o : Result (Unit {0}) PokeError) (p : Program A) (s : State) (x : Name) (v : ℕ) → IfErr o (Explains (poke_temp p s x v)) → o ≡ Err errors.DeadAddress → ⊥
temp_never_dead o p s x v why e = temp_live p s x v (explained o (poke_temp p s x v) errors.DeadAddress why e)

pub slot_never_dead : {A : Type 0} (o : Result (Unit {0}) PokeError) (p : Program A) (s : State) (slot : Slot) (v : ℕ) → IfErr o (Explains (poke_slot p s slot v)) → o ≡ Err errors.DeadAddress → ⊥
slot_never_dead o p s slot v why e = slot-in_live p s s.frames slot v (explained o (poke_slot p s slot v) errors.DeadAddress why e)

remembered_framed : (s : State) (r : Result Live Dead) → remembered s r ≡ Err no_frame → ⊥
remembered_framed s (Ok m) e = cc
remembered_framed s (Err dead) e = cc

remembered_known : (s : State) (r : Result Live Dead) → remembered s r ≡ Err unknown_temporary → ⊥
remembered_known s (Ok m) e = cc
remembered_known s (Err dead) e = cc

-- and one of memory for no frame, and for no temporary
pub memory_never_frameless : (o : Result (Unit {0}) PokeError) (s : State) (a n v : ℕ) → IfErr o (Explains (poke_memory s a n v)) → o ≡ Err errors.NoFrame → ⊥
memory_never_frameless o s a n v why e = remembered_framed s (stored s.memory a n v) (explained o (poke_memory s a n v) errors.NoFrame why e)

pub memory_never_unknown : (o : Result (Unit {0}) PokeError) (s : State) (a n v : ℕ) → IfErr o (Explains (poke_memory s a n v)) → o ≡ Err errors.UnknownTemporary → ⊥
memory_never_unknown o s a n v why e = remembered_known s (stored s.memory a n v) (explained o (poke_memory s a n v) errors.UnknownTemporary why e)
