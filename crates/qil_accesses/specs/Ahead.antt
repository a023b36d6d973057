-- What code keeps of a step before it is made, next to the accesses that it turns out to make.
use Rattle.std.specs.Prelude.{◌≡◌, ℕ, ◌+◌, ◌-◌, ◌≤◌, List, [], ◌∷◌, length}
use Rattle.qil_tree.specs.declared.tree.Program.{Program}
use Rattle.qil_semantics.specs.State.{State}
use Rattle.qil_code.specs.Slots.{name_at}
use Rattle.qil_code.specs.Numbered.{names_of}
use Rattle.qil_history.specs.qil_machine.Readings.{temp_here}
use Rattle.qil_accesses.specs.declared.access.Action.TheVariants.{Read, Write}
use Rattle.qil_accesses.specs.declared.access.Access.{Access}
use Rattle.qil_accesses.specs.declared.ahead.Ahead.{Ahead}
use Rattle.qil_accesses.specs.declared.ahead.Ahead.TheVariants as aheads
use Rattle.qil_accesses.specs.Accesses.{access, touched, frame_accesses}

-- by the state after it
abbrev pub made_by : {A : Type 0} → Program A → ℕ → State → Ahead → List Access
made_by p at t aheads.Nothing = []
made_by p at t (aheads.Read a n) = access Read at a n ∷ []
made_by p at t (aheads.Write a n) = access Write at a n ∷ []
made_by p at t (aheads.Copy a b n) = access Read at a n ∷ (access Write at b n ∷ [])
made_by p at t (aheads.Alloc func slot n) = touched Write at n (temp_here t.frames (name_at (names_of p func.index) slot.index))
made_by p at t (aheads.Text a written) = access Read at a (length t.output - written) ∷ []

-- whatever the next state is, these are its accesses, but for a fault
abbrev pub IsAhead : {A : Type 0} → Program A → State → Ahead → Type 0
IsAhead p s ahead = (at : ℕ) (t : State) → made_by p at t ahead ≡ frame_accesses p at s t s.frames
