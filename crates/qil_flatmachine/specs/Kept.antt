-- Copies of a machine's state.
use Rattle.std.specs.Prelude.{◌≡◌, ℕ, ◌≤◌, List, length, map}
use Rattle.std.specs.List.{All}
use Rattle.qil_layout.specs.Layout.{bytes_of}
use Rattle.qil_memory.specs.Buffers.{Buffers}
use Rattle.qil_flat.specs.Flat.{Flat}
use Rattle.qil_flat.specs.StackCalls.{ActiveCall}
use Rattle.qil_semantics.specs.State.{State}
use Rattle.qil_state.specs.declared.status.Status.{Status}
use Rattle.qil_state.specs.State.{Whole, whole, IsMachine, state_of}
use Rattle.qil_flatmachine.specs.Seen.{Base, FlatWhole, frames_of, InTable}

-- what a copy is of: the code, for how many slots of a call there has to be room, and the whole machine, without the dead
-- bytes of the stack
pub record KeptWhole (A : Type 0) : Type 0 where
  pub flat : Flat A
  pub most_slots : ℕ
  pub whole : Whole A

abbrev pub kept_whole : {A : Type 0} → Flat A → List ActiveCall → ℕ → Buffers → List ℕ → Status → KeptWhole A
kept_whole f cs slots m out st = record { flat = f; most_slots = slots; whole = whole f.program (frames_of f.places cs) m out st }

-- what the type of a copy keeps
pub record IsKept {A : Type 0} (f : Flat A) (cs : List ActiveCall) (m : Buffers) (out : List ℕ) (st : Status) : Type 0 where
  pub machine : IsMachine (whole f.program (frames_of f.places cs) m out st)
  pub table : InTable f.places cs
  pub bytes : length m.data_bytes ≡ length (bytes_of f.program)

-- a machine with this code and room can be brought back to a copy
pub record IsOf {A : Type 0} (b : Base A) (k : KeptWhole A) : Type 0 where
  pub code : k.flat ≡ b.flat
  pub room : k.most_slots ≤ b.most_slots

-- ---- a machine with copies

pub record WithCopies (A : Type 0) : Type 0 where
  pub present : FlatWhole A
  pub copies : List (KeptWhole A)

abbrev pub AreOf : {A : Type 0} → Base A → List (KeptWhole A) → Type 0
AreOf b ks = All (IsOf b) ks

-- the states that the copies are of
abbrev pub states_of : {A : Type 0} → List (KeptWhole A) → List State
states_of ks = map (λ k. state_of k.whole) ks
