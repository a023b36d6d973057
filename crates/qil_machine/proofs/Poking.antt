-- Pokes of memory.
use Rattle.std.proofs.Common.{◌≡◌, sym, ap, ◌∙◌, subst, ℕ, List, Ok, Err}
use Rattle.qil_memory.specs.Buffers.{Buffers}
use Rattle.qil_memory.specs.Live.{live}
use Rattle.qil_memory.specs.Calls.{stored}
use Rattle.qil_memory.specs.Undo.{with_bytes}
use Rattle.qil_memory.specs.Places.{HasPlaces}
use Rattle.qil_memory.specs.declared.fault.Dead.{Dead}
use Rattle.qil_semantics.specs.Poke.{poke_memory, remembered, dead_bytes}
use Rattle.qil_state.specs.State.{Whole, whole, state_of, IsMachine}
use Rattle.qil_machine.specs.Moves.{Move}
use Rattle.qil_machine.specs.Kinds.{poked_bytes_move}
use Rattle.qil_machine.specs.Places.{Made}
use Rattle.qil_machine.proofs.Made.{poked_bytes}

pub poked_made : {A : Type 0} (m now : Whole A) (d : Move) (a : ℕ) (bs : List ℕ) (mem : Buffers) → m ≡ now → IsMachine m → mem.top ≡ m.memory.top → HasPlaces mem a bs → with_bytes mem a bs ≡ m.memory → d ≡ poked_bytes_move a bs
    → Made d now (whole m.program m.frames mem m.output m.status)
poked_made {A} m now d a bs mem same ok top places back ed =
    subst (λ (w : Whole A). Made d w (whole m.program m.frames mem m.output m.status)) same
    (rw ed (poked_bytes m.program m.frames m.memory mem m.output m.status a bs ok top places back))

pub poked_state : {A : Type 0} (m now : Whole A) (a n v : ℕ) (mem : Buffers) → m ≡ now → stored (live m.memory) a n v ≡ Ok (live mem) → mem.top ≡ m.memory.top
    → poke_memory (state_of now) a n v ≡ Ok (state_of (whole m.program m.frames mem m.output m.status))
poked_state {A} m now a n v mem same bytes top =
    subst (λ (w : Whole A). poke_memory (state_of w) a n v ≡ Ok (state_of (whole m.program m.frames mem m.output m.status))) same
    (ap (remembered (state_of m)) bytes ∙ (λ i. Ok (record (state_of m) { memory = live mem; top = sym top i })))

pub poked_dead : {A : Type 0} (m now : Whole A) (a n v : ℕ) (e : Dead) → m ≡ now → stored (live m.memory) a n v ≡ Err e → poke_memory (state_of now) a n v ≡ Err dead_bytes
poked_dead {A} m now a n v e same bytes = subst (λ (w : Whole A). poke_memory (state_of w) a n v ≡ Err dead_bytes) same (ap (remembered (state_of m)) bytes)
