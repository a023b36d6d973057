-- Why a poke is refused: as the machine says it, and as it is explained.
use Rattle.std.proofs.Common.{◌≡◌, refl, sym, ap, ◌∙◌, subst, ℕ, Result, Ok, Err}
use Rattle.std.specs.Prelude.{IfErr, OnOk}
use Rattle.qil_semantics.specs.State.{Name, State}
use Rattle.qil_semantics.specs.Poke.{PokeFault, poke_temp, poke_memory, no_frame, unknown_temporary, dead_bytes}
use Rattle.qil_code.specs.declared.numbered.Slot.{Slot}
use Rattle.qil_state.specs.State.{Whole, state_of}
use Rattle.qil_machine.specs.declared.error.PokeError.{PokeError}
use Rattle.qil_machine.specs.declared.error.PokeError.TheVariants as errors
use Rattle.qil_machine.specs.Pokes.{poke_slot, RefusesName, RefusesSlot}
use Rattle.qil_history.specs.Pokes.{Explains}

pub name-explained : {A : Type 0} (w : Whole A) (x : Name) (v : ℕ) (e : PokeError) → RefusesName w x v e → Explains (poke_temp w.program (state_of w) x v) e
name-explained w x v errors.NoFrame h = h
name-explained w x v errors.UnknownTemporary h = h
name-explained w x v errors.DeadAddress h = absurd h
name-explained w x v errors.OutOfMemory h = absurd h

pub slot-explained : {A : Type 0} (w : Whole A) (slot : Slot) (v : ℕ) (e : PokeError) → RefusesSlot w slot v e → Explains (poke_slot w.program (state_of w) slot v) e
slot-explained w slot v errors.NoFrame h = h
slot-explained w slot v errors.UnknownTemporary h = h
slot-explained w slot v errors.DeadAddress h = absurd h
slot-explained w slot v errors.OutOfMemory h = absurd h

pub bytes-explained : (s : State) (a n v : ℕ) (e : PokeError) → e ≡ errors.DeadAddress → poke_memory s a n v ≡ Err dead_bytes → Explains (poke_memory s a n v) e
bytes-explained s a n v e is dead = subst (λ (e : PokeError). Explains (poke_memory s a n v) e) (sym is) dead

-- the answer of a call, for a value of its result
pub slots-explained : {A T : Type 0} (w : Whole A) (slot : Slot) (v : ℕ) (r : Result T PokeError) → IfErr r (RefusesSlot w slot v) → IfErr r (Explains (poke_slot w.program (state_of w) slot v))
slots-explained w slot v (Ok x) h = tt
slots-explained w slot v (Err e) h = slot-explained w slot v e h

pub names-explained : {A T : Type 0} (w : Whole A) (x : Name) (v : ℕ) (r : Result T PokeError) → IfErr r (RefusesName w x v) → IfErr r (Explains (poke_temp w.program (state_of w) x v))
names-explained w x v (Ok y) h = tt
names-explained w x v (Err e) h = name-explained w x v e h

pub all-bytes-explained : {T : Type 0} (s : State) (a n v : ℕ) (r : Result T PokeError) → IfErr r (λ e. (e ≡ errors.DeadAddress) × (poke_memory s a n v ≡ Err dead_bytes)) → IfErr r (Explains (poke_memory s a n v))
all-bytes-explained s a n v (Ok y) h = tt
all-bytes-explained s a n v (Err e) h = bytes-explained s a n v e h.0 h.1

-- ---- what isn't refused is made

never : (s : State) (fault : PokeFault) → Ok s ≡ Err fault → ⊥
never s fault e = cc

leads_err : (o : Result State PokeFault) (next new : State) (e : PokeError) → Explains o e → (e ≡ errors.OutOfMemory → ⊥) → o ≡ Ok next → new ≡ next
leads_err o next new errors.NoFrame why room ok = let both : Ok next ≡ Err no_frame = sym ok ∙ why in absurd (never next no_frame both)
leads_err o next new errors.UnknownTemporary why room ok = let both : Ok next ≡ Err unknown_temporary = sym ok ∙ why in absurd (never next unknown_temporary both)
leads_err o next new errors.DeadAddress why room ok = let both : Ok next ≡ Err dead_bytes = sym ok ∙ why in absurd (never next dead_bytes both)
leads_err o next new errors.OutOfMemory why room ok = absurd (room refl)

same_state : (a b : State) (o : Result State PokeFault) → o ≡ Ok a → o ≡ Ok b → a ≡ b
same_state a b o e f = cc

pub leads-again : (r : Result (Unit {0}) PokeError) (o : Result State PokeFault) (next new : State) → OnOk r (o ≡ Ok new) → IfErr r (Explains o) → (r ≡ Err errors.OutOfMemory → ⊥) → o ≡ Ok next → new ≡ next
leads-again (Ok x) o next new made why room ok = same_state new next o made ok
leads-again (Err e) o next new made why room ok = leads_err o next new e why (λ is. room (ap (λ (x : PokeError). Err x) is)) ok
