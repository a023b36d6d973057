-- Functions of the same names at the same numbers of two programs.
use Rattle.std.proofs.Common.{◌≡◌, refl, sym, ap, ◌∙◌, subst, ℕ, ◌+◌, ◌<◌, true, List, Option, Some, None, arith}
use Rattle.std.specs.Prelude.{option_map, slice_get}
use borrow.Author.Count.{below_more}
use Rattle.qil_tree.specs.declared.tree.Func.{Func}
use Rattle.qil_tree.specs.declared.tree.Program.{Program}
use Rattle.qil_semantics.specs.State.{Name}
use Rattle.qil_code.specs.Numbered.{func_at}
use Rattle.qil_frames.specs.Frames.{SlotFrame}
use Rattle.qil_state.specs.State.{func_name, frames_state}
use Rattle.qil_state.proofs.Place.{none_some, some_same}
use Rattle.qil_compare.specs.Coded.{name_at, AreNamedAlike}
use Rattle.qil_compare.specs.Events.{has_func, call_name}
use Rattle.qil_compare.proofs.Happening.{func_at_number}
use Rattle.qil_compare.proofs.Calling.{name_first}

-- ---- names

named_some : {A : Type 0} (o : Option (Func A)) (x : Name) → option_map (λ f. f.name) o ≡ Some x → func_name o ≡ x
named_some None x e = none_some e
named_some (Some f) x e = some_same f.name x e

name_there : {A : Type 0} (p : Program A) (i : ℕ) (x : Name) → name_at p i ≡ Some x → func_name (func_at p i) ≡ x
name_there p i x e = named_some (func_at p i) x e

-- what has the same name at a number is known to the other program
pub like_known : {A : Type 0} (p q : Program A) (i n : ℕ) → AreNamedAlike p q n → i < n → true ≡ has_func q (func_name (func_at p i))
like_known p q i n alike lt =
    let at = alike i lt in
    func_at_number q q i (func_name (func_at p i)) true refl (at.2 ∙ ap (λ (x : Name). Some x) (sym (name_there p i at.0 at.1))) refl

pub alike_names : {A : Type 0} (p q : Program A) (i j n : ℕ) → AreNamedAlike p q n → i ≡ j → i < n → func_name (func_at p i) ≡ func_name (func_at q j)
alike_names p q i j n alike e lt =
    let at = alike i lt in
    name_there p i at.0 at.1 ∙ sym (name_there q i at.0 at.2) ∙ ap (λ k. func_name (func_at q k)) e

pub alike_calls : {A : Type 0} (p q : Program A) (fs gs : List SlotFrame) (f g : SlotFrame) (i j n : ℕ) → slice_get fs 0 ≡ Some f → slice_get gs 0 ≡ Some g → i ≡ f.func → j ≡ g.func → AreNamedAlike p q n → i ≡ j → i < n
    → call_name (frames_state p fs) ≡ call_name (frames_state q gs)
alike_calls p q fs gs f g i j n ef eg ei ej alike e lt = sym (name_first p fs f i _ ef ei refl) ∙ alike_names p q i j n alike e lt ∙ name_first q gs g j _ eg ej refl

-- one number more
pub alike_more : {A : Type 0} (p q : Program A) (k : ℕ) → AreNamedAlike p q k → (name : Name) × (name_at p k ≡ Some name) × (name_at q k ≡ Some name) → AreNamedAlike p q (k + 1)
alike_more p q k alike one = below_more (λ i. (name : Name) × (name_at p i ≡ Some name) × (name_at q i ≡ Some name)) k alike one

pub alike_none : {A : Type 0} (p q : Program A) → AreNamedAlike p q 0
alike_none p q i lt = absurd (omega (arith, lt))

-- in the other order, and of the same programs
pub alike_swapped : {A : Type 0} (p q : Program A) (n : ℕ) → AreNamedAlike p q n → AreNamedAlike q p n
alike_swapped p q n alike i lt = let at = alike i lt in (at.0, at.2, at.1)

pub alike_as : {A : Type 0} (p q r s : Program A) (n : ℕ) → p ≡ r → q ≡ s → AreNamedAlike p q n → AreNamedAlike r s n
alike_as {A} p q r s n ep eq alike = subst (λ (x : Program A). AreNamedAlike x s n) ep (subst (λ (y : Program A). AreNamedAlike p y n) eq alike)
