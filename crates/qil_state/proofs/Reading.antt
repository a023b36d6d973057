-- What is read from a slot or written to it is what is read or written by its name.
use Rattle.std.proofs.Common.{◌≡◌, refl, sym, ap, ◌∙◌, subst, ℕ, ◌<◌, List, [], ◌∷◌, length, Option, Some, None, Ok, arith}
use Rattle.std.specs.Prelude.{get_or, unwrap_or, slice_get, slice_set}
use Rattle.std.proofs.lemmas.Option.{get_or_from_slice_get}
use Rattle.qil_tree.specs.declared.ops.Class.{Class}
use Rattle.qil_tree.specs.declared.tree.Program.{Program}
use Rattle.qil_ops.specs.Values.{width, low_bits}
use Rattle.qil_semantics.specs.State.{Name}
use Rattle.qil_semantics.specs.Temps.{with_temp}
use Rattle.qil_semantics.specs.Slots.{temps_of}
use Rattle.qil_semantics.specs.Values.{Outcome, known, val}
use Rattle.qil_semantics.proofs.SlotLemmas.{temps-at, temps-set}
use Rattle.qil_code.specs.declared.numbered.NumberedOperand.{NumberedOperand}
use Rattle.qil_code.specs.declared.numbered.NumberedOperand.TheVariants as numbered_operands
use Rattle.qil_code.specs.Slots.{name_at}
use Rattle.qil_code.specs.Named.{named_operand}
use Rattle.qil_code.specs.Ranges.{InRange, MoveInRange}
use Rattle.qil_code.specs.declared.numbered.PhiMove.{PhiMove}
use Rattle.qil_frames.specs.Enter.{HasMoves}
use Rattle.std.specs.List.{All}
use Rattle.qil_frames.specs.Frames.{SlotFrame}
use Rattle.qil_code.specs.Numbered.{names_of}
use Rattle.qil_state.specs.State.{FrameFits, FramesFit}
use Rattle.qil_state.specs.Values.{AreSlots}
use Rattle.qil_state.proofs.Distinct.{names_distinct}

-- the slots of a frame stand next to the names of its function
pub are_slots : {A : Type 0} (p : Program A) (f : SlotFrame) → FrameFits p f → AreSlots (names_of p f.func) f.slots
are_slots p f fits = record { distinct = names_distinct p f.func; long = fits.slots }

pub innermost_fits : {A : Type 0} (p : Program A) (fs : List SlotFrame) (fr : SlotFrame) → FramesFit p fs → slice_get fs 0 ≡ Some fr → FrameFits p fr
innermost_fits p [] fr fits at = absurd cc
innermost_fits p (f ∷ fs) fr fits at = subst (FrameFits p) (ap (λ o. unwrap_or o f) at) fits.0

-- slots that are in range by names are so in the innermost frame
pub slots_here : {A : Type 0} (p : Program A) (fs : List SlotFrame) (fr : SlotFrame) → FramesFit p fs → slice_get fs 0 ≡ Some fr → length (names_of p fr.func) ≡ length fr.slots
slots_here p fs fr fits at = let here : FrameFits p fr = innermost_fits p fs fr fits at in here.slots

pub has_moves : {A : Type 0} (p : Program A) (fs : List SlotFrame) (fr : SlotFrame) (ms : List PhiMove) → FramesFit p fs → slice_get fs 0 ≡ Some fr → All (MoveInRange (length (names_of p fr.func))) ms → HasMoves fs ms
has_moves p [] fr ms fits at all = absurd cc
has_moves {A} p (f ∷ fs) fr ms fits at all =
    let same : fr ≡ f = sym (ap (λ o. unwrap_or o f) at) in
    subst (λ n. All (MoveInRange n) ms) (ap (λ (g : SlotFrame). length (names_of p g.func)) same ∙ fits.0.slots) all

pub slot_read : (ns : List Name) (vs : List (Option ℕ)) (i : ℕ) → AreSlots ns vs → i < length vs → get_or vs i None ≡ temps_of ns vs (name_at ns i)
slot_read ns vs i are h =
    get_or_from_slice_get vs i (temps_of ns vs (name_at ns i)) None (temps-at ns vs (name_at ns i) i are.long (are.distinct i (omega (arith, are.long))))

pub slot_written : (ns : List Name) (vs : List (Option ℕ)) (i : ℕ) (v : Option ℕ) → AreSlots ns vs → i < length vs → temps_of ns (slice_set vs i v) ≡ with_temp (temps_of ns vs) (name_at ns i) v
slot_written ns vs i v are h = λ j y. temps-set ns vs (name_at ns i) i v y are.long (are.distinct i (omega (arith, are.long))) j

-- an operand by its slot
abbrev pub slot_val : List Name → List (Option ℕ) → Class → NumberedOperand → Outcome ℕ
slot_val ns vs c (numbered_operands.Constant n) = Ok (low_bits (width c) n)
slot_val ns vs c (numbered_operands.Slot s) = known c (name_at ns s.index) (get_or vs s.index None)

pub slot_val_is : {A : Type 0} (p : Program A) (ns : List Name) (vs : List (Option ℕ)) (c : Class) (a : NumberedOperand)
    → AreSlots ns vs → InRange (length vs) a → slot_val ns vs c a ≡ val p (temps_of ns vs) c (named_operand ns a)
slot_val_is p ns vs c (numbered_operands.Constant n) are is = refl
slot_val_is p ns vs c (numbered_operands.Slot s) are is = ap (known c (name_at ns s.index)) (slot_read ns vs s.index are is)
