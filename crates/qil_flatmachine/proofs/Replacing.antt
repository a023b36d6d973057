-- The machine after a poke, and why one is refused.
use Rattle.std.proofs.Common.{◌≡◌, ◌∙◌, refl, sym, ap, subst, ℕ, ◌-◌, ◌<◌, inl, inr, Bool, true, false, List, [], ◌∷◌, length, Option, Some, Ok, arith}
use Rattle.std.specs.Prelude.{if◌then◌else◌, nat_lt, slice_get}
use Rattle.std.proofs.lemmas.Bool.Decides.{nat_tests}
use Rattle.qil_tree.specs.declared.ops.Class.{Class}
use Rattle.qil_tree.specs.declared.tree.Program.{Program}
use Rattle.qil_layout.specs.Layout.{data_base}
use Rattle.qil_ops.specs.Values.{width, low_bits}
use Rattle.qil_memory.specs.Bytes.{over}
use Rattle.qil_memory.specs.Buffers.{Buffers, stack_base}
use Rattle.qil_memory.specs.Places.{HasPlaces}
use Rattle.qil_memory.specs.Undo.{with_bytes}
use Rattle.qil_memory.proofs.Spans.{length-over, over-nil}
use Rattle.qil_semantics.specs.State.{Name, State}
use Rattle.qil_semantics.specs.Poke.{poke_temp}
use Rattle.qil_code.specs.declared.numbered.Slot.{Slot}
use Rattle.qil_flat.specs.declared.inst.FlatPlace.{FlatPlace}
use Rattle.qil_flat.specs.Flat.{Flat}
use Rattle.qil_frames.specs.Frames.{SlotFrame, held}
use Rattle.qil_flat.specs.StackCalls.{ActiveCall, ActiveCalls, on_innermost, with_slot}
use Rattle.qil_flat.proofs.Placed.{frames-with_slot}
use Rattle.qil_state.specs.declared.status.Status.{Status}
use Rattle.qil_state.specs.State.{Whole, whole, IsMachine, frames_state, head_names, state_of}
use Rattle.qil_state.proofs.Place.{none_some}
use Rattle.qil_machine.specs.Kinds.{poked_bytes_move, poked_slot_move}
use Rattle.qil_machine.specs.Pokes.{IsOfClass, names_by_slot, poke_by, poke_slot}
use Rattle.qil_machine.proofs.Poking.{poked_made}
use Rattle.qil_machine.proofs.PokingSlots.{has_names, slot_set}
use Rattle.qil_machine.proofs.PokingTemps.{temp_made}
use Rattle.qil_flatmachine.specs.Seen.{FlatWhole, InTable, IsFlatMachine, frames_of, place_in, seen, whole_of}

-- ---- what is kept besides

still : {A : Type 0} (f : Flat A) (calls new : ActiveCalls) (m n : Buffers) (out : List ℕ) (st : Status) (room : ℕ) → IsFlatMachine f calls m out st room → IsMachine (whole_of f new n out st) → InTable f.places new.frames
    → new.most_slots ≡ calls.most_slots → new.most_moves ≡ calls.most_moves → length n.data_bytes ≡ length m.data_bytes → IsFlatMachine f new n out st room
still f calls new m n out st room ok machine table slots moves bytes = record {
  machine = machine;
  table = table;
  slots = λ k lt. omega (arith, ok.slots k lt, slots);
  moves = λ k way there. omega (arith, ok.moves k way there, moves);
  finds = ok.finds;
  knows = ok.knows;
  bytes = bytes ∙ ok.bytes;
  output = ok.output;
}

pub machine_now : {A : Type 0} (f : Flat A) (calls : ActiveCalls) (m : Buffers) (out : List ℕ) (st : Status) (room : ℕ) (now : FlatWhole A) → IsFlatMachine f calls m out st room → seen f calls m out st ≡ now → IsMachine now.whole
machine_now {A} f calls m out st room now ok same = subst (λ (x : FlatWhole A). IsMachine x.whole) same ok.machine

pub names_now : {A : Type 0} (f : Flat A) (calls : ActiveCalls) (m : Buffers) (out : List ℕ) (st : Status) (room : ℕ) (now : FlatWhole A) → IsFlatMachine f calls m out st room → seen f calls m out st ≡ now
    → names_by_slot now.whole.program (state_of now.whole).frames ≡ head_names now.whole.program now.whole.frames
names_now {A} f calls m out st room now ok same = has_names (whole_of f calls m out st) now.whole f.program (ap (λ (x : FlatWhole A). x.whole) same) ok.machine refl ok.finds

-- ---- bytes

-- bytes over others are as many
as_long : (b : Bool) (n : Buffers) (a : ℕ) (bs : List ℕ) → b ≡ nat_lt a stack_base → HasPlaces n a bs
    → length (if b then record n { data_bytes = over n.data_bytes (a - data_base) bs } else record n { stack_bytes = over n.stack_bytes (a - stack_base) bs }).data_bytes ≡ length n.data_bytes
as_long false n a bs is places = refl
as_long true n a [] is places = ap length (over-nil n.data_bytes (a - data_base))
as_long true n a (b ∷ bs) is (inl none) = absurd (omega (arith, none))
as_long true n a (b ∷ bs) is (inr has) =
    let low : a < stack_base = grind (arith, nat_tests, is) in
    length-over n.data_bytes (a - data_base) (b ∷ bs) (has.in_data low)

same_data : (m n : Buffers) (a : ℕ) (bs : List ℕ) → HasPlaces n a bs → with_bytes n a bs ≡ m → length n.data_bytes ≡ length m.data_bytes
same_data m n a bs places back = sym (as_long (nat_lt a stack_base) n a bs refl places) ∙ ap (λ (x : Buffers). length x.data_bytes) back

pub bytes_poked : {A : Type 0} (f : Flat A) (calls : ActiveCalls) (m n : Buffers) (out : List ℕ) (st : Status) (room a : ℕ) (bs : List ℕ) → IsFlatMachine f calls m out st room → n.top ≡ m.top → HasPlaces n a bs → with_bytes n a bs ≡ m
    → IsFlatMachine f calls n out st room
bytes_poked {A} f calls m n out st room a bs ok top places back =
    let w : Whole A = whole_of f calls m out st in
    let made = poked_made w w (poked_bytes_move a bs) a bs n refl ok.machine top places back refl in
    still f calls calls m n out st room ok made.machine ok.table refl refl (same_data m n a bs places back)

-- ---- a slot

table_with_slot : (places : List FlatPlace) (cs : List ActiveCall) (s : Slot) (v : Option ℕ) → InTable places cs → InTable places (on_innermost (with_slot s v) cs)
table_with_slot places [] s v table = table
table_with_slot places (c ∷ cs) s v table = table

slot_still : {A : Type 0} (f : Flat A) (calls : ActiveCalls) (m : Buffers) (out : List ℕ) (st : Status) (room : ℕ) (s : Slot) (c : Class) (v w : ℕ) → IsFlatMachine f calls m out st room → IsOfClass (whole_of f calls m out st) s c → w ≡ low_bits (width c) v
    → IsFlatMachine f (record calls { frames = on_innermost (with_slot s (Some w)) calls.frames }) m out st room
slot_still {A} f calls m out st room s c v w ok class cut =
    let old : Whole A = whole_of f calls m out st in
    let fs : List SlotFrame = frames_of f.places (on_innermost (with_slot s (Some w)) calls.frames) in
    let made = temp_made old old (whole f.program fs m out st) (poked_slot_move s (held old.frames s)) fs s c v w (held old.frames s) refl ok.machine class cut (frames-with_slot (place_in f.places) calls.frames s (Some w)) refl refl refl in
    still f calls (record calls { frames = on_innermost (with_slot s (Some w)) calls.frames }) m m out st room ok made.machine (table_with_slot f.places calls.frames s (Some w) ok.table) refl refl refl

pub slot_poked : {A : Type 0} (f : Flat A) (calls new : ActiveCalls) (m : Buffers) (out : List ℕ) (st : Status) (room : ℕ) (now : FlatWhole A) (s : Slot) (c : Class) (v w : ℕ) → IsFlatMachine f calls m out st room → seen f calls m out st ≡ now
    → IsOfClass now.whole s c → w ≡ low_bits (width c) v → new ≡ record calls { frames = on_innermost (with_slot s (Some w)) calls.frames } → IsFlatMachine f new m out st room
slot_poked {A} f calls new m out st room now s c v w ok same class cut is =
    subst (λ (x : ActiveCalls). IsFlatMachine f x m out st room) (sym is)
    (slot_still f calls m out st room s c v w ok (subst (λ (x : FlatWhole A). IsOfClass x.whole s c) (sym same) class) cut)

pub poked_as : {A : Type 0} (f : Flat A) (calls new : ActiveCalls) (m : Buffers) (out : List ℕ) (st : Status) (room : ℕ) (now : FlatWhole A) (s : Slot) (c : Class) (v w : ℕ) → IsFlatMachine f calls m out st room → seen f calls m out st ≡ now
    → IsOfClass now.whole s c → w ≡ low_bits (width c) v → new ≡ record calls { frames = on_innermost (with_slot s (Some w)) calls.frames } → poke_slot now.whole.program (state_of now.whole) s v ≡ Ok (state_of (whole_of f new m out st))
poked_as {A} f calls new m out st room now s c v w ok same class cut is =
    slot_set (whole_of f calls m out st) now.whole (frames_of f.places new.frames) s c v w (ap (λ (x : FlatWhole A). x.whole) same) ok.machine class (names_now f calls m out st room now ok same) cut
    (ap (λ (x : ActiveCalls). frames_of f.places x.frames) is ∙ frames-with_slot (place_in f.places) calls.frames s (Some w))

-- ---- by name

name_at_slot : {A : Type 0} (p : Program A) (fs : List SlotFrame) (m : Buffers) (out : List ℕ) (st : Status) (s : Slot) (x : Name) (v : ℕ) → names_by_slot p (frames_state p fs) ≡ head_names p fs → slice_get (head_names p fs) s.index ≡ Some x
    → poke_slot p (state_of (whole p fs m out st)) s v ≡ poke_temp p (state_of (whole p fs m out st)) x v
name_at_slot p [] m out st s x v names at = none_some at
name_at_slot {A} p (f ∷ fs) m out st s x v names at =
    let S : State = state_of (whole p (f ∷ fs) m out st) in
    ap (λ xs. poke_by p S v (slice_get xs s.index)) names ∙ ap (poke_by p S v) at

-- a poke by slot is the poke by the slot's name
pub as_named : {A : Type 0} (now : Whole A) (s : Slot) (x : Name) (v : ℕ) → names_by_slot now.program (state_of now).frames ≡ head_names now.program now.frames → slice_get (head_names now.program now.frames) s.index ≡ Some x
    → poke_slot now.program (state_of now) s v ≡ poke_temp now.program (state_of now) x v
as_named now s x v names at = name_at_slot now.program now.frames now.memory now.output now.status s x v names at
