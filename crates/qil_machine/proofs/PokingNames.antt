-- Pokes of temporaries by name.
use Rattle.std.proofs.Common.{◌≡◌, refl, sym, ap, ◌∙◌, subst, ℕ, ◌<◌, List, [], ◌∷◌, length, Option, Some, None, Err, arith}
use Rattle.std.specs.Prelude.{slice_get}
use Rattle.std.proofs.lemmas.Option.{slice_get_within}
use Rattle.qil_tree.specs.declared.tree.Func.{Func}
use Rattle.qil_tree.specs.declared.tree.Program.{Program}
use Rattle.qil_symbols.specs.Numbers.{place_of}
use Rattle.qil_memory.specs.Buffers.{Buffers}
use Rattle.qil_semantics.specs.State as meaning
use Rattle.qil_semantics.specs.State.{Name, State}
use Rattle.qil_semantics.specs.Names.{temps_named}
use Rattle.qil_semantics.specs.Poke.{temp_class, poke_in, poke_temp, unknown_temporary}
use Rattle.qil_semantics.specs.Step.{func_named}
use Rattle.qil_code.specs.declared.numbered.Slot.{Slot}
use Rattle.qil_code.specs.Facts.{Finds}
use Rattle.qil_code.specs.Numbered.{func_at, names_of}
use Rattle.qil_code.proofs.Has.{name-at}
use Rattle.qil_code.proofs.UnknownTemps.{unknown-unclassed}
use Rattle.qil_frames.specs.Frames.{SlotFrame, HasSlot}
use Rattle.qil_state.specs.declared.status.Status.{Status}
use Rattle.qil_state.specs.State.{Whole, whole, state_of, func_name, frame_state, frames_state, head_names, FrameFits, FramesFit, IsMachine}
use Rattle.qil_state.proofs.Place.{none_some, some_same, names_here}
use Rattle.qil_machine.proofs.Watching.{there_by}

-- ---- names that are those of slots

abbrev IsNamed : {A : Type 0} → Program A → List SlotFrame → Slot → Name → Type 0
IsNamed p fs s x = HasSlot fs s × (slice_get (head_names p fs) s.index ≡ Some x)

named_first : {A : Type 0} (p : Program A) (fs : List SlotFrame) (fr : SlotFrame) (i : ℕ) (s : Slot) (x : Name) → FramesFit p fs → slice_get fs 0 ≡ Some fr → i ≡ fr.func → Some s.index ≡ place_of (names_of p i) x → IsNamed p fs s x
named_first p [] fr i s x fits first at e = none_some first
named_first p (f ∷ fs) fr i s x fits first at e =
    let same : i ≡ f.func = at ∙ ap (λ (g : SlotFrame). g.func) (sym (some_same f fr first)) in
    let here : slice_get (names_of p f.func) s.index ≡ Some x = name-at (names_of p f.func) x s.index (sym (e ∙ ap (λ j. place_of (names_of p j) x) same)) in
    let within : s.index < length (names_of p f.func) = slice_get_within (names_of p f.func) s.index x here in
    (omega (arith, within, fits.0.slots), here)

pub slot_named : {A : Type 0} (m now : Whole A) (fr : SlotFrame) (q : Program A) (i : ℕ) (s : Slot) (x : Name) → m ≡ now → IsMachine m → slice_get m.frames 0 ≡ Some fr → i ≡ fr.func → q ≡ m.program
    → Some s.index ≡ place_of (names_of q i) x → HasSlot now.frames s × (slice_get (head_names now.program now.frames) s.index ≡ Some x)
slot_named {A} m now fr q i s x same ok first at program e =
    subst (λ (w : Whole A). IsNamed w.program w.frames s x) same
    (named_first m.program m.frames fr i s x ok.frames first at (subst (λ (r : Program A). Some s.index ≡ place_of (names_of r i) x) program e))

-- ---- names that aren't

unknown_at : {A : Type 0} (p : Program A) (f : SlotFrame) (fs : List SlotFrame) (m : Buffers) (out : List ℕ) (st : Status) (x : Name) (v : ℕ) → FrameFits p f → Finds p → place_of (names_of p f.func) x ≡ None
    → poke_temp p (state_of (whole p (f ∷ fs) m out st)) x v ≡ Err unknown_temporary
unknown_at {A} p f fs m out st x v fits finds none =
    let S : State = state_of (whole p (f ∷ fs) m out st) in
    let F : meaning.Frame = frame_state p fs f in
    let here = there_by p f.func f.block f.index (func_at p f.func) refl fits.place in
    let name : F.func ≡ here.func.name = ap (λ (o : Option (Func A)). func_name o) here.is in
    let bare : place_of (temps_named here.func) x ≡ None = ap (λ ns. place_of ns x) (sym (names_here p f.func here.func here.is)) ∙ none in
    let class : temp_class (func_named p.funcs F.func) x ≡ None =
    ap (λ y. temp_class (func_named p.funcs y) x) name ∙ ap (λ (o : Option (Func A)). temp_class o x) (finds.func f.func here.func here.is) ∙ unknown-unclassed here.func x bare in
    ap (poke_in S F (frames_state p fs) x v) class

unknown_first : {A : Type 0} (p : Program A) (fs : List SlotFrame) (m : Buffers) (out : List ℕ) (st : Status) (fr : SlotFrame) (i : ℕ) (x : Name) (v : ℕ) → FramesFit p fs → slice_get fs 0 ≡ Some fr → i ≡ fr.func
    → Finds p → None ≡ place_of (names_of p i) x → poke_temp p (state_of (whole p fs m out st)) x v ≡ Err unknown_temporary
unknown_first p [] m out st fr i x v fits first at finds none = none_some first
unknown_first p (f ∷ fs) m out st fr i x v fits first at finds none =
    let same : i ≡ f.func = at ∙ ap (λ (g : SlotFrame). g.func) (sym (some_same f fr first)) in
    unknown_at p f fs m out st x v fits.0 finds (sym (none ∙ ap (λ j. place_of (names_of p j) x) same))

pub name_unknown : {A : Type 0} (m now : Whole A) (fr : SlotFrame) (q : Program A) (i : ℕ) (x : Name) (v : ℕ) → m ≡ now → IsMachine m → slice_get m.frames 0 ≡ Some fr → i ≡ fr.func → q ≡ m.program
    → Finds q → None ≡ place_of (names_of q i) x → poke_temp now.program (state_of now) x v ≡ Err unknown_temporary
name_unknown {A} m now fr q i x v same ok first at program finds none =
    subst (λ (w : Whole A). poke_temp w.program (state_of w) x v ≡ Err unknown_temporary) same
    (unknown_first m.program m.frames m.memory m.output m.status fr i x v ok.frames first at (subst Finds program finds)
    (subst (λ (r : Program A). None ≡ place_of (names_of r i) x) program none))
