-- What each jump does, from the parts of a machine.
use Rattle.std.proofs.Common.{◌≡◌, refl, sym, ap, ◌∙◌, subst, ℕ, Bool, true, false, ◌==◌, if◌then◌else◌, List, [], ◌∷◌, length, Option, Some, None, Result, Ok, Err, inl, inr}
use Rattle.std.specs.Prelude.{unwrap_or, slice_get}
use Rattle.std.specs.List.{All}
use Rattle.qil_tree.specs.declared.ops.Class.{Class}
use Rattle.qil_tree.specs.declared.ops.Class.TheVariants as classes
use Rattle.qil_tree.specs.declared.ops.AbiType.TheVariants as types
use Rattle.qil_tree.specs.declared.tree.Block.{Block}
use Rattle.qil_tree.specs.declared.tree.Func.{Func}
use Rattle.qil_tree.specs.declared.tree.Program.{Program}
use Rattle.qil_rules.specs.Occurrences.{returned_class}
use Rattle.qil_memory.specs.Buffers.{Buffers}
use Rattle.qil_semantics.specs.State as meaning
use Rattle.qil_semantics.specs.State.{Name, State, halted}
use Rattle.qil_semantics.specs.Slots.{temps_of}
use Rattle.qil_semantics.specs.Values.{◌>>=◌, val, fit}
use Rattle.qil_semantics.specs.Step.{goes}
use Rattle.qil_code.specs.declared.numbered.Slot.{Slot}
use Rattle.qil_code.specs.declared.numbered.NumberedOperand.{NumberedOperand}
use Rattle.qil_code.specs.declared.numbered.Edge.{Edge}
use Rattle.qil_code.specs.declared.numbered.NumberedBlock.{NumberedBlock}
use Rattle.qil_code.specs.declared.numbered.NumberedJump.{NumberedJump}
use Rattle.qil_code.specs.declared.numbered.NumberedJump.TheVariants as numbered_jumps
use Rattle.qil_code.specs.Slots.{name_at}
use Rattle.qil_code.specs.Numbered.{func_at, block_in, block_at, names_of}
use Rattle.qil_code.specs.Named.{named_operand}
use Rattle.qil_code.specs.Ranges.{MoveInRange, EdgeInRange, JumpInRange, BlockInRange}
use Rattle.qil_code.specs.Reading.{labels_at, returns_at, block_code_at}
use Rattle.qil_code.specs.Facts.{KnowsLabels}
use Rattle.qil_code.proofs.EdgesNamed.{IsEdgeOf, EdgeNamed, edge-named}
use Rattle.qil_frames.specs.declared.saved.SavedSlot.{SavedSlot}
use Rattle.qil_frames.specs.Frames.{SlotFrame}
use Rattle.qil_frames.specs.Enter.{gathered, entered, enters, entered_by}
use Rattle.qil_state.specs.declared.status.Fault.{Fault}
use Rattle.qil_state.specs.declared.status.Fault.TheVariants as faults
use Rattle.qil_state.specs.declared.status.Status.{Status}
use Rattle.qil_state.specs.declared.status.Status.TheVariants.{Running}
use Rattle.qil_state.specs.Faults.{fault_of, reported}
use Rattle.qil_state.specs.State.{Whole, whole, state_of, frame_state, frames_state, head_names, label_in, FrameFits, FramesFit, PlaceFits}
use Rattle.qil_state.specs.Stepping.{went, left_whole, went_whole, returned_whole}
use Rattle.qil_state.specs.Values.{AreSlots}
use Rattle.qil_state.proofs.Place.{none_some, some_same, BlockHere, block_here, block_at_here}
use Rattle.qil_state.proofs.Reading.{are_slots}
use Rattle.qil_state.proofs.JumpHere.{left_hlt, left_ret_none, left_ret, left_jmp, left_jnz}
use Rattle.qil_state.proofs.EdgeHere.{EdgeHere, edge_here, entered_fits}

-- ---- the function of a frame is there

pub record FuncHere {A : Type 0} (p : Program A) (f : SlotFrame) : Type 0 where
  pub func : Func A
  pub func_is : func_at p f.func ≡ Some func

func_by : {A : Type 0} (p : Program A) (f : SlotFrame) (o : Option (Func A)) → func_at p f.func ≡ o → PlaceFits (block_in o f.block) f.index → FuncHere p f
func_by p f None e place = absurd place
func_by p f (Some func) e place = record { func = func; func_is = e }

pub func_here : {A : Type 0} (p : Program A) (f : SlotFrame) → FrameFits p f → FuncHere p f
func_here p f fits = func_by p f (func_at p f.func) refl fits.place

-- ---- jumps that end the frame

pub hlt_left : {A : Type 0} (x : Whole A) (p : Program A) (fs : List SlotFrame) (m : Buffers) (out : List ℕ) (st : Status) (fr : SlotFrame)
    → whole p fs m out st ≡ x → FramesFit p fs → slice_get fs 0 ≡ Some fr → left_whole x numbered_jumps.Hlt ≡ Err (fault_of (head_names x.program x.frames) faults.Halted)
hlt_left x p [] m out st fr is fits at = none_some at
hlt_left {A} x p (f ∷ fs) m out st fr is fits at =
    let here : FuncHere p f = func_here p f fits.0 in
    subst (λ (x : Whole A). left_whole x numbered_jumps.Hlt ≡ Err halted) is (left_hlt p (state_of (whole p (f ∷ fs) m out st)) (frame_state p fs f) (frames_state p fs) f.func here.func here.func_is)

pub bare_ret_left : {A : Type 0} (x : Whole A) (p : Program A) (fs : List SlotFrame) (m : Buffers) (out : List ℕ) (st : Status) (fr : SlotFrame)
    → whole p fs m out st ≡ x → FramesFit p fs → slice_get fs 0 ≡ Some fr → left_whole x (numbered_jumps.Ret None) ≡ returned_whole x None
bare_ret_left x p [] m out st fr is fits at = none_some at
bare_ret_left {A} x p (f ∷ fs) m out st fr is fits at =
    let here : FuncHere p f = func_here p f fits.0 in
    subst (λ (x : Whole A). left_whole x (numbered_jumps.Ret None) ≡ returned_whole x None) is
    (left_ret_none p (state_of (whole p (f ∷ fs) m out st)) (frame_state p fs f) (frames_state p fs) f.func here.func here.func_is)

-- what was read of an operand of a frame, by slots and by names
abbrev pub IsRead : {A : Type 0} → Program A → SlotFrame → Class → NumberedOperand → Result ℕ Fault → Type 0
IsRead p f c a r = (ns : List Name) → AreSlots ns f.slots → reported ns r ≡ val p (temps_of ns f.slots) c (named_operand ns a)

abbrev GivesBack : {A : Type 0} → Program A → SlotFrame → NumberedOperand → Result ℕ Fault → Whole A → Type 0
GivesBack p fr a r x =
    left_whole x (numbered_jumps.Ret (Some a)) ≡ (reported (head_names x.program x.frames) r >>= λ v. returned_whole x (Some (fit (unwrap_or (returns_at p fr.func) types.W) v)))

pub ret_left : {A : Type 0} (x : Whole A) (p : Program A) (fs : List SlotFrame) (m : Buffers) (out : List ℕ) (st : Status) (fr : SlotFrame) (a : NumberedOperand) (r : Result ℕ Fault)
    → whole p fs m out st ≡ x → FramesFit p fs → slice_get fs 0 ≡ Some fr → IsRead p fr (returned_class (returns_at p fr.func)) a r → GivesBack p fr a r x
ret_left x p [] m out st fr a r is fits at read = none_some at
ret_left {A} x p (f ∷ fs) m out st fr a r is fits at read =
    let Goal : SlotFrame → Type 0 = λ g. IsRead p g (returned_class (returns_at p g.func)) a r → GivesBack p g a r (whole p (f ∷ fs) m out st) in
    let here : FuncHere p f = func_here p f fits.0 in
    let S : State = state_of (whole p (f ∷ fs) m out st) in
    let F : meaning.Frame = frame_state p fs f in
    let ns : List Name = names_of p f.func in
    let of_f : Goal f = λ read.
    left_ret p S F (frames_state p fs) f.func here.func (named_operand ns a) here.func_is
    ∙ ap (λ o. o >>= λ v. returned_whole (whole p (f ∷ fs) m out st) (Some (fit (unwrap_or (returns_at p f.func) types.W) v))) (sym (read ns (are_slots p f fits.0))) in
    subst (GivesBack p fr a r) is (subst Goal (some_same f fr at) of_f read)

-- ---- jumps along an edge

along : {A : Type 0} (p : Program A) (f : SlotFrame) (fs : List SlotFrame) (m : Buffers) (out : List ℕ) (st : Status) (func : Func A) (e : Edge A) → func_at p f.func ≡ Some func
    → goes p (state_of (whole p (f ∷ fs) m out st)) (frame_state p fs f) (frames_state p fs) func (name_at (labels_at p f.func) e.to.index) ≡ went_whole (whole p (f ∷ fs) m out st) e
along p f fs m out st func e ef =
    ap (λ o. went p (state_of (whole p (f ∷ fs) m out st)) (frames_state p (f ∷ fs)) o (name_at (labels_at p f.func) e.to.index)) (sym ef)

pub jmp_left : {A : Type 0} (x : Whole A) (p : Program A) (fs : List SlotFrame) (m : Buffers) (out : List ℕ) (st : Status) (fr : SlotFrame) (e : Edge A)
    → whole p fs m out st ≡ x → FramesFit p fs → slice_get fs 0 ≡ Some fr → left_whole x (numbered_jumps.Jmp e) ≡ went_whole x e
jmp_left x p [] m out st fr e is fits at = none_some at
jmp_left {A} x p (f ∷ fs) m out st fr e is fits at =
    let here : FuncHere p f = func_here p f fits.0 in
    subst (λ (x : Whole A). left_whole x (numbered_jumps.Jmp e) ≡ went_whole x e) is
    (left_jmp p (state_of (whole p (f ∷ fs) m out st)) (frame_state p fs f) (frames_state p fs) f.func here.func (name_at (labels_at p f.func) e.to.index) here.func_is
    ∙ along p f fs m out st here.func e here.func_is)

chosen : {A : Type 0} (p : Program A) (f : SlotFrame) (fs : List SlotFrame) (m : Buffers) (out : List ℕ) (st : Status) (func : Func A) (e g : Edge A) → func_at p f.func ≡ Some func → (b : Bool)
    → goes p (state_of (whole p (f ∷ fs) m out st)) (frame_state p fs f) (frames_state p fs) func (if b then name_at (labels_at p f.func) g.to.index else name_at (labels_at p f.func) e.to.index)
    ≡ went_whole (whole p (f ∷ fs) m out st) (if b then g else e)
chosen p f fs m out st func e g ef true = along p f fs m out st func g ef
chosen p f fs m out st func e g ef false = along p f fs m out st func e ef

abbrev Chooses : {A : Type 0} → NumberedOperand → Edge A → Edge A → Result ℕ Fault → Whole A → Type 0
Chooses a e g r x = left_whole x (numbered_jumps.Jnz a e g) ≡ (reported (head_names x.program x.frames) r >>= λ v. went_whole x (if v == 0 then g else e))

pub jnz_left : {A : Type 0} (x : Whole A) (p : Program A) (fs : List SlotFrame) (m : Buffers) (out : List ℕ) (st : Status) (fr : SlotFrame) (a : NumberedOperand) (e g : Edge A) (r : Result ℕ Fault)
    → whole p fs m out st ≡ x → FramesFit p fs → slice_get fs 0 ≡ Some fr → IsRead p fr classes.W a r → Chooses a e g r x
jnz_left x p [] m out st fr a e g r is fits at read = none_some at
jnz_left {A} x p (f ∷ fs) m out st fr a e g r is fits at read =
    let here : FuncHere p f = func_here p f fits.0 in
    let S : State = state_of (whole p (f ∷ fs) m out st) in
    let ns : List Name = names_of p f.func in
    let l : Name = name_at (labels_at p f.func) e.to.index in
    let n : Name = name_at (labels_at p f.func) g.to.index in
    let of_f : IsRead p f classes.W a r = subst (λ (h : SlotFrame). IsRead p h classes.W a r) (sym (some_same f fr at)) read in
    subst (Chooses a e g r) is
    (left_jnz p S (frame_state p fs f) (frames_state p fs) f.func here.func (named_operand ns a) l n here.func_is
    ∙ (λ i. sym (of_f ns (are_slots p f fits.0)) i >>= λ v. chosen p f fs m out st here.func e g here.func_is (v == 0) i))

-- ---- an edge

pub record Went {A : Type 0} (x : Whole A) (p : Program A) (fs : List SlotFrame) (m : Buffers) (out : List ℕ) (st : Status) (e : Edge A) : Type 0 where
  pub entered : (new : List SlotFrame) → entered_by fs e.to.index e.moves ≡ Ok new → went_whole x e ≡ Ok (state_of (whole p new m out st))
  pub unset : (s : Slot) → entered_by fs e.to.index e.moves ≡ Err s → went_whole x e ≡ Err (fault_of (head_names x.program x.frames) (faults.Unset s))
  pub fits : (new : List SlotFrame) → entered_by fs e.to.index e.moves ≡ Ok new → FramesFit p new

abbrev kept : List SavedSlot → Result (List SavedSlot) Slot
kept ks = Ok ks

abbrev no_slot : Slot → Result (List SavedSlot) Slot
no_slot s = Err s

-- what going into a block comes from
pub record IsEntered (f : SlotFrame) (fs : List SlotFrame) (b : ℕ) (r : Result (List SavedSlot) Slot) (new : List SlotFrame) : Type 0 where
  pub slots : List SavedSlot
  pub gathered_is : r ≡ kept slots
  pub new_is : entered b slots f ∷ fs ≡ new

pub is_entered : (f : SlotFrame) (fs : List SlotFrame) (b : ℕ) (r : Result (List SavedSlot) Slot) (new : List SlotFrame) → enters b f fs r ≡ Ok new → IsEntered f fs b r new
is_entered f fs b (Ok ks) new e = record { slots = ks; gathered_is = refl; new_is = cc }
is_entered f fs b (Err s) new e = absurd cc

is_unset : (f : SlotFrame) (fs : List SlotFrame) (b : ℕ) (r : Result (List SavedSlot) Slot) (s : Slot) → enters b f fs r ≡ Err s → r ≡ no_slot s
is_unset f fs b (Ok ks) s e = absurd cc
is_unset f fs b (Err t) s e = cc

edge_went : {A : Type 0} (p : Program A) (f : SlotFrame) (fs : List SlotFrame) (m : Buffers) (out : List ℕ) (func : Func A) (e : Edge A)
    → FramesFit p (f ∷ fs) → func_at p f.func ≡ Some func → EdgeNamed p f.func func (label_in (block_at p f.func f.block)) e → All (MoveInRange (length (names_of p f.func))) e.moves
    → Went (whole p (f ∷ fs) m out Running) p (f ∷ fs) m out Running e
edge_went {A} p f fs m out func e fits ef named range =
    let S : State = state_of (whole p (f ∷ fs) m out Running) in
    let b : ℕ = e.to.index in
    let r : Result (List SavedSlot) Slot = gathered f.slots e.moves in
    let here : EdgeHere p f fs S func e = edge_here p f fs S func e fits.0 ef named range in
    let to = along p f fs m out Running func e ef in
    record {
      entered = λ new at.
          let of : IsEntered f fs b r new = is_entered f fs b r new at in
          sym to ∙ here.goes_there of.slots of.gathered_is ∙ ap (λ l. Ok (state_of (whole p l m out Running))) of.new_is;
      unset = λ s at. sym to ∙ here.unset s (is_unset f fs b r s at);
      fits = λ new at.
          let of : IsEntered f fs b r new = is_entered f fs b r new at in
          subst (FramesFit p) of.new_is (entered_fits p f func (label_in (block_at p f.func f.block)) e of.slots fits.0 ef named, fits.1, fits.2);
    }

edge_along : {A : Type 0} (x : Whole A) (p : Program A) (fs : List SlotFrame) (m : Buffers) (out : List ℕ) (st : Status) (fr : SlotFrame) (func : Func A) (e : Edge A)
    → whole p fs m out st ≡ x → x.status ≡ Running → FramesFit p fs → slice_get fs 0 ≡ Some fr → func_at p fr.func ≡ Some func
    → EdgeNamed p fr.func func (label_in (block_at p fr.func fr.block)) e → All (MoveInRange (length (names_of p fr.func))) e.moves → Went x p fs m out st e
edge_along x p [] m out st fr func e is run fits at ef named range = none_some at
edge_along {A} x p (f ∷ fs) m out st fr func e is run fits at ef named range =
    let running : Running ≡ st = sym run ∙ sym (ap (λ (w : Whole A). w.status) is) in
    let Goal : SlotFrame → Type 0 = λ g.
    func_at p g.func ≡ Some func → EdgeNamed p g.func func (label_in (block_at p g.func g.block)) e → All (MoveInRange (length (names_of p g.func))) e.moves
    → Went (whole p (f ∷ fs) m out Running) p (f ∷ fs) m out Running e in
    let of_fr : Goal fr = subst Goal (some_same f fr at) (edge_went p f fs m out func e fits) in
    subst (λ (w : Whole A). Went w p (f ∷ fs) m out st e) is
    (subst (λ (s : Status). Went (whole p (f ∷ fs) m out s) p (f ∷ fs) m out s e) running (of_fr ef named range))

-- ---- an edge of the jump at the place of the innermost frame

pub edge_in_range : {A : Type 0} (n b : ℕ) (e : Edge A) (j : NumberedJump A) → IsEdgeOf e j → JumpInRange n b j → EdgeInRange n b e
edge_in_range n b e (numbered_jumps.Jmp f) is range = subst (EdgeInRange n b) (sym is) range
edge_in_range n b e (numbered_jumps.Jnz a f g) (inl is) range = subst (EdgeInRange n b) (sym is) range.1
edge_in_range n b e (numbered_jumps.Jnz a f g) (inr is) range = subst (EdgeInRange n b) (sym is) range.2
edge_in_range n b e (numbered_jumps.Ret a) is range = absurd is
edge_in_range n b e numbered_jumps.Hlt is range = absurd is

-- of a running machine
pub went_along : {A : Type 0} (x : Whole A) (p : Program A) (fs : List SlotFrame) (m : Buffers) (out : List ℕ) (st : Status) (fr : SlotFrame) (block : NumberedBlock A) (e : Edge A)
    → whole p fs m out st ≡ x → x.status ≡ Running → FramesFit p fs → slice_get fs 0 ≡ Some fr → KnowsLabels p → block_code_at p fr.func fr.block ≡ Some block
    → BlockInRange (length (names_of p fr.func)) (length (labels_at p fr.func)) block → IsEdgeOf e block.jump → Went x p fs m out st e
went_along {A} x p fs m out st fr block e is run fits at knows eb range of =
    let here : BlockHere p fr.func fr.block block = block_here p fr.func fr.block block eb in
    let named : EdgeNamed p fr.func here.func here.block.label e = edge-named p fr.func fr.block here.func here.block block e knows here.func_is here.block_is here.code_is of in
    let left : here.block.label ≡ label_in (block_at p fr.func fr.block) =
    ap (λ (o : Option (Block A)). label_in o) (sym (block_at_here p fr.func fr.block here.func here.block here.func_is here.block_is)) in
    let moves : EdgeInRange (length (names_of p fr.func)) (length (labels_at p fr.func)) e = edge_in_range _ _ e block.jump of range.jump in
    edge_along x p fs m out st fr here.func e is run fits at here.func_is (subst (λ l. EdgeNamed p fr.func here.func l e) left named) moves.moves
