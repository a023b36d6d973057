-- A step and its fault, from the parts of a machine.
use Rattle.std.proofs.Common.{◌≡◌, refl, sym, ap, ◌∙◌, subst, ℕ, ◌+◌, List, [], ◌∷◌, Some, None, Err}
use Rattle.std.specs.Prelude.{slice_get}
use Rattle.qil_tree.specs.declared.tree.Program.{Program}
use Rattle.qil_memory.specs.Buffers.{Buffers}
use Rattle.qil_semantics.specs.State as meaning
use Rattle.qil_semantics.specs.State.{State}
use Rattle.qil_semantics.specs.Step.{step_of, step_in, settled}
use Rattle.qil_semantics.specs.Values.{Outcome}
use Rattle.qil_code.specs.declared.numbered.NumberedBlock.{NumberedBlock}
use Rattle.qil_code.specs.declared.numbered.NumberedInst.{NumberedInst}
use Rattle.qil_code.specs.Facts.{Finds, KnowsLabels}
use Rattle.qil_code.specs.Numbered.{block_at}
use Rattle.qil_code.specs.Reading.{block_code_at}
use Rattle.qil_frames.specs.Frames.{SlotFrame}
use Rattle.qil_state.specs.declared.status.Fault.{Fault}
use Rattle.qil_state.specs.declared.status.Status.{Status}
use Rattle.qil_state.specs.declared.status.Status.TheVariants.{Faulted}
use Rattle.qil_state.specs.Faults.{fault_of}
use Rattle.qil_state.specs.State.{Whole, whole, state_of, head_names, PlaceFits, IsNext}
use Rattle.qil_state.specs.Stepping.{stepped, stepped_whole, performed_whole, left_whole}
use Rattle.qil_state.proofs.Place.{none_some, some_same}
use Rattle.qil_state.proofs.InstHere.{InstHere, inst_here}
use Rattle.qil_state.proofs.JumpHere.{jump_here}

settles : {A : Type 0} (p : Program A) (s : State) (fs : List meaning.Frame) → step_in p s fs ≡ settled s (stepped p s fs)
settles p s [] = refl
settles p s (f ∷ fs) = refl

pub step_settled : {A : Type 0} (p : Program A) (s : State) (o : Outcome State) → stepped p s s.frames ≡ o → step_of p s ≡ settled s o
unfolding step_of
step_settled p s o e = settles p s s.frames ∙ ap (settled s) e

-- a step that faults changes the status and nothing else
pub faulted_step : {A : Type 0} (x y : Whole A) (p : Program A) (fs : List SlotFrame) (m : Buffers) (out : List ℕ) (st : Status) (why : Fault)
    → whole p fs m out st ≡ y → y ≡ x → stepped_whole x ≡ Err (fault_of (head_names x.program x.frames) why) → state_of (whole p fs m out (Faulted why)) ≡ step_of x.program (state_of x)
faulted_step {A} x y p fs m out st why is same e =
    subst (λ (x : Whole A). stepped_whole x ≡ Err (fault_of (head_names x.program x.frames) why) → state_of (whole p fs m out (Faulted why)) ≡ step_of x.program (state_of x)) (is ∙ same)
    (λ e. sym (step_settled p (state_of (whole p fs m out st)) (Err (fault_of (head_names p fs) why)) e)) e

-- ---- what is at the place of the innermost frame

pub record Found {A : Type 0} (x : Whole A) (inst : NumberedInst A) (k : ℕ) : Type 0 where
  pub does : stepped_whole x ≡ performed_whole x inst
  pub next : IsNext x.program x.frames k

pub found : {A : Type 0} (x : Whole A) (p : Program A) (fs : List SlotFrame) (m : Buffers) (out : List ℕ) (st : Status) (fr : SlotFrame) (block : NumberedBlock A) (inst : NumberedInst A)
    → whole p fs m out st ≡ x → slice_get fs 0 ≡ Some fr → Finds p → block_code_at p fr.func fr.block ≡ Some block → slice_get block.insts fr.index ≡ Some inst → Found x inst fr.index
found x p [] m out st fr block inst is at finds eb ei = none_some at
found {A} x p (f ∷ fs) m out st fr block inst is at finds eb ei =
    let same : f ≡ fr = some_same f fr at in
    let Here : SlotFrame → Type 0 = λ g. (block_code_at p g.func g.block ≡ Some block) × (slice_get block.insts g.index ≡ Some inst) in
    let at_f : Here f = subst Here (sym same) (eb, ei) in
    let here : InstHere p f fs (state_of (whole p (f ∷ fs) m out st)) inst = inst_here p f fs (state_of (whole p (f ∷ fs) m out st)) block inst finds at_f.0 at_f.1 in
    let k : f.index ≡ fr.index = ap (λ (g : SlotFrame). g.index) same in
    subst (λ x. Found x inst fr.index) is (record { does = here.does; next = (k, subst (λ n. PlaceFits (block_at p f.func f.block) (n + 1)) k here.next) })

pub found_jump : {A : Type 0} (x : Whole A) (p : Program A) (fs : List SlotFrame) (m : Buffers) (out : List ℕ) (st : Status) (fr : SlotFrame) (block : NumberedBlock A)
    → whole p fs m out st ≡ x → slice_get fs 0 ≡ Some fr → Finds p → KnowsLabels p → block_code_at p fr.func fr.block ≡ Some block → slice_get block.insts fr.index ≡ None
    → stepped_whole x ≡ left_whole x block.jump
found_jump x p [] m out st fr block is at finds knows eb en = none_some at
found_jump {A} x p (f ∷ fs) m out st fr block is at finds knows eb en =
    let same : f ≡ fr = some_same f fr at in
    let Here : SlotFrame → Type 0 = λ g. (block_code_at p g.func g.block ≡ Some block) × (slice_get block.insts g.index ≡ None) in
    let at_f : Here f = subst Here (sym same) (eb, en) in
    subst (λ (x : Whole A). stepped_whole x ≡ left_whole x block.jump) is (jump_here p f fs (state_of (whole p (f ∷ fs) m out st)) block finds knows at_f.0 at_f.1)
