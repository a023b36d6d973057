-- A step, from what is at the place of the innermost frame.
use Rattle.std.proofs.Common.{◌≡◌, refl, sym, ap, ◌∙◌, subst, ℕ, zero, suc, List, [], ◌∷◌, length, Some, None, Ok, Err}
use Rattle.std.specs.Prelude.{slice_get}
use Rattle.std.specs.List.{All}
use Rattle.std.proofs.lemmas.List.Elements.{recursion_from_All, All-from_recursion}
use Rattle.qil_tree.specs.declared.tree.Program.{Program}
use Rattle.qil_semantics.specs.Step.{step_of}
use Rattle.qil_code.specs.declared.numbered.NumberedInst.{NumberedInst}
use Rattle.qil_code.specs.declared.numbered.NumberedBlock.{NumberedBlock}
use Rattle.qil_code.specs.Ranges.{InstInRange}
use Rattle.qil_frames.specs.Frames.{SlotFrame}
use Rattle.qil_state.specs.declared.status.Fault.{Fault}
use Rattle.qil_state.specs.declared.status.Status.TheVariants.{Faulted}
use Rattle.qil_state.specs.Faults.{fault_of}
use Rattle.qil_state.specs.State.{Whole, whole, state_of, head_names, FramesFit, IsMachine, IsNext}
use Rattle.qil_state.specs.Stepping.{stepped_whole, performed_whole, left_whole}
use Rattle.qil_state.proofs.Place.{none_some, some_same}
use Rattle.qil_state.proofs.Stepping.{Found, found, found_jump, step_settled, faulted_step}
use Rattle.qil_machine.specs.Steps.{IsHere, HasInst}

-- ---- an instruction

all_at : {X : Type 0} (P : X → Type 0) (xs : List X) (k : ℕ) (x : X) → All P xs → slice_get xs k ≡ Some x → P x
all_at P [] k x all e = none_some e
all_at P (y ∷ ys) zero x all e = subst P (some_same y x e) (recursion_from_All P (y ∷ ys) all).0
all_at P (y ∷ ys) (suc k) x all e = all_at P ys k x (All-from_recursion P ys (recursion_from_All P (y ∷ ys) all).1) e

pub record InstFound {A : Type 0} (now : Whole A) (inst : NumberedInst A) (k : ℕ) : Type 0 where
  pub does : stepped_whole now ≡ performed_whole now inst
  pub next : IsNext now.program now.frames k
  pub range : HasInst now.program now.frames inst

inst_at : {A : Type 0} (x : Whole A) (p : Program A) (fs : List SlotFrame) (block : NumberedBlock A) (inst : NumberedInst A) (k : ℕ) → p ≡ x.program → fs ≡ x.frames → FramesFit p fs → IsHere p fs block k → slice_get block.insts k ≡ Some inst
    → InstFound (whole p fs x.memory x.output x.status) inst k
inst_at x p [] block inst k ep ef fits here is = absurd here
inst_at {A} x p (f ∷ fs) block inst k ep ef fits here is =
    let w : Whole A = whole p (f ∷ fs) x.memory x.output x.status in
    let at : slice_get block.insts f.index ≡ Some inst = ap (slice_get block.insts) here.index ∙ is in
    let there : Found w inst f.index = found w p (f ∷ fs) x.memory x.output x.status f block inst refl refl here.finds here.code at in
    record {
      does = there.does;
      next = subst (IsNext p (f ∷ fs)) here.index there.next;
      range = subst (λ n. InstInRange n inst) fits.0.slots (all_at (InstInRange (length _)) block.insts k inst here.range.insts is);
    }

pub inst_found : {A : Type 0} (m now : Whole A) (block : NumberedBlock A) (inst : NumberedInst A) (k : ℕ) → m ≡ now → IsMachine m → IsHere now.program now.frames block k → Some inst ≡ slice_get block.insts k → InstFound now inst k
inst_found {A} m now block inst k same ok here is =
    inst_at now now.program now.frames block inst k refl refl (subst (λ (x : Whole A). FramesFit x.program x.frames) same ok.frames) here (sym is)

-- ---- or a jump

jump_at : {A : Type 0} (x : Whole A) (p : Program A) (fs : List SlotFrame) (block : NumberedBlock A) (k : ℕ) → IsHere p fs block k → slice_get block.insts k ≡ None → stepped_whole (whole p fs x.memory x.output x.status) ≡ left_whole (whole p fs x.memory x.output x.status) block.jump
jump_at x p [] block k here is = absurd here
jump_at {A} x p (f ∷ fs) block k here is =
    let w : Whole A = whole p (f ∷ fs) x.memory x.output x.status in
    found_jump w p (f ∷ fs) x.memory x.output x.status f block refl refl here.finds here.knows here.code (ap (slice_get block.insts) here.index ∙ is)

pub jump_found : {A : Type 0} (now : Whole A) (block : NumberedBlock A) (k : ℕ) → IsHere now.program now.frames block k → None ≡ slice_get block.insts k → stepped_whole now ≡ left_whole now block.jump
jump_found now block k here is = jump_at now now.program now.frames block k here (sym is)

-- ---- and the step

pub step_done : {A : Type 0} (now new : Whole A) → stepped_whole now ≡ Ok (state_of new) → state_of new ≡ step_of now.program (state_of now)
step_done now new e = sym (step_settled now.program (state_of now) (Ok (state_of new)) e)

pub step_faulted : {A : Type 0} (now same new : Whole A) (why : Fault) → same ≡ now → stepped_whole now ≡ Err (fault_of (head_names now.program now.frames) why) → new ≡ record same { status = Faulted why } → state_of new ≡ step_of now.program (state_of now)
step_faulted {A} now same new why is e en =
    ap (λ (x : Whole A). state_of x) en ∙ faulted_step now same same.program same.frames same.memory same.output same.status why refl is e
