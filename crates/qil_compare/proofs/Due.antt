-- What is due in the innermost frame, from what stands at its place in code.
use Rattle.std.proofs.Common.{◌≡◌, refl, sym, ap, ◌∙◌, subst, ℕ, ◌==◌, if◌then◌else◌, true, false, List, [], ◌∷◌, Option, Some, None}
use Rattle.std.specs.Prelude.{option_map, slice_get}
use Rattle.std.specs.Option.{option_and_then}
use Rattle.std.proofs.lemmas.Bool.{true≢false}
use Rattle.std.proofs.lemmas.Option.{slice_get-map}
use Rattle.qil_tree.specs.declared.ops.AbiType.{AbiType}
use Rattle.qil_tree.specs.declared.ops.Class.TheVariants as classes
use Rattle.qil_tree.specs.declared.tree.Inst.{Inst}
use Rattle.qil_tree.specs.declared.tree.InstKind.{InstKind}
use Rattle.qil_tree.specs.declared.tree.InstKind.TheVariants as insts
use Rattle.qil_tree.specs.declared.tree.JumpKind.{JumpKind}
use Rattle.qil_tree.specs.declared.tree.JumpKind.TheVariants as jumps
use Rattle.qil_tree.specs.declared.tree.Block.{Block}
use Rattle.qil_tree.specs.declared.tree.Func.{Func}
use Rattle.qil_tree.specs.declared.tree.Program.{Program}
use Rattle.qil_rules.specs.Occurrences.{returned_class}
use Rattle.qil_layout.specs.Layout.{width_bytes}
use Rattle.qil_layout.specs.declared.callee.FuncId.{FuncId}
use Rattle.qil_semantics.specs.State as meaning
use Rattle.qil_semantics.specs.State.{Name, Temps, is_final}
use Rattle.qil_semantics.specs.Names.{temps_named}
use Rattle.qil_semantics.specs.Slots.{temps_of}
use Rattle.qil_semantics.specs.Step.{func_named, block_labelled}
use Rattle.qil_code.specs.declared.numbered.NumberedBlock.{NumberedBlock}
use Rattle.qil_code.specs.declared.numbered.NumberedInst.{NumberedInst}
use Rattle.qil_code.specs.Facts.{Finds, KnowsLabels}
use Rattle.qil_code.specs.Named.{named_inst, named_jump, resolved_inst, resolved_jump}
use Rattle.qil_code.specs.Numbered.{inst_of, block_of, func_at, block_in, block_at, names_of}
use Rattle.qil_code.specs.Reading.{block_code_at, labels_at, returns_at}
use Rattle.qil_code.proofs.Naming.{named-kind}
use Rattle.qil_code.proofs.NamedCode.{block-has, inst-has}
use Rattle.qil_frames.specs.Frames.{SlotFrame}
use Rattle.qil_state.specs.declared.status.Status.{Status}
use Rattle.qil_state.specs.declared.status.Status.TheVariants.{Running, Done, Exited, Faulted}
use Rattle.qil_state.specs.Faults.{status_of}
use Rattle.qil_state.specs.State.{Whole, state_of, func_name, label_in, head_names, frame_state, frames_state, FrameFits, FramesFor, PlaceFits, IsMachine}
use Rattle.qil_state.proofs.Leaving.{FuncHere, func_here}
use Rattle.qil_state.proofs.JumpHere.{jump_back, none_left, returns_here}
use Rattle.qil_state.proofs.Place.{none_some, some_same, BlockHere, block_here, block_at_here, names_here}
use Rattle.qil_state.proofs.Resolved.{val_resolved}
use Rattle.qil_compare.specs.declared.event.Kinds.{Kinds}
use Rattle.qil_compare.specs.declared.ahead.Ahead.{Ahead}
use Rattle.qil_compare.specs.Events.{range_from, writes_at, inst_writes, fitted, type_of, jump_returns, place_returns, due_in, due_at, due_by, due_of}
use Rattle.qil_compare.specs.Ahead.{writes_ahead, value_ahead, IsFuncOf, IsDue}

-- ---- with globals as their addresses

pub writes_resolved : {A : Type 0} (p : Program A) (t : Temps) (kind : InstKind A) → writes_at p t (resolved_inst p kind) ≡ writes_at p t kind
writes_resolved p t (insts.Assign to e) = refl
writes_resolved p t (insts.Alloc to op n) = refl
writes_resolved p t (insts.Store w a b) = ap (range_from (width_bytes w)) (val_resolved p t classes.L b)
writes_resolved p t (insts.Blit a b n) = ap (λ o. if n == 0 then None else range_from n o) (val_resolved p t classes.L b)
writes_resolved p t (insts.Call to f args) = refl

pub returns_resolved : {A : Type 0} (p : Program A) (t : Temps) (r : Option AbiType) (j : JumpKind) → jump_returns p t r (resolved_jump p j) ≡ jump_returns p t r j
returns_resolved p t r (jumps.Jmp l) = refl
returns_resolved p t r (jumps.Jnz a l m) = refl
returns_resolved p t r (jumps.Ret None) = refl
returns_resolved p t r (jumps.Ret (Some a)) = ap (fitted (type_of r)) (val_resolved p t (returned_class r) a)
returns_resolved p t r jumps.Hlt = refl

-- ---- the function and the block of a frame

pub due_here : {A : Type 0} (p : Program A) (f : SlotFrame) (fs : List SlotFrame) (func : Func A) (b : Block A) → Finds p → func_at p f.func ≡ Some func → slice_get func.blocks f.block ≡ Some b
    → due_of p (frames_state p (f ∷ fs)) ≡ Some (due_in p (frame_state p fs f) func b)
due_here {A} p f fs func b finds ef eb =
    let F : meaning.Frame = frame_state p fs f in
    let name : F.func ≡ func.name = ap (λ (o : Option (Func A)). func_name o) ef in
    let label : F.label ≡ b.label = ap (λ (o : Option (Block A)). label_in o) (block_at_here p f.func f.block func b ef eb) in
    ap (λ x. due_by p F (func_named p.funcs x)) name
    ∙ ap (due_by p F) (finds.func f.func func ef)
    ∙ ap (λ x. due_at p F func (block_labelled func.blocks x)) label
    ∙ ap (due_at p F func) (finds.block f.func func f.block b ef eb)

pub func_of_due : {A : Type 0} (p : Program A) (F : meaning.Frame) (func : Func A) (b : Block A) (id : FuncId) (i : ℕ) → id.index ≡ i → func_at p i ≡ Some func → IsFuncOf p (due_in p F func b) id
func_of_due {A} p F func b id i ei ef =
    let at : func_at p id.index ≡ Some func = ap (func_at p) ei ∙ ef in
    record {
      name = sym (ap (λ (o : Option (Func A)). func_name o) at);
      returns = ap type_of (sym (returns_here p id.index func at));
    }

-- a frame that fits is in a block
record InBlock {A : Type 0} (p : Program A) (f : SlotFrame) : Type 0 where
  func : Func A
  block : Block A
  func_is : func_at p f.func ≡ Some func
  block_is : slice_get func.blocks f.block ≡ Some block

block_of_frame : {A : Type 0} (p : Program A) (f : SlotFrame) (func : Func A) (o : Option (Block A)) → func_at p f.func ≡ Some func → slice_get func.blocks f.block ≡ o → PlaceFits o f.index → InBlock p f
block_of_frame p f func None ef eb place = absurd place
block_of_frame p f func (Some b) ef eb place = record { func = func; block = b; func_is = ef; block_is = eb }

in_block : {A : Type 0} (p : Program A) (f : SlotFrame) → FrameFits p f → InBlock p f
in_block {A} p f fits =
    let here : FuncHere p f = func_here p f fits in
    let at : block_at p f.func f.block ≡ slice_get here.func.blocks f.block = ap (λ (o : Option (Func A)). block_in o f.block) here.func_is in
    block_of_frame p f here.func (slice_get here.func.blocks f.block) here.func_is refl (subst (λ o. PlaceFits o f.index) at fits.place)

-- ---- what is due at an instruction

record InstThere {A : Type 0} (p : Program A) (f : SlotFrame) (block : NumberedBlock A) (inst : NumberedInst A) : Type 0 where
  here : BlockHere p f.func f.block block
  source : Inst A
  source_is : slice_get here.block.insts f.index ≡ Some source
  back : named_inst (names_of p f.func) inst ≡ resolved_inst p source.kind

of_inst : {A : Type 0} (p : Program A) (f : SlotFrame) (block : NumberedBlock A) (inst : NumberedInst A) (here : BlockHere p f.func f.block block) (o : Option (Inst A)) → slice_get here.block.insts f.index ≡ o
    → option_map (inst_of p (temps_named here.func)) o ≡ Some inst → InstThere p f block inst
of_inst p f block inst here None eo e = none_some e
of_inst {A} p f block inst here (Some t) eo e =
    let ns : List Name = temps_named here.func in
    let names : names_of p f.func ≡ ns = names_here p f.func here.func here.func_is in
    let is : inst_of p ns t ≡ inst = some_same (inst_of p ns t) inst e in
    record {
      here = here;
      source = t;
      source_is = eo;
      back = (λ i. named_inst (names i) (sym is i)) ∙ named-kind p ns t.kind (inst-has ns here.block f.index t eo (block-has here.func f.block here.block here.block_is));
    }

inst_there : {A : Type 0} (p : Program A) (f : SlotFrame) (block : NumberedBlock A) (inst : NumberedInst A) → block_code_at p f.func f.block ≡ Some block → slice_get block.insts f.index ≡ Some inst → InstThere p f block inst
inst_there {A} p f block inst eb ei =
    let here : BlockHere p f.func f.block block = block_here p f.func f.block block eb in
    of_inst p f block inst here (slice_get here.block.insts f.index) refl
    (sym (slice_get-map (inst_of p (temps_named here.func)) here.block.insts f.index) ∙ ap (λ (k : NumberedBlock A). slice_get k.insts f.index) here.code_is ∙ ei)

pub inst_due : {A : Type 0} (p : Program A) (kinds : Kinds) (f : SlotFrame) (fs : List SlotFrame) (block : NumberedBlock A) (inst : NumberedInst A) (id : FuncId) (ahead : Ahead) → Finds p → id.index ≡ f.func
    → block_code_at p f.func f.block ≡ Some block → slice_get block.insts f.index ≡ Some inst
    → (kinds.writes ≡ true → writes_ahead ahead ≡ writes_at p (temps_of (names_of p f.func) f.slots) (named_inst (names_of p f.func) inst)) → value_ahead ahead ≡ None
    → IsDue p kinds (due_of p (frames_state p (f ∷ fs))) id ahead
inst_due {A} p kinds f fs block inst id ahead finds ef eb ei writes value =
    let there : InstThere p f block inst = inst_there p f block inst eb ei in
    let func : Func A = there.here.func in
    let b : Block A = there.here.block in
    let F : meaning.Frame = frame_state p fs f in
    record {
      due = due_in p F func b;
      due_is = due_here p f fs func b finds there.here.func_is there.here.block_is;
      in_func = func_of_due p F func b id f.func ef there.here.func_is;
      is_ahead = record {
        writes = λ w. writes w ∙ ap (writes_at p F.temps) there.back ∙ writes_resolved p F.temps there.source.kind ∙ sym (ap (inst_writes p F.temps) there.source_is);
        value = λ c. value ∙ sym (ap (λ (o : Option (Inst A)). place_returns p F.temps func.returns o b.jump.kind) there.source_is);
      };
    }

-- ---- what is due at a jump

pub jump_due : {A : Type 0} (p : Program A) (kinds : Kinds) (f : SlotFrame) (fs : List SlotFrame) (block : NumberedBlock A) (id : FuncId) (ahead : Ahead) → Finds p → KnowsLabels p → id.index ≡ f.func
    → block_code_at p f.func f.block ≡ Some block → slice_get block.insts f.index ≡ None → writes_ahead ahead ≡ None
    → value_ahead ahead ≡ jump_returns p (temps_of (names_of p f.func) f.slots) (returns_at p f.func) (named_jump (names_of p f.func) (labels_at p f.func) block.jump)
    → IsDue p kinds (due_of p (frames_state p (f ∷ fs))) id ahead
jump_due {A} p kinds f fs block id ahead finds knows ef eb en writes value =
    let here : BlockHere p f.func f.block block = block_here p f.func f.block block eb in
    let func : Func A = here.func in
    let b : Block A = here.block in
    let F : meaning.Frame = frame_state p fs f in
    let past : slice_get b.insts f.index ≡ None =
    none_left (inst_of p (temps_named func)) (slice_get b.insts f.index)
    (sym (slice_get-map (inst_of p (temps_named func)) b.insts f.index) ∙ ap (λ (k : NumberedBlock A). slice_get k.insts f.index) here.code_is ∙ en) in
    record {
      due = due_in p F func b;
      due_is = due_here p f fs func b finds here.func_is here.block_is;
      in_func = func_of_due p F func b id f.func ef here.func_is;
      is_ahead = record {
        writes = λ w. writes ∙ sym (ap (inst_writes p F.temps) past);
        value = λ c. value
            ∙ ap (λ r. jump_returns p F.temps r (named_jump (names_of p f.func) (labels_at p f.func) block.jump)) (returns_here p f.func func here.func_is)
            ∙ ap (jump_returns p F.temps func.returns) (jump_back p f.func f.block block here knows)
            ∙ returns_resolved p F.temps func.returns b.jump.kind
            ∙ sym (ap (λ (o : Option (Inst A)). place_returns p F.temps func.returns o b.jump.kind) past);
      };
    }

-- a frame that fits has a block
pub has_block : {A : Type 0} {X : Type 0} (p : Program A) (f : SlotFrame) → FrameFits p f → block_code_at p f.func f.block ≡ None → X
has_block {A} p f fits none =
    let at : InBlock p f = in_block p f fits in
    let there : block_code_at p f.func f.block ≡ Some (block_of p at.func.blocks (temps_named at.func) at.block) =
    ap (λ (o : Option (Func A)). option_and_then (λ func. option_map (block_of p func.blocks (temps_named func)) (slice_get func.blocks f.block)) o) at.func_is
    ∙ ap (option_map (block_of p at.func.blocks (temps_named at.func))) at.block_is in
    none_some (sym none ∙ there)

-- ---- the innermost frame of a machine

-- where there is none the run is over
over_bare : {X : Type 0} (ns : List Name) (st : Status) (fs : List SlotFrame) → FramesFor st fs → slice_get fs 0 ≡ None → is_final (status_of ns st) ≡ false → X
over_bare ns Running [] some first goes = absurd some
over_bare ns Running (f ∷ fs) some first goes = none_some (sym first)
over_bare ns (Done v) fs some first goes = absurd (true≢false goes)
over_bare ns (Exited w) fs some first goes = absurd (true≢false goes)
over_bare ns (Faulted f) fs some first goes = absurd (true≢false goes)

pub is_bare : {A : Type 0} {X : Type 0} (m : Whole A) → IsMachine m → slice_get m.frames 0 ≡ None → is_final (state_of m).status ≡ false → X
is_bare m ok first goes = over_bare (head_names m.program m.frames) m.status m.frames ok.some first goes
