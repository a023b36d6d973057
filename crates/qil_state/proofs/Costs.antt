-- What a step costs, from what is at the place of the innermost frame.
use Rattle.std.proofs.Common.{◌≡◌, refl, sym, ap, ◌∙◌, ℕ, ◌+◌, List, ◌∷◌, Option, Some, None, Ok}
use Rattle.std.specs.Prelude.{option_map, slice_get}
use Rattle.std.proofs.lemmas.Option.{slice_get-map}
use Rattle.qil_tree.specs.declared.tree.Inst.{Inst}
use Rattle.qil_tree.specs.declared.tree.InstKind.{InstKind}
use Rattle.qil_tree.specs.declared.tree.InstKind.TheVariants as insts
use Rattle.qil_tree.specs.declared.tree.JumpKind.{JumpKind}
use Rattle.qil_tree.specs.declared.tree.JumpKind.TheVariants as jumps
use Rattle.qil_tree.specs.declared.tree.Block.{Block}
use Rattle.qil_tree.specs.declared.tree.Func.{Func}
use Rattle.qil_tree.specs.declared.tree.Program.{Program}
use Rattle.qil_semantics.specs.State as meaning
use Rattle.qil_semantics.specs.State.{Name, State}
use Rattle.qil_semantics.specs.Names.{temps_named}
use Rattle.qil_semantics.specs.Step.{func_named, block_labelled}
use Rattle.qil_semantics.specs.Cost.{inst_cost, jump_cost, place_cost, block_cost, func_cost, outcome_cost, cost_in}
use Rattle.qil_code.specs.declared.numbered.NumberedBlock.{NumberedBlock}
use Rattle.qil_code.specs.declared.numbered.NumberedInst.{NumberedInst}
use Rattle.qil_code.specs.Facts.{Finds, KnowsLabels}
use Rattle.qil_code.specs.Named.{named_inst, named_jump, resolved_inst, resolved_jump}
use Rattle.qil_code.specs.Numbered.{inst_of, func_at, names_of}
use Rattle.qil_code.specs.Reading.{block_code_at, labels_at}
use Rattle.qil_code.proofs.Naming.{named-kind}
use Rattle.qil_code.proofs.NamedCode.{block-has, inst-has}
use Rattle.qil_frames.specs.Frames.{SlotFrame}
use Rattle.qil_state.specs.State.{func_name, label_in, frame_state, frames_state}
use Rattle.qil_state.specs.Stepping.{stepped}
use Rattle.qil_state.proofs.JumpHere.{jump_back, none_left}
use Rattle.qil_state.proofs.Place.{none_some, some_same, BlockHere, block_here, block_at_here, names_here}

-- a step without a fault costs what is written at its place
made_cost : {A : Type 0} (p : Program A) (s t : State) (fs : List meaning.Frame) (f : meaning.Frame) (gs : List meaning.Frame) → fs ≡ f ∷ gs → stepped p s (f ∷ gs) ≡ Ok t
    → cost_in p s (f ∷ gs) ≡ 4 + func_cost s t f (func_named p.funcs f.func)
made_cost p s t fs f gs is e = ap (outcome_cost s f (func_named p.funcs f.func)) e

-- with that function and that block
stands_cost : {A : Type 0} (p : Program A) (f : SlotFrame) (fs : List SlotFrame) (s t : State) (func : Func A) (b : Block A)
    → Finds p → func_at p f.func ≡ Some func → slice_get func.blocks f.block ≡ Some b
    → func_cost s t (frame_state p fs f) (func_named p.funcs (frame_state p fs f).func) ≡ place_cost s t (frame_state p fs f) func (slice_get b.insts f.index) b.jump
stands_cost {A} p f fs s t func b finds ef eb =
    let F : meaning.Frame = frame_state p fs f in
    let name : F.func ≡ func.name = ap (λ (o : Option (Func A)). func_name o) ef in
    let label : F.label ≡ b.label = ap (λ (o : Option (Block A)). label_in o) (block_at_here p f.func f.block func b ef eb) in
    ap (λ x. func_cost s t F (func_named p.funcs x)) name
    ∙ ap (func_cost s t F) (finds.func f.func func ef)
    ∙ ap (λ x. block_cost s t F func (block_labelled func.blocks x)) label
    ∙ ap (block_cost s t F func) (finds.block f.func func f.block b ef eb)

-- globals as their addresses change no cost
inst_resolved : {A : Type 0} (p : Program A) (s t : State) (kind : InstKind A) → inst_cost s t (resolved_inst p kind) ≡ inst_cost s t kind
inst_resolved p s t (insts.Assign to e) = refl
inst_resolved p s t (insts.Alloc to op n) = refl
inst_resolved p s t (insts.Store w a b) = refl
inst_resolved p s t (insts.Blit a b n) = refl
inst_resolved p s t (insts.Call to g args) = refl

jump_resolved : {A : Type 0} (p : Program A) (t : State) (f : meaning.Frame) (func : Func A) (kind : JumpKind) → jump_cost t f func (resolved_jump p kind) ≡ jump_cost t f func kind
jump_resolved p t f func (jumps.Jmp l) = refl
jump_resolved p t f func (jumps.Jnz a l m) = refl
jump_resolved p t f func (jumps.Ret a) = refl
jump_resolved p t f func jumps.Hlt = refl

-- ---- an instruction

of_inst : {A : Type 0} (p : Program A) (f : SlotFrame) (fs : List SlotFrame) (s t : State) (func : Func A) (b : Block A) (tree : Inst A) (inst : NumberedInst A)
    → func_at p f.func ≡ Some func → slice_get func.blocks f.block ≡ Some b → slice_get b.insts f.index ≡ Some tree → inst_of p (temps_named func) tree ≡ inst
    → place_cost s t (frame_state p fs f) func (slice_get b.insts f.index) b.jump ≡ inst_cost s t (named_inst (names_of p f.func) inst)
of_inst {A} p f fs s t func b tree inst ef eb et ei =
    let ns : List Name = temps_named func in
    let names : names_of p f.func ≡ ns = names_here p f.func func ef in
    let back : named_inst ns (inst_of p ns tree) ≡ resolved_inst p tree.kind = named-kind p ns tree.kind (inst-has ns b f.index tree et (block-has func f.block b eb)) in
    ap (λ (o : Option (Inst A)). place_cost s t (frame_state p fs f) func o b.jump) et
    ∙ sym (inst_resolved p s t tree.kind)
    ∙ ap (inst_cost s t) (sym back ∙ (λ i. named_inst (sym names i) (ei i)))

pub inst_here_cost : {A : Type 0} (p : Program A) (f : SlotFrame) (fs : List SlotFrame) (s t : State) (block : NumberedBlock A) (inst : NumberedInst A)
    → Finds p → block_code_at p f.func f.block ≡ Some block → slice_get block.insts f.index ≡ Some inst → stepped p s (frames_state p (f ∷ fs)) ≡ Ok t
    → cost_in p s (frames_state p (f ∷ fs)) ≡ 4 + inst_cost s t (named_inst (names_of p f.func) inst)
inst_here_cost {A} p f fs s t block inst finds eb ei et =
    let here : BlockHere p f.func f.block block = block_here p f.func f.block block eb in
    made_cost p s t (frames_state p (f ∷ fs)) (frame_state p fs f) (frames_state p fs) refl et
    ∙ ap (λ n. 4 + n) (stands_cost p f fs s t here.func here.block finds here.func_is here.block_is
    ∙ by here (slice_get here.block.insts f.index) refl
    (sym (slice_get-map (inst_of p (temps_named here.func)) here.block.insts f.index) ∙ ap (λ (k : NumberedBlock A). slice_get k.insts f.index) here.code_is ∙ ei))
  where
    by : (here : BlockHere p f.func f.block block) (o : Option (Inst A)) → slice_get here.block.insts f.index ≡ o
        → option_map (inst_of p (temps_named here.func)) o ≡ Some inst
        → place_cost s t (frame_state p fs f) here.func (slice_get here.block.insts f.index) here.block.jump ≡ inst_cost s t (named_inst (names_of p f.func) inst)
    by here None eo e = none_some e
    by here (Some tree) eo e = of_inst p f fs s t here.func here.block tree inst here.func_is here.block_is eo (some_same (inst_of p (temps_named here.func) tree) inst e)

-- ---- a jump

-- of a function that is there, or not
abbrev pub head_cost : {A : Type 0} → State → Option (Func A) → meaning.Frame → JumpKind → ℕ
head_cost t None f kind = 0
head_cost t (Some func) f kind = jump_cost t f func kind

pub jump_here_cost : {A : Type 0} (p : Program A) (f : SlotFrame) (fs : List SlotFrame) (s t : State) (block : NumberedBlock A)
    → Finds p → KnowsLabels p → block_code_at p f.func f.block ≡ Some block → slice_get block.insts f.index ≡ None → stepped p s (frames_state p (f ∷ fs)) ≡ Ok t
    → cost_in p s (frames_state p (f ∷ fs)) ≡ 4 + head_cost t (func_at p f.func) (frame_state p fs f) (named_jump (names_of p f.func) (labels_at p f.func) block.jump)
jump_here_cost {A} p f fs s t block finds knows eb en et =
    let here : BlockHere p f.func f.block block = block_here p f.func f.block block eb in
    let func : Func A = here.func in
    let b : Block A = here.block in
    let F : meaning.Frame = frame_state p fs f in
    let past : slice_get b.insts f.index ≡ None =
    none_left (inst_of p (temps_named func)) (slice_get b.insts f.index)
    (sym (slice_get-map (inst_of p (temps_named func)) b.insts f.index) ∙ ap (λ (k : NumberedBlock A). slice_get k.insts f.index) here.code_is ∙ en) in
    made_cost p s t (frames_state p (f ∷ fs)) F (frames_state p fs) refl et
    ∙ ap (λ n. 4 + n) (stands_cost p f fs s t func b finds here.func_is here.block_is
    ∙ ap (λ (o : Option (Inst A)). place_cost s t F func o b.jump) past
    ∙ sym (jump_resolved p t F func b.jump.kind)
    ∙ ap (jump_cost t F func) (sym (jump_back p f.func f.block block here knows))
    ∙ ap (λ o. head_cost t o F (named_jump (names_of p f.func) (labels_at p f.func) block.jump)) (sym here.func_is))
