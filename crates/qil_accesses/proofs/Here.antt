-- The accesses of the step of the innermost frame, from what stands at its place in code.
use Rattle.std.proofs.Common.{◌≡◌, refl, sym, ap, ◌∙◌, subst, ℕ, ◌-◌, true, false, List, [], ◌∷◌, ◌++◌, length, Option, Some, None}
use Rattle.std.specs.Prelude.{option_map, slice_get, map, if◌then◌else◌}
use Rattle.std.specs.List.{filter}
use Rattle.std.proofs.lemmas.List.{append-nil}
use Rattle.std.specs.Option.{option_and_then}
use Rattle.std.specs.Result.{result_ok}
use Rattle.std.proofs.lemmas.Option.{slice_get-map}
use Rattle.qil_tree.specs.declared.ops.Class.TheVariants as classes
use Rattle.qil_tree.specs.declared.tree.Argument.{Argument}
use Rattle.qil_tree.specs.declared.tree.Expr.TheVariants as exprs
use Rattle.qil_tree.specs.declared.tree.Inst.{Inst}
use Rattle.qil_tree.specs.declared.tree.InstKind.{InstKind}
use Rattle.qil_tree.specs.declared.tree.InstKind.TheVariants as insts
use Rattle.qil_tree.specs.declared.tree.Block.{Block}
use Rattle.qil_tree.specs.declared.tree.Func.{Func}
use Rattle.qil_tree.specs.declared.tree.Program.{Program}
use Rattle.qil_layout.specs.Layout.{width_bytes}
use Rattle.qil_layout.specs.declared.callee.Callee.{Callee}
use Rattle.qil_layout.specs.declared.callee.Callee.TheVariants.{Defined, PutChar, Puts, Exit}
use Rattle.qil_layout.specs.Callee.{callee_at}
use Rattle.qil_semantics.specs.State as meaning
use Rattle.qil_semantics.specs.State.{Name, Temps, State}
use Rattle.qil_semantics.specs.Names.{temps_named}
use Rattle.qil_semantics.specs.Slots.{temps_of}
use Rattle.qil_semantics.specs.Step.{func_named, block_labelled}
use Rattle.qil_code.specs.declared.numbered.NumberedBlock.{NumberedBlock}
use Rattle.qil_code.specs.declared.numbered.NumberedInst.{NumberedInst}
use Rattle.qil_code.specs.Facts.{Finds}
use Rattle.qil_code.specs.Named.{named_inst, resolved_inst, resolved_argument}
use Rattle.qil_code.specs.Numbered.{inst_of, block_of, func_at, block_in, block_at, names_of}
use Rattle.qil_code.specs.Reading.{block_code_at}
use Rattle.qil_code.proofs.Naming.{named-kind}
use Rattle.qil_code.proofs.NamedCode.{block-has, inst-has}
use Rattle.qil_frames.specs.Frames.{SlotFrame}
use Rattle.qil_history.specs.qil_machine.Readings.{temp_here}
use Rattle.qil_state.specs.State.{func_name, label_in, frame_state, frames_state, FrameFits, PlaceFits}
use Rattle.qil_state.proofs.Leaving.{FuncHere, func_here}
use Rattle.qil_state.proofs.JumpHere.{none_left}
use Rattle.qil_state.proofs.Place.{none_some, some_same, BlockHere, block_here, block_at_here, names_here}
use Rattle.qil_state.proofs.Resolved.{val_resolved}
use Rattle.qil_accesses.specs.declared.access.Action.TheVariants.{Read, Write}
use Rattle.qil_accesses.specs.declared.access.Access.{Access}
use Rattle.qil_accesses.specs.declared.ahead.Ahead.{Ahead}
use Rattle.qil_accesses.specs.Accesses.{touched, copied, given, load_bytes, call_accesses, inst_accesses, place_accesses, block_accesses, func_accesses, frame_accesses, is_faulted, accesses_to, touches}
use Rattle.qil_accesses.specs.Ahead.{made_by, IsAhead}

-- ---- with globals as their addresses

call_resolved : {A : Type 0} (p : Program A) (temps : Temps) (at n : ℕ) (o : Option Callee) (args : List Argument) → call_accesses p temps at n o (map (resolved_argument p) args) ≡ call_accesses p temps at n o args
call_resolved p temps at n None args = refl
call_resolved p temps at n (Some Puts) [] = refl
call_resolved p temps at n (Some Puts) (a ∷ args) = ap (λ o. touched Read at n (result_ok o)) (val_resolved p temps classes.L a.value)
call_resolved p temps at n (Some PutChar) args = refl
call_resolved p temps at n (Some Exit) args = refl
call_resolved p temps at n (Some (Defined func)) args = refl

inst_resolved : {A : Type 0} (p : Program A) (temps : Temps) (at : ℕ) (s t : State) (kind : InstKind A) → inst_accesses p temps at s t (resolved_inst p kind) ≡ inst_accesses p temps at s t kind
inst_resolved p temps at s t (insts.Assign to (exprs.Unary op a)) = refl
inst_resolved p temps at s t (insts.Assign to (exprs.Binary op a b)) = refl
inst_resolved p temps at s t (insts.Assign to (exprs.Compare op c a b)) = refl
inst_resolved p temps at s t (insts.Assign to (exprs.Extend op a)) = refl
inst_resolved p temps at s t (insts.Assign to (exprs.Load op a)) = ap (λ o. touched Read at (load_bytes op) (result_ok o)) (val_resolved p temps classes.L a)
inst_resolved p temps at s t (insts.Alloc to op n) = ap (λ o. given at (result_ok o) (temp_here t.frames to.name)) (val_resolved p temps classes.L n)
inst_resolved p temps at s t (insts.Store w a b) = ap (λ o. touched Write at (width_bytes w) (result_ok o)) (val_resolved p temps classes.L b)
inst_resolved p temps at s t (insts.Blit a b n) =
    λ i. copied at n (result_ok (val_resolved p temps classes.L a i)) (result_ok (val_resolved p temps classes.L b i))
inst_resolved p temps at s t (insts.Call to f args) =
    let n : ℕ = length t.output - length s.output in
    call_resolved p temps at n _ args
    ∙ ap (λ o. call_accesses p temps at n (option_and_then (callee_at p) (result_ok o)) args) (val_resolved p temps classes.L f)

-- ---- the function and the block of a frame

accesses_here : {A : Type 0} (p : Program A) (f : SlotFrame) (fs : List SlotFrame) (func : Func A) (b : Block A) (at : ℕ) (s t : State)
    → Finds p → func_at p f.func ≡ Some func → slice_get func.blocks f.block ≡ Some b
    → frame_accesses p at s t (frames_state p (f ∷ fs)) ≡ place_accesses p (temps_of (names_of p f.func) f.slots) at s t (slice_get b.insts f.index)
accesses_here {A} p f fs func b at s t finds ef eb =
    let F : meaning.Frame = frame_state p fs f in
    let name : F.func ≡ func.name = ap (λ (o : Option (Func A)). func_name o) ef in
    let label : F.label ≡ b.label = ap (λ (o : Option (Block A)). label_in o) (block_at_here p f.func f.block func b ef eb) in
    ap (λ x. func_accesses p F at s t (func_named p.funcs x)) name
    ∙ ap (func_accesses p F at s t) (finds.func f.func func ef)
    ∙ ap (λ x. block_accesses p F at s t (block_labelled func.blocks x)) label
    ∙ ap (block_accesses p F at s t) (finds.block f.func func f.block b ef eb)

-- a frame that fits is in a block
record InBlock {A : Type 0} (p : Program A) (f : SlotFrame) : Type 0 where
  func : Func A
  block : Block A
  func_is : func_at p f.func ≡ Some func
  block_is : slice_get func.blocks f.block ≡ Some block

block_of_frame : {A : Type 0} (p : Program A) (f : SlotFrame) (func : Func A) (o : Option (Block A)) → func_at p f.func ≡ Some func → slice_get func.blocks f.block ≡ o → PlaceFits o f.index → InBlock p f
block_of_frame p f func None ef eb place = absurd place
block_of_frame p f func (Some b) ef eb place = record { func = func; block = b; func_is = ef; block_is = eb }

in_block : {A : Type 0} (p : Program A) (f : SlotFrame) → FrameFits p f → InBlock p f
in_block {A} p f fits =
    let here : FuncHere p f = func_here p f fits in
    let at : block_at p f.func f.block ≡ slice_get here.func.blocks f.block = ap (λ (o : Option (Func A)). block_in o f.block) here.func_is in
    block_of_frame p f here.func (slice_get here.func.blocks f.block) here.func_is refl (subst (λ o. PlaceFits o f.index) at fits.place)

pub has_block : {A : Type 0} {X : Type 0} (p : Program A) (f : SlotFrame) → FrameFits p f → block_code_at p f.func f.block ≡ None → X
has_block {A} p f fits none =
    let at : InBlock p f = in_block p f fits in
    let there : block_code_at p f.func f.block ≡ Some (block_of p at.func.blocks (temps_named at.func) at.block) =
    ap (λ (o : Option (Func A)). option_and_then (λ func. option_map (block_of p func.blocks (temps_named func)) (slice_get func.blocks f.block)) o) at.func_is
    ∙ ap (option_map (block_of p at.func.blocks (temps_named at.func))) at.block_is in
    none_some (sym none ∙ there)

-- ---- at an instruction

record InstThere {A : Type 0} (p : Program A) (f : SlotFrame) (block : NumberedBlock A) (inst : NumberedInst A) : Type 0 where
  here : BlockHere p f.func f.block block
  source : Inst A
  source_is : slice_get here.block.insts f.index ≡ Some source
  back : named_inst (names_of p f.func) inst ≡ resolved_inst p source.kind

of_inst : {A : Type 0} (p : Program A) (f : SlotFrame) (block : NumberedBlock A) (inst : NumberedInst A) (here : BlockHere p f.func f.block block) (o : Option (Inst A)) → slice_get here.block.insts f.index ≡ o
    → option_map (inst_of p (temps_named here.func)) o ≡ Some inst → InstThere p f block inst
of_inst p f block inst here None eo e = none_some e
of_inst {A} p f block inst here (Some t) eo e =
    let ns : List Name = temps_named here.func in
    let names : names_of p f.func ≡ ns = names_here p f.func here.func here.func_is in
    let is : inst_of p ns t ≡ inst = some_same (inst_of p ns t) inst e in
    record {
      here = here;
      source = t;
      source_is = eo;
      back = (λ i. named_inst (names i) (sym is i)) ∙ named-kind p ns t.kind (inst-has ns here.block f.index t eo (block-has here.func f.block here.block here.block_is));
    }

inst_there : {A : Type 0} (p : Program A) (f : SlotFrame) (block : NumberedBlock A) (inst : NumberedInst A) → block_code_at p f.func f.block ≡ Some block → slice_get block.insts f.index ≡ Some inst → InstThere p f block inst
inst_there {A} p f block inst eb ei =
    let here : BlockHere p f.func f.block block = block_here p f.func f.block block eb in
    of_inst p f block inst here (slice_get here.block.insts f.index) refl
    (sym (slice_get-map (inst_of p (temps_named here.func)) here.block.insts f.index) ∙ ap (λ (k : NumberedBlock A). slice_get k.insts f.index) here.code_is ∙ ei)

pub inst_made : {A : Type 0} (p : Program A) (f : SlotFrame) (fs : List SlotFrame) (block : NumberedBlock A) (inst : NumberedInst A) (ahead : Ahead) (at : ℕ) (s t : State)
    → Finds p → block_code_at p f.func f.block ≡ Some block → slice_get block.insts f.index ≡ Some inst
    → made_by p at t ahead ≡ inst_accesses p (temps_of (names_of p f.func) f.slots) at s t (named_inst (names_of p f.func) inst)
    → made_by p at t ahead ≡ frame_accesses p at s t (frames_state p (f ∷ fs))
inst_made {A} p f fs block inst ahead at s t finds eb ei made =
    let there : InstThere p f block inst = inst_there p f block inst eb ei in
    let temps : Temps = temps_of (names_of p f.func) f.slots in
    made
    ∙ ap (inst_accesses p temps at s t) there.back
    ∙ inst_resolved p temps at s t there.source.kind
    ∙ sym (ap (place_accesses p temps at s t) there.source_is)
    ∙ sym (accesses_here p f fs there.here.func there.here.block at s t finds there.here.func_is there.here.block_is)

-- ---- at a jump

pub jump_made : {A : Type 0} (p : Program A) (f : SlotFrame) (fs : List SlotFrame) (block : NumberedBlock A) (at : ℕ) (s t : State)
    → Finds p → block_code_at p f.func f.block ≡ Some block → slice_get block.insts f.index ≡ None → [] ≡ frame_accesses p at s t (frames_state p (f ∷ fs))
jump_made {A} p f fs block at s t finds eb en =
    let here : BlockHere p f.func f.block block = block_here p f.func f.block block eb in
    let past : slice_get here.block.insts f.index ≡ None =
    none_left (inst_of p (temps_named here.func)) (slice_get here.block.insts f.index)
    (sym (slice_get-map (inst_of p (temps_named here.func)) here.block.insts f.index) ∙ ap (λ (k : NumberedBlock A). slice_get k.insts f.index) here.code_is ∙ en) in
    sym (accesses_here p f fs here.func here.block at s t finds here.func_is here.block_is ∙ ap (place_accesses p (temps_of (names_of p f.func) f.slots) at s t) past)

-- ---- a fault, or none

pub faulted_none : {A : Type 0} (p : Program A) (a m at : ℕ) (s t : State) (list : List Access) → is_faulted t.status ≡ true → list ≡ list ++ filter (touches a m) (accesses_to p at s t)
unfolding accesses_to
faulted_none p a m at s t list e = rw e (sym (append-nil list))

pub made_all : {A : Type 0} (p : Program A) (a m at : ℕ) (s t : State) (ahead : Ahead) (list list' : List Access) → is_faulted t.status ≡ false → IsAhead p s ahead
    → list' ≡ list ++ filter (touches a m) (made_by p at t ahead) → list' ≡ list ++ filter (touches a m) (accesses_to p at s t)
unfolding accesses_to
made_all p a m at s t ahead list list' e is added =
    added ∙ ap (λ xs. list ++ filter (touches a m) xs) (is at t ∙ sym (ap (λ b. if b then [] else frame_accesses p at s t s.frames) e))

-- ---- the innermost frame of a machine

pub head_made : {A : Type 0} (p q : Program A) (fs : List SlotFrame) (f : SlotFrame) (ahead : Ahead) (at : ℕ) (s t : State) → q ≡ p → slice_get fs 0 ≡ Some f
    → ((gs : List SlotFrame) → made_by q at t ahead ≡ frame_accesses q at s t (frames_state q (f ∷ gs))) → made_by p at t ahead ≡ frame_accesses p at s t (frames_state p fs)
head_made p q [] f ahead at s t eq first made = none_some first
head_made {A} p q (g ∷ gs) f ahead at s t eq first made =
    let same : g ≡ f = some_same g f first in
    subst (λ (r : Program A). made_by r at t ahead ≡ frame_accesses r at s t (frames_state r (g ∷ gs))) eq
    (subst (λ (h : SlotFrame). made_by q at t ahead ≡ frame_accesses q at s t (frames_state q (h ∷ gs))) (sym same) (made gs))

pub bare_made : {A : Type 0} (p : Program A) (fs : List SlotFrame) (at : ℕ) (s t : State) → slice_get fs 0 ≡ None → [] ≡ frame_accesses p at s t (frames_state p fs)
bare_made p [] at s t first = refl
bare_made p (f ∷ fs) at s t first = none_some (sym first)
