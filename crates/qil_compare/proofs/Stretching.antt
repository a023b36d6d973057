-- From the numbered code at a frame to the steps that stay in its block.
use Rattle.std.proofs.Common.{◌≡◌, refl, sym, ap, ◌∙◌, subst, ℕ, zero, suc, ◌+◌, ◌-◌, ◌<◌, ◌≤◌, Bool, true, false, List, [], ◌∷◌, length, get_or, inl, inr, Option, Some, None, arith}
use Rattle.std.specs.Prelude.{option_map, slice_get}
use Rattle.std.proofs.lemmas.Bool.{cases_lt}
use Rattle.std.proofs.lemmas.Option.{slice_get-map, slice_get-get_or}
use Rattle.qil_tree.specs.declared.tree.Inst.{Inst}
use Rattle.qil_tree.specs.declared.tree.InstKind.{InstKind}
use Rattle.qil_tree.specs.declared.tree.InstKind.TheVariants as insts
use Rattle.qil_tree.specs.declared.tree.JumpKind.{JumpKind}
use Rattle.qil_tree.specs.declared.tree.JumpKind.TheVariants as jumps
use Rattle.qil_tree.specs.declared.tree.Block.{Block}
use Rattle.qil_tree.specs.declared.tree.Func.{Func}
use Rattle.qil_tree.specs.declared.tree.Program.{Program}
use Rattle.qil_layout.specs.declared.callee.FuncId.{FuncId}
use Rattle.qil_semantics.specs.State as meaning
use Rattle.qil_semantics.specs.State.{Name, State}
use Rattle.qil_semantics.specs.Names.{temps_named}
use Rattle.qil_semantics.specs.Step.{func_named, block_labelled}
use Rattle.qil_semantics.specs.Targets.{after}
use Rattle.qil_code.specs.declared.numbered.NumberedBlock.{NumberedBlock}
use Rattle.qil_code.specs.declared.numbered.NumberedInst.{NumberedInst}
use Rattle.qil_code.specs.declared.numbered.NumberedInst.TheVariants as numbered
use Rattle.qil_code.specs.declared.numbered.NumberedJump.{NumberedJump}
use Rattle.qil_code.specs.declared.numbered.NumberedJump.TheVariants as numbered_jumps
use Rattle.qil_code.specs.Facts.{Finds, KnowsLabels}
use Rattle.qil_code.specs.Named.{named_inst, named_jump, resolved_inst, resolved_jump}
use Rattle.qil_code.specs.Numbered.{inst_of, func_at, block_at, names_of}
use Rattle.qil_code.specs.Reading.{labels_at}
use Rattle.qil_code.proofs.Naming.{named-kind}
use Rattle.qil_code.proofs.NamedCode.{block-has, inst-has}
use Rattle.qil_frames.specs.Frames.{SlotFrame}
use Rattle.qil_state.specs.State.{func_name, label_in, frame_state, frames_state}
use Rattle.qil_state.proofs.JumpHere.{jump_back, none_left}
use Rattle.qil_state.proofs.Place.{none_some, some_same, BlockHere, block_at_here, names_here}
use Rattle.qil_compare.specs.declared.event.Kinds.{Kinds}
use Rattle.qil_compare.specs.declared.ahead.Ahead.{Ahead}
use Rattle.qil_compare.specs.declared.ahead.Ahead.TheVariants as aheads
use Rattle.qil_compare.specs.declared.ahead.Stretch.{Stretch}
use Rattle.qil_compare.specs.Events.{due_of}
use Rattle.qil_compare.specs.Ahead.{is_plain, is_call, is_return, IsPlainAt, ArePlain, IsDue, GoesOn, IsStretch}
use Rattle.qil_compare.proofs.Due.{func_of_due}
use Rattle.qil_compare.proofs.Staying.{plain_kind, call_kind, return_kind, ArePlainKinds, IsPlaceOf, IsQuietAt, call_quiet, jump_quiet, stretch}

-- ---- what names say of numbered instructions and jumps

plain_named : {A : Type 0} (writes : Bool) (ns : List Name) (inst : NumberedInst A) → plain_kind writes (named_inst ns inst) ≡ is_plain writes inst
plain_named writes ns (numbered.Assign class to e) = refl
plain_named writes ns (numbered.Alloc class to op n) = refl
plain_named writes ns (numbered.Store w a b) = refl
plain_named writes ns (numbered.Blit a b n) = refl
plain_named writes ns (numbered.Call to callee args) = refl

plain_resolved : {A : Type 0} (writes : Bool) (p : Program A) (kind : InstKind A) → plain_kind writes (resolved_inst p kind) ≡ plain_kind writes kind
plain_resolved writes p (insts.Assign to e) = refl
plain_resolved writes p (insts.Alloc to op n) = refl
plain_resolved writes p (insts.Store w a b) = refl
plain_resolved writes p (insts.Blit a b n) = refl
plain_resolved writes p (insts.Call to f args) = refl

call_named : {A : Type 0} (ns : List Name) (inst : NumberedInst A) → call_kind (named_inst ns inst) ≡ is_call inst
call_named ns (numbered.Assign class to e) = refl
call_named ns (numbered.Alloc class to op n) = refl
call_named ns (numbered.Store w a b) = refl
call_named ns (numbered.Blit a b n) = refl
call_named ns (numbered.Call to callee args) = refl

call_resolved : {A : Type 0} (p : Program A) (kind : InstKind A) → call_kind (resolved_inst p kind) ≡ call_kind kind
call_resolved p (insts.Assign to e) = refl
call_resolved p (insts.Alloc to op n) = refl
call_resolved p (insts.Store w a b) = refl
call_resolved p (insts.Blit a b n) = refl
call_resolved p (insts.Call to f args) = refl

return_named : {A : Type 0} (ns ls : List Name) (jump : NumberedJump A) → return_kind (named_jump ns ls jump) ≡ is_return jump
return_named ns ls (numbered_jumps.Jmp e) = refl
return_named ns ls (numbered_jumps.Jnz a e f) = refl
return_named ns ls (numbered_jumps.Ret a) = refl
return_named ns ls numbered_jumps.Hlt = refl

return_resolved : {A : Type 0} (p : Program A) (jump : JumpKind) → return_kind (resolved_jump p jump) ≡ return_kind jump
return_resolved p (jumps.Jmp l) = refl
return_resolved p (jumps.Jnz a l m) = refl
return_resolved p (jumps.Ret None) = refl
return_resolved p (jumps.Ret (Some a)) = refl
return_resolved p jumps.Hlt = refl

-- ---- the instruction that a numbered one is of

record SourceAt {A : Type 0} (p : Program A) (ns : List Name) (b : Block A) (n : ℕ) (inst : NumberedInst A) : Type 0 where
  source : Inst A
  source_is : slice_get b.insts n ≡ Some source
  back : named_inst ns inst ≡ resolved_inst p source.kind

source_of : {A : Type 0} (p : Program A) (i j n : ℕ) (block : NumberedBlock A) (inst : NumberedInst A) (here : BlockHere p i j block) (o : Option (Inst A)) → slice_get here.block.insts n ≡ o
    → option_map (inst_of p (temps_named here.func)) o ≡ Some inst → SourceAt p (names_of p i) here.block n inst
source_of p i j n block inst here None eo e = none_some e
source_of {A} p i j n block inst here (Some t) eo e =
    let ns : List Name = temps_named here.func in
    let names : names_of p i ≡ ns = names_here p i here.func here.func_is in
    let is : inst_of p ns t ≡ inst = some_same (inst_of p ns t) inst e in
    record {
      source = t;
      source_is = eo;
      back = (λ k. named_inst (names k) (sym is k)) ∙ named-kind p ns t.kind (inst-has ns here.block n t eo (block-has here.func j here.block here.block_is));
    }

source_at : {A : Type 0} (p : Program A) (i j n : ℕ) (block : NumberedBlock A) (inst : NumberedInst A) (here : BlockHere p i j block) → slice_get block.insts n ≡ Some inst → SourceAt p (names_of p i) here.block n inst
source_at p i j n block inst here ei =
    source_of p i j n block inst here (slice_get here.block.insts n) refl
    (sym (slice_get-map (inst_of p (temps_named here.func)) here.block.insts n) ∙ ap (λ (k : NumberedBlock _). slice_get k.insts n) here.code_is ∙ ei)

plain_source : {A : Type 0} (p : Program A) (writes : Bool) (ns : List Name) (b : Block A) (n : ℕ) (inst : NumberedInst A) (at : SourceAt p ns b n inst) → is_plain writes inst ≡ true → plain_kind writes at.source.kind ≡ true
plain_source p writes ns b n inst at h = sym (plain_resolved writes p at.source.kind) ∙ ap (plain_kind writes) (sym at.back) ∙ plain_named writes ns inst ∙ h

call_source : {A : Type 0} (p : Program A) (ns : List Name) (b : Block A) (n : ℕ) (inst : NumberedInst A) (at : SourceAt p ns b n inst) → is_call inst ≡ true → call_kind at.source.kind ≡ true
call_source p ns b n inst at h = sym (call_resolved p at.source.kind) ∙ ap call_kind (sym at.back) ∙ call_named ns inst ∙ h

plain_sources : {A : Type 0} (p : Program A) (writes : Bool) (i j : ℕ) (block : NumberedBlock A) (here : BlockHere p i j block) (from to n : ℕ) → ArePlain writes block.insts from to → from + n ≤ to → ArePlainKinds writes here.block from n
plain_sources p writes i j block here from to n plain le k lt =
    let one = plain (from + k) (omega arith) (omega (arith, le, lt)) in
    let at : SourceAt p (names_of p i) here.block (from + k) one.0 = source_at p i j (from + k) block one.0 here one.1 in
    (at.source, at.source_is, plain_source p writes (names_of p i) here.block (from + k) one.0 at one.2)

-- one more
pub plain_more : {A : Type 0} (writes : Bool) (list : List (NumberedInst A)) (from at : ℕ) (here : NumberedInst A) (r : Bool) → ArePlain writes list from at → at < length list → here ≡ get_or list at here → r ≡ is_plain writes here → r ≡ true
    → ArePlain writes list from (at + 1)
plain_more writes list from at here r plain lt is e on i le less = elim (cases_lt i at) [
  | inl before ↦ plain i le before
  | inr after_it ↦
      let same : at ≡ i = omega (arith, less, after_it) in
      subst (λ n. IsPlainAt writes list n) same (here, slice_get-get_or list at here lt ∙ ap Some (sym is), sym e ∙ on)
]

-- ---- a stretch from a frame

-- the numbers of plain instructions and of steps
pub stretch_here : {A : Type 0} (p : Program A) (kinds : Kinds) (f : SlotFrame) (fs : List SlotFrame) (s : State) (block : NumberedBlock A) (id : FuncId) (here : BlockHere p f.func f.block block) (to n moves : ℕ) → Finds p → id.index ≡ f.func
    → s.frames ≡ frames_state p (f ∷ fs) → ArePlain kinds.writes block.insts f.index to → f.index + n ≤ to → 0 < moves → moves ≤ n + 1 → (n < moves → IsQuietAt p kinds here.func here.block (f.index + n)) → IsStretch p kinds s id aheads.Other moves
stretch_here {A} p kinds f fs s block id here to n moves finds ef es plain le some few last =
    let F : meaning.Frame = frame_state p fs f in
    let func : Func A = here.func in
    let b : Block A = here.block in
    let name : F.func ≡ func.name = ap (λ (o : Option (Func A)). func_name o) here.func_is in
    let label : F.label ≡ b.label = ap (λ (o : Option (Block A)). label_in o) (block_at_here p f.func f.block func b here.func_is here.block_is) in
    stretch p kinds F.func F.label (frames_state p fs) s.output f.index s func b id n moves
    (record { frame = F; frames = es; func = refl; label = refl; index = refl; output = refl })
    (ap (func_named p.funcs) name ∙ finds.func f.func func here.func_is)
    (ap (block_labelled func.blocks) label ∙ finds.block f.func func f.block b here.func_is here.block_is)
    (λ g. func_of_due p g func b id f.func ef here.func_is)
    (plain_sources p kinds.writes f.func f.block block here f.index to n plain le) some few last

-- plain instructions alone
pub stretch_plain : {A : Type 0} (p : Program A) (kinds : Kinds) (f : SlotFrame) (fs : List SlotFrame) (s : State) (block : NumberedBlock A) (id : FuncId) (here : BlockHere p f.func f.block block) (to n : ℕ) → Finds p → id.index ≡ f.func
    → s.frames ≡ frames_state p (f ∷ fs) → ArePlain kinds.writes block.insts f.index to → f.index + n ≡ to → 0 < n → IsStretch p kinds s id aheads.Other n
stretch_plain p kinds f fs s block id here to n finds ef es plain is some =
    stretch_here p kinds f fs s block id here to n n finds ef es plain (omega (arith, is)) some (omega arith) (λ lt. absurd (omega (arith, lt)))

-- and a call after them
pub stretch_call : {A : Type 0} (p : Program A) (kinds : Kinds) (f : SlotFrame) (fs : List SlotFrame) (s : State) (block : NumberedBlock A) (id : FuncId) (here : BlockHere p f.func f.block block) (to n : ℕ) (inst : NumberedInst A) → Finds p → id.index ≡ f.func
    → s.frames ≡ frames_state p (f ∷ fs) → ArePlain kinds.writes block.insts f.index to → f.index + n ≡ to → slice_get block.insts to ≡ Some inst → is_call inst ≡ true → IsStretch p kinds s id aheads.Other (n + 1)
stretch_call {A} p kinds f fs s block id here to n inst finds ef es plain is ei h =
    let there : slice_get block.insts (f.index + n) ≡ Some inst = ap (λ k. slice_get block.insts k) is ∙ ei in
    let at : SourceAt p (names_of p f.func) here.block (f.index + n) inst = source_at p f.func f.block (f.index + n) block inst here there in
    stretch_here p kinds f fs s block id here to n (n + 1) finds ef es plain (omega (arith, is)) (omega arith) (omega arith)
    (λ lt. call_quiet p kinds here.func here.block (f.index + n) at.source at.source_is (call_source p (names_of p f.func) here.block (f.index + n) inst at h))

-- and a jump after them that doesn't return
pub stretch_jump : {A : Type 0} (p : Program A) (kinds : Kinds) (f : SlotFrame) (fs : List SlotFrame) (s : State) (block : NumberedBlock A) (id : FuncId) (here : BlockHere p f.func f.block block) (to n : ℕ) → Finds p → KnowsLabels p → id.index ≡ f.func
    → s.frames ≡ frames_state p (f ∷ fs) → ArePlain kinds.writes block.insts f.index to → f.index + n ≡ to → slice_get block.insts to ≡ None → is_return block.jump ≡ false → IsStretch p kinds s id aheads.Other (n + 1)
stretch_jump {A} p kinds f fs s block id here to n finds knows ef es plain is en h =
    let b : Block A = here.block in
    let past : slice_get b.insts (f.index + n) ≡ None =
    none_left (inst_of p (temps_named here.func)) (slice_get b.insts (f.index + n))
    (sym (slice_get-map (inst_of p (temps_named here.func)) b.insts (f.index + n)) ∙ ap (λ (k : NumberedBlock A). slice_get k.insts (f.index + n)) here.code_is ∙ ap (λ k. slice_get block.insts k) is ∙ en) in
    let goes : return_kind b.jump.kind ≡ false =
    sym (return_resolved p b.jump.kind) ∙ ap return_kind (sym (jump_back p f.func f.block block here knows)) ∙ return_named (names_of p f.func) (labels_at p f.func) block.jump ∙ h in
    stretch_here p kinds f fs s block id here to n (n + 1) finds ef es plain (omega (arith, is)) (omega arith) (omega arith) (λ lt. jump_quiet p kinds here.func b (f.index + n) past goes)

-- a thing that is so of the state alone, and no steps are made before the first
at_first : {A : Type 0} (p : Program A) (s : State) (P : State → Type 0) → P s → (j : ℕ) → j < 1 → P (after p s j)
at_first p s P here zero lt = here
at_first p s P here (suc k) lt = absurd (omega (arith, lt))

-- one step, of which that is due
pub stretch_one : {A : Type 0} (p : Program A) (kinds : Kinds) (s : State) (id : FuncId) (ahead : Ahead) → IsDue p kinds (due_of p s.frames) id ahead → IsStretch p kinds s id ahead 1
stretch_one p kinds s id ahead due = record {
  some = omega arith;
  many = λ lt. absurd (omega (arith, lt));
  due = λ j lt goes. at_first p s (λ t. IsDue p kinds (due_of p t.frames) id ahead) due j lt;
  depth = λ j lt goes. at_first p s (λ t. length t.frames ≡ length s.frames) refl j lt;
  output = λ j lt goes. at_first p s (λ t. t.output ≡ s.output) refl j lt;
}

-- of the innermost frame of a machine
pub stretch_first : {A : Type 0} (p q : Program A) (kinds : Kinds) (fs : List SlotFrame) (f : SlotFrame) (s : State) (id : FuncId) (ahead : Ahead) (moves : ℕ) → q ≡ p → slice_get fs 0 ≡ Some f → s.frames ≡ frames_state p fs
    → ((gs : List SlotFrame) (at : FuncId) (t : State) → at.index ≡ f.func → t.frames ≡ frames_state q (f ∷ gs) → IsStretch q kinds t at ahead moves) → id.index ≡ f.func → IsStretch p kinds s id ahead moves
stretch_first p q kinds [] f s id ahead moves eq first es stretch ef = none_some first
stretch_first {A} p q kinds (g ∷ gs) f s id ahead moves eq first es stretch ef =
    let same : g ≡ f = some_same g f first in
    subst (λ (r : Program A). IsStretch r kinds s id ahead moves) eq (stretch gs id s ef (es ∙ (λ i. frames_state (sym eq i) (same i ∷ gs))))

-- ---- the same by other names

pub plain_as : {A : Type 0} (writes : Bool) (xs ys : List (NumberedInst A)) (i j to : ℕ) → xs ≡ ys → i ≡ j → ArePlain writes xs i to → ArePlain writes ys j to
plain_as {A} writes xs ys i j to exs ei plain = subst (λ (zs : List (NumberedInst A)). ArePlain writes zs j to) exs (subst (λ k. ArePlain writes xs k to) ei plain)

pub stretch_as : {A : Type 0} (p : Program A) (kinds : Kinds) (s : State) (id : FuncId) (r : Stretch) (ahead : Ahead) (moves : ℕ) → r ≡ record { ahead = ahead; moves = moves } → IsStretch p kinds s id ahead moves → IsStretch p kinds s id r.ahead r.moves
stretch_as p kinds s id r ahead moves e stretch = subst (λ (x : Stretch). IsStretch p kinds s id x.ahead x.moves) (sym e) stretch

pub due_as : {A : Type 0} (p : Program A) (kinds : Kinds) (f : SlotFrame) (fs : List SlotFrame) (s : State) (id : FuncId) (ahead : Ahead) → s.frames ≡ frames_state p (f ∷ fs) → IsDue p kinds (due_of p (frames_state p (f ∷ fs))) id ahead → IsDue p kinds (due_of p s.frames) id ahead
due_as p kinds f fs s id ahead frames due = subst (λ (gs : List meaning.Frame). IsDue p kinds (due_of p gs) id ahead) (sym frames) due
