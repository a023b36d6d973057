-- The jump at the place of the innermost frame.
use Rattle.std.proofs.Common.{◌≡◌, refl, sym, ap, ◌∙◌, ℕ, ◌==◌, if◌then◌else◌, List, [], ◌∷◌, Option, Some, None, Err}
use Rattle.std.specs.Prelude.{option_map, unwrap_or, slice_get}
use Rattle.std.specs.Option.{option_and_then}
use Rattle.std.proofs.lemmas.Option.{slice_get-map}
use Rattle.qil_tree.specs.declared.ops.Class.TheVariants as classes
use Rattle.qil_tree.specs.declared.ops.AbiType.TheVariants as types
use Rattle.qil_tree.specs.declared.tree.Operand.{Operand}
use Rattle.qil_tree.specs.declared.tree.JumpKind.TheVariants as jumps
use Rattle.qil_tree.specs.declared.tree.Block.{Block}
use Rattle.qil_tree.specs.declared.tree.Func.{Func}
use Rattle.qil_tree.specs.declared.tree.Program.{Program}
use Rattle.qil_rules.specs.Occurrences.{returned_class}
use Rattle.qil_semantics.specs.State as meaning
use Rattle.qil_semantics.specs.State.{Name, State, halted}
use Rattle.qil_semantics.specs.Names.{temps_named}
use Rattle.qil_semantics.specs.Values.{◌>>=◌, val, fit}
use Rattle.qil_semantics.specs.Step.{does, leave, goes, returns}
use Rattle.qil_code.specs.declared.numbered.NumberedBlock.{NumberedBlock}
use Rattle.qil_code.specs.Facts.{Finds, KnowsLabels, jump_labels}
use Rattle.qil_code.specs.Gather.{labels_in}
use Rattle.qil_code.specs.Numbered.{inst_of, func_at, names_of}
use Rattle.qil_code.specs.Named.{named_jump, resolved_jump}
use Rattle.qil_code.specs.Reading.{block_code_at, labels_at, returns_at}
use Rattle.qil_code.proofs.Has.{all-among}
use Rattle.qil_code.proofs.Naming.{named-jump-kind}
use Rattle.qil_code.proofs.NamedCode.{block-has, jump-has}
use Rattle.qil_frames.specs.Frames.{SlotFrame}
use Rattle.qil_state.specs.State.{frame_state, frames_state}
use Rattle.qil_state.specs.Stepping.{stepped, left}
use Rattle.qil_state.proofs.Resolved.{leave_resolved}
use Rattle.qil_state.proofs.Place.{none_some, BlockHere, block_here, names_here, stands}

pub labels_here : {A : Type 0} (p : Program A) (i : ℕ) (func : Func A) → func_at p i ≡ Some func → labels_at p i ≡ labels_in func.blocks
labels_here {A} p i func ef = ap (λ (o : Option (Func A)). unwrap_or (option_map (λ func. labels_in func.blocks) o) []) ef

-- the jump by number, read back
pub jump_back : {A : Type 0} (p : Program A) (i j : ℕ) (block : NumberedBlock A) (here : BlockHere p i j block) → KnowsLabels p
    → named_jump (names_of p i) (labels_at p i) block.jump ≡ resolved_jump p here.block.jump.kind
jump_back {A} p i j block here knows =
    let func : Func A = here.func in
    let b : Block A = here.block in
    let ns : List Name = temps_named func in
    let ls : List Name = labels_in func.blocks in
    (λ k. named_jump (names_here p i func here.func_is k) (labels_here p i func here.func_is k) (sym here.code_is k).jump)
    ∙ named-jump-kind p func.blocks ns b.label b.jump.kind (jump-has ns b (block-has func j b here.block_is))
    (all-among ls (jump_labels b.jump.kind) (λ l. knows.known i func j b l here.func_is here.block_is))

pub none_left : {X Y : Type 0} (g : X → Y) (o : Option X) → option_map g o ≡ None → o ≡ None
none_left g None e = refl
none_left g (Some x) e = none_some (sym e)

pub jump_here : {A : Type 0} (p : Program A) (f : SlotFrame) (fs : List SlotFrame) (s : State) (block : NumberedBlock A)
    → Finds p → KnowsLabels p → block_code_at p f.func f.block ≡ Some block → slice_get block.insts f.index ≡ None
    → stepped p s (frames_state p (f ∷ fs)) ≡ left p s (frames_state p (f ∷ fs)) (func_at p f.func) (named_jump (names_of p f.func) (labels_at p f.func) block.jump)
jump_here {A} p f fs s block finds knows eb en =
    let here : BlockHere p f.func f.block block = block_here p f.func f.block block eb in
    let func : Func A = here.func in
    let b : Block A = here.block in
    let past : slice_get b.insts f.index ≡ None =
    none_left (inst_of p (temps_named func)) (slice_get b.insts f.index)
    (sym (slice_get-map (inst_of p (temps_named func)) b.insts f.index) ∙ ap (λ (k : NumberedBlock A). slice_get k.insts f.index) here.code_is ∙ en) in
    let F : meaning.Frame = frame_state p fs f in
    let FS : List meaning.Frame = frames_state p fs in
    stands p f fs s func b finds here.func_is here.block_is
    ∙ ap (λ o. does p s F FS func o b.jump) past
    ∙ sym (leave_resolved p s F FS func b.jump.kind)
    ∙ ap (leave p s F FS func) (sym (jump_back p f.func f.block block here knows))
    ∙ ap (λ o. left p s (F ∷ FS) o (named_jump (names_of p f.func) (labels_at p f.func) block.jump)) (sym here.func_is)

-- ---- what each jump does, in a function that is there

pub left_hlt : {A : Type 0} (p : Program A) (s : State) (F : meaning.Frame) (FS : List meaning.Frame) (i : ℕ) (func : Func A) → func_at p i ≡ Some func
    → left p s (F ∷ FS) (func_at p i) jumps.Hlt ≡ Err halted
left_hlt p s F FS i func ef = ap (λ o. left p s (F ∷ FS) o jumps.Hlt) ef

pub left_ret_none : {A : Type 0} (p : Program A) (s : State) (F : meaning.Frame) (FS : List meaning.Frame) (i : ℕ) (func : Func A) → func_at p i ≡ Some func
    → left p s (F ∷ FS) (func_at p i) (jumps.Ret None) ≡ returns s F FS None
left_ret_none p s F FS i func ef = ap (λ o. left p s (F ∷ FS) o (jumps.Ret None)) ef

pub returns_here : {A : Type 0} (p : Program A) (i : ℕ) (func : Func A) → func_at p i ≡ Some func → returns_at p i ≡ func.returns
returns_here {A} p i func ef = ap (λ (o : Option (Func A)). option_and_then (λ func. func.returns) o) ef

-- a returned operand is read in the class of the return type, and the value is one of that type
pub left_ret : {A : Type 0} (p : Program A) (s : State) (F : meaning.Frame) (FS : List meaning.Frame) (i : ℕ) (func : Func A) (a : Operand) → func_at p i ≡ Some func
    → left p s (F ∷ FS) (func_at p i) (jumps.Ret (Some a))
    ≡ (val p F.temps (returned_class (returns_at p i)) a >>= λ v. returns s F FS (Some (fit (unwrap_or (returns_at p i) types.W) v)))
left_ret p s F FS i func a ef =
    ap (λ o. left p s (F ∷ FS) o (jumps.Ret (Some a))) ef
    ∙ ap (λ r. val p F.temps (returned_class r) a >>= λ v. returns s F FS (Some (fit (unwrap_or r types.W) v))) (sym (returns_here p i func ef))

pub left_jmp : {A : Type 0} (p : Program A) (s : State) (F : meaning.Frame) (FS : List meaning.Frame) (i : ℕ) (func : Func A) (l : Name) → func_at p i ≡ Some func
    → left p s (F ∷ FS) (func_at p i) (jumps.Jmp l) ≡ goes p s F FS func l
left_jmp p s F FS i func l ef = ap (λ o. left p s (F ∷ FS) o (jumps.Jmp l)) ef

pub left_jnz : {A : Type 0} (p : Program A) (s : State) (F : meaning.Frame) (FS : List meaning.Frame) (i : ℕ) (func : Func A) (a : Operand) (l m : Name) → func_at p i ≡ Some func
    → left p s (F ∷ FS) (func_at p i) (jumps.Jnz a l m) ≡ (val p F.temps classes.W a >>= λ v. goes p s F FS func (if v == 0 then m else l))
left_jnz p s F FS i func a l m ef = ap (λ o. left p s (F ∷ FS) o (jumps.Jnz a l m)) ef
