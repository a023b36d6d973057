-- The function and the block at the place of a frame, and what a step does there.
use Rattle.std.proofs.Common.{◌≡◌, refl, ap, ◌∙◌, subst, ℕ, List, ◌∷◌, Option, Some, None}
use Rattle.std.specs.Prelude.{option_map, unwrap_or, slice_get}
use Rattle.std.specs.Option.{option_and_then}
use Rattle.qil_tree.specs.declared.tree.Block.{Block}
use Rattle.qil_tree.specs.declared.tree.Func.{Func}
use Rattle.qil_tree.specs.declared.tree.Program.{Program}
use Rattle.qil_semantics.specs.State as meaning
use Rattle.qil_semantics.specs.State.{Name, State}
use Rattle.qil_semantics.specs.Names.{temps_named}
use Rattle.qil_semantics.specs.Step.{does, in_func, in_block, func_named, block_labelled}
use Rattle.qil_code.specs.declared.numbered.NumberedBlock.{NumberedBlock}
use Rattle.qil_code.specs.Facts.{Finds}
use Rattle.qil_code.specs.Numbered.{block_of, func_at, block_in, block_at, names_in, names_of}
use Rattle.qil_code.specs.Reading.{block_code_at}
use Rattle.qil_frames.specs.Frames.{SlotFrame}
use Rattle.qil_state.specs.State.{func_name, label_in, frame_state, frames_state}
use Rattle.qil_state.specs.Stepping.{stepped}

pub none_some : {X Y : Type 0} {x : X} → None ≡ Some x → Y
none_some e = absurd (subst (λ o. elim o as (λ _. Type 0) [ None ↦ Unit {0} | Some y ↦ ⊥ ]) e tt)

pub some_same : {X : Type 0} (x y : X) → Some x ≡ Some y → x ≡ y
some_same x y e = ap (λ o. unwrap_or o x) e

-- the tree of the block that a code is of
pub record BlockHere {A : Type 0} (p : Program A) (i j : ℕ) (code : NumberedBlock A) : Type 0 where
  pub func : Func A
  pub block : Block A
  pub func_is : func_at p i ≡ Some func
  pub block_is : slice_get func.blocks j ≡ Some block
  pub code_is : block_of p func.blocks (temps_named func) block ≡ code

of_block : {A : Type 0} (p : Program A) (i j : ℕ) (code : NumberedBlock A) (func : Func A) (o : Option (Block A)) → func_at p i ≡ Some func → slice_get func.blocks j ≡ o
    → option_map (block_of p func.blocks (temps_named func)) o ≡ Some code → BlockHere p i j code
of_block p i j code func None ef eb e = none_some e
of_block p i j code func (Some b) ef eb e =
    record { func = func; block = b; func_is = ef; block_is = eb; code_is = some_same (block_of p func.blocks (temps_named func) b) code e }

of_func : {A : Type 0} (p : Program A) (i j : ℕ) (code : NumberedBlock A) (o : Option (Func A)) → func_at p i ≡ o
    → option_and_then (λ func. option_map (block_of p func.blocks (temps_named func)) (slice_get func.blocks j)) o ≡ Some code → BlockHere p i j code
of_func p i j code None ef e = none_some e
of_func p i j code (Some func) ef e = of_block p i j code func (slice_get func.blocks j) ef refl e

pub block_here : {A : Type 0} (p : Program A) (i j : ℕ) (code : NumberedBlock A) → block_code_at p i j ≡ Some code → BlockHere p i j code
block_here p i j code e = of_func p i j code (func_at p i) refl e

-- the names of the slots are those of the function
pub names_here : {A : Type 0} (p : Program A) (i : ℕ) (func : Func A) → func_at p i ≡ Some func → names_of p i ≡ temps_named func
unfolding names_of
names_here {A} p i func ef = ap (λ (o : Option (Func A)). names_in o) ef

pub block_at_here : {A : Type 0} (p : Program A) (i j : ℕ) (func : Func A) (b : Block A) → func_at p i ≡ Some func → slice_get func.blocks j ≡ Some b → block_at p i j ≡ Some b
block_at_here {A} p i j func b ef eb = ap (λ (o : Option (Func A)). block_in o j) ef ∙ eb

pub stands : {A : Type 0} (p : Program A) (f : SlotFrame) (fs : List SlotFrame) (s : State) (func : Func A) (b : Block A)
    → Finds p → func_at p f.func ≡ Some func → slice_get func.blocks f.block ≡ Some b
    → stepped p s (frames_state p (f ∷ fs)) ≡ does p s (frame_state p fs f) (frames_state p fs) func (slice_get b.insts f.index) b.jump
stands {A} p f fs s func b finds ef eb =
    let F : meaning.Frame = frame_state p fs f in
    let FS : List meaning.Frame = frames_state p fs in
    let name : F.func ≡ func.name = ap (λ (o : Option (Func A)). func_name o) ef in
    let label : F.label ≡ b.label = ap (λ (o : Option (Block A)). label_in o) (block_at_here p f.func f.block func b ef eb) in
    ap (λ x. in_func p s F FS (func_named p.funcs x)) name
    ∙ ap (in_func p s F FS) (finds.func f.func func ef)
    ∙ ap (λ x. in_block p s F FS func (block_labelled func.blocks x)) label
    ∙ ap (in_block p s F FS func) (finds.block f.func func f.block b ef eb)
