-- A step at a place of the code, by names: what comes next there, and how frames lie behind it beside the calls.
use Rattle.std.proofs.Common.{◌≡◌, ◌∙◌, sym, ap, subst, refl, ℕ, suc, ◌+◌, ◌<◌, ◌≤◌, Bool, true, false, if◌then◌else◌, List, [], ◌∷◌, length, map, Option, Some, None, option_map, unwrap_or, Ok, Err, arith}
use Rattle.std.specs.Prelude.{slice_get, flat_map, nat_lt, ◌==◌}
use Rattle.std.proofs.lemmas.Bool.{true≢false}
use Rattle.qil_tree.specs.declared.tree.Argument.{Argument}
use Rattle.qil_tree.specs.declared.tree.CallResult.{CallResult}
use Rattle.qil_tree.specs.declared.tree.Inst.{Inst}
use Rattle.qil_tree.specs.declared.tree.InstKind.{InstKind}
use Rattle.qil_tree.specs.declared.tree.InstKind.TheVariants as insts
use Rattle.qil_tree.specs.declared.tree.JumpKind.{JumpKind}
use Rattle.qil_tree.specs.declared.tree.JumpKind.TheVariants as jumps
use Rattle.qil_tree.specs.declared.tree.Operand.{Operand}
use Rattle.qil_tree.specs.declared.tree.Block.{Block}
use Rattle.qil_tree.specs.declared.tree.Func.{Func}
use Rattle.qil_tree.specs.declared.tree.Program.{Program}
use Rattle.qil_memory.specs.qil_rules.Operands.{inst_reads, inst_target, call_target}
use Rattle.qil_memory.specs.qil_layout.declared.callee.Callee.{Callee}
use Rattle.qil_memory.specs.qil_layout.declared.callee.Callee.TheVariants.{Defined, PutChar, Puts, Exit}
use Rattle.qil_memory.specs.qil_layout.Callee.{callee_at}
use Rattle.qil_memory.specs.qil_layout.Layout.{width_bytes, rounded}
use Rattle.qil_memory.specs.Buffers.{stack_end}
use Rattle.qil_memory.specs.Calls.{stored, blitted}
use Rattle.qil_semantics.specs.State.{Name, Frame, State, is_final, stack_full, output_full}
use Rattle.qil_semantics.specs.Values.{Outcome, ◌>>=◌, if_live, val, vals, first, second, rest, result_of}
use Rattle.qil_semantics.specs.Calls as steps
use Rattle.qil_semantics.specs.Calls.{next, begun, depth_limit, in_shape, shape_of, shape_of_putchar, shape_of_puts, shape_of_exit, output_limit, writes, putchar, puts, text_at, call_defined, call_at}
use Rattle.qil_semantics.specs.Step as step
use Rattle.qil_semantics.specs.Step.{alignment, act, copied, func_named, block_labelled, settled, step_in, in_func, in_block, step_of}
use Rattle.qil_code.specs.declared.numbered.Receiver.{Receiver}
use Rattle.qil_code.specs.Facts.{Finds}
use Rattle.qil_code.specs.Numbered.{func_at, names_of, receiver_of}
use Rattle.qil_code.specs.Reading.{func_names}
use Rattle.qil_code.specs.Slots.{number_in}
use Rattle.qil_shadow.specs.declared.suspicion.Place.{Place}
use Rattle.qil_shadow.specs.Shadow as by_names
use Rattle.qil_shadow.specs.Shadow.{Origins}
use Rattle.qil_shadow.specs.Next.{Next, next_at, next_in_func, next_in_block, next_of}
use Rattle.qil_shadow.specs.Shadowed.{does, shadowed_in, one_later, shadowed}
use Rattle.qil_shadow.specs.Accesses.{accesses_by, accesses_in, accesses_of}
use Rattle.qil_shadow.specs.Suspicions.{suspicion, doubted, suspicions_in, suspicions_of}
use Rattle.qil_shadow.specs.Stack.{CallShadow}
use Rattle.qil_shadow.specs.Instructions.{AreCalls, IsTarget, called_first, running_then}
use Rattle.qil_shadow.specs.Returns.{IsTaker}
use Rattle.qil_shadow.specs.Shapes.{CallShape, shapes_of, with_called, shapes_behind, top_behind}
use Rattle.qil_shadow.specs.Steps.{number_of, numbers_of, IsReceiver, IsBeside, AreBeside, IsAtPlace}
use Rattle.qil_shadow.proofs.CallInstLemmas.{defined_there, by_result}
use Rattle.qil_shadow.proofs.SoundLemmas.{settled_on, passed_if, passed_then}
use Rattle.qil_shadow.proofs.ValueLemmas.{bound}

-- ---- the place

pub number_here : {A : Type 0} (p : Program A) (i : ℕ) (func : Func A) → Finds p → func_at p i ≡ Some func → number_in (func_names p) func.name ≡ i
number_here p i func finds at = ap (λ o. unwrap_or o 0) (finds.number i func at)

pub frame_number : {A : Type 0} (p : Program A) (place : Place) (slots : List (Option ℕ)) (f : Frame) → Finds p → IsAtPlace p place slots f → number_of p f ≡ place.func.index
frame_number p place slots f finds at = ap (number_in (func_names p)) at.name_is ∙ number_here p place.func.index at.func finds at.func_is

named_there : {A : Type 0} (p : Program A) (place : Place) (slots : List (Option ℕ)) (f : Frame) (at : IsAtPlace p place slots f) → Finds p → func_named p.funcs f.func ≡ Some at.func
named_there p place slots f at finds = ap (func_named p.funcs) at.name_is ∙ finds.func place.func.index at.func at.func_is

labelled_there : {A : Type 0} (p : Program A) (place : Place) (slots : List (Option ℕ)) (f : Frame) (at : IsAtPlace p place slots f) → Finds p → block_labelled at.func.blocks f.label ≡ Some at.block
labelled_there p place slots f at finds = ap (block_labelled at.func.blocks) at.label_is ∙ finds.block place.func.index at.func place.block.index at.block at.func_is at.block_is

-- the step there
pub step_there : {A : Type 0} (p : Program A) (s : State) (f : Frame) (gs : List Frame) (place : Place) (slots : List (Option ℕ)) (at : IsAtPlace p place slots f) (o : Option (Inst A)) → Finds p → s.frames ≡ f ∷ gs
    → slice_get at.block.insts place.index ≡ o → step_of p s ≡ settled s (step.does p s f gs at.func o at.block.jump)
unfolding step_of
step_there {A} p s f gs place slots at o finds frames here =
    ap (step_in p s) frames
    ∙ ap (λ (q : Option (Func A)). settled s (in_func p s f gs q)) (named_there p place slots f at finds)
    ∙ ap (λ (q : Option (Block A)). settled s (in_block p s f gs at.func q)) (labelled_there p place slots f at finds)
    ∙ ap (λ (q : Option (Inst A)). settled s (step.does p s f gs at.func q at.block.jump)) (ap (slice_get at.block.insts) at.index_is ∙ here)

pub next_there : {A : Type 0} (p : Program A) (f : Frame) (place : Place) (slots : List (Option ℕ)) (at : IsAtPlace p place slots f) (o : Option (Inst A)) → Finds p → slice_get at.block.insts place.index ≡ o
    → next_of p f ≡ next_at at.func o at.block.jump
next_there {A} p f place slots at o finds here =
    ap (λ (q : Option (Func A)). next_in_func f q) (named_there p place slots f at finds)
    ∙ ap (λ (q : Option (Block A)). next_in_block f at.func q) (labelled_there p place slots f at finds)
    ∙ ap (λ (q : Option (Inst A)). next_at at.func q at.block.jump) (ap (slice_get at.block.insts) at.index_is ∙ here)

-- the shadow's step, and what is suspicious there
pub shadowed_there : {A : Type 0} (p : Program A) (s : State) (sh : by_names.Shadow) (f : Frame) (gs : List Frame) (t : Origins) (ts : List Origins) (n : Next A) → s.frames ≡ f ∷ gs → sh.frames ≡ t ∷ ts → next_of p f ≡ n
    → shadowed p s sh ≡ one_later (does p s f sh t ts n)
unfolding shadowed
shadowed_there {A} p s sh f gs t ts n frames origins comes =
    (λ j. one_later (shadowed_in p s sh (frames j) (origins j))) ∙ ap (λ (q : Next A). one_later (does p s f sh t ts q)) comes

pub suspicions_there : {A : Type 0} (p : Program A) (s : State) (sh : by_names.Shadow) (f : Frame) (gs : List Frame) (t : Origins) (ts : List Origins) (n : Next A) → s.frames ≡ f ∷ gs → sh.frames ≡ t ∷ ts → next_of p f ≡ n
    → suspicions_of p s sh ≡ flat_map (λ a. suspicion p s sh f a (doubted sh.objects a a.origin)) (accesses_by p s f t n)
unfolding suspicions_of accesses_of
suspicions_there {A} p s sh f gs t ts n frames origins comes =
    ap (suspicions_in p s sh) frames
    ∙ (λ j. flat_map (λ a. suspicion p s sh f a (doubted sh.objects a a.origin)) (accesses_in p s (frames j) (origins j)))
    ∙ ap (λ (q : Next A). flat_map (λ a. suspicion p s sh f a (doubted sh.objects a a.origin)) (accesses_by p s f t q)) comes

-- ---- calls beside frames

pub calls_beside : {A : Type 0} (p : Program A) (fs : List Frame) (cs : List CallShadow) → AreBeside p fs (shapes_of cs) → AreCalls p (numbers_of p fs) cs
calls_beside p [] [] b = tt
calls_beside p [] (c ∷ cs) b = absurd b
calls_beside p (f ∷ fs) [] b = absurd b
calls_beside p (f ∷ fs) (c ∷ cs) b = (b.0.slots, calls_beside p fs cs b.1)

pub many_beside : {A : Type 0} (p : Program A) (fs : List Frame) (cs : List CallShadow) → AreBeside p fs (shapes_of cs) → length cs ≡ length fs
many_beside p [] [] b = refl
many_beside p [] (c ∷ cs) b = absurd b
many_beside p (f ∷ fs) [] b = absurd b
many_beside p (f ∷ fs) (c ∷ cs) b = ap (λ n. suc n) (many_beside p fs cs b.1)

-- one frame with the function, the floor and the result of another
pub beside_like : {A : Type 0} (p : Program A) (f g : Frame) (gs : List Frame) (cs : List CallShape) → g.func ≡ f.func → g.floor ≡ f.floor → g.result ≡ f.result → AreBeside p (f ∷ gs) cs → AreBeside p (g ∷ gs) cs
beside_like p f g gs [] func floor result b = absurd b
beside_like p f g gs (c ∷ cs) func floor result b = (
  record {
    slots = ap (λ x. length (names_of p (number_in (func_names p) x))) func ∙ b.0.slots;
    floor = b.0.floor ∙ sym floor;
    receiver = subst (λ r. IsReceiver p gs r c.receiver) (sym result) b.0.receiver;
  },
  b.1,
)

pub number_like : {A : Type 0} (p : Program A) (f g : Frame) → g.func ≡ f.func → number_of p g ≡ number_of p f
number_like p f g func = ap (number_in (func_names p)) func

-- ---- behind an instruction

pub record LiesThen {A : Type 0} (p : Program A) (s : State) (f : Frame) (gs : List Frame) (kind : InstKind A) (vs : List ℕ) (cs : List CallShape) (t : State) : Type 0 where
  pub numbers : numbers_of p t.frames ≡ running_then p (numbers_of p (f ∷ gs)) kind vs
  pub calls : AreBeside p t.frames (shapes_behind p (number_of p f) kind vs s.top cs)
  pub top : t.top ≡ top_behind kind vs s.top

-- where only the innermost frame changes
alike_then : {A : Type 0} (p : Program A) (s : State) (f g : Frame) (gs : List Frame) (kind : InstKind A) (vs : List ℕ) (cs : List CallShape) (t : State) → running_then p (numbers_of p (f ∷ gs)) kind vs ≡ numbers_of p (f ∷ gs)
    → shapes_behind p (number_of p f) kind vs s.top cs ≡ cs → t.frames ≡ g ∷ gs → t.top ≡ top_behind kind vs s.top → g.func ≡ f.func → g.floor ≡ f.floor → g.result ≡ f.result → AreBeside p (f ∷ gs) cs
    → LiesThen p s f gs kind vs cs t
alike_then p s f g gs kind vs cs t running shapes frames top func floor result b = record {
  numbers = ap (numbers_of p) frames ∙ ap (λ n. n ∷ numbers_of p gs) (number_like p f g func) ∙ sym running;
  calls = subst (λ xs. AreBeside p xs (shapes_behind p (number_of p f) kind vs s.top cs)) (sym frames) (subst (AreBeside p (g ∷ gs)) (sym shapes) (beside_like p f g gs cs func floor result b));
  top = top;
}

abbrev from_ok : State → Outcome State → State
from_ok d (Ok t) = t
from_ok d (Err why) = d

pub ok_is : (t u : State) → ◌≡◌ {A = Outcome State} (Ok t) (Ok u) → t ≡ u
ok_is t u e = ap (from_ok t) e

pub taken_func : (f : Frame) (to : Option CallResult) (v : Option ℕ) → (steps.takes f to v).func ≡ f.func
taken_func f None v = refl
taken_func f (Some to) v = refl

pub taken_floor : (f : Frame) (to : Option CallResult) (v : Option ℕ) → (steps.takes f to v).floor ≡ f.floor
taken_floor f None v = refl
taken_floor f (Some to) v = refl

pub taken_result : (f : Frame) (to : Option CallResult) (v : Option ℕ) → (steps.takes f to v).result ≡ f.result
taken_result f None v = refl
taken_result f (Some to) v = refl

-- ---- a call

-- with what it calls in place of where it looks
abbrev pub CalledThen : {A : Type 0} → Program A → State → Frame → List Frame → Option CallResult → List CallShape → State → Option Callee → Type 0
CalledThen p s f gs to cs t o = (numbers_of p t.frames ≡ called_first (numbers_of p (f ∷ gs)) o) × AreBeside p t.frames (with_called p (number_of p f) to o s.top cs) × (t.top ≡ s.top)

wrote : {A : Type 0} (p : Program A) (s : State) (f : Frame) (gs : List Frame) (to : Option CallResult) (bytes : List ℕ) (v : ℕ) (cs : List CallShape) (t : State) → writes s f gs to bytes v ≡ Ok t → AreBeside p (f ∷ gs) cs
    → (numbers_of p t.frames ≡ numbers_of p (f ∷ gs)) × AreBeside p t.frames cs × (t.top ≡ s.top)
wrote p s f gs to bytes v cs t e b =
    let c = passed_if _ _ output_full t e in
    let g = steps.takes (next f) to (Some v) in
    let same = ok_is _ t c.1 in
    subst (λ u. (numbers_of p u.frames ≡ numbers_of p (f ∷ gs)) × AreBeside p u.frames cs × (u.top ≡ s.top)) same (
      ap (λ n. n ∷ numbers_of p gs) (number_like p f g (taken_func (next f) to (Some v))),
      beside_like p f g gs cs (taken_func (next f) to (Some v)) (taken_floor (next f) to (Some v)) (taken_result (next f) to (Some v)) b,
      refl,
    )

entered : {A : Type 0} (p : Program A) (s : State) (f : Frame) (gs : List Frame) (to : Option CallResult) (args : List Argument) (vs : List ℕ) (i : ℕ) (func : Func A) (cs : List CallShape) (t : State) → Finds p → func_at p i ≡ Some func
    → call_defined s f gs to args vs (Some func) ≡ Ok t → IsTaker (names_of p (number_of p f)) to → AreBeside p (f ∷ gs) cs
    → (numbers_of p t.frames ≡ i ∷ numbers_of p (f ∷ gs))
    × AreBeside p t.frames (record { slots = length (names_of p i); floor = s.top; receiver = option_map (receiver_of (names_of p (number_of p f))) to } ∷ cs) × (t.top ≡ s.top)
entered {A} p s f gs to args vs i func cs t finds at e taker b =
    let d = bound (in_shape (shape_of func) to args vs) _ t e in
    let c = passed_then (nat_lt (length (f ∷ gs)) depth_limit) _ _ t d.2 in
    let g = begun func d.0 s.top to in
    let same = ok_is _ t c.1 in
    let number : number_of p g ≡ i = number_here p i func finds at in
    let shape : CallShape = record { slots = length (names_of p i); floor = s.top; receiver = option_map (receiver_of (names_of p (number_of p f))) to } in
    subst (λ u. (numbers_of p u.frames ≡ i ∷ numbers_of p (f ∷ gs)) × AreBeside p u.frames (shape ∷ cs) × (u.top ≡ s.top)) same (
      ap (λ n. n ∷ numbers_of p (f ∷ gs)) number,
      (record { slots = ap (λ n. length (names_of p n)) number; floor = refl; receiver = (refl, taker) }, beside_like p f (next f) gs cs refl refl refl b),
      refl,
    )

called : {A : Type 0} (p : Program A) (s : State) (f : Frame) (gs : List Frame) (to : Option CallResult) (args : List Argument) (a : ℕ) (vs : List ℕ) (o : Option Callee) (cs : List CallShape) (t : State) → Finds p → o ≡ callee_at p a
    → call_at p s f gs to args a vs o ≡ Ok t → is_final t.status ≡ false → IsTaker (names_of p (number_of p f)) to → AreBeside p (f ∷ gs) cs → CalledThen p s f gs to cs t o
called p s f gs to args a vs None cs t finds at e goes_on taker b = absurd cc
called {A} p s f gs to args a vs (Some (Defined id)) cs t finds at e goes_on taker b =
    let it = defined_there p a id at in
    entered p s f gs to args vs id.index it.0 cs t finds it.1 (ap (λ (q : Option (Func A)). call_defined s f gs to args vs q) (sym it.1) ∙ e) taker b
called p s f gs to args a vs (Some PutChar) cs t finds at e goes_on taker b =
    let d = bound (in_shape shape_of_putchar to args vs) _ t e in
    wrote p s f gs to _ _ cs t d.2 b
called p s f gs to args a vs (Some Puts) cs t finds at e goes_on taker b =
    let d = bound (in_shape shape_of_puts to args vs) _ t e in
    let g = bound (text_at s.memory (first d.0)) _ t d.2 in
    wrote p s f gs to _ _ cs t g.2 b
called p s f gs to args a vs (Some Exit) cs t finds at e goes_on taker b =
    let d = bound (in_shape shape_of_exit to args vs) _ t e in
    absurd (true≢false (ap (λ u. is_final u.status) (ok_is _ t d.2) ∙ goes_on))

-- ---- an instruction

pub acted : {A : Type 0} (p : Program A) (s : State) (f : Frame) (gs : List Frame) (kind : InstKind A) (vs : List ℕ) (cs : List CallShape) (t : State) → Finds p → act p s f gs kind vs ≡ Ok t → is_final t.status ≡ false
    → IsTarget (names_of p (number_of p f)) (inst_target kind) → AreBeside p (f ∷ gs) cs → LiesThen p s f gs kind vs cs t
acted p s f gs (insts.Assign to e) vs cs t finds is goes_on target b =
    let d = bound (result_of s.memory to.class e vs) _ t is in
    let same = ok_is _ t d.2 in
    subst (λ u. LiesThen p s f gs (insts.Assign to e) vs cs u) same
    (alike_then p s f (step.sets (next f) to d.0) gs (insts.Assign to e) vs cs (record s { frames = step.sets (next f) to d.0 ∷ gs }) refl refl refl refl refl refl refl b)
acted p s f gs (insts.Alloc to op n) vs cs t finds is goes_on target b =
    let at = rounded (alignment op) s.top in
    let c = passed_if (nat_lt stack_end (at + first vs)) _ stack_full t is in
    let same = ok_is _ t c.1 in
    subst (λ u. LiesThen p s f gs (insts.Alloc to op n) vs cs u) same
    (alike_then p s f (step.sets (next f) to at) gs (insts.Alloc to op n) vs cs _ refl refl refl refl refl refl refl b)
acted p s f gs (insts.Store w a b) vs cs t finds is goes_on target beside =
    let d = bound (if_live (stored s.memory (second vs) (width_bytes w) (first vs))) _ t is in
    let same = ok_is _ t d.2 in
    subst (λ u. LiesThen p s f gs (insts.Store w a b) vs cs u) same
    (alike_then p s f (next f) gs (insts.Store w a b) vs cs (record s { frames = next f ∷ gs; memory = d.0 }) refl refl refl refl refl refl refl beside)
acted p s f gs (insts.Blit a b n) vs cs t finds is goes_on target beside =
    let d = bound (copied (blitted s.memory (first vs) (second vs) n)) _ t is in
    let same = ok_is _ t d.2 in
    subst (λ u. LiesThen p s f gs (insts.Blit a b n) vs cs u) same
    (alike_then p s f (next f) gs (insts.Blit a b n) vs cs (record s { frames = next f ∷ gs; memory = d.0 }) refl refl refl refl refl refl refl beside)
acted p s f gs (insts.Call to callee args) vs cs t finds is goes_on target b =
    let r = called p s f gs to args (first vs) (rest vs) (callee_at p (first vs)) cs t finds refl is goes_on (by_result (names_of p (number_of p f)) to target) b in
    record { numbers = r.0; calls = r.1; top = r.2 }
