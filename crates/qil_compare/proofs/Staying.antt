-- Steps that stay in their call and block: an instruction that calls nothing goes one on, unless it ends the run.
use Rattle.std.proofs.Common.{◌≡◌, refl, sym, ap, ◌∙◌, subst, ℕ, zero, suc, ◌+◌, ◌<◌, ◌≤◌, Bool, true, false, not, if◌then◌else◌, inl, inr, List, ◌∷◌, length, Option, Some, None, Ok, Err, arith}
use Rattle.std.specs.Prelude.{slice_get}
use Rattle.std.proofs.lemmas.Bool.{true≢false, cases_lt}
use Rattle.qil_tree.specs.declared.tree.Inst.{Inst}
use Rattle.qil_tree.specs.declared.tree.InstKind.{InstKind}
use Rattle.qil_tree.specs.declared.tree.InstKind.TheVariants as insts
use Rattle.qil_tree.specs.declared.tree.Jump.{Jump}
use Rattle.qil_tree.specs.declared.tree.JumpKind.{JumpKind}
use Rattle.qil_tree.specs.declared.tree.JumpKind.TheVariants as jumps
use Rattle.qil_tree.specs.declared.tree.Block.{Block}
use Rattle.qil_tree.specs.declared.tree.Func.{Func}
use Rattle.qil_tree.specs.declared.tree.Program.{Program}
use Rattle.qil_tree.specs.declared.ops.AbiType.{AbiType}
use Rattle.qil_layout.specs.declared.callee.FuncId.{FuncId}
use Rattle.qil_semantics.specs.State.{Name, Temps, Frame, Fault, State, is_final}
use Rattle.qil_semantics.specs.Values.{Outcome, ◌>>=◌}
use Rattle.qil_semantics.specs.Step.{act, does, in_block, in_func, settled, step_in, step_of, func_named, block_labelled}
use Rattle.qil_semantics.specs.Targets.{after}
use Rattle.qil_compare.specs.declared.event.Kinds.{Kinds}
use Rattle.qil_compare.specs.declared.ahead.Ahead.TheVariants as aheads
use Rattle.qil_compare.specs.Events.{Due, writes_at, inst_writes, jump_returns, place_returns, due_in, due_at, due_by, due_of}
use Rattle.qil_compare.specs.Ahead.{IsFuncOf, IsDue, GoesOn, IsStretch}

-- ---- kinds of instructions and jumps

abbrev pub plain_kind : {A : Type 0} → Bool → InstKind A → Bool
plain_kind writes (insts.Assign to e) = true
plain_kind writes (insts.Alloc to op n) = true
plain_kind writes (insts.Store w a b) = not writes
plain_kind writes (insts.Blit a b n) = not writes
plain_kind writes (insts.Call to callee args) = false

abbrev pub call_kind : {A : Type 0} → InstKind A → Bool
call_kind (insts.Call to callee args) = true
call_kind kind = false

abbrev pub return_kind : JumpKind → Bool
return_kind (jumps.Ret a) = true
return_kind jump = false

pub plain_calls : {A : Type 0} (writes : Bool) (kind : InstKind A) → plain_kind writes kind ≡ true → call_kind kind ≡ false
plain_calls writes (insts.Assign to e) h = refl
plain_calls writes (insts.Alloc to op n) h = refl
plain_calls writes (insts.Store w a b) h = refl
plain_calls writes (insts.Blit a b n) h = refl
plain_calls writes (insts.Call to callee args) h = absurd (true≢false (sym h))

off : {X : Type 0} (b : Bool) → not b ≡ true → b ≡ true → X
off true h e = absurd (true≢false (sym h))
off false h e = absurd (true≢false (sym e))

-- if writes are asked for, such an instruction writes nothing
pub plain_writes : {A : Type 0} (p : Program A) (t : Temps) (writes : Bool) (kind : InstKind A) → plain_kind writes kind ≡ true → writes ≡ true → writes_at p t kind ≡ None
plain_writes p t writes (insts.Assign to e) h on = refl
plain_writes p t writes (insts.Alloc to op n) h on = refl
plain_writes p t writes (insts.Store w a b) h on = off writes h on
plain_writes p t writes (insts.Blit a b n) h on = off writes h on
plain_writes p t writes (insts.Call to callee args) h on = refl

pub call_writes : {A : Type 0} (p : Program A) (t : Temps) (kind : InstKind A) → call_kind kind ≡ true → writes_at p t kind ≡ None
call_writes p t (insts.Assign to e) h = absurd (true≢false (sym h))
call_writes p t (insts.Alloc to op n) h = absurd (true≢false (sym h))
call_writes p t (insts.Store w a b) h = absurd (true≢false (sym h))
call_writes p t (insts.Blit a b n) h = absurd (true≢false (sym h))
call_writes p t (insts.Call to callee args) h = refl

pub goes_returns : {A : Type 0} (p : Program A) (t : Temps) (r : Option AbiType) (jump : JumpKind) → return_kind jump ≡ false → jump_returns p t r jump ≡ None
goes_returns p t r (jumps.Jmp l) h = refl
goes_returns p t r (jumps.Jnz a l m) h = refl
goes_returns p t r (jumps.Ret None) h = refl
goes_returns p t r (jumps.Ret (Some a)) h = absurd (true≢false h)
goes_returns p t r jumps.Hlt h = refl

-- ---- what an instruction does that calls nothing

-- one on in the same call, with the same output
abbrev On : State → Frame → List Frame → State → Type 0
On s f fs t = (g : Frame) × (t.frames ≡ g ∷ fs) × (g.func ≡ f.func) × (g.label ≡ f.label) × (g.index ≡ f.index + 1) × (t.output ≡ s.output)

abbrev Stays : State → Frame → List Frame → Outcome State → Type 0
Stays s f fs (Ok t) = On s f fs t
Stays s f fs (Err fault) = Unit {0}

record Stay (s : State) (f : Frame) (fs : List Frame) (o : Outcome State) : Type 0 where
  stays : Stays s f fs o

fine : (s : State) (f : Frame) (fs : List Frame) (t : State) → On s f fs t → Stay s f fs (Ok t)
fine s f fs t on = record { stays = on }

faults : (s : State) (f : Frame) (fs : List Frame) (fault : Fault) → Stay s f fs (Err fault)
faults s f fs fault = record { stays = tt }

bound : {X : Type 0} (s : State) (f : Frame) (fs : List Frame) (o : Outcome X) (k : X → Outcome State) → ((x : X) → Stay s f fs (k x)) → Stay s f fs (o >>= k)
bound s f fs (Ok x) k h = h x
bound s f fs (Err fault) k h = faults s f fs fault

either : (s : State) (f : Frame) (fs : List Frame) (b : Bool) (x y : Outcome State) → Stay s f fs x → Stay s f fs y → Stay s f fs (if b then x else y)
either s f fs true x y h k = h
either s f fs false x y h k = k

stay_act : {A : Type 0} (p : Program A) (s : State) (f : Frame) (fs : List Frame) (kind : InstKind A) (vs : List ℕ) → call_kind kind ≡ false → Stay s f fs (act p s f fs kind vs)
stay_act p s f fs (insts.Assign to e) vs h = bound s f fs _ _ (λ v. fine s f fs _ (_, refl, refl, refl, refl, refl))
stay_act p s f fs (insts.Alloc to op n) vs h = either s f fs _ _ _ (faults s f fs _) (fine s f fs _ (_, refl, refl, refl, refl, refl))
stay_act p s f fs (insts.Store w a b) vs h = bound s f fs _ _ (λ m. fine s f fs _ (_, refl, refl, refl, refl, refl))
stay_act p s f fs (insts.Blit a b n) vs h = bound s f fs _ _ (λ m. fine s f fs _ (_, refl, refl, refl, refl, refl))
stay_act p s f fs (insts.Call to callee args) vs h = absurd (true≢false h)

stay_does : {A : Type 0} (p : Program A) (s : State) (f : Frame) (fs : List Frame) (func : Func A) (inst : Inst A) (jump : Jump) → call_kind inst.kind ≡ false → Stay s f fs (does p s f fs func (Some inst) jump)
stay_does p s f fs func inst jump h = bound s f fs _ _ (λ vs. stay_act p s f fs inst.kind vs h)

settled_on : (s : State) (f : Frame) (fs : List Frame) (o : Outcome State) → Stay s f fs o → is_final (settled s o).status ≡ false → On s f fs (settled s o)
settled_on s f fs (Ok t) h goes = h.stays
settled_on s f fs (Err fault) h goes = absurd (true≢false goes)

-- ---- a state in a block, at an instruction

pub record AtPlace (x l : Name) (fs : List Frame) (out : List ℕ) (i : ℕ) (s : State) : Type 0 where
  pub frame : Frame
  pub frames : s.frames ≡ frame ∷ fs
  pub func : frame.func ≡ x
  pub label : frame.label ≡ l
  pub index : frame.index ≡ i
  pub output : s.output ≡ out

pub place_as : (x l : Name) (fs : List Frame) (out : List ℕ) (i j : ℕ) (s : State) → i ≡ j → AtPlace x l fs out i s → AtPlace x l fs out j s
place_as x l fs out i j s e at = subst (λ n. AtPlace x l fs out n s) e at

-- the step does the instruction
step_is : {A : Type 0} (p : Program A) (x l : Name) (fs : List Frame) (out : List ℕ) (i : ℕ) (s : State) (func : Func A) (b : Block A) (inst : Inst A) (at : AtPlace x l fs out i s)
    → func_named p.funcs x ≡ Some func → block_labelled func.blocks l ≡ Some b → slice_get b.insts i ≡ Some inst → step_of p s ≡ settled s (does p s at.frame fs func (Some inst) b.jump)
unfolding step_of
step_is {A} p x l fs out i s func b inst at ef eb ei =
    let f : Frame = at.frame in
    ap (λ (gs : List Frame). step_in p s gs) at.frames
    ∙ ap (λ (y : Name). settled s (in_func p s f fs (func_named p.funcs y))) at.func
    ∙ ap (λ (o : Option (Func A)). settled s (in_func p s f fs o)) ef
    ∙ ap (λ (y : Name). settled s (in_block p s f fs func (block_labelled func.blocks y))) at.label
    ∙ ap (λ (o : Option (Block A)). settled s (in_block p s f fs func o)) eb
    ∙ ap (λ n. settled s (does p s f fs func (slice_get b.insts n) b.jump)) at.index
    ∙ ap (λ (o : Option (Inst A)). settled s (does p s f fs func o b.jump)) ei

pub plain_step : {A : Type 0} (p : Program A) (x l : Name) (fs : List Frame) (out : List ℕ) (i : ℕ) (s : State) (func : Func A) (b : Block A) (inst : Inst A) → AtPlace x l fs out i s
    → func_named p.funcs x ≡ Some func → block_labelled func.blocks l ≡ Some b → slice_get b.insts i ≡ Some inst → call_kind inst.kind ≡ false → is_final (step_of p s).status ≡ false → AtPlace x l fs out (i + 1) (step_of p s)
plain_step {A} p x l fs out i s func b inst at ef eb ei h goes =
    let f : Frame = at.frame in
    let o : Outcome State = does p s f fs func (Some inst) b.jump in
    let e : step_of p s ≡ settled s o = step_is p x l fs out i s func b inst at ef eb ei in
    let on : On s f fs (settled s o) = settled_on s f fs o (stay_does p s f fs func inst b.jump h) (ap (λ (t : State). is_final t.status) (sym e) ∙ goes) in
    subst (λ (t : State). AtPlace x l fs out (i + 1) t) (sym e) (record {
      frame = on.0;
      frames = on.1;
      func = on.2 ∙ at.func;
      label = on.3 ∙ at.label;
      index = on.4 ∙ ap (λ n. n + 1) at.index;
      output = on.5 ∙ at.output;
    })

-- ---- many of them

-- the instructions at the first n places from i on call nothing, and write nothing if writes are asked for
abbrev pub ArePlainKinds : {A : Type 0} → Bool → Block A → ℕ → ℕ → Type 0
ArePlainKinds {A} writes b i n = (j : ℕ) → j < n → (inst : Inst A) × (slice_get b.insts (i + j) ≡ Some inst) × (plain_kind writes inst.kind ≡ true)

pub plain_walk : {A : Type 0} (p : Program A) (x l : Name) (fs : List Frame) (out : List ℕ) (i : ℕ) (s : State) (func : Func A) (b : Block A) (writes : Bool) (n : ℕ) → AtPlace x l fs out i s
    → func_named p.funcs x ≡ Some func → block_labelled func.blocks l ≡ Some b → ArePlainKinds writes b i n → (j : ℕ) → j ≤ n → GoesOn p s j → AtPlace x l fs out (i + j) (after p s j)
plain_walk p x l fs out i s func b writes n at ef eb plain zero le goes = place_as x l fs out i (i + 0) s (omega arith) at
plain_walk p x l fs out i s func b writes n at ef eb plain (suc k) le goes =
    let deep = plain_walk p x l fs out i s func b writes n at ef eb plain k (omega (arith, le)) (λ m lt. goes m (omega (arith, lt))) in
    let here = plain k (omega (arith, le)) in
    let one : (i + k) + 1 ≡ i + suc k = omega arith in
    place_as x l fs out ((i + k) + 1) (i + suc k) (after p s (suc k)) one
    (plain_step p x l fs out (i + k) (after p s k) func b here.0 deep ef eb here.1 (plain_calls writes here.0.kind here.2) (goes (suc k) (omega arith)))

-- ---- what is due there

-- what is due at a place shows in no count
pub record IsQuietAt {A : Type 0} (p : Program A) (kinds : Kinds) (func : Func A) (b : Block A) (i : ℕ) : Type 0 where
  pub writes : (t : Temps) → kinds.writes ≡ true → inst_writes p t (slice_get b.insts i) ≡ None
  pub value : (t : Temps) → place_returns p t func.returns (slice_get b.insts i) b.jump.kind ≡ None

pub plain_quiet : {A : Type 0} (p : Program A) (kinds : Kinds) (func : Func A) (b : Block A) (i : ℕ) (inst : Inst A) → slice_get b.insts i ≡ Some inst → plain_kind kinds.writes inst.kind ≡ true → IsQuietAt p kinds func b i
plain_quiet {A} p kinds func b i inst e h = record {
  writes = λ t on. ap (λ (o : Option (Inst A)). inst_writes p t o) e ∙ plain_writes p t kinds.writes inst.kind h on;
  value = λ t. ap (λ (o : Option (Inst A)). place_returns p t func.returns o b.jump.kind) e;
}

pub call_quiet : {A : Type 0} (p : Program A) (kinds : Kinds) (func : Func A) (b : Block A) (i : ℕ) (inst : Inst A) → slice_get b.insts i ≡ Some inst → call_kind inst.kind ≡ true → IsQuietAt p kinds func b i
call_quiet {A} p kinds func b i inst e h = record {
  writes = λ t on. ap (λ (o : Option (Inst A)). inst_writes p t o) e ∙ call_writes p t inst.kind h;
  value = λ t. ap (λ (o : Option (Inst A)). place_returns p t func.returns o b.jump.kind) e;
}

pub jump_quiet : {A : Type 0} (p : Program A) (kinds : Kinds) (func : Func A) (b : Block A) (i : ℕ) → slice_get b.insts i ≡ None → return_kind b.jump.kind ≡ false → IsQuietAt p kinds func b i
jump_quiet {A} p kinds func b i e h = record {
  writes = λ t on. ap (λ (o : Option (Inst A)). inst_writes p t o) e;
  value = λ t. ap (λ (o : Option (Inst A)). place_returns p t func.returns o b.jump.kind) e ∙ goes_returns p t func.returns b.jump.kind h;
}

-- the function of a number is that of the place
abbrev pub IsPlaceOf : {A : Type 0} → Program A → Func A → Block A → FuncId → Type 0
IsPlaceOf p func b id = (f : Frame) → IsFuncOf p (due_in p f func b) id

due_there : {A : Type 0} (p : Program A) (kinds : Kinds) (x l : Name) (fs : List Frame) (out : List ℕ) (i : ℕ) (s : State) (func : Func A) (b : Block A) (id : FuncId) → AtPlace x l fs out i s
    → func_named p.funcs x ≡ Some func → block_labelled func.blocks l ≡ Some b → IsPlaceOf p func b id → IsQuietAt p kinds func b i → IsDue p kinds (due_of p s.frames) id aheads.Other
due_there {A} p kinds x l fs out i s func b id at ef eb of quiet =
    let f : Frame = at.frame in
    record {
      due = due_in p f func b;
      due_is = ap (λ (gs : List Frame). due_of p gs) at.frames
          ∙ ap (λ (y : Name). due_by p f (func_named p.funcs y)) at.func
          ∙ ap (λ (o : Option (Func A)). due_by p f o) ef
          ∙ ap (λ (y : Name). due_at p f func (block_labelled func.blocks y)) at.label
          ∙ ap (λ (o : Option (Block A)). due_at p f func o) eb;
      in_func = of f;
      is_ahead = record {
        writes = λ on. sym (ap (λ n. inst_writes p f.temps (slice_get b.insts n)) at.index ∙ quiet.writes f.temps on);
        value = λ on. sym (ap (λ n. place_returns p f.temps func.returns (slice_get b.insts n) b.jump.kind) at.index ∙ quiet.value f.temps);
      };
    }

-- ---- a stretch of steps

quiet_at : {A : Type 0} (p : Program A) (kinds : Kinds) (func : Func A) (b : Block A) (i n j moves : ℕ) → ArePlainKinds kinds.writes b i n → (n < moves → IsQuietAt p kinds func b (i + n)) → j < moves → moves ≤ n + 1 → IsQuietAt p kinds func b (i + j)
quiet_at p kinds func b i n j moves plain last lt few = elim (cases_lt j n) [
  | inl before ↦ (let here = plain j before in plain_quiet p kinds func b (i + j) here.0 here.1 here.2)
  | inr from ↦ (let same : n ≡ j = omega (arith, lt, few, from) in subst (λ m. IsQuietAt p kinds func b (i + m)) same (last (omega (arith, lt, from))))
]

-- n plain instructions, and one more step at most, which is quiet too
pub stretch : {A : Type 0} (p : Program A) (kinds : Kinds) (x l : Name) (fs : List Frame) (out : List ℕ) (i : ℕ) (s : State) (func : Func A) (b : Block A) (id : FuncId) (n moves : ℕ) → AtPlace x l fs out i s
    → func_named p.funcs x ≡ Some func → block_labelled func.blocks l ≡ Some b → IsPlaceOf p func b id → ArePlainKinds kinds.writes b i n → 0 < moves → moves ≤ n + 1 → (n < moves → IsQuietAt p kinds func b (i + n))
    → IsStretch p kinds s id aheads.Other moves
stretch {A} p kinds x l fs out i s func b id n moves at ef eb of plain some few last =
    let there : (j : ℕ) → j < moves → GoesOn p s j → AtPlace x l fs out (i + j) (after p s j) =
    λ j lt goes. plain_walk p x l fs out i s func b kinds.writes n at ef eb plain j (omega (arith, lt, few)) goes in
    record {
      some = some;
      many = λ lt. refl;
      due = λ j lt goes. due_there p kinds x l fs out (i + j) (after p s j) func b id (there j lt goes) ef eb of (quiet_at p kinds func b i n j moves plain last lt few);
      depth = λ j lt goes. ap (λ (gs : List Frame). length gs) (there j lt goes).frames ∙ sym (ap (λ (gs : List Frame). length gs) at.frames);
      output = λ j lt goes. (there j lt goes).output ∙ sym at.output;
    }
