-- What an instruction does to a shadow that is kept by number: what the definition says of that of the tree, by names.
use Rattle.std.specs.Prelude.{◌≡◌, ℕ, ◌+◌, ◌<◌, ◌≤◌, false, true, List, [], ◌∷◌, ◌++◌, length, map, flat_map, ⊤, Option, Some, None, option_map, Ok}
use Rattle.std.specs.List.{AllByRecursion}
use Rattle.qil_tree.specs.declared.ops.Class.{Class}
use Rattle.qil_tree.specs.declared.tree.Target.{Target}
use Rattle.qil_tree.specs.declared.tree.Expr.{Expr}
use Rattle.qil_tree.specs.declared.tree.Expr.TheVariants as exprs
use Rattle.qil_tree.specs.declared.tree.InstKind.{InstKind}
use Rattle.qil_tree.specs.declared.tree.InstKind.TheVariants as insts
use Rattle.qil_tree.specs.declared.tree.Program.{Program}
use Rattle.qil_memory.specs.qil_rules.Operands.{inst_reads, inst_target}
use Rattle.qil_memory.specs.qil_rules.Text.{IsAmong}
use Rattle.qil_memory.specs.qil_layout.Layout.{width_bytes, rounded}
use Rattle.qil_memory.specs.qil_layout.declared.callee.Callee.{Callee}
use Rattle.qil_memory.specs.qil_layout.declared.callee.Callee.TheVariants as callees
use Rattle.qil_memory.specs.qil_layout.Callee.{callee_at}
use Rattle.qil_memory.specs.Buffers.{stack_base, stack_end}
use Rattle.qil_memory.specs.Calls.{overlap}
use Rattle.qil_semantics.specs.State.{Name, Frame, State}
use Rattle.qil_semantics.specs.Slots.{temps_of}
use Rattle.qil_semantics.specs.Values.{vals, first, second}
use Rattle.qil_semantics.specs.Calls.{depth_limit}
use Rattle.qil_semantics.specs.Step.{alignment}
use Rattle.qil_code.specs.declared.numbered.Slot.{Slot}
use Rattle.qil_code.specs.declared.numbered.NumberedExpr.{NumberedExpr}
use Rattle.qil_code.specs.declared.numbered.NumberedInst.{NumberedInst}
use Rattle.qil_code.specs.declared.numbered.NumberedInst.TheVariants as numbered
use Rattle.qil_code.specs.Numbered.{inst_at, names_of, operand_of, kind_of}
use Rattle.qil_shadow.specs.declared.origin.Origin.{Origin}
use Rattle.qil_shadow.specs.declared.suspicion.Place.{Place}
use Rattle.qil_shadow.specs.declared.suspicion.Suspicion.{Suspicion}
use Rattle.qil_shadow.specs.declared.shadow.Shadow.{Shadow}
use Rattle.qil_shadow.specs.Bytes.{load_bytes}
use Rattle.qil_shadow.specs.Shadow as by_names
use Rattle.qil_shadow.specs.Shadowed.{expr_origin, acts}
use Rattle.qil_shadow.specs.Accesses.{Access, are_live, expr_accesses, inst_accesses}
use Rattle.qil_shadow.specs.Suspicions as suspicions
use Rattle.qil_shadow.specs.Spots.{HasSpot, origins_in}
use Rattle.qil_shadow.specs.Stack.{CallShadow, callers_of}
use Rattle.qil_shadow.specs.Calls.{with_set}
use Rattle.qil_shadow.specs.Numbered.{value_in, frames_by, shadow_by}
use Rattle.qil_shadow.specs.Doubts.{suspicion_named, StandsFor}
use Rattle.qil_shadow.specs.Starting.{IsOf}
use Rattle.qil_shadow.specs.Kept.{Keeps}
use Rattle.qil_shadow.specs.Reads.{IsKnown, innermost, HasSlots}

-- ---- the shadow by names

-- while the calls of the functions of these numbers aren't over, the innermost first
abbrev pub named : {A : Type 0} → Program A → List ℕ → Shadow A → by_names.Shadow
named p fs sh = shadow_by p fs sh.calls.calls sh.memory sh.calls.objects.objects sh.position

-- functions of these numbers run in the calls, each of which has a slot for each of its temporaries
abbrev pub AreCalls : {A : Type 0} → Program A → List ℕ → List CallShadow → Type 0
AreCalls p [] [] = ⊤
AreCalls p [] (c ∷ cs) = ⊥
AreCalls p (f ∷ fs) [] = ⊥
AreCalls p (f ∷ fs) (c ∷ cs) = (length (names_of p f) ≡ length c.origins) × AreCalls p fs cs

-- of its program, and the function of a place runs in the innermost call
pub record IsAt {A : Type 0} (p : Program A) (place : Place) (sh : Shadow A) : Type 0 where
  pub own : IsOf p sh.names sh.calls.objects.starts sh.data_end
  pub slots : HasSlots p place.func.index sh.calls.calls

-- ---- the instruction

abbrev pub kind_at : {A : Type 0} → Program A → Place → Option (InstKind A)
kind_at p place = option_map (λ i. i.kind) (inst_at p place.func.index place.block.index place.index)

-- a temporary that is set is one of the function
abbrev pub IsTarget : List Name → Option Target → Type 0
IsTarget ns None = ⊤
IsTarget ns (Some to) = IsAmong to.name ns

-- at a place of the tree stands the one of a kind, which has this form by number; what it reads is known, and has these values in a
-- frame whose temporaries are in these slots
pub record IsInst {A : Type 0} (p : Program A) (place : Place) (slots : List (Option ℕ)) (inst : NumberedInst A) (kind : InstKind A) (vs : List ℕ) : Type 0 where
  pub here : kind_at p place ≡ Some kind
  pub number : inst ≡ kind_of p (names_of p place.func.index) kind
  pub known : AllByRecursion (λ r. IsKnown p (names_of p place.func.index) r.operand) (inst_reads kind)
  pub target : IsTarget (names_of p place.func.index) (inst_target kind)
  pub values : vals p (temps_of (names_of p place.func.index) slots) (inst_reads kind) ≡ Ok vs

-- ---- that it doesn't fault

abbrev pub ExprIsSound : Expr → List ℕ → Type 0
ExprIsSound (exprs.Unary op a) vs = ⊤
ExprIsSound (exprs.Binary op a b) vs = ⊤
ExprIsSound (exprs.Compare op d a b) vs = ⊤
ExprIsSound (exprs.Extend op a) vs = ⊤
ExprIsSound (exprs.Load op a) vs = HasSpot (first vs) (load_bytes op)

-- the bytes of both have a place, those of the source are live, and both share none or are the same
pub record CopyIsSound {A : Type 0} (p : Program A) (s : State) (a b n : ℕ) : Type 0 where
  pub source : HasSpot a n
  pub target : HasSpot b n
  pub live : are_live p s a n ≡ true
  pub apart : overlap a b n ≡ false

abbrev pub RoomIsSound : ℕ → ℕ → ℕ → Type 0
RoomIsSound top at n = (stack_base ≤ top) × (at + n ≤ stack_end)

-- what is called is a function, and there may be one call more
abbrev pub CallIsSound : ℕ → Option Callee → Type 0
CallIsSound depth None = ⊥
CallIsSound depth (Some (callees.Defined id)) = depth < depth_limit
CallIsSound depth (Some callees.PutChar) = ⊤
CallIsSound depth (Some callees.Puts) = ⊤
CallIsSound depth (Some callees.Exit) = ⊤

-- what is so of it then, where so many calls aren't over: its bytes have a place, and an object fits on the stack
abbrev pub IsSound : {A : Type 0} → Program A → State → ℕ → InstKind A → List ℕ → Type 0
IsSound p s depth (insts.Assign to e) vs = ExprIsSound e vs
IsSound p s depth (insts.Alloc to op n) vs = RoomIsSound s.top (rounded (alignment op) s.top) (first vs)
IsSound p s depth (insts.Store w a b) vs = HasSpot (second vs) (width_bytes w)
IsSound p s depth (insts.Blit a b n) vs = 0 < n → CopyIsSound p s (first vs) (second vs) n
IsSound p s depth (insts.Call to callee args) vs = CallIsSound depth (callee_at p (first vs))

-- ---- what it does

-- the functions that run in the calls behind a call of something
abbrev pub called_first : List ℕ → Option Callee → List ℕ
called_first fs (Some (callees.Defined id)) = id.index ∷ fs
called_first fs callee = fs

abbrev pub running_then : {A : Type 0} → Program A → List ℕ → InstKind A → List ℕ → List ℕ
running_then p fs (insts.Call to callee args) vs = called_first fs (callee_at p (first vs))
running_then p fs kind vs = fs

-- all but one temporary of the innermost call, what was found, open bits, and the blocks of a heap
pub record KeepsButSlot {A : Type 0} (to : Slot) (was now : Shadow A) : Type 0 where
  pub calls_are : (o : Origin) × (now.calls ≡ with_set was.calls to o)
  pub memory_is : now.memory ≡ was.memory
  pub names_are : now.names ≡ was.names
  pub end_is : now.data_end ≡ was.data_end
  pub position_is : now.position ≡ was.position
  pub roles_are : now.heap.roles.items ≡ was.heap.roles.items

-- what is suspicious of accesses is found in their order, behind what was found before
abbrev pub ReportsAll : {A : Type 0} → Program A → State → by_names.Shadow → Frame → List Access → List Suspicion → List Suspicion → Type 0
ReportsAll p s sh f xs was now =
    map (suspicion_named p) now ≡ map (suspicion_named p) was ++ flat_map (λ a. suspicions.suspicion p s sh f a (suspicions.doubted sh.objects a a.origin)) xs

-- what an expression gives to a temporary is what the definition says, and what is suspicious of its access was found
pub record HasGiven {A : Type 0} (p : Program A) (place : Place) (slots : List (Option ℕ)) (class : Class) (expr : NumberedExpr) (was now : Shadow A) (o : Origin) : Type 0 where
  pub origin_is : (to : Slot) (x : Target) (e : Expr) (vs : List ℕ) → IsInst p place slots (numbered.Assign class to expr) (insts.Assign x e) vs → IsAt p place was → ExprIsSound e vs
      → o ≡ expr_origin p (innermost p place.func.index was.calls.calls) (origins_in was.memory) class e vs
  pub found_is : (to : Slot) (x : Target) (e : Expr) (vs : List ℕ) (s : State) (sh : by_names.Shadow) (f : Frame) → IsInst p place slots (numbered.Assign class to expr) (insts.Assign x e) vs → IsAt p place was
      → StandsFor p s sh f was.calls.objects.objects was.calls.top was.position place
      → ReportsAll p s sh f (expr_accesses p (innermost p place.func.index was.calls.calls) e vs) was.found.items now.found.items
  pub rest : Keeps was now

-- by names the shadow is then what the definition says
abbrev pub ShadowIs : {A : Type 0} → Program A → Place → Shadow A → Shadow A → State → Frame → List ℕ → InstKind A → List ℕ → Type 0
ShadowIs p place was now s f fs kind vs =
    named p (running_then p (place.func.index ∷ fs) kind vs) now
    ≡ acts p s f (named p (place.func.index ∷ fs) was) (innermost p place.func.index was.calls.calls) (frames_by p fs (callers_of was.calls.calls)) kind vs

-- and what is suspicious of its accesses was found
abbrev pub FoundIs : {A : Type 0} → Program A → Place → Shadow A → Shadow A → State → by_names.Shadow → Frame → InstKind A → List ℕ → Type 0
FoundIs p place was now s sh f kind vs = ReportsAll p s sh f (inst_accesses p s (innermost p place.func.index was.calls.calls) kind vs) was.found.items now.found.items

pub record HasDone {A : Type 0} (p : Program A) (place : Place) (slots : List (Option ℕ)) (inst : NumberedInst A) (was now : Shadow A) : Type 0 where
  pub shadow_is : (kind : InstKind A) (vs : List ℕ) (s : State) (f : Frame) (fs : List ℕ) → IsInst p place slots inst kind vs → IsAt p place was → AreCalls p (place.func.index ∷ fs) was.calls.calls
      → StandsFor p s (named p (place.func.index ∷ fs) was) f was.calls.objects.objects was.calls.top was.position place → IsSound p s (length was.calls.calls) kind vs
      → ShadowIs p place was now s f fs kind vs
  pub found_is : (kind : InstKind A) (vs : List ℕ) (s : State) (sh : by_names.Shadow) (f : Frame) → IsInst p place slots inst kind vs → IsAt p place was
      → StandsFor p s sh f was.calls.objects.objects was.calls.top was.position place → FoundIs p place was now s sh f kind vs
