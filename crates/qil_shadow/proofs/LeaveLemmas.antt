-- How frames lie behind a jump, beside the calls; and that a test is set and a return has a caller, where the run goes on.
use Rattle.std.proofs.Common.{◌≡◌, ◌∙◌, sym, ap, subst, refl, ℕ, Bool, true, false, if◌then◌else◌, List, [], ◌∷◌, map, Option, Some, None, option_map, unwrap_or, Ok, Err}
use Rattle.std.specs.Prelude.{◌==◌, ◌%◌, flat_map}
use Rattle.std.specs.List.{AllByRecursion}
use Rattle.std.proofs.lemmas.Bool.{true≢false}
use Rattle.qil_tree.specs.declared.ops.AbiType.TheVariants as types
use Rattle.qil_tree.specs.declared.ops.Class.TheVariants as classes
use Rattle.qil_tree.specs.declared.tree.JumpKind.{JumpKind}
use Rattle.qil_tree.specs.declared.tree.JumpKind.TheVariants as jumps
use Rattle.qil_tree.specs.declared.tree.Operand.{Operand}
use Rattle.qil_tree.specs.declared.tree.Operand.TheVariants as operands
use Rattle.qil_tree.specs.declared.tree.Block.{Block}
use Rattle.qil_tree.specs.declared.tree.Func.{Func}
use Rattle.qil_tree.specs.declared.tree.Program.{Program}
use Rattle.qil_memory.specs.qil_rules.Occurrences.{returned_class}
use Rattle.qil_memory.specs.qil_layout.Layout.{address_of}
use Rattle.qil_semantics.specs.State.{Name, Frame, State, is_final}
use Rattle.qil_semantics.specs.Slots.{temps_of}
use Rattle.qil_semantics.specs.Values.{Outcome, ◌>>=◌, fit, known, val, vals}
use Rattle.qil_semantics.specs.Calls as steps
use Rattle.qil_semantics.specs.Step as step
use Rattle.qil_semantics.specs.Step.{block_labelled, phi_moves, move_read, merges}
use Rattle.qil_code.specs.Numbered.{names_of, operand_of}
use Rattle.qil_code.specs.Slots.{number_in}
use Rattle.qil_code.proofs.Has.{has-among}
use Rattle.qil_shadow.specs.Numbered.{value_in}
use Rattle.qil_shadow.specs.Reads.{IsKnown}
use Rattle.qil_shadow.specs.Stack.{CallShadow}
use Rattle.qil_shadow.specs.Instructions.{AreCalls}
use Rattle.qil_shadow.specs.Returns.{IsCalled}
use Rattle.qil_shadow.specs.Shapes.{CallShape, shapes_of}
use Rattle.qil_shadow.specs.Jumps.{jump_operands, GoesOn, left_running, shapes_left, top_left}
use Rattle.qil_shadow.specs.Steps.{number_of, numbers_of, AreBeside}
use Rattle.qil_shadow.proofs.ParamLemmas.{has_slot}
use Rattle.qil_shadow.proofs.ValueLemmas.{bound, temp_at, value_or}
use Rattle.qil_shadow.proofs.StepLemmas.{calls_beside, beside_like, number_like, ok_is, taken_func, taken_floor, taken_result}

pub record LiesLeft {A : Type 0} (p : Program A) (s : State) (f : Frame) (gs : List Frame) (kind : JumpKind) (cs : List CallShape) (t : State) : Type 0 where
  pub numbers : numbers_of p t.frames ≡ left_running (number_of p f) (numbers_of p gs) kind
  pub calls : AreBeside p t.frames (shapes_left kind cs)
  pub top : t.top ≡ top_left kind s.top cs

-- ---- to a block

-- all but the innermost frame stays
abbrev Went : {A : Type 0} → Program A → State → Frame → List Frame → List CallShape → State → Type 0
Went p s f gs cs t = (numbers_of p t.frames ≡ numbers_of p (f ∷ gs)) × AreBeside p t.frames cs × (t.top ≡ s.top)

abbrev frame_or : Frame → Outcome Frame → Frame
frame_or d (Ok f) = f
frame_or d (Err why) = d

ok_frame : (f g : Frame) → ◌≡◌ {A = Outcome Frame} (Ok f) (Ok g) → f ≡ g
ok_frame f g e = ap (frame_or f) e

went_to : {A : Type 0} (p : Program A) (s : State) (f : Frame) (gs : List Frame) (o : Option (Block A)) (cs : List CallShape) (t : State) → s.frames ≡ f ∷ gs → step.enters_block p s f gs o ≡ Ok t → AreBeside p (f ∷ gs) cs → Went p s f gs cs t
went_to p s f gs None cs t frames e b =
    subst (Went p s f gs cs) (ok_is s t e) (ap (numbers_of p) frames, subst (λ fs. AreBeside p fs cs) (sym frames) b, refl)
went_to p s f gs (Some x) cs t frames e b =
    let moves = flat_map (phi_moves f.label) x.phis in
    let d = bound (merges p f moves) _ t e in
    let m = bound (vals p f.temps (map move_read moves)) _ d.0 d.1 in
    let same = ok_frame _ d.0 m.2 in
    let g : Frame = record d.0 { label = x.label; index = 0 } in
    let func : g.func ≡ f.func = sym (ap (λ (y : Frame). y.func) same) in
    let floor : g.floor ≡ f.floor = sym (ap (λ (y : Frame). y.floor) same) in
    let result : g.result ≡ f.result = sym (ap (λ (y : Frame). y.result) same) in
    subst (Went p s f gs cs) (ok_is _ t d.2) (ap (λ n. n ∷ numbers_of p gs) (number_like p f g func), beside_like p f g gs cs func floor result b, refl)

-- ---- back

returned_to : {A : Type 0} (p : Program A) (s : State) (f : Frame) (gs : List Frame) (value : Option ℕ) (a : Option Operand) (cs : List CallShape) (t : State) → step.returns s f gs value ≡ Ok t → is_final t.status ≡ false → AreBeside p (f ∷ gs) cs
    → LiesLeft p s f gs (jumps.Ret a) cs t
returned_to p s f [] value a cs t e goes_on b = absurd (true≢false (ap (λ (u : State). is_final u.status) (ok_is _ t e) ∙ goes_on))
returned_to p s f (g ∷ gs) value a [] t e goes_on b = absurd b
returned_to p s f (g ∷ gs) value a (c ∷ cs) t e goes_on b =
    let h = steps.takes g f.result value in
    subst (LiesLeft p s f (g ∷ gs) (jumps.Ret a) (c ∷ cs)) (ok_is _ t e) (record {
      numbers = ap (λ n. n ∷ numbers_of p gs) (number_like p g h (taken_func g f.result value));
      calls = beside_like p g h gs cs (taken_func g f.result value) (taken_floor g f.result value) (taken_result g f.result value) b.1;
      top = sym b.0.floor;
    })

pub left_then : {A : Type 0} (p : Program A) (s : State) (f : Frame) (gs : List Frame) (func : Func A) (kind : JumpKind) (cs : List CallShape) (t : State) → s.frames ≡ f ∷ gs → step.leave p s f gs func kind ≡ Ok t → is_final t.status ≡ false
    → AreBeside p (f ∷ gs) cs → LiesLeft p s f gs kind cs t
left_then {A} p s f gs func (jumps.Jmp l) cs t frames e goes_on b =
    let w = went_to p s f gs (block_labelled func.blocks l) cs t frames e b in
    record { numbers = w.0; calls = w.1; top = w.2 }
left_then p s f gs func (jumps.Jnz a l m) cs t frames e goes_on b =
    let d = bound (val p f.temps classes.W a) _ t e in
    let w = went_to p s f gs (block_labelled func.blocks (if d.0 == 0 then m else l)) cs t frames d.2 b in
    record { numbers = w.0; calls = w.1; top = w.2 }
left_then p s f gs func (jumps.Ret None) cs t frames e goes_on b = returned_to p s f gs None None cs t e goes_on b
left_then p s f gs func (jumps.Ret (Some a)) cs t frames e goes_on b =
    let d = bound (val p f.temps (returned_class func.returns) a) _ t e in
    returned_to p s f gs (Some (fit (unwrap_or func.returns types.W) d.0)) (Some a) cs t d.2 goes_on b
left_then p s f gs func jumps.Hlt cs t frames e goes_on b = absurd cc

-- ---- that it goes on

known_word : (x : Name) (o : Option ℕ) (v : ℕ) → known classes.W x o ≡ Ok v → (w : ℕ) × (o ≡ Some w) × (w % 4294967296 ≡ v)
known_word x None v e = absurd cc
known_word x (Some w) v e = (w, refl, ap (value_or 0) e)

val_word : {A : Type 0} (p : Program A) (ns : List Name) (slots : List (Option ℕ)) (a : Operand) (v : ℕ) → IsKnown p ns a → val p (temps_of ns slots) classes.W a ≡ Ok v
    → (w : ℕ) × (value_in slots (operand_of p ns a) ≡ Some w) × (w % 4294967296 ≡ v)
val_word p ns slots (operands.Number n) v known e = (n, refl, ap (value_or 0) e)
val_word p ns slots (operands.Global g) v known e = (unwrap_or (address_of p g) 0, refl, ap (value_or 0) e)
val_word p ns slots (operands.Temp x) v known e =
    let w = known_word x (temps_of ns slots x) v e in
    (w.0, temp_at ns slots x (number_in ns x) (has_slot ns x (has-among ns x known.0 known.1)) ∙ w.1, w.2)

has_caller : {A : Type 0} (p : Program A) (i : ℕ) (slots : List (Option ℕ)) (s : State) (f : Frame) (gs : List Frame) (value : Option ℕ) (a : Option Operand) (cs : List CallShadow) (t : State) → step.returns s f gs value ≡ Ok t
    → is_final t.status ≡ false → number_of p f ≡ i → AreBeside p (f ∷ gs) (shapes_of cs) → GoesOn p i slots f (numbers_of p gs) cs (jumps.Ret a)
has_caller p i slots s f [] value a cs t e goes_on number b = absurd (true≢false (ap (λ (u : State). is_final u.status) (ok_is _ t e) ∙ goes_on))
has_caller p i slots s f (g ∷ gs) value a [] t e goes_on number b = absurd b
has_caller p i slots s f (g ∷ gs) value a (c ∷ cs) t e goes_on number b = (
  number_of p g,
  numbers_of p gs,
  refl,
  subst (λ n. AreCalls p (n ∷ (number_of p g ∷ numbers_of p gs)) (c ∷ cs)) number (calls_beside p (f ∷ (g ∷ gs)) (c ∷ cs) b),
  record { receiver = b.0.receiver.0; taker = b.0.receiver.1 },
)

pub goes_there : {A : Type 0} (p : Program A) (i : ℕ) (slots : List (Option ℕ)) (s : State) (f : Frame) (gs : List Frame) (func : Func A) (kind : JumpKind) (cs : List CallShadow) (t : State) → step.leave p s f gs func kind ≡ Ok t
    → is_final t.status ≡ false → number_of p f ≡ i → f.temps ≡ temps_of (names_of p i) slots → AllByRecursion (IsKnown p (names_of p i)) (jump_operands kind) → AreBeside p (f ∷ gs) (shapes_of cs) → GoesOn p i slots f (numbers_of p gs) cs kind
goes_there p i slots s f gs func (jumps.Jmp l) cs t e goes_on number temps known b = tt
goes_there p i slots s f gs func (jumps.Jnz a l m) cs t e goes_on number temps known b =
    let d = bound (val p f.temps classes.W a) _ t e in
    let w = val_word p (names_of p i) slots a d.0 known.0 ((λ j. val p (sym temps j) classes.W a) ∙ d.1) in
    (w.0, w.1, d.1 ∙ ap (λ v. Ok v) (sym w.2))
goes_there p i slots s f gs func (jumps.Ret None) cs t e goes_on number temps known b = has_caller p i slots s f gs None None cs t e goes_on number b
goes_there p i slots s f gs func (jumps.Ret (Some a)) cs t e goes_on number temps known b =
    let d = bound (val p f.temps (returned_class func.returns) a) _ t e in
    has_caller p i slots s f gs (Some (fit (unwrap_or func.returns types.W) d.0)) (Some a) cs t d.2 goes_on number b
goes_there p i slots s f gs func jumps.Hlt cs t e goes_on number temps known b = absurd cc
