-- With globals as their addresses an instruction does the same.
use Rattle.std.proofs.Common.{◌≡◌, refl, ap, ◌∙◌, ℕ, ◌==◌, ◌&&◌, if◌then◌else◌, List, [], ◌∷◌, Option, Some, None, Ok, Err}
use Rattle.std.specs.Prelude.{map, slice_get, unwrap_or}
use Rattle.qil_tree.specs.declared.ops.Class.{Class}
use Rattle.qil_tree.specs.declared.ops.Class.TheVariants as classes
use Rattle.qil_tree.specs.declared.ops.AbiType.TheVariants as types
use Rattle.qil_tree.specs.declared.tree.Operand.{Operand}
use Rattle.qil_tree.specs.declared.tree.Operand.TheVariants as operands
use Rattle.qil_tree.specs.declared.tree.Expr.{Expr}
use Rattle.qil_tree.specs.declared.tree.Expr.TheVariants as exprs
use Rattle.qil_tree.specs.declared.tree.CallResult.{CallResult}
use Rattle.qil_tree.specs.declared.tree.Argument.{Argument}
use Rattle.qil_tree.specs.declared.tree.InstKind.{InstKind}
use Rattle.qil_tree.specs.declared.tree.InstKind.TheVariants as insts
use Rattle.qil_tree.specs.declared.tree.JumpKind.{JumpKind}
use Rattle.qil_tree.specs.declared.tree.JumpKind.TheVariants as jumps
use Rattle.qil_tree.specs.declared.tree.Func.{Func}
use Rattle.qil_tree.specs.declared.tree.Program.{Program}
use Rattle.qil_rules.specs.Operands.{Read, expr_reads, inst_reads, argument_read, as_class}
use Rattle.qil_rules.specs.Occurrences.{returned_class}
use Rattle.qil_memory.specs.qil_layout.declared.callee.Callee.{Callee}
use Rattle.qil_memory.specs.qil_layout.declared.callee.Callee.TheVariants.{Defined, PutChar, Puts, Exit}
use Rattle.qil_memory.specs.qil_layout.Callee.{callee_at}
use Rattle.qil_memory.specs.Live.{Live}
use Rattle.qil_semantics.specs.State as meaning
use Rattle.qil_semantics.specs.State.{Temps, State, call_shape}
use Rattle.qil_semantics.specs.Values.{◌>>=◌, val, vals, result_of, fit, fit_all, first, rest}
use Rattle.qil_semantics.specs.Calls.{Shape, next, in_shape, agree_all, gives, call_at, call_defined, shape_of, enters, putchar, puts, shape_of_putchar, shape_of_puts, shape_of_exit}
use Rattle.qil_semantics.specs.Step as step
use Rattle.qil_semantics.specs.Step.{act, sets, goes, leave, returns, move_read}
use Rattle.qil_code.specs.Named.{resolved, resolved_expr, resolved_inst, resolved_argument, resolved_move, resolved_jump}

-- ---- operands

pub val_resolved : {A : Type 0} (p : Program A) (t : Temps) (c : Class) (a : Operand) → val p t c (resolved p a) ≡ val p t c a
val_resolved p t c (operands.Number n) = refl
val_resolved p t c (operands.Global g) = refl
val_resolved p t c (operands.Temp x) = refl

abbrev read_resolved : {A : Type 0} → Program A → Read → Read
read_resolved p r = record { class = r.class; operand = resolved p r.operand }

vals_resolved : {A : Type 0} (p : Program A) (t : Temps) (rs : List Read) → vals p t (map (read_resolved p) rs) ≡ vals p t rs
vals_resolved p t [] = refl
vals_resolved p t (r ∷ rs) = λ i. val_resolved p t r.class r.operand i >>= λ v. vals_resolved p t rs i >>= λ vs. Ok (v ∷ vs)

-- ---- expressions

expr_reads_resolved : {A : Type 0} (p : Program A) (c : Class) (e : Expr) → expr_reads c (resolved_expr p e) ≡ map (read_resolved p) (expr_reads c e)
expr_reads_resolved p c (exprs.Unary op a) = refl
expr_reads_resolved p c (exprs.Binary op a b) = refl
expr_reads_resolved p c (exprs.Compare op d a b) = refl
expr_reads_resolved p c (exprs.Extend op a) = refl
expr_reads_resolved p c (exprs.Load op a) = refl

result_resolved : {A : Type 0} (p : Program A) (m : Live) (c : Class) (e : Expr) (vs : List ℕ) → result_of m c (resolved_expr p e) vs ≡ result_of m c e vs
result_resolved p m c (exprs.Unary op a) vs = refl
result_resolved p m c (exprs.Binary op a b) vs = refl
result_resolved p m c (exprs.Compare op d a b) vs = refl
result_resolved p m c (exprs.Extend op a) vs = refl
result_resolved p m c (exprs.Load op a) vs = refl

-- ---- instructions

args_reads : {A : Type 0} (p : Program A) (args : List Argument) → map argument_read (map (resolved_argument p) args) ≡ map (read_resolved p) (map argument_read args)
args_reads p [] = refl
args_reads p (a ∷ args) = ap (λ rs. read_resolved p (argument_read a) ∷ rs) (args_reads p args)

reads_resolved : {A : Type 0} (p : Program A) (kind : InstKind A) → inst_reads (resolved_inst p kind) ≡ map (read_resolved p) (inst_reads kind)
reads_resolved p (insts.Assign to e) = expr_reads_resolved p to.class e
reads_resolved p (insts.Alloc to op n) = refl
reads_resolved p (insts.Store w a b) = refl
reads_resolved p (insts.Blit a b n) = refl
reads_resolved p (insts.Call to f args) = ap (λ rs. read_resolved p (as_class classes.L f) ∷ rs) (args_reads p args)

types_resolved : {A : Type 0} (p : Program A) (args : List Argument) → map (λ a. a.abi_type) (map (resolved_argument p) args) ≡ map (λ a. a.abi_type) args
types_resolved p [] = refl
types_resolved p (a ∷ args) = ap (λ ts. a.abi_type ∷ ts) (types_resolved p args)

shape_resolved : {A : Type 0} (p : Program A) (shape : Shape) (to : Option CallResult) (args : List Argument) (vs : List ℕ) → in_shape shape to (map (resolved_argument p) args) vs ≡ in_shape shape to args vs
shape_resolved p shape to args vs = ap (λ written. if agree_all written shape.params && gives to shape.returns then Ok (fit_all shape.params (fit_all written vs)) else Err call_shape) (types_resolved p args)

call_resolved : {A : Type 0} (p : Program A) (s : State) (f : meaning.Frame) (fs : List meaning.Frame) (to : Option CallResult) (args : List Argument) (a : ℕ) (vs : List ℕ) (o : Option Callee)
    → call_at p s f fs to (map (resolved_argument p) args) a vs o ≡ call_at p s f fs to args a vs o
call_resolved p s f fs to args a vs None = refl
call_resolved {A} p s f fs to args a vs (Some (Defined id)) = by (slice_get p.funcs id.index) where
  by : (o : Option (Func A)) → call_defined s f fs to (map (resolved_argument p) args) vs o ≡ call_defined s f fs to args vs o
  by None = refl
  by (Some func) = ap (λ o. o >>= λ ws. enters s f fs to func ws) (shape_resolved p (shape_of func) to args vs)
call_resolved p s f fs to args a vs (Some PutChar) = ap (λ o. o >>= λ ws. putchar s f fs to (first ws)) (shape_resolved p shape_of_putchar to args vs)
call_resolved p s f fs to args a vs (Some Puts) = ap (λ o. o >>= λ ws. puts s f fs to (first ws)) (shape_resolved p shape_of_puts to args vs)
call_resolved p s f fs to args a vs (Some Exit) = ap (λ o. o >>= λ ws. Ok (record s { status = meaning.exited (first ws) })) (shape_resolved p shape_of_exit to args vs)

act_resolved : {A : Type 0} (p : Program A) (s : State) (f : meaning.Frame) (fs : List meaning.Frame) (kind : InstKind A) (vs : List ℕ) → act p s f fs (resolved_inst p kind) vs ≡ act p s f fs kind vs
act_resolved p s f fs (insts.Assign to e) vs = ap (λ o. o >>= λ v. Ok (record s { frames = sets (next f) to v ∷ fs })) (result_resolved p s.memory to.class e vs)
act_resolved p s f fs (insts.Alloc to op n) vs = refl
act_resolved p s f fs (insts.Store w a b) vs = refl
act_resolved p s f fs (insts.Blit a b n) vs = refl
act_resolved p s f fs (insts.Call to g args) vs = call_resolved p s f fs to args (first vs) (rest vs) (callee_at p (first vs))

pub does_resolved : {A : Type 0} (p : Program A) (s : State) (f : meaning.Frame) (fs : List meaning.Frame) (kind : InstKind A)
    → (vals p f.temps (inst_reads (resolved_inst p kind)) >>= act p s f fs (resolved_inst p kind)) ≡ (vals p f.temps (inst_reads kind) >>= act p s f fs kind)
does_resolved p s f fs kind =
    ap (λ rs. vals p f.temps rs >>= act p s f fs (resolved_inst p kind)) (reads_resolved p kind)
    ∙ ap (λ o. o >>= act p s f fs (resolved_inst p kind)) (vals_resolved p f.temps (inst_reads kind))
    ∙ (λ i. vals p f.temps (inst_reads kind) >>= λ vs. act_resolved p s f fs kind vs i)

-- ---- jumps and moves

pub leave_resolved : {A : Type 0} (p : Program A) (s : State) (f : meaning.Frame) (fs : List meaning.Frame) (func : Func A) (j : JumpKind) → leave p s f fs func (resolved_jump p j) ≡ leave p s f fs func j
leave_resolved p s f fs func (jumps.Jmp l) = refl
leave_resolved p s f fs func (jumps.Jnz a l m) = ap (λ o. o >>= λ v. goes p s f fs func (if v == 0 then m else l)) (val_resolved p f.temps classes.W a)
leave_resolved p s f fs func (jumps.Ret None) = refl
leave_resolved p s f fs func (jumps.Ret (Some a)) = ap (λ o. o >>= λ v. returns s f fs (Some (fit (unwrap_or func.returns types.W) v))) (val_resolved p f.temps (returned_class func.returns) a)
leave_resolved p s f fs func jumps.Hlt = refl

moves_reads : {A : Type 0} (p : Program A) (ms : List step.PhiMove) → map move_read (map (resolved_move p) ms) ≡ map (read_resolved p) (map move_read ms)
moves_reads p [] = refl
moves_reads p (m ∷ ms) = ap (λ rs. read_resolved p (move_read m) ∷ rs) (moves_reads p ms)

pub moves_resolved : {A : Type 0} (p : Program A) (t : Temps) (ms : List step.PhiMove) → vals p t (map move_read (map (resolved_move p) ms)) ≡ vals p t (map move_read ms)
moves_resolved p t ms = ap (vals p t) (moves_reads p ms) ∙ vals_resolved p t (map move_read ms)

pub targets_resolved : {A : Type 0} (p : Program A) (ms : List step.PhiMove) → map (λ m. m.target.name) (map (resolved_move p) ms) ≡ map (λ m. m.target.name) ms
targets_resolved p [] = refl
targets_resolved p (m ∷ ms) = ap (λ xs. m.target.name ∷ xs) (targets_resolved p ms)
