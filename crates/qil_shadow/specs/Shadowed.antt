-- How a step changes the shadow. Of a step that ends the run nothing is asked.
use Rattle.std.specs.Prelude.{ℕ, ◌+◌, ◌-◌, Bool, false, ◌==◌, if◌then◌else◌, List, [], ◌∷◌, ◌++◌, length, map, flat_map, zip, replicate, Option, Some, None, slice_get, Ok, Err}
use Rattle.std.specs.Str.{bytes_eq}
use Rattle.qil_tree.specs.declared.ops.Class.{Class}
use Rattle.qil_tree.specs.declared.ops.Class.TheVariants as classes
use Rattle.qil_tree.specs.declared.tree.Target.{Target}
use Rattle.qil_tree.specs.declared.tree.Operand.{Operand}
use Rattle.qil_tree.specs.declared.tree.Operand.TheVariants as operands
use Rattle.qil_tree.specs.declared.tree.Expr.{Expr}
use Rattle.qil_tree.specs.declared.tree.Expr.TheVariants as exprs
use Rattle.qil_tree.specs.declared.tree.CallResult.{CallResult}
use Rattle.qil_tree.specs.declared.tree.Argument.{Argument}
use Rattle.qil_tree.specs.declared.tree.InstKind.{InstKind}
use Rattle.qil_tree.specs.declared.tree.InstKind.TheVariants as insts
use Rattle.qil_tree.specs.declared.tree.JumpKind.{JumpKind}
use Rattle.qil_tree.specs.declared.tree.JumpKind.TheVariants as jumps
use Rattle.qil_tree.specs.declared.tree.Block.{Block}
use Rattle.qil_tree.specs.declared.tree.Func.{Func}
use Rattle.qil_tree.specs.declared.tree.Program.{Program}
use Rattle.qil_tree.specs.Types.{class_of}
use Rattle.qil_memory.specs.qil_rules.Operands.{inst_reads, right_class, stored_class}
use Rattle.qil_memory.specs.qil_rules.Occurrences.{returned_class}
use Rattle.qil_memory.specs.qil_layout.declared.callee.Callee.{Callee}
use Rattle.qil_memory.specs.qil_layout.declared.callee.Callee.TheVariants.{Defined}
use Rattle.qil_memory.specs.qil_layout.Callee.{callee_at}
use Rattle.qil_memory.specs.qil_layout.Layout.{width_bytes, rounded}
use Rattle.qil_semantics.specs.State.{Name, Frame, State}
use Rattle.qil_semantics.specs.Values.{Outcome, val, vals, first, second}
use Rattle.qil_semantics.specs.Step.{alignment, block_labelled, PhiMove, phi_moves}
use Rattle.qil_shadow.specs.declared.origin.Origin.{Origin}
use Rattle.qil_shadow.specs.declared.origin.Origin.TheVariants as origins
use Rattle.qil_shadow.specs.declared.origin.ByteOrigin.TheVariants as bytes
use Rattle.qil_shadow.specs.Origins.{in_class, binary_origin, unary_origin, extended_origin}
use Rattle.qil_shadow.specs.Bytes.{ByteOrigins, origins_at, laid_origins, stored_origins, load_bytes, joined}
use Rattle.qil_shadow.specs.Objects.{of_slot, object_named, ends_with}
use Rattle.qil_shadow.specs.Shadow.{Origins, Shadow, none_set, with_origin, with_origins}
use Rattle.qil_shadow.specs.Next.{Next, nothing, inst, jump, next_of}

-- ---- values

-- what an operand is made of where a class is wanted
abbrev pub operand_origin : {A : Type 0} → Program A → Origins → Class → Operand → Origin
operand_origin p t c (operands.Number n) = origins.Number
operand_origin p t c (operands.Global g) = in_class c (origins.Address (object_named p g))
operand_origin p t c (operands.Temp x) = in_class c (t x)

-- both operands are one temporary
abbrev pub is_twice : Operand → Operand → Bool
is_twice (operands.Temp x) (operands.Temp y) = bytes_eq x y
is_twice a b = false

-- what an expression whose result has a class gives, on the values of its operands
abbrev pub expr_origin : {A : Type 0} → Program A → Origins → ByteOrigins → Class → Expr → List ℕ → Origin
expr_origin p t m c (exprs.Unary op a) vs = unary_origin op c (operand_origin p t c a)
expr_origin p t m c (exprs.Binary op a b) vs =
    binary_origin op c (is_twice a b) (operand_origin p t c a) (first vs) (operand_origin p t (right_class op c) b) (second vs)
expr_origin p t m c (exprs.Compare op d a b) vs = origins.Number
expr_origin p t m c (exprs.Extend op a) vs = extended_origin op (operand_origin p t classes.W a)
expr_origin p t m c (exprs.Load op a) vs = joined c (origins_at m (first vs) (load_bytes op))

-- ---- instructions

abbrev pub sets : Shadow → Origins → List Origins → Name → Origin → Shadow
sets sh t ts x m = record sh { frames = with_origin t x m ∷ ts }

-- a new object at an address, all of whose bytes are numbers, as are those that were skipped
abbrev pub grows : Shadow → Origins → List Origins → Frame → Target → ℕ → ℕ → ℕ → Shadow
grows sh t ts f to top at n = record sh {
  frames = with_origin t to.name (origins.Address (record { index = length sh.objects })) ∷ ts;
  bytes = laid_origins sh.bytes top (replicate (at + n - top) bytes.Number);
  objects = sh.objects ++ record { kind = of_slot f.func to.name; address = at; size = n; made = sh.position; depth = length (t ∷ ts); ended = None } ∷ [];
}

-- ---- calls

-- what a parameter gets of the argument next to it
abbrev pub passed : {A : Type 0} → Program A → Origins → List Argument → Func A → List (Name × Origin)
passed p t args func = map (λ q. (q.0.name, operand_origin p t (class_of q.1.abi_type) q.1.value)) (zip func.params args)

abbrev pub enters : {A : Type 0} → Program A → Shadow → Origins → List Origins → List Argument → Option (Func A) → Shadow
enters p sh t ts args (Some func) = record sh { frames = with_origins none_set (passed p t args func) ∷ (t ∷ ts) }
enters p sh t ts args None = sh

-- what takes the result of a function
abbrev pub takes : Origins → Option CallResult → Origin → Origins
takes t (Some to) m = with_origin t to.name m
takes t None m = t

-- what the functions give that every program has is a number
abbrev pub calls : {A : Type 0} → Program A → Shadow → Origins → List Origins → Option CallResult → List Argument → Option Callee → Shadow
calls p sh t ts to args (Some (Defined id)) = enters p sh t ts args (slice_get p.funcs id.index)
calls p sh t ts to args callee = record sh { frames = takes t to origins.Number ∷ ts }

-- what an instruction does, on the values of its operands
abbrev pub acts : {A : Type 0} → Program A → State → Frame → Shadow → Origins → List Origins → InstKind A → List ℕ → Shadow
acts p s f sh t ts (insts.Assign to e) vs = sets sh t ts to.name (expr_origin p t sh.bytes to.class e vs)
acts p s f sh t ts (insts.Alloc to op n) vs = grows sh t ts f to s.top (rounded (alignment op) s.top) (first vs)
acts p s f sh t ts (insts.Store w a b) vs =
    record sh { bytes = laid_origins sh.bytes (second vs) (stored_origins (width_bytes w) (operand_origin p t (stored_class w) a)) }
acts p s f sh t ts (insts.Blit a b n) vs = record sh { bytes = laid_origins sh.bytes (second vs) (origins_at sh.bytes (first vs) n) }
acts p s f sh t ts (insts.Call to callee args) vs = calls p sh t ts to args (callee_at p (first vs))

-- ---- jumps

-- what the phis of a block get: all are read before one is written
abbrev pub move_origin : {A : Type 0} → Program A → Origins → PhiMove → Name × Origin
move_origin p t m = (m.target.name, operand_origin p t m.target.class m.value)

abbrev pub enters_block : {A : Type 0} → Program A → Frame → Shadow → Origins → List Origins → Option (Block A) → Shadow
enters_block p f sh t ts (Some b) = record sh { frames = with_origins t (map (move_origin p t) (flat_map (phi_moves f.label) b.phis)) ∷ ts }
enters_block p f sh t ts None = sh

abbrev pub goes : {A : Type 0} → Program A → Frame → Shadow → Origins → List Origins → Func A → Name → Shadow
goes p f sh t ts func l = enters_block p f sh t ts (block_labelled func.blocks l)

-- the frames that are left, the first of which takes what was returned
abbrev pub taken_by : List Origins → Option CallResult → Origin → List Origins
taken_by [] to m = []
taken_by (t ∷ ts) to m = takes t to m ∷ ts

-- the innermost frame goes away, and its objects end
abbrev pub returns : Frame → Shadow → Origins → List Origins → Origin → Shadow
returns f sh t ts m = record sh {
  frames = taken_by ts f.result m;
  objects = map (ends_with (length (t ∷ ts)) sh.position) sh.objects;
}

-- the label that a value chooses
abbrev pub chosen : Name → Name → Outcome ℕ → Name
chosen l m (Ok v) = if v == 0 then m else l
chosen l m (Err fault) = l

abbrev pub leaves : {A : Type 0} → Program A → Frame → Shadow → Origins → List Origins → Func A → JumpKind → Shadow
leaves p f sh t ts func (jumps.Jmp l) = goes p f sh t ts func l
leaves p f sh t ts func (jumps.Jnz a l m) = goes p f sh t ts func (chosen l m (val p f.temps classes.W a))
leaves p f sh t ts func (jumps.Ret None) = returns f sh t ts origins.Number
leaves p f sh t ts func (jumps.Ret (Some a)) = returns f sh t ts (operand_origin p t (returned_class func.returns) a)
leaves p f sh t ts func jumps.Hlt = sh

-- ---- steps

abbrev pub acts_on : {A : Type 0} → Program A → State → Frame → Shadow → Origins → List Origins → InstKind A → Outcome (List ℕ) → Shadow
acts_on p s f sh t ts kind (Ok vs) = acts p s f sh t ts kind vs
acts_on p s f sh t ts kind (Err fault) = sh

abbrev pub does : {A : Type 0} → Program A → State → Frame → Shadow → Origins → List Origins → Next A → Shadow
does p s f sh t ts nothing = sh
does p s f sh t ts (inst kind) = acts_on p s f sh t ts kind (vals p f.temps (inst_reads kind))
does p s f sh t ts (jump func kind) = leaves p f sh t ts func kind

abbrev pub shadowed_in : {A : Type 0} → Program A → State → Shadow → List Frame → List Origins → Shadow
shadowed_in p s sh (f ∷ fs) (t ∷ ts) = does p s f sh t ts (next_of p f)
shadowed_in p s sh fs ts = sh

abbrev pub one_later : Shadow → Shadow
one_later sh = record sh { position = sh.position + 1 }

-- the shadow after one step of a running state
unfoldable pub shadowed : {A : Type 0} → Program A → State → Shadow → Shadow
shadowed p s sh = one_later (shadowed_in p s sh s.frames sh.frames)
