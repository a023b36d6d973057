-- Values of operands, of expressions, and as a type has them.
use Rattle.std.specs.Prelude.{ℕ, Bool, if◌then◌else◌, List, [], ◌∷◌, zip, map, Option, Some, None, unwrap_or, Result, Ok, Err}
use Rattle.qil_tree.specs.declared.ops.Class.{Class}
use Rattle.qil_tree.specs.declared.ops.AbiType.{AbiType}
use Rattle.qil_tree.specs.declared.ops.AbiType.TheVariants as types
use Rattle.qil_tree.specs.declared.ops.Extension.TheVariants as extensions
use Rattle.qil_tree.specs.declared.ops.LoadOp.{LoadOp}
use Rattle.qil_tree.specs.declared.ops.LoadOp.TheVariants as loads
use Rattle.qil_tree.specs.declared.tree.Operand.{Operand}
use Rattle.qil_tree.specs.declared.tree.Operand.TheVariants as operands
use Rattle.qil_tree.specs.declared.tree.Expr.{Expr}
use Rattle.qil_tree.specs.declared.tree.Expr.TheVariants as exprs
use Rattle.qil_tree.specs.declared.tree.Program.{Program}
use Rattle.qil_memory.specs.qil_rules.Operands.{Read}
use Rattle.qil_memory.specs.qil_layout.Layout.{address_of}
use Rattle.qil_ops.specs.declared.division.DivFault.{DivFault}
use Rattle.qil_ops.specs.Values.{width, low_bits}
use Rattle.qil_ops.specs.Operations.{unary_of, binary_of, holds, extended}
use Rattle.qil_memory.specs.declared.fault.Dead.{Dead}
use Rattle.qil_memory.specs.Live.{Live}
use Rattle.qil_memory.specs.Calls.{loaded}
use Rattle.qil_semantics.specs.State.{Name, Temps, Fault, division, dead_address, unset_temporary}

-- ---- what comes of something, or the fault that it has

abbrev pub Outcome : Type 0 → Type 0
Outcome X = Result X Fault

-- what comes of it next, if there was no fault
infixl 10 ◌>>=◌
abbrev pub ◌>>=◌ : {X Y : Type 0} → Outcome X → (X → Outcome Y) → Outcome Y
(Ok x) >>= f = f x
(Err fault) >>= f = Err fault

abbrev pub divided : Result ℕ DivFault → Outcome ℕ
divided (Ok v) = Ok v
divided (Err why) = Err (division why)

abbrev pub if_live : {X : Type 0} → Result X Dead → Outcome X
if_live (Ok x) = Ok x
if_live (Err dead) = Err (dead_address dead.address)

-- ---- values as a type has them

-- a part of a word is the low bits, extended to the word
abbrev pub fit : AbiType → ℕ → ℕ
fit types.W v = low_bits 32 v
fit types.L v = low_bits 64 v
fit types.Sb v = low_bits 32 (extended extensions.Sb v)
fit types.Ub v = low_bits 32 (extended extensions.Ub v)
fit types.Sh v = low_bits 32 (extended extensions.Sh v)
fit types.Uh v = low_bits 32 (extended extensions.Uh v)

-- each value as the type next to it has it
abbrev pub fit_all : List AbiType → List ℕ → List ℕ
fit_all ts vs = map (λ one. fit one.0 one.1) (zip ts vs)

-- ---- operands

abbrev pub known : Class → Name → Option ℕ → Outcome ℕ
known c x (Some v) = Ok (low_bits (width c) v)
known c x None = Err (unset_temporary x)

-- an operand in a class: the low bits of the constant, of the global's address, or of the temporary's value
abbrev pub val : {A : Type 0} → Program A → Temps → Class → Operand → Outcome ℕ
val p temps c (operands.Number n) = Ok (low_bits (width c) n)
val p temps c (operands.Global g) = Ok (low_bits (width c) (unwrap_or (address_of p g) 0))
val p temps c (operands.Temp x) = known c x (temps x)

-- operands, read from the left
abbrev pub vals : {A : Type 0} → Program A → Temps → List Read → Outcome (List ℕ)
vals p temps [] = Ok []
vals p temps (r ∷ rs) = val p temps r.class r.operand >>= λ v. vals p temps rs >>= λ vs. Ok (v ∷ vs)

-- of the values that were read, the first, those after it, and the second
abbrev pub first : List ℕ → ℕ
first [] = 0
first (v ∷ vs) = v

abbrev pub rest : List ℕ → List ℕ
rest [] = []
rest (v ∷ vs) = vs

abbrev pub second : List ℕ → ℕ
second vs = first (rest vs)

-- ---- expressions

-- what lies at an address, as the load has it
abbrev pub load_of : Live → LoadOp → ℕ → Outcome ℕ
load_of m loads.L at = if_live (loaded m at 8)
load_of m loads.Sw at = if_live (loaded m at 4) >>= λ v. Ok (extended extensions.Sw v)
load_of m loads.Uw at = if_live (loaded m at 4) >>= λ v. Ok (extended extensions.Uw v)
load_of m loads.Sh at = if_live (loaded m at 2) >>= λ v. Ok (extended extensions.Sh v)
load_of m loads.Uh at = if_live (loaded m at 2) >>= λ v. Ok (extended extensions.Uh v)
load_of m loads.Sb at = if_live (loaded m at 1) >>= λ v. Ok (extended extensions.Sb v)
load_of m loads.Ub at = if_live (loaded m at 1) >>= λ v. Ok (extended extensions.Ub v)

abbrev pub truth : Bool → ℕ
truth b = if b then 1 else 0

-- what an expression whose result has a class gives on the values of its operands
abbrev pub result_of : Live → Class → Expr → List ℕ → Outcome ℕ
result_of m c (exprs.Unary op a) vs = Ok (unary_of op c (first vs))
result_of m c (exprs.Binary op a b) vs = divided (binary_of op c (first vs) (second vs))
result_of m c (exprs.Compare op d a b) vs = Ok (truth (holds op d (first vs) (second vs)))
result_of m c (exprs.Extend op a) vs = Ok (extended op (first vs))
result_of m c (exprs.Load op a) vs = load_of m op (first vs)
