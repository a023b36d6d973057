-- The accesses that a step is about to make, by the addresses that it reads.
use Rattle.std.specs.Prelude.{ℕ, ◌+◌, Bool, nat_le, ◌&&◌, ◌||◌, ◌==◌, if◌then◌else◌, List, [], ◌∷◌, length, Ok, Err}
use Rattle.qil_tree.specs.declared.ops.Class.TheVariants as classes
use Rattle.qil_tree.specs.declared.tree.Expr.{Expr}
use Rattle.qil_tree.specs.declared.tree.Expr.TheVariants as exprs
use Rattle.qil_tree.specs.declared.tree.InstKind.{InstKind}
use Rattle.qil_tree.specs.declared.tree.InstKind.TheVariants as insts
use Rattle.qil_tree.specs.declared.tree.Program.{Program}
use Rattle.qil_memory.specs.qil_rules.Operands.{inst_reads}
use Rattle.qil_memory.specs.qil_layout.Layout.{data_base, bytes_of, width_bytes}
use Rattle.qil_memory.specs.Buffers.{stack_base}
use Rattle.qil_semantics.specs.State.{Frame, State}
use Rattle.qil_semantics.specs.Values.{Outcome, vals, first, second}
use Rattle.qil_shadow.specs.declared.origin.Origin.{Origin}
use Rattle.qil_shadow.specs.declared.access.Action.{Action}
use Rattle.qil_shadow.specs.declared.access.Action.TheVariants as actions
use Rattle.qil_shadow.specs.Bytes.{load_bytes}
use Rattle.qil_shadow.specs.Shadow.{Origins, Shadow}
use Rattle.qil_shadow.specs.Next.{Next, nothing, inst, jump, next_of}
use Rattle.qil_shadow.specs.Shadowed.{operand_origin}

-- n bytes from an address on are live: all in the data, or all on the stack below its top
abbrev pub are_live : {A : Type 0} → Program A → State → ℕ → ℕ → Bool
are_live p s a n =
    (nat_le data_base a && nat_le (a + n) (data_base + length (bytes_of p))) || (nat_le stack_base a && nat_le (a + n) s.top)

-- what is done to how many bytes from an address on, and what the address is made of
pub record Access : Type 0 where
  pub action : Action
  pub origin : Origin
  pub address : ℕ
  pub count : ℕ

abbrev pub access : Action → Origin → ℕ → ℕ → Access
access what m a n = record { action = what; origin = m; address = a; count = n }

abbrev pub expr_accesses : {A : Type 0} → Program A → Origins → Expr → List ℕ → List Access
expr_accesses p t (exprs.Load op a) vs = access (actions.Load op) (operand_origin p t classes.L a) (first vs) (load_bytes op) ∷ []
expr_accesses p t e vs = []

-- the source comes before the target; where it isn't live the copy ends the run
abbrev pub blit_accesses : Origin → Origin → ℕ → ℕ → ℕ → Bool → List Access
blit_accesses m q a b n is_live =
    if n == 0 then [] else (access actions.CopyFrom m a n ∷ (if is_live then access actions.CopyTo q b n ∷ [] else []))

abbrev pub inst_accesses : {A : Type 0} → Program A → State → Origins → InstKind A → List ℕ → List Access
inst_accesses p s t (insts.Assign to e) vs = expr_accesses p t e vs
inst_accesses p s t (insts.Alloc to op n) vs = []
inst_accesses p s t (insts.Store w a b) vs = access (actions.Store w) (operand_origin p t classes.L b) (second vs) (width_bytes w) ∷ []
inst_accesses p s t (insts.Blit a b n) vs =
    blit_accesses (operand_origin p t classes.L a) (operand_origin p t classes.L b) (first vs) (second vs) n (are_live p s (first vs) n)
inst_accesses p s t (insts.Call to callee args) vs = []

-- where an operand is unset the step makes none
abbrev pub accesses_on : {A : Type 0} → Program A → State → Origins → InstKind A → Outcome (List ℕ) → List Access
accesses_on p s t kind (Ok vs) = inst_accesses p s t kind vs
accesses_on p s t kind (Err fault) = []

abbrev pub accesses_by : {A : Type 0} → Program A → State → Frame → Origins → Next A → List Access
accesses_by p s f t nothing = []
accesses_by p s f t (inst kind) = accesses_on p s t kind (vals p f.temps (inst_reads kind))
accesses_by p s f t (jump func kind) = []

abbrev pub accesses_in : {A : Type 0} → Program A → State → List Frame → List Origins → List Access
accesses_in p s (f ∷ fs) (t ∷ ts) = accesses_by p s f t (next_of p f)
accesses_in p s fs ts = []

-- the accesses of the next step of a running state
unfoldable pub accesses_of : {A : Type 0} → Program A → State → Shadow → List Access
accesses_of p s sh = accesses_in p s s.frames sh.frames
