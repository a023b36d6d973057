-- One step of a program: the instruction or the jump at the place of the innermost frame.
use Rattle.std.specs.Prelude.{ℕ, ◌+◌, ◌-◌, ◌==◌, nat_lt, if◌then◌else◌, List, [], ◌∷◌, map, filter, find, flat_map, Option, Some, None, unwrap_or, slice_get, Result, Ok, Err}
use Rattle.std.specs.Str.{bytes_eq}
use Rattle.qil_tree.specs.declared.ops.Class.TheVariants as classes
use Rattle.qil_tree.specs.declared.ops.AbiType.TheVariants as types
use Rattle.qil_tree.specs.declared.ops.AllocOp.{AllocOp}
use Rattle.qil_tree.specs.declared.ops.AllocOp.TheVariants as allocs
use Rattle.qil_tree.specs.declared.tree.Target.{Target}
use Rattle.qil_tree.specs.declared.tree.Operand.{Operand}
use Rattle.qil_tree.specs.declared.tree.CallResult.{CallResult}
use Rattle.qil_tree.specs.declared.tree.Inst.{Inst}
use Rattle.qil_tree.specs.declared.tree.InstKind.{InstKind}
use Rattle.qil_tree.specs.declared.tree.InstKind.TheVariants as insts
use Rattle.qil_tree.specs.declared.tree.Phi.{Phi}
use Rattle.qil_tree.specs.declared.tree.Jump.{Jump}
use Rattle.qil_tree.specs.declared.tree.JumpKind.{JumpKind}
use Rattle.qil_tree.specs.declared.tree.JumpKind.TheVariants as jumps
use Rattle.qil_tree.specs.declared.tree.Block.{Block}
use Rattle.qil_tree.specs.declared.tree.Func.{Func}
use Rattle.qil_tree.specs.declared.tree.Program.{Program}
use Rattle.qil_memory.specs.qil_rules.Operands.{Read, as_class, inst_reads}
use Rattle.qil_memory.specs.qil_rules.Occurrences.{returned_class}
use Rattle.qil_memory.specs.qil_layout.Layout.{width_bytes, rounded, zeros}
use Rattle.qil_ops.specs.Values.{width, low_bits}
use Rattle.qil_memory.specs.declared.fault.BlitFault.{BlitFault}
use Rattle.qil_memory.specs.declared.fault.BlitFault.TheVariants.{Source, Target as Onto}
use Rattle.qil_memory.specs.Buffers.{stack_end}
use Rattle.qil_memory.specs.Live.{Live, laid, below}
use Rattle.qil_memory.specs.Calls.{stored, blitted}
use Rattle.qil_semantics.specs.State.{Name, Frame, dead_address, overlapping_blit, stack_full, halted, Status, running, done, faulted, State}
use Rattle.qil_semantics.specs.Temps.{with_temp, named, overlay}
use Rattle.qil_semantics.specs.Values.{Outcome, ◌>>=◌, if_live, fit, val, vals, first, rest, second, result_of}
use Rattle.qil_semantics.specs.Calls.{next, takes, call}

-- ---- places

abbrev pub func_named : {A : Type 0} → List (Func A) → Name → Option (Func A)
func_named funcs x = find (λ f. bytes_eq f.name x) funcs

abbrev pub block_labelled : {A : Type 0} → List (Block A) → Name → Option (Block A)
block_labelled blocks x = find (λ b. bytes_eq b.label x) blocks

-- ---- instructions

-- the frame with a value for a temporary, cut to its class
abbrev pub sets : Frame → Target → ℕ → Frame
sets f to v = record f { temps = with_temp f.temps to.name (Some (low_bits (width to.class) v)) }

abbrev pub alignment : AllocOp → ℕ
alignment allocs.Four = 4
alignment allocs.Eight = 8
alignment allocs.Sixteen = 16

-- new bytes of the stack from an address on, which is its top rounded up; all from the old top on are zero
abbrev pub grows : State → Frame → List Frame → Target → ℕ → ℕ → Outcome State
grows s f fs to at n =
    if nat_lt stack_end (at + n)
    then Err stack_full
    else Ok (record s { frames = sets (next f) to at ∷ fs; memory = laid s.memory s.top (zeros (at + n - s.top)); top = at + n })

-- a blit has three faults
abbrev pub copied : Result Live BlitFault → Outcome Live
copied (Ok m) = Ok m
copied (Err (Source a)) = Err (dead_address a)
copied (Err (Onto a)) = Err (dead_address a)
copied (Err _) = Err overlapping_blit

abbrev pub remembers : State → Frame → List Frame → Live → Outcome State
remembers s f fs m = Ok (record s { frames = next f ∷ fs; memory = m })

-- what an instruction does on the values of its operands
abbrev pub act : {A : Type 0} → Program A → State → Frame → List Frame → InstKind A → List ℕ → Outcome State
act p s f fs (insts.Assign to e) vs = result_of s.memory to.class e vs >>= λ v. Ok (record s { frames = sets (next f) to v ∷ fs })
act p s f fs (insts.Alloc to op n) vs = grows s f fs to (rounded (alignment op) s.top) (first vs)
act p s f fs (insts.Store w a b) vs = if_live (stored s.memory (second vs) (width_bytes w) (first vs)) >>= remembers s f fs
act p s f fs (insts.Blit a b n) vs = copied (blitted s.memory (first vs) (second vs) n) >>= remembers s f fs
act p s f fs (insts.Call to callee args) vs = call p s f fs to args (first vs) (rest vs)

-- ---- jumps

-- what a phi gives its target: the value for the block that is left
pub record PhiMove : Type 0 where
  pub target : Target
  pub value : Operand

abbrev pub phi_moves : {A : Type 0} → Name → Phi A → List PhiMove
phi_moves left phi = map (λ q. record { target = phi.target; value = q.value }) (filter (λ q. bytes_eq q.label left) phi.sources)

abbrev pub move_read : PhiMove → Read
move_read m = as_class m.target.class m.value

-- all phis read in the old state, then all write
abbrev pub merges : {A : Type 0} → Program A → Frame → List PhiMove → Outcome Frame
merges p f moves = vals p f.temps (map move_read moves) >>= λ vs. Ok (record f { temps = overlay (named (map (λ m. m.target.name) moves) vs) f.temps })

abbrev pub enters_block : {A : Type 0} → Program A → State → Frame → List Frame → Option (Block A) → Outcome State
enters_block p s f fs (Some b) = merges p f (flat_map (phi_moves f.label) b.phis) >>= λ g. Ok (record s { frames = record g { label = b.label; index = 0 } ∷ fs })
enters_block p s f fs None = Ok s

abbrev pub goes : {A : Type 0} → Program A → State → Frame → List Frame → Func A → Name → Outcome State
goes p s f fs func l = enters_block p s f fs (block_labelled func.blocks l)

-- the frames that are left, the first of which takes what was returned
abbrev pub taken_by : List Frame → Option CallResult → Option ℕ → List Frame
taken_by [] to value = []
taken_by (g ∷ fs) to value = takes g to value ∷ fs

abbrev pub ended : List Frame → Option ℕ → Status
ended [] value = done value
ended (g ∷ fs) value = running

-- the innermost frame goes away, and with it what lies above its floor
abbrev pub returns : State → Frame → List Frame → Option ℕ → Outcome State
returns s f fs value =
    Ok (record s { frames = taken_by fs f.result value; memory = below s.memory f.floor; top = f.floor; status = ended fs value })

-- what a jump does; a returned value is one of the return type
abbrev pub leave : {A : Type 0} → Program A → State → Frame → List Frame → Func A → JumpKind → Outcome State
leave p s f fs func (jumps.Jmp l) = goes p s f fs func l
leave p s f fs func (jumps.Jnz a l m) = val p f.temps classes.W a >>= λ v. goes p s f fs func (if v == 0 then m else l)
leave p s f fs func (jumps.Ret None) = returns s f fs None
leave p s f fs func (jumps.Ret (Some a)) =
    val p f.temps (returned_class func.returns) a >>= λ v. returns s f fs (Some (fit (unwrap_or func.returns types.W) v))
leave p s f fs func jumps.Hlt = Err halted

-- ---- steps

-- the instruction at the place, on its operands, read from the left; or the jump after the last
abbrev pub does : {A : Type 0} → Program A → State → Frame → List Frame → Func A → Option (Inst A) → Jump → Outcome State
does p s f fs func (Some inst) jump = vals p f.temps (inst_reads inst.kind) >>= act p s f fs inst.kind
does p s f fs func None jump = leave p s f fs func jump.kind

abbrev pub in_block : {A : Type 0} → Program A → State → Frame → List Frame → Func A → Option (Block A) → Outcome State
in_block p s f fs func (Some b) = does p s f fs func (slice_get b.insts f.index) b.jump
in_block p s f fs func None = Ok s

abbrev pub in_func : {A : Type 0} → Program A → State → Frame → List Frame → Option (Func A) → Outcome State
in_func p s f fs (Some func) = in_block p s f fs func (block_labelled func.blocks f.label)
in_func p s f fs None = Ok s

-- a step that faults changes the status and nothing else
abbrev pub settled : State → Outcome State → State
settled s (Ok t) = t
settled s (Err fault) = record s { status = faulted fault }

abbrev pub step_in : {A : Type 0} → Program A → State → List Frame → State
step_in p s [] = s
step_in p s (f ∷ fs) = settled s (in_func p s f fs (func_named p.funcs f.func))

-- the state after one step of a running state
unfoldable pub step_of : {A : Type 0} → Program A → State → State
step_of p s = step_in p s s.frames
