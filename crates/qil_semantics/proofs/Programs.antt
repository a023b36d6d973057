-- Programs by hand, for worked rows.
use Rattle.std.proofs.Common.{ℕ, zero, suc, Bool, true, List, [], ◌∷◌, Option, Some, None, Result, Ok, Err}
use Rattle.std.specs.Prelude.{codes, map, is_none, ◌&&◌}
use Rattle.qil_tree.specs.declared.ops.Class.TheVariants as classes
use Rattle.qil_tree.specs.declared.ops.AbiType.{AbiType}
use Rattle.qil_tree.specs.declared.tree.Operand.{Operand}
use Rattle.qil_tree.specs.declared.tree.Operand.TheVariants as operands
use Rattle.qil_tree.specs.declared.tree.Target.{Target}
use Rattle.qil_tree.specs.declared.tree.CallResult.{CallResult}
use Rattle.qil_tree.specs.declared.tree.Argument.{Argument}
use Rattle.qil_tree.specs.declared.tree.Param.{Param}
use Rattle.qil_tree.specs.declared.tree.PhiSource.{PhiSource}
use Rattle.qil_tree.specs.declared.tree.Phi.{Phi}
use Rattle.qil_tree.specs.declared.tree.Inst.{Inst}
use Rattle.qil_tree.specs.declared.tree.InstKind.{InstKind}
use Rattle.qil_tree.specs.declared.tree.InstKind.TheVariants as insts
use Rattle.qil_tree.specs.declared.tree.Jump.{Jump}
use Rattle.qil_tree.specs.declared.tree.JumpKind.{JumpKind}
use Rattle.qil_tree.specs.declared.tree.JumpKind.TheVariants as jumps
use Rattle.qil_tree.specs.declared.tree.Block.{Block}
use Rattle.qil_tree.specs.declared.tree.Func.{Func}
use Rattle.qil_tree.specs.declared.tree.Data.{Data}
use Rattle.qil_tree.specs.declared.tree.Field.{Field}
use Rattle.qil_tree.specs.declared.tree.Program.{Program}
use Rattle.qil_semantics.specs.State.{Name, Frame, State, Status}
use Rattle.qil_semantics.specs.declared.start.StartFault.{StartFault}
use Rattle.qil_memory.specs.qil_layout.Layout.{zeros}
use Rattle.qil_memory.specs.Live.{laid, below}
use Rattle.qil_semantics.specs.Temps.{with_temp, by_name, overlay}
use Rattle.qil_semantics.specs.Calls.{text_at}
use Rattle.qil_semantics.specs.Step.{step_of}
use Rattle.qil_semantics.specs.Poke.{PokeFault}
use Rattle.qil_semantics.specs.Start.{start_of}
use Rattle.qil_semantics.specs.Timeline.{Timeline, begun, position, moved, gone}
use Rattle.qil_semantics.specs.Moves.{least}
use Rattle.qil_semantics.specs.Stops.{Watched, Reading, reading, Place, place_of, Numbered, first_watch, first_break, stopped}
use Rattle.qil_semantics.specs.Runs.{within, stop_on, stop_back}
use Rattle.qil_semantics.specs.declared.reason.Reason.{Reason}
use Rattle.qil_semantics.specs.Targets.{after}

abbrev pub A0 : Type 0
A0 = Unit {0}

abbrev pub n : ℕ → Operand
n v = operands.Number v

abbrev pub % : Name → Operand
% x = operands.Temp x

abbrev pub $ : Name → Operand
$ x = operands.Global x

abbrev pub w : Name → Target
w x = record { name = x; class = classes.W }

abbrev pub l : Name → Target
l x = record { name = x; class = classes.L }

abbrev pub inst : InstKind A0 → Inst A0
inst k = record { line = 1; kind = k }

abbrev pub arg : AbiType → Operand → Argument
arg t a = record { abi_type = t; value = a }

abbrev pub call : Option CallResult → Operand → List Argument → Inst A0
call to callee args = inst (insts.Call to callee args)

abbrev pub result : Name → AbiType → Option CallResult
result x t = Some (record { name = x; abi_type = t })

abbrev pub phi : Target → List PhiSource → Phi A0
phi to sources = record { line = 1; target = to; sources = sources }

abbrev pub source : Name → Operand → PhiSource
source b a = record { label = b; value = a }

abbrev pub jump : JumpKind → Jump
jump k = record { line = 1; kind = k }

abbrev pub block : Name → List (Phi A0) → List (Inst A0) → JumpKind → Block A0
block label phis is k = record { label = label; line = 1; phis = phis; insts = is; jump = jump k }

abbrev pub param : AbiType → Name → Param
param t x = record { abi_type = t; name = x }

abbrev pub func : Option AbiType → Name → List Param → List (Block A0) → Func A0
func returns name params blocks = record { returns = returns; name = name; line = 1; params = params; blocks = blocks }

abbrev pub data_ : Name → Option ℕ → List (Field A0) → Data A0
data_ name align fields = record { name = name; line = 1; align = align; fields = fields }

abbrev pub prog : List (Data A0) → List (Func A0) → Program A0
prog datas funcs = record { datas = datas; funcs = funcs; order = [] }

-- ---- looking at a run

abbrev pub of_start : {X : Type 0} → (State → X) → Result State StartFault → Option X
of_start look (Ok s) = Some (look s)
of_start look (Err e) = None

-- a frame, with the values of these temporaries; bytes at these addresses; top, output, status
abbrev pub frame_view : List Name → Frame → Name × Name × ℕ × ℕ × Option CallResult × List (Option ℕ)
frame_view names f = (f.func, f.label, f.index, f.floor, f.result, map f.temps names)

abbrev pub state_view : List Name → List ℕ → State → List (Name × Name × ℕ × ℕ × Option CallResult × List (Option ℕ)) × List (Option ℕ) × ℕ × List ℕ × Status
state_view names places s = (map (frame_view names) s.frames, map s.memory places, s.top, s.output, s.status)

-- the state after so many steps of a run
abbrev pub view : Program A0 → Name → List ℕ → ℕ → List Name → List ℕ → Option (List (Name × Name × ℕ × ℕ × Option CallResult × List (Option ℕ)) × List (Option ℕ) × ℕ × List ℕ × Status)
view p entry args k names places = of_start (λ s. state_view names places (after p s k)) (start_of p entry args)

-- what a watch reads after so many steps each
abbrev pub readings : Program A0 → Watched → List ℕ → Option (List Reading)
readings p w js = of_start (λ s. map (λ j. reading w (after p s j)) js) (start_of p (codes "main") [])

-- what is opened where a run is computed
unfoldable pub runs : ℕ
unfolding step_of with_temp by_name overlay laid below zeros text_at
runs = 0

abbrev pub poked_with : List Name → List ℕ → Result State PokeFault → Result (List (Name × Name × ℕ × ℕ × Option CallResult × List (Option ℕ)) × List (Option ℕ) × ℕ × List ℕ × Status) PokeFault
poked_with names places (Ok s) = Ok (state_view names places s)
poked_with names places (Err why) = Err why

abbrev pub poked_view : Program A0 → Name → List ℕ → ℕ → List Name → List ℕ → (State → Result State PokeFault)
    → Option (Result (List (Name × Name × ℕ × ℕ × Option CallResult × List (Option ℕ)) × List (Option ℕ) × ℕ × List ℕ × Status) PokeFault)
poked_view p entry args k names places poke = of_start (λ s. poked_with names places (poke (after p s k))) (start_of p entry args)

-- ---- straight programs

-- the values of these temporaries of the innermost frame
abbrev pub values_in : List Name → List Frame → List (Option ℕ)
values_in names [] = []
values_in names (f ∷ fs) = map f.temps names

abbrev pub temps_after : Program A0 → ℕ → List Name → Option (List (Option ℕ))
temps_after p k names = of_start (λ s. values_in names (after p s k).frames) (start_of p (codes "main") [])

-- a program of these instructions alone
abbrev pub straight : List (Inst A0) → Program A0
straight is = prog [] (func None (codes "main") [] (block (codes "start") [] is (jumps.Ret None) ∷ []) ∷ [])

abbrev pub status_after : Program A0 → ℕ → Option Status
status_after p k = of_start (λ s. (after p s k).status) (start_of p (codes "main") [])

-- ---- timelines

-- what is looked at of a timeline: the position, the status, and the places of the frames
abbrev pub spot : Timeline → ℕ × Status × List Place
spot t = (position t, t.now.status, map place_of t.now.frames)

abbrev pub spot_of : Option Timeline → Option (ℕ × Status × List Place)
spot_of None = None
spot_of (Some t) = Some (spot t)

-- what is looked at of a session of a program, which keeps so many moves
abbrev pub of_session : {X : Type 0} → Option ℕ → Program A0 → (Timeline → X) → Option X
of_session keeps p look = of_start (λ s. look (begun keeps s)) (start_of p (codes "main") [])

-- none of the first k options is a reason
abbrev pub none_before : ℕ → (ℕ → Option Reason) → Bool
none_before zero stop = true
none_before (suc k) stop = is_none (stop k) && none_before k stop

-- a run with a million as its limit stops after k moves, and not before, for this reason
abbrev pub runs_on : Program A0 → List Numbered → ℕ → Timeline → Bool × Option Reason
runs_on p stops k t = (none_before k (λ j. within 1000000 j (stop_on p stops t j)), within 1000000 k (stop_on p stops t k))

abbrev pub runs_back : List Numbered → ℕ → Timeline → Bool × Option Reason
runs_back stops k t = (none_before k (λ j. within 1000000 j (stop_back stops t j)), within 1000000 k (stop_back stops t k))

-- what is opened where a session is computed
unfoldable pub sessions : ℕ
unfolding runs least moved gone stop_on stop_back stopped first_watch first_break reading
sessions = 0
