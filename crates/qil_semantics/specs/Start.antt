-- How a run starts.
use Rattle.std.specs.Prelude.{ℕ, ◌==◌, if◌then◌else◌, List, [], ◌∷◌, length, map, Option, Some, None, Result, Ok, Err}
use Rattle.qil_tree.specs.declared.tree.Func.{Func}
use Rattle.qil_tree.specs.declared.tree.Program.{Program}
use Rattle.qil_memory.specs.qil_layout.Layout.{data_base, bytes_of}
use Rattle.qil_memory.specs.Buffers.{stack_base}
use Rattle.qil_memory.specs.Live.{Live, laid}
use Rattle.qil_semantics.specs.State.{Name, running, State}
use Rattle.qil_semantics.specs.declared.start.StartFault.{StartFault}
use Rattle.qil_semantics.specs.declared.start.StartFault.TheVariants.{NoEntry, ArgumentCount}
use Rattle.qil_semantics.specs.Values.{fit_all}
use Rattle.qil_semantics.specs.Calls.{begun}
use Rattle.qil_semantics.specs.Step.{func_named}

abbrev pub none_live : Live
none_live a = None

-- one frame of the function, its parameters set from the arguments; the bytes of the data, and an empty stack
abbrev pub started : {A : Type 0} → Program A → Func A → List ℕ → State
started p func args = record {
  frames = begun func (fit_all (map (λ q. q.abi_type) func.params) args) stack_base None ∷ [];
  memory = laid none_live data_base (bytes_of p);
  top = stack_base;
  output = [];
  status = running;
}

abbrev pub started_with : {A : Type 0} → Program A → Option (Func A) → List ℕ → Result State StartFault
started_with p None args = Err NoEntry
started_with p (Some func) args = if length args == length func.params then Ok (started p func args) else Err ArgumentCount

-- the first state of a run of a function of the program
abbrev pub start_of : {A : Type 0} → Program A → Name → List ℕ → Result State StartFault
start_of p entry args = started_with p (func_named p.funcs entry) args
