-- In which order the faults of a call are reported, and where the output is full.
use Rattle.std.proofs.Common.{◌≡◌, refl, ℕ, ◌<◌, ◌≤◌, true, false, List, ◌∷◌, ◌++◌, length, ◌&&◌, map, Option, Some, None, Ok, Err}
use Rattle.std.proofs.lemmas.Bool.{lt-ltb, le-ltb}
use Rattle.qil_tree.specs.declared.tree.CallResult.{CallResult}
use Rattle.qil_tree.specs.declared.tree.Argument.{Argument}
use Rattle.qil_tree.specs.declared.tree.Func.{Func}
use Rattle.qil_tree.specs.declared.tree.Program.{Program}
use Rattle.qil_memory.specs.qil_layout.Callee.{callee_at}
use Rattle.qil_semantics.specs.State.{Frame, State, no_function, call_shape, calls_too_deep, output_full}
use Rattle.qil_semantics.specs.Calls.{agree_all, gives, call, call_defined, depth_limit, next, takes, output_limit, writes}

-- that there is no function comes first, whatever the shape
pub no_function_first : {A : Type 0} (p : Program A) (s : State) (f : Frame) (fs : List Frame) (to : Option CallResult) (args : List Argument) (a : ℕ) (vs : List ℕ)
    → callee_at p a ≡ None → call p s f fs to args a vs ≡ Err (no_function a)
no_function_first p s f fs to args a vs h = rw h refl

-- then the shape, whatever the depth
pub shape_before_depth : {A : Type 0} (s : State) (f : Frame) (fs : List Frame) (to : Option CallResult) (args : List Argument) (vs : List ℕ) (func : Func A)
    → (agree_all (map (λ a. a.abi_type) args) (map (λ q. q.abi_type) func.params) && gives to func.returns) ≡ false
    → call_defined s f fs to args vs (Some func) ≡ Err call_shape
shape_before_depth s f fs to args vs func h = rw h refl

-- and then the depth
pub depth_last : {A : Type 0} (s : State) (f : Frame) (fs : List Frame) (to : Option CallResult) (args : List Argument) (vs : List ℕ) (func : Func A)
    → (agree_all (map (λ a. a.abi_type) args) (map (λ q. q.abi_type) func.params) && gives to func.returns) ≡ true
    → depth_limit ≤ length (f ∷ fs)
    → call_defined s f fs to args vs (Some func) ≡ Err calls_too_deep
depth_last s f fs to args vs func h d = rw h (rw (le-ltb (length (f ∷ fs)) depth_limit d) refl)

-- ---- the limit of the output

pub writes_full : (s : State) (f : Frame) (fs : List Frame) (to : Option CallResult) (bytes : List ℕ) (v : ℕ)
    → output_limit < length (s.output ++ bytes) → writes s f fs to bytes v ≡ Err output_full
writes_full s f fs to bytes v h = rw (lt-ltb output_limit (length (s.output ++ bytes)) h) refl

pub writes_within : (s : State) (f : Frame) (fs : List Frame) (to : Option CallResult) (bytes : List ℕ) (v : ℕ)
    → length (s.output ++ bytes) ≤ output_limit → writes s f fs to bytes v ≡ Ok (record s { frames = takes (next f) to (Some v) ∷ fs; output = s.output ++ bytes })
writes_within s f fs to bytes v h = rw (le-ltb output_limit (length (s.output ++ bytes)) h) refl
