-- What calls do: their shape, the functions that every program has, and what takes a result.
use Rattle.std.specs.Prelude.{ℕ, zero, suc, ◌+◌, ◌^◌, Bool, true, false, ◌==◌, ◌&&◌, nat_lt, if◌then◌else◌, List, [], ◌∷◌, ◌++◌, length, map, Option, Some, None, option_map, slice_get, Ok, Err}
use Rattle.qil_tree.specs.declared.ops.AbiType.{AbiType}
use Rattle.qil_tree.specs.declared.ops.AbiType.TheVariants as types
use Rattle.qil_tree.specs.declared.tree.CallResult.{CallResult}
use Rattle.qil_tree.specs.declared.tree.Argument.{Argument}
use Rattle.qil_tree.specs.declared.tree.Block.{Block}
use Rattle.qil_tree.specs.declared.tree.Func.{Func}
use Rattle.qil_tree.specs.declared.tree.Program.{Program}
use Rattle.qil_tree.specs.Types.{class_of}
use Rattle.qil_memory.specs.qil_layout.declared.callee.Callee.{Callee}
use Rattle.qil_memory.specs.qil_layout.declared.callee.Callee.TheVariants.{Defined, PutChar, Puts, Exit}
use Rattle.qil_memory.specs.qil_layout.Callee.{callee_at}
use Rattle.qil_ops.specs.Values.{width, low_bits}
use Rattle.qil_memory.specs.Buffers.{stack_end}
use Rattle.qil_memory.specs.Live.{Live}
use Rattle.qil_semantics.specs.State.{Name, Frame, State, dead_address, calls_too_deep, no_function, call_shape, output_full, exited}
use Rattle.qil_semantics.specs.Temps.{with_temp, named}
use Rattle.qil_semantics.specs.Values.{Outcome, ◌>>=◌, fit, fit_all, first}

-- ---- frames

-- the frame one instruction on
abbrev pub next : Frame → Frame
next f = record f { index = f.index + 1 }

abbrev pub first_label : {A : Type 0} → List (Block A) → Name
first_label [] = []
first_label (b ∷ blocks) = b.label

-- a frame at the first block of a function, with these values of its parameters and no other temporary set
abbrev pub begun : {A : Type 0} → Func A → List ℕ → ℕ → Option CallResult → Frame
begun func vs floor to =
    record { func = func.name; label = first_label func.blocks; index = 0; temps = named (map (λ q. q.name) func.params) vs; floor = floor; result = to }

-- a returned value as the type at the call has it, cut to the class of its temporary
abbrev pub taken : AbiType → ℕ → ℕ
taken t v = low_bits (width (class_of t)) (fit t v)

-- the frame after a call gave a value or none: where a result is named, it has that value or is unset
abbrev pub takes : Frame → Option CallResult → Option ℕ → Frame
takes f None value = f
takes f (Some to) value = record f { temps = with_temp f.temps to.name (option_map (taken to.abi_type) value) }

-- ---- the shape of a call

-- what a function takes, and what it gives if it gives a value
pub record Shape : Type 0 where
  pub params : List AbiType
  pub returns : Option AbiType

abbrev pub shape_of : {A : Type 0} → Func A → Shape
shape_of func = record { params = map (λ q. q.abi_type) func.params; returns = func.returns }

-- types agree where their classes do
abbrev pub agree : AbiType → AbiType → Bool
agree t u = width (class_of t) == width (class_of u)

-- as many on both sides, each agreeing with the one next to it
abbrev pub agree_all : List AbiType → List AbiType → Bool
agree_all [] [] = true
agree_all (t ∷ ts) (u ∷ us) = agree t u && agree_all ts us
agree_all ts us = false

-- a result that is named is given, with a type that agrees
abbrev pub gives : Option CallResult → Option AbiType → Bool
gives None returns = true
gives (Some to) None = false
gives (Some to) (Some t) = agree to.abi_type t

-- as many arguments as parameters, each of which agrees, and what is named for the result is given
abbrev pub is_in_shape : Shape → Option CallResult → List Argument → Bool
is_in_shape shape to args = agree_all (map (λ a. a.abi_type) args) shape.params && gives to shape.returns

-- the values of the arguments as the function takes them: as they are written, then as its parameters have them
abbrev pub in_shape : Shape → Option CallResult → List Argument → List ℕ → Outcome (List ℕ)
in_shape shape to args vs =
    if is_in_shape shape to args then Ok (fit_all shape.params (fit_all (map (λ a. a.abi_type) args) vs)) else Err call_shape

-- ---- functions of the program

abbrev pub depth_limit : ℕ
depth_limit = 1000

-- a frame is added; the caller is one instruction on
abbrev pub enters : {A : Type 0} → State → Frame → List Frame → Option CallResult → Func A → List ℕ → Outcome State
enters s f fs to func vs =
    if nat_lt (length (f ∷ fs)) depth_limit
    then Ok (record s { frames = begun func vs s.top to ∷ (next f ∷ fs) })
    else Err calls_too_deep

abbrev pub call_defined : {A : Type 0} → State → Frame → List Frame → Option CallResult → List Argument → List ℕ → Option (Func A) → Outcome State
call_defined s f fs to args vs (Some func) = in_shape (shape_of func) to args vs >>= λ ws. enters s f fs to func ws
call_defined s f fs to args vs None = Ok s

-- ---- functions that every program has

abbrev pub output_limit : ℕ
output_limit = 2 ^ 20

-- bytes are written, and a value is given
abbrev pub writes : State → Frame → List Frame → Option CallResult → List ℕ → ℕ → Outcome State
writes s f fs to bytes v =
    if nat_lt output_limit (length (s.output ++ bytes))
    then Err output_full
    else Ok (record s { frames = takes (next f) to (Some v) ∷ fs; output = s.output ++ bytes })

-- The bytes from an address up to a zero byte, where this lies at the address; n further addresses are looked at. The
-- first that isn't live is the fault.
abbrev pub text_from : ℕ → Live → ℕ → Option ℕ → Outcome (List ℕ)
text_from n m a None = Err (dead_address a)
text_from n m a (Some zero) = Ok []
text_from zero m a (Some (suc b)) = Err (dead_address (a + 1))
text_from (suc n) m a (Some (suc b)) = text_from n m (a + 1) (m (a + 1)) >>= λ bs. Ok (suc b ∷ bs)

-- no address beyond the stack is live, so it needn't be looked at
unfoldable pub text_at : Live → ℕ → Outcome (List ℕ)
text_at m a = text_from stack_end m a (m a)

abbrev pub shape_of_putchar : Shape
shape_of_putchar = record { params = types.W ∷ []; returns = Some types.W }

abbrev pub putchar : State → Frame → List Frame → Option CallResult → ℕ → Outcome State
putchar s f fs to v = writes s f fs to (low_bits 8 v ∷ []) (low_bits 8 v)

abbrev pub shape_of_puts : Shape
shape_of_puts = record { params = types.L ∷ []; returns = Some types.W }

abbrev pub puts : State → Frame → List Frame → Option CallResult → ℕ → Outcome State
puts s f fs to a = text_at s.memory a >>= λ bytes. writes s f fs to (bytes ++ (10 ∷ [])) 0

abbrev pub shape_of_exit : Shape
shape_of_exit = record { params = types.W ∷ []; returns = None }

-- ---- calls

-- what a call of what lies at an address does, on the values of its arguments
abbrev pub call_at : {A : Type 0} → Program A → State → Frame → List Frame → Option CallResult → List Argument → ℕ → List ℕ → Option Callee → Outcome State
call_at p s f fs to args a vs None = Err (no_function a)
call_at p s f fs to args a vs (Some (Defined id)) = call_defined s f fs to args vs (slice_get p.funcs id.index)
call_at p s f fs to args a vs (Some PutChar) = in_shape shape_of_putchar to args vs >>= λ ws. putchar s f fs to (first ws)
call_at p s f fs to args a vs (Some Puts) = in_shape shape_of_puts to args vs >>= λ ws. puts s f fs to (first ws)
call_at p s f fs to args a vs (Some Exit) = in_shape shape_of_exit to args vs >>= λ ws. Ok (record s { status = exited (first ws) })

abbrev pub call : {A : Type 0} → Program A → State → Frame → List Frame → Option CallResult → List Argument → ℕ → List ℕ → Outcome State
call p s f fs to args a vs = call_at p s f fs to args a vs (callee_at p a)
