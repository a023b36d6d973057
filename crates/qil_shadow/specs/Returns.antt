-- The call that a return ends, by names.
use Rattle.std.specs.Prelude.{◌≡◌, ℕ, List, [], ◌∷◌, ⊤, Option, Some, None, option_map}
use Rattle.qil_tree.specs.declared.tree.CallResult.{CallResult}
use Rattle.qil_tree.specs.declared.tree.Program.{Program}
use Rattle.qil_memory.specs.qil_rules.Text.{IsAmong}
use Rattle.qil_semantics.specs.State.{Name, Frame}
use Rattle.qil_code.specs.declared.numbered.Receiver.{Receiver}
use Rattle.qil_code.specs.Numbered.{names_of, receiver_of}
use Rattle.qil_shadow.specs.Stack.{CallShadow}

-- what takes the result of a call is a temporary of the caller
abbrev pub IsTaker : List Name → Option CallResult → Type 0
IsTaker ns None = ⊤
IsTaker ns (Some to) = IsAmong to.name ns

abbrev pub receiver_in : List CallShadow → Option Receiver
receiver_in [] = None
receiver_in (c ∷ cs) = c.receiver

-- the innermost of some calls is that of a frame, whose result the function of a number takes
pub record IsCalled {A : Type 0} (p : Program A) (j : ℕ) (f : Frame) (cs : List CallShadow) : Type 0 where
  pub receiver : receiver_in cs ≡ option_map (receiver_of (names_of p j)) f.result
  pub taker : IsTaker (names_of p j) f.result
