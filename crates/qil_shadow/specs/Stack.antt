-- What the temporaries of calls are made of, by slots. Lists have the innermost call first.
use Rattle.std.specs.Prelude.{ℕ, List, [], ◌∷◌, get_or, slice_set, Option, None}
use Rattle.qil_code.specs.declared.numbered.Slot.{Slot}
use Rattle.qil_code.specs.declared.numbered.Receiver.{Receiver}
use Rattle.qil_shadow.specs.declared.origin.Origin.{Origin}
use Rattle.qil_shadow.specs.declared.origin.Origin.TheVariants as origins
use Rattle.qil_shadow.specs.declared.stack.Returned.{Returned}

-- of each slot what it is made of; the top of the stack from before the call; what of the caller takes what it returns
pub record CallShadow : Type 0 where
  pub origins : List Origin
  pub floor : ℕ
  pub receiver : Option Receiver

abbrev pub held_origin : List CallShadow → Slot → Origin
held_origin [] s = origins.Number
held_origin (c ∷ cs) s = get_or c.origins s.index origins.Number

abbrev pub with_held : Slot → Origin → List CallShadow → List CallShadow
with_held s m [] = []
with_held s m (c ∷ cs) = record c { origins = slice_set c.origins s.index m } ∷ cs

abbrev pub callers_of : List CallShadow → List CallShadow
callers_of [] = []
callers_of (c ∷ cs) = cs

abbrev pub returned_of : List CallShadow → Returned
returned_of [] = record { floor = 0; receiver = None }
returned_of (c ∷ cs) = record { floor = c.floor; receiver = c.receiver }
