-- A call that is added to those that are not over.
use Rattle.std.specs.Prelude.{◌≡◌, ℕ, List, [], ◌∷◌, length, Option}
use Rattle.qil_code.specs.declared.numbered.Receiver.{Receiver}
use Rattle.qil_shadow.specs.declared.origin.Origin.{Origin}
use Rattle.qil_shadow.specs.Stack.{CallShadow, callers_of, returned_of}
use Rattle.qil_shadow.specs.Calls.{LiveCalls}

abbrev pub origins_of : List CallShadow → List Origin
origins_of [] = []
origins_of (c ∷ cs) = c.origins

-- of so many temporaries, with the top from before it, and what of the caller takes what it returns
pub record IsEntered (n : ℕ) (to : Option Receiver) (was now : LiveCalls) : Type 0 where
  pub returned_is : returned_of now.calls ≡ record { floor = was.top; receiver = to }
  pub slots_are : length (origins_of now.calls) ≡ n
  pub callers_are : callers_of now.calls ≡ was.calls
  pub objects_are : now.objects ≡ was.objects
  pub top_is : now.top ≡ was.top
