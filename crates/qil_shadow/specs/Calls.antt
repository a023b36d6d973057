-- The calls that are not over, and all objects. Those of the stack lie above one another, and end with their calls.
use Rattle.std.specs.Prelude.{◌≡◌, ℕ, ◌+◌, ◌≤◌, true, List, [], ◌∷◌, length, map, replicate, ⊤, Option, Some, None}
use Rattle.std.specs.List.{AllByRecursion}
use Rattle.qil_code.specs.declared.numbered.Slot.{Slot}
use Rattle.qil_code.specs.declared.numbered.Receiver.{Receiver}
use Rattle.qil_shadow.specs.declared.origin.Origin.{Origin}
use Rattle.qil_shadow.specs.declared.origin.Origin.TheVariants as origins
use Rattle.qil_shadow.specs.declared.object.Object.{Object}
use Rattle.qil_shadow.specs.Stack.{CallShadow, with_held}
use Rattle.qil_shadow.specs.Table.{ObjectTable, is_living, ends_with, with_object, IsWithin}

-- the innermost first; the top of the stack
pub record LiveCalls : Type 0 where
  pub calls : List CallShadow
  pub objects : ObjectTable
  pub top : ℕ

-- ---- what is done to them

-- a temporary of the innermost call is set
abbrev pub with_set : LiveCalls → Slot → Origin → LiveCalls
with_set l s m = record l { calls = with_held s m l.calls }

-- one call more, of so many temporaries
abbrev pub with_call : LiveCalls → ℕ → Option Receiver → LiveCalls
with_call l n receiver = record l { calls = record { origins = replicate n origins.Number; floor = l.top; receiver = receiver } ∷ l.calls }

-- an object of the stack is made, and a temporary gets its address
abbrev pub with_made : LiveCalls → Slot → Object → LiveCalls
with_made l s o = record {
  calls = with_held s (origins.Address (record { index = length l.objects.objects })) l.calls;
  objects = with_object l.objects o;
  top = o.address + o.size;
}

abbrev pub ended : ℕ → ℕ → ObjectTable → ObjectTable
ended depth position t = record t { objects = map (ends_with depth position) t.objects }

abbrev pub taken : Option Receiver → Origin → List CallShadow → List CallShadow
taken (Some to) m cs = with_held to.slot m cs
taken None m cs = cs

-- the innermost call is over, if it has a caller, and what it returns is made of this
abbrev pub left_calls : Origin → List CallShadow → List CallShadow
left_calls m [] = []
left_calls m (c ∷ []) = c ∷ []
left_calls m (c ∷ (d ∷ cs)) = taken c.receiver m (d ∷ cs)

-- the top is then that from before it
abbrev pub left_top : ℕ → List CallShadow → ℕ
left_top top [] = top
left_top top (c ∷ []) = top
left_top top (c ∷ (d ∷ cs)) = c.floor

-- its objects end
abbrev pub with_return : LiveCalls → ℕ → Origin → LiveCalls
with_return l position m = record {
  calls = left_calls m l.calls;
  objects = ended (length l.calls) position l.objects;
  top = left_top l.top l.calls;
}

-- ---- how they lie

-- one that is living lies below an address, if it was made while no more than so many calls were not over
abbrev pub EndsBelow : ℕ → ℕ → Object → Type 0
EndsBelow depth address o = is_living o ≡ true → o.depth ≤ depth → o.address + o.size ≤ address

-- what was made before a call lies below what was the top then
abbrev pub IsFloored : List CallShadow → List Object → Type 0
IsFloored [] os = ⊤
IsFloored (c ∷ cs) os = AllByRecursion (EndsBelow (length cs) c.floor) os × IsFloored cs os

pub record AreLive (calls : List CallShadow) (os : List Object) (top : ℕ) : Type 0 where
  pub few : length calls ≤ 1000
  pub within : AllByRecursion (IsWithin (length calls)) os
  pub below : AllByRecursion (EndsBelow (length calls) top) os
  pub floored : IsFloored calls os
