-- Temporaries that are set leave all else of the calls as it was, so that a call stands with its receiver and its floor.
use Rattle.std.proofs.Common.{◌≡◌, ◌∙◌, sym, ap, subst, refl, ℕ, List, [], ◌∷◌, length, Option}
use Rattle.std.proofs.lemmas.List.{length-set, length-replicate}
use Rattle.qil_code.specs.declared.numbered.Slot.{Slot}
use Rattle.qil_code.specs.declared.numbered.Receiver.{Receiver}
use Rattle.qil_shadow.specs.declared.origin.Origin.{Origin}
use Rattle.qil_shadow.specs.declared.origin.Origin.TheVariants as origins
use Rattle.qil_shadow.specs.declared.shadow.Shadow.{Shadow}
use Rattle.qil_shadow.specs.Stack.{CallShadow, with_held, callers_of, returned_of}
use Rattle.qil_shadow.specs.Calls.{LiveCalls, with_set, with_call}
use Rattle.qil_shadow.specs.Kept.{Keeps, KeepsAll, KeepsButCalls}
use Rattle.qil_shadow.specs.Moves.{with_all}
use Rattle.qil_shadow.specs.Entering.{origins_of, IsEntered}

record IsSame (was now : LiveCalls) : Type 0 where
  returned : returned_of now.calls ≡ returned_of was.calls
  slots : length (origins_of now.calls) ≡ length (origins_of was.calls)
  callers : callers_of now.calls ≡ callers_of was.calls
  objects : now.objects ≡ was.objects
  top : now.top ≡ was.top

returned_held : (s : Slot) (m : Origin) (cs : List CallShadow) → returned_of (with_held s m cs) ≡ returned_of cs
returned_held s m [] = refl
returned_held s m (c ∷ cs) = refl

slots_held : (s : Slot) (m : Origin) (cs : List CallShadow) → length (origins_of (with_held s m cs)) ≡ length (origins_of cs)
slots_held s m [] = refl
slots_held s m (c ∷ cs) = length-set c.origins s.index m

callers_held : (s : Slot) (m : Origin) (cs : List CallShadow) → callers_of (with_held s m cs) ≡ callers_of cs
callers_held s m [] = refl
callers_held s m (c ∷ cs) = refl

same_put : (qs : List (Slot × Origin)) (l : LiveCalls) → IsSame l (with_all qs l)
same_put [] l = record { returned = refl; slots = refl; callers = refl; objects = refl; top = refl }
same_put (q ∷ qs) l =
    let rest = same_put qs (with_set l q.0 q.1) in
    record {
      returned = rest.returned ∙ returned_held q.0 q.1 l.calls;
      slots = rest.slots ∙ slots_held q.0 q.1 l.calls;
      callers = rest.callers ∙ callers_held q.0 q.1 l.calls;
      objects = rest.objects;
      top = rest.top;
    }

entered : (was : LiveCalls) (n : ℕ) (to : Option Receiver) (qs : List (Slot × Origin)) → IsEntered n to was (with_all qs (with_call was n to))
entered was n to qs =
    let same = same_put qs (with_call was n to) in
    record {
      returned_is = same.returned;
      slots_are = same.slots ∙ length-replicate n origins.Number;
      callers_are = same.callers;
      objects_are = same.objects;
      top_is = same.top;
    }

pub call_entered : {A : Type 0} (was mid now : Shadow A) (behind : LiveCalls) (n k : ℕ) (to : Option Receiver) (qs : List (Slot × Origin)) → Keeps was mid → behind ≡ with_call mid.calls n to → now.calls ≡ with_all qs behind → n ≡ k
    → IsEntered k to was.calls now.calls
call_entered was mid now behind n k to qs keeps enters put count =
    subst (λ (l : LiveCalls). IsEntered k to was.calls l) (sym (put ∙ (λ j. with_all qs ((enters ∙ ap (λ (l : LiveCalls). with_call l n to) keeps.calls_are) j))))
    (subst (λ m. IsEntered m to was.calls (with_all qs (with_call was.calls n to))) count (entered was.calls n to qs))

pub call_rest : {A : Type 0} (was mid behind now : Shadow A) → KeepsAll was mid → KeepsButCalls mid behind → KeepsButCalls behind now → KeepsButCalls was now
call_rest was mid behind now k l m = record {
  memory_is = m.memory_is ∙ l.memory_is ∙ k.rest.memory_is;
  names_are = m.names_are ∙ l.names_are ∙ k.rest.names_are;
  end_is = m.end_is ∙ l.end_is ∙ k.rest.end_is;
  position_is = m.position_is ∙ l.position_is ∙ k.rest.position_is;
  found_is = m.found_is ∙ l.found_is ∙ k.found_is;
  roles_are = m.roles_are ∙ l.roles_are ∙ k.rest.roles_are;
}
