-- What a part of a step leaves as it was, and what is reported behind it.
use Rattle.std.proofs.Common.{◌≡◌, ◌∙◌, sym, ap, subst, refl, ℕ, List, ◌++◌, map, Option, Some, None, unwrap_or}
use Rattle.qil_tree.specs.declared.ops.Class.{Class}
use Rattle.qil_tree.specs.declared.ops.AbiType.{AbiType}
use Rattle.qil_tree.specs.declared.tree.Operand.{Operand}
use Rattle.qil_tree.specs.declared.tree.Program.{Program}
use Rattle.qil_memory.specs.qil_rules.Occurrences.{returned_class}
use Rattle.qil_semantics.specs.State.{Frame, State}
use Rattle.qil_code.specs.declared.numbered.NumberedOperand.{NumberedOperand}
use Rattle.qil_code.specs.Reading.{returns_at}
use Rattle.qil_shadow.specs.declared.origin.Origin.{Origin}
use Rattle.qil_shadow.specs.declared.origin.Origin.TheVariants as origins
use Rattle.qil_shadow.specs.declared.constants.Reading.TheVariants as readings
use Rattle.qil_shadow.specs.declared.access.Action.{Action}
use Rattle.qil_shadow.specs.declared.suspicion.Access.{Access}
use Rattle.qil_shadow.specs.declared.suspicion.Place.{Place}
use Rattle.qil_shadow.specs.declared.suspicion.Suspicion.{Suspicion}
use Rattle.qil_shadow.specs.declared.shadow.Shadow.{Shadow}
use Rattle.qil_shadow.specs.Bytes.{laid_origins, origins_at, stored_origins, joined}
use Rattle.qil_shadow.specs.Shadow as by_names
use Rattle.qil_shadow.specs.Accesses as accesses
use Rattle.qil_shadow.specs.Suspicions as suspicions
use Rattle.qil_shadow.specs.Spots.{MemoryWords, HasSpot, origins_in}
use Rattle.qil_shadow.specs.ObjectNumbers.{AreStarts}
use Rattle.qil_shadow.specs.Numbered.{object_named}
use Rattle.qil_shadow.specs.Calls.{LiveCalls, with_return}
use Rattle.qil_shadow.specs.Doubts.{access_named, suspicion_named, StandsFor, Reports}
use Rattle.qil_shadow.specs.Shadowed.{operand_origin}
use Rattle.qil_shadow.specs.Starting.{IsOf}
use Rattle.qil_shadow.specs.Reads.{IsRead, IsReturned, innermost, HasSlots}
use Rattle.qil_shadow.specs.Kept.{Keeps, KeepsAll, KeepsButCalls}

pub keeps_on : {A : Type 0} (was mid now : Shadow A) → Keeps was mid → Keeps mid now → Keeps was now
keeps_on was mid now k l = record {
  calls_are = l.calls_are ∙ k.calls_are;
  memory_is = l.memory_is ∙ k.memory_is;
  names_are = l.names_are ∙ k.names_are;
  end_is = l.end_is ∙ k.end_is;
  position_is = l.position_is ∙ k.position_is;
  roles_are = l.roles_are ∙ k.roles_are;
}

pub keeps_all_on : {A : Type 0} (was mid now : Shadow A) → KeepsAll was mid → KeepsAll mid now → KeepsAll was now
keeps_all_on was mid now k l = record { rest = keeps_on was mid now k.rest l.rest; found_is = l.found_is ∙ k.found_is }

pub own_kept : {A : Type 0} (p : Program A) (was now : Shadow A) → Keeps was now → IsOf p was.names was.calls.objects.starts was.data_end → IsOf p now.names now.calls.objects.starts now.data_end
own_kept p was now k own = record {
  names_are = k.names_are ∙ own.names_are;
  starts_are = subst (λ (c : LiveCalls). AreStarts p c.objects.starts) (sym k.calls_are) own.starts_are;
  end_is = k.end_is ∙ own.end_is;
}

pub stands_kept : {A : Type 0} (p : Program A) (s : State) (sh : by_names.Shadow) (f : Frame) (place : Place) (was now : Shadow A) → Keeps was now
    → StandsFor p s sh f was.calls.objects.objects was.calls.top was.position place → StandsFor p s sh f now.calls.objects.objects now.calls.top now.position place
stands_kept p s sh f place was now k stands = record {
  objects_are = stands.objects_are ∙ ap (λ (c : LiveCalls). map (object_named p) c.objects.objects) (sym k.calls_are);
  position_is = stands.position_is ∙ sym k.position_is;
  place_is = stands.place_is;
  top_is = ap (λ (c : LiveCalls). c.top) k.calls_are ∙ stands.top_is;
}

-- looked behind a part that leaves all as it was
pub looked_through : {A : Type 0} (p : Program A) (s : State) (sh : by_names.Shadow) (f : Frame) (place : Place) (was mid now : Shadow A) (a : Access) (what : Action) (m : Origin) (at n : ℕ)
    → a ≡ record { action = what; origin = m; address = at; count = n } → KeepsAll was mid
    → (IsOf p mid.names mid.calls.objects.starts mid.data_end → StandsFor p s sh f mid.calls.objects.objects mid.calls.top mid.position place → Reports p s sh f (access_named a) mid.found.items now.found.items)
    → IsOf p was.names was.calls.objects.starts was.data_end → StandsFor p s sh f was.calls.objects.objects was.calls.top was.position place
    → Reports p s sh f (accesses.access what m at n) was.found.items now.found.items
looked_through {A} p s sh f place was mid now a what m at n e k looked own stands =
    let noted = looked (own_kept p was mid k.rest own) (stands_kept p s sh f place was mid k.rest stands) in
    subst (λ (x : accesses.Access). Reports p s sh f x was.found.items now.found.items) (ap access_named e)
    (subst (λ (q : List Suspicion). Reports p s sh f (access_named a) q now.found.items) k.found_is noted)

-- of another access that is the same
pub reported_as : {A : Type 0} (p : Program A) (s : State) (sh : by_names.Shadow) (f : Frame) (was now : List Suspicion) (what : Action) (m q : Origin) (a b n k : ℕ) → m ≡ q → a ≡ b → n ≡ k
    → Reports p s sh f (accesses.access what m a n) was now → Reports p s sh f (accesses.access what q b k) was now
reported_as p s sh f was now what m q a b n k same at count noted = subst (λ (x : accesses.Access). Reports p s sh f x was now) (λ i. accesses.access what (same i) (at i) (count i)) noted

-- ---- values

pub same_value : (o : Option ℕ) (a v : ℕ) → Some a ≡ o → o ≡ Some v → a ≡ v
same_value o a v e is = ap (λ q. unwrap_or q a) (e ∙ is)

pub no_value : (o : Option ℕ) (v : ℕ) (X : Type 0) → None ≡ o → o ≡ Some v → X
no_value o v X e is = absurd (let both : None ≡ Some v = e ∙ is in cc)

pub loaded_is : (c : Class) (m mid : MemoryWords) (o : Option ℕ) (a v n k : ℕ) (r : Origin) → Some a ≡ o → o ≡ Some v → n ≡ k → mid ≡ m
    → (HasSpot a n → r ≡ joined c (origins_at (origins_in mid) a n)) → HasSpot v k → r ≡ joined c (origins_at (origins_in m) v k)
loaded_is c m mid o a v n k r held is count same loads spot =
    let at : a ≡ v = same_value o a v held is in
    loads (subst (λ b. HasSpot b n) (sym at) (subst (λ j. HasSpot v j) (sym count) spot))
    ∙ (λ i. joined c (origins_at (origins_in (same i)) (at i) (count i)))

pub stored_is : (m mid now : MemoryWords) (o : Option ℕ) (a v n k : ℕ) (r q : Origin) → Some a ≡ o → o ≡ Some v → n ≡ k → mid ≡ m → r ≡ q
    → (HasSpot a n → origins_in now ≡ laid_origins (origins_in mid) a (stored_origins n r)) → HasSpot v k → origins_in now ≡ laid_origins (origins_in m) v (stored_origins k q)
stored_is m mid now o a v n k r q held is count same made stores spot =
    let at : a ≡ v = same_value o a v held is in
    stores (subst (λ b. HasSpot b n) (sym at) (subst (λ j. HasSpot v j) (sym count) spot))
    ∙ (λ i. laid_origins (origins_in (same i)) (at i) (stored_origins (count i) (made i)))

-- ---- a return

pub returned_is : {A : Type 0} (was mid after now : Shadow A) (r m : Origin) → KeepsAll was mid → KeepsAll mid after → r ≡ m → now ≡ record after { calls = with_return after.calls after.position r }
    → now.calls ≡ with_return was.calls was.position m
returned_is {A} was mid after now r m k l made back =
    ap (λ (q : Shadow A). q.calls) back
    ∙ (λ i. with_return ((l.rest.calls_are ∙ k.rest.calls_are) i) ((l.rest.position_is ∙ k.rest.position_is) i) (made i))

pub keeps_returned : {A : Type 0} (was mid after now : Shadow A) (calls : LiveCalls) → KeepsAll was mid → KeepsAll mid after → now ≡ record after { calls = calls } → KeepsButCalls was now
keeps_returned {A} was mid after now calls k l back = record {
  memory_is = ap (λ (q : Shadow A). q.memory) back ∙ l.rest.memory_is ∙ k.rest.memory_is;
  names_are = ap (λ (q : Shadow A). q.names) back ∙ l.rest.names_are ∙ k.rest.names_are;
  end_is = ap (λ (q : Shadow A). q.data_end) back ∙ l.rest.end_is ∙ k.rest.end_is;
  position_is = ap (λ (q : Shadow A). q.position) back ∙ l.rest.position_is ∙ k.rest.position_is;
  found_is = ap (λ (q : Shadow A). q.found.items) back ∙ l.found_is ∙ k.found_is;
  roles_are = ap (λ (q : Shadow A). q.heap.roles.items) back ∙ l.rest.roles_are ∙ k.rest.roles_are;
}

-- what it gives
pub returned_some : {A : Type 0} (p names : Program A) (calls : LiveCalls) (data_end : ℕ) (place : Place) (o : Option NumberedOperand) (operand : NumberedOperand) (m r : Origin) (class : Class) {returns : Option AbiType}
    → o ≡ Some operand → class ≡ returned_class returns → returns ≡ returns_at p place.func.index
    → ((a : Operand) → IsOf p names calls.objects.starts data_end → HasSlots p place.func.index calls.calls → IsRead p place readings.Returned a operand → r ≡ operand_origin p (innermost p place.func.index calls.calls) class a)
    → IsReturned p names calls data_end place o m → r ≡ m
returned_some {A} p names calls data_end place o operand m r class {returns} some wanted type gives is =
    let has = subst (λ q. IsReturned p names calls data_end place q m) some is in
    gives has.2.0 has.0 has.1 has.2.1
    ∙ (λ i. operand_origin p (innermost p place.func.index calls.calls) ((wanted ∙ ap returned_class type) i) has.2.0)
    ∙ sym has.2.2

pub returned_none : {A : Type 0} (p names : Program A) (calls : LiveCalls) (data_end : ℕ) (place : Place) (o : Option NumberedOperand) (m : Origin) → o ≡ None → IsReturned p names calls data_end place o m → origins.Number ≡ m
returned_none p names calls data_end place o m none is = sym (subst (λ q. IsReturned p names calls data_end place q m) none is)

pub slots_behind : {A : Type 0} (p : Program A) (i : ℕ) (was now : Shadow A) → Keeps was now → HasSlots p i was.calls.calls → HasSlots p i now.calls.calls
slots_behind p i was now k slots = subst (λ (c : LiveCalls). HasSlots p i c.calls) (sym k.calls_are) slots
