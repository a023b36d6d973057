-- What a call of a function passes: what is gathered by number is by names what the parameters get.
use Rattle.std.proofs.Common.{◌≡◌, ◌∙◌, sym, ap, subst, refl, ℕ, zero, suc, ◌+◌, ◌<◌, ◌≤◌, List, [], ◌∷◌, ◌++◌, length, map, drop, get_or, Option, Some, None, option_map, unwrap_or, arith, append_assoc}
use Rattle.std.specs.Prelude.{zip, replicate, slice_get, flat_map}
use Rattle.std.proofs.lemmas.List.{append-nil, drop_all, length-set, length-replicate}
use Rattle.std.proofs.lemmas.Option.{slice_get-map, slice_get-get_or}
use Rattle.qil_tree.specs.declared.ops.AbiType.{AbiType}
use Rattle.qil_tree.specs.declared.ops.Class.{Class}
use Rattle.qil_tree.specs.declared.tree.Argument.{Argument}
use Rattle.qil_tree.specs.declared.tree.Operand.{Operand}
use Rattle.qil_tree.specs.declared.tree.Param.{Param}
use Rattle.qil_tree.specs.declared.tree.Func.{Func}
use Rattle.qil_tree.specs.declared.tree.Program.{Program}
use Rattle.qil_tree.specs.Types.{class_of}
use Rattle.qil_semantics.specs.State.{Name}
use Rattle.qil_semantics.specs.Names.{block_names, temps_named}
use Rattle.qil_code.specs.declared.numbered.Slot.{Slot}
use Rattle.qil_code.specs.declared.numbered.Receiver.{Receiver}
use Rattle.qil_code.specs.declared.numbered.NumberedArgument.{NumberedArgument}
use Rattle.qil_code.specs.Numbered.{func_at, names_of, operand_of, argument_of, param_of, slot_in}
use Rattle.qil_code.specs.Reading.{params_at}
use Rattle.qil_code.specs.Slots.{number_in}
use Rattle.qil_code.proofs.Has.{Has, HasAll, HasAll-left, once-has}
use Rattle.qil_shadow.specs.declared.origin.Origin.{Origin}
use Rattle.qil_shadow.specs.declared.origin.Origin.TheVariants as origins
use Rattle.qil_shadow.specs.declared.constants.Reading.TheVariants as readings
use Rattle.qil_shadow.specs.declared.suspicion.Place.{Place}
use Rattle.qil_shadow.specs.declared.shadow.Shadow.{Shadow}
use Rattle.qil_shadow.specs.Shadow.{Origins, none_set, with_origin, with_origins}
use Rattle.qil_shadow.specs.Shadowed.{operand_origin, passed, enters}
use Rattle.qil_shadow.specs.Spots.{origins_in}
use Rattle.qil_shadow.specs.Stack.{CallShadow, callers_of, with_held}
use Rattle.qil_shadow.specs.Calls.{LiveCalls, with_set, with_call}
use Rattle.qil_shadow.specs.Numbered.{object_named, frames_by}
use Rattle.qil_shadow.specs.Reads.{IsRead, innermost, HasSlots}
use Rattle.qil_shadow.specs.Kept.{Keeps, KeepsAll, KeepsButCalls}
use Rattle.qil_shadow.specs.Moves.{with_all}
use Rattle.qil_shadow.specs.Instructions.{named, IsAt}
use Rattle.qil_shadow.specs.Passing.{AreArguments, argument_origin, one_passed, passed_by}
use Rattle.qil_shadow.proofs.ByNameLemmas.{slot_set, slots_none}
use Rattle.qil_shadow.proofs.ParamLemmas.{names_here, has_slot, drop_one, mapped_from}
use Rattle.qil_shadow.proofs.KeptLemmas.{own_kept, slots_behind}

-- ---- one argument

pub no_item : {X Y : Type 0} (v : X → Y) (o : Option X) → option_map v o ≡ None → o ≡ None
no_item v None e = refl
no_item v (Some x) e = absurd cc

pub one_gathered : {A : Type 0} (p : Program A) (place : Place) (t : Origins) (args : List NumberedArgument) (given : List Argument) (k : ℕ) (arg : NumberedArgument) (q : Slot × AbiType) (class : Class) (o : Origin)
    → slice_get args k ≡ Some arg → class ≡ class_of arg.abi_type → ((a : Operand) → IsRead p place (readings.Argument k) a arg.source → o ≡ operand_origin p t class a) → AreArguments p place args given
    → (q.0, o) ∷ [] ≡ one_passed p t q (slice_get given k)
one_gathered {A} p place t args given k arg q class o at wanted reads are =
    let ns = names_of p place.func.index in
    let found = mapped_from (argument_of p ns) given k arg (slice_get given k) refl (sym (slice_get-map (argument_of p ns) given k) ∙ ap (λ xs. slice_get xs k) (sym are.number) ∙ at) in
    let source : arg.source ≡ operand_of p ns found.0.value = ap (λ (b : NumberedArgument). b.source) (sym found.2) in
    let type : class ≡ class_of found.0.abi_type = wanted ∙ ap (λ (b : NumberedArgument). class_of b.abi_type) (sym found.2) in
    let value : o ≡ argument_origin p t found.0 =
    reads found.0.value (subst (IsRead p place (readings.Argument k) found.0.value) (sym source) (are.read k found.0 found.1)) ∙ ap (λ c. operand_origin p t c found.0.value) type in
    ap (λ m. (q.0, m) ∷ []) value ∙ ap (one_passed p t q) (sym found.1)

pub none_gathered : {A : Type 0} (p : Program A) (place : Place) (t : Origins) (args : List NumberedArgument) (given : List Argument) (k : ℕ) (q : Slot × AbiType) → slice_get args k ≡ None → AreArguments p place args given
    → [] ≡ one_passed p t q (slice_get given k)
none_gathered {A} p place t args given k q at are =
    let ns = names_of p place.func.index in
    let none : slice_get given k ≡ None = no_item (argument_of p ns) (slice_get given k) (sym (slice_get-map (argument_of p ns) given k) ∙ ap (λ xs. slice_get xs k) (sym are.number) ∙ at) in
    ap (one_passed p t q) (sym none)

-- ---- all of them

drop_none : {X : Type 0} (xs : List X) (i : ℕ) → slice_get xs i ≡ None → drop i xs ≡ []
drop_none [] zero at = refl
drop_none [] (suc i) at = refl
drop_none (y ∷ ys) zero at = absurd cc
drop_none (y ∷ ys) (suc i) at = drop_none ys i at

later_none : {X : Type 0} (xs : List X) (i : ℕ) → slice_get xs i ≡ None → slice_get xs (i + 1) ≡ None
later_none [] i at = refl
later_none (y ∷ ys) zero at = absurd cc
later_none (y ∷ ys) (suc i) at = let e : suc (i + 1) ≡ suc i + 1 = omega arith in subst (λ n. slice_get (y ∷ ys) n ≡ None) e (later_none ys i at)

passed_none : {A : Type 0} (p : Program A) (t : Origins) (params : List (Slot × AbiType)) → passed_by p t params [] ≡ []
passed_none p t [] = refl
passed_none p t (q ∷ qs) = refl

passed_nothing : {A : Type 0} (p : Program A) (t : Origins) (given : List Argument) → passed_by p t [] given ≡ []
passed_nothing p t [] = refl
passed_nothing p t (a ∷ given) = refl

one_more : {A : Type 0} (p : Program A) (t : Origins) (params : List (Slot × AbiType)) (given : List Argument) (i : ℕ) (q : Slot × AbiType) (o : Option Argument) → slice_get params i ≡ Some q → slice_get given i ≡ o
    → passed_by p t (drop i params) (drop i given) ≡ one_passed p t q o ++ passed_by p t (drop (i + 1) params) (drop (i + 1) given)
one_more p t params given i q (Some a) at is = λ j. passed_by p t (drop_one params i q at j) (drop_one given i a is j)
one_more p t params given i q None at is =
    (λ j. passed_by p t (drop i params) (drop_none given i is j))
    ∙ passed_none p t (drop i params)
    ∙ sym (passed_none p t (drop (i + 1) params))
    ∙ (λ j. passed_by p t (drop (i + 1) params) (sym (drop_none given (i + 1) (later_none given i is)) j))

pub at_kept : {A : Type 0} (p : Program A) (place : Place) (was now : Shadow A) → Keeps was now → IsAt p place was → IsAt p place now
at_kept p place was now k at = record { own = own_kept p was now k at.own; slots = slots_behind p place.func.index was now k at.slots }

pub gathered_more : {A : Type 0} (p : Program A) (place : Place) (was mid : Shadow A) (so_far now : List (Slot × Origin)) (params : List (Slot × AbiType)) (given : List Argument) (i : ℕ) (q : Slot × AbiType) → slice_get params i ≡ Some q
    → Keeps was mid
    → now ≡ so_far ++ one_passed p (innermost p place.func.index mid.calls.calls) q (slice_get given i)
    → so_far ++ passed_by p (innermost p place.func.index was.calls.calls) (drop i params) (drop i given) ≡ passed_by p (innermost p place.func.index was.calls.calls) params given
    → now ++ passed_by p (innermost p place.func.index was.calls.calls) (drop (i + 1) params) (drop (i + 1) given) ≡ passed_by p (innermost p place.func.index was.calls.calls) params given
gathered_more {A} p place was mid so_far now params given i q at keeps one all =
    let t = innermost p place.func.index was.calls.calls in
    let rest = passed_by p t (drop (i + 1) params) (drop (i + 1) given) in
    ap (λ ms. ms ++ rest) (one ∙ (λ j. so_far ++ one_passed p (innermost p place.func.index (keeps.calls_are j).calls) q (slice_get given i)))
    ∙ append_assoc so_far (one_passed p t q (slice_get given i)) rest
    ∙ ap (λ ms. so_far ++ ms) (sym (one_more p t params given i q (slice_get given i) at refl))
    ∙ all

-- an item is the one at its place, whatever stands for one that isn't there
pub gathered_copied : {A : Type 0} (p : Program A) (place : Place) (was mid : Shadow A) (so_far now : List (Slot × Origin)) (params : List (Slot × AbiType)) (given : List Argument) (i : ℕ) (d : Slot × AbiType) → i < length params → Keeps was mid
    → now ≡ so_far ++ one_passed p (innermost p place.func.index mid.calls.calls) (get_or params i d) (slice_get given i)
    → so_far ++ passed_by p (innermost p place.func.index was.calls.calls) (drop i params) (drop i given) ≡ passed_by p (innermost p place.func.index was.calls.calls) params given
    → now ++ passed_by p (innermost p place.func.index was.calls.calls) (drop (i + 1) params) (drop (i + 1) given) ≡ passed_by p (innermost p place.func.index was.calls.calls) params given
gathered_copied p place was mid so_far now params given i d below keeps one all = gathered_more p place was mid so_far now params given i (get_or params i d) (slice_get-get_or params i d below) keeps one all

pub gathered_all : {A : Type 0} (p : Program A) (t : Origins) (so_far : List (Slot × Origin)) (params : List (Slot × AbiType)) (given : List Argument) (i : ℕ) → length params ≤ i
    → so_far ++ passed_by p t (drop i params) (drop i given) ≡ passed_by p t params given → so_far ≡ passed_by p t params given
gathered_all p t so_far params given i past all =
    sym (append-nil so_far)
    ∙ ap (λ ms. so_far ++ ms) (sym (passed_nothing p t (drop i given)) ∙ (λ j. passed_by p t (sym (drop_all i params past) j) (drop i given)))
    ∙ all

-- ---- what parameters get

pub first_frames : {A : Type 0} (p : Program A) (i : ℕ) (fs : List ℕ) (cs : List CallShadow) → HasSlots p i cs → frames_by p (i ∷ fs) cs ≡ innermost p i cs ∷ frames_by p fs (callers_of cs)
first_frames p i fs [] slots = absurd slots
first_frames p i fs (c ∷ cs) slots = refl

pub slots_held : {A : Type 0} (p : Program A) (i : ℕ) (s : Slot) (m : Origin) (cs : List CallShadow) → HasSlots p i cs → HasSlots p i (with_held s m cs)
slots_held p i s m [] slots = slots
slots_held p i s m (c ∷ cs) slots = slots ∙ sym (length-set c.origins s.index m)

pub innermost_held : {A : Type 0} (p : Program A) (i : ℕ) (x : Name) (m : Origin) (cs : List CallShadow) → HasSlots p i cs → Has (names_of p i) x
    → innermost p i (with_held (slot_in (names_of p i) x) m cs) ≡ with_origin (innermost p i cs) x m
innermost_held p i x m [] slots has = absurd slots
innermost_held p i x m (c ∷ cs) slots has = slot_set (names_of p i) c.origins x (number_in (names_of p i) x) m slots (has_slot (names_of p i) x has)

pub callers_held : (s : Slot) (m : Origin) (cs : List CallShadow) → callers_of (with_held s m cs) ≡ callers_of cs
callers_held s m [] = refl
callers_held s m (c ∷ cs) = refl

abbrev param_names : List Param → List Name
param_names ps = map (λ (q : Param). q.name) ps

abbrev passed_named : {A : Type 0} → Program A → Origins → List Param → List Argument → List (Name × Origin)
passed_named p t ps given = map (λ q. (q.0.name, argument_origin p t q.1)) (zip ps given)

put_passed : {A : Type 0} (p : Program A) (i : ℕ) (fs : List ℕ) (t : Origins) (ps : List Param) (given : List Argument) (l : LiveCalls) → HasSlots p i l.calls → HasAll (names_of p i) (param_names ps)
    → frames_by p (i ∷ fs) (with_all (passed_by p t (map (param_of (names_of p i)) ps) given) l).calls ≡ with_origins (innermost p i l.calls) (passed_named p t ps given) ∷ frames_by p fs (callers_of l.calls)
put_passed p i fs t [] [] l slots has = first_frames p i fs l.calls slots
put_passed p i fs t [] (a ∷ given) l slots has = first_frames p i fs l.calls slots
put_passed p i fs t (q ∷ ps) [] l slots has = first_frames p i fs l.calls slots
put_passed p i fs t (q ∷ ps) (a ∷ given) l slots has =
    let s = slot_in (names_of p i) q.name in
    let m = argument_origin p t a in
    put_passed p i fs t ps given (with_set l s m) (slots_held p i s m l.calls slots) has.1
    ∙ (λ j. with_origins (innermost_held p i q.name m l.calls slots has.0 j) (passed_named p t ps given) ∷ frames_by p fs (callers_held s m l.calls j))

pub objects_put : (qs : List (Slot × Origin)) (l : LiveCalls) → (with_all qs l).objects ≡ l.objects
objects_put [] l = refl
objects_put (q ∷ qs) l = objects_put qs (with_set l q.0 q.1)

-- ---- a call of a function

call_named : {A : Type 0} (p : Program A) (i fi : ℕ) (fs : List ℕ) (was : Shadow A) (calls : LiveCalls) (given : List Argument) (callee : Func A) (n : ℕ) (to : Option Receiver) → func_at p fi ≡ Some callee → n ≡ length (names_of p fi)
    → HasSlots p i was.calls.calls → calls ≡ with_all (passed_by p (innermost p i was.calls.calls) (params_at p fi) given) (with_call was.calls n to)
    → frames_by p (fi ∷ (i ∷ fs)) calls.calls ≡ with_origins none_set (passed p (innermost p i was.calls.calls) given callee) ∷ (innermost p i was.calls.calls ∷ frames_by p fs (callers_of was.calls.calls))
call_named {A} p i fi fs was calls given callee n to here count slots is =
    let ns = names_of p fi in
    let t = innermost p i was.calls.calls in
    let same : temps_named callee ≡ ns = sym (names_here p fi callee here) in
    let params : params_at p fi ≡ map (param_of ns) callee.params =
    ap (λ (o : Option (Func A)). unwrap_or (option_map (λ func. map (param_of (temps_named func)) func.params) o) []) here ∙ (λ j. map (param_of (same j)) callee.params) in
    let has : HasAll ns (param_names callee.params) =
    subst (λ xs. HasAll xs (param_names callee.params)) same (HasAll-left (temps_named callee) (param_names callee.params) (flat_map block_names callee.blocks) (once-has (param_names callee.params ++ flat_map block_names callee.blocks))) in
    let fresh = with_call was.calls n to in
    let long : HasSlots p fi fresh.calls = sym count ∙ sym (length-replicate n origins.Number) in
    (λ j. frames_by p (fi ∷ (i ∷ fs)) (is j).calls)
    ∙ (λ j. frames_by p (fi ∷ (i ∷ fs)) (with_all (passed_by p t (params j) given) fresh).calls)
    ∙ put_passed p fi (i ∷ fs) t callee.params given fresh long has
    ∙ (λ j. with_origins (slots_none ns n j) (passed_named p t callee.params given) ∷ first_frames p i fs was.calls.calls slots j)

pub call_done : {A : Type 0} (p : Program A) (i fi : ℕ) (fs : List ℕ) (was mid behind now : Shadow A) (given : List Argument) (callee : Func A) (n : ℕ) (to : Option Receiver) (moved : List (Slot × Origin)) → func_at p fi ≡ Some callee
    → n ≡ length (names_of p fi) → HasSlots p i was.calls.calls → Keeps was mid → moved ≡ passed_by p (innermost p i was.calls.calls) (params_at p fi) given
    → behind.calls ≡ with_call mid.calls n to → behind.memory ≡ mid.memory → behind.position ≡ mid.position → now.calls ≡ with_all moved behind.calls → KeepsButCalls behind now
    → named p (fi ∷ (i ∷ fs)) now ≡ enters p (named p (i ∷ fs) was) (innermost p i was.calls.calls) (frames_by p fs (callers_of was.calls.calls)) given (Some callee)
call_done {A} p i fi fs was mid behind now given callee n to moved here count slots keeps gathered enters_is memory position put rest =
    let t = innermost p i was.calls.calls in
    let fresh : behind.calls ≡ with_call was.calls n to = enters_is ∙ (λ j. with_call (keeps.calls_are j) n to) in
    let calls : now.calls ≡ with_all (passed_by p t (params_at p fi) given) (with_call was.calls n to) = put ∙ (λ j. with_all (gathered j) (fresh j)) in
    let frames = call_named p i fi fs was now.calls given callee n to here count slots calls in
    let objects : now.calls.objects.objects ≡ was.calls.objects.objects =
    ap (λ (l : LiveCalls). l.objects.objects) calls ∙ ap (λ t. t.objects) (objects_put (passed_by p t (params_at p fi) given) (with_call was.calls n to)) in
    λ j. record {
      frames = frames j;
      bytes = origins_in ((rest.memory_is ∙ memory ∙ keeps.memory_is) j);
      objects = map (object_named p) (objects j);
      position = (rest.position_is ∙ position ∙ keeps.position_is) j;
    }

pub keeps_gathered : {A : Type 0} (was mid now : Shadow A) → was.calls ≡ mid.calls → was.memory ≡ mid.memory → was.names ≡ mid.names → was.data_end ≡ mid.data_end → was.position ≡ mid.position → was.heap.roles.items ≡ mid.heap.roles.items
    → was.found.items ≡ mid.found.items → KeepsAll mid now → KeepsAll was now
keeps_gathered was mid now calls memory names end position roles found k = record {
  rest = record {
    calls_are = k.rest.calls_are ∙ sym calls;
    memory_is = k.rest.memory_is ∙ sym memory;
    names_are = k.rest.names_are ∙ sym names;
    end_is = k.rest.end_is ∙ sym end;
    position_is = k.rest.position_is ∙ sym position;
    roles_are = k.rest.roles_are ∙ sym roles;
  };
  found_is = k.found_is ∙ sym found;
}
