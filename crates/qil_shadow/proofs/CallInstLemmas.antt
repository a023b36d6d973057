-- What a call does, by what it calls.
use Rattle.std.proofs.Common.{◌≡◌, ◌∙◌, sym, ap, subst, ℕ, zero, suc, ◌-◌, ◌^◌, ◌<◌, Bool, true, false, ◌&&◌, List, [], ◌∷◌, length, map, Option, Some, None, option_map, refl, arith}
use Rattle.std.specs.Prelude.{codes, slice_get, if◌then◌else◌, ◌==◌, nat_lt, ◌%◌, ◌/◌, ⊤}
use Rattle.std.specs.List.{AllByRecursion}
use Rattle.std.proofs.lemmas.Bool.Decides.{nat_tests}
use Rattle.qil_memory.specs.qil_layout.declared.callee.Callee.{Callee}
use Rattle.qil_memory.specs.qil_layout.declared.callee.Callee.TheVariants.{Defined, PutChar, Puts, Exit}
use Rattle.qil_memory.specs.qil_layout.declared.callee.FuncId.{FuncId}
use Rattle.qil_memory.specs.qil_layout.Callee as layout
use Rattle.qil_memory.specs.qil_layout.Callee.{callee_at, lies, defined_at}
use Rattle.qil_memory.specs.qil_rules.Operands.{as_class, argument_read, call_target, inst_target}
use Rattle.qil_tree.specs.declared.tree.Argument.{Argument}
use Rattle.qil_tree.specs.declared.tree.CallResult.{CallResult}
use Rattle.qil_tree.specs.declared.tree.Operand.{Operand}
use Rattle.qil_tree.specs.declared.tree.Func.{Func}
use Rattle.qil_tree.specs.declared.tree.InstKind.{InstKind}
use Rattle.qil_tree.specs.declared.tree.InstKind.TheVariants as insts
use Rattle.qil_tree.specs.declared.tree.Program.{Program}
use Rattle.qil_semantics.specs.State.{Name, State}
use Rattle.qil_semantics.specs.Values.{first}
use Rattle.qil_code.specs.declared.numbered.NumberedArgument.{NumberedArgument}
use Rattle.qil_code.specs.declared.numbered.NumberedOperand.{NumberedOperand}
use Rattle.qil_code.specs.declared.numbered.NumberedInst.{NumberedInst}
use Rattle.qil_code.specs.declared.numbered.NumberedInst.TheVariants as numbered
use Rattle.qil_code.specs.declared.numbered.Receiver.{Receiver}
use Rattle.qil_code.specs.Numbered.{func_at, names_of, operand_of, receiver_of}
use Rattle.qil_code.proofs.Has.{has-among}
use Rattle.qil_shadow.specs.declared.origin.Origin.{Origin}
use Rattle.qil_shadow.specs.declared.origin.Origin.TheVariants as origins
use Rattle.qil_shadow.specs.declared.constants.Reading.TheVariants as readings
use Rattle.qil_shadow.specs.declared.suspicion.Place.{Place}
use Rattle.qil_shadow.specs.declared.shadow.Shadow.{Shadow}
use Rattle.qil_shadow.specs.Shadow as by_names
use Rattle.qil_shadow.specs.Shadow.{Origins}
use Rattle.qil_shadow.specs.Shadowed.{enters, takes, calls}
use Rattle.qil_shadow.specs.Accesses.{inst_accesses}
use Rattle.qil_shadow.specs.Spots.{origins_in}
use Rattle.qil_shadow.specs.Stack.{CallShadow, callers_of}
use Rattle.qil_shadow.specs.Calls.{LiveCalls, taken}
use Rattle.qil_shadow.specs.Numbered.{value_in, object_named, frames_by, shadow_by}
use Rattle.qil_shadow.specs.Reads.{IsKnown, innermost, HasSlots}
use Rattle.qil_shadow.specs.Kept.{Keeps, KeepsAll, KeepsButCalls}
use Rattle.qil_shadow.specs.Instructions.{named, AreCalls, IsAt, IsInst, IsTarget, CallIsSound, IsSound, called_first, ShadowIs, HasDone}
use Rattle.qil_shadow.specs.Passing.{AreArguments}
use Rattle.qil_shadow.specs.Returns.{IsTaker}
use Rattle.qil_shadow.proofs.InstLemmas.{inst_read, set_frames, reports_none}
use Rattle.qil_shadow.proofs.PassLemmas.{first_frames, at_kept}
use Rattle.qil_tree.specs.declared.ops.Class.TheVariants as classes
use Rattle.qil_semantics.specs.Slots.{temps_of}
use Rattle.qil_shadow.proofs.ValueLemmas.{Holds, val_long, first_read, none_held, same_held}

-- ---- what lies at an address is there

index_in : Option Callee → ℕ
index_in (Some (Defined func)) = func.index
index_in o = 0

defined_by : (b c d : Bool) (o : Option ℕ) (func : FuncId) → Some (Defined func) ≡ (if b then Some PutChar else (if c then Some Puts else (if d then Some Exit else option_map defined_at o))) → o ≡ Some func.index
unfolding index_in
defined_by true c d o func e = absurd (cc)
defined_by false true d o func e = absurd (cc)
defined_by false false true o func e = absurd (cc)
defined_by false false false None func e = absurd (cc)
defined_by false false false (Some i) func e = ap (λ q. Some (index_in q)) (sym e)

both_true : (a b : Bool) → (a && b) ≡ true → b ≡ true
both_true true b e = e
both_true false b e = absurd (cc)

low_index : (b c : Bool) (i j n : ℕ) → (c ≡ true → i < n) → (if b then None else (if c then Some i else None)) ≡ Some j → j < n
low_index true c i j n h e = absurd (cc)
low_index false false i j n h e = absurd (cc)
low_index false true i j n h e = let same : i ≡ j = cc in let l = h refl in omega (arith, same, l)

some_at : {X : Type 0} (xs : List X) (i : ℕ) → i < length xs → (x : X) × (slice_get xs i ≡ Some x)
some_at [] i l = absurd (omega (arith, l))
some_at (x ∷ xs) zero l = (x, refl)
some_at (x ∷ xs) (suc i) l = some_at xs i (omega (arith, l))

low_test : (a n : ℕ) → nat_lt a n ≡ true → a < n
low_test a n e = grind (arith, nat_tests, e)

pub defined_there : {A : Type 0} (p : Program A) (a : ℕ) (func : FuncId) → Some (Defined func) ≡ callee_at p a → (f : Func A) × (slice_get p.funcs func.index ≡ Some f)
defined_there p a func e =
    let at : layout.func_at p a ≡ Some func.index = defined_by (lies p (codes "putchar") 1024 a) (lies p (codes "puts") 1040 a) (lies p (codes "exit") 1056 a) (layout.func_at p a) func e in
    some_at p.funcs func.index
    (low_index (nat_lt a 4096) ((a - 4096) % 16 == 0 && nat_lt ((a - 4096) / 16) (length p.funcs)) ((a - 4096) / 16) func.index (length p.funcs)
    (λ t. low_test ((a - 4096) / 16) (length p.funcs) (both_true ((a - 4096) % 16 == 0) (nat_lt ((a - 4096) / 16) (length p.funcs)) t)) at)

-- ---- which instruction it is

abbrev receiver_of_inst : {A : Type 0} → Option Receiver → NumberedInst A → Option Receiver
receiver_of_inst d (numbered.Call to callee args) = to
receiver_of_inst d i = d

abbrev callee_of_inst : {A : Type 0} → NumberedOperand → NumberedInst A → NumberedOperand
callee_of_inst d (numbered.Call to callee args) = callee
callee_of_inst d i = d

abbrev args_of_inst : {A : Type 0} → List NumberedArgument → NumberedInst A → List NumberedArgument
args_of_inst d (numbered.Call to callee args) = args
args_of_inst d i = d

known_at : {A : Type 0} (p : Program A) (place : Place) (given : List Argument) (k : ℕ) (a : Argument) → AllByRecursion (λ r. IsKnown p (names_of p place.func.index) r.operand) (map argument_read given) → slice_get given k ≡ Some a
    → IsKnown p (names_of p place.func.index) a.value
known_at p place [] k a known at = absurd cc
known_at {A} p place (b ∷ given) zero a known at = subst (λ (x : Option Argument). KnownIn p place x) at known.0
  where
    KnownIn : {A : Type 0} → Program A → Place → Option Argument → Type 0
    KnownIn p place None = ⊤
    KnownIn p place (Some x) = IsKnown p (names_of p place.func.index) x.value
known_at p place (b ∷ given) (suc k) a known at = known_at p place given k a known.1 at

pub record IsCall {A : Type 0} (p : Program A) (place : Place) (slots : List (Option ℕ)) (to : Option Receiver) (callee : NumberedOperand) (args : List NumberedArgument) (kind : InstKind A) (vs : List ℕ) : Type 0 where
  pub result : Option CallResult
  pub called : Operand
  pub given : List Argument
  pub same : kind ≡ insts.Call result called given
  pub receiver : to ≡ option_map (receiver_of (names_of p place.func.index)) result
  pub taker : IsTarget (names_of p place.func.index) (inst_target kind)
  pub arguments : AreArguments p place args given
  pub value : Holds slots callee (first vs)

pub is_call : {A : Type 0} (p : Program A) (place : Place) (slots : List (Option ℕ)) (to : Option Receiver) (callee : NumberedOperand) (args : List NumberedArgument) (kind : InstKind A) (vs : List ℕ)
    → IsInst p place slots (numbered.Call to callee args) kind vs → IsCall p place slots to callee args kind vs
is_call p place slots to callee args (insts.Assign x e) vs is = absurd (let e = is.number in cc)
is_call p place slots to callee args (insts.Alloc x op n) vs is = absurd (let e = is.number in cc)
is_call p place slots to callee args (insts.Store w a b) vs is = absurd (let e = is.number in cc)
is_call p place slots to callee args (insts.Blit a b n) vs is = absurd (let e = is.number in cc)
is_call {A} p place slots to callee args (insts.Call x c given) vs is =
    let ns = names_of p place.func.index in
    let s : callee ≡ operand_of p ns c = ap (λ (i : NumberedInst A). callee_of_inst callee i) is.number in
    record {
      result = x;
      called = c;
      given = given;
      same = refl;
      receiver = ap (λ (i : NumberedInst A). receiver_of_inst to i) is.number;
      taker = is.target;
      arguments = record {
        number = ap (λ (i : NumberedInst A). args_of_inst args i) is.number;
        read = λ k a at.
            inst_read p place slots (numbered.Call to callee args) (insts.Call x c given) vs (readings.Argument k) a.value (operand_of p ns a.value) is (ap (option_map (λ b. b.value)) at) refl (known_at p place given k a is.known.1 at);
      };
      value = subst (λ o. Holds slots o (first vs)) (sym s) (val_long p ns slots c (first vs) is.known.0 (first_read p (temps_of ns slots) (as_class classes.L c) (map argument_read given) vs is.values));
    }

-- ---- nothing is called

pub call_unset : {A : Type 0} (p : Program A) (place : Place) (slots : List (Option ℕ)) (to : Option Receiver) (callee : NumberedOperand) (args : List NumberedArgument) (was : Shadow A) → None ≡ value_in slots callee
    → HasDone p place slots (numbered.Call to callee args) was was
call_unset p place slots to callee args was unset = record {
  shadow_is = λ kind vs s f fs is at all stands sound. none_held slots callee (first vs) _ unset (is_call p place slots to callee args kind vs is).value;
  found_is = λ kind vs s sh f is at stands. none_held slots callee (first vs) _ unset (is_call p place slots to callee args kind vs is).value;
}

-- no call accesses bytes
none_accessed : {A : Type 0} (p : Program A) (place : Place) (slots : List (Option ℕ)) (to : Option Receiver) (callee : NumberedOperand) (args : List NumberedArgument) (was now : Shadow A) (kind : InstKind A) (vs : List ℕ) (s : State) (t : Origins)
    → IsCall p place slots to callee args kind vs → inst_accesses p s t kind vs ≡ []
none_accessed {A} p place slots to callee args was now kind vs s t k = ap (λ (i : InstKind A). inst_accesses p s t i vs) k.same

pub sound_call : {A : Type 0} (p : Program A) (place : Place) (slots : List (Option ℕ)) (to : Option Receiver) (callee : NumberedOperand) (args : List NumberedArgument) (kind : InstKind A) (vs : List ℕ) (s : State) (n : ℕ) (o : Option Callee)
    → IsCall p place slots to callee args kind vs → o ≡ callee_at p (first vs) → IsSound p s n kind vs → CallIsSound n o
sound_call {A} p place slots to callee args kind vs s n o k is sound = subst (CallIsSound n) (sym is) (subst (λ (i : InstKind A). IsSound p s n i vs) k.same sound)

pub call_of_nothing : {A : Type 0} (p : Program A) (place : Place) (slots : List (Option ℕ)) (to : Option Receiver) (callee : NumberedOperand) (args : List NumberedArgument) (was now : Shadow A) (a : ℕ) → Some a ≡ value_in slots callee
    → a < 2 ^ 64 → None ≡ callee_at p a → now.found.items ≡ was.found.items → HasDone p place slots (numbered.Call to callee args) was now
call_of_nothing {A} p place slots to callee args was now a value low nothing found = record {
  shadow_is = λ kind vs s f fs is at all stands sound.
      let k = is_call p place slots to callee args kind vs is in
      let same : a ≡ first vs = same_held slots callee a (first vs) value k.value low in
      absurd (sound_call p place slots to callee args kind vs s (length was.calls.calls) None k (nothing ∙ ap (callee_at p) same) sound);
  found_is = λ kind vs s sh f is at stands.
      reports_none p s sh f _ was.found.items now.found.items (none_accessed p place slots to callee args was now kind vs s (innermost p place.func.index was.calls.calls) (is_call p place slots to callee args kind vs is)) found;
}

-- ---- a function of the program

pub named_kept : {A : Type 0} (p : Program A) (fs : List ℕ) (was now : Shadow A) → Keeps was now → named p fs now ≡ named p fs was
named_kept p fs was now k = λ j. shadow_by p fs (k.calls_are j).calls (k.memory_is j) (k.calls_are j).objects.objects (k.position_is j)

pub call_of_function : {A : Type 0} (p : Program A) (place : Place) (slots : List (Option ℕ)) (to : Option Receiver) (callee : NumberedOperand) (args : List NumberedArgument) (was mid now : Shadow A) (a : ℕ) (func : FuncId)
    → Some a ≡ value_in slots callee → a < 2 ^ 64 → Some (Defined func) ≡ callee_at p a → KeepsAll was mid
    → ((given : List Argument) (f : Func A) (fs : List ℕ) → IsAt p place mid → AreCalls p (place.func.index ∷ fs) mid.calls.calls → AreArguments p place args given → func_at p func.index ≡ Some f → length mid.calls.calls < 1000
    → named p (func.index ∷ (place.func.index ∷ fs)) now
    ≡ enters p (named p (place.func.index ∷ fs) mid) (innermost p place.func.index mid.calls.calls) (frames_by p fs (callers_of mid.calls.calls)) given (Some f))
    → now.found.items ≡ mid.found.items → HasDone p place slots (numbered.Call to callee args) was now
call_of_function {A} p place slots to callee args was mid now a func value low there keeps enter found = record {
  shadow_is = λ kind vs s f fs is at all stands sound.
      let i = place.func.index in
      let k = is_call p place slots to callee args kind vs is in
      let same : a ≡ first vs = same_held slots callee a (first vs) value k.value low in
      let meant : Some (Defined func) ≡ callee_at p (first vs) = there ∙ ap (callee_at p) same in
      let few : length was.calls.calls < 1000 = sound_call p place slots to callee args kind vs s (length was.calls.calls) (Some (Defined func)) k meant sound in
      let it = defined_there p a func there in
      let sh = named p (i ∷ fs) was in
      let t = innermost p i was.calls.calls in
      let ts = frames_by p fs (callers_of was.calls.calls) in
      let calls_same = keeps.rest.calls_are in
      let base : named p (func.index ∷ (i ∷ fs)) now ≡ enters p sh t ts k.given (Some it.0) =
      enter k.given it.0 fs (at_kept p place was mid keeps.rest at) (subst (λ (c : LiveCalls). AreCalls p (i ∷ fs) c.calls) (sym calls_same) all) k.arguments it.1 (subst (λ (c : LiveCalls). length c.calls < 1000) (sym calls_same) few)
      ∙ (λ j. enters p (named_kept p (i ∷ fs) was mid keeps.rest j) (innermost p i (calls_same j).calls) (frames_by p fs (callers_of (calls_same j).calls)) k.given (Some it.0)) in
      subst (λ (q : InstKind A). ShadowIs p place was now s f fs q vs) (sym k.same)
      (subst (λ o. named p (called_first (i ∷ fs) o) now ≡ calls p sh t ts k.result k.given o) meant (base ∙ ap (enters p sh t ts k.given) (sym it.1)));
  found_is = λ kind vs s sh f is at stands.
      reports_none p s sh f _ was.found.items now.found.items (none_accessed p place slots to callee args was now kind vs s (innermost p place.func.index was.calls.calls) (is_call p place slots to callee args kind vs is)) (found ∙ keeps.found_is);
}

-- ---- a function that every program has

abbrev pub IsBuiltIn : Callee → Type 0
IsBuiltIn (Defined func) = ⊥
IsBuiltIn PutChar = ⊤
IsBuiltIn Puts = ⊤
IsBuiltIn Exit = ⊤

pub given_calls : {A : Type 0} (was mid now : Shadow A) (to : Option Receiver) (m : Origin) → KeepsAll was mid → now.calls ≡ record mid.calls { calls = taken to m mid.calls.calls } → now.calls ≡ record was.calls { calls = taken to m was.calls.calls }
given_calls was mid now to m keeps gives = gives ∙ ap (λ (c : LiveCalls). record c { calls = taken to m c.calls }) keeps.rest.calls_are

pub given_rest : {A : Type 0} (was mid now : Shadow A) → KeepsAll was mid → KeepsButCalls mid now → KeepsButCalls was now
given_rest was mid now k l = record {
  memory_is = l.memory_is ∙ k.rest.memory_is;
  names_are = l.names_are ∙ k.rest.names_are;
  end_is = l.end_is ∙ k.rest.end_is;
  position_is = l.position_is ∙ k.rest.position_is;
  found_is = l.found_is ∙ k.found_is;
  roles_are = l.roles_are ∙ k.rest.roles_are;
}

given_by : {A : Type 0} (p : Program A) (i : ℕ) (fs : List ℕ) (sh : by_names.Shadow) (now : Shadow A) (t : Origins) (ts : List Origins) (result : Option CallResult) (given : List Argument) (callee : Callee) → IsBuiltIn callee
    → named p (i ∷ fs) now ≡ record sh { frames = takes t result origins.Number ∷ ts } → named p (called_first (i ∷ fs) (Some callee)) now ≡ calls p sh t ts result given (Some callee)
given_by p i fs sh now t ts result given (Defined func) is e = absurd is
given_by p i fs sh now t ts result given PutChar is e = e
given_by p i fs sh now t ts result given Puts is e = e
given_by p i fs sh now t ts result given Exit is e = e

taken_first : {A : Type 0} (p : Program A) (i : ℕ) (fs : List ℕ) (result : Option CallResult) (to : Option Receiver) (m : Origin) (cs : List CallShadow) → HasSlots p i cs → IsTaker (names_of p i) result → to ≡ option_map (receiver_of (names_of p i)) result
    → frames_by p (i ∷ fs) (taken to m cs) ≡ takes (innermost p i cs) result m ∷ frames_by p fs (callers_of cs)
taken_first p i fs None to m cs slots among is = ap (λ r. frames_by p (i ∷ fs) (taken r m cs)) is ∙ first_frames p i fs cs slots
taken_first p i fs (Some x) to m cs slots among is =
    ap (λ r. frames_by p (i ∷ fs) (taken r m cs)) is
    ∙ set_frames p i fs cs (receiver_of (names_of p i) x).slot x.name m slots (has-among (names_of p i) x.name among.0 among.1) refl

pub by_result : (ns : List Name) (result : Option CallResult) → IsTarget ns (option_map call_target result) → IsTaker ns result
by_result ns None among = tt
by_result ns (Some x) among = among

taker_of : {A : Type 0} (p : Program A) (place : Place) (slots : List (Option ℕ)) (to : Option Receiver) (callee : NumberedOperand) (args : List NumberedArgument) (kind : InstKind A) (vs : List ℕ) (k : IsCall p place slots to callee args kind vs)
    → IsTaker (names_of p place.func.index) k.result
taker_of {A} p place slots to callee args kind vs k =
    by_result (names_of p place.func.index) k.result (subst (λ (i : InstKind A). IsTarget (names_of p place.func.index) (inst_target i)) k.same k.taker)

pub call_of_built_in : {A : Type 0} (p : Program A) (place : Place) (slots : List (Option ℕ)) (to : Option Receiver) (callee : NumberedOperand) (args : List NumberedArgument) (was mid now : Shadow A) (a : ℕ) (called : Callee)
    → Some a ≡ value_in slots callee → a < 2 ^ 64 → Some called ≡ callee_at p a → IsBuiltIn called → KeepsAll was mid → now.calls ≡ record mid.calls { calls = taken to origins.Number mid.calls.calls } → KeepsButCalls mid now
    → HasDone p place slots (numbered.Call to callee args) was now
call_of_built_in {A} p place slots to callee args was mid now a called value low there built keeps gives rest = record {
  shadow_is = λ kind vs s f fs is at all stands sound.
      let i = place.func.index in
      let k = is_call p place slots to callee args kind vs is in
      let same : a ≡ first vs = same_held slots callee a (first vs) value k.value low in
      let meant : Some called ≡ callee_at p (first vs) = there ∙ ap (callee_at p) same in
      let sh = named p (i ∷ fs) was in
      let t = innermost p i was.calls.calls in
      let ts = frames_by p fs (callers_of was.calls.calls) in
      let now_calls : now.calls ≡ record was.calls { calls = taken to origins.Number was.calls.calls } =
      gives ∙ ap (λ (c : LiveCalls). record c { calls = taken to origins.Number c.calls }) keeps.rest.calls_are in
      let frames = taken_first p i fs k.result to origins.Number was.calls.calls at.slots (taker_of p place slots to callee args kind vs k) k.receiver in
      let memory : now.memory ≡ was.memory = rest.memory_is ∙ keeps.rest.memory_is in
      let position : now.position ≡ was.position = rest.position_is ∙ keeps.rest.position_is in
      let base : named p (i ∷ fs) now ≡ record sh { frames = takes t k.result origins.Number ∷ ts } =
      (λ j. shadow_by p (i ∷ fs) (now_calls j).calls (memory j) (now_calls j).objects.objects (position j))
      ∙ (λ j. record { frames = frames j; bytes = origins_in was.memory; objects = map (object_named p) was.calls.objects.objects; position = was.position }) in
      subst (λ (q : InstKind A). ShadowIs p place was now s f fs q vs) (sym k.same)
      (subst (λ o. named p (called_first (i ∷ fs) o) now ≡ calls p sh t ts k.result k.given o) meant (given_by p i fs sh now t ts k.result k.given called built base));
  found_is = λ kind vs s sh f is at stands.
      reports_none p s sh f _ was.found.items now.found.items (none_accessed p place slots to callee args was now kind vs s (innermost p place.func.index was.calls.calls) (is_call p place slots to callee args kind vs is))
      (rest.found_is ∙ keeps.found_is);
}
