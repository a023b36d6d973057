-- What a store does, by what its clauses say of memory and of what was found.
use Rattle.std.proofs.Common.{◌≡◌, ◌∙◌, sym, ap, subst, refl, ℕ, ◌^◌, ◌<◌, List, [], ◌∷◌, length, Option, Some, None}
use Rattle.qil_tree.specs.declared.ops.Class.TheVariants as classes
use Rattle.qil_tree.specs.declared.ops.Width.{Width}
use Rattle.qil_tree.specs.declared.tree.Operand.{Operand}
use Rattle.qil_tree.specs.declared.tree.InstKind.{InstKind}
use Rattle.qil_tree.specs.declared.tree.InstKind.TheVariants as insts
use Rattle.qil_tree.specs.declared.tree.Program.{Program}
use Rattle.qil_memory.specs.qil_rules.Operands.{as_class, stored_class}
use Rattle.qil_memory.specs.qil_layout.Layout.{width_bytes}
use Rattle.qil_semantics.specs.State.{Frame, State}
use Rattle.qil_semantics.specs.Values.{first, second}
use Rattle.qil_code.specs.declared.numbered.NumberedOperand.{NumberedOperand}
use Rattle.qil_code.specs.declared.numbered.NumberedInst.{NumberedInst}
use Rattle.qil_code.specs.declared.numbered.NumberedInst.TheVariants as numbered
use Rattle.qil_code.specs.Numbered.{names_of, operand_of}
use Rattle.qil_shadow.specs.declared.constants.Reading.TheVariants as readings
use Rattle.qil_shadow.specs.declared.access.Action.TheVariants as actions
use Rattle.qil_shadow.specs.declared.suspicion.Place.{Place}
use Rattle.qil_shadow.specs.declared.shadow.Shadow.{Shadow}
use Rattle.qil_shadow.specs.Shadow as by_names
use Rattle.qil_shadow.specs.Bytes.{laid_origins, stored_origins}
use Rattle.qil_shadow.specs.Shadowed.{operand_origin}
use Rattle.qil_shadow.specs.Accesses.{access}
use Rattle.qil_shadow.specs.Spots.{HasSpot, origins_in}
use Rattle.qil_shadow.specs.Numbered.{value_in}
use Rattle.qil_shadow.specs.Doubts.{StandsFor, Reports}
use Rattle.qil_shadow.specs.Starting.{IsOf}
use Rattle.qil_shadow.specs.Reads.{IsRead, innermost, HasSlots}
use Rattle.qil_shadow.specs.Kept.{KeepsButMemory}
use Rattle.qil_shadow.specs.Instructions.{IsInst, IsSound, ShadowIs, FoundIs, HasDone}
use Rattle.qil_shadow.proofs.InstLemmas.{inst_read, reports_one}
use Rattle.qil_shadow.proofs.BlitLemmas.{copied_named}
use Rattle.qil_shadow.proofs.ValueLemmas.{Holds, val_long, val_set, first_read, second_read, none_held, none_set, word_is}
use Rattle.qil_semantics.specs.Slots.{temps_of}

abbrev width_of : {A : Type 0} → Width → NumberedInst A → Width
width_of d (numbered.Store w a b) = w
width_of d i = d

abbrev stored_of : {A : Type 0} → NumberedOperand → NumberedInst A → NumberedOperand
stored_of d (numbered.Store w a b) = a
stored_of d i = d

abbrev address_of : {A : Type 0} → NumberedOperand → NumberedInst A → NumberedOperand
address_of d (numbered.Store w a b) = b
address_of d i = d

-- the one of the tree, what it reads, and the values of that
pub record IsStore {A : Type 0} (p : Program A) (place : Place) (slots : List (Option ℕ)) (width : Width) (number address : NumberedOperand) (kind : InstKind A) (vs : List ℕ) : Type 0 where
  pub stored : Operand
  pub onto : Operand
  pub same : kind ≡ insts.Store width stored onto
  pub one : IsRead p place readings.First stored number
  pub other : IsRead p place readings.Second onto address
  pub at : (w : ℕ) × (value_in slots number ≡ Some w)
  pub to : Holds slots address (second vs)

pub is_store : {A : Type 0} (p : Program A) (place : Place) (slots : List (Option ℕ)) (width : Width) (number address : NumberedOperand) (kind : InstKind A) (vs : List ℕ)
    → IsInst p place slots (numbered.Store width number address) kind vs → IsStore p place slots width number address kind vs
is_store p place slots width number address (insts.Assign x e) vs is = absurd (let e = is.number in cc)
is_store p place slots width number address (insts.Alloc x op n) vs is = absurd (let e = is.number in cc)
is_store p place slots width number address (insts.Blit a b n) vs is = absurd (let e = is.number in cc)
is_store p place slots width number address (insts.Call x callee args) vs is = absurd (let e = is.number in cc)
is_store {A} p place slots width number address (insts.Store w a b) vs is =
    let ns = names_of p place.func.index in
    let s : number ≡ operand_of p ns a = ap (λ (i : NumberedInst A). stored_of number i) is.number in
    let t : address ≡ operand_of p ns b = ap (λ (i : NumberedInst A). address_of address i) is.number in
    record {
      stored = a;
      onto = b;
      same = ap (λ k. insts.Store k a b) (sym (ap (λ (i : NumberedInst A). width_of width i) is.number));
      one = inst_read p place slots (numbered.Store width number address) (insts.Store w a b) vs readings.First a number is refl s is.known.0;
      other = inst_read p place slots (numbered.Store width number address) (insts.Store w a b) vs readings.Second b address is refl t is.known.1.0;
      at = subst (λ (o : NumberedOperand). (w : ℕ) × (value_in slots o ≡ Some w)) (sym s) (val_set p ns slots (stored_class w) a (first vs) is.known.0 (first_read p (temps_of ns slots) (as_class (stored_class w) a) (as_class classes.L b ∷ []) vs is.values));
      to = subst (λ o. Holds slots o (second vs)) (sym t) (val_long p ns slots b (second vs) is.known.1.0 (second_read p (temps_of ns slots) (as_class (stored_class w) a) (as_class classes.L b) [] vs is.values));
    }

pub store_unset_number : {A : Type 0} (p : Program A) (place : Place) (slots : List (Option ℕ)) (width : Width) (number address : NumberedOperand) (was : Shadow A) → None ≡ value_in slots number
    → HasDone p place slots (numbered.Store width number address) was was
store_unset_number p place slots width number address was unset = record {
  shadow_is = λ kind vs s f fs is at calls stands sound. none_set slots number _ unset (is_store p place slots width number address kind vs is).at;
  found_is = λ kind vs s sh f is at stands. none_set slots number _ unset (is_store p place slots width number address kind vs is).at;
}

pub store_unset_address : {A : Type 0} (p : Program A) (place : Place) (slots : List (Option ℕ)) (width : Width) (number address : NumberedOperand) (was : Shadow A) → None ≡ value_in slots address
    → HasDone p place slots (numbered.Store width number address) was was
store_unset_address p place slots width number address was unset = record {
  shadow_is = λ kind vs s f fs is at calls stands sound. none_held slots address (second vs) _ unset (is_store p place slots width number address kind vs is).to;
  found_is = λ kind vs s sh f is at stands. none_held slots address (second vs) _ unset (is_store p place slots width number address kind vs is).to;
}

pub store_done : {A : Type 0} (p : Program A) (place : Place) (slots : List (Option ℕ)) (width : Width) (number address : NumberedOperand) (was now : Shadow A)
    → ((t : ℕ) → value_in slots address ≡ Some t → t < 2 ^ 64) → ((a : Operand) (v t : ℕ) → value_in slots number ≡ Some v → value_in slots address ≡ Some t → HasSpot t (width_bytes width) → IsOf p was.names was.calls.objects.starts was.data_end
    → HasSlots p place.func.index was.calls.calls → IsRead p place readings.First a number
    → origins_in now.memory ≡ laid_origins (origins_in was.memory) t (stored_origins (width_bytes width) (operand_origin p (innermost p place.func.index was.calls.calls) (stored_class width) a)))
    → ((b : Operand) (v t : ℕ) (s : State) (sh : by_names.Shadow) (f : Frame) → value_in slots number ≡ Some v → value_in slots address ≡ Some t → IsOf p was.names was.calls.objects.starts was.data_end
    → HasSlots p place.func.index was.calls.calls → IsRead p place readings.Second b address → StandsFor p s sh f was.calls.objects.objects was.calls.top was.position place
    → Reports p s sh f (access (actions.Store width) (operand_origin p (innermost p place.func.index was.calls.calls) classes.L b) t (width_bytes width)) was.found.items now.found.items)
    → KeepsButMemory was now → HasDone p place slots (numbered.Store width number address) was now
store_done {A} p place slots width number address was now low stores looks rest = record {
  shadow_is = λ kind vs s f fs is at calls stands sound.
      let k = is_store p place slots width number address kind vs is in
      let there : k.to.0 ≡ second vs = word_is k.to.0 (second vs) (low k.to.0 k.to.1) k.to.2 in
      let spot : HasSpot (second vs) (width_bytes width) = subst (λ (i : InstKind A). IsSound p s (length was.calls.calls) i vs) k.same sound in
      subst (λ (i : InstKind A). ShadowIs p place was now s f fs i vs) (sym k.same)
      (copied_named p place.func.index fs was now _ rest.calls_are rest.position_is
      (stores k.stored k.at.0 k.to.0 k.at.1 k.to.1 (subst (λ t. HasSpot t (width_bytes width)) (sym there) spot) at.own at.slots k.one
      ∙ ap (λ t. laid_origins (origins_in was.memory) t (stored_origins (width_bytes width) (operand_origin p (innermost p place.func.index was.calls.calls) (stored_class width) k.stored))) there));
  found_is = λ kind vs s sh f is at stands.
      let k = is_store p place slots width number address kind vs is in
      let t = innermost p place.func.index was.calls.calls in
      let there : k.to.0 ≡ second vs = word_is k.to.0 (second vs) (low k.to.0 k.to.1) k.to.2 in
      let noted = looks k.onto k.at.0 k.to.0 s sh f k.at.1 k.to.1 at.own at.slots k.other stands in
      subst (λ (i : InstKind A). FoundIs p place was now s sh f i vs) (sym k.same)
      (reports_one p s sh f (access (actions.Store width) (operand_origin p t classes.L k.onto) (second vs) (width_bytes width)) was.found.items now.found.items
      (subst (λ n. Reports p s sh f (access (actions.Store width) (operand_origin p t classes.L k.onto) n (width_bytes width)) was.found.items now.found.items) there noted));
}
