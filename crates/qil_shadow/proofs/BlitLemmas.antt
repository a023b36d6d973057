-- What a blit does: it looks at the access to its source and, where that is live, at the one to its target, and copies the bytes.
use Rattle.std.proofs.Common.{◌≡◌, ◌∙◌, sym, ap, subst, refl, ℕ, ◌^◌, ◌<◌, Bool, true, false, List, [], ◌∷◌, ◌++◌, length, map, Option, Some, None, arith, append_assoc}
use Rattle.std.specs.Prelude.{◌==◌, if◌then◌else◌}
use Rattle.std.proofs.lemmas.Bool.{false≢true}
use Rattle.std.proofs.lemmas.Bool.Decides.{nat_tests}
use Rattle.std.proofs.lemmas.List.{append-nil}
use Rattle.qil_layout.proofs.BytesLemmas.{few_bytes}
use Rattle.qil_memory.specs.Calls.{overlap}
use Rattle.qil_tree.specs.declared.ops.Class.TheVariants as classes
use Rattle.qil_tree.specs.declared.tree.Operand.{Operand}
use Rattle.qil_tree.specs.declared.tree.InstKind.{InstKind}
use Rattle.qil_tree.specs.declared.tree.InstKind.TheVariants as insts
use Rattle.qil_tree.specs.declared.tree.Program.{Program}
use Rattle.qil_semantics.specs.State.{Frame, State}
use Rattle.qil_semantics.specs.Values.{first, second}
use Rattle.qil_code.specs.declared.numbered.NumberedOperand.{NumberedOperand}
use Rattle.qil_code.specs.declared.numbered.NumberedInst.{NumberedInst}
use Rattle.qil_code.specs.declared.numbered.NumberedInst.TheVariants as numbered
use Rattle.qil_code.specs.Numbered.{names_of, operand_of}
use Rattle.qil_shadow.specs.declared.origin.Origin.{Origin}
use Rattle.qil_shadow.specs.declared.constants.Reading.TheVariants as readings
use Rattle.qil_shadow.specs.declared.access.Action.TheVariants as actions
use Rattle.qil_shadow.specs.declared.suspicion.Place.{Place}
use Rattle.qil_shadow.specs.declared.suspicion.Suspicion.{Suspicion}
use Rattle.qil_shadow.specs.declared.shadow.Shadow.{Shadow}
use Rattle.qil_shadow.specs.Shadow as by_names
use Rattle.qil_shadow.specs.Bytes.{ByteOrigins, laid_origins, origins_at}
use Rattle.qil_shadow.specs.Shadowed.{operand_origin}
use Rattle.qil_shadow.specs.Accesses.{Access, access, are_live, blit_accesses, inst_accesses}
use Rattle.qil_shadow.specs.Suspicions as suspicions
use Rattle.qil_shadow.specs.Spots.{HasSpot, origins_in}
use Rattle.qil_shadow.specs.Numbered.{value_in, object_named, frames_by}
use Rattle.qil_shadow.specs.Doubts.{live_between, suspicion_named, StandsFor, Reports}
use Rattle.qil_shadow.specs.Starting.{IsOf}
use Rattle.qil_shadow.specs.Reads.{IsRead, innermost, HasSlots}
use Rattle.qil_shadow.specs.Kept.{Keeps, KeepsButMemory}
use Rattle.qil_shadow.specs.Instructions.{named, IsInst, IsSound, CopyIsSound, ReportsAll, ShadowIs, FoundIs, HasDone}
use Rattle.qil_shadow.proofs.WordLemmas.{laid_none}
use Rattle.qil_shadow.proofs.DoubtsByName.{live_by_name}
use Rattle.qil_shadow.proofs.KeptLemmas.{keeps_on, own_kept, stands_kept, slots_behind, reported_as}
use Rattle.qil_shadow.proofs.InstLemmas.{inst_read, reports_one, reports_none}
use Rattle.qil_memory.specs.qil_rules.Operands.{as_class}
use Rattle.qil_semantics.specs.Slots.{temps_of}
use Rattle.qil_shadow.proofs.ValueLemmas.{Holds, val_long, first_read, second_read, none_held, same_held}

-- ---- which instruction it is

abbrev count_of : {A : Type 0} → ℕ → NumberedInst A → ℕ
count_of n (numbered.Blit a b m) = m
count_of n i = n

abbrev source_of : {A : Type 0} → NumberedOperand → NumberedInst A → NumberedOperand
source_of d (numbered.Blit a b m) = a
source_of d i = d

abbrev target_of : {A : Type 0} → NumberedOperand → NumberedInst A → NumberedOperand
target_of d (numbered.Blit a b m) = b
target_of d i = d

-- the one of the tree, what it reads, and the values of that
pub record IsBlit {A : Type 0} (p : Program A) (place : Place) (slots : List (Option ℕ)) (source target : NumberedOperand) (count : ℕ) (kind : InstKind A) (vs : List ℕ) : Type 0 where
  pub from : Operand
  pub onto : Operand
  pub same : kind ≡ insts.Blit from onto count
  pub one : IsRead p place readings.First from source
  pub other : IsRead p place readings.Second onto target
  pub at : Holds slots source (first vs)
  pub to : Holds slots target (second vs)

pub is_blit : {A : Type 0} (p : Program A) (place : Place) (slots : List (Option ℕ)) (source target : NumberedOperand) (count : ℕ) (kind : InstKind A) (vs : List ℕ)
    → IsInst p place slots (numbered.Blit source target count) kind vs → IsBlit p place slots source target count kind vs
is_blit p place slots source target count (insts.Assign x e) vs is = absurd (let e = is.number in cc)
is_blit p place slots source target count (insts.Alloc x op n) vs is = absurd (let e = is.number in cc)
is_blit p place slots source target count (insts.Store w a b) vs is = absurd (let e = is.number in cc)
is_blit p place slots source target count (insts.Call x callee args) vs is = absurd (let e = is.number in cc)
is_blit {A} p place slots source target count (insts.Blit a b n) vs is =
    let ns = names_of p place.func.index in
    let s : source ≡ operand_of p ns a = ap (λ (i : NumberedInst A). source_of source i) is.number in
    let t : target ≡ operand_of p ns b = ap (λ (i : NumberedInst A). target_of target i) is.number in
    let c : count ≡ n = ap (λ (i : NumberedInst A). count_of count i) is.number in
    record {
      from = a;
      onto = b;
      same = ap (λ k. insts.Blit a b k) (sym c);
      one = inst_read p place slots (numbered.Blit source target count) (insts.Blit a b n) vs readings.First a source is refl s is.known.0;
      other = inst_read p place slots (numbered.Blit source target count) (insts.Blit a b n) vs readings.Second b target is refl t is.known.1.0;
      at = subst (λ o. Holds slots o (first vs)) (sym s) (val_long p ns slots a (first vs) is.known.0 (first_read p (temps_of ns slots) (as_class classes.L a) (as_class classes.L b ∷ []) vs is.values));
      to = subst (λ o. Holds slots o (second vs)) (sym t) (val_long p ns slots b (second vs) is.known.1.0 (second_read p (temps_of ns slots) (as_class classes.L a) (as_class classes.L b) [] vs is.values));
    }

-- ---- what is looked at

none_copied : (m q : Origin) (a b n : ℕ) (live : Bool) → n ≡ 0 → blit_accesses m q a b n live ≡ []
none_copied m q a b n live none = ap (λ k. blit_accesses m q a b k live) none

some_copied : (m q : Origin) (a b n : ℕ) (live : Bool) → 0 < n
    → blit_accesses m q a b n live ≡ access actions.CopyFrom m a n ∷ (if live then access actions.CopyTo q b n ∷ [] else [])
some_copied m q a b n live some =
    let none : (n == 0) ≡ false = grind (arith, nat_tests, some) in
    ap (λ c. if c then [] else (access actions.CopyFrom m a n ∷ (if live then access actions.CopyTo q b n ∷ [] else []))) none

pub reports_two : {A : Type 0} (p : Program A) (s : State) (sh : by_names.Shadow) (f : Frame) (a b : Access) (was mid now : List Suspicion) → Reports p s sh f a was mid → Reports p s sh f b mid now → ReportsAll p s sh f (a ∷ (b ∷ [])) was now
reports_two p s sh f a b was mid now one other =
    let x = suspicions.suspicion p s sh f a (suspicions.doubted sh.objects a a.origin) in
    let y = suspicions.suspicion p s sh f b (suspicions.doubted sh.objects b b.origin) in
    other ∙ ap (λ xs. xs ++ y) one ∙ append_assoc (map (suspicion_named p) was) x y ∙ ap (λ ys. map (suspicion_named p) was ++ (x ++ ys)) (sym (append-nil y))

-- ---- where an operand is unset, or no byte is copied

pub none_some : (o : Option ℕ) (v : ℕ) (X : Type 0) → None ≡ o → o ≡ Some v → X
none_some o v X none some = absurd (let e : None ≡ Some v = none ∙ some in cc)

pub blit_unset_source : {A : Type 0} (p : Program A) (place : Place) (slots : List (Option ℕ)) (source target : NumberedOperand) (count : ℕ) (was : Shadow A) → None ≡ value_in slots source
    → HasDone p place slots (numbered.Blit source target count) was was
blit_unset_source p place slots source target count was unset = record {
  shadow_is = λ kind vs s f fs is at calls stands sound. none_held slots source (first vs) _ unset (is_blit p place slots source target count kind vs is).at;
  found_is = λ kind vs s sh f is at stands. none_held slots source (first vs) _ unset (is_blit p place slots source target count kind vs is).at;
}

pub blit_unset_target : {A : Type 0} (p : Program A) (place : Place) (slots : List (Option ℕ)) (source target : NumberedOperand) (count : ℕ) (was : Shadow A) → None ≡ value_in slots target
    → HasDone p place slots (numbered.Blit source target count) was was
blit_unset_target p place slots source target count was unset = record {
  shadow_is = λ kind vs s f fs is at calls stands sound. none_held slots target (second vs) _ unset (is_blit p place slots source target count kind vs is).to;
  found_is = λ kind vs s sh f is at stands. none_held slots target (second vs) _ unset (is_blit p place slots source target count kind vs is).to;
}

laid_zero : (m : ByteOrigins) (a b n : ℕ) → n ≡ 0 → m ≡ laid_origins m b (origins_at m a n)
laid_zero m a b n none = sym (ap (λ k. laid_origins m b (origins_at m a k)) none ∙ laid_none m b)

pub blit_empty : {A : Type 0} (p : Program A) (place : Place) (slots : List (Option ℕ)) (source target : NumberedOperand) (count : ℕ) (was : Shadow A) → count ≡ 0
    → HasDone p place slots (numbered.Blit source target count) was was
blit_empty {A} p place slots source target count was none = record {
  shadow_is = λ kind vs s f fs is at calls stands sound.
      let b = is_blit p place slots source target count kind vs is in
      subst (λ (i : InstKind A). ShadowIs p place was was s f fs i vs) (sym b.same)
      (ap (λ (m : ByteOrigins). record (named p (place.func.index ∷ fs) was) { bytes = m }) (laid_zero (origins_in was.memory) (first vs) (second vs) count none));
  found_is = λ kind vs s sh f is at stands.
      let b = is_blit p place slots source target count kind vs is in
      let t = innermost p place.func.index was.calls.calls in
      subst (λ (i : InstKind A). FoundIs p place was was s sh f i vs) (sym b.same)
      (reports_none p s sh f (inst_accesses p s t (insts.Blit b.from b.onto count) vs) was.found.items was.found.items
      (none_copied (operand_origin p t classes.L b.from) (operand_origin p t classes.L b.onto) (first vs) (second vs) count (are_live p s (first vs) count) none) refl);
}

-- ---- the first access

-- what `look_through` says of an access through an operand
abbrev pub Looks : {A : Type 0} → Program A → Place → Shadow A → Shadow A → Access → Type 0
Looks p place was now a = (s : State) (sh : by_names.Shadow) (f : Frame) → IsOf p was.names was.calls.objects.starts was.data_end
    → StandsFor p s sh f was.calls.objects.objects was.calls.top was.position place → Reports p s sh f a was.found.items now.found.items

-- what an operand of an address is made of
abbrev pub IsOrigin : {A : Type 0} → Program A → Place → Shadow A → Operand → Origin → Type 0
IsOrigin p place was a m = IsOf p was.names was.calls.objects.starts was.data_end → HasSlots p place.func.index was.calls.calls → m ≡ operand_origin p (innermost p place.func.index was.calls.calls) classes.L a

live_is : {A : Type 0} (p : Program A) (s : State) (sh : by_names.Shadow) (f : Frame) (place : Place) (was mid : Shadow A) (a v n : ℕ) (b : Bool) → Keeps was mid → IsOf p was.names was.calls.objects.starts was.data_end
    → StandsFor p s sh f was.calls.objects.objects was.calls.top was.position place → a ≡ v → b ≡ live_between mid.data_end mid.calls.top a n → are_live p s v n ≡ b
live_is {A} p s sh f place was mid a v n b keeps own stands same live =
    live_by_name p s v n was.calls.top was.data_end own.end_is (few_bytes p own.starts_are.no_fault) stands.top_is
    ∙ sym (live ∙ (λ i. live_between (keeps.end_is i) (keeps.calls_are i).top (same i) n))

-- a source that isn't live
pub blit_dead : {A : Type 0} (p : Program A) (place : Place) (slots : List (Option ℕ)) (source target : NumberedOperand) (count a : ℕ) (was now : Shadow A) (m : Origin) (live : Bool) → 0 < count → Some a ≡ value_in slots source
    → a < 2 ^ 64 → ((x : Operand) → IsRead p place readings.First x source → IsOrigin p place was x m) → Looks p place was now (access actions.CopyFrom m a count) → Keeps was now
    → live ≡ live_between now.data_end now.calls.top a count → live ≡ false → HasDone p place slots (numbered.Blit source target count) was now
blit_dead {A} p place slots source target count a was now m live some value low origin looks keeps lives dead = record {
  shadow_is = λ kind vs s f fs is at calls stands sound.
      let b = is_blit p place slots source target count kind vs is in
      let copy : CopyIsSound p s (first vs) (second vs) count = (subst (λ (i : InstKind A). IsSound p s (length was.calls.calls) i vs) b.same sound) some in
      let same : a ≡ first vs = same_held slots source a (first vs) value b.at low in
      let no : are_live p s (first vs) count ≡ live = live_is p s (named p (place.func.index ∷ fs) was) f place was now a (first vs) count live keeps at.own stands same lives in
      absurd (false≢true (sym (no ∙ dead) ∙ copy.live));
  found_is = λ kind vs s sh f is at stands.
      let b = is_blit p place slots source target count kind vs is in
      let t = innermost p place.func.index was.calls.calls in
      let same : a ≡ first vs = same_held slots source a (first vs) value b.at low in
      let no : are_live p s (first vs) count ≡ false = live_is p s sh f place was now a (first vs) count live keeps at.own stands same lives ∙ dead in
      let one = operand_origin p t classes.L b.from in
      let other = operand_origin p t classes.L b.onto in
      let accesses : inst_accesses p s t (insts.Blit b.from b.onto count) vs ≡ access actions.CopyFrom one (first vs) count ∷ [] =
      some_copied one other (first vs) (second vs) count (are_live p s (first vs) count) some
      ∙ ap (λ c. access actions.CopyFrom one (first vs) count ∷ (if c then access actions.CopyTo other (second vs) count ∷ [] else [])) no in
      let noted = reported_as p s sh f was.found.items now.found.items actions.CopyFrom m one a (first vs) count count (origin b.from b.one at.own at.slots) same refl (looks s sh f at.own stands) in
      subst (λ (i : InstKind A). FoundIs p place was now s sh f i vs) (sym b.same)
      (subst (λ xs. ReportsAll p s sh f xs was.found.items now.found.items) (sym accesses) (reports_one p s sh f (access actions.CopyFrom one (first vs) count) was.found.items now.found.items noted));
}

-- ---- both, and the copy

pub copied_named : {A : Type 0} (p : Program A) (i : ℕ) (fs : List ℕ) (was now : Shadow A) (m : ByteOrigins) → now.calls ≡ was.calls → now.position ≡ was.position → origins_in now.memory ≡ m
    → named p (i ∷ fs) now ≡ record (named p (i ∷ fs) was) { bytes = m }
copied_named {A} p i fs was now m calls position memory =
    λ j. record { frames = frames_by p (i ∷ fs) (calls j).calls; bytes = memory j; objects = map (object_named p) (calls j).objects.objects; position = position j }

pub blit_done : {A : Type 0} (p : Program A) (place : Place) (slots : List (Option ℕ)) (source target : NumberedOperand) (count a b : ℕ) (was mid behind now : Shadow A) (m q : Origin) (live : Bool) → 0 < count
    → Some a ≡ value_in slots source → Some b ≡ value_in slots target
    → a < 2 ^ 64 → b < 2 ^ 64 → ((x : Operand) → IsRead p place readings.First x source → IsOrigin p place was x m) → Looks p place was mid (access actions.CopyFrom m a count) → Keeps was mid
    → live ≡ live_between mid.data_end mid.calls.top a count → live ≡ true
    → ((x : Operand) → IsRead p place readings.Second x target → IsOrigin p place mid x q) → Looks p place mid behind (access actions.CopyTo q b count) → Keeps mid behind
    → KeepsButMemory behind now → now.found.items ≡ behind.found.items
    → (HasSpot a count → HasSpot b count → overlap a b count ≡ false → origins_in now.memory ≡ laid_origins (origins_in behind.memory) b (origins_at (origins_in behind.memory) a count))
    → HasDone p place slots (numbered.Blit source target count) was now
blit_done {A} p place slots source target count a b was mid behind now m q live some value other_value low other_low origin looks keeps lives alive other_origin other_looks other_keeps last found copies = record {
  shadow_is = λ kind vs s f fs is at calls stands sound.
      let k = is_blit p place slots source target count kind vs is in
      let copy : CopyIsSound p s (first vs) (second vs) count = (subst (λ (i : InstKind A). IsSound p s (length was.calls.calls) i vs) k.same sound) some in
      let all = keeps_on was mid behind keeps other_keeps in
      let same : a ≡ first vs = same_held slots source a (first vs) value k.at low in
      let there : b ≡ second vs = same_held slots target b (second vs) other_value k.to other_low in
      let apart : overlap a b count ≡ false = (λ i. overlap (same i) (there i) count) ∙ copy.apart in
      let memory : origins_in now.memory ≡ laid_origins (origins_in was.memory) (second vs) (origins_at (origins_in was.memory) (first vs) count) =
      copies (subst (λ v. HasSpot v count) (sym same) copy.source) (subst (λ v. HasSpot v count) (sym there) copy.target) apart
      ∙ (λ i. laid_origins (origins_in (all.memory_is i)) (there i) (origins_at (origins_in (all.memory_is i)) (same i) count)) in
      subst (λ (i : InstKind A). ShadowIs p place was now s f fs i vs) (sym k.same)
      (copied_named p place.func.index fs was now _ (last.calls_are ∙ all.calls_are) (last.position_is ∙ all.position_is) memory);
  found_is = λ kind vs s sh f is at stands.
      let k = is_blit p place slots source target count kind vs is in
      let t = innermost p place.func.index was.calls.calls in
      let same : a ≡ first vs = same_held slots source a (first vs) value k.at low in
      let there : b ≡ second vs = same_held slots target b (second vs) other_value k.to other_low in
      let yes : are_live p s (first vs) count ≡ true = live_is p s sh f place was mid a (first vs) count live keeps at.own stands same lives ∙ alive in
      let one = operand_origin p t classes.L k.from in
      let other = operand_origin p t classes.L k.onto in
      let accesses : inst_accesses p s t (insts.Blit k.from k.onto count) vs ≡ access actions.CopyFrom one (first vs) count ∷ (access actions.CopyTo other (second vs) count ∷ []) =
      some_copied one other (first vs) (second vs) count (are_live p s (first vs) count) some
      ∙ ap (λ c. access actions.CopyFrom one (first vs) count ∷ (if c then access actions.CopyTo other (second vs) count ∷ [] else [])) yes in
      let noted = reported_as p s sh f was.found.items mid.found.items actions.CopyFrom m one a (first vs) count count (origin k.from k.one at.own at.slots) same refl (looks s sh f at.own stands) in
      let own = own_kept p was mid keeps at.own in
      let made : q ≡ other =
      other_origin k.onto k.other own (slots_behind p place.func.index was mid keeps at.slots) ∙ (λ i. operand_origin p (innermost p place.func.index (keeps.calls_are i).calls) classes.L k.onto) in
      let other_noted = reported_as p s sh f mid.found.items behind.found.items actions.CopyTo q other b (second vs) count count made there refl (other_looks s sh f own (stands_kept p s sh f place was mid keeps stands)) in
      subst (λ (i : InstKind A). FoundIs p place was now s sh f i vs) (sym k.same)
      (subst (λ xs. ReportsAll p s sh f xs was.found.items now.found.items) (sym accesses)
      (subst (λ (xs : List Suspicion). ReportsAll p s sh f (access actions.CopyFrom one (first vs) count ∷ (access actions.CopyTo other (second vs) count ∷ [])) was.found.items xs) (sym found)
      (reports_two p s sh f (access actions.CopyFrom one (first vs) count) (access actions.CopyTo other (second vs) count) was.found.items mid.found.items behind.found.items noted other_noted)));
}
