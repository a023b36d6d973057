-- The call that the innermost frame is of: by its number and its slots, and by names.
use Rattle.std.proofs.Common.{◌≡◌, ◌<◌, ◌≤◌, refl, sym, ap, ◌∙◌, subst, ℕ, zero, suc, Bool, true, false, if◌then◌else◌, List, [], ◌∷◌, ◌++◌, length, map, Option, Some, None, arith}
use Rattle.std.specs.Prelude.{option_map, unwrap_or, slice_get}
use Rattle.std.specs.List.{flat_map}
use Rattle.std.specs.Str.{bytes_eq}
use Rattle.std.proofs.lemmas.List.{length-map}
use Rattle.std.proofs.lemmas.Option.{slice_get-map}
use Rattle.qil_tree.specs.declared.ops.AbiType.{AbiType}
use Rattle.qil_tree.specs.declared.tree.Param.{Param}
use Rattle.qil_tree.specs.declared.tree.Func.{Func}
use Rattle.qil_tree.specs.declared.tree.Program.{Program}
use Rattle.qil_symbols.specs.Numbers.{place_of}
use Rattle.qil_semantics.specs.State.{Name, Temps}
use Rattle.qil_semantics.specs.Names.{block_names, temps_named}
use Rattle.qil_semantics.specs.Slots.{temps_of}
use Rattle.qil_semantics.specs.Step.{func_named}
use Rattle.qil_code.specs.declared.numbered.Slot.{Slot}
use Rattle.qil_code.specs.Facts.{Finds}
use Rattle.qil_code.specs.Numbered.{func_at, names_of, slot_in, param_of}
use Rattle.qil_code.specs.Reading.{params_at}
use Rattle.qil_code.proofs.Has.{Has, HasAll, HasAll-left, once-has}
use Rattle.qil_frames.specs.Frames.{SlotFrame}
use Rattle.qil_state.specs.State.{func_name, frames_state, FramesFit}
use Rattle.qil_state.proofs.Leaving.{FuncHere, func_here}
use Rattle.qil_state.proofs.Place.{none_some, some_same, names_here}
use Rattle.qil_compare.specs.Seen.{Value, seen}
use Rattle.qil_compare.specs.Coded.{value_or_zero, held_or_zero}
use Rattle.qil_compare.specs.Events.{param_seen, params_seen, call_name, call_params}

-- ---- the name

pub name_first : {A : Type 0} (p : Program A) (fs : List SlotFrame) (f : SlotFrame) (i : ℕ) (name : Name) → slice_get fs 0 ≡ Some f → i ≡ f.func → name ≡ func_name (func_at p i) → name ≡ call_name (frames_state p fs)
name_first p [] f i name first e is = none_some first
name_first {A} p (g ∷ gs) f i name first e is = is ∙ ap (λ n. func_name (func_at p n)) e ∙ ap (λ (h : SlotFrame). func_name (func_at p h.func)) (sym (some_same g f first))

pub name_none : {A : Type 0} (p : Program A) (fs : List SlotFrame) → slice_get fs 0 ≡ None → [] ≡ call_name (frames_state p fs)
name_none p [] first = refl
name_none p (f ∷ fs) first = none_some (sym first)

-- ---- what a temporary's slot holds

slot_head : (b : Bool) (ns : List Name) (vs : List (Option ℕ)) (v : Option ℕ) (x : Name) (o : Option ℕ) (i : ℕ) → ((j : ℕ) → o ≡ Some j → value_or_zero (slice_get vs j) ≡ unwrap_or (temps_of ns vs x) 0)
    → (if b then Some 0 else option_map (λ j. suc j) o) ≡ Some i → value_or_zero (slice_get (v ∷ vs) i) ≡ unwrap_or (if b then v else temps_of ns vs x) 0
slot_head true ns vs v x o i deep e = ap (λ k. value_or_zero (slice_get (v ∷ vs) k)) (sym (some_same 0 i e))
slot_head false ns vs v x None i deep e = none_some e
slot_head false ns vs v x (Some j) i deep e = ap (λ k. value_or_zero (slice_get (v ∷ vs) k)) (sym (some_same (suc j) i e)) ∙ deep j refl

slot_named : (ns : List Name) (vs : List (Option ℕ)) (x : Name) (i : ℕ) → place_of ns x ≡ Some i → value_or_zero (slice_get vs i) ≡ unwrap_or (temps_of ns vs x) 0
unfolding place_of temps_of
slot_named [] vs x i e = none_some e
slot_named (n ∷ ns) [] x i e = refl
slot_named (n ∷ ns) (v ∷ vs) x i e = slot_head (bytes_eq n x) ns vs v x (place_of ns x) i (λ j at. slot_named ns vs x j at) e

held_named : (ns : List Name) (vs : List (Option ℕ)) (x : Name) → Has ns x → held_or_zero vs (slot_in ns x) ≡ unwrap_or (temps_of ns vs x) 0
held_named ns vs x has = ap (λ o. value_or_zero (slice_get vs (unwrap_or o 0))) has.1 ∙ slot_named ns vs x has.0 has.1

-- ---- the parameters

has_at : (ns : List Name) (qs : List Param) (i : ℕ) (q : Param) → HasAll ns (map (λ q. q.name) qs) → slice_get qs i ≡ Some q → Has ns q.name
has_at ns [] i q all at = none_some at
has_at ns (r ∷ qs) zero q all at = subst (λ (x : Param). Has ns x.name) (some_same r q at) all.0
has_at ns (r ∷ qs) (suc i) q all at = has_at ns qs i q all.1 at

param_has : {A : Type 0} (func : Func A) (i : ℕ) (q : Param) → slice_get func.params i ≡ Some q → Has (temps_named func) q.name
param_has func i q at =
    let params = map (λ q. q.name) func.params in
    let blocks = flat_map block_names func.blocks in
    has_at (temps_named func) func.params i q (HasAll-left (temps_named func) params blocks (once-has (params ++ blocks))) at

-- what the parameters of a frame are, of a function that is there
record ParamsHere {A : Type 0} (p : Program A) (f : SlotFrame) (fs : List SlotFrame) : Type 0 where
  func : Func A
  func_is : func_at p f.func ≡ Some func
  named : call_params p (frames_state p (f ∷ fs)) ≡ map (param_seen p (temps_of (names_of p f.func) f.slots)) func.params
  numbered : params_at p f.func ≡ map (param_of (temps_named func)) func.params

params_here : {A : Type 0} (p : Program A) (f : SlotFrame) (fs : List SlotFrame) → Finds p → FramesFit p (f ∷ fs) → ParamsHere p f fs
params_here {A} p f fs finds fits =
    let here : FuncHere p f = func_here p f fits.0 in
    let temps : Temps = temps_of (names_of p f.func) f.slots in
    record {
      func = here.func;
      func_is = here.func_is;
      named = ap (λ (o : Option (Func A)). params_seen p temps (func_named p.funcs (func_name o))) here.func_is ∙ ap (params_seen p temps) (finds.func f.func here.func here.func_is);
      numbered = ap (λ (o : Option (Func A)). unwrap_or (option_map (λ (func : Func A). map (param_of (temps_named func)) func.params) o) []) here.func_is;
    }

pub count_first : {A : Type 0} (p : Program A) (fs : List SlotFrame) (f : SlotFrame) (i n : ℕ) → Finds p → FramesFit p fs → slice_get fs 0 ≡ Some f → i ≡ f.func → n ≡ length (params_at p i) → n ≡ length (call_params p (frames_state p fs))
count_first p [] f i n finds fits first e is = none_some first
count_first {A} p (g ∷ gs) f i n finds fits first e is =
    let here : ParamsHere p g gs = params_here p g gs finds fits in
    is ∙ ap (λ k. length (params_at p k)) (e ∙ ap (λ (h : SlotFrame). h.func) (sym (some_same g f first)))
    ∙ ap length here.numbered ∙ length-map here.func.params (param_of (temps_named here.func))
    ∙ sym (ap length here.named ∙ length-map here.func.params (param_seen p (temps_of (names_of p g.func) g.slots)))

pub count_none : {A : Type 0} (p : Program A) (fs : List SlotFrame) → slice_get fs 0 ≡ None → 0 ≡ length (call_params p (frames_state p fs))
count_none p [] first = refl
count_none p (f ∷ fs) first = none_some (sym first)

abbrev slot_seen : {A : Type 0} → Program A → List (Option ℕ) → Slot × AbiType → Value
slot_seen p slots param = seen p param.1 (held_or_zero slots param.0)

param_here : {A : Type 0} (p : Program A) (f : SlotFrame) (func : Func A) (k : ℕ) (o : Option Param) → func_at p f.func ≡ Some func → slice_get func.params k ≡ o
    → option_map (slot_seen p f.slots) (option_map (param_of (temps_named func)) o) ≡ option_map (param_seen p (temps_of (names_of p f.func) f.slots)) o
param_here p f func k None ef eo = refl
param_here p f func k (Some q) ef eo =
    let ns : List Name = temps_named func in
    let names : names_of p f.func ≡ ns = names_here p f.func func ef in
    ap (λ v. Some (seen p q.abi_type v)) (held_named ns f.slots q.name (param_has func k q eo) ∙ ap (λ ms. unwrap_or (temps_of ms f.slots q.name) 0) (sym names))

-- one of them, by its slot
pub param_first : {A : Type 0} (p : Program A) (fs : List SlotFrame) (f : SlotFrame) (i k : ℕ) (param : Slot × AbiType) (v : Value) → Finds p → FramesFit p fs → slice_get fs 0 ≡ Some f → i ≡ f.func → slice_get (params_at p i) k ≡ Some param
    → v ≡ seen p param.1 (held_or_zero f.slots param.0) → Some v ≡ slice_get (call_params p (frames_state p fs)) k
param_first p [] f i k param v finds fits first e at is = none_some first
param_first {A} p (g ∷ gs) f i k param v finds fits first e at is =
    let same : g ≡ f = some_same g f first in
    let here : ParamsHere p g gs = params_here p g gs finds fits in
    let ns : List Name = temps_named here.func in
    let there : slice_get (map (param_of ns) here.func.params) k ≡ Some param = ap (λ qs. slice_get qs k) (sym here.numbered) ∙ ap (λ n. slice_get (params_at p n) k) (ap (λ (h : SlotFrame). h.func) same ∙ sym e) ∙ at in
    ap Some is
    ∙ ap (λ (h : SlotFrame). Some (slot_seen p h.slots param)) (sym same)
    ∙ ap (option_map (slot_seen p g.slots)) (sym there ∙ slice_get-map (param_of ns) here.func.params k)
    ∙ param_here p g here.func k (slice_get here.func.params k) here.func_is refl
    ∙ sym (slice_get-map (param_seen p (temps_of (names_of p g.func) g.slots)) here.func.params k)
    ∙ ap (λ vs. slice_get vs k) (sym here.named)

-- there is none past them
pub param_past : {A : Type 0} {X : Type 0} (p : Program A) (fs : List SlotFrame) (f : SlotFrame) (i k : ℕ) → Finds p → FramesFit p fs → slice_get fs 0 ≡ Some f → i ≡ f.func → length (params_at p i) ≤ k → k < length (call_params p (frames_state p fs)) → X
param_past p fs f i k finds fits first e past within =
    let same = count_first p fs f i (length (params_at p i)) finds fits first e refl in
    absurd (omega (arith, same, past, within))

pub param_none : {A : Type 0} {X : Type 0} (p : Program A) (fs : List SlotFrame) (k : ℕ) → slice_get fs 0 ≡ None → k < length (call_params p (frames_state p fs)) → X
param_none p fs k first within = let none = count_none p fs first in absurd (omega (arith, none, within))
