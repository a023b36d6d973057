-- In a well-formed program each temporary that a function names has a definition, and so a class.
use Rattle.std.proofs.Common.{◌≡◌, ◌∙◌, refl, sym, ap, subst, ℕ, zero, suc, inl, inr, true, List, [], ◌∷◌, Option, Some, None}
use Rattle.std.specs.Prelude.{option_map, unwrap_or, slice_get}
use Rattle.std.specs.Option.{option_or, option_and_then}
use Rattle.std.specs.Str.{bytes_eq}
use Rattle.std.proofs.lemmas.Option.{slice_get_within, get_or_from_slice_get}
use Rattle.std.proofs.lemmas.Slice.Eq.{bytes_eq-Decides}
use Rattle.qil_tree.specs.declared.ops.Class.{Class}
use Rattle.qil_tree.specs.declared.ops.Class.TheVariants as classes
use Rattle.qil_tree.specs.declared.tree.Func.{Func}
use Rattle.qil_tree.specs.declared.tree.Program.{Program}
use Rattle.qil_rules.specs.declared.rule.Rule.TheVariants.{C6}
use Rattle.qil_rules.specs.declared.occurrence.OccurrenceKind.{OccurrenceKind}
use Rattle.qil_rules.specs.declared.occurrence.OccurrenceKind.TheVariants.{Defines}
use Rattle.qil_rules.specs.declared.occurrence.Occurrence.{Occurrence}
use Rattle.qil_rules.specs.Occurrences.{func_occurrences}
use Rattle.qil_rules.specs.Text.{IsUndefined, IsTemporary}
use Rattle.qil_rules.specs.Rules.{WellFormed}
use Rattle.qil_semantics.specs.State.{Name}
use Rattle.qil_semantics.specs.Names.{temps_named}
use Rattle.qil_semantics.specs.Poke.{defined_by, class_in, temp_class}
use Rattle.qil_code.specs.Facts.{KnowsTemps}
use Rattle.qil_code.specs.Numbered.{class_of_temp, func_at, names_in, names_of}
use Rattle.qil_code.specs.Reading.{class_at}
use Rattle.qil_code.proofs.FactsNames.{func_text}
use Rattle.qil_code.proofs.FactsTemps.{temps_there}

none_some : {X Y : Type 0} {x : X} → None ≡ Some x → Y
none_some e = absurd (subst (λ o. elim o as (λ _. Type 0) [ None ↦ Unit {0} | Some y ↦ ⊥ ]) e tt)

none_behind : {X : Type 0} (here deep : Option X) → option_or here deep ≡ None → deep ≡ None
none_behind None deep e = e
none_behind (Some y) deep e = none_some (sym e)

defined_here : (x : Name) (c : Class) → defined_by (Defines x c) x ≡ Some c
defined_here x c = let same : bytes_eq x x ≡ true = (bytes_eq-Decides x x).1 refl in rw same refl

-- a name without a class has no definition
none_defined : (text : List Occurrence) (x : Name) → class_in text x ≡ None → IsUndefined text x
none_defined [] x none j c at = none_some at
none_defined (m ∷ text) x none zero c at =
    let here : defined_by m.what x ≡ Some c = ap (λ (w : OccurrenceKind). defined_by w x) (ap (λ o. unwrap_or o (Defines x c)) at) ∙ defined_here x c in
    none_some (sym none ∙ ap (λ o. option_or o (class_in text x)) here)
none_defined (m ∷ text) x none (suc j) c at = none_defined text x (none_behind (defined_by m.what x) (class_in text x) none) j c at

classed : (text : List Occurrence) (x : Name) (o : Option Class) → class_in text x ≡ o → (IsUndefined text x → ⊥) → class_in text x ≡ Some (unwrap_or (class_in text x) classes.W)
classed text x None e defined = absurd (defined (none_defined text x e))
classed text x (Some c) e defined = rw e refl

-- by rule C6
defined : {A : Type 0} (p : Program A) → WellFormed p → (n : ℕ) (f : Func A) → slice_get p.funcs n ≡ Some f → (x : Name) → IsTemporary (func_occurrences f) x → IsUndefined (func_occurrences f) x → ⊥
defined p kept n f there x (k, c, inl set) un = un k c set
defined p kept n f there x (k, c, inr used) un =
    let t = func_text p.order p.datas p.funcs n f there in
    kept C6 (record { text = t.0; occurrence = k }) (func_occurrences f, t.1, (x, c, used, un))

temp_there : {A : Type 0} (f : Func A) (s : ℕ) (x : Name) → slice_get (temps_named f) s ≡ Some x → IsTemporary (func_occurrences f) x
temp_there f s x at = subst (IsTemporary (func_occurrences f)) (get_or_from_slice_get (temps_named f) s x x at) (temps_there f s x (slice_get_within (temps_named f) s x at))

pub knows_temps : {A : Type 0} (p : Program A) → WellFormed p → KnowsTemps p
knows_temps p kept = record {
  known = λ i f s x there at. classed (func_occurrences f) x (class_in (func_occurrences f) x) refl (defined p kept i f there x (temp_there f s x at));
}

-- ---- what a reader of classes says

class_in_func : {A : Type 0} (p : Program A) (i s : ℕ) (x : Name) (o : Option (Func A)) → KnowsTemps p → func_at p i ≡ o → slice_get (names_in o) s ≡ Some x
    → option_and_then (λ func. option_map (class_of_temp func) (slice_get (temps_named func) s)) o ≡ temp_class o x
class_in_func p i s x None knows there at = none_some at
class_in_func p i s x (Some f) knows there at = ap (option_map (class_of_temp f)) at ∙ sym (knows.known i f s x there at)

pub class-known : {A : Type 0} (p : Program A) (i s : ℕ) (x : Name) → KnowsTemps p → slice_get (names_of p i) s ≡ Some x → class_at p i s ≡ temp_class (func_at p i) x
unfolding names_of
class-known p i s x knows at = class_in_func p i s x (func_at p i) knows refl at

pub no-class : {A : Type 0} (p : Program A) (i : ℕ) (x : Name) → func_at p i ≡ None → None ≡ temp_class (func_at p i) x
no-class {A} p i x e = sym (ap (λ (o : Option (Func A)). temp_class o x) e)
