-- In a well-formed program no two data objects have one name.
use Rattle.std.proofs.Common.{◌≡◌, sym, ap, refl, ℕ, zero, suc, ◌<◌, ◌≤◌, inl, ⊎_elim, List, [], ◌∷◌, ◌++◌, map, slice_get, Some, arith}
use Rattle.std.proofs.lemmas.Bool.{cases_lt}
use Rattle.qil_tree.specs.declared.tree.Data.{Data}
use Rattle.qil_tree.specs.declared.tree.Func.{Func}
use Rattle.qil_tree.specs.declared.tree.Definition.{Definition}
use Rattle.qil_tree.specs.declared.tree.Definition.TheVariants as definitions
use Rattle.qil_tree.specs.declared.tree.Program.{Program}
use Rattle.qil_rules.specs.declared.rule.Rule.TheVariants.{C1}
use Rattle.qil_rules.specs.declared.occurrence.OccurrenceKind.TheVariants.{DataName}
use Rattle.qil_rules.specs.declared.occurrence.Occurrence.{Occurrence}
use Rattle.qil_rules.specs.Occurrences.{data_occurrences, func_occurrences, texts_in}
use Rattle.qil_rules.specs.Rules.{WellFormed}
use Rattle.qil_layout_builder.specs.Laws.{HaveOwnNames}
use Rattle.qil_layout_builder.proofs.Starts.{same_object}

-- a text stands among these, and two do, the one before the other
abbrev One : List (List Occurrence) → List Occurrence → Type 0
One all t = (n : ℕ) × (slice_get all n ≡ Some t)

record Two (all : List (List Occurrence)) (s t : List Occurrence) : Type 0 where
  m : ℕ
  n : ℕ
  before : m < n
  first : slice_get all m ≡ Some s
  second : slice_get all n ≡ Some t

one_more : (all : List (List Occurrence)) (s t : List Occurrence) → One all t → One (s ∷ all) t
one_more all s t (n, h) = (suc n, h)

two_more : (all : List (List Occurrence)) (r s t : List Occurrence) → Two all s t → Two (r ∷ all) s t
two_more all r s t w = let l = w.before in record { m = suc w.m; n = suc w.n; before = omega (arith, l); first = w.first; second = w.second }

same_occurrences : {A : Type 0} (d e : Data A) → Some e ≡ Some d → Some (data_occurrences e) ≡ Some (data_occurrences d)
same_occurrences {A} d e h = ap (λ (o : Data A). Some (data_occurrences o)) (same_object d e h)

one_map : {A : Type 0} (ds : List (Data A)) (others : List (List Occurrence)) (k : ℕ) (d : Data A) → slice_get ds k ≡ Some d → slice_get (map data_occurrences ds ++ others) k ≡ Some (data_occurrences d)
one_map [] others k d h = absurd cc
one_map (e ∷ ds) others zero d h = same_occurrences d e h
one_map (e ∷ ds) others (suc k) d h = one_map ds others k d h

one : {A : Type 0} (order : List Definition) (ds : List (Data A)) (fs : List (Func A)) (k : ℕ) (d : Data A) → slice_get ds k ≡ Some d → One (texts_in order ds fs) (data_occurrences d)
one [] ds fs k d h = (k, one_map ds (map func_occurrences fs) k d h)
one (definitions.Data ∷ order) [] fs k d h = absurd cc
one (definitions.Data ∷ order) (e ∷ ds) fs zero d h = (0, same_occurrences d e h)
one (definitions.Data ∷ order) (e ∷ ds) fs (suc k) d h = one_more (texts_in order ds fs) (data_occurrences e) (data_occurrences d) (one order ds fs k d h)
one (definitions.Func ∷ order) ds [] k d h = one order ds [] k d h
one (definitions.Func ∷ order) ds (f ∷ fs) k d h = one_more (texts_in order ds fs) (func_occurrences f) (data_occurrences d) (one order ds fs k d h)

two : {A : Type 0} (order : List Definition) (ds : List (Data A)) (fs : List (Func A)) (j k : ℕ) (d e : Data A) → j < k → slice_get ds j ≡ Some d → slice_get ds k ≡ Some e → Two (texts_in order ds fs) (data_occurrences d) (data_occurrences e)
two [] ds fs j k d e l h i = record { m = j; n = k; before = l; first = one_map ds (map func_occurrences fs) j d h; second = one_map ds (map func_occurrences fs) k e i }
two (definitions.Data ∷ order) [] fs j k d e l h i = absurd cc
two (definitions.Data ∷ order) (c ∷ ds) fs j zero d e l h i = absurd (omega arith)
two (definitions.Data ∷ order) (c ∷ ds) fs zero (suc k) d e l h i =
    let o = one order ds fs k e i in
    record { m = 0; n = suc o.0; before = omega arith; first = same_occurrences d c h; second = o.1 }
two (definitions.Data ∷ order) (c ∷ ds) fs (suc j) (suc k) d e l h i =
    two_more (texts_in order ds fs) (data_occurrences c) (data_occurrences d) (data_occurrences e) (two order ds fs j k d e (omega arith) h i)
two (definitions.Func ∷ order) ds [] j k d e l h i = two order ds [] j k d e l h i
two (definitions.Func ∷ order) ds (f ∷ fs) j k d e l h i =
    two_more (texts_in order ds fs) (func_occurrences f) (data_occurrences d) (data_occurrences e) (two order ds fs j k d e l h i)

not_before : {A : Type 0} (p : Program A) → WellFormed p → (j k : ℕ) (d e : Data A) → j < k → slice_get p.datas j ≡ Some d → slice_get p.datas k ≡ Some e → d.name ≡ e.name → ⊥
not_before p kept j k d e l h i same =
    let w = two p.order p.datas p.funcs j k d e l h i in
    kept C1 (record { text = w.n; occurrence = 0 }) (data_occurrences e, w.second, (e.name, inl refl, (w.m, w.before, (data_occurrences d, w.first, inl (ap (λ x. Some (DataName x)) same)))))

pub own_names : {A : Type 0} (p : Program A) → WellFormed p → HaveOwnNames p
own_names p kept j k d e h i same = ⊎_elim
    (λ (l : j < k). absurd (not_before p kept j k d e l h i same))
    (λ (l : k ≤ j). ⊎_elim
    (λ (m : k < j). absurd (not_before p kept k j e d m i h (sym same)))
    (λ (m : j ≤ k). omega (arith, l, m))
    (cases_lt k j))
    (cases_lt j k)
