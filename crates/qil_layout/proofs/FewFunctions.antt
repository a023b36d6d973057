-- A well-formed program has at most 1,000 functions.
use Rattle.std.proofs.Common.{◌≡◌, ◌∙◌, sym, ap, refl, subst, ℕ, zero, suc, ◌+◌, ◌<◌, ◌≤◌, ◌⊎◌, inl, inr, ⊎_elim, Bool, true, false, cond, List, [], ◌∷◌, ◌++◌, map, take, get_or, length, Some, slice_get, arith}
use Rattle.std.specs.List.{count_by}
use Rattle.std.proofs.lemmas.Bool.{cases_lt}
use Rattle.std.proofs.lemmas.List.{take_all}
use Rattle.std.proofs.lemmas.List.Sums.{count_by_more_yes, count_by_more_no}
use Rattle.std.proofs.lemmas.List.Recursion.{is_count_by}
use Rattle.std.proofs.lemmas.Option.{slice_get-get_or}
use Rattle.qil_tree.specs.declared.tree.Data.{Data}
use Rattle.qil_tree.specs.declared.tree.Func.{Func}
use Rattle.qil_tree.specs.declared.tree.Definition.{Definition}
use Rattle.qil_tree.specs.declared.tree.Definition.TheVariants as definitions
use Rattle.qil_tree.specs.declared.tree.Program.{Program}
use Rattle.qil_rules.specs.declared.rule.Rule.TheVariants.{C12}
use Rattle.qil_rules.specs.declared.occurrence.OccurrenceKind.{OccurrenceKind}
use Rattle.qil_rules.specs.declared.occurrence.OccurrenceKind.TheVariants.{DataName, FunctionName, Label, Edge, PhiLabel, PhiOf, Defines, Uses, Global, Returns, Long}
use Rattle.qil_rules.specs.declared.occurrence.Occurrence.{Occurrence}
use Rattle.qil_rules.specs.Occurrences.{data_occurrences, func_occurrences, texts_in, texts}
use Rattle.qil_rules.specs.Text.{IsAt}
use Rattle.qil_rules.specs.Rules.{WellFormed, is_function, begins_function}

-- ---- as many function texts as functions

abbrev number : List (List Occurrence) → ℕ
number [] = 0
number (t ∷ ts) = cond (is_function t) (1 + number ts) (number ts)

counted : (ts : List (List Occurrence)) → number ts ≡ count_by is_function ts
counted ts = is_count_by number is_function refl (λ t ts. refl) ts

only_funcs : {A : Type 0} (ds : List (Data A)) (fs : List (Func A)) → number (map data_occurrences ds ++ map func_occurrences fs) ≡ length fs
only_funcs [] [] = refl
only_funcs [] (f ∷ fs) = let more = only_funcs [] fs in omega (arith, more)
only_funcs (d ∷ ds) fs = only_funcs ds fs

all_funcs : {A : Type 0} (order : List Definition) (ds : List (Data A)) (fs : List (Func A)) → number (texts_in order ds fs) ≡ length fs
all_funcs [] ds fs = only_funcs ds fs
all_funcs (definitions.Data ∷ order) [] fs = all_funcs order [] fs
all_funcs (definitions.Data ∷ order) (d ∷ ds) fs = all_funcs order ds fs
all_funcs (definitions.Func ∷ order) ds [] = all_funcs order ds []
all_funcs (definitions.Func ∷ order) ds (f ∷ fs) = let more = all_funcs order ds fs in omega (arith, more)

-- ---- the one after the first k

pub record Behind (k : ℕ) (ts : List (List Occurrence)) : Type 0 where
  pub place : ℕ
  pub text : List Occurrence
  pub there : slice_get ts place ≡ Some text
  pub function : is_function text ≡ true
  pub before : count_by is_function (take place ts) ≡ k

step : (k : ℕ) (ts : List (List Occurrence)) (i : ℕ) (b : Bool) → i < length ts → is_function (get_or ts i []) ≡ b → count_by is_function (take i ts) ≤ k
    → (count_by is_function (take (i + 1) ts) ≤ k) ⊎ Behind k ts
step k ts i false l is few = let more = count_by_more_no is_function ts i [] l is in inl (omega (arith, few, more))
step k ts i true l is few =
    let more = count_by_more_yes is_function ts i [] l is in
    elim (cases_lt (count_by is_function (take i ts)) k) [
      | inl lt ↦ inl (omega (arith, lt, more))
      | inr le ↦ inr (record { place = i; text = get_or ts i []; there = slice_get-get_or ts i [] l; function = is; before = omega (arith, few, le) })
    ]

few_or_behind : (k : ℕ) (ts : List (List Occurrence)) (i : ℕ) → i ≤ length ts → (count_by is_function (take i ts) ≤ k) ⊎ Behind k ts
few_or_behind k ts zero l = inl (omega arith)
few_or_behind k ts (suc i) l =
    let next : i + 1 ≡ suc i = omega arith in
    ⊎_elim (λ few. subst (λ n. (count_by is_function (take n ts) ≤ k) ⊎ Behind k ts) next (step k ts i (is_function (get_or ts i [])) (omega (arith, l)) refl few)) (λ b. inr b) (few_or_behind k ts i (omega (arith, l)))

begins : (m : Occurrence) (w : OccurrenceKind) → m.what ≡ w → begins_function w ≡ true → (x : List ℕ) × (m.what ≡ FunctionName x)
begins m (FunctionName x) is e = (x, is)
begins m (DataName x) is e = absurd cc
begins m (Label x) is e = absurd cc
begins m (Edge x y) is e = absurd cc
begins m (PhiLabel x) is e = absurd cc
begins m (PhiOf x y) is e = absurd cc
begins m (Defines x c) is e = absurd cc
begins m (Uses x c) is e = absurd cc
begins m (Global x) is e = absurd cc
begins m (Returns x) is e = absurd cc
begins m (Long x) is e = absurd cc

head_stands : (text : List Occurrence) → is_function text ≡ true → (x : List ℕ) × IsAt text 0 (FunctionName x)
head_stands [] e = absurd cc
head_stands (m ∷ text) e = let b = begins m m.what refl e in (b.0, ap Some b.1)

pub few_functions : {A : Type 0} (p : Program A) → WellFormed p → length p.funcs ≤ 1000
few_functions p kept =
    let all = texts p in
    let count = sym (counted all) ∙ all_funcs p.order p.datas p.funcs in
    let whole : take (length all) all ≡ all = take_all (length all) all (omega arith) in
    let same = ap (count_by is_function) whole in
    ⊎_elim (λ few. omega (arith, few, count, same))
    (λ b. let h = head_stands b.text b.function in absurd (kept C12 (record { text = b.place; occurrence = 0 }) (b.text, b.there, (h.0, h.1, inr (inr b.before)))))
    (few_or_behind 1000 all (length all) (omega arith))
