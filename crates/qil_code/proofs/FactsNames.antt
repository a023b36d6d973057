-- Functions of a well-formed program: where their texts stand, that no two have one name, and that a name finds what has it.
use Rattle.std.proofs.Common.{◌≡◌, ◌∙◌, refl, ap, ℕ, zero, suc, ◌<◌, inr, Bool, true, false, if◌then◌else◌, List, [], ◌∷◌, ◌++◌, map, find, slice_get, Option, Some, option_map, unwrap_or, bytes_eq, arith}
use Rattle.std.proofs.lemmas.Option.{slice_get-map}
use Rattle.std.proofs.lemmas.Slice.Eq.{bytes_eq-Decides}
use Rattle.qil_tree.specs.declared.tree.Data.{Data}
use Rattle.qil_tree.specs.declared.tree.Func.{Func}
use Rattle.qil_tree.specs.declared.tree.Definition.{Definition}
use Rattle.qil_tree.specs.declared.tree.Definition.TheVariants as definitions
use Rattle.qil_tree.specs.declared.tree.Program.{Program}
use Rattle.qil_rules.specs.declared.rule.Rule.TheVariants.{C1}
use Rattle.qil_rules.specs.declared.occurrence.OccurrenceKind.TheVariants.{FunctionName}
use Rattle.qil_rules.specs.Occurrences.{data_occurrences, func_occurrences, texts_in}
use Rattle.qil_rules.specs.Rules.{WellFormed}
use Rattle.qil_symbols.specs.Numbers.{place_of}
use Rattle.qil_semantics.specs.State.{Name}
use Rattle.qil_code.proofs.Spots.{One, Two, one_more, two_more, one_behind}
use Rattle.qil_code.proofs.Apart.{AreApart}

-- ---- elements of a list that is mapped

pub mapped_at : {X Y : Type 0} (v : X → Y) (xs : List X) (k : ℕ) (x : X) → slice_get xs k ≡ Some x → slice_get (map v xs) k ≡ Some (v x)
mapped_at v xs k x e = slice_get-map v xs k ∙ ap (option_map v) e

-- what an element of the mapped list is made of
pub made_of : {X Y : Type 0} (v : X → Y) (xs : List X) (k : ℕ) (y : Y) → slice_get (map v xs) k ≡ Some y → (x : X) × (slice_get xs k ≡ Some x) × (v x ≡ y)
made_of v [] k y e = absurd cc
made_of v (x ∷ xs) zero y e = (x, refl, ap (λ o. unwrap_or o y) e)
made_of v (x ∷ xs) (suc k) y e = made_of v xs k y e

-- ---- the texts of functions

pub func_text : {A : Type 0} (order : List Definition) (ds : List (Data A)) (fs : List (Func A)) (k : ℕ) (f : Func A) → slice_get fs k ≡ Some f → One (texts_in order ds fs) (func_occurrences f)
func_text [] ds fs k f h = one_behind (map data_occurrences ds) (map func_occurrences fs) (func_occurrences f) (k, mapped_at func_occurrences fs k f h)
func_text (definitions.Data ∷ order) [] fs k f h = func_text order [] fs k f h
func_text (definitions.Data ∷ order) (d ∷ ds) fs k f h = one_more (data_occurrences d) (texts_in order ds fs) (func_occurrences f) (func_text order ds fs k f h)
func_text (definitions.Func ∷ order) ds [] k f h = absurd cc
func_text (definitions.Func ∷ order) ds (g ∷ fs) zero f h = (0, ap (option_map func_occurrences) h)
func_text (definitions.Func ∷ order) ds (g ∷ fs) (suc k) f h = one_more (func_occurrences g) (texts_in order ds fs) (func_occurrences f) (func_text order ds fs k f h)

two_behind_data : {A : Type 0} (ds : List (Data A)) (fs : List (Func A)) (j k : ℕ) (f g : Func A) → j < k → slice_get fs j ≡ Some f → slice_get fs k ≡ Some g
    → Two (map data_occurrences ds ++ map func_occurrences fs) (func_occurrences f) (func_occurrences g)
two_behind_data [] fs j k f g l h i = record { m = j; n = k; before = l; first = mapped_at func_occurrences fs j f h; second = mapped_at func_occurrences fs k g i }
two_behind_data (d ∷ ds) fs j k f g l h i = two_more (data_occurrences d) (map data_occurrences ds ++ map func_occurrences fs) (func_occurrences f) (func_occurrences g) (two_behind_data ds fs j k f g l h i)

two_texts : {A : Type 0} (order : List Definition) (ds : List (Data A)) (fs : List (Func A)) (j k : ℕ) (f g : Func A) → j < k → slice_get fs j ≡ Some f → slice_get fs k ≡ Some g → Two (texts_in order ds fs) (func_occurrences f) (func_occurrences g)
two_texts [] ds fs j k f g l h i = two_behind_data ds fs j k f g l h i
two_texts (definitions.Data ∷ order) [] fs j k f g l h i = two_texts order [] fs j k f g l h i
two_texts (definitions.Data ∷ order) (d ∷ ds) fs j k f g l h i =
    two_more (data_occurrences d) (texts_in order ds fs) (func_occurrences f) (func_occurrences g) (two_texts order ds fs j k f g l h i)
two_texts (definitions.Func ∷ order) ds [] j k f g l h i = absurd cc
two_texts (definitions.Func ∷ order) ds (e ∷ fs) j zero f g l h i = absurd (omega (arith, l))
two_texts (definitions.Func ∷ order) ds (e ∷ fs) zero (suc k) f g l h i =
    let o = func_text order ds fs k g i in
    record { m = 0; n = suc o.0; before = omega arith; first = ap (option_map func_occurrences) h; second = o.1 }
two_texts (definitions.Func ∷ order) ds (e ∷ fs) (suc j) (suc k) f g l h i =
    two_more (func_occurrences e) (texts_in order ds fs) (func_occurrences f) (func_occurrences g) (two_texts order ds fs j k f g (omega (arith, l)) h i)

-- by rule C1
pub names_apart : {A : Type 0} (p : Program A) → WellFormed p → AreApart (map (λ f. f.name) p.funcs)
names_apart p kept i j x l a b =
    let f = made_of (λ f. f.name) p.funcs i x a in
    let g = made_of (λ f. f.name) p.funcs j x b in
    let w = two_texts p.order p.datas p.funcs i j f.0 g.0 l f.1 g.1 in
    kept C1 (record { text = w.n; occurrence = 0 }) (func_occurrences g.0, w.second, (x, inr (ap (λ y. Some (FunctionName y)) g.2), (w.m, w.before, (func_occurrences f.0, w.first, inr (ap (λ y. Some (FunctionName y)) f.2)))))

-- ---- what names find

found_next : {X : Type 0} (y x : Name) (u v : X) (deep : Option X) (b : Bool) → bytes_eq y x ≡ b → (y ≡ x → ⊥) → deep ≡ Some v → (if b then Some u else deep) ≡ Some v
found_next y x u v deep true e n d = absurd (n ((bytes_eq-Decides y x).0 e))
found_next y x u v deep false e n d = d

-- where no two elements have one name, each is what its name finds
pub found_by : {X : Type 0} (name : X → Name) (xs : List X) → AreApart (map name xs) → (i : ℕ) (x : X) → slice_get xs i ≡ Some x → find (λ y. bytes_eq (name y) (name x)) xs ≡ Some x
found_by name [] h i x e = absurd cc
found_by name (y ∷ ys) h zero x e =
    let same : bytes_eq (name y) (name x) ≡ true = (bytes_eq-Decides (name y) (name x)).1 (ap (λ o. unwrap_or (option_map name o) (name x)) e) in
    rw same e
found_by name (y ∷ ys) h (suc i) x e =
    found_next (name y) (name x) y x (find (λ z. bytes_eq (name z) (name x)) ys) (bytes_eq (name y) (name x)) refl
    (λ s. h 0 (suc i) (name x) (omega arith) (ap Some s) (mapped_at name ys i x e))
    (found_by name ys (λ j k z l a b. h (suc j) (suc k) z (omega (arith, l)) a b) i x e)

-- ---- what numbers names have

placed_next : (y x : Name) (deep : Option ℕ) (i : ℕ) (b : Bool) → bytes_eq y x ≡ b → (y ≡ x → ⊥) → deep ≡ Some i → (if b then Some 0 else option_map (λ j. suc j) deep) ≡ Some (suc i)
placed_next y x deep i true e n d = absurd (n ((bytes_eq-Decides y x).0 e))
placed_next y x deep i false e n d = ap (option_map (λ j. suc j)) d

-- where no two names are equal, each has its place as its number
pub placed_by : (ns : List Name) → AreApart ns → (i : ℕ) (x : Name) → slice_get ns i ≡ Some x → place_of ns x ≡ Some i
unfolding place_of
placed_by [] h i x e = absurd cc
placed_by (n ∷ ns) h zero x e = let same : bytes_eq n x ≡ true = (bytes_eq-Decides n x).1 (ap (λ o. unwrap_or o x) e) in rw same refl
placed_by (n ∷ ns) h (suc i) x e =
    placed_next n x (place_of ns x) i (bytes_eq n x) refl
    (λ s. h 0 (suc i) x (omega arith) (ap Some s) e)
    (placed_by ns (λ j k z l a b. h (suc j) (suc k) z (omega (arith, l)) a b) i x e)
