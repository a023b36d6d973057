-- The texts of a program, one after the other.
use Rattle.std.proofs.Common.{◌≡◌, ◌∙◌, sym, ap, refl, ℕ, ◌<◌, ◌≤◌, ◌-◌, ◌+◌, suc, List, [], ◌∷◌, ◌++◌, Option, Some, None, Bool, true, false, if◌then◌else◌, take, drop, length, get_or, map, append_assoc, arith}
use Rattle.std.specs.Str.{bytes_eq}
use Rattle.std.proofs.lemmas.List.{map-append, take_all, drop_more, drop_all}
use Rattle.qil_tree.specs.declared.tree.Data.{Data}
use Rattle.qil_tree.specs.declared.tree.Func.{Func}
use Rattle.qil_tree.specs.declared.tree.Definition.{Definition}
use Rattle.qil_tree.specs.declared.tree.Definition.TheVariants as definitions
use Rattle.qil_checker.specs.declared.definition.IndexedDefinition.{IndexedDefinition}
use Rattle.qil_rules.specs.declared.occurrence.Occurrence.{Occurrence}
use Rattle.qil_rules.specs.Occurrences.{data_occurrences, func_occurrences, texts_in}
use Rattle.std.specs.Option.{option_or}
use Rattle.qil_symbols.specs.Tables.{for_name}
use Rattle.qil_checker.specs.Tables.{first, has_name, is_name}
use Rattle.qil_checker.specs.Whole.{occurrences_of}

behind : (prefix rest : List (List Occurrence)) (x : List Occurrence) → (prefix ++ x ∷ []) ++ rest ≡ prefix ++ x ∷ rest
behind [] rest x = refl
behind (y ∷ prefix) rest x = ap (λ t. y ∷ t) (behind prefix rest x)

pub one_text : {A : Type 0} (out new : List (IndexedDefinition A)) (t : IndexedDefinition A) (rest : List (List Occurrence)) → new ≡ out ++ t ∷ [] → occurrences_of new ++ rest ≡ occurrences_of out ++ t.occurrences.items ∷ rest
one_text out new t rest e = ap (λ ts. occurrences_of ts ++ rest) e ∙ ap (λ ts. ts ++ rest) (map-append (λ s. s.occurrences.items) out (t ∷ [])) ∙ behind (occurrences_of out) rest t.occurrences.items

all_but_one : {X : Type 0} (x : X) (xs : List X) → take (length (x ∷ xs) - 1) (drop 1 (x ∷ xs)) ≡ xs
all_but_one x xs = take_all (length (x ∷ xs) - 1) xs (omega arith)

pub next_data : {A : Type 0} (out new : List (IndexedDefinition A)) (t : IndexedDefinition A) (definition : Definition) (order : List Definition) (d : Data A) (ds : List (Data A)) (fs : List (Func A))
    → definition ≡ definitions.Data → 1 ≤ length ds → d ≡ get_or ds 0 d → new ≡ out ++ t ∷ [] → t.occurrences.items ≡ data_occurrences d
    → occurrences_of new ++ texts_in order (take (length ds - 1) (drop 1 ds)) fs ≡ occurrences_of out ++ texts_in (definition ∷ order) ds fs
next_data out new t definition order d [] fs is l there e same = absurd (omega arith)
next_data out new t definition order d (a ∷ ds) fs is l there e same =
    one_text out new t (texts_in order (take (length (a ∷ ds) - 1) (drop 1 (a ∷ ds))) fs) e
    ∙ ap (λ rest. occurrences_of out ++ t.occurrences.items ∷ texts_in order rest fs) (all_but_one a ds)
    ∙ ap (λ m. occurrences_of out ++ m ∷ texts_in order ds fs) (same ∙ ap data_occurrences there)
    ∙ ap (λ n. occurrences_of out ++ texts_in (n ∷ order) (a ∷ ds) fs) (sym is)

pub next_func : {A : Type 0} (out new : List (IndexedDefinition A)) (t : IndexedDefinition A) (definition : Definition) (order : List Definition) (f : Func A) (ds : List (Data A)) (fs : List (Func A))
    → definition ≡ definitions.Func → 1 ≤ length fs → f ≡ get_or fs 0 f → new ≡ out ++ t ∷ [] → t.occurrences.items ≡ func_occurrences f
    → occurrences_of new ++ texts_in order ds (take (length fs - 1) (drop 1 fs)) ≡ occurrences_of out ++ texts_in (definition ∷ order) ds fs
next_func out new t definition order f ds [] is l there e same = absurd (omega arith)
next_func out new t definition order f ds (a ∷ fs) is l there e same =
    one_text out new t (texts_in order ds (take (length (a ∷ fs) - 1) (drop 1 (a ∷ fs)))) e
    ∙ ap (λ rest. occurrences_of out ++ t.occurrences.items ∷ texts_in order ds rest) (all_but_one a fs)
    ∙ ap (λ m. occurrences_of out ++ m ∷ texts_in order ds fs) (same ∙ ap func_occurrences there)
    ∙ ap (λ n. occurrences_of out ++ texts_in (n ∷ order) ds (a ∷ fs)) (sym is)

-- ---- the texts of one kind

at_prefix : {X : Type 0} (f : X → List Occurrence) (x : X) (xs : List X) (i : ℕ) → i < length xs → x ≡ get_or xs i x → map f (drop i xs) ≡ f x ∷ map f (drop (i + 1) xs)
at_prefix f x xs i l e = ap (map f) (drop_more xs i x l) ∙ ap (λ y. f y ∷ map f (drop (i + 1) xs)) (sym e)

pub one_more : {A X : Type 0} (f : X → List Occurrence) (out new : List (IndexedDefinition A)) (t : IndexedDefinition A) (x : X) (xs : List X) (i : ℕ) (all : List (List Occurrence))
    → occurrences_of out ++ map f (drop i xs) ≡ all → i < length xs → x ≡ get_or xs i x → new ≡ out ++ t ∷ [] → t.occurrences.items ≡ f x
    → occurrences_of new ++ map f (drop (i + 1) xs) ≡ all
one_more f out new t x xs i all so_far l there e same =
    one_text out new t (map f (drop (i + 1) xs)) e ∙ ap (λ m. occurrences_of out ++ m ∷ map f (drop (i + 1) xs)) same ∙ ap (λ ms. occurrences_of out ++ ms) (sym (at_prefix f x xs i l there)) ∙ so_far

-- once the order has ended, the objects and functions that are left come last
pub all_in : {A : Type 0} (order : List Definition) (i : ℕ) (ds : List (Data A)) (fs : List (Func A)) (out more last all : List (List Occurrence))
    → length order ≤ i → more ≡ out ++ map data_occurrences ds → last ≡ more ++ map func_occurrences fs → out ++ texts_in (drop i order) ds fs ≡ all → last ≡ all
all_in order i ds fs out more last all l datas funcs so_far =
    funcs ∙ ap (λ m. m ++ map func_occurrences fs) datas ∙ append_assoc out (map data_occurrences ds) (map func_occurrences fs)
    ∙ ap (λ (left : List Definition). out ++ texts_in left ds fs) (sym (drop_all i order l)) ∙ so_far

-- ---- the first text of a name

option_or_none : {X : Type 0} (o : Option X) → option_or o None ≡ o
option_or_none None = refl
option_or_none (Some x) = refl

first_of_two : {A : Type 0} (x name : List ℕ) (n : ℕ) (t : IndexedDefinition A) (ts : List (IndexedDefinition A)) (old : Option ℕ) (b : Bool) → bytes_eq name x ≡ b → has_name x t.occurrences.items ≡ b
    → option_or (option_or old (if b then Some n else None)) (first (has_name x) (suc n) (occurrences_of ts)) ≡ option_or old (if b then Some n else first (has_name x) (suc n) (occurrences_of ts))
first_of_two x name n t ts (Some k) b e h = refl
first_of_two x name n t ts None true e h = refl
first_of_two x name n t ts None false e h = refl

text_prefix : {A : Type 0} (t : IndexedDefinition A) (ts : List (IndexedDefinition A)) (i : ℕ) → i < length ts → t ≡ get_or ts i t → occurrences_of (drop i ts) ≡ t.occurrences.items ∷ occurrences_of (drop (i + 1) ts)
text_prefix t ts i l e = ap occurrences_of (drop_more ts i t l) ∙ ap (λ y. y.occurrences.items ∷ occurrences_of (drop (i + 1) ts)) (sym e)

named_so : {A : Type 0} (t : IndexedDefinition A) (x : List ℕ) → has_name x t.occurrences.items ≡ bytes_eq t.name x
named_so t x = ap (is_name x) t.name_is

pub recorded_name : {A : Type 0} (t : IndexedDefinition A) (ts : List (IndexedDefinition A)) (i : ℕ) (x : List ℕ) (old new : Option ℕ) (all : Option ℕ)
    → option_or old (first (has_name x) i (occurrences_of (drop i ts))) ≡ all → i < length ts → t ≡ get_or ts i t → new ≡ option_or old (for_name t.name i x)
    → option_or new (first (has_name x) (i + 1) (occurrences_of (drop (i + 1) ts))) ≡ all
recorded_name t ts i x old new all so_far l there e =
    let next : i + 1 ≡ suc i = omega arith in
    ap (λ o. option_or o (first (has_name x) (i + 1) (occurrences_of (drop (i + 1) ts)))) e
    ∙ ap (λ k. option_or (option_or old (for_name t.name i x)) (first (has_name x) k (occurrences_of (drop (i + 1) ts)))) next
    ∙ first_of_two x t.name i t (drop (i + 1) ts) old (bytes_eq t.name x) refl (named_so t x)
    ∙ ap (λ b. option_or old (if b then Some i else first (has_name x) (suc i) (occurrences_of (drop (i + 1) ts)))) (sym (named_so t x))
    ∙ ap (λ ms. option_or old (first (has_name x) i ms)) (sym (text_prefix t ts i l there))
    ∙ so_far

pub all_recorded : {A : Type 0} (ts : List (IndexedDefinition A)) (i : ℕ) (x : List ℕ) (table all : Option ℕ)
    → option_or table (first (has_name x) i (occurrences_of (drop i ts))) ≡ all → length ts ≤ i → table ≡ all
all_recorded ts i x table all so_far l = sym (ap (λ rest. option_or table (first (has_name x) i (occurrences_of rest))) (drop_all i ts l) ∙ option_or_none table) ∙ so_far

-- ---- the definitions that are left

pub one_fewer : {A : Type 0} (order : List Definition) (i : ℕ) (d : Definition) (done new all : List (List Occurrence)) (ds : List (Data A)) (fs : List (Func A))
    → i < length order → new ≡ done ++ texts_in (get_or order i d ∷ drop (i + 1) order) ds fs → done ++ texts_in (drop i order) ds fs ≡ all → new ≡ all
one_fewer order i d done new all ds fs l e so_far = e ∙ ap (λ o. done ++ texts_in o ds fs) (sym (drop_more order i d l)) ∙ so_far
