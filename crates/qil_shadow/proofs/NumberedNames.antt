-- The place of a name among those of all objects is what a table says that they were recorded in, one after the other.
use Rattle.std.proofs.Common.{◌≡◌, ◌∙◌, sym, ap, refl, ℕ, suc, ◌+◌, ◌<◌, Bool, true, false, List, [], ◌∷◌, ◌++◌, length, map, get_or, drop, Option, Some, None, arith}
use Rattle.std.specs.Prelude.{codes, option_map, if◌then◌else◌}
use Rattle.std.specs.Option.{option_or}
use Rattle.std.specs.Str.{bytes_eq}
use Rattle.std.proofs.lemmas.List.{drop_more, length-map}
use Rattle.qil_tree.specs.declared.tree.Data.{Data}
use Rattle.qil_tree.specs.declared.tree.Func.{Func}
use Rattle.qil_tree.specs.declared.tree.Program.{Program}
use Rattle.qil_symbols.specs.Numbers.{place_of}
use Rattle.qil_symbols.specs.Tables.{for_name}
use Rattle.qil_semantics.specs.State.{Name}
use Rattle.qil_shadow.specs.Objects.{object_names}
use Rattle.qil_shadow.specs.ObjectNumbers.{data_number, function_number, built_in_number}

-- ---- tables

assoc : (a b c : Option ℕ) → option_or (option_or a b) c ≡ option_or a (option_or b c)
assoc None b c = refl
assoc (Some x) b c = refl

pub three_recorded : (o a b c p q r : Option ℕ) → p ≡ option_or o a → q ≡ option_or p b → r ≡ option_or q c → r ≡ option_or o (option_or a (option_or b c))
three_recorded None None b c p q r e f g = g ∙ rw (f, e) refl
three_recorded None (Some x) b c p q r e f g = g ∙ rw (f, e) refl
three_recorded (Some x) a b c p q r e f g = g ∙ rw (f, e) refl

pub left_from : {X : Type 0} (xs : List X) (i : ℕ) (x : X) → i < length xs → x ≡ get_or xs i x → drop i xs ≡ x ∷ drop (i + 1) xs
left_from xs i x l e = drop_more xs i x l ∙ ap (λ y. y ∷ drop (i + 1) xs) (sym e)

-- one object more is recorded
pub one_data : {A : Type 0} (v p total : Option ℕ) (n m : ℕ) (name x : List ℕ) (d : Data A) (left ds : List (Data A)) → left ≡ d ∷ ds → m ≡ n + 1 → name ≡ d.name
    → p ≡ option_or v (for_name name n x) → option_or v (data_number n left x) ≡ total → option_or p (data_number m ds x) ≡ total
one_data v p total n m name x d left ds e next named f so_far =
    rw (f, next, named) (assoc v (for_name d.name n x) (data_number (n + 1) ds x)) ∙ ap (λ l. option_or v (data_number n l x)) (sym e) ∙ so_far

pub one_function : {A : Type 0} (v p total : Option ℕ) (n m : ℕ) (name x : List ℕ) (d : Func A) (left ds : List (Func A)) → left ≡ d ∷ ds → m ≡ n + 1 → name ≡ d.name
    → p ≡ option_or v (for_name name n x) → option_or v (function_number n left x) ≡ total → option_or p (function_number m ds x) ≡ total
one_function v p total n m name x d left ds e next named f so_far =
    rw (f, next, named) (assoc v (for_name d.name n x) (function_number (n + 1) ds x)) ∙ ap (λ l. option_or v (function_number n l x)) (sym e) ∙ so_far

-- ---- places

abbrev number_from : ℕ → List Name → Name → Option ℕ
number_from n [] x = None
number_from n (m ∷ ms) x = option_or (for_name m n x) (number_from (n + 1) ms x)

of_datas : {A : Type 0} (n : ℕ) (ds : List (Data A)) (x : Name) → data_number n ds x ≡ number_from n (map (λ (d : Data A). d.name) ds) x
of_datas n [] x = refl
of_datas n (d ∷ ds) x = ap (option_or (for_name d.name n x)) (of_datas (n + 1) ds x)

of_functions : {A : Type 0} (n : ℕ) (fs : List (Func A)) (x : Name) → function_number n fs x ≡ number_from n (map (λ (f : Func A). f.name) fs) x
of_functions n [] x = refl
of_functions n (f ∷ fs) x = ap (option_or (for_name f.name n x)) (of_functions (n + 1) fs x)

or_none : (o : Option ℕ) → o ≡ option_or o None
or_none None = refl
or_none (Some i) = refl

abbrev built_in_names : List Name
built_in_names = codes "putchar" ∷ codes "puts" ∷ codes "exit" ∷ []

of_built_ins : (n : ℕ) (x : Name) → built_in_number n x ≡ number_from n built_in_names x
of_built_ins n x =
    let two : n + 2 ≡ n + 1 + 1 = omega arith in
    ap (λ o. option_or (for_name (codes "putchar") n x) (option_or (for_name (codes "puts") (n + 1) x) o)) (ap (λ k. for_name (codes "exit") k x) two ∙ or_none (for_name (codes "exit") (n + 1 + 1) x))

from_append : (n : ℕ) (ms ls : List Name) (x : Name) → number_from n (ms ++ ls) x ≡ option_or (number_from n ms x) (number_from (n + length ms) ls x)
from_append n [] ls x = let e : n ≡ n + 0 = omega arith in ap (λ k. number_from k ls x) e
from_append n (m ∷ ms) ls x =
    let e : n + 1 + length ms ≡ n + suc (length ms) = omega arith in
    ap (option_or (for_name m n x)) (from_append (n + 1) ms ls x ∙ ap (λ k. option_or (number_from (n + 1) ms x) (number_from k ls x)) e)
    ∙ sym (assoc (for_name m n x) (number_from (n + 1) ms x) (number_from (n + suc (length ms)) ls x))

by_test : (b : Bool) (n : ℕ) (p q : Option ℕ) → q ≡ option_map (λ i. n + 1 + i) p
    → option_or (if b then Some n else None) q ≡ option_map (λ i. n + i) (if b then Some 0 else option_map (λ i. suc i) p)
by_test true n p q e = let here : n ≡ n + 0 = omega arith in ap (λ k. Some k) here
by_test false n None q e = e
by_test false n (Some i) q e = let later : n + 1 + i ≡ n + suc i = omega arith in e ∙ ap (λ k. Some k) later

from_place : (n : ℕ) (ms : List Name) (x : Name) → number_from n ms x ≡ option_map (λ i. n + i) (place_of ms x)
unfolding place_of
from_place n [] x = refl
from_place n (m ∷ ms) x = by_test (bytes_eq m x) n (place_of ms x) (number_from (n + 1) ms x) (from_place (n + 1) ms x)

from_zero : (o : Option ℕ) → option_map (λ i. 0 + i) o ≡ o
from_zero None = refl
from_zero (Some i) = let e : 0 + i ≡ i = omega arith in ap (λ k. Some k) e

pub recorded_all : {A : Type 0} (p : Program A) (x : Name)
    → option_or (data_number 0 p.datas x) (option_or (function_number (length p.datas) p.funcs x) (built_in_number (length p.datas + length p.funcs) x)) ≡ place_of (object_names p) x
recorded_all {A} p x =
    let ds = map (λ (d : Data A). d.name) p.datas in
    let fs = map (λ (f : Func A). f.name) p.funcs in
    let n : length p.datas ≡ 0 + length ds = omega (arith, length-map p.datas (λ (d : Data A). d.name)) in
    let m : length p.datas + length p.funcs ≡ 0 + length ds + length fs = omega (arith, length-map p.datas (λ (d : Data A). d.name), length-map p.funcs (λ (f : Func A). f.name)) in
    let functions : function_number (length p.datas) p.funcs x ≡ number_from (0 + length ds) fs x = of_functions (length p.datas) p.funcs x ∙ ap (λ k. number_from k fs x) n in
    let built_ins : built_in_number (length p.datas + length p.funcs) x ≡ number_from (0 + length ds + length fs) built_in_names x =
    of_built_ins (length p.datas + length p.funcs) x ∙ ap (λ k. number_from k built_in_names x) m in
    (λ i. option_or (of_datas 0 p.datas x i) (option_or (functions i) (built_ins i)))
    ∙ ap (option_or (number_from 0 ds x)) (sym (from_append (0 + length ds) fs built_in_names x))
    ∙ sym (from_append 0 ds (fs ++ built_in_names) x)
    ∙ from_place 0 (ds ++ (fs ++ built_in_names)) x
    ∙ from_zero (place_of (object_names p) x)

-- so of a table that the three were recorded in
pub recorded_names : {A : Type 0} (p : Program A) (x : Name) (n m : ℕ) (o q r s : Option ℕ) → o ≡ None → n ≡ length p.datas → m ≡ n + length p.funcs
    → q ≡ option_or o (data_number 0 p.datas x) → r ≡ option_or q (function_number n p.funcs x) → s ≡ option_or r (built_in_number m x) → s ≡ place_of (object_names p) x
recorded_names p x n m o q r s none first next a b c =
    let places : option_or (data_number 0 p.datas x) (option_or (function_number n p.funcs x) (built_in_number m x)) ≡ place_of (object_names p) x =
    rw (next, first) (recorded_all p x) in
    three_recorded o (data_number 0 p.datas x) (function_number n p.funcs x) (built_in_number m x) q r s a b c
    ∙ ap (λ z. option_or z (option_or (data_number 0 p.datas x) (option_or (function_number n p.funcs x) (built_in_number m x)))) none ∙ places

pub built_ins_recorded : (x : Name) (n m k : ℕ) (o p q r : Option ℕ) → m ≡ n + 1 → k ≡ m + 1 → p ≡ option_or o (for_name (codes "putchar") n x) → q ≡ option_or p (for_name (codes "puts") m x)
    → r ≡ option_or q (for_name (codes "exit") k x) → r ≡ option_or o (built_in_number n x)
built_ins_recorded x n m k o p q r second third a b c =
    let last : k ≡ n + 2 = omega (arith, second, third) in
    three_recorded o (for_name (codes "putchar") n x) (for_name (codes "puts") (n + 1) x) (for_name (codes "exit") (n + 2) x) p q r a
    (b ∙ ap (λ j. option_or p (for_name (codes "puts") j x)) second) (c ∙ ap (λ j. option_or q (for_name (codes "exit") j x)) last)
