-- How many temporaries a text has: as many as its table has names.
use Rattle.std.proofs.Common.{◌≡◌, ◌∙◌, sym, ap, refl, subst, ℕ, ◌<◌, List, [], ◌∷◌, ◌||◌, Option, Some, None, true, false, IsTrue, nat_lt, length, get_or, map, All, Bor, arith}
use Rattle.std.proofs.lemmas.Bool.Decides.{nat_tests}
use Rattle.std.specs.Option.{is_some}
use Rattle.std.specs.Str.{bytes_eq}
use Rattle.std.specs.List.{list_any, IsDistinct, AllByRecursion}
use Rattle.std.specs.Map.{keys_of}
use Rattle.std.proofs.lemmas.Slice.Eq.{bytes_eq-Decides}
use Rattle.std.proofs.lemmas.Cmp.{nat_list_eq_equiv}
use Rattle.std.proofs.lemmas.Map.Made.{is_some-lookup, length-le_from_is_member, AllPairs-from_IsDistinct, IsDistinct-from_AllPairs}
use Rattle.std.proofs.lemmas.List.Folds.{list_any_at, Any-from_list_any}
use Rattle.indexmap.specs.IndexMap.{IndexMap, keys}
use Rattle.qil_checker.specs.declared.lookup.TableKind.TheVariants.{Named}
use Rattle.qil_rules.specs.declared.occurrence.Occurrence.{Occurrence}
use Rattle.qil_rules.specs.Text.{IsTemporary}
use Rattle.qil_rules.specs.Rules.{HasManyTemporaries}
use Rattle.qil_checker.specs.Tables.{place_in, is_named, first}
use Rattle.qil_checker.proofs.Texts.Places.{same_name, temp_found, temp_absent}

apart_names : (x : List ℕ) (ks : List (Bor (List ℕ))) → AllByRecursion (λ y. bytes_eq x y.now ≡ false) ks → AllByRecursion (λ y. bytes_eq x y ≡ false) (map (λ k. k.now) ks)
apart_names x [] a = a
apart_names x (k ∷ ks) a = (a.0, apart_names x ks a.1)

distinct_names : (ks : List (Bor (List ℕ))) → IsDistinct (λ x y. bytes_eq x.now y.now) ks → IsDistinct bytes_eq (map (λ k. k.now) ks)
unfolding IsDistinct
distinct_names [] d = d
distinct_names (k ∷ ks) d = (apart_names k.now ks d.0, distinct_names ks d.1)

any_names : (q : List ℕ) (ks : List (Bor (List ℕ))) → list_any (bytes_eq q) (map (λ k. k.now) ks) ≡ list_any (λ k. bytes_eq q k.now) ks
any_names q [] = refl
any_names q (k ∷ ks) = ap (λ b. bytes_eq q k.now || b) (any_names q ks)

length_names : {X : Type 0} (es : List (Bor (List ℕ) × X)) → length (map (λ k. k.now) (keys_of es)) ≡ length es
length_names [] = refl
length_names (e ∷ es) = let more = length_names es in omega (arith, more)

some_there : {X : Type 0} (o : Option X) → is_some o ≡ true → (x : X) × (o ≡ Some x)
some_there None e = absurd cc
some_there (Some x) e = (x, refl)

none_there : {X : Type 0} (o : Option X) → (o ≡ None → ⊥) → is_some o ≡ true
none_there None never = absurd (never refl)
none_there (Some x) never = refl

is_long : (n m : ℕ) → n < m → IsTrue (nat_lt n m)
is_long n m l = grind (arith, nat_tests)

short : (n m : ℕ) → IsTrue (nat_lt n m) → n < m
short n m t = grind (arith, nat_tests)

module _ {S : Type 0} (m : IndexMap (Bor (List ℕ)) ℕ S) (text : List Occurrence)
    (places : (x : List ℕ) → place_in m x ≡ first (is_named Named x) 0 text)
    (unique : IsDistinct (λ x y. bytes_eq x.now y.now) (keys m))
  where
    has_place : (q : List ℕ) → is_some (place_in m q) ≡ list_any (bytes_eq q) (map (λ k. k.now) (keys m))
    has_place q = is_some-lookup (λ k. bytes_eq q k.now) m.entries ∙ sym (any_names q (keys m))

    is_temporary : (q : List ℕ) → list_any (bytes_eq q) (map (λ k. k.now) (keys m)) ≡ true → IsTemporary text q
    is_temporary q has = let p = some_there (place_in m q) (has_place q ∙ has) in temp_found text q p.0 (sym (places q) ∙ p.1)

    is_listed : (q : List ℕ) → IsTemporary text q → list_any (bytes_eq q) (map (λ k. k.now) (keys m)) ≡ true
    is_listed q t = sym (has_place q) ∙ none_there (place_in m q) (λ none. temp_absent text q (sym (places q) ∙ none) t)

    pub too_many : 65535 < length m.entries → HasManyTemporaries text
    too_many long =
        let all = map (λ k. k.now) (keys m) in (
          all,
          AllPairs-from_IsDistinct bytes_eq-Decides all (distinct_names (keys m) unique),
          (λ i d l. is_temporary (get_or all i d) (list_any_at (bytes_eq (get_or all i d)) all i d l (same_name (get_or all i d)))),
          omega (arith, length_names m.entries),
        )

    among : (xs : List (List ℕ)) → All (IsTemporary text) xs → (q : List ℕ) → list_any (bytes_eq q) xs ≡ true → IsTemporary text q
    among xs each q has =
        let w = Any-from_list_any (bytes_eq q) xs has in
        subst (IsTemporary text) (w.3 ∙ sym ((bytes_eq-Decides q w.1).0 w.4)) (each w.0 w.1 w.2)

    pub few : HasManyTemporaries text → 65535 < length m.entries
    few many =
        let xs = many.0 in
        let short = length-le_from_is_member nat_list_eq_equiv xs (map (λ k. k.now) (keys m)) (IsDistinct-from_AllPairs bytes_eq-Decides xs many.1)
        (λ q has. is_listed q (among xs many.2 q has)) in
        omega (arith, short, many.3, length_names m.entries)

    pub many : (n r : ℕ) → r ≡ length m.entries → n ≡ 65535 → (IsTrue (nat_lt n r) → HasManyTemporaries text) × (HasManyTemporaries text → IsTrue (nat_lt n r))
    many n r e limit = (λ t. let l = short n r t in too_many (omega arith), λ names. let l = few names in is_long n r (omega arith))
