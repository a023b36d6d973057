-- Noting names one after the other leaves each once, at its first place.
use Rattle.std.proofs.Common.{◌≡◌, refl, sym, ap, ◌∙◌, Bool, true, false, if◌then◌else◌, List, [], ◌∷◌, ◌++◌, append_assoc, arith}
use Rattle.std.specs.Prelude.{◌||◌, not, filter}
use Rattle.std.specs.List.{list_any}
use Rattle.std.specs.Str.{bytes_eq}
use Rattle.std.proofs.lemmas.List.{append-nil}
use Rattle.std.proofs.lemmas.Slice.Eq.{bytes_eq-Decides}
use Rattle.qil_symbols.specs.Numbers.{recorded}
use Rattle.qil_symbols.proofs.NumberLemmas.{recorded_append}
use Rattle.qil_semantics.specs.State.{Name}
use Rattle.qil_semantics.specs.Names.{once}

-- the names that aren't among these
abbrev new : List Name → Name → Bool
new ns x = not (list_any (bytes_eq x) ns)

abbrev other : Name → Name → Bool
other x y = not (bytes_eq x y)

filter-same : (p q : Name → Bool) (xs : List Name) → ((x : Name) → p x ≡ q x) → filter p xs ≡ filter q xs
filter-same p q [] h = refl
filter-same p q (x ∷ xs) h = ap (λ b. if b then x ∷ filter p xs else filter p xs) (h x) ∙ ap (λ l. if q x then x ∷ l else l) (filter-same p q xs h)

twice_at : (p q r : Name → Bool) (x : Name) (xs : List Name) (b c : Bool) → q x ≡ b → c ≡ (if b then p x else false) → filter p (filter q xs) ≡ filter r xs
    → filter p (if b then x ∷ filter q xs else filter q xs) ≡ (if c then x ∷ filter r xs else filter r xs)
twice_at p q r x xs true c e f deep = ap (λ l. if p x then x ∷ l else l) deep ∙ ap (λ d. if d then x ∷ filter r xs else filter r xs) (sym f)
twice_at p q r x xs false c e f deep = deep ∙ ap (λ d. if d then x ∷ filter r xs else filter r xs) (sym f)

-- a filter after another is one filter
filter-twice : (p q r : Name → Bool) (xs : List Name) → ((x : Name) → r x ≡ (if q x then p x else false)) → filter p (filter q xs) ≡ filter r xs
filter-twice p q r [] h = refl
filter-twice p q r (x ∷ xs) h = twice_at p q r x xs (q x) (r x) refl (h x) (filter-twice p q r xs h)

same_any : (x y : Name) (ns : List Name) → bytes_eq x y ≡ true → list_any (bytes_eq y) ns ≡ list_any (bytes_eq x) ns
same_any x y ns e = ap (λ z. list_any (bytes_eq z) ns) (sym ((bytes_eq-Decides x y).0 e))

-- where x is among the names, what is new isn't x
among : (x y : Name) (ns : List Name) → list_any (bytes_eq x) ns ≡ true → new ns y ≡ (if other x y then new ns y else false)
among x y ns e = by (bytes_eq x y) refl
  where
    by : (b : Bool) → bytes_eq x y ≡ b → new ns y ≡ (if not b then new ns y else false)
    by true f = ap not (same_any x y ns f ∙ e)
    by false f = refl

-- with one name more, what is new is new next to it too
any-append : (x y : Name) (ns : List Name) → list_any (bytes_eq y) (ns ++ x ∷ []) ≡ (list_any (bytes_eq y) ns || bytes_eq y x)
any-append x y [] = or_false (bytes_eq y x)
  where
    or_false : (b : Bool) → (b || false) ≡ b
    or_false true = refl
    or_false false = refl
any-append x y (n ∷ ns) = ap (λ b. bytes_eq y n || b) (any-append x y ns) ∙ or_assoc (bytes_eq y n) (list_any (bytes_eq y) ns) (bytes_eq y x)
  where
    or_assoc : (a b c : Bool) → (a || (b || c)) ≡ ((a || b) || c)
    or_assoc true b c = refl
    or_assoc false b c = refl

turned : (x y : Name) → bytes_eq x y ≡ bytes_eq y x
turned x y = by (bytes_eq x y) (bytes_eq y x) refl refl
  where
    by : (b c : Bool) → bytes_eq x y ≡ b → bytes_eq y x ≡ c → b ≡ c
    by true true e f = refl
    by false false e f = refl
    by true false e f = grind (arith, e, f, bytes_eq-Decides x y, bytes_eq-Decides y x)
    by false true e f = grind (arith, e, f, bytes_eq-Decides x y, bytes_eq-Decides y x)

next_to : (x y : Name) (ns : List Name) → new (ns ++ x ∷ []) y ≡ (if other x y then new ns y else false)
next_to x y ns = ap not (any-append x y ns) ∙ by (list_any (bytes_eq y) ns) (bytes_eq y x) (bytes_eq x y) (turned x y)
  where
    by : (a b c : Bool) → c ≡ b → not (a || b) ≡ (if not c then not a else false)
    by a b true e = rw (← e) (or_true a)
      where
        or_true : (a : Bool) → not (a || true) ≡ false
        or_true true = refl
        or_true false = refl
    by a b false e = rw (← e) (or_none a)
      where
        or_none : (a : Bool) → not (a || false) ≡ not a
        or_none true = refl
        or_none false = refl

-- ---- names that are recorded after others

recorded_at : (x : Name) (ns xs : List Name) (b : Bool) → list_any (bytes_eq x) ns ≡ b
    → ((ms : List Name) → recorded ms xs ≡ ms ++ filter (new ms) (once xs))
    → recorded (if b then ns else ns ++ x ∷ []) xs ≡ ns ++ (if not b then x ∷ filter (new ns) (filter (other x) (once xs)) else filter (new ns) (filter (other x) (once xs)))
recorded_at x ns xs true e deep =
    deep ns ∙ ap (λ l. ns ++ l) (sym (filter-twice (new ns) (other x) (new ns) (once xs) (λ y. among x y ns e)))
recorded_at x ns xs false e deep =
    deep (ns ++ x ∷ []) ∙ append_assoc ns (x ∷ []) (filter (new (ns ++ x ∷ [])) (once xs))
    ∙ ap (λ l. ns ++ x ∷ l) (sym (filter-twice (new ns) (other x) (new (ns ++ x ∷ [])) (once xs) (λ y. next_to x y ns)))

recorded-is : (xs ns : List Name) → recorded ns xs ≡ ns ++ filter (new ns) (once xs)
unfolding once
recorded-is [] ns = sym (append-nil ns)
recorded-is (x ∷ xs) ns = recorded_at x ns xs (list_any (bytes_eq x) ns) refl (λ ms. recorded-is xs ms)

all_new : (xs : List Name) → filter (new []) xs ≡ xs
all_new [] = refl
all_new (x ∷ xs) = ap (λ l. x ∷ l) (all_new xs)

pub recorded-once : (xs : List Name) → recorded [] xs ≡ once xs
recorded-once xs = recorded-is xs [] ∙ all_new (once xs)

-- what is gathered from two parts
pub gathered : (xs ys : List Name) → recorded (recorded [] xs) ys ≡ once (xs ++ ys)
gathered xs ys = sym (recorded_append [] xs ys) ∙ recorded-once (xs ++ ys)
