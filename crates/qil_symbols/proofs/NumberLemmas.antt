-- Names and their numbers.
use Rattle.std.proofs.Common.{◌≡◌, refl, sym, ap, ◌∙◌, ℕ, suc, ◌<◌, Bool, true, false, if◌then◌else◌, List, [], ◌∷◌, ◌++◌, length, Option, Some, None, IfSome, arith, Bor}
use Rattle.std.specs.Prelude.{option_map, ◌||◌, take}
use Rattle.std.specs.Option.{is_some, option_or}
use Rattle.std.specs.List.{list_any}
use Rattle.std.specs.Str.{bytes_eq}
use Rattle.std.specs.HashMap.{HashMap}
use Rattle.std.specs.Map.{lookup}
use Rattle.std.proofs.lemmas.Bool.{false≢true}
use Rattle.std.proofs.lemmas.Slice.Eq.{bytes_eq-Decides}
use Rattle.qil_symbols.specs.Numbers.{place_of, noted, recorded, names_of}
use Rattle.qil_symbols.specs.Tables.{value_at, for_name}
use Rattle.qil_symbols.proofs.TableLemmas.{Updated, first_recorded}

pub recorded_append : (ns xs ys : List (List ℕ)) → recorded ns (xs ++ ys) ≡ recorded (recorded ns xs) ys
recorded_append ns [] ys = refl
recorded_append ns (x ∷ xs) ys = recorded_append (noted ns x) xs ys

-- ---- whether a name has a number

turned : (x y : List ℕ) → bytes_eq x y ≡ bytes_eq y x
turned x y = by (bytes_eq x y) (bytes_eq y x) refl refl
  where
    by : (b c : Bool) → bytes_eq x y ≡ b → bytes_eq y x ≡ c → b ≡ c
    by true true e f = refl
    by false false e f = refl
    by true false e f = grind (arith, e, f, bytes_eq-Decides x y, bytes_eq-Decides y x)
    by false true e f = grind (arith, e, f, bytes_eq-Decides x y, bytes_eq-Decides y x)

-- what the number of one name more is, by whether the first is it
some_next : (b : Bool) (p : Option ℕ) → is_some (if b then Some 0 else option_map (λ i. suc i) p) ≡ b || is_some p
some_next true p = refl
some_next false None = refl
some_next false (Some i) = refl

is_among : (ns : List (List ℕ)) (x : List ℕ) → is_some (place_of ns x) ≡ list_any (bytes_eq x) ns
unfolding place_of
is_among [] x = refl
is_among (n ∷ ns) x = some_next (bytes_eq n x) (place_of ns x) ∙ ap (λ b. b || is_some (place_of ns x)) (turned n x) ∙ ap (λ b. bytes_eq x n || b) (is_among ns x)

pub noted-known : (ns : List (List ℕ)) (x : List ℕ) → is_some (place_of ns x) ≡ true → ns ≡ noted ns x
noted-known ns x there = sym (ap (λ b. if b then ns else ns ++ x ∷ []) (sym (is_among ns x) ∙ there))

pub noted-new : (ns : List (List ℕ)) (x : List ℕ) → is_some (place_of ns x) ≡ false → ns ++ x ∷ [] ≡ noted ns x
noted-new ns x absent = sym (ap (λ b. if b then ns else ns ++ x ∷ []) (sym (is_among ns x) ∙ absent))

-- ---- the names that keys are

pub names-append : (ks : List (Bor (List ℕ))) (x : Bor (List ℕ)) → names_of (ks ++ x ∷ []) ≡ names_of ks ++ x.now ∷ []
names-append [] x = refl
names-append (k ∷ ks) x = ap (λ ns. k.now ∷ ns) (names-append ks x)

nowhere : (x : List ℕ) → None ≡ place_of [] x
unfolding place_of
nowhere x = refl

-- of no names none has a number
pub unplaced : {S : Type 0} (m : HashMap (Bor (List ℕ)) ℕ S) (ks : List (Bor (List ℕ))) → m.entries ≡ [] → ks ≡ [] → (x : List ℕ) → value_at m x ≡ place_of (names_of ks) x
unplaced m ks empty none x = ap (λ es. lookup (λ k. bytes_eq x k.now) es) empty ∙ nowhere x ∙ ap (λ xs. place_of (names_of xs) x) (sym none)

-- ---- the number of one name more, behind the others

at_end : (b : Bool) → option_or None (if b then Some 0 else None) ≡ (if b then Some 0 else option_map (λ i. suc i) None)
at_end true = refl
at_end false = refl

one_on : (b c : Bool) (n : ℕ) (p q : Option ℕ) → option_or p (if c then Some n else None) ≡ q
    → option_or (if b then Some 0 else option_map (λ i. suc i) p) (if c then Some (suc n) else None) ≡ (if b then Some 0 else option_map (λ i. suc i) q)
one_on true c n p q e = refl
one_on false true n None q e = ap (option_map (λ i. suc i)) e
one_on false false n None q e = ap (option_map (λ i. suc i)) e
one_on false c n (Some i) q e = ap (option_map (λ i. suc i)) e

placed : (ks : List (Bor (List ℕ))) (key : Bor (List ℕ)) (x : List ℕ) → option_or (place_of (names_of ks) x) (for_name key.now (length ks) x) ≡ place_of (names_of (ks ++ key ∷ [])) x
unfolding place_of
placed [] key x = at_end (bytes_eq key.now x)
placed (k ∷ ks) key x = one_on (bytes_eq k.now x) (bytes_eq key.now x) (length ks) (place_of (names_of ks) x) (place_of (names_of (ks ++ key ∷ [])) x) (placed ks key x)

not_there : (o : Option ℕ) → is_some o ≡ false → o ≡ None
not_there None e = refl
not_there (Some n) e = absurd (false≢true (sym e))

-- what a table of numbers says, once the number of names is recorded for one more that is behind them
pub placed-last : {S : Type 0} (m after : HashMap (Bor (List ℕ)) ℕ S) (ks ls : List (Bor (List ℕ))) (key : Bor (List ℕ)) (n : ℕ)
    → ((x : List ℕ) → value_at m x ≡ place_of (names_of ks) x) → is_some (value_at m key.now) ≡ false
    → Updated m after key.now n → n ≡ length ks → ls ≡ ks ++ key ∷ [] → (x : List ℕ) → value_at after x ≡ place_of (names_of ls) x
placed-last m after ks ls key n tie absent updates long more x =
    first_recorded key.now n m after updates (not_there (value_at m key.now) absent) x
    ∙ ap (λ o. option_or o (for_name key.now n x)) (tie x)
    ∙ ap (λ m. option_or (place_of (names_of ks) x) (for_name key.now m x)) long
    ∙ placed ks key x
    ∙ ap (λ xs. place_of (names_of xs) x) (sym more)

-- ---- what is left where a name was recorded, and had to be let go

pub same-entries : {S : Type 0} (m after : HashMap (Bor (List ℕ)) ℕ S) → after.entries ≡ m.entries → (x : List ℕ) → value_at after x ≡ value_at m x
same-entries m after same x = ap (λ es. lookup (λ k. bytes_eq x k.now) es) same

all_but_last : {X : Type 0} (xs : List X) (x : X) → take (length xs) (xs ++ x ∷ []) ≡ xs
all_but_last [] x = refl
all_but_last (y ∷ ys) x = ap (λ zs. y ∷ zs) (all_but_last ys x)

pub taken-back : {X : Type 0} (xs more rest : List X) (x : X) (n : ℕ) → more ≡ xs ++ x ∷ [] → n ≡ length xs → rest ≡ take n more → rest ≡ xs
taken-back xs more rest x n longer long taken =
    taken
    ∙ ap (λ ys. take n ys) longer
    ∙ ap (λ m. take m (xs ++ x ∷ [])) long
    ∙ all_but_last xs x

-- ---- numbers are below how many names there are

within_next : (b : Bool) (p : Option ℕ) (n : ℕ) → IfSome p (λ i. i < n) → IfSome (if b then Some 0 else option_map (λ i. suc i) p) (λ i. i < suc n)
within_next true p n w = omega arith
within_next false None n w = w
within_next false (Some i) n w = omega (arith, w)

pub place-within : (ns : List (List ℕ)) (x : List ℕ) → IfSome (place_of ns x) (λ i. i < length ns)
unfolding place_of
place-within [] x = tt
place-within (n ∷ ns) x = within_next (bytes_eq n x) (place_of ns x) (length ns) (place-within ns x)
