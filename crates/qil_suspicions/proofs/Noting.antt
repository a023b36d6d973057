-- Notes of one suspicion more; and that there are as many suspicions as all notes count.
use Rattle.std.proofs.Common.{◌≡◌, ◌∙◌, refl, sym, ap, subst, ℕ, zero, suc, ◌+◌, ◌<◌, ◌≤◌, Bool, true, false, not, ◌&&◌, ◌||◌, ◌==◌, if◌then◌else◌, List, [], ◌∷◌, ◌++◌, length, map, arith}
use Rattle.std.specs.Prelude.{filter, fold, sum, ⊤}
use Rattle.std.specs.List.{AllByRecursion}
use Rattle.std.specs.Str.{bytes_eq}
use Rattle.std.proofs.lemmas.Bool.{true≢false}
use Rattle.std.proofs.lemmas.Bool.Decides.{nat_tests}
use Rattle.std.proofs.lemmas.List.{append_assoc, append-nil}
use Rattle.std.proofs.lemmas.Slice.Eq.{bytes_eq-Decides}
use Rattle.qil_semantics.specs.State.{Name}
use Rattle.qil_semantics.specs.Stops.{Place, same_place}
use Rattle.qil_shadow.specs.declared.access.Kind.{Kind}
use Rattle.qil_shadow.specs.declared.access.Kind.TheVariants.{Bounds, Stale, Cut, Stray}
use Rattle.qil_shadow.specs.Suspicions.{Suspicion}
use Rattle.qil_suspicions.specs.Notes.{Note, same_kind, are_alike, firsts, note_of, noted}

-- ---- which are alike

record IsAlike (a b : Suspicion) : Type 0 where
  kind : a.kind ≡ b.kind
  func : a.place.func ≡ b.place.func
  label : a.place.label ≡ b.place.label
  index : a.place.index ≡ b.place.index

both_of : (x y : Bool) → (x && y) ≡ true → (x ≡ true) × (y ≡ true)
both_of true y e = (refl, e)
both_of false y e = absurd (true≢false (sym e))

kind_is : (a b : Kind) → same_kind a b ≡ true → a ≡ b
kind_is Bounds Bounds e = refl
kind_is Bounds Stale e = absurd (true≢false (sym e))
kind_is Bounds Cut e = absurd (true≢false (sym e))
kind_is Bounds Stray e = absurd (true≢false (sym e))
kind_is Stale Bounds e = absurd (true≢false (sym e))
kind_is Stale Stale e = refl
kind_is Stale Cut e = absurd (true≢false (sym e))
kind_is Stale Stray e = absurd (true≢false (sym e))
kind_is Cut Bounds e = absurd (true≢false (sym e))
kind_is Cut Stale e = absurd (true≢false (sym e))
kind_is Cut Cut e = refl
kind_is Cut Stray e = absurd (true≢false (sym e))
kind_is Stray Bounds e = absurd (true≢false (sym e))
kind_is Stray Stale e = absurd (true≢false (sym e))
kind_is Stray Cut e = absurd (true≢false (sym e))
kind_is Stray Stray e = refl

kind_self : (a : Kind) → same_kind a a ≡ true
kind_self Bounds = refl
kind_self Stale = refl
kind_self Cut = refl
kind_self Stray = refl

is_equal : (a b : ℕ) → (a == b) ≡ true → a ≡ b
is_equal a b e = grind (arith, nat_tests, e)

equal_self : (a : ℕ) → (a == a) ≡ true
equal_self a = grind (arith, nat_tests)

alike_is : (a b : Suspicion) → are_alike a b ≡ true → IsAlike a b
alike_is a b e =
    let k = both_of (same_kind a.kind b.kind) (same_place a.place b.place) e in
    let f = both_of (bytes_eq a.place.func b.place.func) (bytes_eq a.place.label b.place.label && a.place.index == b.place.index) k.1 in
    let l = both_of (bytes_eq a.place.label b.place.label) (a.place.index == b.place.index) f.1 in
    record {
      kind = kind_is a.kind b.kind k.0;
      func = (bytes_eq-Decides a.place.func b.place.func).0 f.0;
      label = (bytes_eq-Decides a.place.label b.place.label).0 l.0;
      index = is_equal a.place.index b.place.index l.1;
    }

is_alike : (a b : Suspicion) → IsAlike a b → are_alike a b ≡ true
is_alike a b e =
    (λ i. same_kind (e.kind i) b.kind && (bytes_eq (e.func i) b.place.func && (bytes_eq (e.label i) b.place.label && e.index i == b.place.index)))
    ∙ (λ i. kind_self b.kind i && ((bytes_eq-Decides b.place.func b.place.func).1 refl i && ((bytes_eq-Decides b.place.label b.place.label).1 refl i && equal_self b.place.index i)))

bool_same : (x y : Bool) → (x ≡ true → y ≡ true) → (y ≡ true → x ≡ true) → x ≡ y
bool_same true y f g = sym (f refl)
bool_same false true f g = g refl
bool_same false false f g = refl

alike_sym : (a b : Suspicion) → are_alike a b ≡ are_alike b a
alike_sym a b =
    bool_same (are_alike a b) (are_alike b a)
    (λ e. let q = alike_is a b e in is_alike b a (record { kind = sym q.kind; func = sym q.func; label = sym q.label; index = sym q.index }))
    (λ e. let q = alike_is b a e in is_alike a b (record { kind = sym q.kind; func = sym q.func; label = sym q.label; index = sym q.index }))

alike_trans : (a b c : Suspicion) → are_alike a b ≡ true → are_alike b c ≡ true → are_alike a c ≡ true
alike_trans a b c e f =
    let q = alike_is a b e in
    let r = alike_is b c f in
    is_alike a c (record { kind = q.kind ∙ r.kind; func = q.func ∙ r.func; label = q.label ∙ r.label; index = q.index ∙ r.index })

-- of two that are alike neither is like a third that the other isn't like
unlike : (a b c : Suspicion) → are_alike a b ≡ true → are_alike a c ≡ false → are_alike b c ≡ false
unlike a b c e f = by (are_alike b c) refl
  where
    by : (t : Bool) → are_alike b c ≡ t → t ≡ false
    by true g = absurd (true≢false (sym (alike_trans a b c e g) ∙ f))
    by false g = refl

-- ---- those that are first

-- whether one of some is like it
any_like : Suspicion → List Suspicion → Bool
any_like x [] = false
any_like x (f ∷ fs) = are_alike f x || any_like x fs

abbrev rest_of : Suspicion → List Suspicion → List Suspicion
rest_of s fs = filter (λ y. not (are_alike s y)) fs

abbrev if_new : Bool → Suspicion → List Suspicion
if_new found x = if found then [] else x ∷ []

kept_append : {X : Type 0} (b : Bool) (x : X) (xs all ys : List X) → all ≡ xs ++ ys → (if b then x ∷ all else all) ≡ (if b then x ∷ xs else xs) ++ ys
kept_append true x xs all ys e = ap (λ l. x ∷ l) e
kept_append false x xs all ys e = e

filter_append : {X : Type 0} (t : X → Bool) (xs ys : List X) → filter t (xs ++ ys) ≡ filter t xs ++ filter t ys
filter_append t [] ys = refl
filter_append t (x ∷ xs) ys = kept_append (t x) x (filter t xs) (filter t (xs ++ ys)) (filter t ys) (filter_append t xs ys)

-- what is like another than x may go
any_kept : (b : Bool) (f x : Suspicion) (fs : List Suspicion) (rest : Bool) → (b ≡ true → are_alike f x ≡ false) → any_like x fs ≡ rest → any_like x (if not b then f ∷ fs else fs) ≡ (are_alike f x || rest)
unfolding any_like
any_kept true f x fs rest other e = e ∙ ap (λ t. t || rest) (sym (other refl))
any_kept false f x fs rest other e = ap (λ t. are_alike f x || t) e

any_rest : (s x : Suspicion) (fs : List Suspicion) → are_alike s x ≡ false → any_like x (rest_of s fs) ≡ any_like x fs
unfolding any_like
any_rest s x [] e = refl
any_rest s x (f ∷ fs) e = any_kept (are_alike s f) f x (rest_of s fs) (any_like x fs) (λ is. unlike s f x is e) (any_rest s x fs e)

new_kept : (b found : Bool) (x : Suspicion) (t : Suspicion → Bool) → t x ≡ not b → filter t (if_new found x) ≡ if_new (b || found) x
new_kept true true x t e = refl
new_kept true false x t e = (λ i. if e i then x ∷ [] else [])
new_kept false true x t e = refl
new_kept false false x t e = (λ i. if e i then x ∷ [] else [])

new_rest : (s x : Suspicion) (fs : List Suspicion) (b : Bool) → are_alike s x ≡ b → filter (λ y. not (are_alike s y)) (if_new (any_like x fs) x) ≡ if_new (b || any_like x (rest_of s fs)) x
new_rest s x fs true e = new_kept true (any_like x fs) x (λ y. not (are_alike s y)) (ap not e)
new_rest s x fs false e = new_kept false (any_like x fs) x (λ y. not (are_alike s y)) (ap not e) ∙ ap (λ t. if_new t x) (sym (any_rest s x fs e))

firsts_more : (xs : List Suspicion) (x : Suspicion) → firsts (xs ++ x ∷ []) ≡ firsts xs ++ if_new (any_like x (firsts xs)) x
unfolding any_like
firsts_more [] x = refl
firsts_more (s ∷ xs) x =
    ap (λ l. s ∷ l)
    (ap (rest_of s) (firsts_more xs x)
    ∙ filter_append (λ y. not (are_alike s y)) (firsts xs) (if_new (any_like x (firsts xs)) x)
    ∙ ap (λ l. rest_of s (firsts xs) ++ l) (new_rest s x (firsts xs) (are_alike s x) refl))

-- each stands for those like it
any_first : (x : Suspicion) (xs : List Suspicion) → any_like x (firsts xs) ≡ any_like x xs
unfolding any_like
any_first x [] = refl
any_first x (s ∷ xs) = by (are_alike s x) refl (any_first x xs)
  where
    by : (b : Bool) → are_alike s x ≡ b → any_like x (firsts xs) ≡ any_like x xs → (are_alike s x || any_like x (rest_of s (firsts xs))) ≡ (are_alike s x || any_like x xs)
    by true e deep = (λ i. e i || any_like x (rest_of s (firsts xs))) ∙ (λ i. sym e i || any_like x xs)
    by false e deep = ap (λ t. are_alike s x || t) (any_rest s x (firsts xs) e ∙ deep)

-- no two that are first are alike
abbrev AreApart : List Suspicion → Type 0
AreApart [] = ⊤
AreApart (f ∷ fs) = AllByRecursion (λ g. are_alike f g ≡ false) fs × AreApart fs

not_true : (b : Bool) → not b ≡ true → b ≡ false
not_true true e = absurd (true≢false (sym e))
not_true false e = refl

kept_all : {X : Type 0} (P : X → Type 0) (b : Bool) (x : X) (xs : List X) → (b ≡ true → P x) → AllByRecursion P xs → AllByRecursion P (if b then x ∷ xs else xs)
kept_all P true x xs here all = (here refl, all)
kept_all P false x xs here all = all

rest_unlike : (s : Suspicion) (fs : List Suspicion) → AllByRecursion (λ g. are_alike s g ≡ false) (rest_of s fs)
rest_unlike s [] = tt
rest_unlike s (f ∷ fs) = kept_all (λ g. are_alike s g ≡ false) (not (are_alike s f)) f (rest_of s fs) (not_true (are_alike s f)) (rest_unlike s fs)

filtered : {X : Type 0} (P : X → Type 0) (t : X → Bool) (xs : List X) → AllByRecursion P xs → AllByRecursion P (filter t xs)
filtered P t [] all = tt
filtered P t (x ∷ xs) all = kept_all P (t x) x (filter t xs) (λ e. all.0) (filtered P t xs all.1)

kept_apart : (b : Bool) (f : Suspicion) (fs : List Suspicion) → AllByRecursion (λ g. are_alike f g ≡ false) fs → AreApart fs → AreApart (if b then f ∷ fs else fs)
kept_apart true f fs here all = (here, all)
kept_apart false f fs here all = all

rest_apart : (t : Suspicion → Bool) (fs : List Suspicion) → AreApart fs → AreApart (filter t fs)
rest_apart t [] apart = tt
rest_apart t (f ∷ fs) apart = kept_apart (t f) f (filter t fs) (filtered (λ g. are_alike f g ≡ false) t fs apart.0) (rest_apart t fs apart.1)

firsts_apart : (xs : List Suspicion) → AreApart (firsts xs)
firsts_apart [] = tt
firsts_apart (s ∷ xs) = (rest_unlike s (firsts xs), rest_apart (λ y. not (are_alike s y)) (firsts xs) (firsts_apart xs))

-- ---- how many there were

abbrev times : List Suspicion → Suspicion → ℕ
times xs s = length (filter (are_alike s) xs)

abbrev one_if : Bool → ℕ
one_if true = 1
one_if false = 0

length-append : {X : Type 0} (xs ys : List X) → length (xs ++ ys) ≡ length xs + length ys
length-append [] ys = omega arith
length-append (x ∷ xs) ys = let deep = length-append xs ys in omega (arith, deep)

one_kept : {X : Type 0} (b : Bool) (x : X) → length (if b then x ∷ [] else []) ≡ one_if b
one_kept true x = refl
one_kept false x = refl

times_more : (xs : List Suspicion) (x s : Suspicion) → times (xs ++ x ∷ []) s ≡ times xs s + one_if (are_alike s x)
times_more xs x s =
    ap length (filter_append (are_alike s) xs (x ∷ []))
    ∙ length-append (filter (are_alike s) xs) (filter (are_alike s) (x ∷ []))
    ∙ ap (λ n. times xs s + n) (one_kept (are_alike s x) x)

none_kept : {X : Type 0} (b : Bool) (x : X) (xs : List X) → b ≡ false → length xs ≡ 0 → length (if b then x ∷ xs else xs) ≡ 0
none_kept true x xs e none = absurd (true≢false e)
none_kept false x xs e none = none

or_false : (x y : Bool) → (x || y) ≡ false → (x ≡ false) × (y ≡ false)
or_false true y e = absurd (true≢false e)
or_false false y e = (refl, e)

times_none : (xs : List Suspicion) (x : Suspicion) → any_like x xs ≡ false → times xs x ≡ 0
unfolding any_like
times_none [] x e = refl
times_none (s ∷ xs) x e =
    let q = or_false (are_alike s x) (any_like x xs) e in
    none_kept (are_alike x s) s (filter (are_alike x) xs) (alike_sym x s ∙ q.0) (times_none xs x q.1)

-- ---- a suspicion more in the notes

abbrev pub more : Suspicion → List Note → List Note
more x [] = record { first = x; count = 1 } ∷ []
more x (n ∷ ns) = if are_alike n.first x then record n { count = n.count + 1 } ∷ ns else n ∷ more x ns

abbrev counted : (Suspicion → ℕ) → Suspicion → Note
counted g f = record { first = f; count = g f }

abbrev first_note : Bool → Suspicion → List Note
first_note found x = if found then [] else record { first = x; count = 1 } ∷ []

-- where none is like it, no count grows
counts_same : (g h : Suspicion → ℕ) (x : Suspicion) (fs : List Suspicion) → ((f : Suspicion) → h f ≡ g f + one_if (are_alike f x)) → AllByRecursion (λ f. are_alike f x ≡ false) fs → map (counted g) fs ≡ map (counted h) fs
counts_same g h x [] each none = refl
counts_same g h x (f ∷ fs) each none =
    let none_more : one_if (are_alike f x) ≡ 0 = ap one_if none.0 in
    let same : g f ≡ h f = let e = each f in omega (arith, e, none_more) in
    λ i. record { first = f; count = same i } ∷ counts_same g h x fs each none.1 i

others_unlike : (f x : Suspicion) (fs : List Suspicion) → are_alike f x ≡ true → AllByRecursion (λ g. are_alike f g ≡ false) fs → AllByRecursion (λ g. are_alike g x ≡ false) fs
others_unlike f x [] e apart = tt
others_unlike f x (g ∷ fs) e apart = (alike_sym g x ∙ unlike f x g e apart.0, others_unlike f x fs e apart.1)

more_counted : (g h : Suspicion → ℕ) (x : Suspicion) (fs : List Suspicion) → AreApart fs → ((f : Suspicion) → h f ≡ g f + one_if (are_alike f x)) → more x (map (counted g) fs) ≡ map (counted h) fs ++ first_note (any_like x fs) x
unfolding any_like
more_counted g h x [] apart each = refl
more_counted g h x (f ∷ fs) apart each = by (are_alike f x) refl (more_counted g h x fs apart.1 each)
  where
    by : (b : Bool) → are_alike f x ≡ b → more x (map (counted g) fs) ≡ map (counted h) fs ++ first_note (any_like x fs) x
        → (if are_alike f x then record { first = f; count = g f + 1 } ∷ map (counted g) fs else counted g f ∷ more x (map (counted g) fs)) ≡ counted h f ∷ (map (counted h) fs ++ first_note (are_alike f x || any_like x fs) x)
    by true e deep =
        let one_more : one_if (are_alike f x) ≡ 1 = ap one_if e in
        let same : g f + 1 ≡ h f = let k = each f in omega (arith, k, one_more) in
        (λ i. if e i then record { first = f; count = g f + 1 } ∷ map (counted g) fs else counted g f ∷ more x (map (counted g) fs))
        ∙ (λ i. record { first = f; count = same i } ∷ counts_same g h x fs each (others_unlike f x fs e apart.0) i)
        ∙ ap (λ l. counted h f ∷ l) (sym (append-nil (map (counted h) fs)))
        ∙ (λ i. counted h f ∷ (map (counted h) fs ++ first_note (sym e i || any_like x fs) x))
    by false e deep =
        let none_more : one_if (are_alike f x) ≡ 0 = ap one_if e in
        let same : g f ≡ h f = let k = each f in omega (arith, k, none_more) in
        (λ i. if e i then record { first = f; count = g f + 1 } ∷ map (counted g) fs else counted g f ∷ more x (map (counted g) fs))
        ∙ (λ i. record { first = f; count = same i } ∷ deep i)
        ∙ (λ i. counted h f ∷ (map (counted h) fs ++ first_note (sym e i || any_like x fs) x))

map_append : {X Y : Type 0} (f : X → Y) (xs ys : List X) → map f (xs ++ ys) ≡ map f xs ++ map f ys
map_append f [] ys = refl
map_append f (x ∷ xs) ys = ap (λ l. f x ∷ l) (map_append f xs ys)

new_note : (xs : List Suspicion) (x : Suspicion) (b : Bool) → any_like x xs ≡ b → map (note_of (xs ++ x ∷ [])) (if_new b x) ≡ first_note b x
new_note xs x true e = refl
new_note xs x false e =
    let self : one_if (are_alike x x) ≡ 1 = ap one_if (is_alike x x (record { kind = refl; func = refl; label = refl; index = refl })) in
    let all = times_more xs x x in
    let none = times_none xs x e in
    let one : times (xs ++ x ∷ []) x ≡ 1 = omega (arith, all, none, self) in
    λ i. record { first = x; count = one i } ∷ []

pub noted_more : (xs : List Suspicion) (x : Suspicion) → noted (xs ++ x ∷ []) ≡ more x (noted xs)
noted_more xs x =
    let found = any_like x (firsts xs) in
    ap (map (note_of (xs ++ x ∷ []))) (firsts_more xs x)
    ∙ map_append (note_of (xs ++ x ∷ [])) (firsts xs) (if_new found x)
    ∙ ap (λ l. map (note_of (xs ++ x ∷ [])) (firsts xs) ++ l)
    (ap (λ b. map (note_of (xs ++ x ∷ [])) (if_new b x)) (any_first x xs) ∙ new_note xs x (any_like x xs) refl ∙ ap (λ b. first_note b x) (sym (any_first x xs)))
    ∙ sym (more_counted (times xs) (times (xs ++ x ∷ [])) x (firsts xs) (firsts_apart xs) (times_more xs x))

-- ---- how many suspicions there are

abbrev pub total : List Note → ℕ
total [] = 0
total (n ∷ ns) = n.count + total ns

total_step : (b : Bool) (n m : Note) (ns ms : List Note) → m.count ≡ n.count + 1 → total ms ≡ total ns + 1 → total (if b then m ∷ ns else n ∷ ms) ≡ n.count + total ns + 1
total_step true n m ns ms e f = omega (arith, e)
total_step false n m ns ms e f = omega (arith, f)

total_more : (x : Suspicion) (ns : List Note) → total (more x ns) ≡ total ns + 1
total_more x [] = refl
total_more x (n ∷ ns) = total_step (are_alike n.first x) n (record n { count = n.count + 1 }) ns (more x ns) refl (total_more x ns)

-- the same in one sum
summed : (k : ℕ) (ns : List Note) → fold (λ a x. a + x) k (map (λ (n : Note). n.count) ns) ≡ k + total ns
summed k [] = omega arith
summed k (n ∷ ns) = let deep = summed (k + n.count) ns in omega (arith, deep)

pub sum_total : (ns : List Note) → sum (map (λ (n : Note). n.count) ns) ≡ total ns
sum_total ns = let all = summed 0 ns in omega (arith, all)

-- all but the last before the last
abbrev all_more : List Suspicion → List Note → List Note
all_more [] ns = ns
all_more (x ∷ xs) ns = all_more xs (more x ns)

all_noted : (before xs : List Suspicion) → all_more xs (noted before) ≡ noted (before ++ xs)
all_noted before [] = ap noted (sym (append-nil before))
all_noted before (x ∷ xs) = ap (all_more xs) (sym (noted_more before x)) ∙ all_noted (before ++ x ∷ []) xs ∙ ap noted (append_assoc before (x ∷ []) xs)

all_total : (xs : List Suspicion) (ns : List Note) → total (all_more xs ns) ≡ total ns + length xs
all_total [] ns = omega arith
all_total (x ∷ xs) ns = let deep = all_total xs (more x ns) in let one = total_more x ns in omega (arith, deep, one)

pub total_noted : (xs : List Suspicion) → total (noted xs) ≡ length xs
total_noted xs = let count = all_total xs [] in ap total (sym (all_noted [] xs)) ∙ omega (arith, count)
