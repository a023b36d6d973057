-- What the table of global names says of a program.
use Rattle.std.proofs.Common.{◌≡◌, ◌∙◌, ◌↔◌, sym, ap, refl, subst, not, IsTrue, nat_lt, ℕ, ◌<◌, inl, inr, List, [], ◌∷◌, Option, Some, None, Bool, true, false, slice_get, arith}
use Rattle.std.proofs.lemmas.Bool.Decides.{nat_tests}
use Rattle.std.proofs.lemmas.Slice.Eq.{bytes_eq-Decides}
use Rattle.qil_rules.specs.declared.occurrence.OccurrenceKind.{OccurrenceKind}
use Rattle.qil_rules.specs.declared.occurrence.OccurrenceKind.TheVariants.{DataName, FunctionName, Label, Edge, PhiLabel, PhiOf, Defines, Uses, Global, Returns, Long}
use Rattle.qil_rules.specs.declared.occurrence.Occurrence.{Occurrence}
use Rattle.qil_rules.specs.Text.{Names}
use Rattle.qil_rules.specs.Rules.{HasName, IsNamedBefore, IsUnknown, IsLostGlobal, is_built_in}
use Rattle.qil_checker.specs.Tables.{begun_name, head_name, has_name, is_name, first}
use Rattle.qil_checker.proofs.Texts.Places.{found_here, absent, occurrence_stands, one_what, same_name}

some_same : {A : Type 0} {a b : A} → Some a ≡ Some b → a ≡ b
some_same e = cc

begun_so : (m : Occurrence) (text : List Occurrence) (x : List ℕ) (w : OccurrenceKind) → m.what ≡ w → begun_name w ≡ Some x → Names (m ∷ text) 0 x
begun_so m text x (DataName y) is e = inl (ap Some (is ∙ ap DataName (some_same e)))
begun_so m text x (FunctionName y) is e = inr (ap Some (is ∙ ap FunctionName (some_same e)))
begun_so m text x (Label y) is e = absurd cc
begun_so m text x (Edge y z) is e = absurd cc
begun_so m text x (PhiLabel y) is e = absurd cc
begun_so m text x (PhiOf y z) is e = absurd cc
begun_so m text x (Defines y c) is e = absurd cc
begun_so m text x (Uses y c) is e = absurd cc
begun_so m text x (Global y) is e = absurd cc
begun_so m text x (Returns y) is e = absurd cc
begun_so m text x (Long y) is e = absurd cc

pub head_names : (text : List Occurrence) (x : List ℕ) → head_name text ≡ Some x → Names text 0 x
head_names [] x e = absurd cc
head_names (m ∷ text) x e = begun_so m text x m.what refl e

names_head : (text : List Occurrence) (x : List ℕ) → Names text 0 x → head_name text ≡ Some x
names_head [] x (inl s) = absurd cc
names_head [] x (inr s) = absurd cc
names_head (m ∷ text) x (inl s) = ap begun_name (some_same s)
names_head (m ∷ text) x (inr s) = ap begun_name (some_same s)

is_that : (x : List ℕ) (o : Option (List ℕ)) → is_name x o ≡ true → o ≡ Some x
is_that x None e = absurd cc
is_that x (Some y) e = ap Some ((bytes_eq-Decides y x).0 e)

named_there : (all : List (List Occurrence)) (m : ℕ) (x : List ℕ) → HasName all m x → (text : List Occurrence) × (slice_get all m ≡ Some text) × (has_name x text ≡ true)
named_there all m x h = (h.0, h.1, ap (is_name x) (names_head h.0 x h.2) ∙ same_name x)

pub named_first : (all : List (List Occurrence)) (x : List ℕ) (k : ℕ) → first (has_name x) 0 all ≡ Some k → HasName all k x
named_first all x k e = let f = found_here (has_name x) all k e in (f.item, f.there, head_names f.item x (is_that x (head_name f.item) f.passes))

not_before : (all : List (List Occurrence)) (x : List ℕ) (k : ℕ) → first (has_name x) 0 all ≡ Some k → (m : ℕ) → m < k → HasName all m x → ⊥
not_before all x k e m l h =
    let f = found_here (has_name x) all k e in
    let n = named_there all m x h in
    let not : has_name x n.0 ≡ false = f.earlier m n.0 l n.1 in
    let yes : has_name x n.0 ≡ true = n.2 in
    cc

pub not_named : (all : List (List Occurrence)) (x : List ℕ) → first (has_name x) 0 all ≡ None → (m : ℕ) → HasName all m x → ⊥
not_named all x e m h =
    let n = named_there all m x h in
    let not : has_name x n.0 ≡ false = absent (has_name x) 0 all e m n.0 n.1 in
    let yes : has_name x n.0 ≡ true = n.2 in
    cc

short : (n m : ℕ) → IsTrue (nat_lt n m) → n < m
short n m t = grind (arith, nat_tests)

long : (n m : ℕ) → n < m → IsTrue (nat_lt n m)
long n m l = grind (arith, nat_tests)

pub named_before : (all : List (List Occurrence)) (x : List ℕ) (k n : ℕ) → first (has_name x) 0 all ≡ Some k → IsTrue (nat_lt k n) ↔ IsNamedBefore all n x
named_before all x k n e = (
  λ t. (k, short k n t, named_first all x k e),
  λ b. let after : b.0 < k → ⊥ = λ l. not_before all x k e b.0 l b.2 in long k n (let l = b.1 in omega (arith, after, l)),
)

is_false : (r : Bool) → IsTrue (not r) → r ≡ false
is_false true t = absurd cc
is_false false t = refl

is_not : (r : Bool) → r ≡ false → IsTrue (not r)
is_not true e = absurd cc
is_not false e = refl

pub unknown : (all : List (List Occurrence)) (g : List ℕ) (r : Bool) → r ≡ is_built_in g → first (has_name g) 0 all ≡ None → IsTrue (not r) ↔ IsUnknown all g
unknown all g r e none = (
  λ t. (not_named all g none, sym e ∙ is_false r t),
  λ u. is_not r (e ∙ u.1),
)

same_global : (g h : List ℕ) → Global g ≡ Global h → g ≡ h
same_global g h e = cc

pub lost_global : (all : List (List Occurrence)) (text : List Occurrence) (k : ℕ) (m : Occurrence) (g : List ℕ) (r : Bool) → slice_get text k ≡ Some m → m.what ≡ Global g
    → IsTrue r ↔ IsUnknown all g → IsTrue r ↔ IsLostGlobal all text k
lost_global all text k m g r there is u = (
  λ t. (g, occurrence_stands text k m (Global g) there is, u.0 t),
  λ b. u.1 (subst (IsUnknown all) (same_global b.0 g (sym (one_what text k m (Global b.0) there b.1) ∙ is)) b.2),
)
