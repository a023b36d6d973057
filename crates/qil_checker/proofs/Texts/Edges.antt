-- The list of the predecessors of a block has exactly those.
use Rattle.std.proofs.Common.{◌≡◌, ◌∙◌, ◌↔◌, sym, refl, ap, subst, ℕ, zero, suc, List, [], ◌∷◌, ◌++◌, Bool, true, false, if◌then◌else◌, Result, Ok, Err, IfOk, IsTrue}
use Rattle.std.specs.Str.{bytes_eq}
use Rattle.std.proofs.lemmas.Slice.Eq.{bytes_eq-Decides}
use Rattle.qil_rules.specs.declared.occurrence.OccurrenceKind.{OccurrenceKind}
use Rattle.qil_rules.specs.declared.occurrence.OccurrenceKind.TheVariants.{DataName, FunctionName, Label, Edge, PhiLabel, PhiOf, Defines, Uses, Global, Returns, Long}
use Rattle.qil_rules.specs.declared.occurrence.Occurrence.{Occurrence}
use Rattle.qil_rules.specs.Text.{IsAt, IsAmong, IsPredecessor, ArePredecessors}
use Rattle.qil_checker.specs.Tables.{predecessor, predecessors_of, AreSameOnce}

later : (b l : List ℕ) (m : Occurrence) (text : List Occurrence) → IsPredecessor text b l → IsPredecessor (m ∷ text) b l
later b l m text p = (suc p.0, p.1)

-- what follows from an item of the list with the occurrence of an edge before it
edge_prefix : (b l from to : List ℕ) (m : Occurrence) (text : List Occurrence) (t : Bool) → bytes_eq to b ≡ t → m.what ≡ Edge from to
    → (IsAmong l (predecessors_of b text) → IsPredecessor text b l)
    → IsAmong l ((if t then from ∷ [] else []) ++ predecessors_of b text) → IsPredecessor (m ∷ text) b l
edge_prefix b l from to m text true e is rest (zero, a) = (let name : from ≡ l = cc in let target : to ≡ b = (bytes_eq-Decides to b).0 e in (zero, cc))
edge_prefix b l from to m text true e is rest (suc i, a) = later b l m text (rest (i, a))
edge_prefix b l from to m text false e is rest a = later b l m text (rest a)

predecessor_case : (b l : List ℕ) (m : Occurrence) (text : List Occurrence) (w : OccurrenceKind) → m.what ≡ w → (IsAmong l (predecessors_of b text) → IsPredecessor text b l)
    → IsAmong l (predecessor b w ++ predecessors_of b text) → IsPredecessor (m ∷ text) b l
predecessor_case b l m text (Label x) is rest a = later b l m text (rest a)
predecessor_case b l m text (Edge from to) is rest a = edge_prefix b l from to m text (bytes_eq to b) refl is rest a
predecessor_case b l m text (Defines x c) is rest a = later b l m text (rest a)
predecessor_case b l m text (Uses x c) is rest a = later b l m text (rest a)
predecessor_case b l m text (PhiOf x ls) is rest a = later b l m text (rest a)
predecessor_case b l m text (DataName x) is rest a = later b l m text (rest a)
predecessor_case b l m text (FunctionName x) is rest a = later b l m text (rest a)
predecessor_case b l m text (PhiLabel x) is rest a = later b l m text (rest a)
predecessor_case b l m text (Global x) is rest a = later b l m text (rest a)
predecessor_case b l m text (Returns t) is rest a = later b l m text (rest a)
predecessor_case b l m text (Long c) is rest a = later b l m text (rest a)

is_predecessor : (b l : List ℕ) (text : List Occurrence) → IsAmong l (predecessors_of b text) → IsPredecessor text b l
is_predecessor b l [] = λ a. absurd (let e = a.1 in cc)
is_predecessor b l (m ∷ text) = predecessor_case b l m text m.what refl (is_predecessor b l text)

behind : (l : List ℕ) (prefix xs : List (List ℕ)) → IsAmong l xs → IsAmong l (prefix ++ xs)
behind l [] xs a = a
behind l (f ∷ prefix) xs a = let b = behind l prefix xs a in (suc b.0, b.1)

is_listed : (b l : List ℕ) (text : List Occurrence) (j : ℕ) → IsAt text j (Edge l b) → IsAmong l (predecessors_of b text)
is_listed b l [] j e = absurd cc
is_listed b l (m ∷ text) zero e =
    let is : m.what ≡ Edge l b = cc in
    let prefix : predecessor b m.what ≡ l ∷ [] = ap (predecessor b) is ∙ ap (λ t. if t then l ∷ [] else []) ((bytes_eq-Decides b b).1 refl) in
    subst (λ f. IsAmong l (f ++ predecessors_of b text)) (sym prefix) (zero, refl)
is_listed b l (m ∷ text) (suc j) e = behind l (predecessor b m.what) (predecessors_of b text) (is_listed b l text j e)

-- a phi is right where its labels are the predecessors, each once
pub labels_are : (text : List Occurrence) (b : List ℕ) (ls : List (List ℕ)) → AreSameOnce ls (predecessors_of b text) ↔ ArePredecessors text b ls
labels_are text b ls = (
  λ s. (s.0, λ l. (λ a. is_predecessor b l text ((s.1 l).0 a), λ p. (s.1 l).1 (is_listed b l text p.0 p.1))),
  λ s. (s.0, λ l. (λ a. let p = (s.1 l).0 a in is_listed b l text p.0 p.1, λ a. (s.1 l).1 (is_predecessor b l text a))),
)

pub answer_is : {E : Type 0} (r : Result Bool E) (text : List Occurrence) (b : List ℕ) (ls xs ys : List (List ℕ)) → xs ≡ ls → ys ≡ predecessors_of b text
    → IfOk r (λ t. IsTrue t ↔ AreSameOnce xs ys) → IfOk r (λ t. IsTrue t ↔ ArePredecessors text b ls)
answer_is (Err e) text b ls xs ys same_labels same_predecessors h = h
answer_is (Ok t) text b ls xs ys same_labels same_predecessors h =
    let k : IsTrue t ↔ AreSameOnce ls (predecessors_of b text) = subst (λ l. IsTrue t ↔ AreSameOnce l (predecessors_of b text)) same_labels (subst (λ l. IsTrue t ↔ AreSameOnce xs l) same_predecessors h) in
    let s = labels_are text b ls in
    (λ y. s.0 (k.0 y), λ y. k.1 (s.1 y))
