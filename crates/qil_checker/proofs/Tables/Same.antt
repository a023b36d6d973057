-- When two lists have the same names.
use Rattle.std.proofs.Common.{◌≡◌, ◌≢◌, ◌↔◌, ◌∙◌, sym, refl, ℕ, List, Option, Some, None}
use Rattle.qil_rules.specs.Text.{AreDistinct, IsAmong}
use Rattle.qil_checker.specs.Tables.{first, is, AreKnown, AreSameOnce}
use Rattle.qil_checker.proofs.Texts.Places.{name_found, name_absent}

abbrev pub Lists : ((List ℕ) → Option ℕ) → List (List ℕ) → Type 0
Lists place xs = (x : (List ℕ)) → place x ≡ first (is x) 0 xs

pub known_of : (xs ys : List (List ℕ)) (place : (List ℕ) → Option ℕ) → Lists place ys → ((x : (List ℕ)) → IsAmong x xs → IsAmong x ys) → AreKnown xs place
known_of xs ys place tie sub = λ i x there none. let a = sub x (i, there) in name_absent ys x (sym (tie x) ∙ none) a.0 a.1

among_case : (ys : List (List ℕ)) (x : (List ℕ)) (found : Option ℕ) → found ≡ first (is x) 0 ys → found ≢ None → IsAmong x ys
among_case ys x None e ne = absurd (ne refl)
among_case ys x (Some k) e ne = (k, name_found ys x k (sym e))

pub known_to : (xs ys : List (List ℕ)) (place : (List ℕ) → Option ℕ) → Lists place ys → AreKnown xs place → (x : (List ℕ)) → IsAmong x xs → IsAmong x ys
known_to xs ys place tie known x a = among_case ys x (place x) (tie x) (known a.0 x a.1)

pub same_both : (xs ys : List (List ℕ)) (here there : (List ℕ) → Option ℕ) → Lists here xs → Lists there ys → AreDistinct xs → AreKnown xs there → AreKnown ys here ↔ AreSameOnce xs ys
same_both xs ys here there tie_here tie_there d known = (
  λ k. (d, λ x. (known_to xs ys there tie_there known x, known_to ys xs here tie_here k x)),
  λ s. known_of ys xs here tie_here (λ x. (s.1 x).1),
)
