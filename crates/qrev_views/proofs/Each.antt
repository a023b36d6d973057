-- Items that are shown of a page, one after the other.
use Rattle.std.proofs.Common.{◌≡◌, refl, sym, ap, subst, ◌∙◌, ℕ, suc, ◌+◌, ◌-◌, ◌≤◌, List, [], ◌∷◌, ◌++◌, length, take, drop, Some, arith, append_assoc}
use Rattle.std.specs.Prelude.{min, slice_get}
use Rattle.std.proofs.lemmas.List.{append-nil}
use Rattle.json.specs.Token.{Token}
use Rattle.qrev_views.specs.Pages.{page_of}
use Rattle.qrev_views.specs.Variables.{ShowsEach}
use Rattle.qrev_views.specs.declared.variable.Page.{Page}
use Rattle.qrev_views.proofs.Pages.{take_more, dropped, taken}

each_more : {X : Type 0} (Shows : X → List Token → Type 0) (xs : List X) (x : X) (tokens item : List Token) → ShowsEach Shows xs tokens → Shows x item → ShowsEach Shows (xs ++ x ∷ []) (tokens ++ item)
each_more Shows [] x tokens item none shows = (item, [], shows, refl, ap (λ (t : List Token). t ++ item) none ∙ sym (append-nil item))
each_more Shows (y ∷ ys) x tokens item some shows =
    (some.0, some.1 ++ item, some.2, each_more Shows ys x some.1 item some.3 shows, ap (λ (t : List Token). t ++ item) some.4 ∙ append_assoc some.0 some.1 item)

-- the items of a page so far
abbrev pub EachSoFar : {X : Type 0} → (X → List Token → Type 0) → List X → ℕ → ℕ → List Token → Type 0
EachSoFar Shows xs first i tokens = ShowsEach Shows (take (i - first) (drop first xs)) tokens

pub none_shown : {X : Type 0} (Shows : X → List Token → Type 0) (xs : List X) (first : ℕ) → EachSoFar Shows xs first first []
none_shown Shows xs first = let e : first - first ≡ 0 = omega arith in subst (λ (k : ℕ). ShowsEach Shows (take k (drop first xs)) []) (sym e) refl

-- the next item
pub item_shown : {X : Type 0} (Shows : X → List Token → Type 0) (first i : ℕ) (xs : List X) (x : X) (tokens item : List Token) → first ≤ i → slice_get xs i ≡ Some x
    → EachSoFar Shows xs first i tokens → Shows x item → EachSoFar Shows xs first (i + 1) (tokens ++ item)
item_shown {X} Shows first i xs x tokens item from at so_far shows =
    let k : ℕ = i - first in
    let here : slice_get (drop first xs) k ≡ Some x = dropped xs first k i (omega (arith, from)) ∙ at in
    let next : take (i + 1 - first) (drop first xs) ≡ take k (drop first xs) ++ x ∷ [] = (let e : i + 1 - first ≡ suc k = omega (arith, from) in ap (λ (n : ℕ). take n (drop first xs)) e) ∙ take_more (drop first xs) k x here in
    subst (λ (l : List X). ShowsEach Shows l (tokens ++ item)) (sym next) (each_more Shows (take k (drop first xs)) x tokens item so_far shows)

-- all items of a page
pub all_shown : {X : Type 0} (Shows : X → List Token → Type 0) (page : Page) (first after i : ℕ) (xs : List X) (tokens : List Token) → first ≡ min page.start (length xs) → after ≡ min (first + page.count) (length xs) → after ≤ i → i ≤ after
    → EachSoFar Shows xs first i tokens → ShowsEach Shows (page_of page xs) tokens
all_shown {X} Shows page first after i xs tokens ef ea most least so_far =
    let end : i ≡ after = omega (arith, most, least) in
    subst (λ (l : List X). ShowsEach Shows l tokens) (ap (λ (n : ℕ). take (n - first) (drop first xs)) end ∙ taken xs page.start page.count first after ef ea) so_far
