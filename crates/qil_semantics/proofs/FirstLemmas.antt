-- The first of the reasons that hold: what an option of a reason says of a relation on reasons.
use Rattle.std.proofs.Common.{◌≡◌, refl, sym, ap, ◌∙◌, subst, inl, inr, ◌⊎◌, ℕ, zero, suc, ◌≤◌, ◌<◌, Bool, true, false, List, [], ◌∷◌, Option, Some, None, arith}
use Rattle.std.proofs.lemmas.Bool.{cases_lt}
use Rattle.std.specs.Prelude.{find, slice_get}
use Rattle.std.specs.Option.{option_or, option_map}
use Rattle.qil_semantics.specs.Stops.{Stop, Numbered, AreListed}
use Rattle.qil_semantics.specs.Runs.{if_holds}
use Rattle.qil_semantics.specs.Targets.{rank, number_of, IsBefore, Has}
use Rattle.qil_semantics.specs.declared.reason.Reason.{Reason}
use Rattle.qil_semantics.specs.declared.reason.Reason.TheVariants.{End, Watch, Break, Start, Oldest, Limit, Memory}

-- a reason of the relation, none of which comes before it; or there is none
abbrev pub First : (Reason → Type 0) → Option Reason → Type 0
First R (Some r) = R r × ((q : Reason) → IsBefore q r → R q → ⊥)
First R None = (q : Reason) → R q → ⊥

-- ---- the order

decoded : ℕ → ℕ → Reason
decoded zero n = End
decoded (suc zero) n = Watch n
decoded (suc (suc zero)) n = Break n
decoded (suc (suc (suc zero))) n = Start
decoded (suc (suc (suc (suc zero)))) n = Oldest
decoded (suc (suc (suc (suc (suc zero))))) n = Limit
decoded r n = Memory

decodes : (r : Reason) → decoded (rank r) (number_of r) ≡ r
unfolding decoded
decodes End = refl
decodes (Watch n) = refl
decodes (Break n) = refl
decodes Start = refl
decodes Oldest = refl
decodes Limit = refl
decodes Memory = refl

-- numbers, of which neither is below the other
pub level : (a b : ℕ) → (a < b → ⊥) → (b < a → ⊥) → a ≡ b
level a b h k = elim (cases_lt a b) [ inl l ↦ absurd (h l) | inr g ↦ elim (cases_lt b a) [ inl l ↦ absurd (k l) | inr e ↦ omega (arith, g, e) ] ]

-- reasons, of which neither comes before the other
pub same : (r q : Reason) → (IsBefore r q → ⊥) → (IsBefore q r → ⊥) → r ≡ q
same r q h k =
    let ranks : rank r ≡ rank q = level (rank r) (rank q) (λ l. h (inl l)) (λ l. k (inl l)) in
    let numbers : number_of r ≡ number_of q = level (number_of r) (number_of q) (λ l. h (inr (ranks, l))) (λ l. k (inr (sym ranks, l))) in
    sym (decodes r) ∙ (ap (λ a. decoded a (number_of r)) ranks ∙ (ap (λ b. decoded (rank q) b) numbers ∙ decodes q))

not_itself : (r : Reason) → IsBefore r r → ⊥
not_itself r (inl l) = omega (arith, l)
not_itself r (inr l) = let m = l.1 in omega (arith, m)

not_later : (q r : Reason) (m : ℕ) → rank r ≤ m → m < rank q → IsBefore q r → ⊥
not_later q r m low high (inl l) = omega (arith, low, high, l)
not_later q r m low high (inr l) = let e = l.0 in omega (arith, low, high, e)

-- ---- what an option says

pub none_of : (R : Reason → Type 0) (o : Option Reason) → First R o → ((q : Reason) → R q → ⊥) → o ≡ None
none_of R None f h = refl
none_of R (Some r) f h = absurd (h r f.0)

pub some_of : (R : Reason → Type 0) (o : Option Reason) (r : Reason) → First R o → R r → ((q : Reason) → IsBefore q r → R q → ⊥) → o ≡ Some r
some_of R None r f h least = absurd (f r h)
some_of R (Some q) r f h least = ap Some (same q r (λ b. least q b f.0) (λ b. f.1 r b h))

pub first_iff : (P Q : Reason → Type 0) (o : Option Reason) → ((q : Reason) → P q → Q q) → ((q : Reason) → Q q → P q) → First P o → First Q o
first_iff P Q None to from f = λ q h. f q (from q h)
first_iff P Q (Some r) to from f = (to r f.0, λ q b h. f.1 q b (from q h))

-- a reason that holds on a condition
pub first_holds : (b : Bool) (r : Reason) → First (λ q. (q ≡ r) × (b ≡ true)) (if_holds b r)
first_holds true r = ((refl, refl), λ q b h. not_itself r (subst (λ x. IsBefore x r) h.0 b))
first_holds false r = λ q h. (let e = h.1 in absurd (cc))

-- of two relations, the ranks of the one all below those of the other
pub first_or : (P Q : Reason → Type 0) (m : ℕ) (a b : Option Reason) → ((q : Reason) → P q → rank q ≤ m) → ((q : Reason) → Q q → m < rank q)
    → First P a → First Q b → First (λ q. P q ⊎ Q q) (option_or a b)
first_or P Q m (Some r) b low high f g = (inl f.0, λ q before h. elim h [ inl x ↦ f.1 q before x | inr y ↦ not_later q r m (low r f.0) (high q y) before ])
first_or P Q m None (Some r) low high f g = (inr g.0, λ q before h. elim h [ inl x ↦ f q x | inr y ↦ g.1 q before y ])
first_or P Q m None None low high f g = λ q h. elim h [ inl x ↦ f q x | inr y ↦ g q y ]

-- ---- stops by number

-- a number of the relation that is the lowest, or there is none
abbrev pub Lowest : (ℕ → Type 0) → Option ℕ → Type 0
Lowest N (Some n) = N n × ((m : ℕ) → m < n → N m → ⊥)
Lowest N None = (m : ℕ) → N m → ⊥

abbrev pub Numbers : (Stop → Bool) → List Numbered → ℕ → Type 0
Numbers test stops n = (stop : Stop) × Has stops n stop × (test stop ≡ true)

none_some : {X Y : Type 0} {x : X} → None ≡ Some x → Y
none_some e = absurd (subst (λ o. elim o as (λ _. Type 0) [ None ↦ Unit {0} | Some y ↦ ⊥ ]) e tt)

from_some : {X : Type 0} (x y : X) → Some x ≡ Some y → x ≡ y
from_some x y e = cc

-- all numbers that are listed are above the one before
listed_above : (low : ℕ) (stops : List Numbered) (i n : ℕ) (stop : Stop) → AreListed low stops → slice_get stops i ≡ Some (record { number = n; stop = stop }) → low < n
listed_above low [] i n stop l e = none_some e
listed_above low (one ∷ others) zero n stop l e = let f : one.number ≡ n = ap (λ x. x.number) (from_some one (record { number = n; stop = stop }) e) in let g = l.0 in omega (arith, f, g)
listed_above low (one ∷ others) (suc i) n stop l e = let g = l.0 in let h = listed_above one.number others i n stop l.1 e in omega (arith, g, h)

earlier_found : (test : Stop → Bool) (one : Numbered) (others : List Numbered) (low m : ℕ) → AreListed low (one ∷ others) → m < one.number → Numbers test (one ∷ others) m → ⊥
earlier_found test one others low m l b (stop, (zero, e), h) = let f : one.number ≡ m = ap (λ x. x.number) (from_some one (record { number = m; stop = stop }) e) in omega (arith, f, b)
earlier_found test one others low m l b (stop, (suc i, e), h) = let g = listed_above one.number others i m stop l.1 e in omega (arith, g, b)

-- a number of the whole list is one of the rest, where the first doesn't hold
in_rest : (test : Stop → Bool) (one : Numbered) (others : List Numbered) (m : ℕ) → test one.stop ≡ false → Numbers test (one ∷ others) m → Numbers test others m
in_rest test one others m f (stop, (zero, e), h) = let g : one.stop ≡ stop = ap (λ x. x.stop) (from_some one (record { number = m; stop = stop }) e) in let k = ap test g in absurd (cc)
in_rest test one others m f (stop, (suc i, e), h) = (stop, (i, e), h)

in_whole : (test : Stop → Bool) (one : Numbered) (others : List Numbered) (m : ℕ) → Numbers test others m → Numbers test (one ∷ others) m
in_whole test one others m (stop, (i, e), h) = (stop, (suc i, e), h)

lowest_iff : (N M : ℕ → Type 0) (o : Option ℕ) → ((n : ℕ) → N n → M n) → ((n : ℕ) → M n → N n) → Lowest N o → Lowest M o
lowest_iff N M None to from f = λ n h. f n (from n h)
lowest_iff N M (Some r) to from f = (to r f.0, λ n b h. f.1 n b (from n h))

found_next : (test : Stop → Bool) (one : Numbered) (others : List Numbered) (low : ℕ) (b : Bool) → test one.stop ≡ b → AreListed low (one ∷ others)
    → Lowest (Numbers test others) (option_map (λ x. x.number) (find (λ x. test x.stop) others))
    → Lowest (Numbers test (one ∷ others)) (option_map (λ x. x.number) (find (λ x. test x.stop) (one ∷ others)))
found_next test one others low true e l h = rw e ((one.stop, (0, refl), e), λ m b n. earlier_found test one others low m l b n)
found_next test one others low false e l h =
    rw e (lowest_iff (Numbers test others) (Numbers test (one ∷ others)) (option_map (λ x. x.number) (find (λ x. test x.stop) others))
    (λ n k. in_whole test one others n k) (λ n k. in_rest test one others n e k) h)

-- the first stop of a list for which a test holds has the lowest number of those for which it does
pub lowest_found : (test : Stop → Bool) (low : ℕ) (stops : List Numbered) → AreListed low stops → Lowest (Numbers test stops) (option_map (λ one. one.number) (find (λ one. test one.stop) stops))
lowest_found test low [] l = λ n h. none_some h.1.1
lowest_found test low (one ∷ others) l = found_next test one others low (test one.stop) refl l (lowest_found test one.number others l.1)

-- ---- stops as reasons

abbrev pub Watches : (ℕ → Type 0) → Reason → Type 0
Watches N q = (n : ℕ) × (q ≡ Watch n) × N n

abbrev pub Breaks : (ℕ → Type 0) → Reason → Type 0
Breaks N q = (n : ℕ) × (q ≡ Break n) × N n

number_before : (k : ℕ → Reason) (m n : ℕ) (q : Reason) → q ≡ k m → rank (k m) ≡ rank (k n) → number_of (k m) ≡ m → number_of (k n) ≡ n → IsBefore q (k n) → m < n
number_before k m n q e r f g (inl l) = let h = ap rank e in omega (arith, h, r, l)
number_before k m n q e r f g (inr l) = let h = ap number_of e in let i = l.1 in omega (arith, h, f, g, i)

pub first_watches : (N : ℕ → Type 0) (o : Option ℕ) → Lowest N o → First (Watches N) (option_map Watch o)
first_watches N None f = λ q h. f h.0 h.2
first_watches N (Some n) f = ((n, refl, f.0), λ q b h. f.1 h.0 (number_before Watch h.0 n q h.1 refl refl refl b) h.2)

pub first_breaks : (N : ℕ → Type 0) (o : Option ℕ) → Lowest N o → First (Breaks N) (option_map Break o)
first_breaks N None f = λ q h. f h.0 h.2
first_breaks N (Some n) f = ((n, refl, f.0), λ q b h. f.1 h.0 (number_before Break h.0 n q h.1 refl refl refl b) h.2)
