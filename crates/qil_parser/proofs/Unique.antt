-- Tokens have one fault at most.
use Rattle.std.proofs.Common.{◌≡◌, ℕ, Bool, true, false, List, [], ◌∷◌, ◌++◌, refl, sym, ap, subst, ◌∙◌, inl, inr, ◌⊎◌, append_assoc}
use Rattle.qil_parser.specs.declared.error.ParseCode.{ParseCode}
use Rattle.qil_parser.specs.declared.error.ParseCode.TheVariants as codes
use Rattle.qil_parser.specs.Words.{left_out}
use Rattle.qil_parser.specs.Token.{Tok}
use Rattle.qil_parser.specs.Programs.{Spells}
use Rattle.qil_parser.specs.Fault.{StopsAt, Names, Named, TokenFault}

-- one prefix goes on where the other ends
abbrev Longer : List Tok → List Tok → List Tok → List Tok → Type 0
Longer f r g s = (t : Tok) × (more : List Tok) × (g ≡ f ++ t ∷ more) × (r ≡ t ∷ (more ++ s))

abbrev Compared : List Tok → List Tok → List Tok → List Tok → Type 0
Compared f r g s = ((f ≡ g) × (r ≡ s)) ⊎ (Longer f r g s ⊎ Longer g s f r)

head_is : (t u : Tok) (w z : List Tok) → t ∷ w ≡ u ∷ z → t ≡ u
head_is t u w z e = cc

tail_is : (t u : Tok) (w z : List Tok) → t ∷ w ≡ u ∷ z → w ≡ z
tail_is t u w z e = cc

behind : (t u : Tok) (f r g s : List Tok) → t ≡ u → Compared f r g s → Compared (t ∷ f) r (u ∷ g) s
behind t u f r g s e (inl k) = inl (ap (λ (l : List Tok). t ∷ l) k.0 ∙ ap (λ (x : Tok). x ∷ g) e, k.1)
behind t u f r g s e (inr (inl k)) = inr (inl (k.0, k.1, ap (λ (l : List Tok). u ∷ l) k.2 ∙ ap (λ (x : Tok). x ∷ (f ++ k.0 ∷ k.1)) (sym e), k.3))
behind t u f r g s e (inr (inr k)) = inr (inr (k.0, k.1, ap (λ (l : List Tok). t ∷ l) k.2 ∙ ap (λ (x : Tok). x ∷ (g ++ k.0 ∷ k.1)) e, k.3))

compare : (f r g s : List Tok) → f ++ r ≡ g ++ s → Compared f r g s
compare [] r [] s e = inl (refl, e)
compare [] r (u ∷ g) s e = inr (inl (u, g, refl, e))
compare (t ∷ f) r [] s e = inr (inr (t, f, refl, sym e))
compare (t ∷ f) r (u ∷ g) s e = behind t u f r g s (head_is t u (f ++ r) (g ++ s) e) (compare f r g s (tail_is t u (f ++ r) (g ++ s) e))

not_longer : {A : Type 0} (ts f r g s : List Tok) → StopsAt A ts f r → StopsAt A ts g s → Longer f r g s → ⊥
not_longer ts f r g s x y k = x.longest k.0 (k.1 ++ s) k.3 (k.1 ++ y.ending) y.program (subst (λ (l : List Tok). Spells l y.program) (ap (λ (l : List Tok). l ++ y.ending) k.2 ∙ append_assoc f (k.0 ∷ k.1) y.ending) y.begun)

same_place : {A : Type 0} (ts f r g s : List Tok) → StopsAt A ts f r → StopsAt A ts g s → (f ≡ g) × (r ≡ s)
same_place ts f r g s x y = elim (compare f r g s (sym x.parts ∙ y.parts)) [
  | inl k ↦ k
  | inr k ↦ elim k [
    | inl l ↦ absurd (not_longer ts f r g s x y l)
    | inr l ↦ absurd (not_longer ts g s f r y x l)
  ]
]

not_both : (b : Bool) → b ≡ true → b ≡ false → ⊥
not_both true h k = absurd cc
not_both false h k = absurd cc

same_name : (A : Type 0) (prefix : List Tok) (t : Tok) (c d : ParseCode) → Names A prefix t c → Names A prefix t d → c ≡ d
same_name A prefix t codes.P1 codes.P1 h k = refl
same_name A prefix t codes.P1 codes.P2 h k = absurd (not_both (left_out t.kind t.text) k.1 h.1)
same_name A prefix t codes.P1 codes.P3 h k = absurd k
same_name A prefix t codes.P1 codes.P4 h k = absurd (h.0 k)
same_name A prefix t codes.P2 codes.P1 h k = absurd (not_both (left_out t.kind t.text) h.1 k.1)
same_name A prefix t codes.P2 codes.P2 h k = refl
same_name A prefix t codes.P2 codes.P3 h k = absurd k
same_name A prefix t codes.P2 codes.P4 h k = absurd (h.0 k)
same_name A prefix t codes.P3 d h k = absurd h
same_name A prefix t codes.P4 codes.P1 h k = absurd (k.0 h)
same_name A prefix t codes.P4 codes.P2 h k = absurd (k.0 h)
same_name A prefix t codes.P4 codes.P3 h k = absurd k
same_name A prefix t codes.P4 codes.P4 h k = refl

same_named : (A : Type 0) (ts prefix rest : List Tok) (c d : ParseCode) (k l : ℕ) → Named A ts prefix rest c k → Named A ts prefix rest d l → (c ≡ d) × (k ≡ l)
same_named A ts prefix [] c d k l x y = (x.0 ∙ sym y.0, x.1 ∙ sym y.1)
same_named A ts prefix (t ∷ after) c d k l x y = (same_name A prefix t c d x.0 y.0, x.1 ∙ sym y.1)

pub one_fault : {A : Type 0} (ts : List Tok) (c d : ParseCode) (k l : ℕ) → TokenFault A ts c k → TokenFault A ts d l → (c ≡ d) × (k ≡ l)
one_fault {A} ts c d k l x y =
    let e = same_place ts x.prefix x.rest y.prefix y.rest x.stops y.stops in
    same_named A ts x.prefix x.rest c d k l x.named (subst (λ (f : List Tok). Named A ts f x.rest d l) (sym e.0) (subst (λ (r : List Tok). Named A ts y.prefix r d l) (sym e.1) y.named))
