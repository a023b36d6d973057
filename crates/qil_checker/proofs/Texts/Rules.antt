-- What the tables say of the rules of one text.
use Rattle.std.proofs.Common.{◌≡◌, ◌≢◌, ◌∙◌, ◌↔◌, sym, ap, refl, subst, not, IsTrue, nat_eq, ℕ, ◌<◌, inl, inr, List, Option, Some, None, is_some, MatchOption, Bool, true, false, slice_get, arith}
use Rattle.std.proofs.lemmas.Bool.Decides.{nat_tests}
use Rattle.std.proofs.lemmas.Slice.Eq.{bytes_eq-Decides}
use Rattle.std.specs.Str.{bytes_eq}
use denote.Enum.Bare.{sameb}
use Rattle.qil_tree.specs.declared.ops.Class.{Class}
use Rattle.qil_tree.specs.declared.ops.Class.TheVariants as classes
use Rattle.qil_tree.specs.contracts.ops.Class.{the_type}
use Rattle.qil_tree.specs.declared.tree.PhiSource.{PhiSource}
use Rattle.qil_checker.specs.declared.lookup.TableKind.TheVariants.{Labels}
use Rattle.qil_rules.specs.declared.occurrence.OccurrenceKind.TheVariants.{Label, Edge, PhiLabel, PhiOf, Defines, Uses}
use Rattle.qil_rules.specs.declared.occurrence.Occurrence.{Occurrence}
use Rattle.qil_rules.specs.Text.{IsAt, FirstClass, IsUndefined, LacksLabel, IsFirstLabel, ArePredecessors, labels_of}
use Rattle.qil_rules.specs.Rules.{IsSecondLabel, IsLostLabel, IsJumpToFirst, IsOtherClass, IsUndefinedUse, IsNarrowUse, IsWrongPhi}
use Rattle.qil_checker.specs.Tables.{first, is_named}
use Rattle.qil_checker.proofs.Texts.Places.{occurrence_stands, one_what, label_found, label_absent, other_class, two_classes}

some_same : {A : Type 0} {a b : A} → Some a ≡ Some b → a ≡ b
some_same e = cc

same_label : (x y : List ℕ) → Label x ≡ Label y → x ≡ y
same_label x y e = cc

differ : (i k : ℕ) → IsTrue (not (nat_eq i k)) → i ≢ k
differ i k e = grind (arith, nat_tests)

differs : (i k : ℕ) → i ≢ k → IsTrue (not (nat_eq i k))
differs i k e = grind (arith, nat_tests)

-- ---- labels

pub second_label : (text : List Occurrence) (x : List ℕ) (k i : ℕ) (m : Occurrence) → slice_get text k ≡ Some m → m.what ≡ Label x
    → first (is_named Labels x) 0 text ≡ Some i → IsTrue (not (nat_eq i k)) ↔ IsSecondLabel text k
second_label text x k i m there is e =
    let f = label_found text x i e in
    let here : IsAt text k (Label x) = occurrence_stands text k m (Label x) there is in
    let reach : k < i → ⊥ = λ l. f.1 k l here in (
      λ t. let apart = differ i k t in let l : i < k = omega (arith, reach, apart) in (x, i, l, f.0, here),
      λ b. differs i k (λ same. let name : b.0 ≡ x = same_label b.0 x (some_same (sym b.4 ∙ here)) in
          f.1 b.1 (subst (λ y. b.1 < y) (sym same) b.2) (subst (λ y. IsAt text b.1 (Label y)) name b.3)),
    )

pub no_label : (text : List Occurrence) (x : List ℕ) (k : ℕ) (m : Occurrence) → slice_get text k ≡ Some m → m.what ≡ Label x
    → first (is_named Labels x) 0 text ≡ None → ⊥
no_label text x k m there is e = label_absent text x e k (occurrence_stands text k m (Label x) there is)

pub has_label : (text : List Occurrence) (x : List ℕ) (k : ℕ) → first (is_named Labels x) 0 text ≡ Some k → LacksLabel text x → ⊥
has_label text x k e lacks = lacks k (label_found text x k e).0

-- a phi's label is lost exactly if the text lacks it
pub lost_phi_label : (text : List Occurrence) (x : List ℕ) (k : ℕ) (m : Occurrence) (b : Bool) → slice_get text k ≡ Some m → m.what ≡ PhiLabel x
    → (IsTrue b ↔ LacksLabel text x) → IsTrue b ↔ IsLostLabel text k
lost_phi_label text x k m b there is lacks =
    let here : IsAt text k (PhiLabel x) = occurrence_stands text k m (PhiLabel x) there is in (
      λ t. (x, inr here, lacks.0 t),
      λ lost. lacks.1 (subst (LacksLabel text) (elim lost.1 [
        | inl edge ↦ (let other = some_same (sym edge.1 ∙ here) in absurd cc)
        | inr phi ↦ (let same = some_same (sym phi ∙ here) in cc)
      ]) lost.2),
    )

same_edge : (a b x y : List ℕ) → Edge a x ≡ Edge b y → x ≡ y
same_edge a b x y e = cc

-- a jump leads to the first block exactly if its label is that block's
pub jump_to_first : (text : List Occurrence) (from x : List ℕ) (k : ℕ) (m : Occurrence) (r : Bool) → slice_get text k ≡ Some m → m.what ≡ Edge from x
    → (IsTrue r ↔ IsFirstLabel text x) → IsTrue r ↔ IsJumpToFirst text k
jump_to_first text from x k m r there is first =
    let here : IsAt text k (Edge from x) = occurrence_stands text k m (Edge from x) there is in (
      λ t. (x, from, here, first.0 t),
      λ jump. first.1 (subst (IsFirstLabel text) (same_edge jump.1 from jump.0 x (some_same (sym jump.2 ∙ here))) jump.3),
    )

-- ---- classes

-- a definition has another class exactly if the first of its temporary has
pub class_differs : (text : List Occurrence) (x : List ℕ) (c d : Class) (k : ℕ) (m : Occurrence) (r : Bool) → slice_get text k ≡ Some m → m.what ≡ Defines x c
    → FirstClass text x d → r ≡ not (sameb the_type d c) → IsTrue r ↔ IsOtherClass text k
class_differs text x c d k m r there is first e =
    let here : IsAt text k (Defines x c) = occurrence_stands text k m (Defines x c) there is in
    let test = other_class d c r e in
    (λ t. (x, c, d, here, first, test.0 t), λ two. test.1 (two_classes text k x c d here first two))

pub narrow_use : (text : List Occurrence) (x : List ℕ) (k : ℕ) (m : Occurrence) → slice_get text k ≡ Some m → m.what ≡ Uses x classes.L
    → FirstClass text x classes.W → IsTrue true ↔ IsNarrowUse text k
narrow_use text x k m there is first = (λ t. (x, occurrence_stands text k m (Uses x classes.L) there is, first), λ narrow. refl)

-- ---- uses

-- the use of a temporary is undefined exactly if it has no class
pub undefined_use : (text : List Occurrence) (x : List ℕ) (c : Class) (k : ℕ) (m : Occurrence) (o : Option Class) (b : Bool) → slice_get text k ≡ Some m
    → m.what ≡ Uses x c → MatchOption o (IsUndefined text x) (FirstClass text x) → is_some o ≡ not b → IsTrue b ↔ IsUndefinedUse text k
undefined_use text x c k m None true there is undefined e = (λ t. (x, c, occurrence_stands text k m (Uses x c) there is, undefined), λ u. refl)
undefined_use text x c k m None false there is undefined e = absurd cc
undefined_use text x c k m (Some d) true there is first e = absurd cc
undefined_use text x c k m (Some d) false there is first e = (
  λ t. absurd cc,
  λ u.
      let here : IsAt text k (Uses x c) = occurrence_stands text k m (Uses x c) there is in
      let same : u.0 ≡ x = (let uses = some_same (sym u.2 ∙ here) in cc) in
      absurd (u.3 first.0 d (subst (λ y. IsAt text first.0 (Defines y d)) (sym same) first.1)),
)

-- the label at the first place that has one is the first label
pub first_label : (text : List Occurrence) (x y : List ℕ) (k : ℕ) (m : Occurrence) → slice_get text k ≡ Some m → m.what ≡ Label y
    → ((j : ℕ) (z : List ℕ) → j < k → IsAt text j (Label z) → ⊥) → IsTrue (bytes_eq y x) ↔ IsFirstLabel text x
first_label text x y k m there is none =
    let here : IsAt text k (Label y) = occurrence_stands text k m (Label y) there is in (
      λ t. let same : y ≡ x = (bytes_eq-Decides y x).0 t in (k, subst (λ n. IsAt text k (Label n)) same here, none),
      λ f.
          let below : f.0 < k → ⊥ = λ l. none f.0 x l f.1 in
          let above : k < f.0 → ⊥ = λ l. f.2 k y l here in
          let at : f.0 ≡ k = omega (arith, below, above) in
          let same : Label x ≡ Label y = some_same (sym (subst (λ i. IsAt text i (Label x)) at f.1) ∙ here) in
          (bytes_eq-Decides y x).1 (sym (same_label x y same)),
    )

pub first_label_test : (text : List Occurrence) (x y a b : List ℕ) (r : Bool) (k : ℕ) (m : Occurrence) → r ≡ bytes_eq a b → a ≡ y → b ≡ x → slice_get text k ≡ Some m → m.what ≡ Label y
    → ((j : ℕ) (z : List ℕ) → j < k → IsAt text j (Label z) → ⊥) → IsTrue r ↔ IsFirstLabel text x
first_label_test text x y a b r k m e left right there is none =
    let test : r ≡ bytes_eq y x = e ∙ ap (λ n. bytes_eq n b) left ∙ ap (bytes_eq y) right in
    subst (λ t. IsTrue t ↔ IsFirstLabel text x) (sym test) (first_label text x y k m there is none)

-- ---- phis

same_block : (b d : List ℕ) (s t : List PhiSource) → PhiOf b s ≡ PhiOf d t → b ≡ d
same_block b d s t e = cc

same_sources : (b d : List ℕ) (s t : List PhiSource) → PhiOf b s ≡ PhiOf d t → s ≡ t
same_sources b d s t e = cc

is_false : (r : Bool) → IsTrue (not r) → IsTrue r → ⊥
is_false true n t = absurd cc
is_false false n t = absurd cc

is_not : (r : Bool) → (IsTrue r → ⊥) → IsTrue (not r)
is_not true n = absurd (n refl)
is_not false n = refl

pub wrong_phi : (text : List Occurrence) (k : ℕ) (m : Occurrence) (b : List ℕ) (s : List PhiSource) (r : Bool) → slice_get text k ≡ Some m → m.what ≡ PhiOf b s
    → IsTrue r ↔ ArePredecessors text b (labels_of s) → IsTrue (not r) ↔ IsWrongPhi text k
wrong_phi text k m b s r there is right = (
  λ t. (b, s, occurrence_stands text k m (PhiOf b s) there is, λ all. is_false r t (right.1 all)),
  λ w. is_not r (λ t.
      let same : PhiOf b s ≡ PhiOf w.0 w.1 = sym is ∙ one_what text k m (PhiOf w.0 w.1) there w.2 in
      w.3 (subst (λ d. ArePredecessors text d (labels_of w.1)) (same_block b w.0 s w.1 same) (subst (λ u. ArePredecessors text b (labels_of u)) (same_sources b w.0 s w.1 same) (right.0 t)))),
)
