-- What the derived tests of statuses and of faults say: that two are one. By the cases of the enums, each of whose variants has a test of its parts.
use Rattle.std.proofs.Common.{◌≡◌, ◌↔◌, IsTrue, ℕ, Bool, true, false, List, [], ◌∷◌, Option, Some, None, inl, inr, refl, sym, ap, ◌∙◌, subst, nat_eq}
use Rattle.std.specs.Option.{option_eq}
use Rattle.std.proofs.lemmas.Bool.Decides.{Decides-eqb}
use denote.Struct.Field.{Field}
use denote.Struct.Values.{Values}
use denote.Enum.Bare.{same_true}
use denote.Enum.Compared.{Each, by}
use denote.Enum.Declared.{Record, Choice, values_one}
use Rattle.qil_ops.specs.contracts.division.DivFault as division
use Rattle.qil_code.specs.declared.numbered.Slot.{Slot}
use Rattle.qil_state.specs.declared.status.Fault.{Fault}
use Rattle.qil_state.specs.declared.status.Status.{Status}
use Rattle.qil_state.specs.contracts.status.Fault as fault
use Rattle.qil_state.specs.contracts.status.Status as status
use Rattle.qil_state.specs.contracts.status.FaultPartialEq.TheImpl as fault_test
use Rattle.qil_state.specs.contracts.status.StatusPartialEq.TheImpl as status_test
use Rattle.qil_state.specs.contracts.status.StatusEq.TheImpl.Laws.{laws-law}

-- ---- an enum

-- the test of each variant finds only equal parts equal
abbrev AreExact : (Fss : List (List Field)) → Each Bool Fss → Type 0
AreExact [] tests = Unit {0}
AreExact (Fs ∷ Fss) tests = ((x y : Values Fs) → tests.0 x y ≡ true → x ≡ y) × AreExact Fss tests.1

exact_choices : (Fss : List (List Field)) (tests : Each Bool Fss) → AreExact Fss tests → (c d : Choice Fss) → by false false Fss tests c d ≡ true → c ≡ d
exact_choices [] tests all c d e = absurd c
exact_choices (Fs ∷ Fss) tests all (inl x) (inl y) e = ap inl (all.0 x y e)
exact_choices (Fs ∷ Fss) tests all (inl x) (inr y) e = absurd cc
exact_choices (Fs ∷ Fss) tests all (inr x) (inl y) e = absurd cc
exact_choices (Fs ∷ Fss) tests all (inr x) (inr y) e = ap inr (exact_choices Fss tests.1 all.1 x y e)

exact_values : (N : Record) (tests : Each Bool N.parts) (x y : N.D) → by false false N.parts tests (N.as_values x) (N.as_values y) ≡ true → AreExact N.parts tests → x ≡ y
exact_values N tests x y e all = values_one N x y (exact_choices N.parts tests all (N.as_values x) (N.as_values y) e)

-- ---- one part

abbrev only : {X : Type 0} → X → X × Unit {0}
only x = (x, tt)

abbrev slot : ℕ → Slot
slot i = record { index = i }

same_number : (m n : ℕ) → nat_eq m n ≡ true → m ≡ n
same_number m n e = (Decides-eqb m n).0 e

same_option : (u v : Option ℕ) → option_eq nat_eq u v ≡ true → u ≡ v
same_option None None e = refl
same_option None (Some n) e = absurd cc
same_option (Some m) None e = absurd cc
same_option (Some m) (Some n) e = ap Some (same_number m n e)

-- ---- faults and statuses

same_fault : (f g : Fault) → (fault_test.ghosts).eq f g ≡ true → f ≡ g
same_fault f g e = exact_values fault.enum _ f g e (
  λ x y h. ap only (same_true division.the_type tt x.0 y.0 h),
  (
    λ x y h. ap only (same_number x.0 y.0 h),
    (
      λ x y h. ap (λ n. only (slot n)) (same_number x.0.index y.0.index h),
      (λ x y h. refl, (λ x y h. refl, (λ x y h. refl, (λ x y h. ap only (same_number x.0 y.0 h), (λ x y h. refl, (λ x y h. refl, (λ x y h. refl, tt))))))),
    ),
  ),
)

same_status : (a b : Status) → (status_test.ghosts).eq a b ≡ true → a ≡ b
same_status a b e = exact_values status.enum _ a b e (
  λ x y h. refl,
  (λ x y h. ap only (same_option x.0 y.0 h), (λ x y h. ap only (same_number x.0 y.0 h), (λ x y h. ap only (same_fault x.0 y.0 h), tt))),
)

-- the test of two statuses holds exactly where they are one
pub status_tested : (a b : Status) (r : Bool) → r ≡ (status_test.ghosts).eq a b → IsTrue r ↔ (a ≡ b)
status_tested a b r e = (
  λ t. same_status a b (sym e ∙ t),
  λ same. e ∙ subst (λ (x : Status). (status_test.ghosts).eq a x ≡ true) same (laws-law.refl a),
)
