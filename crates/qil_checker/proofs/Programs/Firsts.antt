-- The first place of a whole program, from those of its texts; the rules in their order.
use Rattle.std.proofs.Common.{◌≡◌, ◌∙◌, sym, refl, subst, ap, Bool, true, false, ℕ, zero, suc, ◌+◌, ◌<◌, ◌≤◌, ◌==◌, List, [], ◌∷◌, take, get_or, Some, slice_get, length, ⊎_elim, inl, inr, arith, below_more, if◌then◌else◌}
use Rattle.std.specs.Option.{option_map}
use Rattle.std.specs.List.{count_by}
use Rattle.std.proofs.lemmas.List.{length-take-le}
use Rattle.std.proofs.lemmas.List.Sums.{count_by-le-length, count_by_more_yes, count_by_more_no}
use Rattle.std.proofs.lemmas.Option.{slice_get_within, slice_get-map}
use Rattle.qil_rules.specs.declared.rule.Rule.{Rule}
use Rattle.qil_rules.specs.declared.rule.Rule.TheVariants.{C1, C2, C3, C4, C5, C6, C7, C8, C9, C10, C11, C12}
use Rattle.qil_checker.specs.declared.definition.IndexedDefinition.{IndexedDefinition}
use Rattle.qil_checker.specs.declared.checker.CheckError.{CheckError}
use Rattle.qil_checker.specs.declared.checker.CheckError.TheVariants.{Refused, OutOfMemory}
use Rattle.qil_rules.specs.declared.occurrence.Occurrence.{Occurrence}
use Rattle.qil_rules.specs.Text.{IsAgain}
use Rattle.qil_rules.specs.Rules.{Place, IsEarlier, HasName, Breaks, BreaksAt, IsKept, IsBrokenFirst, AreWellFormed, AreBroken, order, line_at, is_function}
use Rattle.qil_checker.specs.Scan.{Keeps, Breach, IsSingle, IsAgainFirst}
use Rattle.qil_rules.specs.Forms.{IsAgainAt, IsFirstAgain}
use Rattle.qil_checker.specs.Check.{IsReported, TellsRule}
use Rattle.qil_checker.specs.Whole.{occurrences_of}
use Rattle.qil_checker.proofs.Programs.Names.{head_names}

-- the occurrences of a text of the program
pub text_there : {A : Type 0} (texts : List (IndexedDefinition A)) (i : ℕ) (t : IndexedDefinition A) → slice_get texts i ≡ Some t → slice_get (occurrences_of texts) i ≡ Some t.occurrences.items
text_there texts i t there = slice_get-map (λ t. t.occurrences.items) texts i ∙ ap (option_map (λ t. t.occurrences.items)) there

pub length_texts : {A : Type 0} (texts : List (IndexedDefinition A)) → length (occurrences_of texts) ≡ length texts
length_texts [] = refl
length_texts (t ∷ texts) = let more = length_texts texts in omega (arith, more)

pub name_there : {A : Type 0} (texts : List (IndexedDefinition A)) (i : ℕ) (t : IndexedDefinition A) → slice_get texts i ≡ Some t → HasName (occurrences_of texts) i t.name
name_there texts i t there = (t.occurrences.items, text_there texts i t there, head_names t.occurrences.items t.name t.name_is)

got : (all : List (List Occurrence)) (i : ℕ) (t : List Occurrence) → slice_get all i ≡ Some t → get_or all i t ≡ t
got [] i t e = absurd cc
got (a ∷ all) zero t e = cc
got (a ∷ all) (suc i) t e = got all i t e

counted_by : (all : List (List Occurrence)) (i n m : ℕ) (t : List Occurrence) (b : Bool) → i < length all → get_or all i t ≡ t → is_function t ≡ b → n ≡ count_by is_function (take i all)
    → m ≡ (if b then 1 else 0) → n + m ≡ count_by is_function (take (i + 1) all)
counted_by all i n m t true l there is so_far one =
    let more = count_by_more_yes is_function all i t l (ap is_function there ∙ is) in
    omega (arith, so_far, one, more)
counted_by all i n m t false l there is so_far one =
    let more = count_by_more_no is_function all i t l (ap is_function there ∙ is) in
    omega (arith, so_far, one, more)

-- one function more, or none
pub counted : (all : List (List Occurrence)) (i n m : ℕ) (t : List Occurrence) → slice_get all i ≡ Some t → n ≡ count_by is_function (take i all)
    → m ≡ (if is_function t then 1 else 0) → n + m ≡ count_by is_function (take (i + 1) all)
counted all i n m t there so_far one = counted_by all i n m t (is_function t) (slice_get_within all i t there) (got all i t there) refl so_far one

pub at_most_one : (b : Bool) (m : ℕ) → m ≡ (if b then 1 else 0) → m ≤ 1
at_most_one true m e = omega (arith, e)
at_most_one false m e = omega (arith, e)

pub few_functions : (all : List (List Occurrence)) (i n : ℕ) → i ≤ length all → n ≡ count_by is_function (take i all) → n ≤ i
few_functions all i n l e = let few = count_by-le-length is_function (take i all) in let t = length-take-le i all l in omega (arith, e, few, t)

module _ (all : List (List Occurrence)) where
  same_text : (i j : ℕ) (t u : List Occurrence) → slice_get all i ≡ Some t → j ≡ i → slice_get all j ≡ Some u → u ≡ t
  same_text i j t u a e b = cc

  -- what breaks a rule at a place of the i-th text
  breaks_in : (r : Rule) (i : ℕ) (t : List Occurrence) → slice_get all i ≡ Some t → (q : Place) → q.text ≡ i → BreaksAt r all q → Breaks r all t i q.occurrence
  breaks_in r i t there q e h =
      subst (λ n. Breaks r all t n q.occurrence) e (subst (λ u. Breaks r all u q.text q.occurrence) (same_text i q.text t h.0 there e h.1) h.2)

  pub breach_here : (r : Rule) (i : ℕ) (t : List Occurrence) (line : ℕ) → slice_get all i ≡ Some t
      → ((q : Place) → q.text < i → BreaksAt r all q → ⊥) → Breach r all t i line → IsBrokenFirst r all line
  breach_here r i t line there before b = record {
    at = record { text = i; occurrence = b.occurrence };
    text = t;
    is_text = there;
    breaks = b.breaks;
    first = λ q e h. ⊎_elim (λ l. before q l h) (λ s. b.first q.occurrence s.1 (breaks_in r i t there q s.0 h)) e;
    line_is = b.line_is;
  }

  pub kept_more : (r : Rule) (i : ℕ) (t : List Occurrence) → slice_get all i ≡ Some t
      → ((q : Place) → q.text < i → BreaksAt r all q → ⊥) → Keeps r all t i → (q : Place) → q.text < i + 1 → BreaksAt r all q → ⊥
  kept_more r i t there before keeps = λ q l.
      below_more (λ k. (o : Place) → o.text ≡ k → BreaksAt r all o → ⊥) i (λ k l o e. before o (omega arith))
      (λ o e h. keeps o.occurrence (breaks_in r i t there o e h)) q.text l q refl

  pub at_text : (r : Rule) (q : Place) → BreaksAt r all q → q.text < length all
  at_text r q h = slice_get_within all q.text h.0 h.1

  -- ---- what is defined again

  again_in : (i : ℕ) (t : List Occurrence) → slice_get all i ≡ Some t → (q : Place) (x : List ℕ) → q.text ≡ i → IsAgainAt all q x → IsAgain t q.occurrence x
  again_in i t there q x e h = subst (λ u. IsAgain u q.occurrence x) (same_text i q.text t h.0 there e h.1) h.2

  pub again_here : (i : ℕ) (t : List Occurrence) (func temp : List ℕ) → slice_get all i ≡ Some t
      → ((q : Place) (x : List ℕ) → q.text < i → IsAgainAt all q x → ⊥) → IsAgainFirst t temp → HasName all i func → IsFirstAgain all func temp
  again_here i t func temp there before b name = record {
    at = record { text = i; occurrence = b.occurrence };
    again = (t, there, b.again);
    first = λ q x e h. ⊎_elim (λ l. before q x l h) (λ s. b.first q.occurrence x s.1 (again_in i t there q x s.0 h)) e;
    name = name;
  }

  pub single_more : (i : ℕ) (t : List Occurrence) → slice_get all i ≡ Some t
      → ((q : Place) (x : List ℕ) → q.text < i → IsAgainAt all q x → ⊥) → IsSingle t → (q : Place) (x : List ℕ) → q.text < i + 1 → IsAgainAt all q x → ⊥
  single_more i t there before single = λ q x l.
      below_more (λ k. (o : Place) → o.text ≡ k → IsAgainAt all o x → ⊥) i (λ k l o e. before o x (omega arith))
      (λ o e h. single o.occurrence x (again_in i t there o x e h)) q.text l q refl

  pub again_text : (q : Place) (x : List ℕ) → IsAgainAt all q x → q.text < length all
  again_text q x h = slice_get_within all q.text h.0 h.1

  -- ---- the rules in their order

  abbrev rule_at : ℕ → Rule
  rule_at n =
      if n == 1 then C1 else (if n == 2 then C2 else (if n == 3 then C3 else (if n == 4 then C4 else (if n == 5 then C5 else (if n == 6 then C6 else
      (if n == 7 then C7 else (if n == 8 then C8 else (if n == 9 then C9 else (if n == 10 then C10 else (if n == 11 then C11 else C12))))))))))

  rule_of_order : (r : Rule) → rule_at (order r) ≡ r
  rule_of_order C1 = refl
  rule_of_order C2 = refl
  rule_of_order C3 = refl
  rule_of_order C4 = refl
  rule_of_order C5 = refl
  rule_of_order C6 = refl
  rule_of_order C7 = refl
  rule_of_order C8 = refl
  rule_of_order C9 = refl
  rule_of_order C10 = refl
  rule_of_order C11 = refl
  rule_of_order C12 = refl

  order_positive : (r : Rule) → 0 < order r
  order_positive C1 = omega arith
  order_positive C2 = omega arith
  order_positive C3 = omega arith
  order_positive C4 = omega arith
  order_positive C5 = omega arith
  order_positive C6 = omega arith
  order_positive C7 = omega arith
  order_positive C8 = omega arith
  order_positive C9 = omega arith
  order_positive C10 = omega arith
  order_positive C11 = omega arith
  order_positive C12 = omega arith

  order_within : (r : Rule) → order r ≤ 12
  order_within C1 = omega arith
  order_within C2 = omega arith
  order_within C3 = omega arith
  order_within C4 = omega arith
  order_within C5 = omega arith
  order_within C6 = omega arith
  order_within C7 = omega arith
  order_within C8 = omega arith
  order_within C9 = omega arith
  order_within C10 = omega arith
  order_within C11 = omega arith
  order_within C12 = omega arith

  one_order : (r s : Rule) → order r ≡ order s → r ≡ s
  one_order r s e = sym (rule_of_order r) ∙ ap rule_at e ∙ rule_of_order s

  -- nothing is lower than the first rule
  pub none_lower : (lower : Rule) → order lower < order C1 → IsKept lower all
  none_lower lower l = let p = order_positive lower in absurd (omega (arith, p, l))

  -- one rule more is kept
  pub one_more_rule : (r next : Rule) → ((lower : Rule) → order lower < order r → IsKept lower all) → IsKept r all → order next ≡ order r + 1
      → (lower : Rule) → order lower < order next → IsKept lower all
  one_more_rule r next below kept e lower l =
      below_more (λ k. (s : Rule) → order s ≡ k → IsKept s all) (order r) (λ k h s at. below s (omega (arith, at, h)))
      (λ s at. subst (λ q. IsKept q all) (one_order r s (sym at)) kept) (order lower) (omega (arith, l, e)) lower refl

  pub all_rules : (r : Rule) → ((lower : Rule) → order lower < order r → IsKept lower all) → IsKept r all → order r ≡ 12 → AreWellFormed all
  all_rules r below kept e rule =
      let within = order_within rule in
      below_more (λ k. (s : Rule) → order s ≡ k → IsKept s all) (order r) (λ k h s at. below s (omega (arith, at, h)))
      (λ s at. subst (λ q. IsKept q all) (one_order r s (sym at)) kept) (order rule) (omega (arith, within, e)) rule refl

  -- ---- one rule and one line

  -- a program that breaks a rule is not well-formed
  pub not_both : (rule : Rule) (line : ℕ) → AreWellFormed all → AreBroken all rule line → ⊥
  not_both rule line kept b = kept rule b.0.at (b.0.text, b.0.is_text, b.0.breaks)

  not_lower : (r s : Rule) (k l : ℕ) → AreBroken all r k → AreBroken all s l → order r < order s → ⊥
  not_lower r s k l a b less = b.1 r less a.0.at (a.0.text, a.0.is_text, a.0.breaks)

  one_rule : (r s : Rule) (k l : ℕ) → AreBroken all r k → AreBroken all s l → r ≡ s
  one_rule r s k l a b =
      let below : order r < order s → ⊥ = not_lower r s k l a b in
      let above : order s < order r → ⊥ = not_lower s r l k b a in
      one_order r s (omega (arith, below, above))

  not_earlier : (r : Rule) (k l : ℕ) (a : IsBrokenFirst r all k) (b : IsBrokenFirst r all l) → IsEarlier a.at b.at → ⊥
  not_earlier r k l a b e = b.first a.at e (a.text, a.is_text, a.breaks)

  one_occurrence : (k l : ℕ) (t u : List Occurrence) (i j : ℕ) → t ≡ u → i ≡ j → line_at t i ≡ Some k → line_at u j ≡ Some l → k ≡ l
  one_occurrence k l t u i j same e a b = cc

  one_line : (r : Rule) (k l : ℕ) → IsBrokenFirst r all k → IsBrokenFirst r all l → k ≡ l
  one_line r k l a b =
      let below : a.at.text < b.at.text → ⊥ = λ e. not_earlier r k l a b (inl e) in
      let above : b.at.text < a.at.text → ⊥ = λ e. not_earlier r l k b a (inl e) in
      let text : a.at.text ≡ b.at.text = omega (arith, below, above) in
      let left : a.at.occurrence < b.at.occurrence → ⊥ = λ e. not_earlier r k l a b (inr (text, e)) in
      let right : b.at.occurrence < a.at.occurrence → ⊥ = λ e. not_earlier r l k b a (inr (sym text, e)) in
      let occurrence : a.at.occurrence ≡ b.at.occurrence = omega (arith, left, right) in
      one_occurrence k l a.text b.text a.at.occurrence b.at.occurrence (same_text b.at.text a.at.text b.text a.text b.is_text text a.is_text) occurrence a.line_is b.line_is

  pub only_memory : (e : CheckError) → IsReported all e → AreWellFormed all → e ≡ OutOfMemory
  only_memory (Refused r l) reported kept = absurd (not_both r l kept reported)
  only_memory OutOfMemory reported kept = refl

  pub only_reported : (e : CheckError) → IsReported all e → (rule : Rule) (line : ℕ) → AreBroken all rule line → TellsRule rule line e
  only_reported (Refused r l) reported rule line b =
      let same : r ≡ rule = one_rule r rule l line reported b in
      (same, one_line rule l line (subst (λ s. IsBrokenFirst s all l) same reported.0) b.0)
  only_reported OutOfMemory reported rule line b = tt
