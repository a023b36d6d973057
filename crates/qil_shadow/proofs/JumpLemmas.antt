-- What a jump does, by its form.
use Rattle.std.proofs.Common.{◌≡◌, ◌∙◌, sym, ap, subst, refl, ℕ, Bool, true, false, if◌then◌else◌, List, [], ◌∷◌, Option, Some, None, option_map, unwrap_or, arith}
use Rattle.std.specs.Prelude.{◌%◌, ◌==◌, slice_get}
use Rattle.std.specs.Option.{option_and_then}
use Rattle.std.specs.List.{AllByRecursion}
use Rattle.std.proofs.lemmas.Bool.Decides.{nat_tests}
use Rattle.qil_tree.specs.declared.ops.Class.TheVariants as classes
use Rattle.qil_tree.specs.declared.tree.Operand.{Operand}
use Rattle.qil_tree.specs.declared.tree.JumpKind.{JumpKind}
use Rattle.qil_tree.specs.declared.tree.JumpKind.TheVariants as jumps
use Rattle.qil_tree.specs.declared.tree.Block.{Block}
use Rattle.qil_tree.specs.declared.tree.Func.{Func}
use Rattle.qil_tree.specs.declared.tree.Inst.{Inst}
use Rattle.qil_tree.specs.declared.tree.Program.{Program}
use Rattle.qil_memory.specs.qil_rules.Text.{IsAmong}
use Rattle.qil_memory.specs.qil_rules.Occurrences.{returned_class}
use Rattle.qil_semantics.specs.State.{Name, Frame}
use Rattle.qil_semantics.specs.Values.{val}
use Rattle.qil_code.specs.declared.numbered.NumberedOperand.{NumberedOperand}
use Rattle.qil_code.specs.declared.numbered.Edge.{Edge}
use Rattle.qil_code.specs.declared.numbered.NumberedJump.{NumberedJump}
use Rattle.qil_code.specs.declared.numbered.NumberedJump.TheVariants as numbered
use Rattle.qil_code.specs.Facts.{jump_labels}
use Rattle.qil_code.specs.Numbered.{func_at, block_at, names_of, operand_of, edge_of, jump_of}
use Rattle.qil_code.specs.Reading.{returns_at}
use Rattle.qil_shadow.specs.declared.origin.Origin.{Origin}
use Rattle.qil_shadow.specs.declared.origin.Origin.TheVariants as origins
use Rattle.qil_shadow.specs.declared.constants.Reading.TheVariants as readings
use Rattle.qil_shadow.specs.declared.suspicion.Place.{Place}
use Rattle.qil_shadow.specs.declared.shadow.Shadow.{Shadow}
use Rattle.qil_shadow.specs.Shadow as by_names
use Rattle.qil_shadow.specs.Shadow.{Origins}
use Rattle.qil_shadow.specs.Shadowed.{operand_origin, goes, returns, chosen, leaves}
use Rattle.qil_shadow.specs.Stack.{CallShadow, callers_of}
use Rattle.qil_shadow.specs.Calls.{LiveCalls, with_return}
use Rattle.qil_shadow.specs.Numbered.{value_in, frames_by}
use Rattle.qil_shadow.specs.Reads.{returned_in, operand_by, operand_there, IsKnown, IsReturned, innermost}
use Rattle.qil_shadow.specs.Kept.{Keeps, KeepsAll}
use Rattle.qil_shadow.specs.Instructions.{named, AreCalls, IsAt}
use Rattle.qil_shadow.specs.Returns.{IsCalled}
use Rattle.qil_shadow.specs.Shapes.{shapes_of}
use Rattle.qil_shadow.specs.Phis.{IsEdge, AreAlike}
use Rattle.qil_shadow.specs.Jumps.{jump_operands, Leads, IsJump, GoesOn, left_running, behind_first, first_floor, LiesAfter}
use Rattle.qil_shadow.proofs.KeptLemmas.{same_value}
use Rattle.qil_shadow.proofs.PassLemmas.{at_kept}
use Rattle.qil_shadow.proofs.CallInstLemmas.{named_kept}
use Rattle.qil_shadow.proofs.ShapeLemmas.{shapes_taken}

-- ---- along an edge

-- by names, after a shadow
abbrev pub Goes : {A : Type 0} → Program A → ℕ → List ℕ → Frame → Func A → Shadow A → Shadow A → Name → Type 0
Goes p i fs f func was now l = named p (i ∷ fs) now ≡ goes p f (named p (i ∷ fs) was) (innermost p i was.calls.calls) (frames_by p fs (callers_of was.calls.calls)) func l

goes_kept : {A : Type 0} (p : Program A) (i : ℕ) (fs : List ℕ) (f : Frame) (func : Func A) (was mid now : Shadow A) (l : Name) → Keeps was mid → Goes p i fs f func mid now l → Goes p i fs f func was now l
goes_kept p i fs f func was mid now l k goes_on =
    goes_on ∙ (λ j. goes p f (named_kept p (i ∷ fs) was mid k j) (innermost p i (k.calls_are j).calls) (frames_by p fs (callers_of (k.calls_are j).calls)) func l)

zero_chosen : (v a : ℕ) (l m : Name) → a ≡ v → a % 4294967296 ≡ 0 → m ≡ (if v % 4294967296 == 0 then m else l)
zero_chosen v a l m same zero =
    let test : (v % 4294967296 == 0) ≡ true = subst (λ n. (n % 4294967296 == 0) ≡ true) same (grind (arith, nat_tests, zero)) in
    sym (ap (λ b. if b then m else l) test)

set_chosen : (v a : ℕ) (l m : Name) → a ≡ v → (a % 4294967296 ≡ 0 → ⊥) → l ≡ (if v % 4294967296 == 0 then m else l)
set_chosen v a l m same some =
    let test : (v % 4294967296 == 0) ≡ false = subst (λ n. (n % 4294967296 == 0) ≡ false) same (grind (arith, nat_tests, some)) in
    sym (ap (λ b. if b then m else l) test)

pub took_zero : {A : Type 0} (p : Program A) (i : ℕ) (fs : List ℕ) (f : Frame) (func : Func A) (was mid now : Shadow A) (o : Option ℕ) (a v : ℕ) (l m : Name) → Some a ≡ o → o ≡ Some v → a % 4294967296 ≡ 0 → Keeps was mid
    → Goes p i fs f func mid now m → Goes p i fs f func was now (if v % 4294967296 == 0 then m else l)
took_zero p i fs f func was mid now o a v l m held is zero k goes_on =
    subst (Goes p i fs f func was now) (zero_chosen v a l m (same_value o a v held is) zero) (goes_kept p i fs f func was mid now m k goes_on)

pub took_set : {A : Type 0} (p : Program A) (i : ℕ) (fs : List ℕ) (f : Frame) (func : Func A) (was mid now : Shadow A) (o : Option ℕ) (a v : ℕ) (l m : Name) → Some a ≡ o → o ≡ Some v → (a % 4294967296 ≡ 0 → ⊥) → Keeps was mid
    → Goes p i fs f func mid now l → Goes p i fs f func was now (if v % 4294967296 == 0 then m else l)
took_set p i fs f func was mid now o a v l m held is some k goes_on =
    subst (Goes p i fs f func was now) (set_chosen v a l m (same_value o a v held is) some) (goes_kept p i fs f func was mid now l k goes_on)

pub alike_kept : {A : Type 0} (was mid now : Shadow A) → Keeps was mid → AreAlike mid.calls now.calls → AreAlike was.calls now.calls
alike_kept was mid now k alike = subst (λ (c : LiveCalls). AreAlike c now.calls) k.calls_are alike

pub alike_same : (was : LiveCalls) → AreAlike was was
alike_same was = record { shapes_are = refl; objects_are = refl; top_is = refl }

-- ---- which jump it is

abbrev edge_in : {A : Type 0} → Edge A → NumberedJump A → Edge A
edge_in d (numbered.Jmp e) = e
edge_in d (numbered.Jnz a e g) = e
edge_in d j = d

abbrev other_edge_in : {A : Type 0} → Edge A → NumberedJump A → Edge A
other_edge_in d (numbered.Jnz a e g) = g
other_edge_in d j = d

abbrev test_in : {A : Type 0} → NumberedOperand → NumberedJump A → NumberedOperand
test_in d (numbered.Jnz a e g) = a
test_in d j = d

abbrev returned_of_jump : {A : Type 0} → NumberedJump A → Option NumberedOperand
returned_of_jump (numbered.Ret a) = a
returned_of_jump j = None

is_jmp : {A : Type 0} (p : Program A) (blocks : List (Block A)) (ns : List Name) (x : Name) (kind : JumpKind) (edge : Edge A) → numbered.Jmp edge ≡ jump_of p blocks ns x kind → (l : Name) × (kind ≡ jumps.Jmp l) × (edge ≡ edge_of p blocks ns x l)
is_jmp {A} p blocks ns x (jumps.Jmp l) edge e = (l, refl, ap (λ (j : NumberedJump A). edge_in edge j) e)
is_jmp p blocks ns x (jumps.Jnz a l m) edge e = absurd cc
is_jmp p blocks ns x (jumps.Ret a) edge e = absurd cc
is_jmp p blocks ns x jumps.Hlt edge e = absurd cc

record IsTest {A : Type 0} (p : Program A) (blocks : List (Block A)) (ns : List Name) (x : Name) (kind : JumpKind) (test : NumberedOperand) (set zero : Edge A) : Type 0 where
  tested : Operand
  one : Name
  other : Name
  same : kind ≡ jumps.Jnz tested one other
  test_is : test ≡ operand_of p ns tested
  set_is : set ≡ edge_of p blocks ns x one
  zero_is : zero ≡ edge_of p blocks ns x other

is_jnz : {A : Type 0} (p : Program A) (blocks : List (Block A)) (ns : List Name) (x : Name) (kind : JumpKind) (test : NumberedOperand) (set zero : Edge A) → numbered.Jnz test set zero ≡ jump_of p blocks ns x kind
    → IsTest p blocks ns x kind test set zero
is_jnz p blocks ns x (jumps.Jmp l) test set zero e = absurd cc
is_jnz {A} p blocks ns x (jumps.Jnz a l m) test set zero e = record {
  tested = a;
  one = l;
  other = m;
  same = refl;
  test_is = ap (λ (j : NumberedJump A). test_in test j) e;
  set_is = ap (λ (j : NumberedJump A). edge_in set j) e;
  zero_is = ap (λ (j : NumberedJump A). other_edge_in zero j) e;
}
is_jnz p blocks ns x (jumps.Ret a) test set zero e = absurd cc
is_jnz p blocks ns x jumps.Hlt test set zero e = absurd cc

is_ret : {A : Type 0} (p : Program A) (blocks : List (Block A)) (ns : List Name) (x : Name) (kind : JumpKind) (operand : Option NumberedOperand) → numbered.Ret operand ≡ jump_of p blocks ns x kind
    → (a : Option Operand) × (kind ≡ jumps.Ret a) × (operand ≡ option_map (operand_of p ns) a)
is_ret p blocks ns x (jumps.Jmp l) operand e = absurd cc
is_ret p blocks ns x (jumps.Jnz a l m) operand e = absurd cc
is_ret {A} p blocks ns x (jumps.Ret a) operand e = (a, refl, ap (λ (j : NumberedJump A). returned_of_jump j) e)
is_ret p blocks ns x jumps.Hlt operand e = absurd cc

is_hlt : {A : Type 0} (p : Program A) (blocks : List (Block A)) (ns : List Name) (x : Name) (kind : JumpKind) → numbered.Hlt ≡ jump_of p blocks ns x kind → kind ≡ jumps.Hlt
is_hlt p blocks ns x (jumps.Jmp l) e = absurd cc
is_hlt p blocks ns x (jumps.Jnz a l m) e = absurd cc
is_hlt p blocks ns x (jumps.Ret a) e = absurd cc
is_hlt p blocks ns x jumps.Hlt e = refl

-- ---- what it does

-- by names, of a jump of a kind
abbrev pub LeavesBy : {A : Type 0} → Program A → ℕ → List ℕ → Frame → Func A → Shadow A → Shadow A → JumpKind → Type 0
LeavesBy p i fs f func was now kind =
    named p (left_running i fs kind) now ≡ leaves p f (named p (i ∷ fs) was) (innermost p i was.calls.calls) (frames_by p fs (callers_of was.calls.calls)) func kind

lies_alike : (kind : JumpKind) (was now : LiveCalls) (l : Name) → kind ≡ jumps.Jmp l → AreAlike was now → LiesAfter kind was now
lies_alike kind was now l is alike =
    subst (λ k. LiesAfter k was now) (sym is) (record { shapes_are = alike.shapes_are; top_is = alike.top_is; starts_are = ap (λ t. t.starts) alike.objects_are })

-- ---- to a block

pub jmp_named : {A : Type 0} (p : Program A) (place : Place) (jump : NumberedJump A) (edge : Edge A) (func : Func A) (left : Block A) (f : Frame) (fs : List ℕ) (was now : Shadow A) → jump ≡ numbered.Jmp edge → IsJump p place jump func left
    → ((target : Block A) (l : Name) → IsEdge p place edge.to edge.moves func left target l → Goes p place.func.index fs f func was now l)
    → LeavesBy p place.func.index fs f func was now left.jump.kind
jmp_named {A} p place jump edge func left f fs was now form is goes_on =
    let ns = names_of p place.func.index in
    let k = is_jmp p func.blocks ns left.label left.jump.kind edge (sym form ∙ is.number) in
    let to = is.edges k.0 (subst (λ q. IsAmong k.0 (jump_labels q)) (sym k.1) (0, refl)) in
    subst (λ q. LeavesBy p place.func.index fs f func was now q) (sym k.1) (goes_on to.target k.0 (subst (λ (e : Edge A). IsEdge p place e.to e.moves func left to.target k.0) (sym k.2) to.edge))

pub jmp_lies : {A : Type 0} (p : Program A) (place : Place) (jump : NumberedJump A) (edge : Edge A) (func : Func A) (left : Block A) (was now : LiveCalls) → jump ≡ numbered.Jmp edge → IsJump p place jump func left → AreAlike was now
    → LiesAfter left.jump.kind was now
jmp_lies {A} p place jump edge func left was now form is alike =
    let k = is_jmp p func.blocks (names_of p place.func.index) left.label left.jump.kind edge (sym form ∙ is.number) in
    lies_alike left.jump.kind was now k.0 k.1 alike

-- ---- to one of two

pub jnz_named : {A : Type 0} (p : Program A) (place : Place) (slots : List (Option ℕ)) (jump : NumberedJump A) (test : NumberedOperand) (set zero : Edge A) (func : Func A) (left : Block A) (f : Frame) (fs : List ℕ) (was now : Shadow A)
    → jump ≡ numbered.Jnz test set zero → IsJump p place jump func left → GoesOn p place.func.index slots f fs was.calls.calls left.jump.kind
    → ((one other : Block A) (l m : Name) (v : ℕ) → value_in slots test ≡ Some v → IsEdge p place set.to set.moves func left one l → IsEdge p place zero.to zero.moves func left other m
    → Goes p place.func.index fs f func was now (if v % 4294967296 == 0 then m else l))
    → LeavesBy p place.func.index fs f func was now left.jump.kind
jnz_named {A} p place slots jump test set zero func left f fs was now form is goes_on_by takes =
    let i = place.func.index in
    let ns = names_of p i in
    let k = is_jnz p func.blocks ns left.label left.jump.kind test set zero (sym form ∙ is.number) in
    let by = subst (λ q. GoesOn p i slots f fs was.calls.calls q) k.same goes_on_by in
    let one = is.edges k.one (subst (λ q. IsAmong k.one (jump_labels q)) (sym k.same) (0, refl)) in
    let other = is.edges k.other (subst (λ q. IsAmong k.other (jump_labels q)) (sym k.same) (1, refl)) in
    let base = takes one.target other.target k.one k.other by.0 (ap (value_in slots) k.test_is ∙ by.1)
    (subst (λ (e : Edge A). IsEdge p place e.to e.moves func left one.target k.one) (sym k.set_is) one.edge) (subst (λ (e : Edge A). IsEdge p place e.to e.moves func left other.target k.other) (sym k.zero_is) other.edge) in
    subst (λ q. LeavesBy p i fs f func was now q) (sym k.same)
    (base ∙ ap (λ o. goes p f (named p (i ∷ fs) was) (innermost p i was.calls.calls) (frames_by p fs (callers_of was.calls.calls)) func (chosen k.one k.other o)) (sym by.2))

pub jnz_lies : {A : Type 0} (p : Program A) (place : Place) (jump : NumberedJump A) (test : NumberedOperand) (set zero : Edge A) (func : Func A) (left : Block A) (was now : LiveCalls) → jump ≡ numbered.Jnz test set zero → IsJump p place jump func left
    → AreAlike was now → LiesAfter left.jump.kind was now
jnz_lies {A} p place jump test set zero func left was now form is alike =
    let k = is_jnz p func.blocks (names_of p place.func.index) left.label left.jump.kind test set zero (sym form ∙ is.number) in
    subst (λ q. LiesAfter q was now) (sym k.same) (record { shapes_are = alike.shapes_are; top_is = alike.top_is; starts_are = ap (λ t. t.starts) alike.objects_are })

-- ---- back to the caller

-- what is returned is made of this
abbrev pub given_back : {A : Type 0} → Program A → Origins → Func A → Option Operand → Origin
given_back p t func None = origins.Number
given_back p t func (Some a) = operand_origin p t (returned_class func.returns) a

left_by : {A : Type 0} (p : Program A) (f : Frame) (sh : by_names.Shadow) (t : Origins) (ts : List Origins) (func : Func A) (a : Option Operand) → returns f sh t ts (given_back p t func a) ≡ leaves p f sh t ts func (jumps.Ret a)
left_by p f sh t ts func None = refl
left_by p f sh t ts func (Some a) = refl

is_returned : {A : Type 0} (p : Program A) (place : Place) (jump : NumberedJump A) (func : Func A) (left : Block A) (was : Shadow A) (a : Option Operand) → IsJump p place jump func left → IsAt p place was → left.jump.kind ≡ jumps.Ret a
    → IsReturned p was.names was.calls was.data_end place (option_map (operand_of p (names_of p place.func.index)) a) (given_back p (innermost p place.func.index was.calls.calls) func a)
is_returned p place jump func left was None is at kind = refl
is_returned {A} p place jump func left was (Some a) is at kind =
    let i = place.func.index in
    let none : operand_there (Some left) place.index readings.Returned ≡ returned_in left.jump.kind = ap (λ (o : Option (Inst A)). operand_by left o readings.Returned) is.end in
    let known : AllByRecursion (IsKnown p (names_of p i)) (jump_operands (jumps.Ret (Some a))) = subst (λ q. AllByRecursion (IsKnown p (names_of p i)) (jump_operands q)) kind is.known in (
      at.own,
      at.slots,
      (
        a,
        record {
          here = ap (λ (b : Option (Block A)). operand_there b place.index readings.Returned) is.left_is ∙ none ∙ ap returned_in kind;
          is_for = record { number = refl; known = known.0 };
        },
        ap (λ (o : Option (Func A)). operand_origin p (innermost p i was.calls.calls) (returned_class (option_and_then (λ q. q.returns) o)) a) (sym is.func_is),
      ),
    )

-- what `leave_function` says by names
abbrev pub ReturnsBy : {A : Type 0} → Program A → Place → Option NumberedOperand → Shadow A → Shadow A → Type 0
ReturnsBy p place operand was now = (f : Frame) (j : ℕ) (fs : List ℕ) (m : Origin) → IsReturned p was.names was.calls was.data_end place operand m
    → AreCalls p (place.func.index ∷ (j ∷ fs)) was.calls.calls → IsCalled p j f was.calls.calls
    → named p (j ∷ fs) now ≡ returns f (named p (place.func.index ∷ (j ∷ fs)) was) (innermost p place.func.index was.calls.calls) (frames_by p (j ∷ fs) (callers_of was.calls.calls)) m

pub ret_named : {A : Type 0} (p : Program A) (place : Place) (slots : List (Option ℕ)) (jump : NumberedJump A) (operand : Option NumberedOperand) (func : Func A) (left : Block A) (f : Frame) (fs : List ℕ) (was now : Shadow A)
    → jump ≡ numbered.Ret operand → IsJump p place jump func left → IsAt p place was → GoesOn p place.func.index slots f fs was.calls.calls left.jump.kind → ReturnsBy p place operand was now
    → LeavesBy p place.func.index fs f func was now left.jump.kind
ret_named {A} p place slots jump operand func left f fs was now form is at goes_on_by gives =
    let i = place.func.index in
    let t = innermost p i was.calls.calls in
    let k = is_ret p func.blocks (names_of p i) left.label left.jump.kind operand (sym form ∙ is.number) in
    let by = subst (λ q. GoesOn p i slots f fs was.calls.calls q) k.1 goes_on_by in
    let returned = subst (λ o. IsReturned p was.names was.calls was.data_end place o (given_back p t func k.0)) (sym k.2) (is_returned p place jump func left was k.0 is at k.1) in
    let base = gives f by.0 by.1 (given_back p t func k.0) returned by.3 by.4 in
    subst (λ q. LeavesBy p i fs f func was now q) (sym k.1)
    (subst (λ gs. named p gs now ≡ leaves p f (named p (i ∷ gs) was) t (frames_by p gs (callers_of was.calls.calls)) func (jumps.Ret k.0)) (sym by.2)
    (base ∙ left_by p f (named p (i ∷ (by.0 ∷ by.1)) was) t (frames_by p (by.0 ∷ by.1) (callers_of was.calls.calls)) func k.0))

behind : (cs : List CallShadow) → shapes_of (callers_of cs) ≡ behind_first (shapes_of cs)
behind [] = refl
behind (c ∷ cs) = refl

left_lie : {A : Type 0} (p : Program A) (i j : ℕ) (js : List ℕ) (a : Option Operand) (was now : LiveCalls) (position : ℕ) (m : Origin) (cs : List CallShadow) → was.calls ≡ cs → AreCalls p (i ∷ (j ∷ js)) cs → now ≡ with_return was position m
    → LiesAfter (jumps.Ret a) was now
left_lie p i j js a was now position m [] is are gives = absurd are
left_lie p i j js a was now position m (c ∷ []) is are gives = absurd are.1
left_lie p i j js a was now position m (c ∷ (d ∷ cs)) is are gives =
    let same : now ≡ with_return (record was { calls = c ∷ (d ∷ cs) }) position m = gives ∙ ap (λ xs. with_return (record was { calls = xs }) position m) is in
    record {
      shapes_are = (λ k. shapes_of (same k).calls) ∙ shapes_taken c.receiver m (d ∷ cs) ∙ ap (λ xs. shapes_of (callers_of xs)) (sym is) ∙ behind was.calls;
      top_is = (λ k. (same k).top) ∙ ap (λ xs. first_floor (shapes_of xs)) (sym is);
      starts_are = λ k. (same k).objects.starts;
    }

pub ret_lies : {A : Type 0} (p : Program A) (place : Place) (slots : List (Option ℕ)) (jump : NumberedJump A) (operand : Option NumberedOperand) (func : Func A) (left : Block A) (f : Frame) (fs : List ℕ) (was now : Shadow A)
    → jump ≡ numbered.Ret operand → IsJump p place jump func left → IsAt p place was → GoesOn p place.func.index slots f fs was.calls.calls left.jump.kind
    → ((m : Origin) → IsReturned p was.names was.calls was.data_end place operand m → now.calls ≡ with_return was.calls was.position m) → LiesAfter left.jump.kind was.calls now.calls
ret_lies {A} p place slots jump operand func left f fs was now form is at goes_on_by gives =
    let i = place.func.index in
    let t = innermost p i was.calls.calls in
    let k = is_ret p func.blocks (names_of p i) left.label left.jump.kind operand (sym form ∙ is.number) in
    let by = subst (λ q. GoesOn p i slots f fs was.calls.calls q) k.1 goes_on_by in
    let returned = subst (λ o. IsReturned p was.names was.calls was.data_end place o (given_back p t func k.0)) (sym k.2) (is_returned p place jump func left was k.0 is at k.1) in
    subst (λ q. LiesAfter q was.calls now.calls) (sym k.1) (left_lie p i by.0 by.1 k.0 was.calls now.calls was.position (given_back p t func k.0) was.calls.calls refl by.3 (gives (given_back p t func k.0) returned))

-- ---- nowhere

pub hlt_named : {A : Type 0} (p : Program A) (place : Place) (jump : NumberedJump A) (func : Func A) (left : Block A) (f : Frame) (fs : List ℕ) (was : Shadow A) → jump ≡ numbered.Hlt → IsJump p place jump func left
    → LeavesBy p place.func.index fs f func was was left.jump.kind
hlt_named p place jump func left f fs was form is =
    subst (λ q. LeavesBy p place.func.index fs f func was was q) (sym (is_hlt p func.blocks (names_of p place.func.index) left.label left.jump.kind (sym form ∙ is.number))) refl

pub hlt_lies : {A : Type 0} (p : Program A) (place : Place) (jump : NumberedJump A) (func : Func A) (left : Block A) (was : LiveCalls) → jump ≡ numbered.Hlt → IsJump p place jump func left → LiesAfter left.jump.kind was was
hlt_lies p place jump func left was form is =
    subst (λ q. LiesAfter q was was) (sym (is_hlt p func.blocks (names_of p place.func.index) left.label left.jump.kind (sym form ∙ is.number))) (record { shapes_are = refl; top_is = refl; starts_are = refl })
