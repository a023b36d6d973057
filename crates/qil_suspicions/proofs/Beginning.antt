-- At the start of a run the shadow stands beside its state.
use Rattle.std.proofs.Common.{◌≡◌, ◌∙◌, refl, sym, ap, subst, ℕ, zero, suc, Bool, true, false, if◌then◌else◌, List, [], ◌∷◌, length, map, Option, Some, None, option_map, unwrap_or, Ok, Err, arith}
use Rattle.std.specs.Prelude.{find, slice_get, ◌==◌}
use Rattle.std.specs.Str.{bytes_eq}
use Rattle.qil_tree.specs.declared.tree.Func.{Func}
use Rattle.qil_tree.specs.declared.tree.Program.{Program}
use Rattle.qil_memory.specs.qil_rules.Rules.{WellFormed}
use Rattle.qil_memory.specs.Buffers.{stack_base}
use Rattle.qil_layout.proofs.BytesLemmas.{few_bytes}
use Rattle.qil_symbols.specs.Numbers.{place_of}
use Rattle.qil_semantics.specs.State.{Name, Frame, State}
use Rattle.qil_semantics.specs.declared.start.StartFault.TheVariants.{ArgumentCount}
use Rattle.qil_semantics.specs.Start.{started, started_with, start_of}
use Rattle.qil_semantics.specs.Step.{func_named}
use Rattle.qil_code.specs.Facts as facts
use Rattle.qil_code.specs.Numbered.{func_at, names_of}
use Rattle.qil_code.specs.Reading.{func_names}
use Rattle.qil_state.specs.State.{state_of}
use Rattle.qil_shadow.specs.declared.shadow.Shadow.{Shadow}
use Rattle.qil_shadow.specs.Shadow as by_names
use Rattle.qil_shadow.specs.Shadow.{shadow_at_start}
use Rattle.qil_shadow.specs.Numbered.{shadow_by}
use Rattle.qil_shadow.specs.Starting.{IsOf}
use Rattle.qil_shadow.specs.Shapes.{CallShape, shapes_of, first_shape}
use Rattle.qil_shadow.specs.Steps.{number_of, numbers_of, IsBeside, AreBeside, StandsBeside, shadow_of, HasRoom}
use Rattle.qil_shadow.proofs.StepLemmas.{number_here}
use Rattle.qil_suspicions.specs.Run.{CheckedRun, IsAtStart}
use Rattle.qil_suspicions.proofs.Room.{room_first}
use Rattle.qil_suspicions.proofs.Ruled.{ruled}

-- what a shadow is at the start of the function of a number
pub record IsFirst {A : Type 0} (p : Program A) (i : ℕ) (sh : Shadow A) : Type 0 where
  pub finds : facts.Finds p
  pub own : IsOf p sh.names sh.calls.objects.starts sh.data_end
  pub lies : shapes_of sh.calls.calls ≡ first_shape p i ∷ []
  pub start : (f : Func A) → func_at p i ≡ Some f → shadow_by p (i ∷ []) sh.calls.calls sh.memory sh.calls.objects.objects sh.position ≡ shadow_at_start p f
  pub top : sh.calls.top ≡ stack_base
  pub found : sh.found.items ≡ []
  pub roles : sh.heap.roles.items ≡ []

numbers : {A : Type 0} (p : Program A) (i : ℕ) (f : Func A) (args : List ℕ) → facts.Finds p → func_at p i ≡ Some f → numbers_of p (started p f args).frames ≡ i ∷ []
numbers p i f args finds at = ap (λ n. n ∷ []) (number_here p i f finds at)

beside : {A : Type 0} (p : Program A) (i : ℕ) (f : Func A) (args : List ℕ) (sh : Shadow A) → func_at p i ≡ Some f → IsFirst p i sh → StandsBeside p (started p f args) sh
beside p i f args sh at first = record {
  own = first.own;
  calls = subst (AreBeside p (started p f args).frames) (sym first.lies) (record { slots = ap (λ n. length (names_of p n)) (number_here p i f first.finds at); floor = refl; receiver = tt }, tt);
  top = first.top;
  none = first.roles;
}

pub begins : {A : Type 0} (r : CheckedRun A) (q : Program A) (i : ℕ) (f : Func A) (args : List ℕ) → q ≡ r.whole.program → IsFirst q i r.shadow → r.notes ≡ [] → WellFormed r.whole.program → func_at r.whole.program i ≡ Some f
    → state_of r.whole ≡ started r.whole.program f args → IsAtStart r × (shadow_of r.whole.program (state_of r.whole) r.shadow ≡ shadow_at_start r.whole.program f)
begins {A} r q i f args program first none kept at state =
    let p = r.whole.program in
    let b : IsFirst p i r.shadow = subst (λ (z : Program A). IsFirst z i r.shadow) program first in
    let few = few_bytes p b.own.starts_are.no_fault in
    let shadow : shadow_of p (state_of r.whole) r.shadow ≡ shadow_at_start p f =
    (λ j. shadow_of p (state j) r.shadow)
    ∙ (λ j. shadow_by p (numbers p i f args b.finds at j) r.shadow.calls.calls r.shadow.memory r.shadow.calls.objects.objects r.shadow.position)
    ∙ b.start f at in (
      record {
        stands = record {
          beside = subst (λ s. StandsBeside p s r.shadow) (sym state) (beside p i f args r.shadow at b);
          room = subst (HasRoom p) (sym state) (room_first p f args few);
          ruled = ruled p kept;
        };
        fresh = b.found;
        first = ap (λ (s : by_names.Shadow). s.position) (b.start f at);
        none = none;
      },
      shadow,
    )

-- ---- the function that is named

find_at : {A : Type 0} (fs : List (Func A)) (x : Name) (i : ℕ) (f : Func A) → place_of (map (λ (g : Func A). g.name) fs) x ≡ Some i → find (λ g. bytes_eq g.name x) fs ≡ Some f → slice_get fs i ≡ Some f
unfolding place_of
find_at [] x i f place found = absurd cc
find_at {A} (g ∷ fs) x i f place found = by (bytes_eq g.name x) i place found (λ j later more. find_at fs x j f later more)
  where
    by : (b : Bool) (i : ℕ) → (if b then Some 0 else option_map (λ j. suc j) (place_of (map (λ (h : Func A). h.name) fs) x)) ≡ Some i → (if b then Some g else find (λ h. bytes_eq h.name x) fs) ≡ Some f
        → ((j : ℕ) → place_of (map (λ (h : Func A). h.name) fs) x ≡ Some j → find (λ h. bytes_eq h.name x) fs ≡ Some f → slice_get fs j ≡ Some f) → slice_get (g ∷ fs) i ≡ Some f
    by true zero place found deep = found
    by true (suc i) place found deep = absurd cc
    by false zero place found deep = none (place_of (map (λ (h : Func A). h.name) fs) x) place
      where
        none : (o : Option ℕ) → option_map (λ j. suc j) o ≡ Some 0 → slice_get (g ∷ fs) 0 ≡ Some f
        none None e = absurd cc
        none (Some j) e = absurd cc
    by false (suc i) place found deep = deep i (one (place_of (map (λ (h : Func A). h.name) fs) x) place) found
      where
        one : (o : Option ℕ) → option_map (λ j. suc j) o ≡ Some (suc i) → o ≡ Some i
        one None e = absurd cc
        one (Some j) e = let same : suc j ≡ suc i = ap (λ o. unwrap_or o (suc j)) e in let less : j ≡ i = omega (arith, same) in ap (λ n. Some n) less

started_by : {A : Type 0} (p : Program A) (o : Option (Func A)) (args : List ℕ) (s : State) → started_with p o args ≡ Ok s → (f : Func A) × (o ≡ Some f) × (s ≡ started p f args)
started_by p None args s e = absurd cc
started_by p (Some f) args s e = (f, refl, by (length args == length f.params) e)
  where
    by : (b : Bool) → (if b then Ok (started p f args) else Err ArgumentCount) ≡ Ok s → s ≡ started p f args
    by true e = let same : Ok (started p f args) ≡ Ok s = e in sym cc
    by false e = absurd cc

-- a run that starts at a name starts at the function of its number
pub entry_at : {A : Type 0} (p : Program A) (x : Name) (i : ℕ) (args : List ℕ) (s : State) → place_of (func_names p) x ≡ Some i → start_of p x args ≡ Ok s
    → (f : Func A) × (func_named p.funcs x ≡ Some f) × (func_at p i ≡ Some f) × (s ≡ started p f args)
entry_at p x i args s place start =
    let f = started_by p (func_named p.funcs x) args s start in
    (f.0, f.1, find_at p.funcs x i f.0 place f.1, f.2)
