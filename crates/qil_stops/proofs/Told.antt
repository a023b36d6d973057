-- What was read before is what is read now, where no reading differs; and whether the run is over.
use Rattle.std.proofs.Common.{◌≡◌, refl, sym, ap, ◌∙◌, subst, ℕ, ◌+◌, ◌<◌, Bool, true, false, List, length, get_or, Option, Some, None, inl, inr, arith}
use Rattle.std.specs.Prelude.{◌≢◌, ◌↔◌, IsTrue, not, nat_eq, ◌==◌, slice_get}
use Rattle.std.specs.Option.{option_eq}
use Rattle.std.proofs.lemmas.Bool.{cases_lt}
use Rattle.std.proofs.lemmas.Bool.Decides.{Decides-eqb}
use Rattle.std.proofs.lemmas.List.{get_or_default}
use Rattle.qil_tree.specs.declared.tree.Func.{Func}
use Rattle.qil_tree.specs.declared.tree.Program.{Program}
use Rattle.qil_semantics.specs.State.{Name, State, is_final}
use Rattle.qil_semantics.specs.Stops.{is_held}
use Rattle.qil_code.specs.Numbered.{func_at, names_of}
use Rattle.qil_state.specs.declared.status.Status.TheVariants.{Running}
use Rattle.qil_state.specs.State.{Whole, state_of, head_names}
use Rattle.qil_stops.specs.declared.stop.NumberedStop.{NumberedStop}
use Rattle.qil_stops.specs.declared.stop.StopKind.{StopKind}
use Rattle.qil_stops.specs.declared.stop.StopKind.TheVariants.{Watch}
use Rattle.qil_stops.specs.declared.stop.Watched.{Watched}
use Rattle.qil_stops.specs.declared.stop.Watched.TheVariants.{Bytes, Temp}
use Rattle.qil_stops.specs.Named.{named_watch, watch_in, passes}
use Rattle.qil_stops.specs.Readings.{Tells, TellsWatched, AllTell}
use Rattle.qil_stops.proofs.Telling.{over-by}

pub same_value : (v u : Option ℕ) → not (option_eq nat_eq v u) ≡ false → v ≡ u
same_value None None e = refl
same_value None (Some w) e = absurd cc
same_value (Some v) None e = absurd cc
same_value (Some v) (Some w) e = ap Some ((Decides-eqb v w).0 (not_false (v == w) e))
  where
    not_false : (b : Bool) → not b ≡ false → b ≡ true
    not_false true e = refl
    not_false false e = absurd cc

-- one value more of those that are read as before
pub kept-more : {A : Type 0} (p : Program A) (s : State) (stops : List NumberedStop) (before : List (Option ℕ)) (i : ℕ) (d : NumberedStop) (e : Option ℕ) → i < length stops → length before ≡ length stops
    → Tells p s (get_or stops i d).kind (get_or before i e)
    → ((j : ℕ) (x : NumberedStop) → j < i → Tells p s (get_or stops j x).kind (get_or before j None))
    → (j : ℕ) (x : NumberedStop) → j < i + 1 → Tells p s (get_or stops j x).kind (get_or before j None)
kept-more {A} p s stops before i d e inside count here same j x lt = elim (cases_lt j i) [
  | inl l ↦ same j x l
  | inr g ↦ (let at : i ≡ j = omega (arith, g, lt) in
      let value : get_or before i e ≡ get_or before i None = get_or_default before i e None (omega (arith, inside, count)) in
      let there : Tells p s (get_or stops i x).kind (get_or before i None) =
      subst (λ (stop : NumberedStop). Tells p s stop.kind (get_or before i None)) (get_or_default stops i d x inside) (subst (λ (o : Option ℕ). Tells p s (get_or stops i d).kind o) value here) in
      subst (λ n. Tells p s (get_or stops n x).kind (get_or before n None)) at there)
]

-- one reading more
pub tells-more : {A : Type 0} (p : Program A) (s : State) (stops : List NumberedStop) (before : List (Option ℕ)) (i : ℕ) (d : NumberedStop) (e : Option ℕ) (test : Bool) (v : Option ℕ) → i < length stops → length before ≡ length stops
    → Tells p s (get_or stops i d).kind v → test ≡ not (option_eq nat_eq v (get_or before i e)) → test ≡ false
    → ((j : ℕ) (x : NumberedStop) → j < i → Tells p s (get_or stops j x).kind (get_or before j None))
    → (j : ℕ) (x : NumberedStop) → j < i + 1 → Tells p s (get_or stops j x).kind (get_or before j None)
tells-more p s stops before i d e test v inside count here is miss same =
    kept-more p s stops before i d e inside count (subst (λ (o : Option ℕ). Tells p s (get_or stops i d).kind o) (same_value v (get_or before i e) (sym is ∙ miss)) here) same

-- a watch is never held, whatever it watches
no_temp : {A : Type 0} (s : State) (f : Option (Func A)) (x : Option Name) → false ≡ passes (is_held s) (watch_in f x)
no_temp s None x = refl
no_temp s (Some f) None = refl
no_temp s (Some f) (Some x) = refl

pub no_watch : {A : Type 0} (s : State) (p : Program A) (w : Watched) → false ≡ passes (is_held s) (named_watch p w)
no_watch s p (Bytes a n) = refl
no_watch s p (Temp func slot) = no_temp s (func_at p func.index) (slice_get (names_of p func.index) slot.index)

-- a watch that reads as before
pub watch_kept : {A : Type 0} (p : Program A) (s : State) (k : StopKind) (w : Watched) (v u : Option ℕ) (test : Bool) → k ≡ Watch w → TellsWatched p s w v → test ≡ not (option_eq nat_eq v u) → test ≡ false → Tells p s k u
watch_kept p s k w v u test is here compared same =
    subst (λ (x : StopKind). Tells p s x u) (sym is) (subst (λ (o : Option ℕ). TellsWatched p s w o) (same_value v u (sym compared ∙ same)) here)

-- a machine's own answer, of what it is read as
pub over-as : {A : Type 0} (m w : Whole A) (b : Bool) → m ≡ w → IsTrue b ↔ (m.status ≢ Running) → b ≡ is_final (state_of w).status
over-as {A} m w b e h = over-by (head_names m.program m.frames) m.status b h ∙ ap (λ (x : Whole A). is_final (state_of x).status) e

-- the same readings by another name
pub told-as : {A : Type 0} (p : Program A) (s : State) (stops : List NumberedStop) (values other : List (Option ℕ)) → other ≡ values → AllTell p s stops values → AllTell p s stops other
told-as {A} p s stops values other e told = subst (λ (l : List (Option ℕ)). AllTell p s stops l) (sym e) told
