-- What is kept of readings tells whether a watch reads otherwise.
use Rattle.std.proofs.Common.{◌≡◌, refl, sym, ap, ◌∙◌, subst, ℕ, zero, suc, ◌+◌, ◌<◌, Bool, true, false, cond, inl, inr, List, [], ◌∷◌, ◌++◌, length, get_or, Option, Some, None, option_map, arith}
use Rattle.std.specs.Prelude.{◌≢◌, ◌↔◌, IsTrue, not, ◌==◌, nat_eq, find, slice_get}
use Rattle.std.specs.Option.{option_eq, option_or}
use Rattle.std.specs.Str.{bytes_eq}
use Rattle.std.proofs.Math.Seq.{get_or-append_seam}
use Rattle.std.proofs.lemmas.Bool.{cases_lt}
use Rattle.std.proofs.lemmas.Bool.Decides.{Decides-eqb}
use Rattle.std.proofs.lemmas.List.{get_or_default, get_or_append_left}
use Rattle.std.proofs.lemmas.Slice.Eq.{bytes_eq-Decides}
use Rattle.qil_tree.specs.declared.tree.Block.{Block}
use Rattle.qil_tree.specs.declared.tree.Func.{Func}
use Rattle.qil_tree.specs.declared.tree.Program.{Program}
use Rattle.qil_layout.specs.Layout.{low_bytes}
use Rattle.qil_memory.specs.Bytes.{number}
use Rattle.qil_memory.specs.Live.{read}
use Rattle.qil_semantics.specs.State.{Name, State, is_final}
use Rattle.qil_semantics.specs.Stops.{Reading, dead, unset, bytes_read, value_read, bytes_reading, value_reading, same_reading, reading, memory_at, temp_in, differs, is_held, first_watch, first_break, stopped}
use Rattle.qil_semantics.specs.Stops as meaning
use Rattle.qil_semantics.specs.declared.reason.Reason.{Reason}
use Rattle.qil_semantics.specs.declared.reason.Reason.TheVariants as reasons
use Rattle.qil_history.specs.qil_code.Numbered.{func_at, names_of}
use Rattle.qil_history.specs.qil_state.declared.status.Status.{Status}
use Rattle.qil_history.specs.qil_state.declared.status.Status.TheVariants.{Running, Done, Exited, Faulted}
use Rattle.qil_history.specs.qil_state.Faults.{status_of}
use Rattle.qil_stops.specs.declared.stop.StopKind.{StopKind}
use Rattle.qil_stops.specs.declared.stop.StopKind.TheVariants.{Break, Watch}
use Rattle.qil_stops.specs.declared.stop.Watched.TheVariants.{Bytes, Temp}
use Rattle.qil_stops.specs.declared.stop.NumberedStop.{NumberedStop}
use Rattle.qil_stops.specs.Named.{break_in, watch_in, named_kind, named_stops, passes}
use Rattle.qil_stops.specs.Readings.{TellsBytes, TellsTemp, Tells, AllTell}
use Rattle.qil_stops.proofs.Naming.{by_name, first_by, first_watch-by, first_break-by}

-- ---- tests of numbers and of bytes

same_number : (v w : ℕ) (b c : Bool) → (v == w) ≡ b → (w == v) ≡ c → b ≡ c
same_number v w true true e f = refl
same_number v w false false e f = refl
same_number v w true false e f = absurd (grind (arith, e, f, Decides-eqb v w, Decides-eqb w v))
same_number v w false true e f = absurd (grind (arith, e, f, Decides-eqb v w, Decides-eqb w v))

turned : (v w : ℕ) → (v == w) ≡ (w == v)
turned v w = same_number v w (v == w) (w == v) refl refl

from_some : {X : Type 0} (x y : X) → Some x ≡ Some y → x ≡ y
from_some x y e = cc

-- bytes that are those of their numbers are equal where the numbers are
same_bytes : (n : ℕ) (bs cs : List ℕ) (b c : Bool) → low_bytes n (number bs) ≡ bs → low_bytes n (number cs) ≡ cs → bytes_eq bs cs ≡ b → (number cs == number bs) ≡ c → b ≡ c
same_bytes n bs cs true true eb ec e f = refl
same_bytes n bs cs false false eb ec e f = refl
same_bytes n bs cs true false eb ec e f =
    let same : bs ≡ cs = (bytes_eq-Decides bs cs).0 e in
    let numbers : number bs ≡ number cs = ap number same in
    absurd (grind (arith, f, numbers, Decides-eqb (number cs) (number bs)))
same_bytes n bs cs false true eb ec e f =
    let numbers : number cs ≡ number bs = (Decides-eqb (number cs) (number bs)).0 f in
    let same : bs ≡ cs = sym eb ∙ ap (low_bytes n) (sym numbers) ∙ ec in
    sym e ∙ (bytes_eq-Decides bs cs).1 same

-- ---- the two tests are one

bytes_test : (n : ℕ) (old new : Option (List ℕ)) (u v : Option ℕ) → TellsBytes old n u → TellsBytes new n v → same_reading (bytes_reading old) (bytes_reading new) ≡ option_eq nat_eq v u
bytes_test n None None u v s t = rw (s.spelled, t.spelled) refl
bytes_test n None (Some cs) u v s t = rw (s.spelled, t.spelled) refl
bytes_test n (Some bs) None u v s t = rw (s.spelled, t.spelled) refl
bytes_test n (Some bs) (Some cs) u v s t =
    let here : low_bytes n (number bs) ≡ bs = from_some _ _ (ap (option_map (low_bytes n)) (sym s.spelled) ∙ s.bytes) in
    let there : low_bytes n (number cs) ≡ cs = from_some _ _ (ap (option_map (low_bytes n)) (sym t.spelled) ∙ t.bytes) in
    rw (s.spelled, t.spelled) (same_bytes n bs cs (bytes_eq bs cs) (number cs == number bs) here there refl refl)

values_test : (u v : Option ℕ) → same_reading (value_reading u) (value_reading v) ≡ option_eq nat_eq v u
values_test None None = refl
values_test None (Some w) = refl
values_test (Some w) None = refl
values_test (Some w) (Some x) = turned w x

-- a breakpoint never differs
break_same : {A : Type 0} (old new : State) (func : Option (Func A)) (block : Option (Block A)) (k : ℕ) → passes (differs old new) (break_in func block k) ≡ false
break_same old new None block k = refl
break_same old new (Some func) None k = refl
break_same old new (Some func) (Some block) k = refl

none_test : (u v : Option ℕ) → u ≡ None → v ≡ None → false ≡ not (option_eq nat_eq v u)
none_test u v e f = rw (e, f) refl

no_name : {A : Type 0} (p : Program A) (f x : ℕ) → func_at p f ≡ None → slice_get (names_of p f) x ≡ None
unfolding names_of
no_name p f x e = rw e refl

temp_test : {A : Type 0} (p : Program A) (f x : ℕ) (old new : State) (u v : Option ℕ) (func : Option (Func A)) (name : Option Name) → func_at p f ≡ func → slice_get (names_of p f) x ≡ name
    → TellsTemp p f x old u → TellsTemp p f x new v → passes (differs old new) (watch_in func name) ≡ not (option_eq nat_eq v u)
temp_test p f x old new u v None name ef en s t = let none = no_name p f x ef in none_test u v (s.unknown none) (t.unknown none)
temp_test p f x old new u v (Some func) None ef en s t = none_test u v (s.unknown en) (t.unknown en)
temp_test p f x old new u v (Some func) (Some name) ef en s t =
    ap (λ r. not (same_reading r (reading (temp_in func.name name) new))) (sym (s.named func name ef en))
    ∙ ap (λ r. not (same_reading (value_reading u) r)) (sym (t.named func name ef en))
    ∙ ap not (values_test u v)

kind_test : {A : Type 0} (p : Program A) (old new : State) (kind : StopKind) (u v : Option ℕ) → Tells p old kind u → Tells p new kind v → passes (differs old new) (named_kind p kind) ≡ not (option_eq nat_eq v u)
unfolding reading
kind_test p old new (Break place) u v s t = break_same old new _ _ place.index ∙ none_test u v s t
kind_test p old new (Watch (Bytes a n)) u v s t = ap not (bytes_test n (read old.memory a n) (read new.memory a n) u v s t)
kind_test p old new (Watch (Temp func slot)) u v s t = temp_test p func.index slot.index old new u v (func_at p func.index) (slice_get (names_of p func.index) slot.index) refl refl s t

-- the test that is made in a loop
pub watch-test : {A : Type 0} (p : Program A) (old new : State) (stops : List NumberedStop) (before : List (Option ℕ)) (i : ℕ) (d : NumberedStop) (e : Option ℕ) (test : Bool) (v : Option ℕ) → AllTell p old stops before → i < length stops → length before ≡ length stops
    → Tells p new (get_or stops i d).kind v → test ≡ not (option_eq nat_eq v (get_or before i e)) → by_name p (differs old new) (get_or stops i d) ≡ test
watch-test p old new stops before i d e test v reported lt count here is =
    let same : get_or before i None ≡ get_or before i e = get_or_default before i None e (omega (arith, lt, count)) in
    kind_test p old new (get_or stops i d).kind (get_or before i None) v (reported i d lt) here ∙ ap (λ (o : Option ℕ). not (option_eq nat_eq v o)) same ∙ sym is

-- ---- where nothing differs, what was kept tells the new readings too

not_false : (b : Bool) → not b ≡ false → b ≡ true
not_false true e = refl
not_false false e = absurd cc

same-tells : (r q : Reading) → same_reading r q ≡ true → r ≡ q
same-tells dead dead e = refl
same-tells unset unset e = refl
same-tells (bytes_read bs) (bytes_read cs) e = ap bytes_read ((bytes_eq-Decides bs cs).0 e)
same-tells (value_read v) (value_read w) e = ap value_read ((Decides-eqb v w).0 e)
same-tells r q e = absurd (cc)

bytes_back : (bs cs : Option (List ℕ)) → bytes_reading bs ≡ bytes_reading cs → bs ≡ cs
bytes_back None None e = refl
bytes_back None (Some cs) e = absurd cc
bytes_back (Some bs) None e = absurd cc
bytes_back (Some bs) (Some cs) e = let same : bs ≡ cs = cc in ap Some same

temp_same : {A : Type 0} (p : Program A) (f x : ℕ) (old new : State) (u : Option ℕ) → TellsTemp p f x old u → passes (differs old new) (watch_in (func_at p f) (slice_get (names_of p f) x)) ≡ false → TellsTemp p f x new u
temp_same {A} p f x old new u s none = record {
  named = λ func name ef en.
      (let same : not (same_reading (reading (temp_in func.name name) old) (reading (temp_in func.name name) new)) ≡ false =
      ap (λ (o : Option (Func A)). passes (differs old new) (watch_in o (Some name))) (sym ef) ∙ ap (λ o. passes (differs old new) (watch_in (func_at p f) o)) (sym en) ∙ none in
      s.named func name ef en ∙ same-tells _ _ (not_false _ same));
  unknown = s.unknown;
}

kind_same : {A : Type 0} (p : Program A) (old new : State) (kind : StopKind) (u : Option ℕ) → Tells p old kind u → passes (differs old new) (named_kind p kind) ≡ false → Tells p new kind u
unfolding reading
kind_same p old new (Break place) u s none = s
kind_same p old new (Watch (Bytes a n)) u s none =
    subst (λ bs. TellsBytes bs n u) (bytes_back (read old.memory a n) (read new.memory a n) (same-tells _ _ (not_false _ none))) s
kind_same p old new (Watch (Temp func slot)) u s none = temp_same p func.index slot.index old new u s none

none_cases : (b : Bool) (s : NumberedStop) (o : Option NumberedStop) → cond b (Some s) o ≡ None → (b ≡ false) × (o ≡ None)
none_cases true s o e = absurd cc
none_cases false s o e = (refl, e)

none_found : (t : NumberedStop → Bool) (stops : List NumberedStop) (i : ℕ) (d : NumberedStop) → find t stops ≡ None → i < length stops → t (get_or stops i d) ≡ false
none_found t [] i d e lt = absurd (omega (arith, lt))
none_found t (s ∷ stops) zero d e lt = (none_cases (t s) s (find t stops) e).0
none_found t (s ∷ stops) (suc i) d e lt = none_found t stops i d (none_cases (t s) s (find t stops) e).1 (omega (arith, lt))

no_watch : (w k : Option ℕ) → None ≡ option_or (option_map reasons.Watch w) (option_map reasons.Break k) → w ≡ None
no_watch None k e = refl
no_watch (Some n) k e = absurd cc

no_number : (o : Option NumberedStop) → option_map (λ stop. stop.number) o ≡ None → o ≡ None
no_number None e = refl
no_number (Some s) e = absurd cc

stays : {A : Type 0} (p : Program A) (old new : State) (stops : List NumberedStop) (before : List (Option ℕ)) → AllTell p old stops before → first_by p (differs old new) stops ≡ None → AllTell p new stops before
stays p old new stops before reported none = λ i d lt.
    kind_same p old new (get_or stops i d).kind (get_or before i None) (reported i d lt) (none_found (by_name p (differs old new)) stops i d (no_number (find (by_name p (differs old new)) stops) none) lt)

pub reported-still : {A : Type 0} (p : Program A) (old new : State) (stops : List NumberedStop) (before : List (Option ℕ)) → AllTell p old stops before → None ≡ stopped (named_stops p stops) old new → AllTell p new stops before
unfolding stopped
reported-still p old new stops before reported none =
    stays p old new stops before reported
    (sym (first_watch-by p old new stops) ∙ no_watch (first_watch old new (named_stops p stops)) (first_break new (named_stops p stops)) none)

-- ---- the stop that holds

pub by-watch : (stops : List meaning.Numbered) (a b : State) (n : ℕ) → Some n ≡ first_watch a b stops → Some (reasons.Watch n) ≡ stopped stops a b
unfolding stopped
by-watch stops a b n w = ap (λ found. option_or (option_map reasons.Watch found) (option_map reasons.Break (first_break b stops))) w

pub by-break : (stops : List meaning.Numbered) (a b : State) (n : ℕ) → None ≡ first_watch a b stops → Some n ≡ first_break b stops → Some (reasons.Break n) ≡ stopped stops a b
unfolding stopped
by-break stops a b n w k = ap (option_map reasons.Break) k ∙ ap (λ found. option_or (option_map reasons.Watch found) (option_map reasons.Break (first_break b stops))) w

pub by-none : (stops : List meaning.Numbered) (a b : State) → None ≡ first_watch a b stops → None ≡ first_break b stops → None ≡ stopped stops a b
unfolding stopped
by-none stops a b w k = ap (option_map reasons.Break) k ∙ ap (λ found. option_or (option_map reasons.Watch found) (option_map reasons.Break (first_break b stops))) w

-- ---- one stop alone

only-hit : {A : Type 0} (p : Program A) (q : meaning.Stop → Bool) (stop : NumberedStop) → by_name p q stop ≡ true → first_by p q (stop ∷ []) ≡ Some stop.number
only-hit p q stop e = ap (λ b. option_map (λ (s : NumberedStop). s.number) (cond b (Some stop) None)) e

only-miss : {A : Type 0} (p : Program A) (q : meaning.Stop → Bool) (stop : NumberedStop) → by_name p q stop ≡ false → first_by p q (stop ∷ []) ≡ None
only-miss p q stop e = ap (λ b. option_map (λ (s : NumberedStop). s.number) (cond b (Some stop) None)) e

pub only-watch : {A : Type 0} (p : Program A) (old new : State) (stop : NumberedStop) (u v : Option ℕ) (test : Bool) → Tells p old stop.kind u → Tells p new stop.kind v → test ≡ not (option_eq nat_eq v u) → test ≡ true
    → Some (reasons.Watch stop.number) ≡ stopped (named_stops p (stop ∷ [])) old new
only-watch p old new stop u v test s t is hit =
    let found = only-hit p (differs old new) stop (kind_test p old new stop.kind u v s t ∙ sym is ∙ hit) in
    by-watch (named_stops p (stop ∷ [])) old new stop.number (sym (first_watch-by p old new (stop ∷ []) ∙ found))

only-unwatched : {A : Type 0} (p : Program A) (old new : State) (stop : NumberedStop) (u v : Option ℕ) (test : Bool) → Tells p old stop.kind u → Tells p new stop.kind v → test ≡ not (option_eq nat_eq v u) → test ≡ false
    → None ≡ first_watch old new (named_stops p (stop ∷ []))
only-unwatched p old new stop u v test s t is miss =
    sym (first_watch-by p old new (stop ∷ []) ∙ only-miss p (differs old new) stop (kind_test p old new stop.kind u v s t ∙ sym is ∙ miss))

pub only-break : {A : Type 0} (p : Program A) (old new : State) (stop : NumberedStop) (u v : Option ℕ) (test held : Bool) → Tells p old stop.kind u → Tells p new stop.kind v → test ≡ not (option_eq nat_eq v u) → test ≡ false
    → held ≡ by_name p (is_held new) stop → held ≡ true → Some (reasons.Break stop.number) ≡ stopped (named_stops p (stop ∷ [])) old new
only-break p old new stop u v test held s t is miss at hit =
    by-break (named_stops p (stop ∷ [])) old new stop.number (only-unwatched p old new stop u v test s t is miss)
    (sym (first_break-by p new (stop ∷ []) ∙ only-hit p (is_held new) stop (sym at ∙ hit)))

pub only-none : {A : Type 0} (p : Program A) (old new : State) (stop : NumberedStop) (u v : Option ℕ) (test held : Bool) → Tells p old stop.kind u → Tells p new stop.kind v → test ≡ not (option_eq nat_eq v u) → test ≡ false
    → held ≡ by_name p (is_held new) stop → held ≡ false → None ≡ stopped (named_stops p (stop ∷ [])) old new
only-none p old new stop u v test held s t is miss at none =
    by-none (named_stops p (stop ∷ [])) old new (only-unwatched p old new stop u v test s t is miss)
    (sym (first_break-by p new (stop ∷ []) ∙ only-miss p (is_held new) stop (sym at ∙ none)))

-- ---- one more reading

reported-next : {A : Type 0} (p : Program A) (s : State) (stops : List NumberedStop) (values : List (Option ℕ)) (i : ℕ) (d : NumberedStop) (v : Option ℕ) → length values ≡ i → Tells p s (get_or stops i d).kind v
    → i < length stops
    → ((j : ℕ) (e : NumberedStop) → j < i → Tells p s (get_or stops j e).kind (get_or values j None))
    → (j : ℕ) (e : NumberedStop) → j < i + 1 → Tells p s (get_or stops j e).kind (get_or (values ++ v ∷ []) j None)
reported-next p s stops values i d v count here inside reported j e lt = elim (cases_lt j i) [
  | inl l ↦ subst (λ o. Tells p s (get_or stops j e).kind o) (sym (get_or_append_left values (v ∷ []) None j (omega (arith, l, count)))) (reported j e l)
  | inr g ↦ (let same : j ≡ i = omega (arith, g, lt) in
      let value : get_or (values ++ v ∷ []) j None ≡ v = ap (λ n. get_or (values ++ v ∷ []) n None) (same ∙ sym count) ∙ get_or-append_seam values v [] None in
      let stop : get_or stops i d ≡ get_or stops j e = get_or_default stops i d e inside ∙ ap (λ n. get_or stops n e) (sym same) in
      subst (λ o. Tells p s (get_or stops j e).kind o) (sym value) (subst (λ (x : NumberedStop). Tells p s x.kind v) stop here))
]

-- the values once that of the next stop is pushed
pub reported-more : {A : Type 0} (p : Program A) (s : State) (stops : List NumberedStop) (values more : List (Option ℕ)) (i : ℕ) (d : NumberedStop) (v : Option ℕ) → length values ≡ i → more ≡ values ++ v ∷ []
    → Tells p s (get_or stops i d).kind v → i < length stops
    → ((j : ℕ) (e : NumberedStop) → j < i → Tells p s (get_or stops j e).kind (get_or values j None))
    → (j : ℕ) (e : NumberedStop) → j < i + 1 → Tells p s (get_or stops j e).kind (get_or more j None)
reported-more p s stops values more i d v count pushed here inside reported j e lt =
    subst (λ (xs : List (Option ℕ)). Tells p s (get_or stops j e).kind (get_or xs j None)) (sym pushed) (reported-next p s stops values i d v count here inside reported j e lt)

-- ---- what a machine says, of the states that it represents

pub reported-at : {A : Type 0} (q p : Program A) (s t : State) (stops : List NumberedStop) (values : List (Option ℕ)) → q ≡ p → s ≡ t → AllTell q s stops values → AllTell p t stops values
reported-at {A} q p s t stops values e f reported = subst (λ (r : Program A). AllTell r t stops values) e (subst (λ (u : State). AllTell q u stops values) f reported)

pub found-at : {A : Type 0} (q p : Program A) (s old new : State) (stops : List NumberedStop) (before values : List (Option ℕ)) (r : Option Reason) → q ≡ p → s ≡ new → before ≡ values
    → ((old : State) → AllTell q old stops before → r ≡ stopped (named_stops q stops) old s) → AllTell p old stops values → r ≡ stopped (named_stops p stops) old new
found-at {A} q p s old new stops before values r e f same says reported =
    let there : AllTell q old stops before = subst (λ (l : List (Option ℕ)). AllTell q old stops l) (sym same) (reported-at p q old old stops values (sym e) refl reported) in
    says old there ∙ ap (λ (u : Program A). stopped (named_stops u stops) old s) e ∙ ap (λ (u : State). stopped (named_stops p stops) old u) f

-- the end is told where the run is over, and the other reason where it goes on
pub end-told : (s t : State) (over is : Bool) (other : Reason) → s ≡ t → over ≡ is_final s.status → over ≡ is → cond is reasons.End other ≡ cond (is_final t.status) reasons.End other
end-told s t over is other same says so = ap (λ b. cond b reasons.End other) (sym so ∙ says ∙ ap (λ (u : State). is_final u.status) same)

pub over-by : (ns : List Name) (st : Status) (b : Bool) → (IsTrue b ↔ (st ≢ Running)) → b ≡ is_final (status_of ns st)
over-by ns Running true h = absurd (h.0 refl refl)
over-by ns Running false h = refl
over-by ns (Done v) true h = refl
over-by ns (Done v) false h = h.1 (λ e. absurd cc)
over-by ns (Exited w) true h = refl
over-by ns (Exited w) false h = h.1 (λ e. absurd cc)
over-by ns (Faulted f) true h = refl
over-by ns (Faulted f) false h = h.1 (λ e. absurd cc)
