-- What a step had: from what code finds to the events of the step.
use Rattle.std.proofs.Common.{◌≡◌, ◌↔◌, ◌≢◌, refl, sym, ap, ◌∙◌, subst, ℕ, zero, suc, ◌+◌, ◌<◌, ◌≤◌, Bool, true, false, not, if◌then◌else◌, List, [], ◌∷◌, length, drop, map, Option, Some, None, IsTrue, nat_lt, get_or, arith}
use Rattle.std.specs.Prelude.{is_some, option_map, slice_get, unwrap_or}
use Rattle.std.specs.Str.{bytes_eq}
use Rattle.std.proofs.lemmas.Slice.Eq.{bytes_eq-Decides}
use Rattle.std.proofs.lemmas.Bool.{true≢false, lt-ltb}
use Rattle.std.proofs.lemmas.List.{drop_all, at_drop_more}
use Rattle.std.proofs.Math.Seq.{drop-length}
use Rattle.qil_tree.specs.declared.tree.Func.{Func}
use Rattle.qil_tree.specs.declared.tree.Program.{Program}
use Rattle.qil_layout.specs.declared.callee.FuncId.{FuncId}
use Rattle.qil_symbols.specs.Numbers.{place_of}
use Rattle.qil_semantics.specs.State.{Name, State, is_final}
use Rattle.qil_semantics.specs.Step.{func_named}
use Rattle.qil_code.specs.Reading.{func_names}
use Rattle.qil_code.specs.Numbered.{func_at}
use Rattle.qil_frames.specs.Frames.{SlotFrame}
use Rattle.qil_state.specs.declared.status.Status.{Status}
use Rattle.qil_state.specs.declared.status.Status.TheVariants.{Running, Done, Exited, Faulted}
use Rattle.qil_state.specs.Faults.{status_of}
use Rattle.qil_state.specs.State.{func_name, frames_state}
use Rattle.qil_compare.specs.declared.event.Kinds.{Kinds}
use Rattle.qil_compare.specs.declared.event.Told.{Told}
use Rattle.qil_compare.specs.declared.event as code
use Rattle.qil_compare.specs.declared.event.Event.TheVariants as coded
use Rattle.qil_compare.specs.declared.ahead.Ahead.{Ahead}
use Rattle.qil_compare.specs.Seen.{Offset, data_place, seen}
use Rattle.qil_compare.specs.Events.{Range, Event, byte_out, written, called, returned, ended, Due, has_func, one_if, bytes_out, call_name, call_params, call_by, return_by, write_in, write_by, write_of, bytes_from, has_data, end_of, done_by}
use Rattle.qil_compare.specs.Next.{nowhere, event_at, untold, AreTold}
use Rattle.qil_compare.specs.Ahead.{value_ahead, writes_ahead, IsFuncOf, IsAhead}

-- ---- tests that are turned round

pub is_off : (b : Bool) → not b ≡ true → b ≡ false
is_off true e = absurd (true≢false (sym e))
is_off false e = refl

pub is_on : (b : Bool) → not b ≡ false → b ≡ true
is_on true e = refl
is_on false e = absurd (true≢false e)

-- ---- a run is over unless it goes on

pub over_by : (ns : List Name) (st : Status) (b : Bool) → (IsTrue b ↔ (st ≢ Running)) → b ≡ is_final (status_of ns st)
over_by ns Running true h = absurd (h.0 refl refl)
over_by ns Running false h = refl
over_by ns (Done v) true h = refl
over_by ns (Done v) false h = h.1 (λ e. absurd cc)
over_by ns (Exited w) true h = refl
over_by ns (Exited w) false h = h.1 (λ e. absurd cc)
over_by ns (Faulted f) true h = refl
over_by ns (Faulted f) false h = h.1 (λ e. absurd cc)

-- a state has as many frames as a machine that represents it
pub as_many : {A : Type 0} (p : Program A) (fs : List SlotFrame) → length fs ≡ length (frames_state p fs)
as_many p [] = refl
as_many p (f ∷ fs) = ap suc (as_many p fs)

-- ---- a function is there by its name

mapped_some : {X Y : Type 0} (f : X → Y) (o : Option X) → is_some (option_map f o) ≡ is_some o
mapped_some f None = refl
mapped_some f (Some x) = refl

either_there : {X : Type 0} (b : Bool) (place : Option ℕ) (f : X) (named : Option X) → is_some place ≡ is_some named → is_some (if b then Some 0 else option_map (λ i. suc i) place) ≡ is_some (if b then Some f else named)
either_there true place f named e = refl
either_there false place f named e = mapped_some (λ i. suc i) place ∙ e

func_there : {A : Type 0} (funcs : List (Func A)) (x : Name) → is_some (place_of (map (λ f. f.name) funcs) x) ≡ is_some (func_named funcs x)
unfolding place_of
func_there [] x = refl
func_there (f ∷ funcs) x = either_there (bytes_eq f.name x) _ f _ (func_there funcs x)

pub func_known : {A : Type 0} {X : Type 0} (p : Program A) (x : Name) (number : X → ℕ) (o : Option X) (r : Bool) → option_map number o ≡ place_of (func_names p) x → r ≡ is_some o → r ≡ has_func p x
func_known p x number o r at is = is ∙ sym (mapped_some number o) ∙ ap is_some at ∙ func_there p.funcs x

some_first : {X : Type 0} (b : Bool) (f : X) (o : Option X) → b ≡ true → is_some (if b then Some f else o) ≡ true
some_first b f o e = rw e refl

some_later : {X : Type 0} (b : Bool) (f : X) (o : Option X) → is_some o ≡ true → is_some (if b then Some f else o) ≡ true
some_later true f o e = refl
some_later false f o e = e

named_at : {A : Type 0} (funcs : List (Func A)) (i : ℕ) (x : Name) → option_map (λ f. f.name) (slice_get funcs i) ≡ Some x → is_some (func_named funcs x) ≡ true
named_at [] i x e = absurd cc
named_at (f ∷ funcs) zero x e = let same : f.name ≡ x = cc in some_first (bytes_eq f.name x) f (func_named funcs x) ((bytes_eq-Decides f.name x).1 same)
named_at (f ∷ funcs) (suc i) x e = some_later (bytes_eq f.name x) f (func_named funcs x) (named_at funcs i x e)

-- what a program has at a number, it has by its name
pub func_at_number : {A : Type 0} (p q : Program A) (i : ℕ) (x : Name) (r : Bool) → q ≡ p → option_map (λ f. f.name) (slice_get q.funcs i) ≡ Some x → r ≡ true → r ≡ has_func p x
func_at_number p q i x r same at found = found ∙ sym (named_at p.funcs i x (subst (λ (w : Program _). option_map (λ f. f.name) (slice_get w.funcs i) ≡ Some x) same at))

-- ---- bytes of output that weren't told

-- none, where all were
pub all_told : (kinds : Kinds) (n : ℕ) (s : State) → n ≡ length s.output → untold kinds n s ≡ []
unfolding untold
all_told kinds n s e = by kinds.output
  where
    by : (b : Bool) → (if b then map byte_out (drop n s.output) else []) ≡ []
    by true = ap (λ k. map byte_out (drop k s.output)) e ∙ ap (map byte_out) (drop-length s.output)
    by false = refl

-- the first of them, and those after it
pub one_told : {A : Type 0} (p : Program A) (kinds : Kinds) (n : ℕ) (s : State) (v : ℕ) → kinds.output ≡ true → n < length s.output → v ≡ get_or s.output n 0
    → AreTold p kinds s (bytes_out kinds (drop n s.output)) (Some (record { event = coded.Output v; told = n + 1 }))
unfolding untold
one_told p kinds n s v asked lt is =
    let first : map byte_out (drop n s.output) ≡ byte_out (get_or s.output n 0) ∷ map byte_out (drop (n + 1) s.output) = at_drop_more (map byte_out) s.output n 0 lt in
    ap (λ b. if b then map byte_out (drop n s.output) else []) asked ∙ first ∙ (λ i. byte_out (sym is i) ∷ (if sym asked i then map byte_out (drop (n + 1) s.output) else []))

pub unasked_told : {A : Type 0} (p : Program A) (kinds : Kinds) (bytes : List ℕ) → kinds.output ≡ false → bytes_out kinds bytes ≡ []
unasked_told p kinds bytes asked = ap (λ b. if b then map byte_out bytes else []) asked

pub none_told : (kinds : Kinds) (n : ℕ) (out : List ℕ) → length out ≤ n → bytes_out kinds (drop n out) ≡ []
none_told kinds n out le = by kinds.output
  where
    by : (b : Bool) → (if b then map byte_out (drop n out) else []) ≡ []
    by true = ap (map byte_out) (drop_all n out le)
    by false = refl

-- ---- the first event of a step

pub told_as : {A : Type 0} (p : Program A) (kinds : Kinds) (s : State) (r : Option Told) (events others : List Event) → events ≡ others → AreTold p kinds s others r → AreTold p kinds s events r
told_as p kinds s r events others e told = subst (λ es. AreTold p kinds s es r) (sym e) told

-- an event with which no output is left to tell
pub plain_told : {A : Type 0} (p : Program A) (kinds : Kinds) (s : State) (event : code.Event.Event) (n : ℕ) → n ≡ length s.output → event_at p s event ∷ [] ≡ event_at p s event ∷ untold kinds n s
plain_told p kinds s event n e = ap (λ es. event_at p s event ∷ es) (sym (all_told kinds n s e))

pub if_so : (b : Bool) (e : Event) → b ≡ true → one_if b e ≡ e ∷ []
if_so b e is = ap (λ b. one_if b e) is

pub if_not : (b : Bool) (e : Event) → b ≡ false → one_if b e ≡ []
if_not b e is = ap (λ b. one_if b e) is

-- the end
pub end_is : {A : Type 0} (p : Program A) (kinds : Kinds) (s : State) (due : Due) (func : FuncId) → IsFuncOf p due func → kinds.end ≡ true
    → one_if kinds.end (ended (end_of p due.returns s.status)) ≡ event_at p s (coded.End func) ∷ []
end_is p kinds s due func of asked = if_so kinds.end _ asked ∙ ap (λ t. ended (end_of p t s.status) ∷ []) of.returns

-- a call
pub unasked_call : {A : Type 0} (p other : Program A) (kinds : Kinds) (s : State) → kinds.calls ≡ false → call_by p other kinds s.frames ≡ []
unasked_call p other kinds s asked = ap (λ b. if b then one_if (has_func other (call_name s.frames)) (called (call_name s.frames) (call_params p s.frames)) else []) asked

pub call_is : {A : Type 0} (p other : Program A) (kinds : Kinds) (s : State) (name : Name) (r : Bool) → kinds.calls ≡ true → name ≡ call_name s.frames → r ≡ has_func other name
    → call_by p other kinds s.frames ≡ one_if r (event_at p s coded.Call)
call_is p other kinds s name r asked same is =
    ap (λ b. if b then one_if (has_func other (call_name s.frames)) (called (call_name s.frames) (call_params p s.frames)) else []) asked
    ∙ ap (λ x. one_if (has_func other x) (called (call_name s.frames) (call_params p s.frames))) (sym same)
    ∙ ap (λ b. one_if b (called (call_name s.frames) (call_params p s.frames))) (sym is)

-- a return
pub unasked_return : {A : Type 0} (p other : Program A) (kinds : Kinds) (due : Due) → kinds.calls ≡ false → return_by p other kinds due ≡ []
unasked_return p other kinds due asked = ap (λ b. if b then one_if (has_func other due.func) (returned due.func (option_map (seen p due.returns) due.value)) else []) asked

pub return_is : {A : Type 0} (p other : Program A) (kinds : Kinds) (s : State) (due : Due) (func : FuncId) (ahead : Ahead) (name : Name) (r : Bool) (value : Option ℕ) → kinds.calls ≡ true → IsFuncOf p due func → IsAhead kinds due ahead
    → name ≡ func_name (func_at p func.index) → r ≡ has_func other name → value ≡ value_ahead ahead → return_by p other kinds due ≡ one_if r (event_at p s (coded.Return func value))
return_is p other kinds s due func ahead name r value asked of is_ahead en er ev =
    let named : due.func ≡ name = of.name ∙ sym en in
    let given : due.value ≡ value = sym (is_ahead.value asked) ∙ sym ev in
    ap (λ b. if b then one_if (has_func other due.func) (returned due.func (option_map (seen p due.returns) due.value)) else []) asked
    ∙ (λ i. one_if (has_func other (named i)) (returned (of.name i) (option_map (seen p (of.returns i)) (given i))))
    ∙ ap (λ b. one_if b (event_at p s (coded.Return func value))) (sym er)

-- a write
pub unasked_write : {A : Type 0} (p other : Program A) (kinds : Kinds) (s : State) (due : Due) → kinds.writes ≡ false → write_by p other kinds s due.writes ≡ []
unasked_write p other kinds s due asked = ap (λ b. if b then write_of p other s due.writes else []) asked

pub write_is : {A : Type 0} (p other : Program A) (s : State) (a n : ℕ) (place : Offset) (r : Bool) → Some place ≡ data_place p a → r ≡ has_data other place.object
    → write_in other s (record { start = a; count = n }) (data_place p a) ≡ one_if r (event_at p s (coded.Write a n))
write_is p other s a n place r at is =
    ap (write_in other s (record { start = a; count = n })) (sym at)
    ∙ ap (λ b. one_if b (written place (bytes_from s.memory a n))) (sym is)
    ∙ ap (λ o. one_if r (written (unwrap_or o nowhere) (bytes_from s.memory a n))) at

pub write_none : {A : Type 0} (p other : Program A) (s : State) (range : Range) → None ≡ data_place p range.start → write_in other s range (data_place p range.start) ≡ []
write_none p other s range none = ap (write_in other s range) (sym none)

abbrev range_by : ℕ × ℕ → Range
range_by r = record { start = r.0; count = r.1 }

pub wrote_is : {A : Type 0} (p other : Program A) (kinds : Kinds) (s : State) (due : Due) (ahead : Ahead) (r : ℕ × ℕ) → kinds.writes ≡ true → IsAhead kinds due ahead → Some (range_by r) ≡ writes_ahead ahead
    → write_by p other kinds s due.writes ≡ write_in other s (range_by r) (data_place p r.0)
wrote_is p other kinds s due ahead r asked is_ahead range =
    ap (λ b. if b then write_of p other s due.writes else []) asked ∙ ap (write_of p other s) (sym (is_ahead.writes asked) ∙ sym range)

pub wrote_none : {A : Type 0} (p other : Program A) (kinds : Kinds) (s : State) (due : Due) (ahead : Ahead) → kinds.writes ≡ true → IsAhead kinds due ahead → None ≡ writes_ahead ahead → write_by p other kinds s due.writes ≡ []
wrote_none p other kinds s due ahead asked is_ahead range =
    ap (λ b. if b then write_of p other s due.writes else []) asked ∙ ap (write_of p other s) (sym (is_ahead.writes asked) ∙ sym range)

-- ---- which of them

abbrev chain : Bool → Bool → Bool → Bool → List Event → List Event → List Event → List Event → List Event → List Event
chain a b c d v w x y z = if a then v else (if b then w else (if c then x else (if d then y else z)))

-- a number of which it was tested that it is less than another
pub is_less : (a b m n : ℕ) → a ≡ m → b ≡ n → a < b → nat_lt m n ≡ true
is_less a b m n ea eb lt = lt-ltb m n (omega (arith, ea, eb, lt))

-- what is tested of the two states
pub record Tests (s t : State) (a b c d : Bool) : Type 0 where
  pub over_is : is_final t.status ≡ a
  pub called_is : nat_lt (length s.frames) (length t.frames) ≡ b
  pub returned_is : nat_lt (length t.frames) (length s.frames) ≡ c
  pub put_is : nat_lt (length s.output) (length t.output) ≡ d

chained : (a b c d k l m n : Bool) (v w x y z : List Event) → a ≡ k → b ≡ l → c ≡ m → d ≡ n → chain a b c d v w x y z ≡ chain k l m n v w x y z
chained a b c d k l m n v w x y z ea eb ec ed = λ i. chain (ea i) (eb i) (ec i) (ed i) v w x y z

pub by_tests : {A : Type 0} (p other : Program A) (kinds : Kinds) (due : Due) (s t : State) (a b c d : Bool) → Tests s t a b c d
    → done_by p other kinds due s t ≡ chain a b c d (one_if kinds.end (ended (end_of p due.returns t.status))) (call_by p other kinds t.frames) (return_by p other kinds due) (bytes_out kinds (drop (length s.output) t.output)) (write_by p other kinds t due.writes)
by_tests p other kinds due s t a b c d tests =
    chained (is_final t.status) (nat_lt (length s.frames) (length t.frames)) (nat_lt (length t.frames) (length s.frames)) (nat_lt (length s.output) (length t.output)) a b c d
    (one_if kinds.end (ended (end_of p due.returns t.status))) (call_by p other kinds t.frames) (return_by p other kinds due) (bytes_out kinds (drop (length s.output) t.output)) (write_by p other kinds t due.writes)
    tests.over_is tests.called_is tests.returned_is tests.put_is
