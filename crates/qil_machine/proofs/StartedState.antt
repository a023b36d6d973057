-- The first machine represents the first state.
use Rattle.std.proofs.Common.{◌≡◌, ◌≢◌, refl, sym, ap, ◌∙◌, subst, ℕ, suc, ◌+◌, ◌<◌, ◌≤◌, Bool, true, false, if◌then◌else◌, List, [], ◌∷◌, length, map, replicate, drop, get_or, Option, Some, None, Ok, Err, IsOk, arith, ◌==◌}
use Rattle.std.specs.Prelude.{slice_get, slice_set, option_map}
use Rattle.std.specs.Str.{bytes_eq}
use Rattle.std.proofs.lemmas.List.{drop_more, length-set, length-map}
use Rattle.std.proofs.lemmas.Option.{slice_get-map}
use Rattle.std.proofs.lemmas.Bool.Decides.{nat_tests}
use Rattle.qil_tree.specs.declared.ops.AbiType.{AbiType}
use Rattle.qil_tree.specs.declared.tree.Block.{Block}
use Rattle.qil_tree.specs.declared.tree.Func.{Func}
use Rattle.qil_tree.specs.declared.tree.Program.{Program}
use Rattle.qil_layout.specs.Layout.{bytes_of}
use Rattle.qil_memory.specs.Buffers.{Buffers, capacity, stack_base, fresh, IsMemory}
use Rattle.qil_symbols.specs.Numbers.{place_of}
use Rattle.qil_semantics.specs.State as meaning
use Rattle.qil_semantics.specs.State.{Name, State}
use Rattle.qil_semantics.specs.Values.{fit}
use Rattle.qil_semantics.specs.Calls.{first_label}
use Rattle.qil_semantics.specs.Step.{func_named}
use Rattle.qil_semantics.specs.Start.{start_of, started, started_with}
use Rattle.qil_semantics.specs.declared.start.StartFault.TheVariants as faults
use Rattle.qil_semantics.proofs.StartLemmas.{live-fresh}
use Rattle.qil_code.specs.declared.numbered.Slot.{Slot}
use Rattle.qil_code.specs.declared.numbered.FuncCode.{FuncCode}
use Rattle.qil_code.specs.Ranges.{FuncInRange}
use Rattle.qil_code.specs.Facts.{Finds}
use Rattle.qil_code.specs.Numbered.{func_at, block_at, block_in, block_of, func_of, func_code, param_of}
use Rattle.qil_semantics.specs.Names.{temps_named}
use Rattle.qil_code.specs.declared.numbered.Receiver.{Receiver}
use Rattle.qil_layout.specs.declared.callee.FuncId.{FuncId}
use Rattle.qil_code.specs.Reading.{func_names, func_code_at}
use Rattle.qil_code.proofs.Has.{name-at}
use Rattle.qil_frames.specs.Frames.{SlotFrame, with_slot}
use Rattle.qil_state.specs.Beginning.{begun_slots}
use Rattle.qil_state.specs.declared.status.Status.TheVariants.{Running}
use Rattle.qil_state.specs.State.{whole, state_of, func_name, label_in, FrameFits, PlaceFits, IsMachine}
use Rattle.qil_state.proofs.Place.{none_some, some_same}
use Rattle.qil_code.proofs.Readers.{IsCoded, coded}
use Rattle.qil_state.proofs.Beginning.{begun_temps, begun_long}

-- ---- parameters, one after the other

pub begun_more : (qs : List (Slot × AbiType)) (vs : List ℕ) (slots : List (Option ℕ)) (i : ℕ) (d : Slot × AbiType) (e w : ℕ) → i < length qs → length qs ≡ length vs → w ≡ fit (get_or qs i d).1 (get_or vs i e)
    → begun_slots (drop (i + 1) qs) (drop (i + 1) vs) (slice_set slots (get_or qs i d).0.index (Some w)) ≡ begun_slots (drop i qs) (drop i vs) slots
begun_more qs vs slots i d e w h n ew =
    let there : i < length vs = omega (arith, h, n) in
    ap (λ u. begun_slots (drop (i + 1) qs) (drop (i + 1) vs) (slice_set slots (get_or qs i d).0.index (Some u))) ew
    ∙ (λ k. begun_slots (sym (drop_more qs i d h) k) (sym (drop_more vs i e there) k) slots)

-- one more is set, and nothing else of the frame
pub record Set (old now new : SlotFrame) (qs : List (Slot × AbiType)) (vs : List ℕ) (i : ℕ) : Type 0 where
  pub frame : new ≡ record old { slots = new.slots }
  pub long : length new.slots ≡ length old.slots
  pub so_far : begun_slots (drop (i + 1) qs) (drop (i + 1) vs) new.slots ≡ begun_slots qs vs old.slots

pub one_set : (old now new : SlotFrame) (qs : List (Slot × AbiType)) (vs : List ℕ) (i : ℕ) (d : Slot × AbiType) (e w : ℕ) → i < length qs → length qs ≡ length vs → w ≡ fit (get_or qs i d).1 (get_or vs i e)
    → now ≡ record old { slots = now.slots } → length now.slots ≡ length old.slots → begun_slots (drop i qs) (drop i vs) now.slots ≡ begun_slots qs vs old.slots → new ≡ with_slot (get_or qs i d).0 (Some w) now → Set old now new qs vs i
one_set old now new qs vs i d e w h n ew frame long so en = record {
  frame = en ∙ (λ k. record (frame k) { slots = (sym (ap (λ (f : SlotFrame). f.slots) en)) k });
  long = ap (λ (f : SlotFrame). length f.slots) en ∙ length-set now.slots (get_or qs i d).0.index (Some w) ∙ long;
  so_far = ap (λ (f : SlotFrame). begun_slots (drop (i + 1) qs) (drop (i + 1) vs) f.slots) en ∙ begun_more qs vs now.slots i d e w h n ew ∙ so;
}

-- ---- the function of a name

find_none : {A : Type 0} (funcs : List (Func A)) (x : Name) → place_of (map (λ f. f.name) funcs) x ≡ None → func_named funcs x ≡ None
unfolding place_of
find_none [] x e = refl
find_none {A} (f ∷ funcs) x e = by (bytes_eq f.name x) (place_of (map (λ g. g.name) funcs) x) e (find_none funcs x) where
  by : (b : Bool) (o : Option ℕ) → (if b then Some 0 else option_map (λ i. suc i) o) ≡ None → (o ≡ None → func_named funcs x ≡ None) → (if b then Some f else func_named funcs x) ≡ None
  by true o e deep = none_some (sym e)
  by false None e deep = deep refl
  by false (Some i) e deep = none_some (sym e)

pub entry_missing : {A : Type 0} (p : Program A) (x : Name) (args : List ℕ) → place_of (func_names p) x ≡ None → start_of p x args ≡ Err faults.NoEntry
entry_missing p x args e = ap (λ o. started_with p o args) (find_none p.funcs x e)

pub entry_found : {A : Type 0} (p : Program A) (x : Name) (i : ℕ) (func : Func A) → Finds p → place_of (func_names p) x ≡ Some i → func_at p i ≡ Some func → func_named p.funcs x ≡ Some func
entry_found {A} p x i func finds at ef =
    let name : option_map (λ (f : Func A). f.name) (slice_get p.funcs i) ≡ Some x = sym (slice_get-map (λ (f : Func A). f.name) p.funcs i) ∙ name-at (func_names p) x i at in
    let same : func.name ≡ x = some_same func.name x (ap (option_map (λ (f : Func A). f.name)) (sym ef) ∙ name) in
    ap (func_named p.funcs) (sym same) ∙ finds.func i func ef

pub entry_there : {A : Type 0} (p : Program A) (x : Name) (i : ℕ) → place_of (func_names p) x ≡ Some i → func_at p i ≡ None → ⊥
entry_there {A} p x i at ef =
    let name : option_map (λ (f : Func A). f.name) (slice_get p.funcs i) ≡ Some x = sym (slice_get-map (λ (f : Func A). f.name) p.funcs i) ∙ name-at (func_names p) x i at in
    none_some (ap (option_map (λ (f : Func A). f.name)) (sym ef) ∙ name)

-- ---- the first state

first_label_at : {A : Type 0} (blocks : List (Block A)) → first_label blocks ≡ label_in (slice_get blocks 0)
first_label_at [] = refl
first_label_at (b ∷ blocks) = refl

pub start_is : {A : Type 0} (p : Program A) (x : Name) (i : ℕ) (k : FuncCode A) (args : List ℕ) (code : IsCoded p i k) → func_named p.funcs x ≡ Some code.func → length args ≡ length code.func.params → length (bytes_of p) ≤ capacity
    → start_of p x args ≡ Ok (state_of (whole p (record { func = i; block = 0; index = 0; slots = begun_slots k.code.params args (replicate (length k.temps) None); floor = stack_base; result = None } ∷ []) (fresh (bytes_of p)) [] Running))
start_is {A} p x i k args code found count few =
    let func : Func A = code.func in
    let equal : (length args == length func.params) ≡ true = grind (arith, nat_tests, count) in
    let name : func.name ≡ func_name (func_at p i) = ap (λ (o : Option (Func A)). func_name o) (sym code.there) in
    let label : first_label func.blocks ≡ label_in (block_at p i 0) = first_label_at func.blocks ∙ ap (λ (o : Option (Func A)). label_in (block_in o 0)) (sym code.there) in
    ap (λ o. started_with p o args) found ∙ ap (λ b. if b then Ok (started p func args) else Err faults.ArgumentCount) equal
    ∙ (λ j. Ok (record {
      frames = record { func = name j; label = label j; index = 0; temps = begun_temps p i k args code j; floor = stack_base; result = None } ∷ [];
      memory = λ a. sym (live-fresh (bytes_of p) few a) j;
      top = stack_base;
      output = [];
      status = meaning.running;
    }))

pub count_is : {A : Type 0} (p : Program A) (x : Name) (i : ℕ) (k : FuncCode A) (args : List ℕ) (code : IsCoded p i k) → func_named p.funcs x ≡ Some code.func → length args ≢ length code.func.params → start_of p x args ≡ Err faults.ArgumentCount
count_is {A} p x i k args code found count =
    let apart : (length args == length code.func.params) ≡ false = grind (arith, nat_tests, count) in
    ap (λ o. started_with p o args) found ∙ ap (λ b. if b then Ok (started p code.func args) else Err faults.ArgumentCount) apart

-- ---- why a machine isn't started

pub missing_entry : {A : Type 0} (p : Program A) (x : Name) (args : List ℕ) (o : Option FuncId) → o ≡ None → option_map (λ (f : FuncId). f.index) o ≡ place_of (func_names p) x → start_of p x args ≡ Err faults.NoEntry
missing_entry p x args o is at = entry_missing p x args (sym at ∙ ap (option_map (λ (f : FuncId). f.index)) is)

pub found_entry : {A : Type 0} (p : Program A) (x : Name) (i : ℕ) (k : FuncCode A) (code : IsCoded p i k) → Finds p → Some i ≡ place_of (func_names p) x → func_named p.funcs x ≡ Some code.func
found_entry p x i k code finds at = entry_found p x i code.func finds (sym at) code.there

params_long : {A : Type 0} (p : Program A) (i : ℕ) (k : FuncCode A) (code : IsCoded p i k) → length k.code.params ≡ length code.func.params
unfolding func_code func_of
params_long {A} p i k code = ap (λ (c : FuncCode A). length c.code.params) code.is ∙ length-map code.func.params (param_of (temps_named code.func))

pub wrong_count : {A : Type 0} (p : Program A) (x : Name) (i : ℕ) (k : FuncCode A) (args : List ℕ) → Some k ≡ func_code_at p i → Finds p → Some i ≡ place_of (func_names p) x → length k.code.params ≢ length args → start_of p x args ≡ Err faults.ArgumentCount
wrong_count p x i k args at finds found count =
    let code : IsCoded p i k = coded p i k at in
    count_is p x i k args code (found_entry p x i k code finds found) (λ e. count (params_long p i k code ∙ sym e))

pub is_started : {A : Type 0} (p : Program A) (x : Name) (i : ℕ) (k : FuncCode A) (args : List ℕ) → Some k ≡ func_code_at p i → Finds p → Some i ≡ place_of (func_names p) x → length k.code.params ≡ length args → length (bytes_of p) ≤ capacity
    → start_of p x args ≡ Ok (state_of (whole p (record { func = i; block = 0; index = 0; slots = begun_slots k.code.params args (replicate (length k.temps) None); floor = stack_base; result = None } ∷ []) (fresh (bytes_of p)) [] Running))
is_started p x i k args at finds found count few =
    let code : IsCoded p i k = coded p i k at in
    start_is p x i k args code (found_entry p x i k code finds found) (sym count ∙ params_long p i k code) few

-- out of memory comes where the function is there and the arguments are as many
pub may_start : {A : Type 0} (p : Program A) (x : Name) (i : ℕ) (k : FuncCode A) (args : List ℕ) → Some k ≡ func_code_at p i → Finds p → Some i ≡ place_of (func_names p) x → length k.code.params ≡ length args → IsOk (start_of p x args)
may_start p x i k args at finds found count =
    let code : IsCoded p i k = coded p i k at in
    let equal : (length args == length code.func.params) ≡ true = grind (arith, nat_tests, sym count ∙ params_long p i k code) in
    subst IsOk (sym (ap (λ o. started_with p o args) (found_entry p x i k code finds found) ∙ ap (λ b. if b then Ok (started p code.func args) else Err faults.ArgumentCount) equal)) refl

-- ---- the first machine

pub has_block : {A : Type 0} (k : FuncCode A) → FuncInRange k → 0 < length k.code.blocks
has_block k range = range.blocks

first_place : {A : Type 0} (p : Program A) (o : Option (Func A)) (func : Func A) → o ≡ Some func → 0 < length func.blocks → PlaceFits (block_in o 0) 0
first_place {A} p o func e h = subst (λ (o : Option (Func A)). PlaceFits (block_in o 0) 0) (sym e) (by func.blocks h) where
  by : (blocks : List (Block A)) → 0 < length blocks → PlaceFits (slice_get blocks 0) 0
  by [] h = absurd (omega (arith, h))
  by (b ∷ blocks) h = omega arith

blocks_long : {A : Type 0} (p : Program A) (i : ℕ) (k : FuncCode A) (code : IsCoded p i k) → length k.code.blocks ≡ length code.func.blocks
unfolding func_code func_of
blocks_long {A} p i k code = ap (λ (c : FuncCode A). length c.code.blocks) code.is ∙ length-map code.func.blocks (block_of p code.func.blocks (temps_named code.func))

pub callee_fits : {A : Type 0} (p : Program A) (i : ℕ) (k : FuncCode A) (vs : List ℕ) (floor : ℕ) (to : Option Receiver) → Some k ≡ func_code_at p i → 0 < length k.code.blocks
    → FrameFits p (record { func = i; block = 0; index = 0; slots = begun_slots k.code.params vs (replicate (length k.temps) None); floor = floor; result = to })
callee_fits {A} p i k vs floor to at some =
    let code : IsCoded p i k = coded p i k at in
    record {
      place = first_place p (func_at p i) code.func code.there (subst (λ n. 0 < n) (blocks_long p i k code) some);
      slots = begun_long p i k vs code;
    }

pub first_machine : {A : Type 0} (p : Program A) (fs gs : List SlotFrame) (f : SlotFrame) (m : Buffers) (out : List ℕ) (i : ℕ) (k : FuncCode A) (vs : List ℕ) → Some k ≡ func_code_at p i → 0 < length k.code.blocks
    → f ≡ record { func = i; block = 0; index = 0; slots = begun_slots k.code.params vs (replicate (length k.temps) None); floor = stack_base; result = None } → gs ≡ [] → fs ≡ f ∷ gs → IsMemory m → out ≡ [] → IsMachine (whole p fs m out Running)
first_machine {A} p fs gs f m out i k vs at some ef eg efs mem eo =
    let g : SlotFrame = record { func = i; block = 0; index = 0; slots = begun_slots k.code.params vs (replicate (length k.temps) None); floor = stack_base; result = None } in
    let low = mem.low in
    let all : fs ≡ g ∷ [] = efs ∙ (λ j. ef j ∷ eg j) in
    let is : IsMachine (whole p (g ∷ []) m [] Running) = record {
      few = omega arith;
      frames = (callee_fits p i k vs stack_base None at some, tt, tt);
      some = tt;
      floors = (low, omega arith);
      output = omega arith;
    } in
    subst (λ l. IsMachine (whole p l m out Running)) (sym all) (subst (λ o. IsMachine (whole p (g ∷ []) m o Running)) (sym eo) is)

pub first_state : {A : Type 0} (p : Program A) (fs gs : List SlotFrame) (f : SlotFrame) (m : Buffers) (out : List ℕ) (x : Name) (i : ℕ) (k : FuncCode A) (args : List ℕ) → Some k ≡ func_code_at p i → Finds p → Some i ≡ place_of (func_names p) x → length k.code.params ≡ length args
    → f ≡ record { func = i; block = 0; index = 0; slots = begun_slots k.code.params args (replicate (length k.temps) None); floor = stack_base; result = None } → gs ≡ [] → fs ≡ f ∷ gs → IsMemory m → m ≡ fresh (bytes_of p) → out ≡ []
    → start_of p x args ≡ Ok (state_of (whole p fs m out Running))
first_state {A} p fs gs f m out x i k args at finds found count ef eg efs mem em eo =
    is_started p x i k args at finds found count (subst (λ (b : Buffers). length b.data_bytes ≤ capacity) em mem.few)
    ∙ (λ j. Ok (state_of (whole p (sym (efs ∙ (λ j. ef j ∷ eg j)) j) (sym em j) (sym eo j) Running)))
