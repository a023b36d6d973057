-- Parameters that are set one after the other in the slots of a new frame are its first temporaries.
use Rattle.std.proofs.Common.{◌≡◌, refl, sym, ap, ◌∙◌, subst, ℕ, ◌<◌, Bool, true, false, if◌then◌else◌, List, [], ◌∷◌, ◌++◌, length, replicate, Option, Some, None}
use Rattle.std.specs.Prelude.{map, slice_set, option_map, unwrap_or}
use Rattle.std.specs.List.{All, flat_map}
use Rattle.std.specs.Option.{option_or, option_and_then}
use Rattle.std.specs.Str.{bytes_eq}
use Rattle.std.proofs.lemmas.List.{length-set, length-replicate}
use Rattle.std.proofs.lemmas.List.Elements.{All-head, All-tail}
use Rattle.qil_tree.specs.declared.ops.AbiType.{AbiType}
use Rattle.qil_tree.specs.declared.tree.Param.{Param}
use Rattle.qil_tree.specs.declared.tree.Func.{Func}
use Rattle.qil_tree.specs.declared.tree.Program.{Program}
use Rattle.qil_semantics.specs.State.{Name, Temps}
use Rattle.qil_semantics.specs.Names.{block_names, temps_named}
use Rattle.qil_semantics.specs.Slots.{slot_of, temps_of}
use Rattle.qil_semantics.specs.Temps.{with_temp, by_name, named, overlay}
use Rattle.qil_semantics.specs.Values.{fit, fit_all}
use Rattle.qil_semantics.specs.Calls.{shape_of}
use Rattle.qil_code.specs.declared.numbered.Slot.{Slot}
use Rattle.qil_code.specs.declared.numbered.NumberedArgument.{NumberedArgument}
use Rattle.qil_code.specs.declared.numbered.FuncCode.{FuncCode}
use Rattle.qil_code.specs.Slots.{name_at}
use Rattle.qil_code.specs.Named.{named_argument}
use Rattle.qil_code.specs.Numbered.{param_of, func_at, names_of}
use Rattle.qil_code.proofs.Has.{HasAll, HasAll-left, once-has, name-number}
use Rattle.qil_code.proofs.Ranged.{params-range}
use Rattle.qil_code.proofs.Readers.{IsCoded, params-there, returns-there, temps-there}
use Rattle.qil_state.specs.Values.{AreSlots, argument_values, shape_by}
use Rattle.qil_state.specs.Beginning.{begun_slots, passed_value, passed_values}
use Rattle.qil_state.proofs.Distinct.{names_distinct}
use Rattle.qil_state.proofs.Place.{names_here}
use Rattle.qil_state.proofs.Reading.{slot_written}

-- ---- values for slots are one overlay

laid_over : (b : Bool) (v : ℕ) (new old : Option ℕ) → option_or new (if b then Some v else old) ≡ option_or (option_or new (if b then Some v else None)) old
laid_over true v (Some a) old = refl
laid_over true v None old = refl
laid_over false v (Some a) old = refl
laid_over false v None old = refl

are_still : (ns : List Name) (xs : List (Option ℕ)) (i : ℕ) (v : Option ℕ) → AreSlots ns xs → AreSlots ns (slice_set xs i v)
are_still ns xs i v are = record { distinct = are.distinct; long = are.long ∙ sym (length-set xs i v) }

pub begun_overlay : (ns : List Name) (qs : List (Slot × AbiType)) (vs : List ℕ) (xs : List (Option ℕ)) (x : Name) → AreSlots ns xs → All (λ q. q.0.index < length xs) qs
    → temps_of ns (begun_slots qs vs xs) x ≡ overlay (named (map (λ q. name_at ns q.0.index) qs) (fit_all (map (λ q. q.1) qs) vs)) (temps_of ns xs) x
unfolding overlay by_name with_temp
begun_overlay ns [] vs xs x are h = refl
begun_overlay ns (q ∷ qs) [] xs x are h = refl
begun_overlay ns (q ∷ qs) (v ∷ vs) xs x are h =
    let w : ℕ = fit q.1 v in
    let ys : List (Option ℕ) = slice_set xs q.0.index (Some w) in
    let P : ℕ → Slot × AbiType → Type 0 = λ n r. r.0.index < n in
    let more : All (P (length ys)) qs = subst (λ n. All (P n) qs) (sym (length-set xs q.0.index (Some w))) (All-tail (P (length xs)) q qs h) in
    let new : Option ℕ = named (map (λ q. name_at ns q.0.index) qs) (fit_all (map (λ q. q.1) qs) vs) x in
    begun_overlay ns qs vs ys x (are_still ns xs q.0.index (Some w) are) more
    ∙ ap (λ (t : Temps). option_or new (t x)) (slot_written ns xs q.0.index (Some w) are (All-head (P (length xs)) q qs h))
    ∙ laid_over (bytes_eq (name_at ns q.0.index) x) w new (temps_of ns xs x)

pub length_begun : (qs : List (Slot × AbiType)) (vs : List ℕ) (xs : List (Option ℕ)) → length (begun_slots qs vs xs) ≡ length xs
length_begun [] vs xs = refl
length_begun (q ∷ qs) [] xs = refl
length_begun (q ∷ qs) (v ∷ vs) xs = length_begun qs vs (slice_set xs q.0.index (Some (fit q.1 v))) ∙ length-set xs q.0.index (Some (fit q.1 v))

same_both : (b : Bool) (o : Option ℕ) → (if b then o else o) ≡ o
same_both true o = refl
same_both false o = refl

none_set : (ns : List Name) (x : Name) → temps_of ns (replicate (length ns) None) x ≡ None
unfolding temps_of
none_set [] x = refl
none_set (n ∷ ns) x = ap (λ o. if bytes_eq n x then None else o) (none_set ns x) ∙ same_both (bytes_eq n x) None

or_none : (o : Option ℕ) → option_or o None ≡ o
or_none (Some x) = refl
or_none None = refl

laid_on_none : (new old : Temps) (x : Name) → old x ≡ None → overlay new old x ≡ new x
unfolding overlay
laid_on_none new old x h = ap (option_or (new x)) h ∙ or_none (new x)

-- ---- parameters

names_back : (ns : List Name) (qs : List Param) → HasAll ns (map (λ q. q.name) qs) → map (λ q. name_at ns q.0.index) (map (param_of ns) qs) ≡ map (λ q. q.name) qs
names_back ns [] h = refl
names_back ns (q ∷ qs) h = λ i. name-number ns q.name h.0 i ∷ names_back ns qs h.1 i

types_back : (ns : List Name) (qs : List Param) → map (λ q. q.1) (map (param_of ns) qs) ≡ map (λ q. q.abi_type) qs
types_back ns [] = refl
types_back ns (q ∷ qs) = ap (λ ts. q.abi_type ∷ ts) (types_back ns qs)

params_known : {A : Type 0} (func : Func A) → HasAll (temps_named func) (map (λ q. q.name) func.params)
params_known func = let params = map (λ q. q.name) func.params in let blocks = flat_map block_names func.blocks in HasAll-left (temps_named func) params blocks (once-has (params ++ blocks))

begun_func : {A : Type 0} (p : Program A) (i : ℕ) (func : Func A) (vs : List ℕ) → func_at p i ≡ Some func
    → named (map (λ q. q.name) func.params) (fit_all (map (λ q. q.abi_type) func.params) vs)
    ≡ temps_of (temps_named func) (begun_slots (map (param_of (temps_named func)) func.params) vs (replicate (length (temps_named func)) None))
begun_func {A} p i func vs ef =
    let ns : List Name = temps_named func in
    let xs : List (Option ℕ) = replicate (length ns) None in
    let qs : List (Slot × AbiType) = map (param_of ns) func.params in
    let long : length xs ≡ length ns = length-replicate (length ns) None in
    let apart : (j : ℕ) → j < length ns → slot_of ns (name_at ns j) ≡ Some j =
    subst (λ (l : List Name). (j : ℕ) → j < length l → slot_of l (name_at l j) ≡ Some j) (names_here p i func ef) (names_distinct p i) in
    let are : AreSlots ns xs = record { distinct = apart; long = sym long } in
    let below : All (λ q. q.0.index < length xs) qs = subst (λ n. All (λ q. q.0.index < n) qs) (sym long) (params-range ns func.params (params_known func)) in
    let over : (x : Name) → named (map (λ q. q.name) func.params) (fit_all (map (λ q. q.abi_type) func.params) vs) x ≡ temps_of ns (begun_slots qs vs xs) x =
    λ x. sym (begun_overlay ns qs vs xs x are below ∙ laid_on_none (named (map (λ q. name_at ns q.0.index) qs) (fit_all (map (λ q. q.1) qs) vs)) (temps_of ns xs) x (none_set ns x)
    ∙ (λ j. named (names_back ns func.params (params_known func) j) (fit_all (types_back ns func.params j) vs) x)) in
    λ j x. over x j

-- ---- the code of a function

-- the temporaries with which a call begins
pub begun_temps : {A : Type 0} (p : Program A) (i : ℕ) (k : FuncCode A) (vs : List ℕ) (code : IsCoded p i k)
    → named (map (λ q. q.name) code.func.params) (fit_all (map (λ q. q.abi_type) code.func.params) vs) ≡ temps_of (names_of p i) (begun_slots k.code.params vs (replicate (length k.temps) None))
begun_temps {A} p i k vs code =
    let func : Func A = code.func in
    let names : names_of p i ≡ temps_named func = names_here p i func code.there in
    let temps : k.temps ≡ temps_named func = temps-there p i k code ∙ names in
    let params : k.code.params ≡ map (param_of (temps_named func)) func.params = params-there p i k code ∙ there (func_at p i) func code.there in
    begun_func p i func vs code.there ∙ (λ j. temps_of (sym names j) (begun_slots (sym params j) vs (replicate (length (sym temps j)) None)))
  where
    there : {A : Type 0} (o : Option (Func A)) (func : Func A) → o ≡ Some func
        → unwrap_or (option_map (λ (f : Func A). map (param_of (temps_named f)) f.params) o) [] ≡ map (param_of (temps_named func)) func.params
    there {A} o func e = ap (λ (o : Option (Func A)). unwrap_or (option_map (λ (f : Func A). map (param_of (temps_named f)) f.params) o) []) e

-- a new frame has the slots of its function
pub begun_long : {A : Type 0} (p : Program A) (i : ℕ) (k : FuncCode A) (vs : List ℕ) → IsCoded p i k → length (names_of p i) ≡ length (begun_slots k.code.params vs (replicate (length k.temps) None))
begun_long p i k vs code =
    sym (length_begun k.code.params vs (replicate (length k.temps) None) ∙ length-replicate (length k.temps) None ∙ ap (λ ns. length ns) (temps-there p i k code))

-- the shape of a function, by its code
pub begun_shape : {A : Type 0} (p : Program A) (i : ℕ) (k : FuncCode A) (code : IsCoded p i k) → shape_by k.code.params k.code.returns ≡ shape_of code.func
begun_shape {A} p i k code =
    let func : Func A = code.func in
    let o : func_at p i ≡ Some func = code.there in
    let params : k.code.params ≡ map (param_of (temps_named func)) func.params =
    params-there p i k code ∙ ap (λ (o : Option (Func A)). unwrap_or (option_map (λ (f : Func A). map (param_of (temps_named f)) f.params) o) []) o in
    let types : map (λ q. q.1) k.code.params ≡ map (λ q. q.abi_type) func.params = ap (λ (qs : List (Slot × AbiType)). map (λ q. q.1) qs) params ∙ types_back (temps_named func) func.params in
    let returns : k.code.returns ≡ func.returns = returns-there p i k code ∙ ap (λ (o : Option (Func A)). option_and_then (λ (f : Func A). f.returns) o) o in
    λ j. record { params = types j; returns = returns j }

-- ---- arguments

-- what arguments pass is each value as its type has it
pub passed_fit : (ns : List Name) (slots : List (Option ℕ)) (args : List NumberedArgument) → fit_all (map (λ a. a.abi_type) (map (named_argument ns) args)) (argument_values slots args) ≡ passed_values slots args
passed_fit ns slots [] = refl
passed_fit ns slots (a ∷ args) = ap (λ vs. passed_value slots a ∷ vs) (passed_fit ns slots args)
