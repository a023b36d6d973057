-- The objects that there are at the start of a run, one after the other.
use Rattle.std.proofs.Common.{◌≡◌, ◌∙◌, sym, ap, subst, refl, ℕ, zero, suc, ◌+◌, ◌-◌, ◌*◌, ◌<◌, ◌≤◌, List, [], ◌∷◌, ◌++◌, length, map, drop, slice_get, unwrap_or, Option, Some, None, length-append, append_assoc, arith}
use Rattle.std.specs.Prelude.{replicate, flat_map}
use Rattle.std.proofs.lemmas.List.{map-append, drop_all, append-nil}
use Rattle.std.proofs.lemmas.Option.{slice_get-get_or}
use Rattle.qil_tree.specs.declared.tree.Data.{Data}
use Rattle.qil_tree.specs.declared.tree.Func.{Func}
use Rattle.qil_tree.specs.declared.tree.Param.{Param}
use Rattle.qil_tree.specs.declared.tree.Program.{Program}
use Rattle.qil_memory.specs.qil_layout.Layout.{data_base, data_limit, start_of, end_of, size_of, object_fault, fault_from, fault_of}
use Rattle.qil_layout.proofs.BytesLemmas.{unreported}
use Rattle.qil_semantics.specs.State.{Name}
use Rattle.qil_code.specs.Numbered.{func_at}
use Rattle.qil_shadow.specs.declared.origin.ObjectId.{ObjectId}
use Rattle.qil_shadow.specs.declared.origin.ByteOrigin.{ByteOrigin}
use Rattle.qil_shadow.specs.declared.origin.ByteOrigin.TheVariants as bytes
use Rattle.qil_shadow.specs.declared.object.BuiltIn.TheVariants as built_ins
use Rattle.qil_shadow.specs.declared.object.ObjectKind.TheVariants as kinds
use Rattle.qil_shadow.specs.declared.object.Object.{Object}
use Rattle.qil_shadow.specs.Objects as by_names
use Rattle.qil_shadow.specs.Objects.{data_objects, function_objects, built_in_objects}
use Rattle.qil_shadow.specs.Bytes.{ByteOrigins, laid_origins}
use Rattle.qil_shadow.specs.Shadow.{none_set, with_origins, all_numbers, field_origins, data_origins_from, given, shadow_at_start}
use Rattle.qil_shadow.specs.Spots.{MemoryWords, origins_in}
use Rattle.qil_shadow.specs.Table.{ObjectTable, no_objects, with_data, with_fixed}
use Rattle.qil_shadow.specs.ObjectNumbers.{data_starts}
use Rattle.qil_shadow.specs.Numbered.{data_name, function_name, object_named, frames_by, shadow_by}
use Rattle.qil_memory.specs.Buffers.{stack_base}
use Rattle.qil_shadow.specs.Stack.{CallShadow}
use Rattle.qil_shadow.specs.Calls.{LiveCalls}
use Rattle.qil_shadow.specs.Starting.{fixed, HasNoted}
use Rattle.qil_shadow.proofs.WordLemmas.{laid_none}
use Rattle.qil_shadow.proofs.ParamLemmas.{drop_one}
use Rattle.qil_shadow.proofs.StartLemmas.{HasRest, rest_first, rest_step, rest_done, IsLaid, is_laid, one_behind, none_behind}

-- ---- the data

pub first_fault : {A : Type 0} (at : ℕ) (rest ds : List (Data A)) (d : Data A) → rest ≡ d ∷ ds → fault_from at rest ≡ None → (object_fault at d ≡ None) × (fault_from (end_of at d) ds ≡ None)
first_fault at rest ds d left none = unreported d (object_fault at d) (fault_from (end_of at d) ds) (ap (fault_from at) (sym left) ∙ none)

-- so many are noted
pub record AreNoted {A : Type 0} (O : Name → ObjectId) (datas rest : List (Data A)) (number at : ℕ) (t : ObjectTable) (m : ByteOrigins) : Type 0 where
  pub low : data_base ≤ at
  pub high : at ≤ data_limit
  pub laid : fault_from at rest ≡ None
  pub rest_is : rest ≡ drop number datas
  pub fixed_are : t.fixed ≡ length t.objects
  pub starts_are : t.starts ++ data_starts at rest ≡ data_starts data_base datas
  pub named : (p : Program A) → p.datas ≡ datas → map (object_named p) t.objects ++ data_objects at rest ≡ data_objects data_base datas
  pub bytes_are : HasRest (data_origins_from O data_base datas) (data_origins_from O at rest) at m

pub noted_none : {A : Type 0} (O : Name → ObjectId) (datas : List (Data A)) (t : ObjectTable) (m : ByteOrigins) → fault_from data_base datas ≡ None → t ≡ no_objects → m ≡ all_numbers
    → AreNoted O datas datas 0 data_base t m
noted_none O datas t m laid none fresh = record {
  low = omega arith;
  high = omega arith;
  laid = laid;
  rest_is = refl;
  fixed_are = subst (λ (t : ObjectTable). t.fixed ≡ length t.objects) (sym none) refl;
  starts_are = subst (λ (t : ObjectTable). t.starts ++ data_starts data_base datas ≡ data_starts data_base datas) (sym none) refl;
  named = λ p same. subst (λ (t : ObjectTable). map (object_named p) t.objects ++ data_objects data_base datas ≡ data_objects data_base datas) (sym none) refl;
  bytes_are = rest_first [] (data_origins_from O data_base datas) data_base m (record { up_to = omega arith; bytes_are = fresh ∙ sym (laid_none all_numbers data_base) });
}

named_there : {A : Type 0} (p : Program A) (datas ds : List (Data A)) (i at n : ℕ) (d : Data A) → p.datas ≡ datas → drop i datas ≡ d ∷ ds → object_named p (fixed (kinds.Data i) at n) ≡ by_names.fixed (by_names.of_data d.name) at n
named_there {A} p datas ds i at n d same left =
    let here : slice_get p.datas i ≡ Some d = (λ j. slice_get (same j) i) ∙ first_of datas i left in
    ap (λ (o : Option (Data A)). by_names.fixed (by_names.of_data (data_name o)) at n) here
  where
    first_of : (xs : List (Data A)) (k : ℕ) → drop k xs ≡ d ∷ ds → slice_get xs k ≡ Some d
    first_of [] zero e = absurd cc
    first_of [] (suc k) e = absurd cc
    first_of (x ∷ xs) zero e = ap (λ ys. slice_get ys 0) e
    first_of (x ∷ xs) (suc k) e = first_of xs k e

pub noted_one : {A : Type 0} (O : Name → ObjectId) (datas rest ds : List (Data A)) (i number at end : ℕ) (d : Data A) (t now : ObjectTable) (m after : ByteOrigins) → rest ≡ d ∷ ds → ds ≡ drop (i + 1) datas → number ≡ i
    → now ≡ with_data t (fixed (kinds.Data number) (start_of at d) (size_of d)) → (end ≡ end_of at d) × (end ≤ data_limit)
    → ((bs : List ByteOrigin) → HasNoted bs at m → HasNoted (bs ++ (replicate (start_of at d - at) bytes.Number ++ flat_map (field_origins O) d.fields)) end after)
    → AreNoted O datas rest i at t m → AreNoted O datas ds (i + 1) end now after
noted_one {A} O datas rest ds i number at end d t now m after left more count made ends noted are =
    let faults = first_fault at rest ds d left are.laid in
    let lies : IsLaid at d = is_laid at d faults.0 in
    let o : Object = fixed (kinds.Data number) (start_of at d) (size_of d) in
    let gap = replicate (start_of at d - at) bytes.Number in
    let own = flat_map (field_origins O) d.fields in
    record {
      low = omega (arith, are.low, lies.low, ends.0);
      high = ends.1;
      laid = ap (λ e. fault_from e ds) ends.0 ∙ faults.1;
      rest_is = more;
      fixed_are = subst (λ (t : ObjectTable). t.fixed ≡ length t.objects) (sym made) (omega (arith, are.fixed_are, length-append t.objects (o ∷ [])));
      starts_are = subst (λ (u : ObjectTable). u.starts ++ data_starts end ds ≡ data_starts data_base datas) (sym made)
          (one_behind t.starts (data_starts at rest) (data_starts data_base datas) (data_starts end ds) (start_of at d)
          (ap (data_starts at) left ∙ (λ j. start_of at d ∷ data_starts (sym ends.0 j) ds)) are.starts_are);
      named = λ p same.
          let one : object_named p o ≡ by_names.fixed (by_names.of_data d.name) (start_of at d) (size_of d) =
          (λ j. object_named p (fixed (kinds.Data (count j)) (start_of at d) (size_of d))) ∙ named_there p datas ds i (start_of at d) (size_of d) d same (sym are.rest_is ∙ left) in
          subst (λ (u : ObjectTable). map (object_named p) u.objects ++ data_objects end ds ≡ data_objects data_base datas) (sym made)
          (ap (λ os. os ++ data_objects end ds) (map-append (object_named p) t.objects (o ∷ []))
          ∙ one_behind (map (object_named p) t.objects) (data_objects at rest) (data_objects data_base datas) (data_objects end ds) (object_named p o)
          (ap (data_objects at) left ∙ (λ j. sym one j ∷ data_objects (sym ends.0 j) ds)) (are.named p same));
      bytes_are = rest_step (data_origins_from O data_base datas) (data_origins_from O at rest) (gap ++ own) (data_origins_from O end ds) at end m after
          (ap (data_origins_from O at) left ∙ sym (append_assoc gap own (data_origins_from O (end_of at d) ds)) ∙ (λ j. (gap ++ own) ++ data_origins_from O (sym ends.0 j) ds)) noted are.bytes_are;
    }

pub record AreAllNoted {A : Type 0} (O : Name → ObjectId) (datas : List (Data A)) (t : ObjectTable) (m : ByteOrigins) : Type 0 where
  pub starts_are : t.starts ≡ data_starts data_base datas
  pub named : (p : Program A) → p.datas ≡ datas → map (object_named p) t.objects ≡ data_objects data_base datas
  pub bytes_are : m ≡ laid_origins all_numbers data_base (data_origins_from O data_base datas)

pub noted_all : {A : Type 0} (O : Name → ObjectId) (datas rest : List (Data A)) (i at : ℕ) (t : ObjectTable) (m : ByteOrigins) → rest ≡ [] → AreNoted O datas rest i at t m → AreAllNoted O datas t m
noted_all O datas rest i at t m none are = record {
  starts_are = none_behind t.starts (data_starts at rest) (data_starts data_base datas) (ap (data_starts at) none) are.starts_are;
  named = λ p same. none_behind (map (object_named p) t.objects) (data_objects at rest) (data_objects data_base datas) (ap (data_objects at) none) (are.named p same);
  bytes_are = (rest_done (data_origins_from O data_base datas) (data_origins_from O at rest) at m (ap (data_origins_from O at) none) are.bytes_are).bytes_are;
}

-- ---- the functions

get_here : {X : Type 0} (xs : List X) (i : ℕ) → i < length xs → (x : X) × (slice_get xs i ≡ Some x)
get_here [] i below = absurd (omega (arith, below))
get_here (x ∷ xs) zero below = (x, refl)
get_here (x ∷ xs) (suc i) below = get_here xs i (omega (arith, below))

pub named_function : {A : Type 0} (p : Program A) (i n at : ℕ) (was t now : ObjectTable) → i < length p.funcs → n ≡ i → at ≡ 4096 + 16 * i → now ≡ with_fixed t (fixed (kinds.Func (record { index = n })) at 0)
    → map (object_named p) t.objects ++ function_objects (4096 + 16 * i) (drop i p.funcs) ≡ map (object_named p) was.objects ++ function_objects 4096 p.funcs
    → map (object_named p) now.objects ++ function_objects (4096 + 16 * (i + 1)) (drop (i + 1) p.funcs) ≡ map (object_named p) was.objects ++ function_objects 4096 p.funcs
named_function {A} p i n at was t now below number place made so_far =
    let f = get_here p.funcs i below in
    let left = drop_one p.funcs i f.0 f.1 in
    let o : Object = fixed (kinds.Func (record { index = n })) at 0 in
    let all = map (object_named p) was.objects ++ function_objects 4096 p.funcs in
    let next : 4096 + 16 * i + 16 ≡ 4096 + 16 * (i + 1) = omega arith in
    let one : object_named p o ≡ by_names.fixed (by_names.of_function f.0.name) (4096 + 16 * i) 0 =
    (λ j. by_names.fixed (by_names.of_function (function_name (func_at p (number j)))) (place j) 0) ∙ ap (λ (q : Option (Func A)). by_names.fixed (by_names.of_function (function_name q)) (4096 + 16 * i) 0) f.1 in
    subst (λ (u : ObjectTable). map (object_named p) u.objects ++ function_objects (4096 + 16 * (i + 1)) (drop (i + 1) p.funcs) ≡ all) (sym made)
    (ap (λ os. os ++ function_objects (4096 + 16 * (i + 1)) (drop (i + 1) p.funcs)) (map-append (object_named p) t.objects (o ∷ []))
    ∙ one_behind (map (object_named p) t.objects) (function_objects (4096 + 16 * i) (drop i p.funcs)) all (function_objects (4096 + 16 * (i + 1)) (drop (i + 1) p.funcs)) (object_named p o)
    (ap (function_objects (4096 + 16 * i)) left ∙ (λ j. sym one j ∷ function_objects (next j) (drop (i + 1) p.funcs))) so_far)

pub fixed_more : (t now : ObjectTable) (o : Object) → now ≡ with_fixed t o → t.fixed ≡ length t.objects → now.fixed ≡ length now.objects
fixed_more t now o made are = subst (λ (t : ObjectTable). t.fixed ≡ length t.objects) (sym made) (omega (arith, are, length-append t.objects (o ∷ [])))

pub same_starts : (t now : ObjectTable) (o : Object) → now ≡ with_fixed t o → now.starts ≡ t.starts
same_starts t now o made = ap (λ (t : ObjectTable). t.starts) made

-- and those that every program has
pub three_more : {A : Type 0} (p : Program A) (t one two three : ObjectTable) (a b c : Object) → a ≡ fixed (kinds.BuiltIn built_ins.PutChar) 1024 0 → b ≡ fixed (kinds.BuiltIn built_ins.Puts) 1040 0
    → c ≡ fixed (kinds.BuiltIn built_ins.Exit) 1056 0 → one ≡ with_fixed t a → two ≡ with_fixed one b → three ≡ with_fixed two c
    → map (object_named p) three.objects ≡ map (object_named p) t.objects ++ built_in_objects
three_more {A} p t one two three a b c is_put is_puts is_exit first second third =
    let put : Object = fixed (kinds.BuiltIn built_ins.PutChar) 1024 0 in
    let puts : Object = fixed (kinds.BuiltIn built_ins.Puts) 1040 0 in
    let exit : Object = fixed (kinds.BuiltIn built_ins.Exit) 1056 0 in
    let all : three.objects ≡ ((t.objects ++ put ∷ []) ++ puts ∷ []) ++ exit ∷ [] =
    ap (λ (u : ObjectTable). u.objects) third
    ∙ (λ i. (second i).objects ++ is_exit i ∷ [])
    ∙ (λ i. ((first i).objects ++ is_puts i ∷ []) ++ exit ∷ [])
    ∙ (λ i. ((t.objects ++ is_put i ∷ []) ++ puts ∷ []) ++ exit ∷ []) in
    let joined : ((t.objects ++ put ∷ []) ++ puts ∷ []) ++ exit ∷ [] ≡ t.objects ++ (put ∷ puts ∷ exit ∷ []) =
    append_assoc (t.objects ++ put ∷ []) (puts ∷ []) (exit ∷ []) ∙ append_assoc t.objects (put ∷ []) (puts ∷ exit ∷ []) in
    ap (map (object_named p)) (all ∙ joined) ∙ map-append (object_named p) t.objects (put ∷ puts ∷ exit ∷ [])

pub all_functions : {A : Type 0} (p : Program A) (i : ℕ) (was t now : ObjectTable) → length p.funcs ≤ i → map (object_named p) now.objects ≡ map (object_named p) t.objects ++ built_in_objects
    → map (object_named p) t.objects ++ function_objects (4096 + 16 * i) (drop i p.funcs) ≡ map (object_named p) was.objects ++ function_objects 4096 p.funcs
    → map (object_named p) now.objects ≡ map (object_named p) was.objects ++ (function_objects 4096 p.funcs ++ built_in_objects)
all_functions {A} p i was t now done three so_far =
    let so : map (object_named p) t.objects ≡ map (object_named p) was.objects ++ function_objects 4096 p.funcs =
    none_behind (map (object_named p) t.objects) (function_objects (4096 + 16 * i) (drop i p.funcs)) (map (object_named p) was.objects ++ function_objects 4096 p.funcs) (ap (function_objects (4096 + 16 * i)) (drop_all i p.funcs done)) so_far in
    three ∙ ap (λ os. os ++ built_in_objects) so ∙ append_assoc (map (object_named p) was.objects) (function_objects 4096 p.funcs) built_in_objects

-- ---- the whole shadow

pub start_is : {A : Type 0} (p names : Program A) (f : Func A) (fi count : ℕ) (cs : List CallShadow) (m : MemoryWords) (first all : ObjectTable) (datas : List (Data A))
    → frames_by p (fi ∷ []) cs ≡ with_origins none_set (map (λ (q : Param). (q.name, given q.abi_type)) f.params) ∷ []
    → ((q : Program A) → q.datas ≡ datas → map (object_named q) first.objects ≡ data_objects data_base datas)
    → ((q : Program A) → length q.funcs ≡ count → map (object_named q) all.objects ≡ map (object_named q) first.objects ++ (function_objects 4096 q.funcs ++ built_in_objects))
    → origins_in m ≡ laid_origins all_numbers data_base (data_origins_from (by_names.object_named names) data_base datas)
    → names ≡ p → datas ≡ p.datas → count ≡ length p.funcs → shadow_by p (fi ∷ []) cs m all.objects 0 ≡ shadow_at_start p f
start_is {A} p names f fi count cs m first all datas frames objects functions noted same datas_are many =
    let bytes : origins_in m ≡ laid_origins all_numbers data_base (data_origins_from (by_names.object_named p) data_base p.datas) =
    noted ∙ (λ j. laid_origins all_numbers data_base (data_origins_from (by_names.object_named (same j)) data_base (datas_are j))) in
    let named : map (object_named p) all.objects ≡ data_objects data_base p.datas ++ (function_objects 4096 p.funcs ++ built_in_objects) =
    functions p (sym many) ∙ ap (λ os. os ++ (function_objects 4096 p.funcs ++ built_in_objects)) (objects p (sym datas_are) ∙ ap (data_objects data_base) datas_are) in
    λ i. record { frames = frames i; bytes = bytes i; objects = named i; position = 0 }

pub laid_datas : {A : Type 0} (p image : Program A) (datas : List (Data A)) → image ≡ p → datas ≡ p.datas → fault_of image ≡ None → fault_from data_base datas ≡ None
laid_datas {A} p image datas whole datas_are laid = ap (fault_from data_base) datas_are ∙ ap (λ (q : Program A). fault_of q) (sym whole) ∙ laid

-- with calls that were made of both
pub started : {A : Type 0} (p names : Program A) (f : Func A) (fi count : ℕ) (calls : LiveCalls) (cs : List CallShadow) (m : MemoryWords) (first all : ObjectTable) (datas : List (Data A))
    → calls ≡ record { calls = cs; objects = all; top = stack_base }
    → frames_by p (fi ∷ []) cs ≡ with_origins none_set (map (λ (q : Param). (q.name, given q.abi_type)) f.params) ∷ []
    → ((q : Program A) → q.datas ≡ datas → map (object_named q) first.objects ≡ data_objects data_base datas)
    → ((q : Program A) → length q.funcs ≡ count → map (object_named q) all.objects ≡ map (object_named q) first.objects ++ (function_objects 4096 q.funcs ++ built_in_objects))
    → origins_in m ≡ laid_origins all_numbers data_base (data_origins_from (by_names.object_named names) data_base datas)
    → names ≡ p → datas ≡ p.datas → count ≡ length p.funcs → shadow_by p (fi ∷ []) calls.calls m calls.objects.objects 0 ≡ shadow_at_start p f
started {A} p names f fi count calls cs m first all datas made frames objects functions noted same datas_are many =
    (λ i. shadow_by p (fi ∷ []) (made i).calls m (made i).objects.objects 0) ∙ start_is p names f fi count cs m first all datas frames objects functions noted same datas_are many
