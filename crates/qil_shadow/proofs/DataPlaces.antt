-- The object of a name lies at its address; where one of the data alone begins there, it is that one.
use Rattle.std.proofs.Common.{◌≡◌, ◌∙◌, sym, ap, subst, refl, ℕ, zero, suc, ◌+◌, ◌*◌, ◌<◌, ◌≤◌, Bool, true, false, List, [], ◌∷◌, ◌++◌, length, map, slice_get, unwrap_or, Option, Some, None, arith}
use Rattle.std.specs.Prelude.{option_map, if◌then◌else◌, codes, nat_lt}
use Rattle.std.specs.Option.{option_or}
use Rattle.std.specs.Str.{bytes_eq}
use Rattle.qil_tree.specs.declared.tree.Data.{Data}
use Rattle.qil_tree.specs.declared.tree.Func.{Func}
use Rattle.qil_tree.specs.declared.tree.Program.{Program}
use Rattle.qil_symbols.specs.Numbers.{place_of}
use Rattle.qil_memory.specs.qil_layout.Layout.{data_base, data_limit, is_alignment, align_of, start_of, end_of, object_fault, fault_from, data_address, func_address, built_in_address, address_of}
use Rattle.qil_layout.proofs.BytesLemmas.{rounded_low, some_alignment, neither, unreported}
use Rattle.qil_semantics.specs.State.{Name}
use Rattle.qil_shadow.specs.declared.origin.ObjectId.{ObjectId}
use Rattle.qil_shadow.specs.Objects.{object_names, object_named}
use Rattle.qil_shadow.specs.Table.{IsOnlyAt}
use Rattle.qil_shadow.specs.ObjectNumbers.{data_starts, AreStarts}

-- ---- a name of the data

record IsPlaced (place : Option ℕ) (starts : List ℕ) (a : ℕ) : Type 0 where
  index : ℕ
  is : place ≡ Some index
  start : slice_get starts index ≡ Some a

place_step : (b : Bool) (start a : ℕ) (rest p : Option ℕ) (starts : List ℕ) → option_or (if b then Some start else None) rest ≡ Some a → (rest ≡ Some a → IsPlaced p starts a)
    → IsPlaced (if b then Some 0 else option_map (λ i. suc i) p) (start ∷ starts) a
place_step true start a rest p starts e later = record { index = 0; is = refl; start = e }
place_step false start a rest p starts e later = let r = later e in record { index = suc r.index; is = ap (option_map (λ i. suc i)) r.is; start = r.start }

data_place : {A : Type 0} (at : ℕ) (ds : List (Data A)) (x : Name) (a : ℕ) → data_address at ds x ≡ Some a → IsPlaced (place_of (map (λ (d : Data A). d.name) ds) x) (data_starts at ds) a
unfolding place_of
data_place {A} at [] x a e = absurd (cc)
data_place {A} at (d ∷ ds) x a e =
    place_step (bytes_eq d.name x) (start_of at d) a (data_address (end_of at d) ds x) (place_of (map (λ (d : Data A). d.name) ds) x) (data_starts (end_of at d) ds) e (data_place (end_of at d) ds x a)

front_step : (b : Bool) (p q : Option ℕ) (k : ℕ) → (if b then Some 0 else option_map (λ i. suc i) p) ≡ Some k → ((j : ℕ) → p ≡ Some j → q ≡ Some j)
    → (if b then Some 0 else option_map (λ i. suc i) q) ≡ Some k
front_step true p q k e later = e
front_step false None q k e later = absurd (cc)
front_step false (Some j) q k e later = ap (option_map (λ i. suc i)) (later j refl) ∙ e

place_front : (ns ms : List Name) (x : Name) (k : ℕ) → place_of ns x ≡ Some k → place_of (ns ++ ms) x ≡ Some k
unfolding place_of
place_front [] ms x k e = absurd (cc)
place_front (n ∷ ns) ms x k e = front_step (bytes_eq n x) (place_of ns x) (place_of (ns ++ ms) x) k e (place_front ns ms x)

-- ---- data lie high, functions low

pub start_high : {A : Type 0} (at : ℕ) (d : Data A) (ds : List (Data A)) → fault_from at (d ∷ ds) ≡ None → (at ≤ start_of at d) × (fault_from (end_of at d) ds ≡ None)
start_high at d ds none =
    let both = unreported d (object_fault at d) (fault_from (end_of at d) ds) none in
    let fits = neither (is_alignment (align_of d)) (nat_lt data_limit (end_of at d)) both.0 in
    (rounded_low (align_of d) at (some_alignment (align_of d) fits.0), both.1)

starts_high : {A : Type 0} (at : ℕ) (ds : List (Data A)) (i a : ℕ) → fault_from at ds ≡ None → slice_get (data_starts at ds) i ≡ Some a → at ≤ a
starts_high at [] i a none is = absurd (cc)
starts_high at (d ∷ ds) zero a none is = let high = (start_high at d ds none).0 in let same : start_of at d ≡ a = ap (λ o. unwrap_or o a) is in omega (arith, high, same)
starts_high at (d ∷ ds) (suc i) a none is =
    let parts = start_high at d ds none in
    let later = starts_high (end_of at d) ds i a parts.1 is in
    omega (arith, parts.0, later)

one_low : (b : Bool) (n a high : ℕ) (rest : Option ℕ) → n < high → option_or (if b then Some n else None) rest ≡ Some a → (rest ≡ Some a → a < high) → a < high
one_low true n a high rest low e later = let same : n ≡ a = ap (λ o. unwrap_or o a) e in omega (arith, same, low)
one_low false n a high rest low e later = later e

functions_low : {A : Type 0} (at : ℕ) (fs : List (Func A)) (x : Name) (a high : ℕ) → at + 16 * length fs ≤ high → func_address at fs x ≡ Some a → a < high
functions_low at [] x a high fits e = absurd (cc)
functions_low at (f ∷ fs) x a high fits e =
    one_low (bytes_eq f.name x) at a high (func_address (at + 16) fs x) (omega (arith, fits)) e (functions_low (at + 16) fs x a high (omega (arith, fits)))

last_low : (b : Bool) (n a high : ℕ) → n < high → (if b then Some n else None) ≡ Some a → a < high
last_low true n a high low e = let same : n ≡ a = ap (λ o. unwrap_or o a) e in omega (arith, same, low)
last_low false n a high low e = absurd (cc)

built_ins_low : (x : Name) (a : ℕ) → built_in_address x ≡ Some a → a < 65536
built_ins_low x a e =
    one_low (bytes_eq (codes "putchar") x) 1024 a 65536 _ (omega arith) e
    (λ f. one_low (bytes_eq (codes "puts") x) 1040 a 65536 _ (omega arith) f (last_low (bytes_eq (codes "exit") x) 1056 a 65536 (omega arith)))

or_low : (o p : Option ℕ) (a : ℕ) → (o ≡ Some a → a < 65536) → (p ≡ Some a → a < 65536) → option_or o p ≡ Some a → a < 65536
or_low None p a one other e = other e
or_low (Some b) p a one other e = one e

-- ---- the object of a name

by_data : {A : Type 0} (p : Program A) (x : Name) (a i : ℕ) (o : Option ℕ) → AreStarts p (data_starts data_base p.datas) → IsOnlyAt a i (data_starts data_base p.datas)
    → data_address data_base p.datas x ≡ o → option_or o (option_or (func_address 4096 p.funcs x) (built_in_address x)) ≡ Some a → place_of (object_names p) x ≡ Some i
by_data {A} p x a i (Some b) are only is e =
    let r = data_place data_base p.datas x a (is ∙ e) in
    let same : r.index ≡ i = only.1 r.index r.start in
    place_front (map (λ (d : Data A). d.name) p.datas) _ x r.index r.is ∙ ap (λ k. Some k) same
by_data {A} p x a i None are only is e =
    let high : data_base ≤ a = starts_high data_base p.datas i a are.no_fault only.0 in
    let low : a < 65536 = or_low (func_address 4096 p.funcs x) (built_in_address x) a (functions_low 4096 p.funcs x a 65536 (omega (arith, are.few))) (built_ins_low x a) e in
    absurd (omega (arith, high, low))

pub only_object : {A : Type 0} (p : Program A) (x : Name) (a : ℕ) (o : ObjectId) (starts : List ℕ) → AreStarts p starts → address_of p x ≡ Some a → IsOnlyAt a o.index starts
    → o ≡ object_named p x
only_object p x a o starts are is only =
    let own : AreStarts p (data_starts data_base p.datas) = record { no_fault = are.no_fault; few = are.few; starts_are = refl } in
    let place = by_data p x a o.index (data_address data_base p.datas x) own (subst (IsOnlyAt a o.index) are.starts_are only) refl is in
    λ k. record { index = unwrap_or (sym place k) 0 }
