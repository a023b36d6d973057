-- What an operand is made of by its number is what the one of the tree is made of.
use Rattle.std.proofs.Common.{◌≡◌, ◌∙◌, sym, ap, subst, refl, ℕ, zero, suc, ◌+◌, ◌<◌, ◌≤◌, Bool, true, false, List, [], ◌∷◌, length, get_or, Option, Some, None, unwrap_or, if◌then◌else◌, arith}
use Rattle.std.specs.Prelude.{IsSome, codes, slice_get}
use Rattle.std.specs.Option.{option_or}
use Rattle.std.specs.Str.{bytes_eq}
use Rattle.std.proofs.lemmas.Bool.{false≢true}
use Rattle.qil_tree.specs.declared.ops.Class.{Class}
use Rattle.qil_tree.specs.declared.ops.Class.TheVariants as classes
use Rattle.qil_tree.specs.declared.tree.Operand.{Operand}
use Rattle.qil_tree.specs.declared.tree.Operand.TheVariants as operands
use Rattle.qil_tree.specs.declared.tree.Block.{Block}
use Rattle.qil_tree.specs.declared.tree.Data.{Data}
use Rattle.qil_tree.specs.declared.tree.Func.{Func}
use Rattle.qil_tree.specs.declared.tree.Program.{Program}
use Rattle.qil_symbols.specs.Numbers.{place_of}
use Rattle.qil_memory.specs.qil_layout.Layout.{data_base, start_of, end_of, fault_of, fault_from, data_address, func_address, built_in_address, address_of}
use Rattle.qil_semantics.specs.State.{Name}
use Rattle.qil_code.specs.declared.numbered.Slot.{Slot}
use Rattle.qil_code.specs.declared.numbered.NumberedOperand.{NumberedOperand}
use Rattle.qil_code.specs.declared.numbered.NumberedOperand.TheVariants as numbered
use Rattle.qil_code.specs.Slots.{number_in}
use Rattle.qil_code.specs.Numbered.{block_at, names_of, operand_of}
use Rattle.qil_code.proofs.Has.{Has, has-among}
use Rattle.qil_shadow.specs.declared.origin.ObjectId.{ObjectId}
use Rattle.qil_shadow.specs.declared.origin.Origin.{Origin}
use Rattle.qil_shadow.specs.declared.origin.Origin.TheVariants as origins
use Rattle.qil_shadow.specs.declared.constants.Reading.{Reading}
use Rattle.qil_shadow.specs.declared.suspicion.Place.{Place}
use Rattle.qil_shadow.specs.Origins.{in_class}
use Rattle.qil_shadow.specs.Objects.{object_named}
use Rattle.qil_shadow.specs.Shadow.{Origins, none_set}
use Rattle.qil_shadow.specs.Shadowed.{operand_origin}
use Rattle.qil_shadow.specs.Numbered.{origins_by}
use Rattle.qil_shadow.specs.Stack.{CallShadow, held_origin}
use Rattle.qil_shadow.specs.ObjectNumbers.{AreStarts}
use Rattle.qil_shadow.specs.Starting.{IsOf}
use Rattle.qil_shadow.specs.Phis.{phi_read}
use Rattle.qil_shadow.specs.Reads.{operand_at, operand_there, read_at, HasValue, IsFor, IsRead, innermost, HasSlots}
use Rattle.qil_shadow.proofs.DataPlaces.{start_high}
use Rattle.qil_shadow.proofs.ByNameLemmas.{slot_by_name}
use Rattle.qil_shadow.proofs.ParamLemmas.{has_slot}

-- ---- no name has a low address

named_high : (b : Bool) (n a least : ℕ) (rest : Option ℕ) → least ≤ n → option_or (if b then Some n else None) rest ≡ Some a → (rest ≡ Some a → least ≤ a) → least ≤ a
named_high true n a least rest high e later = let same : n ≡ a = ap (λ o. unwrap_or o a) e in omega (arith, same, high)
named_high false n a least rest high e later = later e

data_high : {A : Type 0} (at : ℕ) (ds : List (Data A)) (x : Name) (a : ℕ) → fault_from at ds ≡ None → data_address at ds x ≡ Some a → at ≤ a
data_high at [] x a none e = absurd cc
data_high at (d ∷ ds) x a none e =
    let parts = start_high at d ds none in
    named_high (bytes_eq d.name x) (start_of at d) a at (data_address (end_of at d) ds x) parts.0 e
    (λ f. let later : end_of at d ≤ a = data_high (end_of at d) ds x a parts.1 f in omega (arith, parts.0, later))

functions_high : {A : Type 0} (at : ℕ) (fs : List (Func A)) (x : Name) (a : ℕ) → func_address at fs x ≡ Some a → at ≤ a
functions_high at [] x a e = absurd cc
functions_high at (f ∷ fs) x a e =
    named_high (bytes_eq f.name x) at a at (func_address (at + 16) fs x) (omega arith) e (λ g. let later : at + 16 ≤ a = functions_high (at + 16) fs x a g in omega (arith, later))

last_high : (b : Bool) (n a : ℕ) → 1024 ≤ n → (if b then Some n else None) ≡ Some a → 1024 ≤ a
last_high true n a high e = let same : n ≡ a = ap (λ o. unwrap_or o a) e in omega (arith, same, high)
last_high false n a high e = absurd cc

built_ins_high : (x : Name) (a : ℕ) → built_in_address x ≡ Some a → 1024 ≤ a
built_ins_high x a e =
    named_high (bytes_eq (codes "putchar") x) 1024 a 1024 _ (omega arith) e
    (λ f. named_high (bytes_eq (codes "puts") x) 1040 a 1024 _ (omega arith) f (last_high (bytes_eq (codes "exit") x) 1056 a (omega arith)))

or_high : (o p : Option ℕ) (a : ℕ) → (o ≡ Some a → 1024 ≤ a) → (p ≡ Some a → 1024 ≤ a) → option_or o p ≡ Some a → 1024 ≤ a
or_high None p a one other e = other e
or_high (Some b) p a one other e = one e

pub address_high : {A : Type 0} (p : Program A) (x : Name) (a : ℕ) → fault_of p ≡ None → address_of p x ≡ Some a → 1024 ≤ a
address_high p x a none e =
    or_high (data_address data_base p.datas x) (option_or (func_address 4096 p.funcs x) (built_in_address x)) a
    (λ f. let high : data_base ≤ a = data_high data_base p.datas x a none f in omega (arith, high))
    (or_high (func_address 4096 p.funcs x) (built_in_address x) a (λ f. let high : 4096 ≤ a = functions_high 4096 p.funcs x a f in omega (arith, high)) (built_ins_high x a)) e

-- ---- by number

abbrev constant_in : NumberedOperand → ℕ
constant_in (numbered.Constant v) = v
constant_in (numbered.Slot s) = 0

abbrev slot_of : NumberedOperand → ℕ
slot_of (numbered.Constant v) = 0
slot_of (numbered.Slot s) = s.index

unwrapped : (o : Option ℕ) (v : ℕ) → IsSome o → v ≡ unwrap_or o 0 → o ≡ Some v
unwrapped None v some e = absurd (false≢true some)
unwrapped (Some a) v some e = ap (λ i. Some i) (sym e)

held_is : {A : Type 0} (p : Program A) (f : ℕ) (cs : List CallShadow) (s : Slot) (x : Name) → HasSlots p f cs → Has (names_of p f) x → s.index ≡ number_in (names_of p f) x
    → held_origin cs s ≡ innermost p f cs x
held_is p f [] s x slots has is = absurd slots
held_is p f (c ∷ cs) s x slots has is = slot_by_name (names_of p f) c.origins x s.index slots (has_slot (names_of p f) x has ∙ ap (λ i. Some i) (sym is))

pub slot_origin : {A : Type 0} (p : Program A) (f : ℕ) (cs : List CallShadow) (s : Slot) (c : Class) (a : Operand) → HasSlots p f cs → IsFor p (names_of p f) a (numbered.Slot s)
    → in_class c (held_origin cs s) ≡ operand_origin p (innermost p f cs) c a
slot_origin p f cs s c (operands.Number n) slots is = absurd (let e = is.number in cc)
slot_origin p f cs s c (operands.Global g) slots is = absurd (let e = is.number in cc)
slot_origin p f cs s c (operands.Temp x) slots is =
    ap (in_class c) (held_is p f cs s x slots (has-among (names_of p f) x is.known.0 is.known.1) (ap slot_of is.number))

pub low_origin : {A : Type 0} (p : Program A) (ns : List Name) (t : Origins) (v : ℕ) (c : Class) (a : Operand) → fault_of p ≡ None → v < 1024 → IsFor p ns a (numbered.Constant v)
    → origins.Number ≡ operand_origin p t c a
low_origin p ns t v c (operands.Number n) none low is = refl
low_origin p ns t v c (operands.Global g) none low is =
    let high : 1024 ≤ v = address_high p g v none (unwrapped (address_of p g) v is.known (ap constant_in is.number)) in
    absurd (omega (arith, low, high))
low_origin p ns t v c (operands.Temp x) none low is = absurd (let e = is.number in cc)

-- one that can be an address
pub value_is : {A : Type 0} (p : Program A) (ns : List Name) (v : ℕ) (a : Operand) → IsFor p ns a (numbered.Constant v) → HasValue p a v
value_is p ns v (operands.Number n) is = tt
value_is p ns v (operands.Global g) is = unwrapped (address_of p g) v is.known (ap constant_in is.number)
value_is p ns v (operands.Temp x) is = tt

pub constant_origin : {A : Type 0} (p : Program A) (ns : List Name) (t : Origins) (v : ℕ) (c : Class) (a : Operand) → IsFor p ns a (numbered.Constant v)
    → operand_origin p none_set c a ≡ operand_origin p t c a
constant_origin p ns t v c (operands.Number n) is = refl
constant_origin p ns t v c (operands.Global g) is = refl
constant_origin p ns t v c (operands.Temp x) is = absurd (let e = is.number in cc)

-- ---- as the code has it

pub read_slot : {A : Type 0} (p : Program A) (place : Place) (r : Reading) (cs : List CallShadow) (s : Slot) (c : Class) (a : Operand) (operand : NumberedOperand) → operand ≡ numbered.Slot s
    → HasSlots p place.func.index cs → IsRead p place r a operand → in_class c (held_origin cs s) ≡ operand_origin p (innermost p place.func.index cs) c a
read_slot p place r cs s c a operand e slots is = slot_origin p place.func.index cs s c a slots (subst (IsFor p (names_of p place.func.index) a) e is.is_for)

pub read_low : {A : Type 0} (p names : Program A) (starts : List ℕ) (data_end : ℕ) (place : Place) (r : Reading) (cs : List CallShadow) (v : ℕ) (c : Class) (a : Operand) (operand : NumberedOperand)
    → operand ≡ numbered.Constant v → v < 1024 → IsOf p names starts data_end → IsRead p place r a operand → origins.Number ≡ operand_origin p (innermost p place.func.index cs) c a
read_low p names starts data_end place r cs v c a operand e low own is =
    low_origin p (names_of p place.func.index) (innermost p place.func.index cs) v c a own.starts_are.no_fault low (subst (IsFor p (names_of p place.func.index) a) e is.is_for)

pub read_value : {A : Type 0} (p : Program A) (place : Place) (r : Reading) (v : ℕ) (a : Operand) (operand : NumberedOperand) → operand ≡ numbered.Constant v → IsRead p place r a operand → HasValue p a v
read_value p place r v a operand e is = value_is p (names_of p place.func.index) v a (subst (IsFor p (names_of p place.func.index) a) e is.is_for)

pub read_constant : {A : Type 0} (p : Program A) (place : Place) (r : Reading) (cs : List CallShadow) (v : ℕ) (c : Class) (a : Operand) (operand : NumberedOperand) (found : Origin) → operand ≡ numbered.Constant v
    → IsRead p place r a operand → found ≡ operand_origin p none_set c a → found ≡ operand_origin p (innermost p place.func.index cs) c a
read_constant p place r cs v c a operand found e is at =
    at ∙ constant_origin p (names_of p place.func.index) (innermost p place.func.index cs) v c a (subst (IsFor p (names_of p place.func.index) a) e is.is_for)

-- ---- what is written there

number_in_class : (c : Class) → origins.Number ≡ in_class c origins.Number
number_in_class classes.W = refl
number_in_class classes.L = refl

pub written_number : {A : Type 0} (p : Program A) (c : Class) (written : Operand) (n : ℕ) → written ≡ operands.Number n → origins.Number ≡ operand_origin p none_set c written
written_number p c written n is = ap (operand_origin p none_set c) (sym is)

pub written_temp : {A : Type 0} (p : Program A) (c : Class) (written : Operand) (x : Name) → written ≡ operands.Temp x → origins.Number ≡ operand_origin p none_set c written
written_temp p c written x is = number_in_class c ∙ ap (operand_origin p none_set c) (sym is)

pub written_global : {A : Type 0} (p : Program A) (c : Class) (written : Operand) (g name : Name) (v : ℕ) (o : ObjectId) (found : Origin) → written ≡ operands.Global g → name ≡ g
    → (address_of p name ≡ Some v → o ≡ object_named p name) → HasValue p written v → found ≡ in_class c (origins.Address o) → found ≡ operand_origin p none_set c written
written_global p c written g name v o found is same meant value e =
    let at : address_of p name ≡ Some v = ap (address_of p) same ∙ subst (λ w. HasValue p w v) is value in
    e ∙ (λ i. in_class c (origins.Address ((meant at ∙ ap (object_named p) same) i))) ∙ ap (operand_origin p none_set c) (sym is)

pub read_written : {A : Type 0} (p names : Program A) (starts : List ℕ) (data_end : ℕ) (place : Place) (r : Reading) (block : Block A) (written a : Operand) (v : ℕ) (c : Class) (found : Origin)
    → Some block ≡ block_at p place.func.index place.block.index → Some written ≡ operand_at block place.index r
    → (AreStarts names starts → HasValue names written v → found ≡ operand_origin names none_set c written)
    → IsOf p names starts data_end → read_at p place r ≡ Some a → HasValue p a v → found ≡ operand_origin p none_set c a
read_written {A} p names starts data_end place r block written a v c found here there is own read value =
    let same : a ≡ written = ap (λ o. unwrap_or o a) (sym read ∙ ap (λ (b : Option (Block A)). operand_there b place.index r) (sym here) ∙ sym there) in
    let as_names : AreStarts names starts = subst (λ (q : Program A). AreStarts q starts) (sym own.names_are) own.starts_are in
    let its_value : HasValue names written v = subst (λ (q : Program A). HasValue q written v) (sym own.names_are) (subst (λ w. HasValue p w v) same value) in
    is as_names its_value ∙ (λ i. operand_origin (own.names_are i) none_set c written) ∙ ap (operand_origin p none_set c) (sym same)

pub nothing_read : {A : Type 0} (p : Program A) (place : Place) (r : Reading) (block : Block A) (a : Operand) (X : Type 0) → Some block ≡ block_at p place.func.index place.block.index → None ≡ operand_at block place.index r
    → read_at p place r ≡ Some a → X
nothing_read {A} p place r block a X here there read = absurd (let e : None ≡ Some a = there ∙ ap (λ (b : Option (Block A)). operand_there b place.index r) here ∙ read in cc)

pub no_block : {A : Type 0} (p : Program A) (place : Place) (r : Reading) (a : Operand) (X : Type 0) → None ≡ block_at p place.func.index place.block.index → read_at p place r ≡ Some a → X
no_block {A} p place r a X here read = absurd (let e : None ≡ Some a = ap (λ (b : Option (Block A)). operand_there b place.index r) here ∙ read in cc)

-- ---- phis

pub phi_slot : {A : Type 0} (p : Program A) (i : ℕ) (cs : List CallShadow) (s : Slot) (c : Class) (a : Operand) (operand : NumberedOperand) → operand ≡ numbered.Slot s
    → HasSlots p i cs → IsFor p (names_of p i) a operand → in_class c (held_origin cs s) ≡ operand_origin p (innermost p i cs) c a
phi_slot p i cs s c a operand e slots is = slot_origin p i cs s c a slots (subst (IsFor p (names_of p i) a) e is)

pub phi_low : {A : Type 0} (p names : Program A) (starts : List ℕ) (data_end i : ℕ) (cs : List CallShadow) (v : ℕ) (c : Class) (a : Operand) (operand : NumberedOperand)
    → operand ≡ numbered.Constant v → v < 1024 → IsOf p names starts data_end → IsFor p (names_of p i) a operand → origins.Number ≡ operand_origin p (innermost p i cs) c a
phi_low p names starts data_end i cs v c a operand e low own is = low_origin p (names_of p i) (innermost p i cs) v c a own.starts_are.no_fault low (subst (IsFor p (names_of p i) a) e is)

pub phi_value : {A : Type 0} (p : Program A) (i v : ℕ) (a : Operand) (operand : NumberedOperand) → operand ≡ numbered.Constant v → IsFor p (names_of p i) a operand → HasValue p a v
phi_value p i v a operand e is = value_is p (names_of p i) v a (subst (IsFor p (names_of p i) a) e is)

pub phi_constant : {A : Type 0} (p : Program A) (i : ℕ) (cs : List CallShadow) (v : ℕ) (c : Class) (a : Operand) (operand : NumberedOperand) (found : Origin) → operand ≡ numbered.Constant v
    → IsFor p (names_of p i) a operand → found ≡ operand_origin p none_set c a → found ≡ operand_origin p (innermost p i cs) c a
phi_constant p i cs v c a operand found e is at = at ∙ constant_origin p (names_of p i) (innermost p i cs) v c a (subst (IsFor p (names_of p i) a) e is)

pub phi_is_written : {A : Type 0} (p names : Program A) (starts : List ℕ) (data_end : ℕ) (place : Place) (to k : ℕ) (written a : Operand) (v : ℕ) (c : Class) (found : Origin)
    → Some written ≡ phi_read p place to k
    → (AreStarts names starts → HasValue names written v → found ≡ operand_origin names none_set c written)
    → IsOf p names starts data_end → phi_read p place to k ≡ Some a → HasValue p a v → found ≡ operand_origin p none_set c a
phi_is_written {A} p names starts data_end place to k written a v c found there is own read value =
    let same : a ≡ written = ap (λ o. unwrap_or o a) (sym read ∙ sym there) in
    let as_names : AreStarts names starts = subst (λ (q : Program A). AreStarts q starts) (sym own.names_are) own.starts_are in
    let its_value : HasValue names written v = subst (λ (q : Program A). HasValue q written v) (sym own.names_are) (subst (λ w. HasValue p w v) same value) in
    is as_names its_value ∙ (λ i. operand_origin (own.names_are i) none_set c written) ∙ ap (operand_origin p none_set c) (sym same)

pub no_phi : {A : Type 0} (p : Program A) (place : Place) (to k : ℕ) (a : Operand) (X : Type 0) → None ≡ phi_read p place to k → phi_read p place to k ≡ Some a → X
no_phi p place to k a X none read = absurd (let e : None ≡ Some a = none ∙ read in cc)
