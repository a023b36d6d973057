-- What an operand holds by its slot is what it holds by its name, cut to the class in which it is read.
use Rattle.std.proofs.Common.{◌≡◌, ◌∙◌, sym, ap, subst, refl, ℕ, suc, ◌^◌, ◌<◌, Bool, true, false, ◌&&◌, if◌then◌else◌, List, [], ◌∷◌, get_or, Option, Some, None, option_map, unwrap_or, Ok, Err, arith}
use Rattle.std.specs.Prelude.{◌%◌, ◌/◌}
use Rattle.std.specs.Str.{bytes_eq}
use Rattle.qil_tree.specs.declared.ops.Class.{Class}
use Rattle.qil_tree.specs.declared.ops.Class.TheVariants as classes
use Rattle.qil_tree.specs.declared.ops.BinaryOp.{BinaryOp}
use Rattle.qil_tree.specs.declared.ops.BinaryOp.TheVariants as ops
use Rattle.qil_tree.specs.declared.tree.Operand.{Operand}
use Rattle.qil_tree.specs.declared.tree.Operand.TheVariants as operands
use Rattle.qil_tree.specs.declared.tree.Program.{Program}
use Rattle.qil_memory.specs.qil_rules.Operands.{Read, right_class}
use Rattle.qil_memory.specs.qil_layout.Layout.{address_of}
use Rattle.qil_symbols.specs.Numbers.{place_of}
use Rattle.qil_semantics.specs.State.{Name, Temps}
use Rattle.qil_semantics.specs.Slots.{temps_of}
use Rattle.qil_semantics.specs.Values.{Outcome, ◌>>=◌, known, val, vals, first, second}
use Rattle.qil_code.specs.declared.numbered.NumberedOperand.{NumberedOperand}
use Rattle.qil_code.specs.Numbered.{operand_of}
use Rattle.qil_code.specs.Slots.{number_in}
use Rattle.qil_code.proofs.Has.{has-among}
use Rattle.qil_shadow.specs.declared.origin.Origin.{Origin}
use Rattle.qil_shadow.specs.declared.origin.Origin.TheVariants as origins
use Rattle.qil_shadow.specs.Origins.{is_number, middle, address_under, under, masked, long_origin, cancels, uncancelled, binary_origin}
use Rattle.qil_shadow.specs.Numbered.{value_in}
use Rattle.qil_shadow.specs.Reads.{IsKnown}
use Rattle.qil_shadow.proofs.KeptLemmas.{same_value}
use Rattle.qil_shadow.proofs.ParamLemmas.{has_slot}

-- ---- outcomes

pub bound : {X Y : Type 0} (o : Outcome X) (g : X → Outcome Y) (y : Y) → (o >>= g) ≡ Ok y → (x : X) × (o ≡ Ok x) × (g x ≡ Ok y)
bound (Ok x) g y e = (x, refl, e)
bound (Err why) g y e = absurd cc

abbrev pub value_or : ℕ → Outcome ℕ → ℕ
value_or d (Ok v) = v
value_or d (Err why) = d

abbrev values_or : List ℕ → Outcome (List ℕ) → List ℕ
values_or d (Ok vs) = vs
values_or d (Err why) = d

-- ---- by slot and by name

some_suc : (o : Option ℕ) (i : ℕ) → option_map (λ k. suc k) o ≡ Some i → (k : ℕ) × (i ≡ suc k) × (o ≡ Some k)
some_suc None i e = absurd (cc)
some_suc (Some k) i e = (k, ap (λ q. unwrap_or q 0) (sym e), refl)

first_temp : (b : Bool) (v : Option ℕ) (vs : List (Option ℕ)) (rest : Option ℕ) (i : ℕ) (others : Option ℕ) → ((k : ℕ) → rest ≡ Some k → get_or vs k None ≡ others)
    → (if b then Some 0 else option_map (λ k. suc k) rest) ≡ Some i → get_or (v ∷ vs) i None ≡ (if b then v else others)
first_temp true v vs rest i others later e = let at : 0 ≡ i = ap (λ q. unwrap_or q 0) e in subst (λ k. get_or (v ∷ vs) k None ≡ v) at refl
first_temp false v vs rest i others later e = let found = some_suc rest i e in subst (λ k. get_or (v ∷ vs) k None ≡ others) (sym found.1) (later found.0 found.2)

pub temp_at : (ns : List Name) (vs : List (Option ℕ)) (x : Name) (i : ℕ) → place_of ns x ≡ Some i → get_or vs i None ≡ temps_of ns vs x
unfolding place_of temps_of
temp_at [] vs x i found = absurd (cc)
temp_at (n ∷ ns) [] x i found = refl
temp_at (n ∷ ns) (v ∷ vs) x i found = first_temp (bytes_eq n x) v vs (place_of ns x) i (temps_of ns vs x) (λ k later. temp_at ns vs x k later) found

-- ---- values

-- what an operand holds is this value in its low 64 bits
abbrev pub Holds : List (Option ℕ) → NumberedOperand → ℕ → Type 0
Holds slots o v = (w : ℕ) × (value_in slots o ≡ Some w) × (w % 2 ^ 64 ≡ v)

known_long : (x : Name) (o : Option ℕ) (v : ℕ) → known classes.L x o ≡ Ok v → (w : ℕ) × (o ≡ Some w) × (w % 2 ^ 64 ≡ v)
known_long x None v e = absurd cc
known_long x (Some w) v e = (w, refl, ap (value_or 0) e)

known_set : (c : Class) (x : Name) (o : Option ℕ) (v : ℕ) → known c x o ≡ Ok v → (w : ℕ) × (o ≡ Some w)
known_set c x None v e = absurd cc
known_set c x (Some w) v e = (w, refl)

pub val_long : {A : Type 0} (p : Program A) (ns : List Name) (slots : List (Option ℕ)) (a : Operand) (v : ℕ) → IsKnown p ns a → val p (temps_of ns slots) classes.L a ≡ Ok v → Holds slots (operand_of p ns a) v
val_long p ns slots (operands.Number n) v known e = (n, refl, ap (value_or 0) e)
val_long p ns slots (operands.Global g) v known e = (unwrap_or (address_of p g) 0, refl, ap (value_or 0) e)
val_long p ns slots (operands.Temp x) v known e =
    let w = known_long x (temps_of ns slots x) v e in
    (w.0, temp_at ns slots x (number_in ns x) (has_slot ns x (has-among ns x known.0 known.1)) ∙ w.1, w.2)

pub val_set : {A : Type 0} (p : Program A) (ns : List Name) (slots : List (Option ℕ)) (c : Class) (a : Operand) (v : ℕ) → IsKnown p ns a → val p (temps_of ns slots) c a ≡ Ok v → (w : ℕ) × (value_in slots (operand_of p ns a) ≡ Some w)
val_set p ns slots c (operands.Number n) v known e = (n, refl)
val_set p ns slots c (operands.Global g) v known e = (unwrap_or (address_of p g) 0, refl)
val_set p ns slots c (operands.Temp x) v known e =
    let w = known_set c x (temps_of ns slots x) v e in
    (w.0, temp_at ns slots x (number_in ns x) (has_slot ns x (has-among ns x known.0 known.1)) ∙ w.1)

-- ---- the first and the second of those that are read

pub first_read : {A : Type 0} (p : Program A) (temps : Temps) (r : Read) (rs : List Read) (vs : List ℕ) → vals p temps (r ∷ rs) ≡ Ok vs → val p temps r.class r.operand ≡ Ok (first vs)
first_read p temps r rs vs e =
    let a = bound (val p temps r.class r.operand) _ vs e in
    let b = bound (vals p temps rs) _ vs a.2 in
    a.1 ∙ ap (λ o. Ok (first (values_or [] o))) b.2

pub second_read : {A : Type 0} (p : Program A) (temps : Temps) (r q : Read) (rs : List Read) (vs : List ℕ) → vals p temps (r ∷ (q ∷ rs)) ≡ Ok vs → val p temps q.class q.operand ≡ Ok (second vs)
second_read p temps r q rs vs e =
    let a = bound (val p temps r.class r.operand) _ vs e in
    let b = bound (vals p temps (q ∷ rs)) _ vs a.2 in
    first_read p temps q rs b.0 b.1 ∙ ap (λ o. Ok (second (values_or [] o))) b.2

-- ---- as the code reads them

pub none_held : (slots : List (Option ℕ)) (o : NumberedOperand) (v : ℕ) (X : Type 0) → None ≡ value_in slots o → Holds slots o v → X
none_held slots o v X none some = absurd (let e : None ≡ Some some.0 = none ∙ some.1 in cc)

pub none_set : (slots : List (Option ℕ)) (o : NumberedOperand) (X : Type 0) → None ≡ value_in slots o → (w : ℕ) × (value_in slots o ≡ Some w) → X
none_set slots o X none some = absurd (let e : None ≡ Some some.0 = none ∙ some.1 in cc)

pub word_is : (w v : ℕ) → w < 2 ^ 64 → w % 2 ^ 64 ≡ v → w ≡ v
word_is w v low e = omega (arith, low, e)

pub same_held : (slots : List (Option ℕ)) (o : NumberedOperand) (a v : ℕ) → Some a ≡ value_in slots o → Holds slots o v → a < 2 ^ 64 → a ≡ v
same_held slots o a v held is low =
    let same : a ≡ is.0 = same_value (value_in slots o) a is.0 held is.1 in
    word_is a v low (ap (λ w. w % 2 ^ 64) same ∙ is.2)

-- ---- what an operation gives depends on these bits alone

middle_cut : (v w : ℕ) → v % 2 ^ 64 ≡ w → middle v ≡ middle w
middle_cut v w e = omega (arith, e)

under_cut : (v w : ℕ) (m : Origin) → v % 2 ^ 64 ≡ w → under v m ≡ under w m
under_cut v w origins.Number e = refl
under_cut v w (origins.Address o) e = ap (address_under o) (middle_cut v w e)
under_cut v w (origins.Part o k) e = refl
under_cut v w origins.Cut e = refl
under_cut v w origins.Mixed e = refl

abbrev SameLong : BinaryOp → Type 0
SameLong op = (m q : Origin) (v x w y : ℕ) → v % 2 ^ 64 ≡ x → (right_class op classes.L ≡ classes.L → w % 2 ^ 64 ≡ y) → long_origin op m v q w ≡ long_origin op m x q y

same_long : (op : BinaryOp) → SameLong op
same_long ops.Add m q v x w y one other = refl
same_long ops.Sub m q v x w y one other = refl
same_long ops.Mul m q v x w y one other = refl
same_long ops.Div m q v x w y one other = refl
same_long ops.Rem m q v x w y one other = refl
same_long ops.Udiv m q v x w y one other = refl
same_long ops.Urem m q v x w y one other = refl
same_long ops.And m q v x w y one other = λ j. if is_number m then under_cut v x q one j else (if is_number q then under_cut w y m (other refl) j else origins.Mixed)
same_long ops.Or m q v x w y one other = refl
same_long ops.Xor m q v x w y one other = refl
same_long ops.Sar m q v x w y one other = refl
same_long ops.Shr m q v x w y one other = refl
same_long ops.Shl m q v x w y one other = refl

pub same_binary : (op : BinaryOp) (c : Class) (t : Bool) (m q : Origin) (v x w y : ℕ) → (c ≡ classes.L → v % 2 ^ 64 ≡ x) → (right_class op c ≡ classes.L → w % 2 ^ 64 ≡ y) → binary_origin op c t m v q w ≡ binary_origin op c t m x q y
same_binary op classes.W t m q v x w y one other = refl
same_binary op classes.L t m q v x w y one other = ap (λ o. if t && cancels op then origins.Number else o) (same_long op m q v x w y (one refl) other)

pub unwrapped_held : (slots : List (Option ℕ)) (o : NumberedOperand) (v : ℕ) → Holds slots o v → unwrap_or (value_in slots o) 0 % 2 ^ 64 ≡ v
unwrapped_held slots o v is = ap (λ q. unwrap_or q 0 % 2 ^ 64) is.1 ∙ is.2
