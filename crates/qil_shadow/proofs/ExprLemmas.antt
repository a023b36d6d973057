-- What an expression gives by its number is what the one of the tree gives.
use Rattle.std.proofs.Common.{◌≡◌, ◌∙◌, sym, ap, subst, refl, ℕ, ◌^◌, ◌<◌, Bool, true, false, List, [], ◌∷◌, Option, Some, None, unwrap_or, Ok, arith}
use Rattle.std.specs.Prelude.{◌&&◌, ◌%◌, if◌then◌else◌}
use Rattle.std.proofs.lemmas.Bool.Decides.{nat_tests}
use Rattle.qil_tree.specs.declared.ops.Class.{Class}
use Rattle.qil_tree.specs.declared.ops.Class.TheVariants as classes
use Rattle.qil_tree.specs.declared.ops.UnaryOp.{UnaryOp}
use Rattle.qil_tree.specs.declared.ops.BinaryOp.{BinaryOp}
use Rattle.qil_tree.specs.declared.ops.BinaryOp.TheVariants as ops
use Rattle.qil_tree.specs.declared.ops.CompareOp.{CompareOp}
use Rattle.qil_tree.specs.declared.ops.Extension.{Extension}
use Rattle.qil_tree.specs.declared.ops.LoadOp.{LoadOp}
use Rattle.qil_tree.specs.declared.tree.Target.{Target}
use Rattle.qil_tree.specs.declared.tree.Operand.{Operand}
use Rattle.qil_tree.specs.declared.tree.Expr.{Expr}
use Rattle.qil_tree.specs.declared.tree.Expr.TheVariants as exprs
use Rattle.qil_tree.specs.declared.tree.InstKind.TheVariants as insts
use Rattle.qil_tree.specs.declared.tree.Program.{Program}
use Rattle.qil_memory.specs.qil_rules.Operands.{as_class, right_class}
use Rattle.qil_memory.specs.qil_layout.Layout.{fault_of}
use Rattle.qil_semantics.specs.State.{Name, Frame, State}
use Rattle.qil_semantics.specs.Slots.{temps_of}
use Rattle.qil_semantics.specs.Values.{val, first, second}
use Rattle.qil_code.specs.declared.numbered.Slot.{Slot}
use Rattle.qil_code.specs.declared.numbered.NumberedOperand.{NumberedOperand}
use Rattle.qil_code.specs.declared.numbered.NumberedOperand.TheVariants as numbered_operands
use Rattle.qil_code.specs.declared.numbered.NumberedExpr.{NumberedExpr}
use Rattle.qil_code.specs.declared.numbered.NumberedExpr.TheVariants as numbered
use Rattle.qil_code.specs.declared.numbered.NumberedInst.TheVariants as numbered_insts
use Rattle.qil_code.specs.Numbered.{names_of, operand_of, expr_of}
use Rattle.qil_shadow.specs.declared.origin.Origin.{Origin}
use Rattle.qil_shadow.specs.declared.origin.Origin.TheVariants as origins
use Rattle.qil_shadow.specs.declared.constants.Reading.TheVariants as readings
use Rattle.qil_shadow.specs.declared.suspicion.Place.{Place}
use Rattle.qil_shadow.specs.Origins.{in_class, is_number, binary_origin, unary_origin, extended_origin, long_origin, word_origin, uncancelled, cancels}
use Rattle.qil_shadow.specs.Bytes.{ByteOrigins, origins_at, load_bytes, joined}
use Rattle.qil_shadow.specs.declared.access.Action.TheVariants as actions
use Rattle.qil_shadow.specs.declared.shadow.Shadow.{Shadow}
use Rattle.qil_shadow.specs.Shadow as by_names
use Rattle.qil_shadow.specs.Shadow.{Origins}
use Rattle.qil_shadow.specs.Shadowed.{operand_origin, is_twice, expr_origin}
use Rattle.qil_shadow.specs.Accesses.{access, expr_accesses}
use Rattle.qil_shadow.specs.Stack.{CallShadow, held_origin}
use Rattle.qil_shadow.specs.Spots.{HasSpot, origins_in}
use Rattle.qil_shadow.specs.Numbered.{value_in}
use Rattle.qil_shadow.specs.Reads.{IsFor, IsRead, innermost, HasSlots, is_sure}
use Rattle.qil_shadow.specs.Doubts.{StandsFor, Reports}
use Rattle.qil_shadow.specs.Starting.{IsOf}
use Rattle.qil_shadow.specs.Kept.{Keeps}
use Rattle.qil_shadow.specs.Instructions.{IsAt, IsInst, ExprIsSound, ReportsAll, HasGiven}
use Rattle.qil_shadow.proofs.ReadLemmas.{slot_origin, low_origin}
use Rattle.qil_shadow.proofs.InstLemmas.{inst_read, assigned_class, assigned_expr, reports_one, reports_none}
use Rattle.qil_shadow.proofs.ValueLemmas.{Holds, val_long, first_read, second_read, word_is, same_binary, unwrapped_held}

-- ---- two numbers

long_numbers : (op : BinaryOp) (v w : ℕ) → long_origin op origins.Number v origins.Number w ≡ origins.Number
long_numbers ops.Add v w = refl
long_numbers ops.Sub v w = refl
long_numbers ops.Mul v w = refl
long_numbers ops.Div v w = refl
long_numbers ops.Rem v w = refl
long_numbers ops.Udiv v w = refl
long_numbers ops.Urem v w = refl
long_numbers ops.And v w = refl
long_numbers ops.Or v w = refl
long_numbers ops.Xor v w = refl
long_numbers ops.Sar v w = refl
long_numbers ops.Shr v w = refl
long_numbers ops.Shl v w = refl

word_numbers : (op : BinaryOp) → word_origin op origins.Number origins.Number ≡ origins.Number
word_numbers ops.Add = refl
word_numbers ops.Sub = refl
word_numbers ops.Mul = refl
word_numbers ops.Div = refl
word_numbers ops.Rem = refl
word_numbers ops.Udiv = refl
word_numbers ops.Urem = refl
word_numbers ops.And = refl
word_numbers ops.Or = refl
word_numbers ops.Xor = refl
word_numbers ops.Sar = refl
word_numbers ops.Shr = refl
word_numbers ops.Shl = refl

numbers_of : (op : BinaryOp) (c : Class) (v w : ℕ) → uncancelled op c origins.Number v origins.Number w ≡ origins.Number
numbers_of op classes.W v w = word_numbers op
numbers_of op classes.L v w = long_numbers op v w

either_number : (b : Bool) (o : Origin) → o ≡ origins.Number → (if b then origins.Number else o) ≡ origins.Number
either_number true o e = refl
either_number false o e = e

pub binary_numbers : (op : BinaryOp) (c : Class) (t : Bool) (v w : ℕ) → binary_origin op c t origins.Number v origins.Number w ≡ origins.Number
binary_numbers op c t v w = either_number (t && cancels op) (uncancelled op c origins.Number v origins.Number w) (numbers_of op c v w)

-- ---- an operand that is a number for sure

number_is : (m : Origin) → is_number m ≡ true → m ≡ origins.Number
number_is origins.Number e = refl
number_is (origins.Address o) e = absurd cc
number_is (origins.Part o k) e = absurd cc
number_is origins.Cut e = absurd cc
number_is origins.Mixed e = absurd cc

number_in_class : (c : Class) → in_class c origins.Number ≡ origins.Number
number_in_class classes.W = refl
number_in_class classes.L = refl

sure_is : {A : Type 0} (p : Program A) (f : ℕ) (cs : List CallShadow) (c : Class) (a : Operand) (operand : NumberedOperand) → fault_of p ≡ None → is_sure cs operand ≡ true → HasSlots p f cs
    → IsFor p (names_of p f) a operand → operand_origin p (innermost p f cs) c a ≡ origins.Number
sure_is p f cs c a (numbered_operands.Constant v) none sure slots is =
    let low : v < 1024 = grind (arith, nat_tests, sure) in
    sym (low_origin p (names_of p f) (innermost p f cs) v c a none low is)
sure_is p f cs c a (numbered_operands.Slot s) none sure slots is =
    sym (slot_origin p f cs s c a slots is) ∙ ap (in_class c) (number_is (held_origin cs s) sure) ∙ number_in_class c

pub sure_binary : {A : Type 0} (p : Program A) (place : Place) (cs : List CallShadow) (op : BinaryOp) (c : Class) (a b : Operand) (left right : NumberedOperand) (t : Bool) (v w : ℕ)
    → fault_of p ≡ None → is_sure cs left ≡ true → is_sure cs right ≡ true → HasSlots p place.func.index cs → IsRead p place readings.First a left → IsRead p place readings.Second b right
    → origins.Number ≡ binary_origin op c t (operand_origin p (innermost p place.func.index cs) c a) v (operand_origin p (innermost p place.func.index cs) (right_class op c) b) w
sure_binary p place cs op c a b left right t v w none one other slots first_read second_read =
    sym (binary_numbers op c t v w)
    ∙ (λ i. binary_origin op c t (sym (sure_is p place.func.index cs c a left none one slots first_read.is_for) i) v
    (sym (sure_is p place.func.index cs (right_class op c) b right none other slots second_read.is_for) i) w)

-- ---- which expression it is

abbrev first_of : NumberedOperand → NumberedExpr → NumberedOperand
first_of d (numbered.Unary op a) = a
first_of d (numbered.Binary op a b) = a
first_of d (numbered.Compare op c a b) = a
first_of d (numbered.Extend op a) = a
first_of d (numbered.Load op a) = a

abbrev second_of : NumberedOperand → NumberedExpr → NumberedOperand
second_of d (numbered.Binary op a b) = b
second_of d e = d

abbrev unary_of : UnaryOp → NumberedExpr → UnaryOp
unary_of d (numbered.Unary op a) = op
unary_of d e = d

abbrev binary_of : BinaryOp → NumberedExpr → BinaryOp
binary_of d (numbered.Binary op a b) = op
binary_of d e = d

abbrev extension_of : Extension → NumberedExpr → Extension
extension_of d (numbered.Extend op a) = op
extension_of d e = d

abbrev load_of : LoadOp → NumberedExpr → LoadOp
load_of d (numbered.Load op a) = op
load_of d e = d

pub is_unary : {A : Type 0} (p : Program A) (ns : List Name) (e : Expr) (op : UnaryOp) (operand : NumberedOperand) → numbered.Unary op operand ≡ expr_of p ns e
    → (a : Operand) × (e ≡ exprs.Unary op a) × (operand ≡ operand_of p ns a)
is_unary p ns (exprs.Unary o a) op operand e = (a, ap (λ k. exprs.Unary k a) (sym (ap (unary_of op) e)), ap (first_of operand) e)
is_unary p ns (exprs.Binary o a b) op operand e = absurd cc
is_unary p ns (exprs.Compare o c a b) op operand e = absurd cc
is_unary p ns (exprs.Extend o a) op operand e = absurd cc
is_unary p ns (exprs.Load o a) op operand e = absurd cc

pub is_binary : {A : Type 0} (p : Program A) (ns : List Name) (e : Expr) (op : BinaryOp) (left right : NumberedOperand) → numbered.Binary op left right ≡ expr_of p ns e
    → (a b : Operand) × (e ≡ exprs.Binary op a b) × (left ≡ operand_of p ns a) × (right ≡ operand_of p ns b)
is_binary p ns (exprs.Unary o a) op left right e = absurd cc
is_binary p ns (exprs.Binary o a b) op left right e = (a, b, ap (λ k. exprs.Binary k a b) (sym (ap (binary_of op) e)), ap (first_of left) e, ap (second_of right) e)
is_binary p ns (exprs.Compare o c a b) op left right e = absurd cc
is_binary p ns (exprs.Extend o a) op left right e = absurd cc
is_binary p ns (exprs.Load o a) op left right e = absurd cc

pub is_compare : {A : Type 0} (p : Program A) (ns : List Name) (t : Origins) (m : ByteOrigins) (d : Class) (vs : List ℕ) (e : Expr) (op : CompareOp) (c : Class) (left right : NumberedOperand) → numbered.Compare op c left right ≡ expr_of p ns e
    → (origins.Number ≡ expr_origin p t m d e vs) × (expr_accesses p t e vs ≡ [])
is_compare p ns t m d vs (exprs.Unary o a) op c left right e = absurd cc
is_compare p ns t m d vs (exprs.Binary o a b) op c left right e = absurd cc
is_compare p ns t m d vs (exprs.Compare o k a b) op c left right e = (refl, refl)
is_compare p ns t m d vs (exprs.Extend o a) op c left right e = absurd cc
is_compare p ns t m d vs (exprs.Load o a) op c left right e = absurd cc

pub is_extension : {A : Type 0} (p : Program A) (ns : List Name) (e : Expr) (op : Extension) (operand : NumberedOperand) → numbered.Extend op operand ≡ expr_of p ns e
    → (a : Operand) × (e ≡ exprs.Extend op a) × (operand ≡ operand_of p ns a)
is_extension p ns (exprs.Unary o a) op operand e = absurd cc
is_extension p ns (exprs.Binary o a b) op operand e = absurd cc
is_extension p ns (exprs.Compare o c a b) op operand e = absurd cc
is_extension p ns (exprs.Extend o a) op operand e = (a, ap (λ k. exprs.Extend k a) (sym (ap (extension_of op) e)), ap (first_of operand) e)
is_extension p ns (exprs.Load o a) op operand e = absurd cc

pub is_load : {A : Type 0} (p : Program A) (ns : List Name) (e : Expr) (op : LoadOp) (operand : NumberedOperand) → numbered.Load op operand ≡ expr_of p ns e
    → (a : Operand) × (e ≡ exprs.Load op a) × (operand ≡ operand_of p ns a)
is_load p ns (exprs.Unary o a) op operand e = absurd cc
is_load p ns (exprs.Binary o a b) op operand e = absurd cc
is_load p ns (exprs.Compare o c a b) op operand e = absurd cc
is_load p ns (exprs.Extend o a) op operand e = absurd cc
is_load p ns (exprs.Load o a) op operand e = (a, ap (λ k. exprs.Load k a) (sym (ap (load_of op) e)), ap (first_of operand) e)

-- ---- what it gives

keeps_same : {A : Type 0} (was : Shadow A) → Keeps was was
keeps_same was = record { calls_are = refl; memory_is = refl; names_are = refl; end_is = refl; position_is = refl; roles_are = refl }

-- of one that makes no access
given_quietly : {A : Type 0} (p : Program A) (place : Place) (slots : List (Option ℕ)) (class : Class) (expr : NumberedExpr) (was : Shadow A) (r : Origin)
    → ((to : Slot) (x : Target) (e : Expr) (vs : List ℕ) → IsInst p place slots (numbered_insts.Assign class to expr) (insts.Assign x e) vs → IsAt p place was
    → (r ≡ expr_origin p (innermost p place.func.index was.calls.calls) (origins_in was.memory) class e vs) × (expr_accesses p (innermost p place.func.index was.calls.calls) e vs ≡ []))
    → HasGiven p place slots class expr was was r
given_quietly p place slots class expr was r both = record {
  origin_is = λ to x e vs is at sound. (both to x e vs is at).0;
  found_is = λ to x e vs s sh f is at stands. reports_none p s sh f (expr_accesses p (innermost p place.func.index was.calls.calls) e vs) was.found.items was.found.items (both to x e vs is at).1 refl;
  rest = keeps_same was;
}

pub given_unary : {A : Type 0} (p : Program A) (place : Place) (slots : List (Option ℕ)) (class : Class) (expr : NumberedExpr) (was : Shadow A) (op : UnaryOp) (operand : NumberedOperand) (o r : Origin)
    → expr ≡ numbered.Unary op operand
    → ((a : Operand) → IsOf p was.names was.calls.objects.starts was.data_end → HasSlots p place.func.index was.calls.calls → IsRead p place readings.First a operand
    → o ≡ operand_origin p (innermost p place.func.index was.calls.calls) class a)
    → r ≡ unary_origin op class o → HasGiven p place slots class expr was was r
given_unary p place slots class expr was op operand o r shape reads gives =
    given_quietly p place slots class expr was r (λ to x e vs is at.
    let ns = names_of p place.func.index in
    let t = innermost p place.func.index was.calls.calls in
    let u = is_unary p ns e op operand (sym shape ∙ assigned_expr p place slots class to expr x e vs is) in
    let here = subst (λ q. IsInst p place slots (numbered_insts.Assign class to expr) (insts.Assign x q) vs) u.1 is in
    let read = inst_read p place slots (numbered_insts.Assign class to expr) (insts.Assign x (exprs.Unary op u.0)) vs readings.First u.0 operand here refl u.2 here.known.0 in
    (gives ∙ ap (unary_origin op class) (reads u.0 at.own at.slots read) ∙ (λ i. expr_origin p t (origins_in was.memory) class (sym u.1 i) vs), ap (λ q. expr_accesses p t q vs) u.1))

pub given_extension : {A : Type 0} (p : Program A) (place : Place) (slots : List (Option ℕ)) (class : Class) (expr : NumberedExpr) (was : Shadow A) (op : Extension) (operand : NumberedOperand) (o r : Origin)
    → expr ≡ numbered.Extend op operand
    → ((a : Operand) → IsOf p was.names was.calls.objects.starts was.data_end → HasSlots p place.func.index was.calls.calls → IsRead p place readings.First a operand
    → o ≡ operand_origin p (innermost p place.func.index was.calls.calls) classes.W a)
    → r ≡ extended_origin op o → HasGiven p place slots class expr was was r
given_extension p place slots class expr was op operand o r shape reads gives =
    given_quietly p place slots class expr was r (λ to x e vs is at.
    let ns = names_of p place.func.index in
    let t = innermost p place.func.index was.calls.calls in
    let u = is_extension p ns e op operand (sym shape ∙ assigned_expr p place slots class to expr x e vs is) in
    let here = subst (λ q. IsInst p place slots (numbered_insts.Assign class to expr) (insts.Assign x q) vs) u.1 is in
    let read = inst_read p place slots (numbered_insts.Assign class to expr) (insts.Assign x (exprs.Extend op u.0)) vs readings.First u.0 operand here refl u.2 here.known.0 in
    (gives ∙ ap (extended_origin op) (reads u.0 at.own at.slots read) ∙ (λ i. expr_origin p t (origins_in was.memory) class (sym u.1 i) vs), ap (λ q. expr_accesses p t q vs) u.1))

pub given_compare : {A : Type 0} (p : Program A) (place : Place) (slots : List (Option ℕ)) (class : Class) (expr : NumberedExpr) (was : Shadow A) (op : CompareOp) (c : Class) (left right : NumberedOperand)
    → expr ≡ numbered.Compare op c left right → HasGiven p place slots class expr was was origins.Number
given_compare p place slots class expr was op c left right shape =
    given_quietly p place slots class expr was origins.Number (λ to x e vs is at.
    is_compare p (names_of p place.func.index) (innermost p place.func.index was.calls.calls) (origins_in was.memory) class vs e op c left right (sym shape ∙ assigned_expr p place slots class to expr x e vs is))

pub given_binary : {A : Type 0} (p : Program A) (place : Place) (slots : List (Option ℕ)) (class : Class) (expr : NumberedExpr) (was : Shadow A) (op : BinaryOp) (left right : NumberedOperand) (r : Origin)
    → expr ≡ numbered.Binary op left right
    → ((a b : Operand) → IsOf p was.names was.calls.objects.starts was.data_end → HasSlots p place.func.index was.calls.calls → IsRead p place readings.First a left → IsRead p place readings.Second b right
    → r ≡ binary_origin op class (is_twice a b) (operand_origin p (innermost p place.func.index was.calls.calls) class a) (unwrap_or (value_in slots left) 0)
    (operand_origin p (innermost p place.func.index was.calls.calls) (right_class op class) b) (unwrap_or (value_in slots right) 0))
    → HasGiven p place slots class expr was was r
given_binary p place slots class expr was op left right r shape gives =
    given_quietly p place slots class expr was r (λ to x e vs is at.
    let ns = names_of p place.func.index in
    let t = innermost p place.func.index was.calls.calls in
    let u = is_binary p ns e op left right (sym shape ∙ assigned_expr p place slots class to expr x e vs is) in
    let a = u.0 in
    let b = u.1 in
    let same : e ≡ exprs.Binary op a b = u.2 in
    let here = subst (λ q. IsInst p place slots (numbered_insts.Assign class to expr) (insts.Assign x q) vs) same is in
    let one = inst_read p place slots (numbered_insts.Assign class to expr) (insts.Assign x (exprs.Binary op a b)) vs readings.First a left here refl u.3 here.known.0 in
    let other = inst_read p place slots (numbered_insts.Assign class to expr) (insts.Assign x (exprs.Binary op a b)) vs readings.Second b right here refl u.4 here.known.1.0 in
    let temps = temps_of ns slots in
    let reads = first_read p temps (as_class x.class a) (as_class (right_class op x.class) b ∷ []) vs here.values in
    let reads_other = second_read p temps (as_class x.class a) (as_class (right_class op x.class) b) [] vs here.values in
    let wanted : class ≡ x.class = assigned_class p place slots class to expr x e vs is in
    let v : class ≡ classes.L → unwrap_or (value_in slots left) 0 % 2 ^ 64 ≡ first vs =
    λ long. unwrapped_held slots left (first vs) (subst (λ o. Holds slots o (first vs)) (sym u.3) (val_long p ns slots a (first vs) here.known.0 (subst (λ c. val p temps c a ≡ Ok (first vs)) (sym wanted ∙ long) reads))) in
    let w : right_class op class ≡ classes.L → unwrap_or (value_in slots right) 0 % 2 ^ 64 ≡ second vs =
    λ long. unwrapped_held slots right (second vs) (subst (λ o. Holds slots o (second vs)) (sym u.4) (val_long p ns slots b (second vs) here.known.1.0 (subst (λ c. val p temps c b ≡ Ok (second vs)) (ap (right_class op) (sym wanted) ∙ long) reads_other))) in (
      gives a b at.own at.slots one other
          ∙ same_binary op class (is_twice a b) (operand_origin p t class a) (operand_origin p t (right_class op class) b) (unwrap_or (value_in slots left) 0) (first vs) (unwrap_or (value_in slots right) 0) (second vs) v w
          ∙ (λ i. expr_origin p t (origins_in was.memory) class (sym same i) vs),
      ap (λ q. expr_accesses p t q vs) same,
    ))

pub given_load : {A : Type 0} (p : Program A) (place : Place) (slots : List (Option ℕ)) (class : Class) (expr : NumberedExpr) (was now : Shadow A) (op : LoadOp) (operand : NumberedOperand) (r : Origin)
    → expr ≡ numbered.Load op operand
    → ((v : ℕ) → value_in slots operand ≡ Some v → HasSpot v (load_bytes op) → r ≡ joined class (origins_at (origins_in was.memory) v (load_bytes op)))
    → ((a : Operand) (v : ℕ) (s : State) (sh : by_names.Shadow) (f : Frame) → value_in slots operand ≡ Some v → IsOf p was.names was.calls.objects.starts was.data_end → HasSlots p place.func.index was.calls.calls
    → IsRead p place readings.First a operand → StandsFor p s sh f was.calls.objects.objects was.calls.top was.position place
    → Reports p s sh f (access (actions.Load op) (operand_origin p (innermost p place.func.index was.calls.calls) classes.L a) v (load_bytes op)) was.found.items now.found.items)
    → ((v : ℕ) → value_in slots operand ≡ Some v → v < 2 ^ 64) → Keeps was now → HasGiven p place slots class expr was now r
given_load p place slots class expr was now op operand r shape gives looks low rest = record {
  origin_is = λ to x e vs is at sound.
      let ns = names_of p place.func.index in
      let u = is_load p ns e op operand (sym shape ∙ assigned_expr p place slots class to expr x e vs is) in
      let here = subst (λ q. IsInst p place slots (numbered_insts.Assign class to expr) (insts.Assign x q) vs) u.1 is in
      let h : Holds slots operand (first vs) = subst (λ o. Holds slots o (first vs)) (sym u.2) (val_long p ns slots u.0 (first vs) here.known.0 (first_read p (temps_of ns slots) (as_class classes.L u.0) [] vs here.values)) in
      let v : value_in slots operand ≡ Some (first vs) = h.1 ∙ ap (λ n. Some n) (word_is h.0 (first vs) (low h.0 h.1) h.2) in
      gives (first vs) v (subst (λ q. ExprIsSound q vs) u.1 sound) ∙ (λ i. expr_origin p (innermost p place.func.index was.calls.calls) (origins_in was.memory) class (sym u.1 i) vs);
  found_is = λ to x e vs s sh f is at stands.
      let ns = names_of p place.func.index in
      let t = innermost p place.func.index was.calls.calls in
      let u = is_load p ns e op operand (sym shape ∙ assigned_expr p place slots class to expr x e vs is) in
      let here = subst (λ q. IsInst p place slots (numbered_insts.Assign class to expr) (insts.Assign x q) vs) u.1 is in
      let h : Holds slots operand (first vs) = subst (λ o. Holds slots o (first vs)) (sym u.2) (val_long p ns slots u.0 (first vs) here.known.0 (first_read p (temps_of ns slots) (as_class classes.L u.0) [] vs here.values)) in
      let v : value_in slots operand ≡ Some (first vs) = h.1 ∙ ap (λ n. Some n) (word_is h.0 (first vs) (low h.0 h.1) h.2) in
      let read = inst_read p place slots (numbered_insts.Assign class to expr) (insts.Assign x (exprs.Load op u.0)) vs readings.First u.0 operand here refl u.2 here.known.0 in
      subst (λ q. ReportsAll p s sh f (expr_accesses p t q vs) was.found.items now.found.items) (sym u.1)
      (reports_one p s sh f (access (actions.Load op) (operand_origin p t classes.L u.0) (first vs) (load_bytes op)) was.found.items now.found.items (looks u.0 (first vs) s sh f v at.own at.slots read stands));
  rest = rest;
}
