-- A step that doesn't fault is sound: what it accesses has a place, an object fits, and what is called may be called.
use Rattle.std.proofs.Common.{◌≡◌, ◌∙◌, sym, ap, subst, refl, ℕ, zero, suc, ◌+◌, ◌-◌, ◌^◌, ◌<◌, ◌≤◌, ◌⊎◌, inl, inr, Bool, true, false, not, ◌&&◌, ◌||◌, if◌then◌else◌, List, [], ◌∷◌, length, Option, Some, None, Result, Ok, Err, arith}
use Rattle.std.specs.Prelude.{nat_le, nat_lt, ◌==◌, slice_get}
use Rattle.std.proofs.lemmas.Bool.{true≢false}
use Rattle.std.proofs.lemmas.Bool.Decides.{nat_tests}
use Rattle.qil_tree.specs.declared.ops.LoadOp.{LoadOp}
use Rattle.qil_tree.specs.declared.ops.LoadOp.TheVariants as loads
use Rattle.qil_tree.specs.declared.ops.Class.{Class}
use Rattle.qil_tree.specs.declared.ops.Width.{Width}
use Rattle.qil_tree.specs.declared.ops.Width.TheVariants as widths
use Rattle.qil_tree.specs.declared.tree.Argument.{Argument}
use Rattle.qil_tree.specs.declared.tree.CallResult.{CallResult}
use Rattle.qil_tree.specs.declared.tree.Expr.{Expr}
use Rattle.qil_tree.specs.declared.tree.Expr.TheVariants as exprs
use Rattle.qil_tree.specs.declared.tree.Func.{Func}
use Rattle.qil_tree.specs.declared.tree.InstKind.{InstKind}
use Rattle.qil_tree.specs.declared.tree.InstKind.TheVariants as insts
use Rattle.qil_tree.specs.declared.tree.Program.{Program}
use Rattle.qil_memory.specs.qil_layout.declared.callee.Callee.{Callee}
use Rattle.qil_memory.specs.qil_layout.declared.callee.Callee.TheVariants.{Defined, PutChar, Puts, Exit}
use Rattle.qil_memory.specs.qil_layout.Callee.{callee_at}
use Rattle.qil_memory.specs.qil_layout.Layout.{data_base, bytes_of, width_bytes, rounded}
use Rattle.qil_memory.specs.declared.fault.Dead.{Dead}
use Rattle.qil_memory.specs.declared.fault.BlitFault.{BlitFault}
use Rattle.qil_memory.specs.declared.fault.BlitFault.TheVariants as blits
use Rattle.qil_memory.specs.Buffers.{stack_base, stack_end, capacity}
use Rattle.qil_memory.specs.Live.{Live, read, laid}
use Rattle.qil_memory.specs.Calls as memory
use Rattle.qil_memory.specs.Calls.{overlap, loaded, stored, blitted}
use Rattle.qil_memory.proofs.Maps.{read_none}
use Rattle.qil_semantics.specs.State.{Frame, State, is_final, dead_address, stack_full}
use Rattle.qil_semantics.specs.Values.{Outcome, ◌>>=◌, if_live, first, second, rest, load_of, result_of}
use Rattle.qil_semantics.specs.Calls.{depth_limit, in_shape, shape_of, enters, call_defined, call_at}
use Rattle.qil_semantics.specs.Step.{alignment, act, copied, settled}
use Rattle.qil_shadow.specs.Bytes.{load_bytes}
use Rattle.qil_shadow.specs.Accesses.{are_live}
use Rattle.qil_shadow.specs.Spots.{HasSpot}
use Rattle.qil_shadow.specs.Instructions.{ExprIsSound, CopyIsSound, RoomIsSound, CallIsSound, IsSound}
use Rattle.qil_shadow.specs.Steps.{HasRoom}
use Rattle.qil_shadow.proofs.CallInstLemmas.{defined_there}
use Rattle.qil_shadow.proofs.ValueLemmas.{bound}

-- ---- outcomes

pub settled_on : (s : State) (o : Outcome State) → is_final (settled s o).status ≡ false → (t : State) × (o ≡ Ok t)
settled_on s (Ok t) e = (t, refl)
settled_on s (Err why) e = absurd (true≢false e)

pub passed_if : {X : Type 0} (b : Bool) (o : Outcome X) (why : _) (x : X) → (if b then Err why else o) ≡ Ok x → (b ≡ false) × (o ≡ Ok x)
passed_if true o why x e = absurd cc
passed_if false o why x e = (refl, e)

pub passed_then : {X : Type 0} (b : Bool) (o : Outcome X) (why : _) (x : X) → (if b then o else Err why) ≡ Ok x → (b ≡ true) × (o ≡ Ok x)
passed_then true o why x e = (refl, e)
passed_then false o why x e = absurd cc

live_outcome : {X : Type 0} (r : Result X Dead) (x : X) → if_live r ≡ Ok x → r ≡ Ok x
live_outcome (Ok y) x e = let same : Ok y ≡ Ok x = e in cc
live_outcome (Err dead) x e = absurd cc

live_bytes : {X : Type 0} (a : ℕ) (f : List ℕ → X) (o : Option (List ℕ)) (x : X) → memory.if_live a f o ≡ Ok x → (bytes : List ℕ) × (o ≡ Some bytes)
live_bytes a f None x e = absurd cc
live_bytes a f (Some bytes) x e = (bytes, refl)

-- ---- what is read is live

byte_of : (o : Option ℕ) → (o ≡ None → ⊥) → (b : ℕ) × (o ≡ Some b)
byte_of None some = absurd (some refl)
byte_of (Some b) some = (b, refl)

read_live : (m : Live) (a n : ℕ) (bytes : List ℕ) → read m a n ≡ Some bytes → (k : ℕ) → k < n → (b : ℕ) × (m (a + k) ≡ Some b)
read_live m a n bytes e k below = byte_of (m (a + k)) (λ none. let both : None ≡ Some bytes = sym (read_none m a n k below none) ∙ e in cc)

-- where n bytes from an address on lie that are live
abbrev Lies : {A : Type 0} → Program A → State → ℕ → ℕ → Type 0
Lies p s a n = ((data_base ≤ a) × (a + n ≤ data_base + length (bytes_of p))) ⊎ ((stack_base ≤ a) × (a + n ≤ s.top))

one_of : (x y : Bool) → (x || y) ≡ true → (x ≡ true) ⊎ (y ≡ true)
one_of true y e = inl refl
one_of false y e = inr e

both_of : (x y : Bool) → (x && y) ≡ true → (x ≡ true) × (y ≡ true)
both_of true y e = (refl, e)
both_of false y e = absurd (true≢false (sym e))

below_is : (a b : ℕ) → nat_le a b ≡ true → a ≤ b
below_is a b e = grind (arith, nat_tests, e)

is_below : (a b : ℕ) → a ≤ b → nat_le a b ≡ true
is_below a b l = grind (arith, nat_tests, l)

pub lies_by : {A : Type 0} (p : Program A) (s : State) (a n : ℕ) → are_live p s a n ≡ true → Lies p s a n
lies_by p s a n e = by (one_of (nat_le data_base a && nat_le (a + n) (data_base + length (bytes_of p))) (nat_le stack_base a && nat_le (a + n) s.top) e)
  where
    by : ((nat_le data_base a && nat_le (a + n) (data_base + length (bytes_of p))) ≡ true) ⊎ ((nat_le stack_base a && nat_le (a + n) s.top) ≡ true) → Lies p s a n
    by (inl d) = let q = both_of (nat_le data_base a) (nat_le (a + n) (data_base + length (bytes_of p))) d in inl (below_is data_base a q.0, below_is (a + n) (data_base + length (bytes_of p)) q.1)
    by (inr d) = let q = both_of (nat_le stack_base a) (nat_le (a + n) s.top) d in inr (below_is stack_base a q.0, below_is (a + n) s.top q.1)

or_right : (x : Bool) → (x || true) ≡ true
or_right true = refl
or_right false = refl

live_by : {A : Type 0} (p : Program A) (s : State) (a n : ℕ) → Lies p s a n → are_live p s a n ≡ true
live_by p s a n (inl d) =
    λ j. (is_below data_base a d.0 j && is_below (a + n) (data_base + length (bytes_of p)) d.1 j) || (nat_le stack_base a && nat_le (a + n) s.top)
live_by p s a n (inr d) =
    (λ j. (nat_le data_base a && nat_le (a + n) (data_base + length (bytes_of p))) || (is_below stack_base a d.0 j && is_below (a + n) s.top d.1 j))
    ∙ or_right (nat_le data_base a && nat_le (a + n) (data_base + length (bytes_of p)))

-- no bytes in a row lie partly in the data and partly on the stack
joined : {A : Type 0} (p : Program A) (s : State) (a n : ℕ) → length (bytes_of p) ≤ 2 ^ 20 → 0 < n → Lies p s a n → Lies p s (a + n) 1 → Lies p s a (n + 1)
joined p s a n few some (inl d) (inl e) = inl (d.0, omega (arith, e.1))
joined p s a n few some (inl d) (inr e) = absurd (omega (arith, few, d.1, e.0))
joined p s a n few some (inr d) (inl e) = absurd (omega (arith, few, d.0, e.1))
joined p s a n few some (inr d) (inr e) = inr (d.0, omega (arith, e.1))

all_lie : {A : Type 0} (p : Program A) (s : State) (a n : ℕ) → length (bytes_of p) ≤ 2 ^ 20 → ((k : ℕ) → k < suc n → Lies p s (a + k) 1) → Lies p s a (suc n)
all_lie p s a zero few each = let here : a + 0 ≡ a = omega arith in subst (λ b. Lies p s b 1) here (each 0 (omega arith))
all_lie p s a (suc n) few each =
    let one : suc n + 1 ≡ suc (suc n) = omega arith in
    subst (λ m. Lies p s a m) one (joined p s a (suc n) few (omega arith) (all_lie p s a n few (λ k below. each k (omega (arith, below)))) (each (suc n) (omega arith)))

pub read_lies : {A : Type 0} (p : Program A) (s : State) (a n : ℕ) (bytes : List ℕ) → HasRoom p s → length (bytes_of p) ≤ 2 ^ 20 → 0 < n → read s.memory a n ≡ Some bytes → Lies p s a n
read_lies p s a zero bytes room few some e = absurd (omega (arith, some))
read_lies p s a (suc n) bytes room few some e =
    all_lie p s a n few (λ k below. let b = read_live s.memory a (suc n) bytes e k below in lies_by p s (a + k) 1 (room.live (a + k) b.0 b.1))

pub spot_of : {A : Type 0} (p : Program A) (s : State) (a n : ℕ) → HasRoom p s → length (bytes_of p) ≤ 2 ^ 20 → Lies p s a n → HasSpot a n
spot_of p s a n room few (inl d) = inl (d.0, omega (arith, few, d.1))
spot_of p s a n room few (inr d) = inr (d.0, let high = room.high in omega (arith, high, d.1))

read_spot : {A : Type 0} (p : Program A) (s : State) (a n : ℕ) (bytes : List ℕ) → HasRoom p s → length (bytes_of p) ≤ 2 ^ 20 → 0 < n → read s.memory a n ≡ Some bytes → HasSpot a n
read_spot p s a n bytes room few some e = spot_of p s a n room few (read_lies p s a n bytes room few some e)

-- ---- an expression

loaded_bytes : (m : Live) (a n v : ℕ) → if_live (loaded m a n) ≡ Ok v → (bytes : List ℕ) × (read m a n ≡ Some bytes)
loaded_bytes m a n v e = live_bytes a _ (read m a n) v (live_outcome (loaded m a n) v e)

load_reads : (m : Live) (op : LoadOp) (a v : ℕ) → load_of m op a ≡ Ok v → (bytes : List ℕ) × (read m a (load_bytes op) ≡ Some bytes)
load_reads m loads.L a v e = loaded_bytes m a 8 v e
load_reads m loads.Sw a v e = let b = bound (if_live (loaded m a 4)) _ v e in loaded_bytes m a 4 b.0 b.1
load_reads m loads.Uw a v e = let b = bound (if_live (loaded m a 4)) _ v e in loaded_bytes m a 4 b.0 b.1
load_reads m loads.Sh a v e = let b = bound (if_live (loaded m a 2)) _ v e in loaded_bytes m a 2 b.0 b.1
load_reads m loads.Uh a v e = let b = bound (if_live (loaded m a 2)) _ v e in loaded_bytes m a 2 b.0 b.1
load_reads m loads.Sb a v e = let b = bound (if_live (loaded m a 1)) _ v e in loaded_bytes m a 1 b.0 b.1
load_reads m loads.Ub a v e = let b = bound (if_live (loaded m a 1)) _ v e in loaded_bytes m a 1 b.0 b.1

some_loaded : (op : LoadOp) → 0 < load_bytes op
some_loaded loads.L = omega arith
some_loaded loads.Sw = omega arith
some_loaded loads.Uw = omega arith
some_loaded loads.Sh = omega arith
some_loaded loads.Uh = omega arith
some_loaded loads.Sb = omega arith
some_loaded loads.Ub = omega arith

sound_expr : {A : Type 0} (p : Program A) (s : State) (c : Class) (e : Expr) (vs : List ℕ) (v : ℕ) → HasRoom p s → length (bytes_of p) ≤ 2 ^ 20 → result_of s.memory c e vs ≡ Ok v → ExprIsSound e vs
sound_expr p s c (exprs.Unary op a) vs v room few is = tt
sound_expr p s c (exprs.Binary op a b) vs v room few is = tt
sound_expr p s c (exprs.Compare op d a b) vs v room few is = tt
sound_expr p s c (exprs.Extend op a) vs v room few is = tt
sound_expr p s c (exprs.Load op a) vs v room few is =
    let b = load_reads s.memory op (first vs) v is in
    read_spot p s (first vs) (load_bytes op) b.0 room few (some_loaded op) b.1

some_stored : (w : Width) → 0 < width_bytes w
some_stored widths.B = omega arith
some_stored widths.H = omega arith
some_stored widths.W = omega arith
some_stored widths.L = omega arith

-- ---- a copy

copied_live : (r : Result Live BlitFault) (m : Live) → copied r ≡ Ok m → r ≡ Ok m
copied_live (Ok x) m e = let same : Ok x ≡ Ok m = e in cc
copied_live (Err (blits.Source a)) m e = absurd cc
copied_live (Err (blits.Target a)) m e = absurd cc
copied_live (Err blits.Overlap) m e = absurd cc
copied_live (Err blits.OutOfMemory) m e = absurd cc

both_read : (m : Live) (a b n : ℕ) (x y : Option (List ℕ)) (r : Live) → memory.copied m a b n x y ≡ Ok r → (xs : List ℕ) × (ys : List ℕ) × (x ≡ Some xs) × (y ≡ Some ys) × (overlap a b n ≡ false)
both_read m a b n None y r e = absurd cc
both_read m a b n (Some xs) None r e = absurd cc
both_read m a b n (Some xs) (Some ys) r e = (xs, ys, refl, refl, apart (overlap a b n) e)
  where
    apart : (o : Bool) → (if o then Err blits.Overlap else Ok (laid m b xs)) ≡ Ok r → o ≡ false
    apart true f = absurd cc
    apart false f = refl

sound_copy : {A : Type 0} (p : Program A) (s : State) (a b n : ℕ) (r : Live) → HasRoom p s → length (bytes_of p) ≤ 2 ^ 20 → copied (blitted s.memory a b n) ≡ Ok r → 0 < n → CopyIsSound p s a b n
sound_copy p s a b n r room few e some =
    let none : (n == 0) ≡ false = grind (arith, nat_tests, some) in
    let whole : memory.copied s.memory a b n (read s.memory a n) (read s.memory b n) ≡ Ok r =
    sym (ap (λ t. if t then Ok s.memory else memory.copied s.memory a b n (read s.memory a n) (read s.memory b n)) none) ∙ copied_live (blitted s.memory a b n) r e in
    let both = both_read s.memory a b n (read s.memory a n) (read s.memory b n) r whole in
    let from = read_lies p s a n both.0 room few some both.2 in
    record {
      source = spot_of p s a n room few from;
      target = read_spot p s b n both.1 room few some both.3;
      live = live_by p s a n from;
      apart = both.4;
    }

-- ---- a call

sound_enter : {A : Type 0} (s : State) (f : Frame) (gs : List Frame) (to : Option CallResult) (args : List Argument) (vs : List ℕ) (func : Func A) (t : State) → call_defined s f gs to args vs (Some func) ≡ Ok t → length (f ∷ gs) < depth_limit
sound_enter {A} s f gs to args vs func t e =
    let b = bound (in_shape (shape_of func) to args vs) _ t e in
    let c = passed_then (nat_lt (length (f ∷ gs)) depth_limit) _ _ t b.2 in
    grind (arith, nat_tests, c.0)

sound_call : {A : Type 0} (p : Program A) (s : State) (f : Frame) (gs : List Frame) (to : Option CallResult) (args : List Argument) (a : ℕ) (vs : List ℕ) (o : Option Callee) (t : State) → o ≡ callee_at p a → call_at p s f gs to args a vs o ≡ Ok t
    → CallIsSound (length (f ∷ gs)) o
sound_call p s f gs to args a vs None t at e = absurd cc
sound_call {A} p s f gs to args a vs (Some (Defined id)) t at e =
    let it = defined_there p a id at in
    sound_enter s f gs to args vs it.0 t (ap (λ (q : Option (Func A)). call_defined s f gs to args vs q) (sym it.1) ∙ e)
sound_call p s f gs to args a vs (Some PutChar) t at e = tt
sound_call p s f gs to args a vs (Some Puts) t at e = tt
sound_call p s f gs to args a vs (Some Exit) t at e = tt

-- ---- an instruction

pub sound : {A : Type 0} (p : Program A) (s : State) (f : Frame) (gs : List Frame) (kind : InstKind A) (vs : List ℕ) (t : State) → HasRoom p s → length (bytes_of p) ≤ 2 ^ 20 → act p s f gs kind vs ≡ Ok t → IsSound p s (length (f ∷ gs)) kind vs
sound p s f gs (insts.Assign to e) vs t room few is = let b = bound (result_of s.memory to.class e vs) _ t is in sound_expr p s to.class e vs b.0 room few b.1
sound p s f gs (insts.Alloc to op n) vs t room few is =
    let c = passed_if (nat_lt stack_end (rounded (alignment op) s.top + first vs)) _ stack_full t is in
    (room.low, grind (arith, nat_tests, c.0))
sound p s f gs (insts.Store w a b) vs t room few is =
    let d = bound (if_live (stored s.memory (second vs) (width_bytes w) (first vs))) _ t is in
    let bytes = live_bytes (second vs) _ (read s.memory (second vs) (width_bytes w)) d.0 (live_outcome (stored s.memory (second vs) (width_bytes w) (first vs)) d.0 d.1) in
    read_spot p s (second vs) (width_bytes w) bytes.0 room few (some_stored w) bytes.1
sound p s f gs (insts.Blit a b n) vs t room few is =
    let d = bound (copied (blitted s.memory (first vs) (second vs) n)) _ t is in
    λ some. sound_copy p s (first vs) (second vs) n d.0 room few d.1 some
sound p s f gs (insts.Call to callee args) vs t room few is = sound_call p s f gs to args (first vs) (rest vs) (callee_at p (first vs)) t refl is
