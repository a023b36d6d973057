-- What instructions do, from the values of their operands to the machine after them. A slot that is set is its temporary that
-- is set: the lemmas take that as an equation.
use Rattle.std.proofs.Common.{◌≡◌, refl, sym, ap, ◌∙◌, ℕ, ◌+◌, ◌-◌, ◌<◌, ◌≤◌, true, false, List, ◌∷◌, Some, Ok, Err, nat_lt, set, IsOk}
use Rattle.std.proofs.lemmas.Bool.{lt-ltb, le-ltb}
use Rattle.qil_tree.specs.declared.ops.Class.{Class}
use Rattle.qil_tree.specs.declared.ops.Class.TheVariants as classes
use Rattle.qil_tree.specs.declared.ops.Width.{Width}
use Rattle.qil_tree.specs.declared.ops.AllocOp.{AllocOp}
use Rattle.qil_tree.specs.declared.tree.Operand.{Operand}
use Rattle.qil_tree.specs.declared.tree.Target.{Target}
use Rattle.qil_tree.specs.declared.tree.Expr.{Expr}
use Rattle.qil_tree.specs.declared.tree.InstKind.TheVariants as insts
use Rattle.qil_tree.specs.declared.tree.Program.{Program}
use Rattle.qil_rules.specs.Operands.{expr_reads, stored_class}
use Rattle.qil_layout.specs.Layout.{width_bytes, rounded, zeros}
use Rattle.qil_ops.specs.Values.{width, low_bits}
use Rattle.qil_memory.specs.Buffers.{Buffers, stack_end}
use Rattle.qil_memory.specs.Live.{live, laid}
use Rattle.qil_memory.specs.Calls.{stored, blitted}
use Rattle.qil_semantics.specs.State as meaning
use Rattle.qil_semantics.specs.State.{Name, Temps, State, Fault, dead_address, stack_full}
use Rattle.qil_semantics.specs.Temps.{with_temp}
use Rattle.qil_semantics.specs.Slots.{temps_of}
use Rattle.qil_semantics.specs.Values.{Outcome, ◌>>=◌, val, vals, result_of}
use Rattle.qil_semantics.specs.Calls.{next}
use Rattle.qil_semantics.specs.Step.{sets, alignment, copied}
use Rattle.qil_code.specs.declared.numbered.NumberedOperand.{NumberedOperand}
use Rattle.qil_code.specs.declared.numbered.NumberedInst.{NumberedInst}
use Rattle.qil_code.specs.declared.numbered.NumberedInst.TheVariants as numbered
use Rattle.qil_code.specs.Named.{named_operand, named_inst}
use Rattle.qil_code.specs.Numbered.{names_of}
use Rattle.qil_frames.specs.Frames.{SlotFrame}
use Rattle.qil_state.specs.declared.status.Status.{Status}
use Rattle.qil_state.specs.State.{whole, state_of, frame_state, frames_state}
use Rattle.qil_state.specs.Values.{evaluated}
use Rattle.qil_state.specs.Stepping.{performed}

pub bind_bind : {X Y Z : Type 0} (o : Outcome X) (f : X → Outcome Y) (g : Y → Outcome Z) → (o >>= f) >>= g ≡ o >>= (λ x. f x >>= g)
bind_bind (Ok x) f g = refl
bind_bind (Err e) f g = refl

-- ---- expressions

assigns : {A : Type 0} (p : Program A) (s : State) (f : meaning.Frame) (fs : List meaning.Frame) (to : Target) (e : Expr) (o : Outcome ℕ) → evaluated p s.memory f.temps to.class e ≡ o
    → performed p s (f ∷ fs) (insts.Assign to e) ≡ (o >>= λ v. Ok (record s { frames = sets (next f) to v ∷ fs }))
assigns p s f fs to e o is =
    let K : ℕ → Outcome State = λ v. Ok (record s { frames = sets (next f) to v ∷ fs }) in
    sym (bind_bind (vals p f.temps (expr_reads to.class e)) (result_of s.memory to.class e) K) ∙ ap (λ o. o >>= K) is

pub assign_does : {A : Type 0} (p : Program A) (f : SlotFrame) (fs : List SlotFrame) (m : Buffers) (out : List ℕ) (st : Status) (to : Target) (e : Expr) (s k v : ℕ)
    → evaluated p (live m) (temps_of (names_of p f.func) f.slots) to.class e ≡ Ok v → f.index ≡ k
    → temps_of (names_of p f.func) (set f.slots s (Some (low_bits (width to.class) v))) ≡ with_temp (temps_of (names_of p f.func) f.slots) to.name (Some (low_bits (width to.class) v))
    → performed p (state_of (whole p (f ∷ fs) m out st)) (frames_state p (f ∷ fs)) (insts.Assign to e)
    ≡ Ok (state_of (whole p (record f { index = k + 1; slots = set f.slots s (Some (low_bits (width to.class) v)) } ∷ fs) m out st))
assign_does {A} p f fs m out st to e s k v is at sets_it =
    let S : State = state_of (whole p (f ∷ fs) m out st) in
    let F : meaning.Frame = frame_state p fs f in
    assigns p S F (frames_state p fs) to e (Ok v) is
    ∙ (λ i. Ok (record S { frames = record F { index = at i + 1; temps = sym sets_it i } ∷ frames_state p fs }))

pub assign_faults : {A : Type 0} (p : Program A) (s : State) (f : meaning.Frame) (fs : List meaning.Frame) (to : Target) (e : Expr) (why : Fault) → evaluated p s.memory f.temps to.class e ≡ Err why
    → performed p s (f ∷ fs) (insts.Assign to e) ≡ Err why
assign_faults p s f fs to e why is = assigns p s f fs to e (Err why) is

-- ---- memory

pub store_does : {A : Type 0} (p : Program A) (f : SlotFrame) (fs : List SlotFrame) (m w : Buffers) (out : List ℕ) (st : Status) (size : Width) (a b : Operand) (k v at : ℕ)
    → val p (temps_of (names_of p f.func) f.slots) (stored_class size) a ≡ Ok v → val p (temps_of (names_of p f.func) f.slots) classes.L b ≡ Ok at → f.index ≡ k
    → stored (live m) at (width_bytes size) v ≡ Ok (live w) → w.top ≡ m.top
    → performed p (state_of (whole p (f ∷ fs) m out st)) (frames_state p (f ∷ fs)) (insts.Store size a b)
    ≡ Ok (state_of (whole p (record f { index = k + 1 } ∷ fs) w out st))
store_does {A} p f fs m w out st size a b k v at ea eb ek bytes top =
    let S : State = state_of (whole p (f ∷ fs) m out st) in
    let F : meaning.Frame = frame_state p fs f in
    rw (ea, eb, bytes) (λ i. Ok (record S { frames = record F { index = ek i + 1 } ∷ frames_state p fs; memory = live w; top = sym top i }))

pub store_faults : {A : Type 0} (p : Program A) (s : State) (f : meaning.Frame) (fs : List meaning.Frame) (size : Width) (a b : Operand) (v at : ℕ)
    → val p f.temps (stored_class size) a ≡ Ok v → val p f.temps classes.L b ≡ Ok at → stored s.memory at (width_bytes size) v ≡ Err (record { address = at })
    → performed p s (f ∷ fs) (insts.Store size a b) ≡ Err (dead_address at)
store_faults p s f fs size a b v at ea eb bytes = rw (ea, eb, bytes) refl

pub blit_does : {A : Type 0} (p : Program A) (f : SlotFrame) (fs : List SlotFrame) (m w : Buffers) (out : List ℕ) (st : Status) (a b : Operand) (n k from to : ℕ)
    → val p (temps_of (names_of p f.func) f.slots) classes.L a ≡ Ok from → val p (temps_of (names_of p f.func) f.slots) classes.L b ≡ Ok to → f.index ≡ k
    → blitted (live m) from to n ≡ Ok (live w) → w.top ≡ m.top
    → performed p (state_of (whole p (f ∷ fs) m out st)) (frames_state p (f ∷ fs)) (insts.Blit a b n)
    ≡ Ok (state_of (whole p (record f { index = k + 1 } ∷ fs) w out st))
blit_does {A} p f fs m w out st a b n k from to ea eb ek bytes top =
    let S : State = state_of (whole p (f ∷ fs) m out st) in
    let F : meaning.Frame = frame_state p fs f in
    rw (ea, eb, bytes) (λ i. Ok (record S { frames = record F { index = ek i + 1 } ∷ frames_state p fs; memory = live w; top = sym top i }))

pub blit_faults : {A : Type 0} (p : Program A) (s : State) (f : meaning.Frame) (fs : List meaning.Frame) (a b : Operand) (n from to : ℕ) (why : Fault)
    → val p f.temps classes.L a ≡ Ok from → val p f.temps classes.L b ≡ Ok to → copied (blitted s.memory from to n) ≡ Err why
    → performed p s (f ∷ fs) (insts.Blit a b n) ≡ Err why
blit_faults p s f fs a b n from to why ea eb bytes = rw (ea, eb, bytes) refl

-- ---- the stack

pub grow_does : {A : Type 0} (p : Program A) (f : SlotFrame) (fs : List SlotFrame) (m w : Buffers) (out : List ℕ) (st : Status) (to : Target) (op : AllocOp) (a : Operand) (s k n at : ℕ)
    → val p (temps_of (names_of p f.func) f.slots) classes.L a ≡ Ok n → f.index ≡ k → at ≡ rounded (alignment op) m.top → at + n ≤ stack_end
    → live w ≡ laid (live m) m.top (zeros (w.top - m.top)) → w.top ≡ at + n
    → temps_of (names_of p f.func) (set f.slots s (Some (low_bits (width to.class) at))) ≡ with_temp (temps_of (names_of p f.func) f.slots) to.name (Some (low_bits (width to.class) at))
    → performed p (state_of (whole p (f ∷ fs) m out st)) (frames_state p (f ∷ fs)) (insts.Alloc to op a)
    ≡ Ok (state_of (whole p (record f { index = k + 1; slots = set f.slots s (Some (low_bits (width to.class) at)) } ∷ fs) w out st))
grow_does {A} p f fs m w out st to op a s k n at ea ek eat room bytes top sets_it =
    let S : State = state_of (whole p (f ∷ fs) m out st) in
    let F : meaning.Frame = frame_state p fs f in
    let there : nat_lt stack_end (at + n) ≡ false = le-ltb stack_end (at + n) room in
    let all : live w ≡ laid (live m) m.top (zeros (at + n - m.top)) = bytes ∙ ap (λ t. laid (live m) m.top (zeros (t - m.top))) top in
    rw (ea, ← eat, there) (λ i. Ok (record S { frames = record F { index = ek i + 1; temps = sym sets_it i } ∷ frames_state p fs; memory = sym all i; top = sym top i }))

pub grow_faults : {A : Type 0} (p : Program A) (s : State) (f : meaning.Frame) (fs : List meaning.Frame) (to : Target) (op : AllocOp) (a : Operand) (n : ℕ)
    → val p f.temps classes.L a ≡ Ok n → stack_end < rounded (alignment op) s.top + n
    → performed p s (f ∷ fs) (insts.Alloc to op a) ≡ Err stack_full
grow_faults p s f fs to op a n ea room =
    let there : nat_lt stack_end (rounded (alignment op) s.top + n) ≡ true = lt-ltb stack_end (rounded (alignment op) s.top + n) room in
    rw (ea, there) refl

pub grow_goes : {A : Type 0} (p : Program A) (s : State) (f : meaning.Frame) (fs : List meaning.Frame) (to : Target) (op : AllocOp) (a : Operand) (n : ℕ)
    → val p f.temps classes.L a ≡ Ok n → rounded (alignment op) s.top + n ≤ stack_end → IsOk (performed p s (f ∷ fs) (insts.Alloc to op a))
grow_goes p s f fs to op a n ea room =
    let there : nat_lt stack_end (rounded (alignment op) s.top + n) ≡ false = le-ltb stack_end (rounded (alignment op) s.top + n) room in
    rw (ea, there) refl

pub blit_is : {A : Type 0} (p : Program A) (s : State) (f : meaning.Frame) (fs : List meaning.Frame) (a b : Operand) (n from to : ℕ) → val p f.temps classes.L a ≡ Ok from → val p f.temps classes.L b ≡ Ok to
    → performed p s (f ∷ fs) (insts.Blit a b n) ≡ (copied (blitted s.memory from to n) >>= λ m. Ok (record s { frames = next f ∷ fs; memory = m }))
blit_is p s f fs a b n from to ea eb = rw (ea, eb) refl

-- ---- operands that are unset

-- the instruction reads this operand first, or these two and no other
abbrev pub ReadsFirst : {A : Type 0} → NumberedInst A → Class → NumberedOperand → Type 0
ReadsFirst (numbered.Store size a b) c x = (stored_class size ≡ c) × (a ≡ x)
ReadsFirst (numbered.Blit a b n) c x = (classes.L ≡ c) × (a ≡ x)
ReadsFirst (numbered.Alloc d s op a) c x = (classes.L ≡ c) × (a ≡ x)
ReadsFirst inst c x = ⊥

abbrev pub ReadsBoth : {A : Type 0} → NumberedInst A → Class → NumberedOperand → Class → NumberedOperand → Type 0
ReadsBoth (numbered.Store size a b) c x d y = (stored_class size ≡ c) × (a ≡ x) × (classes.L ≡ d) × (b ≡ y)
ReadsBoth (numbered.Blit a b n) c x d y = (classes.L ≡ c) × (a ≡ x) × (classes.L ≡ d) × (b ≡ y)
ReadsBoth inst c x d y = ⊥

pub first_unset : {A : Type 0} (p : Program A) (s : State) (f : meaning.Frame) (fs : List meaning.Frame) (inst : NumberedInst A) (ns : List Name) (c : Class) (x : NumberedOperand) (why : Fault) → ReadsFirst inst c x
    → val p f.temps c (named_operand ns x) ≡ Err why → performed p s (f ∷ fs) (named_inst ns inst) ≡ Err why
first_unset p s f fs (numbered.Assign d t e) ns c x why is e2 = absurd is
first_unset p s f fs (numbered.Alloc d t op a) ns c x why is e =
    let f1 : val p f.temps classes.L (named_operand ns a) ≡ Err why = rw (is.0, is.1) e in
    rw f1 refl
first_unset p s f fs (numbered.Store size a b) ns c x why is e =
    let f1 : val p f.temps (stored_class size) (named_operand ns a) ≡ Err why = rw (is.0, is.1) e in
    rw f1 refl
first_unset p s f fs (numbered.Blit a b n) ns c x why is e =
    let f1 : val p f.temps classes.L (named_operand ns a) ≡ Err why = rw (is.0, is.1) e in
    rw f1 refl
first_unset p s f fs (numbered.Call to callee args) ns c x why is e = absurd is

pub second_unset : {A : Type 0} (p : Program A) (s : State) (f : meaning.Frame) (fs : List meaning.Frame) (inst : NumberedInst A) (ns : List Name) (c d : Class) (x y : NumberedOperand) (v : ℕ) (why : Fault) → ReadsBoth inst c x d y
    → val p f.temps c (named_operand ns x) ≡ Ok v → val p f.temps d (named_operand ns y) ≡ Err why → performed p s (f ∷ fs) (named_inst ns inst) ≡ Err why
second_unset p s f fs (numbered.Assign k t e) ns c d x y v why is e1 e2 = absurd is
second_unset p s f fs (numbered.Alloc k t op a) ns c d x y v why is e1 e2 = absurd is
second_unset p s f fs (numbered.Store size a b) ns c d x y v why is e1 e2 =
    let f1 : val p f.temps (stored_class size) (named_operand ns a) ≡ Ok v = rw (is.0, is.1) e1 in
    let f2 : val p f.temps classes.L (named_operand ns b) ≡ Err why = rw (is.2, is.3) e2 in
    rw (f1, f2) refl
second_unset p s f fs (numbered.Blit a b n) ns c d x y v why is e1 e2 =
    let f1 : val p f.temps classes.L (named_operand ns a) ≡ Ok v = rw (is.0, is.1) e1 in
    let f2 : val p f.temps classes.L (named_operand ns b) ≡ Err why = rw (is.2, is.3) e2 in
    rw (f1, f2) refl
second_unset p s f fs (numbered.Call to callee args) ns c d x y v why is e1 e2 = absurd is
