-- What instructions do, from what code reads in slots to the step by names.
use Rattle.std.proofs.Common.{◌≡◌, refl, sym, ap, ◌∙◌, subst, ℕ, ◌+◌, ◌-◌, ◌≤◌, List, [], ◌∷◌, Option, Some, Result, Ok, Err}
use Rattle.std.specs.Prelude.{slice_get}
use Rattle.qil_tree.specs.declared.ops.Class.{Class}
use Rattle.qil_tree.specs.declared.ops.Class.TheVariants as classes
use Rattle.qil_tree.specs.declared.ops.Width.{Width}
use Rattle.qil_tree.specs.declared.ops.AllocOp.{AllocOp}
use Rattle.qil_tree.specs.declared.tree.Program.{Program}
use Rattle.qil_rules.specs.Operands.{stored_class}
use Rattle.qil_layout.specs.Layout.{width_bytes, rounded, zeros}
use Rattle.qil_ops.specs.Values.{width, low_bits}
use Rattle.qil_memory.specs.Buffers.{Buffers, stack_end}
use Rattle.qil_memory.specs.Live.{live, laid}
use Rattle.qil_memory.specs.Calls.{stored, blitted}
use Rattle.qil_semantics.specs.State as meaning
use Rattle.qil_semantics.specs.State.{Name, State}
use Rattle.qil_semantics.specs.Calls.{next}
use Rattle.qil_semantics.specs.Slots.{temps_of}
use Rattle.qil_semantics.specs.Values.{Outcome, ◌>>=◌, val}
use Rattle.qil_semantics.specs.Step.{alignment, copied}
use Rattle.qil_code.specs.declared.numbered.Slot.{Slot}
use Rattle.qil_code.specs.declared.numbered.NumberedOperand.{NumberedOperand}
use Rattle.qil_code.specs.declared.numbered.NumberedExpr.{NumberedExpr}
use Rattle.qil_code.specs.declared.numbered.NumberedInst.{NumberedInst}
use Rattle.qil_code.specs.declared.numbered.NumberedInst.TheVariants as insts
use Rattle.qil_code.specs.Named.{named_operand, named_target, named_expr}
use Rattle.qil_code.specs.Numbered.{names_of}
use Rattle.qil_frames.specs.Frames.{SlotFrame, on_innermost, with_slot, at_index}
use Rattle.qil_state.specs.declared.status.Fault.{Fault}
use Rattle.qil_state.specs.declared.status.Fault.TheVariants as faults
use Rattle.qil_state.specs.declared.status.Status.{Status}
use Rattle.qil_state.specs.Faults.{fault_of, reported}
use Rattle.qil_state.specs.Values.{AreSlots, evaluated}
use Rattle.qil_state.specs.State.{Whole, whole, state_of, frame_state, frames_state, head_names, FramesFit, IsMachine, IsNext}
use Rattle.qil_state.specs.Stepping.{performed_whole}
use Rattle.qil_state.proofs.Place.{none_some, some_same}
use Rattle.qil_state.proofs.Reading.{are_slots, slot_written}
use Rattle.qil_machine.specs.declared.error.StepError.{StepError}
use Rattle.qil_machine.specs.declared.error.StepError.TheVariants as errors
use Rattle.qil_machine.specs.Results.{Explains, GrowExplains}
use Rattle.qil_machine.specs.Steps.{HasInst}
use Rattle.qil_machine.proofs.Does.{assign_does, assign_faults, store_does, store_faults, blit_does, blit_is, grow_does, grow_faults, grow_goes, ReadsFirst, ReadsBoth, first_unset, second_unset}

-- what was read of an operand in slots, and of an expression
abbrev pub ReadIn : (A : Type 0) → List (Option ℕ) → Class → NumberedOperand → Result ℕ Fault → Type 0
ReadIn A vs c a r = (p : Program A) (ns : List Name) → AreSlots ns vs → reported ns r ≡ val p (temps_of ns vs) c (named_operand ns a)

abbrev pub EvaluatedIn : (A : Type 0) → Buffers → List (Option ℕ) → Class → NumberedExpr → Result ℕ Fault → Type 0
EvaluatedIn A m vs c e r = (p : Program A) (ns : List Name) → AreSlots ns vs → reported ns r ≡ evaluated p (live m) (temps_of ns vs) c (named_expr ns e)

-- the slots are those of the innermost frame
abbrev pub AreOf : List SlotFrame → List (Option ℕ) → Type 0
AreOf [] vs = ⊥
AreOf (f ∷ fs) vs = vs ≡ f.slots

pub slots_are : (fs : List SlotFrame) (fr : SlotFrame) (vs : List (Option ℕ)) → slice_get fs 0 ≡ Some fr → vs ≡ fr.slots → AreOf fs vs
slots_are [] fr vs at e = none_some at
slots_are (f ∷ fs) fr vs at e = e ∙ ap (λ (g : SlotFrame). g.slots) (sym (some_same f fr at))

-- ---- a slot is set to the value of an expression

assign_at : {A : Type 0} (p : Program A) (fs : List SlotFrame) (m : Buffers) (out : List ℕ) (st : Status) (vs : List (Option ℕ)) (c : Class) (s : Slot) (e : NumberedExpr) (k v : ℕ) → FramesFit p fs → AreOf fs vs
    → EvaluatedIn A m vs c e (Ok v) → HasInst p fs (insts.Assign c s e) → IsNext p fs k
    → performed_whole (whole p fs m out st) (insts.Assign c s e) ≡ Ok (state_of (whole p (on_innermost (at_index (k + 1)) (on_innermost (with_slot s (Some (low_bits (width c) v))) fs)) m out st))
assign_at p [] m out st vs c s e k v fits of ev h n = absurd h
assign_at {A} p (f ∷ fs) m out st vs c s e k v fits of ev h n =
    let ns : List Name = names_of p f.func in
    let are : AreSlots ns f.slots = are_slots p f fits.0 in
    let here : EvaluatedIn A m f.slots c e (Ok v) = subst (λ us. EvaluatedIn A m us c e (Ok v)) of ev in
    assign_does p f fs m out st (named_target ns s c) (named_expr ns e) s.index k v (sym (here p ns are)) n.0 (slot_written ns f.slots s.index (Some (low_bits (width c) v)) are h.0)

pub assign_steps : {A : Type 0} (m now new : Whole A) (vs : List (Option ℕ)) (c : Class) (s : Slot) (e : NumberedExpr) (k v w : ℕ) → m ≡ now → IsMachine m → AreOf m.frames vs → EvaluatedIn A m.memory vs c e (Ok v) → w ≡ low_bits (width c) v
    → HasInst now.program now.frames (insts.Assign c s e) → IsNext now.program now.frames k → new ≡ record now { frames = on_innermost (at_index (k + 1)) (on_innermost (with_slot s (Some w)) now.frames) }
    → performed_whole now (insts.Assign c s e) ≡ Ok (state_of new)
assign_steps {A} m now new vs c s e k v w same ok of ev ew h n en =
    subst (λ (x : Whole A). HasInst x.program x.frames (insts.Assign c s e) → IsNext x.program x.frames k → new ≡ record x { frames = on_innermost (at_index (k + 1)) (on_innermost (with_slot s (Some w)) x.frames) } → performed_whole x (insts.Assign c s e) ≡ Ok (state_of new)) same
    (λ h n en. assign_at m.program m.frames m.memory m.output m.status vs c s e k v ok.frames of ev h n
    ∙ ap (λ u. Ok (state_of (record m { frames = on_innermost (at_index (k + 1)) (on_innermost (with_slot s (Some u)) m.frames) }))) (sym ew) ∙ ap (λ (y : Whole A). Ok (state_of y)) (sym en)) h n en

assign_stuck : {A : Type 0} (p : Program A) (fs : List SlotFrame) (m : Buffers) (out : List ℕ) (st : Status) (vs : List (Option ℕ)) (c : Class) (s : Slot) (e : NumberedExpr) (why : Fault) → FramesFit p fs → AreOf fs vs
    → EvaluatedIn A m vs c e (Err why) → performed_whole (whole p fs m out st) (insts.Assign c s e) ≡ Err (fault_of (head_names p fs) why)
assign_stuck p [] m out st vs c s e why fits of ev = absurd of
assign_stuck {A} p (f ∷ fs) m out st vs c s e why fits of ev =
    let ns : List Name = names_of p f.func in
    let here : EvaluatedIn A m f.slots c e (Err why) = subst (λ us. EvaluatedIn A m us c e (Err why)) of ev in
    assign_faults p (state_of (whole p (f ∷ fs) m out st)) (frame_state p fs f) (frames_state p fs) (named_target ns s c) (named_expr ns e) (fault_of ns why) (sym (here p ns (are_slots p f fits.0)))

pub assign_fails : {A : Type 0} (m now : Whole A) (vs : List (Option ℕ)) (c : Class) (s : Slot) (e : NumberedExpr) (why : Fault) → m ≡ now → IsMachine m → AreOf m.frames vs → EvaluatedIn A m.memory vs c e (Err why)
    → performed_whole now (insts.Assign c s e) ≡ Err (fault_of (head_names now.program now.frames) why)
assign_fails {A} m now vs c s e why same ok of ev =
    subst (λ (x : Whole A). performed_whole x (insts.Assign c s e) ≡ Err (fault_of (head_names x.program x.frames) why)) same
    (assign_stuck m.program m.frames m.memory m.output m.status vs c s e why ok.frames of ev)

-- ---- operands of the innermost frame

read_here : {A : Type 0} (p : Program A) (f : SlotFrame) (vs : List (Option ℕ)) (c : Class) (a : NumberedOperand) (r : Result ℕ Fault) → AreSlots (names_of p f.func) f.slots → vs ≡ f.slots → ReadIn A vs c a r
    → val p (temps_of (names_of p f.func) f.slots) c (named_operand (names_of p f.func) a) ≡ reported (names_of p f.func) r
read_here {A} p f vs c a r are of read = sym ((subst (λ us. ReadIn A us c a r) of read) p (names_of p f.func) are)

-- what is done next with no fault left explains as much
explains_on : {X Y : Type 0} (ns : List Name) (o : Outcome X) (g : X → Y) (e : StepError) → Explains ns o e → Explains ns (o >>= λ x. Ok (g x)) e
explains_on ns (Ok x) g (errors.Fault f) h = absurd (cc)
explains_on ns (Err w) g (errors.Fault f) h = cc
explains_on ns (Ok x) g errors.OutOfMemory h = refl
explains_on ns (Err w) g errors.OutOfMemory h = absurd (cc)

-- ---- bytes are stored

store_at : {A : Type 0} (p : Program A) (fs : List SlotFrame) (m w : Buffers) (out : List ℕ) (st : Status) (vs : List (Option ℕ)) (size : Width) (a b : NumberedOperand) (k v at : ℕ) → FramesFit p fs → AreOf fs vs
    → ReadIn A vs (stored_class size) a (Ok v) → ReadIn A vs classes.L b (Ok at) → IsNext p fs k → stored (live m) at (width_bytes size) v ≡ Ok (live w) → w.top ≡ m.top
    → performed_whole (whole p fs m out st) (insts.Store size a b) ≡ Ok (state_of (whole p (on_innermost (at_index (k + 1)) fs) w out st))
store_at p [] m w out st vs size a b k v at fits of ra rb n bytes top = absurd of
store_at {A} p (f ∷ fs) m w out st vs size a b k v at fits of ra rb n bytes top =
    let ns : List Name = names_of p f.func in
    let are : AreSlots ns f.slots = are_slots p f fits.0 in
    store_does p f fs m w out st size (named_operand ns a) (named_operand ns b) k v at (read_here p f vs (stored_class size) a (Ok v) are of ra) (read_here p f vs classes.L b (Ok at) are of rb) n.0 bytes top

pub store_steps : {A : Type 0} (m now new : Whole A) (vs : List (Option ℕ)) (size : Width) (a b : NumberedOperand) (k v at : ℕ) → m ≡ now → IsMachine m → AreOf m.frames vs → ReadIn A vs (stored_class size) a (Ok v) → ReadIn A vs classes.L b (Ok at)
    → IsNext now.program now.frames k → stored (live now.memory) at (width_bytes size) v ≡ Ok (live new.memory) → new.memory.top ≡ now.memory.top
    → new ≡ record now { frames = on_innermost (at_index (k + 1)) now.frames; memory = new.memory } → performed_whole now (insts.Store size a b) ≡ Ok (state_of new)
store_steps {A} m now new vs size a b k v at same ok of ra rb n bytes top en =
    subst (λ (x : Whole A). IsNext x.program x.frames k → stored (live x.memory) at (width_bytes size) v ≡ Ok (live new.memory) → new.memory.top ≡ x.memory.top
    → new ≡ record x { frames = on_innermost (at_index (k + 1)) x.frames; memory = new.memory } → performed_whole x (insts.Store size a b) ≡ Ok (state_of new)) same
    (λ n bytes top en. store_at m.program m.frames m.memory new.memory m.output m.status vs size a b k v at ok.frames of ra rb n bytes top ∙ ap (λ (y : Whole A). Ok (state_of y)) (sym en)) n bytes top en

store_dead_at : {A : Type 0} (p : Program A) (fs : List SlotFrame) (m : Buffers) (out : List ℕ) (st : Status) (vs : List (Option ℕ)) (size : Width) (a b : NumberedOperand) (v at : ℕ) → FramesFit p fs → AreOf fs vs
    → ReadIn A vs (stored_class size) a (Ok v) → ReadIn A vs classes.L b (Ok at) → stored (live m) at (width_bytes size) v ≡ Err (record { address = at })
    → performed_whole (whole p fs m out st) (insts.Store size a b) ≡ Err (fault_of (head_names p fs) (faults.DeadAddress at))
store_dead_at p [] m out st vs size a b v at fits of ra rb dead = absurd of
store_dead_at {A} p (f ∷ fs) m out st vs size a b v at fits of ra rb dead =
    let ns : List Name = names_of p f.func in
    let are : AreSlots ns f.slots = are_slots p f fits.0 in
    store_faults p (state_of (whole p (f ∷ fs) m out st)) (frame_state p fs f) (frames_state p fs) size (named_operand ns a) (named_operand ns b) v at (read_here p f vs (stored_class size) a (Ok v) are of ra) (read_here p f vs classes.L b (Ok at) are of rb) dead

pub store_dead : {A : Type 0} (m now : Whole A) (vs : List (Option ℕ)) (size : Width) (a b : NumberedOperand) (v at : ℕ) (e : StepError) → m ≡ now → IsMachine m → AreOf m.frames vs → ReadIn A vs (stored_class size) a (Ok v) → ReadIn A vs classes.L b (Ok at)
    → e ≡ errors.Fault (faults.DeadAddress at) → stored (live now.memory) at (width_bytes size) v ≡ Err (record { address = at }) → Explains (head_names now.program now.frames) (performed_whole now (insts.Store size a b)) e
store_dead {A} m now vs size a b v at e same ok of ra rb ee dead =
    subst (λ (x : Whole A). stored (live x.memory) at (width_bytes size) v ≡ Err (record { address = at }) → Explains (head_names x.program x.frames) (performed_whole x (insts.Store size a b)) e) same
    (λ dead. rw ee (store_dead_at m.program m.frames m.memory m.output m.status vs size a b v at ok.frames of ra rb dead)) dead

-- ---- an operand that is unset, the first or the second of two

first_at : {A : Type 0} (p : Program A) (fs : List SlotFrame) (m : Buffers) (out : List ℕ) (st : Status) (vs : List (Option ℕ)) (inst : NumberedInst A) (c : Class) (a : NumberedOperand) (why : Fault) → FramesFit p fs → AreOf fs vs
    → ReadIn A vs c a (Err why) → ReadsFirst inst c a → performed_whole (whole p fs m out st) inst ≡ Err (fault_of (head_names p fs) why)
first_at p [] m out st vs inst c a why fits of ra is = absurd of
first_at {A} p (f ∷ fs) m out st vs inst c a why fits of ra is =
    let ns : List Name = names_of p f.func in
    first_unset p (state_of (whole p (f ∷ fs) m out st)) (frame_state p fs f) (frames_state p fs) inst ns c a (fault_of ns why) is (read_here p f vs c a (Err why) (are_slots p f fits.0) of ra)

pub first_fails : {A : Type 0} (m now : Whole A) (vs : List (Option ℕ)) (inst : NumberedInst A) (c : Class) (a : NumberedOperand) (why : Fault) → m ≡ now → IsMachine m → AreOf m.frames vs → ReadIn A vs c a (Err why) → ReadsFirst inst c a
    → performed_whole now inst ≡ Err (fault_of (head_names now.program now.frames) why)
first_fails {A} m now vs inst c a why same ok of ra is =
    subst (λ (x : Whole A). performed_whole x inst ≡ Err (fault_of (head_names x.program x.frames) why)) same (first_at m.program m.frames m.memory m.output m.status vs inst c a why ok.frames of ra is)

second_at : {A : Type 0} (p : Program A) (fs : List SlotFrame) (m : Buffers) (out : List ℕ) (st : Status) (vs : List (Option ℕ)) (inst : NumberedInst A) (c d : Class) (a b : NumberedOperand) (v : ℕ) (why : Fault) → FramesFit p fs → AreOf fs vs
    → ReadIn A vs c a (Ok v) → ReadIn A vs d b (Err why) → ReadsBoth inst c a d b → performed_whole (whole p fs m out st) inst ≡ Err (fault_of (head_names p fs) why)
second_at p [] m out st vs inst c d a b v why fits of ra rb is = absurd of
second_at {A} p (f ∷ fs) m out st vs inst c d a b v why fits of ra rb is =
    let ns : List Name = names_of p f.func in
    let are : AreSlots ns f.slots = are_slots p f fits.0 in
    second_unset p (state_of (whole p (f ∷ fs) m out st)) (frame_state p fs f) (frames_state p fs) inst ns c d a b v (fault_of ns why) is (read_here p f vs c a (Ok v) are of ra) (read_here p f vs d b (Err why) are of rb)

pub second_fails : {A : Type 0} (m now : Whole A) (vs : List (Option ℕ)) (inst : NumberedInst A) (c d : Class) (a b : NumberedOperand) (v : ℕ) (why : Fault) → m ≡ now → IsMachine m → AreOf m.frames vs → ReadIn A vs c a (Ok v) → ReadIn A vs d b (Err why)
    → ReadsBoth inst c a d b → performed_whole now inst ≡ Err (fault_of (head_names now.program now.frames) why)
second_fails {A} m now vs inst c d a b v why same ok of ra rb is =
    subst (λ (x : Whole A). performed_whole x inst ≡ Err (fault_of (head_names x.program x.frames) why)) same (second_at m.program m.frames m.memory m.output m.status vs inst c d a b v why ok.frames of ra rb is)

-- ---- bytes are copied

blit_at : {A : Type 0} (p : Program A) (fs : List SlotFrame) (m w : Buffers) (out : List ℕ) (st : Status) (vs : List (Option ℕ)) (a b : NumberedOperand) (n k from to : ℕ) → FramesFit p fs → AreOf fs vs
    → ReadIn A vs classes.L a (Ok from) → ReadIn A vs classes.L b (Ok to) → IsNext p fs k → blitted (live m) from to n ≡ Ok (live w) → w.top ≡ m.top
    → performed_whole (whole p fs m out st) (insts.Blit a b n) ≡ Ok (state_of (whole p (on_innermost (at_index (k + 1)) fs) w out st))
blit_at p [] m w out st vs a b n k from to fits of ra rb nx bytes top = absurd of
blit_at {A} p (f ∷ fs) m w out st vs a b n k from to fits of ra rb nx bytes top =
    let ns : List Name = names_of p f.func in
    let are : AreSlots ns f.slots = are_slots p f fits.0 in
    blit_does p f fs m w out st (named_operand ns a) (named_operand ns b) n k from to (read_here p f vs classes.L a (Ok from) are of ra) (read_here p f vs classes.L b (Ok to) are of rb) nx.0 bytes top

pub blit_steps : {A : Type 0} (m now new : Whole A) (vs : List (Option ℕ)) (a b : NumberedOperand) (n k from to : ℕ) → m ≡ now → IsMachine m → AreOf m.frames vs → ReadIn A vs classes.L a (Ok from) → ReadIn A vs classes.L b (Ok to)
    → IsNext now.program now.frames k → blitted (live now.memory) from to n ≡ Ok (live new.memory) → new.memory.top ≡ now.memory.top
    → new ≡ record now { frames = on_innermost (at_index (k + 1)) now.frames; memory = new.memory } → performed_whole now (insts.Blit a b n) ≡ Ok (state_of new)
blit_steps {A} m now new vs a b n k from to same ok of ra rb nx bytes top en =
    subst (λ (x : Whole A). IsNext x.program x.frames k → blitted (live x.memory) from to n ≡ Ok (live new.memory) → new.memory.top ≡ x.memory.top
    → new ≡ record x { frames = on_innermost (at_index (k + 1)) x.frames; memory = new.memory } → performed_whole x (insts.Blit a b n) ≡ Ok (state_of new)) same
    (λ nx bytes top en. blit_at m.program m.frames m.memory new.memory m.output m.status vs a b n k from to ok.frames of ra rb nx bytes top ∙ ap (λ (y : Whole A). Ok (state_of y)) (sym en)) nx bytes top en

blit_stuck : {A : Type 0} (p : Program A) (fs : List SlotFrame) (m : Buffers) (out : List ℕ) (st : Status) (vs : List (Option ℕ)) (a b : NumberedOperand) (n from to : ℕ) (e : StepError) → FramesFit p fs → AreOf fs vs
    → ReadIn A vs classes.L a (Ok from) → ReadIn A vs classes.L b (Ok to) → ((ns : List Name) → Explains ns (copied (blitted (live m) from to n)) e)
    → Explains (head_names p fs) (performed_whole (whole p fs m out st) (insts.Blit a b n)) e
blit_stuck p [] m out st vs a b n from to e fits of ra rb why = absurd of
blit_stuck {A} p (f ∷ fs) m out st vs a b n from to e fits of ra rb why =
    let ns : List Name = names_of p f.func in
    let are : AreSlots ns f.slots = are_slots p f fits.0 in
    let S : State = state_of (whole p (f ∷ fs) m out st) in
    let F : meaning.Frame = frame_state p fs f in
    subst (λ o. Explains ns o e)
    (sym (blit_is p S F (frames_state p fs) (named_operand ns a) (named_operand ns b) n from to (read_here p f vs classes.L a (Ok from) are of ra) (read_here p f vs classes.L b (Ok to) are of rb)))
    (explains_on ns (copied (blitted (live m) from to n)) (λ l. record S { frames = next F ∷ frames_state p fs; memory = l }) e (why ns))

pub blit_fails : {A : Type 0} (m now : Whole A) (vs : List (Option ℕ)) (a b : NumberedOperand) (n from to : ℕ) (e : StepError) → m ≡ now → IsMachine m → AreOf m.frames vs → ReadIn A vs classes.L a (Ok from) → ReadIn A vs classes.L b (Ok to)
    → ((ns : List Name) → Explains ns (copied (blitted (live now.memory) from to n)) e) → Explains (head_names now.program now.frames) (performed_whole now (insts.Blit a b n)) e
blit_fails {A} m now vs a b n from to e same ok of ra rb why =
    subst (λ (x : Whole A). ((ns : List Name) → Explains ns (copied (blitted (live x.memory) from to n)) e) → Explains (head_names x.program x.frames) (performed_whole x (insts.Blit a b n)) e) same
    (λ why. blit_stuck m.program m.frames m.memory m.output m.status vs a b n from to e ok.frames of ra rb why) why

-- ---- the stack grows

grow_at : {A : Type 0} (p : Program A) (fs : List SlotFrame) (m w : Buffers) (out : List ℕ) (st : Status) (vs : List (Option ℕ)) (c : Class) (s : Slot) (op : AllocOp) (a : NumberedOperand) (k n : ℕ) → FramesFit p fs → AreOf fs vs
    → ReadIn A vs classes.L a (Ok n) → HasInst p fs (insts.Alloc c s op a) → IsNext p fs k → rounded (alignment op) m.top + n ≤ stack_end
    → live w ≡ laid (live m) m.top (zeros (w.top - m.top)) → w.top ≡ rounded (alignment op) m.top + n
    → performed_whole (whole p fs m out st) (insts.Alloc c s op a) ≡ Ok (state_of (whole p (on_innermost (at_index (k + 1)) (on_innermost (with_slot s (Some (low_bits (width c) (rounded (alignment op) m.top)))) fs)) w out st))
grow_at p [] m w out st vs c s op a k n fits of ra h nx room bytes top = absurd of
grow_at {A} p (f ∷ fs) m w out st vs c s op a k n fits of ra h nx room bytes top =
    let ns : List Name = names_of p f.func in
    let are : AreSlots ns f.slots = are_slots p f fits.0 in
    grow_does p f fs m w out st (named_target ns s c) op (named_operand ns a) s.index k n (rounded (alignment op) m.top) (read_here p f vs classes.L a (Ok n) are of ra) nx.0 refl room bytes top
    (slot_written ns f.slots s.index (Some (low_bits (width c) (rounded (alignment op) m.top))) are h.0)

pub grow_steps : {A : Type 0} (m now new : Whole A) (vs : List (Option ℕ)) (c : Class) (s : Slot) (op : AllocOp) (a : NumberedOperand) (align k n : ℕ) → m ≡ now → IsMachine m → AreOf m.frames vs → ReadIn A vs classes.L a (Ok n) → align ≡ alignment op
    → HasInst now.program now.frames (insts.Alloc c s op a) → IsNext now.program now.frames k → rounded align now.memory.top + n ≤ stack_end
    → live new.memory ≡ laid (live now.memory) now.memory.top (zeros (new.memory.top - now.memory.top)) → new.memory.top ≡ rounded align now.memory.top + n
    → new ≡ record now { frames = on_innermost (at_index (k + 1)) (on_innermost (with_slot s (Some (low_bits (width c) (rounded align now.memory.top)))) now.frames); memory = new.memory }
    → performed_whole now (insts.Alloc c s op a) ≡ Ok (state_of new)
grow_steps {A} m now new vs c s op a align k n same ok of ra ea h nx room bytes top en =
    let Goal : ℕ → Whole A → Type 0 = λ al x. HasInst x.program x.frames (insts.Alloc c s op a) → IsNext x.program x.frames k → rounded al x.memory.top + n ≤ stack_end
    → live new.memory ≡ laid (live x.memory) x.memory.top (zeros (new.memory.top - x.memory.top)) → new.memory.top ≡ rounded al x.memory.top + n
    → new ≡ record x { frames = on_innermost (at_index (k + 1)) (on_innermost (with_slot s (Some (low_bits (width c) (rounded al x.memory.top)))) x.frames); memory = new.memory }
    → performed_whole x (insts.Alloc c s op a) ≡ Ok (state_of new) in
    subst (Goal align) same (subst (λ al. Goal al m) (sym ea)
    (λ h nx room bytes top en. grow_at m.program m.frames m.memory new.memory m.output m.status vs c s op a k n ok.frames of ra h nx room bytes top ∙ ap (λ (y : Whole A). Ok (state_of y)) (sym en))) h nx room bytes top en

grow_stuck : {A : Type 0} (p : Program A) (fs : List SlotFrame) (m : Buffers) (out : List ℕ) (st : Status) (vs : List (Option ℕ)) (c : Class) (s : Slot) (op : AllocOp) (a : NumberedOperand) (n : ℕ) (e : StepError) → FramesFit p fs → AreOf fs vs
    → ReadIn A vs classes.L a (Ok n) → GrowExplains e (rounded (alignment op) m.top + n) → Explains (head_names p fs) (performed_whole (whole p fs m out st) (insts.Alloc c s op a)) e
grow_stuck p [] m out st vs c s op a n e fits of ra why = absurd of
grow_stuck {A} p (f ∷ fs) m out st vs c s op a n (errors.Fault why) fits of ra full =
    let ns : List Name = names_of p f.func in
    rw full.0 (grow_faults p (state_of (whole p (f ∷ fs) m out st)) (frame_state p fs f) (frames_state p fs) (named_target ns s c) op (named_operand ns a) n (read_here p f vs classes.L a (Ok n) (are_slots p f fits.0) of ra) full.1)
grow_stuck {A} p (f ∷ fs) m out st vs c s op a n errors.OutOfMemory fits of ra room =
    let ns : List Name = names_of p f.func in
    grow_goes p (state_of (whole p (f ∷ fs) m out st)) (frame_state p fs f) (frames_state p fs) (named_target ns s c) op (named_operand ns a) n (read_here p f vs classes.L a (Ok n) (are_slots p f fits.0) of ra) room

pub grow_fails : {A : Type 0} (m now : Whole A) (vs : List (Option ℕ)) (c : Class) (s : Slot) (op : AllocOp) (a : NumberedOperand) (align n : ℕ) (e : StepError) → m ≡ now → IsMachine m → AreOf m.frames vs → ReadIn A vs classes.L a (Ok n) → align ≡ alignment op
    → GrowExplains e (rounded align now.memory.top + n) → Explains (head_names now.program now.frames) (performed_whole now (insts.Alloc c s op a)) e
grow_fails {A} m now vs c s op a align n e same ok of ra ea why =
    subst (λ (x : Whole A). GrowExplains e (rounded align x.memory.top + n) → Explains (head_names x.program x.frames) (performed_whole x (insts.Alloc c s op a)) e) same
    (subst (λ al. GrowExplains e (rounded al m.memory.top + n) → Explains (head_names m.program m.frames) (performed_whole m (insts.Alloc c s op a)) e) (sym ea)
    (grow_stuck m.program m.frames m.memory m.output m.status vs c s op a n e ok.frames of ra)) why
