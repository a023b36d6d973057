-- What a call finds at its address, and its operands, from slots to names.
use Rattle.std.proofs.Common.{◌≡◌, refl, sym, ap, ◌∙◌, subst, ℕ, zero, suc, ◌-◌, ◌/◌, ◌%◌, ◌==◌, ◌<◌, Bool, true, false, ◌&&◌, if◌then◌else◌, List, [], ◌∷◌, length, map, Option, Some, None, Result, Ok, Err, arith}
use Rattle.std.specs.Prelude.{slice_get, option_map, nat_lt, codes, IsSome}
use Rattle.std.proofs.lemmas.Bool.{ltb-true}
use Rattle.qil_tree.specs.declared.ops.Class.TheVariants as classes
use Rattle.qil_tree.specs.declared.tree.Argument.{Argument}
use Rattle.qil_tree.specs.declared.tree.CallResult.{CallResult}
use Rattle.qil_tree.specs.declared.tree.InstKind.TheVariants as insts
use Rattle.qil_tree.specs.declared.tree.Operand.{Operand}
use Rattle.qil_tree.specs.declared.tree.Program.{Program}
use Rattle.qil_rules.specs.Operands.{argument_read}
use Rattle.qil_layout.specs.declared.callee.Callee.{Callee}
use Rattle.qil_layout.specs.declared.callee.Callee.TheVariants.{Defined, PutChar, Puts, Exit}
use Rattle.qil_layout.specs.declared.callee.FuncId.{FuncId}
use Rattle.qil_layout.specs.Callee as layout
use Rattle.qil_layout.specs.Callee.{callee_at, defined_at, lies}
use Rattle.qil_memory.specs.Buffers.{Buffers}
use Rattle.qil_semantics.specs.State as meaning
use Rattle.qil_semantics.specs.State.{Name, Temps, State, no_function}
use Rattle.qil_semantics.specs.Slots.{temps_of}
use Rattle.qil_semantics.specs.Values.{Outcome, ◌>>=◌, val, vals}
use Rattle.qil_semantics.specs.Step.{act}
use Rattle.qil_code.specs.declared.numbered.Receiver.{Receiver}
use Rattle.qil_code.specs.declared.numbered.NumberedOperand.{NumberedOperand}
use Rattle.qil_code.specs.declared.numbered.NumberedArgument.{NumberedArgument}
use Rattle.qil_code.specs.declared.numbered.NumberedInst.TheVariants as numbered
use Rattle.qil_code.specs.Named.{named_operand, named_receiver, named_argument}
use Rattle.qil_code.specs.Numbered.{names_of}
use Rattle.qil_frames.specs.Frames.{SlotFrame}
use Rattle.qil_state.specs.declared.status.Fault.{Fault}
use Rattle.qil_state.specs.declared.status.Status.{Status}
use Rattle.qil_state.specs.Faults.{fault_of}
use Rattle.qil_state.specs.State.{Whole, whole, state_of, frame_state, frames_state, head_names, FramesFit, ReceiverFits, IsMachine}
use Rattle.qil_state.specs.Stepping.{performed, performed_whole}
use Rattle.qil_state.specs.Values.{AreSlots, argument_values, reported_with}
use Rattle.qil_state.proofs.Reading.{are_slots}
use Rattle.qil_machine.specs.declared.error.StepError.{StepError}
use Rattle.qil_machine.specs.Results.{Explains}
use Rattle.qil_machine.specs.Calls.{HasArguments, IsThere, called_whole}
use Rattle.qil_machine.specs.Steps.{HasInst}
use Rattle.qil_machine.proofs.Steps.{AreOf, ReadIn}

-- ---- what lies at the address

index_in : Option Callee → ℕ
index_in (Some (Defined func)) = func.index
index_in o = 0

defined_by : (b c d : Bool) (o : Option ℕ) (func : FuncId) → Some (Defined func) ≡ (if b then Some PutChar else (if c then Some Puts else (if d then Some Exit else option_map defined_at o))) → o ≡ Some func.index
unfolding index_in
defined_by true c d o func e = absurd (cc)
defined_by false true d o func e = absurd (cc)
defined_by false false true o func e = absurd (cc)
defined_by false false false None func e = absurd (cc)
defined_by false false false (Some i) func e = ap (λ q. Some (index_in q)) (sym e)

both_true : (a b : Bool) → (a && b) ≡ true → b ≡ true
both_true true b e = e
both_true false b e = absurd (cc)

low_index : (b c : Bool) (i j n : ℕ) → (c ≡ true → i < n) → (if b then None else (if c then Some i else None)) ≡ Some j → j < n
low_index true c i j n h e = absurd (cc)
low_index false false i j n h e = absurd (cc)
low_index false true i j n h e = let same : i ≡ j = cc in let l = h refl in omega (arith, same, l)

some_at : {X : Type 0} (xs : List X) (i : ℕ) → i < length xs → IsSome (slice_get xs i)
some_at [] i l = absurd (omega (arith, l))
some_at (x ∷ xs) zero l = refl
some_at (x ∷ xs) (suc i) l = some_at xs i (omega (arith, l))

there_at : {A : Type 0} (p : Program A) (a : ℕ) (callee : Callee) → Some callee ≡ callee_at p a → IsThere p callee
there_at p a (Defined func) e =
    let at : layout.func_at p a ≡ Some func.index = defined_by (lies p (codes "putchar") 1024 a) (lies p (codes "puts") 1040 a) (lies p (codes "exit") 1056 a) (layout.func_at p a) func e in
    some_at p.funcs func.index
    (low_index (nat_lt a 4096) ((a - 4096) % 16 == 0 && nat_lt ((a - 4096) / 16) (length p.funcs)) ((a - 4096) / 16) func.index (length p.funcs)
    (λ t. ltb-true ((a - 4096) / 16) (length p.funcs) (both_true ((a - 4096) % 16 == 0) (nat_lt ((a - 4096) / 16) (length p.funcs)) t)) at)
there_at p a PutChar e = tt
there_at p a Puts e = tt
there_at p a Exit e = tt

pub callee_there : {A : Type 0} (m now : Whole A) (a : ℕ) (callee : Callee) → m ≡ now → Some callee ≡ callee_at m.program a → IsThere now.program callee
callee_there {A} m now a callee same e = subst (λ (x : Whole A). IsThere x.program callee) same (there_at m.program a callee e)

pub found_is : {A : Type 0} (m now : Whole A) (to : Option Receiver) (args : List NumberedArgument) (a : ℕ) (o : Option Callee) → m ≡ now → o ≡ callee_at m.program a
    → called_whole now to args a o ≡ called_whole now to args a (callee_at now.program a)
found_is {A} m now to args a o same e = ap (called_whole now to args a) (e ∙ ap (λ (x : Whole A). callee_at x.program a) same)

pub found_explains : {A : Type 0} (m now : Whole A) (to : Option Receiver) (args : List NumberedArgument) (a : ℕ) (o : Option Callee) (e : StepError) → m ≡ now → o ≡ callee_at m.program a
    → Explains (head_names now.program now.frames) (called_whole now to args a o) e → Explains (head_names now.program now.frames) (called_whole now to args a (callee_at now.program a)) e
found_explains m now to args a o e same is h = subst (λ (r : Outcome State). Explains (head_names now.program now.frames) r e) (found_is m now to args a o same is) h

nothing_at : {A : Type 0} (p : Program A) (fs : List SlotFrame) (m : Buffers) (out : List ℕ) (st : Status) (to : Option Receiver) (args : List NumberedArgument) (a : ℕ) → HasArguments fs args
    → called_whole (whole p fs m out st) to args a None ≡ Err (no_function a)
nothing_at p [] m out st to args a has = absurd has
nothing_at p (f ∷ fs) m out st to args a has = refl

pub nothing_found : {A : Type 0} (m now : Whole A) (to : Option Receiver) (args : List NumberedArgument) (a : ℕ) → m ≡ now → None ≡ callee_at m.program a → HasArguments now.frames args
    → called_whole now to args a (callee_at now.program a) ≡ Err (no_function a)
nothing_found m now to args a same e has =
    sym (found_is m now to args a None same e) ∙ nothing_at now.program now.frames now.memory now.output now.status to args a has

-- ---- the operands

pub call_receiver : {A : Type 0} (p : Program A) (fs : List SlotFrame) (to : Option Receiver) (callee : NumberedOperand) (args : List NumberedArgument) → HasInst p fs (numbered.Call to callee args) → ReceiverFits fs to
call_receiver p [] to callee args h = absurd h
call_receiver p (f ∷ fs) None callee args h = tt
call_receiver p (f ∷ fs) (Some to) callee args h = h.0

pub call_arguments : {A : Type 0} (p : Program A) (fs : List SlotFrame) (to : Option Receiver) (callee : NumberedOperand) (args : List NumberedArgument) → HasInst p fs (numbered.Call to callee args) → HasArguments fs args
call_arguments p [] to callee args h = absurd h
call_arguments p (f ∷ fs) to callee args h = h.2

-- what came of looking at arguments in slots
abbrev pub PassedIn : (A : Type 0) {X : Type 0} → List (Option ℕ) → List NumberedArgument → Result X Fault → Type 0
PassedIn A vs args r = (p : Program A) (ns : List Name) → AreSlots ns vs → reported_with (argument_values vs args) ns r ≡ vals p (temps_of ns vs) (map argument_read (map (named_argument ns) args))

-- one of them is unset
abbrev pub UnsetIn : (A : Type 0) → List (Option ℕ) → List NumberedArgument → Fault → Type 0
UnsetIn A vs args why = (p : Program A) (ns : List Name) → AreSlots ns vs → Err (fault_of ns why) ≡ vals p (temps_of ns vs) (map argument_read (map (named_argument ns) args))

reads_on : {A : Type 0} (p : Program A) (s : State) (f : meaning.Frame) (fs : List meaning.Frame) (to : Option CallResult) (callee : Operand) (args : List Argument) (o : Outcome ℕ) (q : Outcome (List ℕ))
    → val p f.temps classes.L callee ≡ o → vals p f.temps (map argument_read args) ≡ q
    → performed p s (f ∷ fs) (insts.Call to callee args) ≡ ((o >>= λ v. q >>= λ vs. Ok (v ∷ vs)) >>= act p s f fs (insts.Call to callee args))
reads_on p s f fs to callee args o q eo eq = λ i. (eo i >>= λ v. eq i >>= λ vs. Ok (v ∷ vs)) >>= act p s f fs (insts.Call to callee args)

callee_unset_at : {A : Type 0} (p : Program A) (fs : List SlotFrame) (m : Buffers) (out : List ℕ) (st : Status) (to : Option Receiver) (callee : NumberedOperand) (args : List NumberedArgument) (vs : List (Option ℕ)) (why : Fault) → FramesFit p fs → AreOf fs vs
    → ReadIn A vs classes.L callee (Err why) → performed_whole (whole p fs m out st) (numbered.Call to callee args) ≡ Err (fault_of (head_names p fs) why)
callee_unset_at p [] m out st to callee args vs why fits of ra = absurd of
callee_unset_at {A} p (f ∷ fs) m out st to callee args vs why fits of ra =
    let ns : List Name = names_of p f.func in
    let here : ReadIn A f.slots classes.L callee (Err why) = subst (λ us. ReadIn A us classes.L callee (Err why)) of ra in
    reads_on p (state_of (whole p (f ∷ fs) m out st)) (frame_state p fs f) (frames_state p fs) (option_map (named_receiver ns) to) (named_operand ns callee) (map (named_argument ns) args) (Err (fault_of ns why))
    (vals p (temps_of ns f.slots) (map argument_read (map (named_argument ns) args))) (sym (here p ns (are_slots p f fits.0))) refl

pub callee_unset : {A : Type 0} (m now : Whole A) (to : Option Receiver) (callee : NumberedOperand) (args : List NumberedArgument) (vs : List (Option ℕ)) (why : Fault) → m ≡ now → IsMachine m → AreOf m.frames vs → ReadIn A vs classes.L callee (Err why)
    → performed_whole now (numbered.Call to callee args) ≡ Err (fault_of (head_names now.program now.frames) why)
callee_unset {A} m now to callee args vs why same ok of ra =
    subst (λ (x : Whole A). performed_whole x (numbered.Call to callee args) ≡ Err (fault_of (head_names x.program x.frames) why)) same
    (callee_unset_at m.program m.frames m.memory m.output m.status to callee args vs why ok.frames of ra)

argument_unset_at : {A : Type 0} (p : Program A) (fs : List SlotFrame) (m : Buffers) (out : List ℕ) (st : Status) (to : Option Receiver) (callee : NumberedOperand) (args : List NumberedArgument) (vs : List (Option ℕ)) (a : ℕ) (why : Fault) → FramesFit p fs → AreOf fs vs
    → ReadIn A vs classes.L callee (Ok a) → UnsetIn A vs args why → performed_whole (whole p fs m out st) (numbered.Call to callee args) ≡ Err (fault_of (head_names p fs) why)
argument_unset_at p [] m out st to callee args vs a why fits of ra rs = absurd of
argument_unset_at {A} p (f ∷ fs) m out st to callee args vs a why fits of ra rs =
    let ns : List Name = names_of p f.func in
    let are : AreSlots ns f.slots = are_slots p f fits.0 in
    let here : ReadIn A f.slots classes.L callee (Ok a) = subst (λ us. ReadIn A us classes.L callee (Ok a)) of ra in
    let those : UnsetIn A f.slots args why = subst (λ us. UnsetIn A us args why) of rs in
    reads_on p (state_of (whole p (f ∷ fs) m out st)) (frame_state p fs f) (frames_state p fs) (option_map (named_receiver ns) to) (named_operand ns callee) (map (named_argument ns) args) (Ok a) (Err (fault_of ns why))
    (sym (here p ns are)) (sym (those p ns are))

pub argument_unset : {A : Type 0} (m now : Whole A) (to : Option Receiver) (callee : NumberedOperand) (args : List NumberedArgument) (vs : List (Option ℕ)) (a : ℕ) (why : Fault) → m ≡ now → IsMachine m → AreOf m.frames vs → ReadIn A vs classes.L callee (Ok a)
    → UnsetIn A vs args why → performed_whole now (numbered.Call to callee args) ≡ Err (fault_of (head_names now.program now.frames) why)
argument_unset {A} m now to callee args vs a why same ok of ra rs =
    subst (λ (x : Whole A). performed_whole x (numbered.Call to callee args) ≡ Err (fault_of (head_names x.program x.frames) why)) same
    (argument_unset_at m.program m.frames m.memory m.output m.status to callee args vs a why ok.frames of ra rs)

call_is_at : {A X : Type 0} (p : Program A) (fs : List SlotFrame) (m : Buffers) (out : List ℕ) (st : Status) (to : Option Receiver) (callee : NumberedOperand) (args : List NumberedArgument) (vs : List (Option ℕ)) (a : ℕ) (x : X) → FramesFit p fs → AreOf fs vs
    → ReadIn A vs classes.L callee (Ok a) → PassedIn A vs args (Ok x) → performed_whole (whole p fs m out st) (numbered.Call to callee args) ≡ called_whole (whole p fs m out st) to args a (callee_at p a)
call_is_at p [] m out st to callee args vs a x fits of ra rs = absurd of
call_is_at {A} p (f ∷ fs) m out st to callee args vs a x fits of ra rs =
    let ns : List Name = names_of p f.func in
    let are : AreSlots ns f.slots = are_slots p f fits.0 in
    let here : ReadIn A f.slots classes.L callee (Ok a) = subst (λ us. ReadIn A us classes.L callee (Ok a)) of ra in
    let those : PassedIn A f.slots args (Ok x) = subst (λ us. PassedIn A us args (Ok x)) of rs in
    reads_on p (state_of (whole p (f ∷ fs) m out st)) (frame_state p fs f) (frames_state p fs) (option_map (named_receiver ns) to) (named_operand ns callee) (map (named_argument ns) args) (Ok a) (Ok (argument_values f.slots args))
    (sym (here p ns are)) (sym (those p ns are))

pub call_is : {A X : Type 0} (m now : Whole A) (to : Option Receiver) (callee : NumberedOperand) (args : List NumberedArgument) (vs : List (Option ℕ)) (a : ℕ) (x : X) → m ≡ now → IsMachine m → AreOf m.frames vs → ReadIn A vs classes.L callee (Ok a)
    → PassedIn A vs args (Ok x) → performed_whole now (numbered.Call to callee args) ≡ called_whole now to args a (callee_at now.program a)
call_is {A} m now to callee args vs a x same ok of ra rs =
    subst (λ (w : Whole A). performed_whole w (numbered.Call to callee args) ≡ called_whole w to args a (callee_at w.program a)) same
    (call_is_at m.program m.frames m.memory m.output m.status to callee args vs a x ok.frames of ra rs)
