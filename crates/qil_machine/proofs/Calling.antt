-- Calls of functions of the program, from the parts of a machine to the step by names.
use Rattle.std.proofs.Common.{◌≡◌, refl, sym, ap, ◌∙◌, subst, ℕ, ◌+◌, ◌<◌, ◌≤◌, Bool, true, false, ◌&&◌, if◌then◌else◌, List, [], ◌∷◌, length, map, replicate, Option, Some, None, Result, Ok, Err, IsOk, arith}
use Rattle.std.specs.Prelude.{slice_get, option_map, nat_lt}
use Rattle.std.proofs.lemmas.Bool.{lt-ltb, le-ltb}
use Rattle.std.proofs.lemmas.List.{length-map}
use Rattle.qil_tree.specs.declared.ops.AbiType.{AbiType}
use Rattle.qil_tree.specs.declared.ops.AbiType.TheVariants as types
use Rattle.qil_tree.specs.declared.tree.Argument.{Argument}
use Rattle.qil_tree.specs.declared.tree.Block.{Block}
use Rattle.qil_tree.specs.declared.tree.CallResult.{CallResult}
use Rattle.qil_tree.specs.declared.tree.Func.{Func}
use Rattle.qil_tree.specs.declared.tree.Program.{Program}
use Rattle.qil_layout.specs.declared.callee.Callee.TheVariants.{Defined, PutChar, Puts, Exit}
use Rattle.qil_layout.specs.declared.callee.Callee.{Callee}
use Rattle.qil_layout.specs.declared.callee.FuncId.{FuncId}
use Rattle.qil_memory.specs.Buffers.{Buffers}
use Rattle.qil_semantics.specs.State as meaning
use Rattle.qil_semantics.specs.State.{Name, Temps, State, calls_too_deep, call_shape}
use Rattle.qil_semantics.specs.Temps.{named}
use Rattle.qil_semantics.specs.Slots.{temps_of}
use Rattle.qil_semantics.specs.Values.{Outcome, ◌>>=◌, fit_all, first}
use Rattle.qil_semantics.specs.Calls.{next, first_label, begun, shape_of, agree, agree_all, gives, is_in_shape, in_shape, enters, call_defined, call_at, shape_of_putchar, shape_of_puts, shape_of_exit, putchar, puts}
use Rattle.qil_code.specs.declared.numbered.Slot.{Slot}
use Rattle.qil_code.specs.declared.numbered.Receiver.{Receiver}
use Rattle.qil_code.specs.declared.numbered.NumberedArgument.{NumberedArgument}
use Rattle.qil_code.specs.declared.numbered.NumberedBlock.{NumberedBlock}
use Rattle.qil_code.specs.declared.numbered.FuncCode.{FuncCode}
use Rattle.qil_code.specs.Named.{named_receiver, named_argument}
use Rattle.qil_code.specs.Numbered.{func_at, block_in, block_at, names_of}
use Rattle.qil_code.specs.Ranges.{FuncInRange}
use Rattle.qil_code.specs.Reading.{func_code_at, block_code_at}
use Rattle.qil_code.proofs.Readers.{IsCoded, coded, blocks-there}
use Rattle.qil_frames.specs.Frames.{SlotFrame, on_innermost, at_index}
use Rattle.qil_state.specs.declared.status.Status.{Status}
use Rattle.qil_state.specs.declared.status.Status.TheVariants.{Running, Exited}
use Rattle.qil_state.specs.declared.status.Fault.{Fault}
use Rattle.qil_state.specs.Faults.{fault_of}
use Rattle.qil_state.specs.State.{Whole, whole, state_of, frame_state, frames_state, head_names, func_name, label_in, PlaceFits, FrameFits, IsNext}
use Rattle.qil_state.specs.Values.{argument_values, shape_by}
use Rattle.qil_state.specs.Beginning.{begun_slots, passed_values}
use Rattle.qil_state.proofs.Beginning.{begun_temps, begun_long, begun_shape, passed_fit}
use Rattle.qil_state.proofs.Place.{BlockHere, block_here, block_at_here}
use Rattle.qil_machine.specs.Calls.{HasArguments, head_passed, called_whole, TakesOne}
use Rattle.qil_machine.specs.Places.{IsRunning}
use Rattle.qil_machine.proofs.Steps.{AreOf}

-- ---- the shape of a call

-- whether a call has a shape, whatever the names
abbrev pub HasShape : Bool → List (Slot × AbiType) → Option AbiType → Option Receiver → List NumberedArgument → Type 0
HasShape b ps returns to args = (ns : List Name) → b ≡ is_in_shape (shape_by ps returns) (option_map (named_receiver ns) to) (map (named_argument ns) args)

both : (a b : Bool) → (a && b) ≡ true → (a ≡ true) × (b ≡ true)
both true b e = (refl, e)
both false b e = absurd (cc)

agree_length : (ts us : List AbiType) → agree_all ts us ≡ true → length ts ≡ length us
agree_length [] [] e = refl
agree_length [] (u ∷ us) e = absurd (cc)
agree_length (t ∷ ts) [] e = absurd (cc)
agree_length (t ∷ ts) (u ∷ us) e =
    let deep : length ts ≡ length us = agree_length ts us ((both (agree t u) (agree_all ts us) e).1) in
    omega (arith, deep)

pub as_many : (b : Bool) (ps qs : List (Slot × AbiType)) (returns : Option AbiType) (to : Option Receiver) (args : List NumberedArgument) → b ≡ true → ps ≡ qs → HasShape b ps returns to args → length qs ≡ length args
as_many b ps qs returns to args eb ep is =
    let written : List Argument = map (named_argument []) args in
    let ts : List AbiType = map (λ (a : Argument). a.abi_type) written in
    let us : List AbiType = map (λ q. q.1) ps in
    let all : agree_all ts us ≡ true = (both (agree_all ts us) (gives (option_map (named_receiver []) to) returns) (sym (is []) ∙ eb)).0 in
    let same : length ts ≡ length us = agree_length ts us all in
    let left : length ts ≡ length args = length-map written (λ (a : Argument). a.abi_type) ∙ length-map args (named_argument []) in
    let right : length us ≡ length qs = length-map ps (λ q. q.1) ∙ ap (λ (l : List (Slot × AbiType)). length l) ep in
    omega (arith, same, left, right)

-- ---- the new frame

abbrev pub new_frame : {A : Type 0} → ℕ → FuncCode A → List ℕ → ℕ → Option Receiver → SlotFrame
new_frame i k vs floor to = record { func = i; block = 0; index = 0; slots = begun_slots k.code.params vs (replicate (length k.temps) None); floor = floor; result = to }

first_of : {A : Type 0} (p : Program A) (i : ℕ) (blocks : List (NumberedBlock A)) → 0 < length blocks → slice_get blocks 0 ≡ block_code_at p i 0 → PlaceFits (block_at p i 0) 0
first_of p i [] some e = absurd (omega (arith, some))
first_of {A} p i (b ∷ blocks) some e =
    let here : BlockHere p i 0 b = block_here p i 0 b (sym e) in
    subst (λ (o : Option (Block A)). PlaceFits o 0) (sym (block_at_here p i 0 here.func here.block here.func_is here.block_is)) (omega arith)

pub call_fits : {A : Type 0} (m now : Whole A) (i floor : ℕ) (k : FuncCode A) (vs : List ℕ) (to : Option Receiver) (g : SlotFrame) → m ≡ now → Some k ≡ func_code_at m.program i → FuncInRange k → g ≡ new_frame i k vs floor to
    → FrameFits now.program g
call_fits {A} m now i floor k vs to g same at range eg =
    let code : IsCoded m.program i k = coded m.program i k at in
    let fits : FrameFits m.program (new_frame i k vs floor to) = record {
      place = first_of m.program i k.code.blocks range.blocks (blocks-there m.program i 0 k code);
      slots = begun_long m.program i k vs code;
    } in
    subst (λ (x : Whole A). FrameFits x.program g) same (subst (FrameFits m.program) (sym eg) fits)

-- ---- what is done

same_long : {A : Type 0} (p : Program A) (fs : List SlotFrame) → length (frames_state p fs) ≡ length fs
same_long p [] = refl
same_long p (f ∷ fs) = let more : length (frames_state p fs) ≡ length fs = same_long p fs in omega (arith, more)

label_first : {A : Type 0} (blocks : List (Block A)) → first_label blocks ≡ label_in (slice_get blocks 0)
label_first [] = refl
label_first (b ∷ blocks) = refl

-- the shape is looked at, and the rest is to enter the function
shape_first : {A : Type 0} (p : Program A) (s : State) (f : meaning.Frame) (fs : List meaning.Frame) (i : ℕ) (k : FuncCode A) (to : Option Receiver) (args : List NumberedArgument) (ns : List Name) (vs : List ℕ) (b : Bool) (code : IsCoded p i k)
    → HasShape b k.code.params k.code.returns to args
    → call_defined s f fs (option_map (named_receiver ns) to) (map (named_argument ns) args) vs (func_at p i)
    ≡ ((if b then Ok (fit_all (map (λ q. q.abi_type) code.func.params) (fit_all (map (λ a. a.abi_type) (map (named_argument ns) args)) vs)) else Err call_shape) >>= λ ws. enters s f fs (option_map (named_receiver ns) to) code.func ws)
shape_first {A} p s f fs i k to args ns vs b code is =
    let R : Option CallResult = option_map (named_receiver ns) to in
    let written : List Argument = map (named_argument ns) args in
    let func : Func A = code.func in
    let shaped : is_in_shape (shape_of func) R written ≡ b = ap (λ s. is_in_shape s R written) (sym (begun_shape p i k code)) ∙ sym (is ns) in
    ap (call_defined s f fs R written vs) code.there
    ∙ ap (λ c. (if c then Ok (fit_all (map (λ q. q.abi_type) func.params) (fit_all (map (λ a. a.abi_type) written) vs)) else Err call_shape) >>= λ ws. enters s f fs R func ws) shaped

shape_at : {A : Type 0} (p : Program A) (fs : List SlotFrame) (m : Buffers) (out : List ℕ) (st : Status) (func : FuncId) (k : FuncCode A) (to : Option Receiver) (args : List NumberedArgument) (a : ℕ) → IsCoded p func.index k → HasArguments fs args
    → HasShape false k.code.params k.code.returns to args → called_whole (whole p fs m out st) to args a (Some (Defined func)) ≡ Err call_shape
shape_at p [] m out st func k to args a code has is = absurd has
shape_at p (f ∷ fs) m out st func k to args a code has is =
    shape_first p (state_of (whole p (f ∷ fs) m out st)) (frame_state p fs f) (frames_state p fs) func.index k to args (names_of p f.func) (argument_values f.slots args) false code is

deep_at : {A : Type 0} (p : Program A) (fs : List SlotFrame) (m : Buffers) (out : List ℕ) (st : Status) (func : FuncId) (k : FuncCode A) (to : Option Receiver) (args : List NumberedArgument) (a : ℕ) → IsCoded p func.index k → HasArguments fs args
    → HasShape true k.code.params k.code.returns to args → 1000 ≤ length fs → called_whole (whole p fs m out st) to args a (Some (Defined func)) ≡ Err calls_too_deep
deep_at p [] m out st func k to args a code has is l = absurd has
deep_at p (f ∷ fs) m out st func k to args a code has is l =
    let long : length (frames_state p (f ∷ fs)) ≡ length (f ∷ fs) = same_long p (f ∷ fs) in
    let no : nat_lt (length (frames_state p (f ∷ fs))) 1000 ≡ false = le-ltb (length (frames_state p (f ∷ fs))) 1000 (omega (arith, long, l)) in
    shape_first p (state_of (whole p (f ∷ fs) m out st)) (frame_state p fs f) (frames_state p fs) func.index k to args (names_of p f.func) (argument_values f.slots args) true code is
    ∙ rw no refl

called_at : {A : Type 0} (p : Program A) (fs : List SlotFrame) (m : Buffers) (out : List ℕ) (func : FuncId) (k : FuncCode A) (to : Option Receiver) (args : List NumberedArgument) (a index : ℕ) → IsCoded p func.index k → HasArguments fs args
    → HasShape true k.code.params k.code.returns to args → length fs < 1000 → IsNext p fs index
    → called_whole (whole p fs m out Running) to args a (Some (Defined func))
    ≡ Ok (state_of (whole p (new_frame func.index k (head_passed fs args) m.top to ∷ on_innermost (at_index (index + 1)) fs) m out Running))
called_at p [] m out func k to args a index code has is few n = absurd has
called_at {A} p (f ∷ fs) m out func k to args a index code has is few n =
    let S : State = state_of (whole p (f ∷ fs) m out Running) in
    let F : meaning.Frame = frame_state p fs f in
    let FS : List meaning.Frame = frames_state p fs in
    let ns : List Name = names_of p f.func in
    let R : Option CallResult = option_map (named_receiver ns) to in
    let ps : List ℕ = passed_values f.slots args in
    let ts : List AbiType = map (λ q. q.abi_type) code.func.params in
    let long : length (frames_state p (f ∷ fs)) ≡ length (f ∷ fs) = same_long p (f ∷ fs) in
    let yes : nat_lt (length (F ∷ FS)) 1000 ≡ true = lt-ltb (length (F ∷ FS)) 1000 (omega (arith, long, few)) in
    let label : first_label code.func.blocks ≡ label_in (block_at p func.index 0) = label_first code.func.blocks ∙ ap (λ (o : Option (Func A)). label_in (block_in o 0)) (sym code.there) in
    let temps : named (map (λ q. q.name) code.func.params) (fit_all ts ps) ≡ temps_of (names_of p func.index) (begun_slots k.code.params ps (replicate (length k.temps) None)) = begun_temps p func.index k ps code in
    let name : code.func.name ≡ func_name (func_at p func.index) = ap (λ (o : Option (Func A)). func_name o) (sym code.there) in
    shape_first p S F FS func.index k to args ns (argument_values f.slots args) true code is
    ∙ ap (λ vs. enters S F FS R code.func (fit_all ts vs)) (passed_fit ns f.slots args)
    ∙ ap (λ c. if c then Ok (record S { frames = begun code.func (fit_all ts ps) S.top R ∷ (next F ∷ FS) }) else Err calls_too_deep) yes
    ∙ (λ j. Ok (record S { frames = record { func = name j; label = label j; index = 0; temps = temps j; floor = m.top; result = R } ∷ (record F { index = n.0 j + 1 } ∷ FS) }))

-- ---- of all that a machine holds

pub call_unshaped : {A : Type 0} (m now : Whole A) (func : FuncId) (k : FuncCode A) (ps : List (Slot × AbiType)) (to : Option Receiver) (args : List NumberedArgument) (b : Bool) → m ≡ now → Some k ≡ func_code_at m.program func.index → HasArguments now.frames args
    → ps ≡ k.code.params → HasShape b ps k.code.returns to args → b ≡ false → (a : ℕ) → called_whole now to args a (Some (Defined func)) ≡ Err call_shape
call_unshaped {A} m now func k ps to args b same at has ep is eb a =
    subst (λ (x : Whole A). HasArguments x.frames args → called_whole x to args a (Some (Defined func)) ≡ Err call_shape) same
    (λ has. shape_at m.program m.frames m.memory m.output m.status func k to args a (coded m.program func.index k at) has
    (λ ns. sym eb ∙ is ns ∙ ap (λ (qs : List (Slot × AbiType)). is_in_shape (shape_by qs k.code.returns) (option_map (named_receiver ns) to) (map (named_argument ns) args)) ep)) has

pub call_too_deep : {A : Type 0} (m now : Whole A) (func : FuncId) (k : FuncCode A) (ps : List (Slot × AbiType)) (to : Option Receiver) (args : List NumberedArgument) (b : Bool) → m ≡ now → Some k ≡ func_code_at m.program func.index → HasArguments now.frames args
    → ps ≡ k.code.params → HasShape b ps k.code.returns to args → b ≡ true → 1000 ≤ length m.frames → (a : ℕ) → called_whole now to args a (Some (Defined func)) ≡ Err calls_too_deep
call_too_deep {A} m now func k ps to args b same at has ep is eb deep a =
    subst (λ (x : Whole A). HasArguments x.frames args → called_whole x to args a (Some (Defined func)) ≡ Err calls_too_deep) same
    (λ has. deep_at m.program m.frames m.memory m.output m.status func k to args a (coded m.program func.index k at) has
    (λ ns. sym eb ∙ is ns ∙ ap (λ (qs : List (Slot × AbiType)). is_in_shape (shape_by qs k.code.returns) (option_map (named_receiver ns) to) (map (named_argument ns) args)) ep) deep) has

pub call_enters : {A : Type 0} (m now : Whole A) (func : FuncId) (k : FuncCode A) (ps : List (Slot × AbiType)) (to : Option Receiver) (args : List NumberedArgument) (b : Bool) (index : ℕ) → m ≡ now → Some k ≡ func_code_at m.program func.index
    → HasArguments now.frames args → ps ≡ k.code.params → HasShape b ps k.code.returns to args → b ≡ true → length m.frames < 1000 → IsRunning now → IsNext now.program now.frames index → (a : ℕ)
    → called_whole now to args a (Some (Defined func))
    ≡ Ok (state_of (record now { frames = new_frame func.index k (head_passed now.frames args) now.memory.top to ∷ on_innermost (at_index (index + 1)) now.frames }))
call_enters {A} m now func k ps to args b index same at has ep is eb few run n a =
    subst (λ (x : Whole A). HasArguments x.frames args → IsRunning x → IsNext x.program x.frames index → called_whole x to args a (Some (Defined func))
    ≡ Ok (state_of (record x { frames = new_frame func.index k (head_passed x.frames args) x.memory.top to ∷ on_innermost (at_index (index + 1)) x.frames }))) same
    (λ has run n. subst (λ st. called_whole (whole m.program m.frames m.memory m.output st) to args a (Some (Defined func))
    ≡ Ok (state_of (whole m.program (new_frame func.index k (head_passed m.frames args) m.memory.top to ∷ on_innermost (at_index (index + 1)) m.frames) m.memory m.output st))) (sym run)
    (called_at m.program m.frames m.memory m.output func k to args a index (coded m.program func.index k at) has
    (λ ns. sym eb ∙ is ns ∙ ap (λ (qs : List (Slot × AbiType)). is_in_shape (shape_by qs k.code.returns) (option_map (named_receiver ns) to) (map (named_argument ns) args)) ep) few n)) has run n

pub call_does : {A : Type 0} (m now new : Whole A) (func : FuncId) (k : FuncCode A) (ps : List (Slot × AbiType)) (to : Option Receiver) (args : List NumberedArgument) (b : Bool) (g : SlotFrame) (index : ℕ) → m ≡ now → Some k ≡ func_code_at m.program func.index
    → HasArguments now.frames args → ps ≡ k.code.params → HasShape b ps k.code.returns to args → b ≡ true → length m.frames < 1000 → IsRunning now → IsNext now.program now.frames index
    → g ≡ new_frame func.index k (head_passed now.frames args) now.memory.top to → new ≡ record now { frames = g ∷ on_innermost (at_index (index + 1)) now.frames } → (a : ℕ)
    → called_whole now to args a (Some (Defined func)) ≡ Ok (state_of new)
call_does {A} m now new func k ps to args b g index same at has ep is eb few run n eg en a =
    call_enters m now func k ps to args b index same at has ep is eb few run n a
    ∙ ap (λ (h : SlotFrame). Ok (state_of (record now { frames = h ∷ on_innermost (at_index (index + 1)) now.frames }))) (sym eg)
    ∙ ap (λ (y : Whole A). Ok (state_of y)) (sym en)

pub comes_well : {X Y : Type 0} (o : Result X Y) (x : X) → o ≡ Ok x → IsOk o
comes_well {X} {Y} o x e = subst (λ (r : Result X Y). IsOk r) (sym e) refl

-- ---- functions that take one argument

exit_at : {A : Type 0} (p : Program A) (fs : List SlotFrame) (m : Buffers) (out : List ℕ) (st : Status) (to : Option Receiver) (args : List NumberedArgument) (vs : List (Option ℕ)) (a v : ℕ) → AreOf fs vs → TakesOne vs types.W None to args (Ok v)
    → called_whole (whole p fs m out st) to args a (Some Exit) ≡ Ok (state_of (whole p fs m out (Exited v)))
exit_at p [] m out st to args vs a v of one = absurd of
exit_at {A} p (f ∷ fs) m out st to args vs a v of one =
    let S : State = state_of (whole p (f ∷ fs) m out st) in
    let here : TakesOne f.slots types.W None to args (Ok v) = subst (λ us. TakesOne us types.W None to args (Ok v)) of one in
    ap (λ (o : Outcome (List ℕ)). o >>= λ ws. Ok (record S { status = meaning.exited (first ws) })) (sym (here (names_of p f.func)))

pub exit_does : {A : Type 0} (m now new : Whole A) (to : Option Receiver) (args : List NumberedArgument) (vs : List (Option ℕ)) (v : ℕ) → m ≡ now → AreOf m.frames vs → TakesOne vs types.W None to args (Ok v) → new ≡ record now { status = Exited v }
    → (a : ℕ) → called_whole now to args a (Some Exit) ≡ Ok (state_of new)
exit_does {A} m now new to args vs v same of one en a =
    subst (λ (x : Whole A). new ≡ record x { status = Exited v } → called_whole x to args a (Some Exit) ≡ Ok (state_of new)) same
    (λ en. exit_at m.program m.frames m.memory m.output m.status to args vs a v of one ∙ ap (λ (y : Whole A). Ok (state_of y)) (sym en)) en

-- a built-in function whose argument has another shape
abbrev pub BuiltIn : Callee → AbiType → Option AbiType → Type 0
BuiltIn (Defined func) t returns = ⊥
BuiltIn PutChar t returns = (t ≡ types.W) × (returns ≡ Some types.W)
BuiltIn Puts t returns = (t ≡ types.L) × (returns ≡ Some types.W)
BuiltIn Exit t returns = (t ≡ types.W) × (returns ≡ None)

built_in_stuck : {A : Type 0} (p : Program A) (s : State) (f : meaning.Frame) (fs : List meaning.Frame) (to : Option CallResult) (args : List Argument) (a : ℕ) (vs : List ℕ) (callee : Callee) (t : AbiType) (returns : Option AbiType) (why : meaning.Fault)
    → BuiltIn callee t returns → Err why ≡ in_shape (record { params = t ∷ []; returns = returns }) to args vs → call_at p s f fs to args a vs (Some callee) ≡ Err why
built_in_stuck p s f fs to args a vs (Defined func) t returns why is e = absurd is
built_in_stuck p s f fs to args a vs PutChar t returns why is e =
    let shaped : in_shape shape_of_putchar to args vs ≡ Err why = (λ i. in_shape (record { params = sym is.0 i ∷ []; returns = sym is.1 i }) to args vs) ∙ sym e in
    ap (λ (o : Outcome (List ℕ)). o >>= λ ws. putchar s f fs to (first ws)) shaped
built_in_stuck p s f fs to args a vs Puts t returns why is e =
    let shaped : in_shape shape_of_puts to args vs ≡ Err why = (λ i. in_shape (record { params = sym is.0 i ∷ []; returns = sym is.1 i }) to args vs) ∙ sym e in
    ap (λ (o : Outcome (List ℕ)). o >>= λ ws. puts s f fs to (first ws)) shaped
built_in_stuck p s f fs to args a vs Exit t returns why is e =
    let shaped : in_shape shape_of_exit to args vs ≡ Err why = (λ i. in_shape (record { params = sym is.0 i ∷ []; returns = sym is.1 i }) to args vs) ∙ sym e in
    ap (λ (o : Outcome (List ℕ)). o >>= λ ws. Ok (record s { status = meaning.exited (first ws) })) shaped

built_in_at : {A : Type 0} (p : Program A) (fs : List SlotFrame) (m : Buffers) (out : List ℕ) (st : Status) (to : Option Receiver) (args : List NumberedArgument) (vs : List (Option ℕ)) (a : ℕ) (callee : Callee) (t : AbiType) (returns : Option AbiType) (why : Fault)
    → AreOf fs vs → BuiltIn callee t returns → TakesOne vs t returns to args (Err why) → called_whole (whole p fs m out st) to args a (Some callee) ≡ Err (fault_of (head_names p fs) why)
built_in_at p [] m out st to args vs a callee t returns why of is one = absurd of
built_in_at {A} p (f ∷ fs) m out st to args vs a callee t returns why of is one =
    let ns : List Name = names_of p f.func in
    let here : TakesOne f.slots t returns to args (Err why) = subst (λ us. TakesOne us t returns to args (Err why)) of one in
    built_in_stuck p (state_of (whole p (f ∷ fs) m out st)) (frame_state p fs f) (frames_state p fs) (option_map (named_receiver ns) to) (map (named_argument ns) args) a (argument_values f.slots args) callee t returns (fault_of ns why) is (here ns)

pub built_in_fails : {A : Type 0} (m now : Whole A) (to : Option Receiver) (args : List NumberedArgument) (vs : List (Option ℕ)) (callee : Callee) (t : AbiType) (returns : Option AbiType) (why : Fault) → m ≡ now → AreOf m.frames vs → BuiltIn callee t returns
    → TakesOne vs t returns to args (Err why) → (a : ℕ) → called_whole now to args a (Some callee) ≡ Err (fault_of (head_names now.program now.frames) why)
built_in_fails {A} m now to args vs callee t returns why same of is one a =
    subst (λ (x : Whole A). called_whole x to args a (Some callee) ≡ Err (fault_of (head_names x.program x.frames) why)) same
    (built_in_at m.program m.frames m.memory m.output m.status to args vs a callee t returns why of is one)
