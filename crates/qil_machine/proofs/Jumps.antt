-- Jumps, from the parts of a machine to the step by names.
use Rattle.std.proofs.Common.{◌≡◌, refl, sym, ap, ◌∙◌, subst, ℕ, zero, suc, ◌<◌, ◌≤◌, List, [], ◌∷◌, length, Option, Some, None, Result, Ok, Err, IsOk, arith, ⊎_elim, ◌==◌, if◌then◌else◌, false}
use Rattle.std.specs.Prelude.{slice_get, option_map, unwrap_or}
use Rattle.std.specs.List.{All}
use Rattle.std.proofs.lemmas.List.{length-map}
use Rattle.std.proofs.lemmas.Bool.{cases_lt}
use Rattle.std.proofs.lemmas.Bool.Decides.{nat_tests}
use Rattle.qil_tree.specs.declared.ops.Class.{Class}
use Rattle.qil_tree.specs.declared.ops.Class.TheVariants as classes
use Rattle.qil_tree.specs.declared.ops.AbiType.TheVariants as types
use Rattle.qil_tree.specs.declared.tree.Block.{Block}
use Rattle.qil_tree.specs.declared.tree.Program.{Program}
use Rattle.qil_rules.specs.Occurrences.{returned_class}
use Rattle.qil_memory.specs.Buffers.{Buffers}
use Rattle.qil_memory.specs.Live.{live, below}
use Rattle.qil_semantics.specs.State as meaning
use Rattle.qil_semantics.specs.State.{Name, State}
use Rattle.qil_semantics.specs.Values.{fit}
use Rattle.qil_semantics.specs.Calls.{taken}
use Rattle.qil_semantics.specs.Step as step
use Rattle.qil_code.specs.declared.numbered.Slot.{Slot}
use Rattle.qil_code.specs.declared.numbered.Receiver.{Receiver}
use Rattle.qil_code.specs.declared.numbered.NumberedOperand.{NumberedOperand}
use Rattle.qil_code.specs.declared.numbered.Edge.{Edge}
use Rattle.qil_code.specs.declared.numbered.NumberedBlock.{NumberedBlock}
use Rattle.qil_code.specs.declared.numbered.NumberedJump.{NumberedJump}
use Rattle.qil_code.specs.declared.numbered.NumberedJump.TheVariants as jumps
use Rattle.qil_code.specs.Numbered.{block_at, names_of, inst_of}
use Rattle.qil_semantics.specs.Names.{temps_named}
use Rattle.qil_code.specs.Ranges.{IsShort, InRange, MoveInRange, EdgeInRange, JumpInRange}
use Rattle.qil_code.specs.Reading.{labels_at, returns_at}
use Rattle.qil_code.proofs.EdgesNamed.{IsEdgeOf, EdgeNamed, edge-named}
use Rattle.qil_frames.specs.Frames.{SlotFrame}
use Rattle.qil_frames.specs.Enter.{HasMoves, entered_by}
use Rattle.qil_state.specs.declared.status.Fault.{Fault}
use Rattle.qil_state.specs.declared.status.Fault.TheVariants as faults
use Rattle.qil_state.specs.declared.status.Status.{Status}
use Rattle.qil_state.specs.declared.status.Status.TheVariants.{Running}
use Rattle.qil_state.specs.Faults.{fault_of, status_of}
use Rattle.qil_state.specs.State.{Whole, whole, state_of, frame_state, frames_state, head_names, result_of, FrameFits, FramesFit, ReceiverFits, PlaceFits, FramesFor, IsMachine}
use Rattle.qil_state.specs.Stepping.{left_whole, went_whole, returned_whole}
use Rattle.qil_state.proofs.Place.{none_some, some_same, BlockHere, block_here, block_at_here}
use Rattle.qil_state.proofs.Reading.{are_slots, slot_written}
use Rattle.qil_state.proofs.EdgeHere.{entered_fits}
use Rattle.qil_state.proofs.Leaving.{Went, went_along, edge_in_range, hlt_left, bare_ret_left, ret_left, jmp_left, jnz_left, IsRead}
use Rattle.qil_machine.specs.declared.error.StepError.{StepError}
use Rattle.qil_machine.specs.declared.error.StepError.TheVariants as errors
use Rattle.qil_machine.specs.Moves.{inst_count}
use Rattle.qil_machine.specs.Places.{IsRunning, IsLeaving}
use Rattle.qil_machine.specs.Results.{gives, status_after, without_innermost, Explains, PhisExplain}
use Rattle.qil_machine.specs.Steps.{IsAtPlace, IsHere, HasReturned, EdgeTakes, ReadTakes, BranchTakes}
use Rattle.qil_machine.proofs.Steps.{ReadIn}

-- ---- before a jump along an edge

at_end : {X : Type 0} (xs : List X) (k : ℕ) → slice_get xs k ≡ None → length xs ≤ k
at_end [] k e = omega arith
at_end (x ∷ xs) zero e = absurd (cc)
at_end (x ∷ xs) (suc k) e = let more : length xs ≤ k = at_end xs k e in omega (arith, more)

place_in : {A : Type 0} (o : Option (Block A)) (b : Block A) (k : ℕ) → o ≡ Some b → PlaceFits o k → k ≤ length b.insts
place_in o b k e h = subst (λ (o : Option (Block _)). PlaceFits o k) e h

pub record Ready {A : Type 0} (p : Program A) (fs : List SlotFrame) (e : Edge A) : Type 0 where
  pub leaving : IsLeaving p fs e.to.index
  pub moves : HasMoves fs e.moves
  pub short : IsShort e.moves

ready_at : {A : Type 0} (p : Program A) (f : SlotFrame) (fs : List SlotFrame) (block : NumberedBlock A) (e : Edge A) (k : ℕ) → FrameFits p f → IsAtPlace p f block k → slice_get block.insts k ≡ None → IsEdgeOf e block.jump → Ready p (f ∷ fs) e
ready_at {A} p f fs block e k fits stands none of =
    let here : BlockHere p f.func f.block block = block_here p f.func f.block block stands.code in
    let named : EdgeNamed p f.func here.func here.block.label e = edge-named p f.func f.block here.func here.block block e stands.knows here.func_is here.block_is here.code_is of in
    let range : EdgeInRange (length (names_of p f.func)) (length (labels_at p f.func)) e = edge_in_range _ _ e block.jump of stands.range.jump in
    let at : block_at p f.func f.block ≡ Some here.block = block_at_here p f.func f.block here.func here.block here.func_is here.block_is in
    let low : f.index ≤ length here.block.insts = place_in (block_at p f.func f.block) here.block f.index at fits.place in
    let same : length block.insts ≡ length here.block.insts = ap (λ (b : NumberedBlock A). length b.insts) (sym here.code_is) ∙ length-map here.block.insts (inst_of p (temps_named here.func)) in
    let high : length block.insts ≤ k = at_end block.insts k none in
    let index : f.index ≡ length here.block.insts = omega (arith, low, same, high, stands.index) in
    record {
      leaving = (index ∙ ap (λ (o : Option (Block A)). inst_count o) (sym at), (entered_fits p f here.func here.block.label e [] fits here.func_is named).place);
      moves = subst (λ n. All (MoveInRange n) e.moves) fits.slots range.moves;
      short = range.short;
    }

ready_in : {A : Type 0} (p : Program A) (fs : List SlotFrame) (block : NumberedBlock A) (e : Edge A) (k : ℕ) → FramesFit p fs → IsHere p fs block k → slice_get block.insts k ≡ None → IsEdgeOf e block.jump → Ready p fs e
ready_in p [] block e k fits here none of = absurd here
ready_in p (f ∷ fs) block e k fits here none of = ready_at p f fs block e k fits.0 here none of

pub ready : {A : Type 0} (m now : Whole A) (block : NumberedBlock A) (e : Edge A) (k : ℕ) → m ≡ now → IsMachine m → IsHere now.program now.frames block k → slice_get block.insts k ≡ None → IsEdgeOf e block.jump → Ready now.program now.frames e
ready {A} m now block e k same ok here none of =
    ready_in now.program now.frames block e k (subst (λ (x : Whole A). FramesFit x.program x.frames) same ok.frames) here none of

-- ---- along it

went_in : {A : Type 0} (p : Program A) (fs : List SlotFrame) (m : Buffers) (out : List ℕ) (st : Status) (block : NumberedBlock A) (e : Edge A) (k : ℕ) → st ≡ Running → FramesFit p fs → IsHere p fs block k → IsEdgeOf e block.jump
    → Went (whole p fs m out st) p fs m out st e
went_in p [] m out st block e k run fits here of = absurd here
went_in p (f ∷ fs) m out st block e k run fits here of = went_along (whole p (f ∷ fs) m out st) p (f ∷ fs) m out st f block e refl run fits refl here.knows here.code here.range of

went_now : {A : Type 0} (m now : Whole A) (block : NumberedBlock A) (e : Edge A) (k : ℕ) → m ≡ now → IsMachine m → IsRunning now → IsHere now.program now.frames block k → IsEdgeOf e block.jump
    → Went now now.program now.frames now.memory now.output now.status e
went_now {A} m now block e k same ok run here of =
    went_in now.program now.frames now.memory now.output now.status block e k run (subst (λ (x : Whole A). FramesFit x.program x.frames) same ok.frames) here of

pub go_steps : {A : Type 0} (m now new : Whole A) (block : NumberedBlock A) (e : Edge A) (k : ℕ) → m ≡ now → IsMachine m → IsRunning now → IsHere now.program now.frames block k → IsEdgeOf e block.jump
    → entered_by now.frames e.to.index e.moves ≡ Ok new.frames → new ≡ record now { frames = new.frames } → went_whole now e ≡ Ok (state_of new)
go_steps {A} m now new block e k same ok run here of ent en =
    (went_now m now block e k same ok run here of).entered new.frames ent ∙ ap (λ (x : Whole A). Ok (state_of x)) (sym en)

explains_unset : {A : Type 0} (now : Whole A) (e : Edge A) (w : Went now now.program now.frames now.memory now.output now.status e) (why : StepError) (r : Result (List SlotFrame) Slot) → entered_by now.frames e.to.index e.moves ≡ r → PhisExplain r why
    → Explains (head_names now.program now.frames) (went_whole now e) why
explains_unset now e w (errors.Fault (faults.Unset s)) r is h = w.unset s (is ∙ h)
explains_unset now e w (errors.Fault (faults.Division d)) r is h = absurd h
explains_unset now e w (errors.Fault (faults.DeadAddress a)) r is h = absurd h
explains_unset now e w (errors.Fault faults.OverlappingBlit) r is h = absurd h
explains_unset now e w (errors.Fault faults.StackFull) r is h = absurd h
explains_unset now e w (errors.Fault faults.CallsTooDeep) r is h = absurd h
explains_unset now e w (errors.Fault (faults.NoFunction a)) r is h = absurd h
explains_unset now e w (errors.Fault faults.CallShape) r is h = absurd h
explains_unset now e w (errors.Fault faults.OutputFull) r is h = absurd h
explains_unset now e w (errors.Fault faults.Halted) r is h = absurd h
explains_unset now e w errors.OutOfMemory (Ok new) is h = subst IsOk (sym (w.entered new is)) refl
explains_unset now e w errors.OutOfMemory (Err s) is h = absurd (cc)

pub go_fails : {A : Type 0} (m now : Whole A) (block : NumberedBlock A) (e : Edge A) (k : ℕ) (why : StepError) → m ≡ now → IsMachine m → IsRunning now → IsHere now.program now.frames block k → IsEdgeOf e block.jump
    → PhisExplain (entered_by now.frames e.to.index e.moves) why → Explains (head_names now.program now.frames) (went_whole now e) why
go_fails m now block e k why same ok run here of h =
    explains_unset now e (went_now m now block e k same ok run here of) why (entered_by now.frames e.to.index e.moves) refl h

-- ---- a return

gives_state : {A : Type 0} (p : Program A) (fs : List SlotFrame) (to : Option Receiver) (v : Option ℕ) → FramesFit p fs → ReceiverFits fs to → frames_state p (gives to v fs) ≡ step.taken_by (frames_state p fs) (result_of p fs to) v
gives_state p [] to v fits h = refl
gives_state p (g ∷ gs) None v fits h = refl
gives_state {A} p (g ∷ gs) (Some to) v fits h =
    let G : meaning.Frame = frame_state p gs g in
    λ i. record G { temps = slot_written (names_of p g.func) g.slots to.slot.index (option_map (taken to.abi_type) v) (are_slots p g fits.0) h i } ∷ frames_state p gs

ends_status : {A : Type 0} (p : Program A) (fs : List SlotFrame) (to : Option Receiver) (v : Option ℕ) → status_of (head_names p (gives to v fs)) (status_after fs v) ≡ step.ended (frames_state p fs) v
ends_status p [] to v = refl
ends_status p (g ∷ gs) to v = refl

abbrev HasAny : List SlotFrame → Type 0
HasAny [] = ⊥
HasAny (f ∷ fs) = Unit {0}

some_frame : (st : Status) (fs : List SlotFrame) → st ≡ Running → FramesFor st fs → HasAny fs
some_frame st [] run h = subst (λ s. FramesFor s []) run h
some_frame st (f ∷ fs) run h = tt

returned_at : {A : Type 0} (p : Program A) (fs : List SlotFrame) (m : Buffers) (out : List ℕ) (st : Status) (v : Option ℕ) → FramesFit p fs → live (without_innermost v (whole p fs m out st) fs).memory ≡ below (live m) (without_innermost v (whole p fs m out st) fs).memory.top → HasAny fs
    → returned_whole (whole p fs m out st) v ≡ Ok (state_of (without_innermost v (whole p fs m out st) fs))
returned_at p [] m out st v fits bytes any = absurd any
returned_at {A} p (f ∷ fs) m out st v fits bytes any =
    let S : State = state_of (whole p (f ∷ fs) m out st) in
    λ i. Ok (record S { frames = sym (gives_state p fs f.result v fits.2 fits.1) i; memory = sym bytes i; top = f.floor; status = sym (ends_status p fs f.result v) i })

pub returned_is : {A : Type 0} (m now new : Whole A) (v : Option ℕ) → m ≡ now → IsMachine m → IsRunning now → new ≡ without_innermost v now now.frames → live new.memory ≡ below (live now.memory) new.memory.top
    → returned_whole now v ≡ Ok (state_of new)
returned_is {A} m now new v same ok run en bytes =
    let fits : FramesFit now.program now.frames = subst (λ (x : Whole A). FramesFit x.program x.frames) same ok.frames in
    let is : IsMachine now = subst IsMachine same ok in
    returned_at now.program now.frames now.memory now.output now.status v fits (subst (λ (x : Whole A). live x.memory ≡ below (live now.memory) x.memory.top) en bytes) (some_frame now.status now.frames run is.some)
    ∙ ap (λ (x : Whole A). Ok (state_of x)) (sym en)

-- ---- what is at the end of the block

frames_in : {A : Type 0} (m now : Whole A) → m ≡ now → IsMachine m → FramesFit now.program now.frames
frames_in {A} m now same ok = subst (λ (x : Whole A). FramesFit x.program x.frames) same ok.frames

pub hlt_is : {A : Type 0} (m now : Whole A) (fr : SlotFrame) → m ≡ now → IsMachine m → slice_get m.frames 0 ≡ Some fr → left_whole now jumps.Hlt ≡ Err (fault_of (head_names now.program now.frames) faults.Halted)
hlt_is {A} m now fr same ok at = subst (λ (x : Whole A). left_whole x jumps.Hlt ≡ Err (fault_of (head_names x.program x.frames) faults.Halted)) same (hlt_left m m.program m.frames m.memory m.output m.status fr refl ok.frames at)

pub ret_is : {A : Type 0} (m now : Whole A) (fr : SlotFrame) → m ≡ now → IsMachine m → slice_get m.frames 0 ≡ Some fr → left_whole now (jumps.Ret None) ≡ returned_whole now None
ret_is {A} m now fr same ok at = subst (λ (x : Whole A). left_whole x (jumps.Ret None) ≡ returned_whole x None) same (bare_ret_left m m.program m.frames m.memory m.output m.status fr refl ok.frames at)

-- the frame that a running machine has
pub record HasFirst (fs : List SlotFrame) : Type 0 where
  pub frame : SlotFrame
  pub at : slice_get fs 0 ≡ Some frame

first_of : (fs : List SlotFrame) → HasAny fs → HasFirst fs
first_of [] any = absurd any
first_of (f ∷ fs) any = record { frame = f; at = refl }

pub first_frame : {A : Type 0} (m now : Whole A) → m ≡ now → IsMachine m → IsRunning now → HasFirst m.frames
first_frame {A} m now same ok run = first_of m.frames (some_frame m.status m.frames (ap (λ (x : Whole A). x.status) same ∙ run) ok.some)

-- a value is returned that was read, or the operand is unset
reads_by : {A : Type 0} (p : Program A) (f : SlotFrame) (vs : List (Option ℕ)) (c : Class) (a : NumberedOperand) (r : Result ℕ Fault) → vs ≡ f.slots → ReadIn A vs c a r → IsRead p f c a r
reads_by {A} p f vs c a r of read ns are = (subst (λ us. ReadIn A us c a r) of read) p ns are

pub return_steps : {A : Type 0} (m now new : Whole A) (fr : SlotFrame) (vs : List (Option ℕ)) (a : NumberedOperand) (c : Class) (v w : ℕ) → m ≡ now → IsMachine m → slice_get m.frames 0 ≡ Some fr → vs ≡ fr.slots → c ≡ returned_class (returns_at m.program fr.func)
    → ReadIn A vs c a (Ok v) → w ≡ fit (unwrap_or (returns_at m.program fr.func) types.W) v → returned_whole now (Some w) ≡ Ok (state_of new) → left_whole now (jumps.Ret (Some a)) ≡ Ok (state_of new)
return_steps {A} m now new fr vs a c v w same ok at of ec read ew did =
    subst (λ (x : Whole A). returned_whole x (Some w) ≡ Ok (state_of new) → left_whole x (jumps.Ret (Some a)) ≡ Ok (state_of new)) same
    (λ did. ret_left m m.program m.frames m.memory m.output m.status fr a (Ok v) refl ok.frames at (reads_by m.program fr vs (returned_class (returns_at m.program fr.func)) a (Ok v) of (subst (λ d. ReadIn A vs d a (Ok v)) ec read))
    ∙ ap (λ u. returned_whole m (Some u)) (sym ew) ∙ did) did

pub return_fails : {A : Type 0} (m now : Whole A) (fr : SlotFrame) (vs : List (Option ℕ)) (a : NumberedOperand) (c : Class) (why : Fault) → m ≡ now → IsMachine m → slice_get m.frames 0 ≡ Some fr → vs ≡ fr.slots → c ≡ returned_class (returns_at m.program fr.func)
    → ReadIn A vs c a (Err why) → left_whole now (jumps.Ret (Some a)) ≡ Err (fault_of (head_names now.program now.frames) why)
return_fails {A} m now fr vs a c why same ok at of ec read =
    subst (λ (x : Whole A). left_whole x (jumps.Ret (Some a)) ≡ Err (fault_of (head_names x.program x.frames) why)) same
    (ret_left m m.program m.frames m.memory m.output m.status fr a (Err why) refl ok.frames at (reads_by m.program fr vs (returned_class (returns_at m.program fr.func)) a (Err why) of (subst (λ d. ReadIn A vs d a (Err why)) ec read)))

-- a branch goes along one of its edges

positive_test : (v : ℕ) → 0 < v → (v == 0) ≡ false
positive_test v h = grind (arith, nat_tests)

pub branch_fails : {A : Type 0} (m now : Whole A) (fr : SlotFrame) (vs : List (Option ℕ)) (a : NumberedOperand) (e g : Edge A) (why : Fault) → m ≡ now → IsMachine m → slice_get m.frames 0 ≡ Some fr → vs ≡ fr.slots → ReadIn A vs classes.W a (Err why)
    → left_whole now (jumps.Jnz a e g) ≡ Err (fault_of (head_names now.program now.frames) why)
branch_fails {A} m now fr vs a e g why same ok at of read =
    subst (λ (x : Whole A). left_whole x (jumps.Jnz a e g) ≡ Err (fault_of (head_names x.program x.frames) why)) same
    (jnz_left m m.program m.frames m.memory m.output m.status fr a e g (Err why) refl ok.frames at (reads_by m.program fr vs classes.W a (Err why) of read))

branched : {A : Type 0} (m now : Whole A) (fr : SlotFrame) (vs : List (Option ℕ)) (a : NumberedOperand) (e g : Edge A) (v : ℕ) → m ≡ now → IsMachine m → slice_get m.frames 0 ≡ Some fr → vs ≡ fr.slots → ReadIn A vs classes.W a (Ok v)
    → left_whole now (jumps.Jnz a e g) ≡ went_whole now (if v == 0 then g else e)
branched {A} m now fr vs a e g v same ok at of read =
    subst (λ (x : Whole A). left_whole x (jumps.Jnz a e g) ≡ went_whole x (if v == 0 then g else e)) same
    (jnz_left m m.program m.frames m.memory m.output m.status fr a e g (Ok v) refl ok.frames at (reads_by m.program fr vs classes.W a (Ok v) of read))

pub branched_zero : {A : Type 0} (m now : Whole A) (fr : SlotFrame) (vs : List (Option ℕ)) (a : NumberedOperand) (e g : Edge A) (v : ℕ) → m ≡ now → IsMachine m → slice_get m.frames 0 ≡ Some fr → vs ≡ fr.slots → ReadIn A vs classes.W a (Ok v) → v ≡ 0
    → left_whole now (jumps.Jnz a e g) ≡ went_whole now g
branched_zero {A} m now fr vs a e g v same ok at of read is = branched m now fr vs a e g v same ok at of read ∙ ap (λ u. went_whole now (if u == 0 then g else e)) is

pub branched_set : {A : Type 0} (m now : Whole A) (fr : SlotFrame) (vs : List (Option ℕ)) (a : NumberedOperand) (e g : Edge A) (v : ℕ) → m ≡ now → IsMachine m → slice_get m.frames 0 ≡ Some fr → vs ≡ fr.slots → ReadIn A vs classes.W a (Ok v) → 0 < v
    → left_whole now (jumps.Jnz a e g) ≡ went_whole now e
branched_set {A} m now fr vs a e g v same ok at of read is = branched m now fr vs a e g v same ok at of read ∙ rw (positive_test v is) refl

-- an edge that may take memory has several moves
pub several : (n : ℕ) (P : Type 0) → (n ≤ 1 → P → ⊥) → P → 1 < n
several n P few p = ⊎_elim (λ lt. lt) (λ ge. absurd (few ge p)) (cases_lt 1 n)

takes_at : {A : Type 0} (p : Program A) (fs : List SlotFrame) (fr : SlotFrame) (a : NumberedOperand) (e g : Edge A) (v : ℕ) → FramesFit p fs → slice_get fs 0 ≡ Some fr → IsRead p fr classes.W a (Ok v) → EdgeTakes (if v == 0 then g else e) → BranchTakes p fs a e g
takes_at p [] fr a e g v fits at read takes = none_some at
takes_at {A} p (f ∷ fs) fr a e g v fits at read takes =
    let of_f : IsRead p f classes.W a (Ok v) = subst (λ (h : SlotFrame). IsRead p h classes.W a (Ok v)) (sym (some_same f fr at)) read in
    subst (λ o. ReadTakes o e g) (of_f (names_of p f.func) (are_slots p f fits.0)) takes

takes : {A : Type 0} (m now : Whole A) (fr : SlotFrame) (vs : List (Option ℕ)) (a : NumberedOperand) (e g : Edge A) (v : ℕ) → m ≡ now → IsMachine m → slice_get m.frames 0 ≡ Some fr → vs ≡ fr.slots → ReadIn A vs classes.W a (Ok v)
    → EdgeTakes (if v == 0 then g else e) → BranchTakes now.program now.frames a e g
takes {A} m now fr vs a e g v same ok at of read much =
    subst (λ (x : Whole A). BranchTakes x.program x.frames a e g) same (takes_at m.program m.frames fr a e g v ok.frames at (reads_by m.program fr vs classes.W a (Ok v) of read) much)

pub takes_zero : {A : Type 0} (m now : Whole A) (fr : SlotFrame) (vs : List (Option ℕ)) (a : NumberedOperand) (e g : Edge A) (v : ℕ) (P : Type 0) → m ≡ now → IsMachine m → slice_get m.frames 0 ≡ Some fr → vs ≡ fr.slots → ReadIn A vs classes.W a (Ok v) → v ≡ 0
    → (length g.moves ≤ 1 → P → ⊥) → P → BranchTakes now.program now.frames a e g
takes_zero m now fr vs a e g v P same ok at of read is few p = takes m now fr vs a e g v same ok at of read (rw is (several (length g.moves) P few p))

pub takes_set : {A : Type 0} (m now : Whole A) (fr : SlotFrame) (vs : List (Option ℕ)) (a : NumberedOperand) (e g : Edge A) (v : ℕ) (P : Type 0) → m ≡ now → IsMachine m → slice_get m.frames 0 ≡ Some fr → vs ≡ fr.slots → ReadIn A vs classes.W a (Ok v) → 0 < v
    → (length e.moves ≤ 1 → P → ⊥) → P → BranchTakes now.program now.frames a e g
takes_set m now fr vs a e g v P same ok at of read is few p = takes m now fr vs a e g v same ok at of read (rw (positive_test v is) (several (length e.moves) P few p))

pub jmp_is : {A : Type 0} (m now : Whole A) (fr : SlotFrame) (e : Edge A) → m ≡ now → IsMachine m → slice_get m.frames 0 ≡ Some fr → left_whole now (jumps.Jmp e) ≡ went_whole now e
jmp_is {A} m now fr e same ok at = subst (λ (x : Whole A). left_whole x (jumps.Jmp e) ≡ went_whole x e) same (jmp_left m m.program m.frames m.memory m.output m.status fr e refl ok.frames at)

-- the operand of a return has its slot
operand_at : {A : Type 0} (p : Program A) (f : SlotFrame) (fs : List SlotFrame) (block : NumberedBlock A) (k : ℕ) (o : Option NumberedOperand) → FrameFits p f → IsAtPlace p f block k → block.jump ≡ jumps.Ret o → HasReturned (f ∷ fs) o
operand_at {A} p f fs block k None fits stands is = tt
operand_at {A} p f fs block k (Some a) fits stands is =
    subst (λ n. InRange n a) fits.slots (subst (λ (j : NumberedJump A). JumpInRange (length (names_of p f.func)) (length (labels_at p f.func)) j) is stands.range.jump)

operand_in : {A : Type 0} (p : Program A) (fs : List SlotFrame) (block : NumberedBlock A) (k : ℕ) (o : Option NumberedOperand) → FramesFit p fs → IsHere p fs block k → block.jump ≡ jumps.Ret o → HasReturned fs o
operand_in p [] block k o fits here is = absurd here
operand_in p (f ∷ fs) block k o fits here is = operand_at p f fs block k o fits.0 here is

pub may_return : {A : Type 0} (m now : Whole A) (block : NumberedBlock A) (k : ℕ) (o : Option NumberedOperand) → m ≡ now → IsMachine m → IsHere now.program now.frames block k → block.jump ≡ jumps.Ret o → HasReturned now.frames o
may_return {A} m now block k o same ok here is = operand_in now.program now.frames block k o (frames_in m now same ok) here is
