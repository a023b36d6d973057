-- What moves weigh by number is what they cost by names.
use Rattle.std.proofs.Common.{◌≡◌, refl, sym, ap, ◌∙◌, subst, ℕ, suc, ◌+◌, ◌*◌, ◌==◌, ◌≤◌, true, if◌then◌else◌, List, [], ◌∷◌, length, Option, Some, None, Result, Ok, Err, OnOk, arith}
use Rattle.std.specs.Prelude.{slice_get, option_map}
use Rattle.std.specs.List.{flat_map}
use Rattle.std.proofs.lemmas.List.{length-map}
use Rattle.std.proofs.lemmas.Bool.Decides.{nat_tests}
use Rattle.qil_tree.specs.declared.tree.Operand.{Operand}
use Rattle.qil_tree.specs.declared.tree.JumpKind.TheVariants as trees
use Rattle.qil_tree.specs.declared.tree.Block.{Block}
use Rattle.qil_tree.specs.declared.tree.Func.{Func}
use Rattle.qil_tree.specs.declared.tree.Program.{Program}
use Rattle.qil_memory.specs.Buffers.{Buffers}
use Rattle.qil_semantics.specs.State as meaning
use Rattle.qil_semantics.specs.State.{Name, State, Fault}
use Rattle.qil_semantics.specs.Values.{Outcome}
use Rattle.qil_semantics.specs.Names.{temps_named}
use Rattle.qil_semantics.specs.Step.{func_named, block_labelled, phi_moves, in_func}
use Rattle.qil_semantics.specs.Cost.{result_count, inst_cost, phis_cost, outcome_cost, cost_in, cost_of}
use Rattle.qil_code.specs.declared.numbered.Receiver.{Receiver}
use Rattle.qil_code.specs.declared.numbered.Edge.{Edge}
use Rattle.qil_code.specs.declared.numbered.NumberedBlock.{NumberedBlock}
use Rattle.qil_code.specs.declared.numbered.NumberedInst.{NumberedInst}
use Rattle.qil_code.specs.declared.numbered.NumberedInst.TheVariants as insts
use Rattle.qil_code.specs.declared.numbered.NumberedJump.{NumberedJump}
use Rattle.qil_code.specs.declared.numbered.NumberedJump.TheVariants as jumps
use Rattle.qil_code.specs.Named.{named_receiver, named_inst, named_jump, named_move, resolved_move}
use Rattle.qil_code.specs.Numbered.{func_at, block_at, names_of}
use Rattle.qil_code.specs.Reading.{labels_at}
use Rattle.qil_code.proofs.EdgesNamed.{IsEdgeOf, EdgeNamed, edge-named}
use Rattle.qil_frames.specs.Frames.{SlotFrame, on_innermost}
use Rattle.qil_frames.specs.Enter.{gathered, entered, entered_by}
use Rattle.qil_state.specs.declared.status.Status.{Status}
use Rattle.qil_state.specs.State.{Whole, whole, state_of, label_in, head_func, result_of, frame_state, frames_state, FramesFit, ReceiverFits, IsMachine}
use Rattle.qil_state.specs.Stepping.{stepped_whole, performed_whole, left_whole}
use Rattle.qil_state.proofs.Place.{BlockHere, block_here, block_at_here, names_here}
use Rattle.qil_state.proofs.Leaving.{FuncHere, func_here, IsEntered, is_entered}
use Rattle.qil_state.proofs.Costs.{head_cost, inst_here_cost, jump_here_cost}
use Rattle.qil_machine.specs.declared.error.StepError.{StepError}
use Rattle.qil_machine.specs.Moves.{Move, weight}
use Rattle.qil_machine.specs.Results.{gives}
use Rattle.qil_machine.specs.Steps.{IsAtPlace, IsHere}
use Rattle.qil_machine.proofs.Advancing.{InstFound, inst_found, jump_found}
use Rattle.qil_machine.specs.Costs.{WeighsAtMost, receiver_count, called_weight, inst_weight, phis_written, entered_weight, returned_weight, jump_weight}

-- ---- the least cost, and the move that is kept

least_by : {A : Type 0} (s : State) (f : meaning.Frame) (func : Option (Func A)) (o : Outcome State) → 4 ≤ outcome_cost s f func o
least_by s f func (Ok t) = omega arith
least_by s f func (Err why) = omega arith

least_in : {A : Type 0} (p : Program A) (s : State) (fs : List meaning.Frame) → 4 ≤ cost_in p s fs
least_in p s [] = omega arith
least_in p s (f ∷ fs) = least_by s f (func_named p.funcs f.func) (in_func p s f fs (func_named p.funcs f.func))

pub least_cost : {A : Type 0} (p : Program A) (s : State) → 4 ≤ cost_of p s
unfolding cost_of
least_cost p s = least_in p s s.frames

-- ---- calls

innermost_count : (g : SlotFrame → SlotFrame) (fs : List SlotFrame) → length (on_innermost g fs) ≡ length fs
innermost_count g [] = refl
innermost_count g (f ∷ fs) = refl

same_count : (m n k : ℕ) → m ≡ n → k ≤ 4 + k → 4 + k ≤ 4 + (if m == n then k else 0)
same_count m n k e h = let t : (m == n) ≡ true = grind (arith, nat_tests) in rw t (omega arith)

pub called_gives : (to : Option Receiver) (v : Option ℕ) (g : SlotFrame → SlotFrame) (old new : List SlotFrame) (n : ℕ) → new ≡ on_innermost g (gives to v old) → n ≡ 4 + 2 * receiver_count to → n ≤ called_weight to old new
called_gives to v g old new n en ew =
    let count : length new ≡ length old = ap (λ (l : List SlotFrame). length l) en ∙ innermost_count g (gives to v old) ∙ innermost_count _ old in
    rw ew (same_count (length old) (length new) (2 * receiver_count to) (sym count) (omega arith))

-- ---- instructions

count_named : (ns : List Name) (to : Option Receiver) → receiver_count to ≡ result_count (option_map (named_receiver ns) to)
count_named ns None = refl
count_named ns (Some to) = refl

depth_named : {A : Type 0} (p : Program A) (fs : List SlotFrame) → length fs ≡ length (frames_state p fs)
depth_named p [] = refl
depth_named p (f ∷ fs) = ap (λ n. suc n) (depth_named p fs)

inst_named : {A : Type 0} (m w : Whole A) (ns : List Name) (inst : NumberedInst A) → inst_weight m w inst ≡ 4 + inst_cost (state_of m) (state_of w) (named_inst ns inst)
inst_named m w ns (insts.Assign c s e) = refl
inst_named m w ns (insts.Alloc c s op n) = omega arith
inst_named m w ns (insts.Store width a b) = refl
inst_named m w ns (insts.Blit a b n) = refl
inst_named m w ns (insts.Call to callee args) =
    λ i. 4 + (if depth_named m.program m.frames i == depth_named w.program w.frames i then 2 * count_named ns to i else 0)

inst_at : {A : Type 0} (p : Program A) (fs : List SlotFrame) (m : Buffers) (out : List ℕ) (st : Status) (new : Whole A) (block : NumberedBlock A) (inst : NumberedInst A) (k : ℕ) → IsHere p fs block k → slice_get block.insts k ≡ Some inst
    → stepped_whole (whole p fs m out st) ≡ Ok (state_of new) → cost_of p (state_of (whole p fs m out st)) ≡ inst_weight (whole p fs m out st) new inst
unfolding cost_of
inst_at p [] m out st new block inst k here is e = absurd here
inst_at {A} p (f ∷ fs) m out st new block inst k here is e =
    let w : Whole A = whole p (f ∷ fs) m out st in
    inst_here_cost p f fs (state_of w) (state_of new) block inst here.finds here.code (ap (slice_get block.insts) here.index ∙ is) e
    ∙ sym (inst_named w new (names_of p f.func) inst)

pub inst_costs : {A : Type 0} (now new : Whole A) (block : NumberedBlock A) (inst : NumberedInst A) (k n : ℕ) → IsHere now.program now.frames block k → Some inst ≡ slice_get block.insts k
    → stepped_whole now ≡ Ok (state_of new) → n ≤ inst_weight now new inst → n ≤ cost_of now.program (state_of now)
inst_costs now new block inst k n here is e h =
    subst (λ c. n ≤ c) (sym (inst_at now.program now.frames now.memory now.output now.status new block inst k here (sym is) e)) h

-- ---- jumps

result_named : {A : Type 0} (p : Program A) (fs : List SlotFrame) (to : Option Receiver) → ReceiverFits fs to → receiver_count to ≡ result_count (result_of p fs to)
result_named p [] None h = refl
result_named p [] (Some to) h = absurd h
result_named p (g ∷ gs) None h = refl
result_named p (g ∷ gs) (Some to) h = refl

jmp_named : {A : Type 0} (t : State) (f : meaning.Frame) (fs : List meaning.Frame) (func : Option (Func A)) (l : Name) → phis_written func (f ∷ fs) t.frames ≡ head_cost t func f (trees.Jmp l)
jmp_named t f fs None l = refl
jmp_named t f fs (Some func) l = refl

jnz_named : {A : Type 0} (t : State) (f : meaning.Frame) (fs : List meaning.Frame) (func : Option (Func A)) (a : Operand) (l m : Name) → phis_written func (f ∷ fs) t.frames ≡ head_cost t func f (trees.Jnz a l m)
jnz_named t f fs None a l m = refl
jnz_named t f fs (Some func) a l m = refl

hlt_named : {A : Type 0} (t : State) (f : meaning.Frame) (func : Option (Func A)) → 0 ≡ head_cost t func f trees.Hlt
hlt_named t f None = refl
hlt_named t f (Some func) = refl

ret_named : {A : Type 0} (p : Program A) (t : State) (f : SlotFrame) (fs : List SlotFrame) (a : Option Operand) → FramesFit p (f ∷ fs)
    → returned_weight (f ∷ fs) ≡ 4 + head_cost t (func_at p f.func) (frame_state p fs f) (trees.Ret a)
ret_named {A} p t f fs a fits =
    let here : FuncHere p f = func_here p f fits.0 in
    let count : length f.slots ≡ length (temps_named here.func) = sym fits.0.slots ∙ ap (λ (ns : List Name). length ns) (names_here p f.func here.func here.func_is) in
    let takes : receiver_count f.result ≡ result_count (result_of p fs f.result) = result_named p fs f.result fits.1 in
    let said : head_cost t (func_at p f.func) (frame_state p fs f) (trees.Ret a) ≡ 2 * result_count (result_of p fs f.result) + length (temps_named here.func) =
    ap (λ (o : Option (Func A)). head_cost t o (frame_state p fs f) (trees.Ret a)) here.func_is in
    rw said (omega (arith, count, takes))

jump_named : {A : Type 0} (p : Program A) (f : SlotFrame) (fs : List SlotFrame) (m : Buffers) (out : List ℕ) (st : Status) (new : Whole A) (ns ls : List Name) (j : NumberedJump A) → FramesFit p (f ∷ fs)
    → jump_weight (whole p (f ∷ fs) m out st) new j ≡ 4 + head_cost (state_of new) (func_at p f.func) (frame_state p fs f) (named_jump ns ls j)
jump_named p f fs m out st new ns ls (jumps.Jmp e) fits = ap (λ n. 4 + n) (jmp_named (state_of new) (frame_state p fs f) (frames_state p fs) (func_at p f.func) _)
jump_named p f fs m out st new ns ls (jumps.Jnz a e g) fits = ap (λ n. 4 + n) (jnz_named (state_of new) (frame_state p fs f) (frames_state p fs) (func_at p f.func) _ _ _)
jump_named p f fs m out st new ns ls (jumps.Ret a) fits = ret_named p (state_of new) f fs _ fits
jump_named p f fs m out st new ns ls jumps.Hlt fits = ap (λ n. 4 + n) (hlt_named (state_of new) (frame_state p fs f) (func_at p f.func))

jump_at : {A : Type 0} (p : Program A) (fs : List SlotFrame) (m : Buffers) (out : List ℕ) (st : Status) (new : Whole A) (block : NumberedBlock A) (k : ℕ) → FramesFit p fs → IsHere p fs block k → slice_get block.insts k ≡ None
    → stepped_whole (whole p fs m out st) ≡ Ok (state_of new) → cost_of p (state_of (whole p fs m out st)) ≡ jump_weight (whole p fs m out st) new block.jump
unfolding cost_of
jump_at p [] m out st new block k fits here is e = absurd here
jump_at {A} p (f ∷ fs) m out st new block k fits here is e =
    let w : Whole A = whole p (f ∷ fs) m out st in
    jump_here_cost p f fs (state_of w) (state_of new) block here.finds here.knows here.code (ap (slice_get block.insts) here.index ∙ is) e
    ∙ sym (jump_named p f fs m out st new (names_of p f.func) (labels_at p f.func) block.jump fits)

pub jump_costs : {A : Type 0} (m now new : Whole A) (block : NumberedBlock A) (k n : ℕ) → m ≡ now → IsMachine m → IsHere now.program now.frames block k → None ≡ slice_get block.insts k
    → stepped_whole now ≡ Ok (state_of new) → n ≡ jump_weight now new block.jump → n ≤ cost_of now.program (state_of now)
jump_costs {A} m now new block k n same ok here is e h =
    let fits : FramesFit now.program now.frames = subst (λ (x : Whole A). FramesFit x.program x.frames) same ok.frames in
    let all : n ≡ cost_of now.program (state_of now) = h ∙ sym (jump_at now.program now.frames now.memory now.output now.status new block k fits here (sym is) e) in
    omega (arith, all)

-- ---- along an edge

entered_at : {A : Type 0} (p : Program A) (f : SlotFrame) (fs gs : List SlotFrame) (block : NumberedBlock A) (e : Edge A) (k : ℕ) → IsAtPlace p f block k → IsEdgeOf e block.jump
    → entered_by (f ∷ fs) e.to.index e.moves ≡ Ok gs → 2 * length e.moves ≡ phis_written (func_at p f.func) (frames_state p (f ∷ fs)) (frames_state p gs)
entered_at {A} p f fs gs block e k stands of ent =
    let here : BlockHere p f.func f.block block = block_here p f.func f.block block stands.code in
    let func : Func A = here.func in
    let named : EdgeNamed p f.func func here.block.label e = edge-named p f.func f.block func here.block block e stands.knows here.func_is here.block_is here.code_is of in
    let target : Block A = named.target in
    let F : meaning.Frame = frame_state p fs f in
    let into : IsEntered f fs e.to.index (gathered f.slots e.moves) gs = is_entered f fs e.to.index (gathered f.slots e.moves) gs ent in
    let g : SlotFrame = entered e.to.index into.slots f in
    let count : length e.moves ≡ length (flat_map (phi_moves here.block.label) target.phis) =
    sym (length-map e.moves (named_move (names_of p f.func))) ∙ ap (λ ms. length ms) named.moves ∙ length-map (flat_map (phi_moves here.block.label) target.phis) (resolved_move p) in
    let left : here.block.label ≡ F.label = sym (ap (λ (o : Option (Block A)). label_in o) (block_at_here p f.func f.block func here.block here.func_is here.block_is)) in
    let label : target.label ≡ label_in (block_at p f.func e.to.index) =
    sym (ap (λ (o : Option (Block A)). label_in o) (block_at_here p f.func e.to.index func target here.func_is named.there)) in
    ap (λ n. 2 * n) count
    ∙ ap (λ (o : Option (Block A)). phis_cost here.block.label o) (sym (stands.finds.block f.func func e.to.index target here.func_is named.there))
    ∙ (λ i. phis_cost (left i) (block_labelled func.blocks (label i)))
    ∙ ap (λ (o : Option (Func A)). phis_written o (F ∷ frames_state p fs) (frames_state p (g ∷ fs))) (sym here.func_is)
    ∙ ap (λ (hs : List SlotFrame). phis_written (func_at p f.func) (F ∷ frames_state p fs) (frames_state p hs)) into.new_is

entered_in : {A : Type 0} (p : Program A) (fs gs : List SlotFrame) (block : NumberedBlock A) (e : Edge A) (k : ℕ) → IsHere p fs block k → IsEdgeOf e block.jump
    → entered_by fs e.to.index e.moves ≡ Ok gs → 2 * length e.moves ≡ phis_written (head_func p fs) (frames_state p fs) (frames_state p gs)
entered_in p [] gs block e k here of ent = absurd here
entered_in p (f ∷ fs) gs block e k here of ent = entered_at p f fs gs block e k here of ent

pub entered_weighs : {A : Type 0} (now new : Whole A) (block : NumberedBlock A) (e : Edge A) (k n : ℕ) → IsHere now.program now.frames block k → IsEdgeOf e block.jump → entered_by now.frames e.to.index e.moves ≡ Ok new.frames
    → new ≡ record now { frames = new.frames } → n ≡ 4 + 2 * length e.moves → n ≡ entered_weight now new
entered_weighs {A} now new block e k n here of ent en h =
    let is = entered_in now.program now.frames new.frames block e k here of ent in
    h ∙ ap (λ n. 4 + n) is
    ∙ ap (λ (p : Program A). 4 + phis_written (head_func now.program now.frames) (frames_state now.program now.frames) (frames_state p new.frames)) (sym (ap (λ (x : Whole A). x.program) en))

-- ---- the step

pub perform_costs : {A T : Type 0} (m now new : Whole A) (block : NumberedBlock A) (inst : NumberedInst A) (k : ℕ) (kept : Move → Type 0) (r : Result T StepError) → m ≡ now → IsMachine m → IsHere now.program now.frames block k
    → Some inst ≡ slice_get block.insts k → OnOk r (performed_whole now inst ≡ Ok (state_of new)) → OnOk r (WeighsAtMost kept (inst_weight now new inst)) → OnOk r (WeighsAtMost kept (cost_of now.program (state_of now)))
perform_costs m now new block inst k kept (Ok d) same ok here is does h =
    let found : InstFound now inst k = inst_found m now block inst k same ok here is in
    (h.0, h.1, inst_costs now new block inst k (weight h.0) here is (found.does ∙ does) h.2)
perform_costs m now new block inst k kept (Err e) same ok here is does h = tt

pub leave_costs : {A T : Type 0} (m now new : Whole A) (block : NumberedBlock A) (k : ℕ) (kept : Move → Type 0) (r : Result T StepError) → m ≡ now → IsMachine m → IsHere now.program now.frames block k → None ≡ slice_get block.insts k
    → OnOk r (left_whole now block.jump ≡ Ok (state_of new)) → OnOk r (WeighsAtMost kept (jump_weight now new block.jump)) → OnOk r (WeighsAtMost kept (cost_of now.program (state_of now)))
leave_costs m now new block k kept (Ok d) same ok here is does h =
    let most : jump_weight now new block.jump ≤ cost_of now.program (state_of now) = jump_costs m now new block k (jump_weight now new block.jump) same ok here is (jump_found now block k here is ∙ does) refl in
    (h.0, h.1, omega (arith, h.2, most))
leave_costs m now new block k kept (Err e) same ok here is does h = tt
