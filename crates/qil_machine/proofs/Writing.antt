-- Functions that write, from the parts of a machine to the step by names.
use Rattle.std.proofs.Common.{◌≡◌, refl, sym, ap, ◌∙◌, subst, ℕ, ◌+◌, ◌<◌, ◌≤◌, ◌^◌, true, false, List, [], ◌∷◌, ◌++◌, length, take, drop, Option, Some, None, Ok, Err, IsOk, arith}
use Rattle.std.specs.Prelude.{option_map, nat_lt}
use Rattle.std.proofs.lemmas.Bool.{lt-ltb, le-ltb}
use Rattle.std.proofs.lemmas.List.{length-append, length-take-le, take-append-drop}
use Rattle.qil_tree.specs.declared.ops.AbiType.TheVariants as types
use Rattle.qil_tree.specs.declared.tree.CallResult.{CallResult}
use Rattle.qil_tree.specs.declared.tree.Program.{Program}
use Rattle.qil_layout.specs.declared.callee.Callee.TheVariants.{PutChar, Puts}
use Rattle.qil_ops.specs.Values.{low_bits}
use Rattle.qil_memory.specs.Buffers.{Buffers}
use Rattle.qil_memory.specs.Live.{Live, live}
use Rattle.qil_semantics.specs.State as meaning
use Rattle.qil_semantics.specs.State.{Name, State, output_full}
use Rattle.qil_semantics.specs.Values.{Outcome, ◌>>=◌, first}
use Rattle.qil_semantics.specs.Calls.{next, taken, writes, output_limit, putchar, puts, text_at}
use Rattle.qil_code.specs.declared.numbered.Receiver.{Receiver}
use Rattle.qil_code.specs.declared.numbered.NumberedArgument.{NumberedArgument}
use Rattle.qil_code.specs.Named.{named_receiver}
use Rattle.qil_code.specs.Numbered.{names_of}
use Rattle.qil_frames.specs.Frames.{SlotFrame, on_innermost, at_index}
use Rattle.qil_state.specs.declared.status.Status.{Status}
use Rattle.qil_state.specs.Faults.{fault_of}
use Rattle.qil_state.specs.State.{Whole, whole, state_of, frame_state, frames_state, head_names, FramesFit, ReceiverFits, IsMachine, IsNext}
use Rattle.qil_state.proofs.Reading.{are_slots, slot_written}
use Rattle.qil_machine.specs.declared.error.StepError.{StepError}
use Rattle.qil_machine.specs.declared.error.StepError.TheVariants as errors
use Rattle.qil_machine.specs.Moves.{Move}
use Rattle.qil_machine.specs.Kinds.{wrote_move, received, held_by, with_received}
use Rattle.qil_machine.specs.Places.{IsRunning, Made}
use Rattle.qil_machine.specs.Results.{received_value, gives, Explains, WriteExplains, TextExplains}
use Rattle.qil_machine.specs.Calls.{called_whole, TakesOne, bytes_from, PutsText}
use Rattle.qil_machine.proofs.Made.{wrote}
use Rattle.qil_machine.proofs.Steps.{AreOf}
use Rattle.qil_machine.proofs.Texts.{length_bytes}

-- ---- the move

fewer : {A : Type 0} (w : Whole A) (out : List ℕ) → length out ≤ length w.output → IsMachine w → IsMachine (record w { output = out })
fewer w out l ok = record { few = ok.few; frames = ok.frames; some = ok.some; floors = ok.floors; output = let k = ok.output in omega (arith, k, l) }

wrote_at : {A : Type 0} (p : Program A) (fs : List SlotFrame) (m : Buffers) (out : List ℕ) (st : Status) (to : Option Receiver) (k n : ℕ) (w : Option ℕ) → IsRunning (whole p fs m out st) → IsMachine (whole p fs m out st) → ReceiverFits fs to → IsNext p fs k → n ≤ length out
    → Made (wrote_move k n (received to (held_by to fs))) (whole p fs m (take n out) st) (whole p (on_innermost (at_index (k + 1)) (on_innermost (with_received to w) fs)) m out st)
wrote_at p fs m out st to k n w run ok h next l =
    let count : length (take n out) ≡ n = length-take-le n out l in
    let all : take n out ++ drop n out ≡ out = take-append-drop n out in
    let few : length (take n out ++ drop n out) ≤ 2 ^ 20 = subst (λ o. length o ≤ 2 ^ 20) (sym all) ok.output in
    let move = wrote p fs m (take n out) (drop n out) st to k w run (fewer (whole p fs m out st) (take n out) (omega (arith, count, l)) ok) h next few in
    subst (λ j. Made (wrote_move k j (received to (held_by to fs))) (whole p fs m (take n out) st) (whole p (on_innermost (at_index (k + 1)) (on_innermost (with_received to w) fs)) m out st)) count
    (subst (λ o. Made (wrote_move k (length (take n out)) (received to (held_by to fs))) (whole p fs m (take n out) st) (whole p (on_innermost (at_index (k + 1)) (on_innermost (with_received to w) fs)) m o st)) all move)

pub wrote_made : {A : Type 0} (m now : Whole A) (d : Move) (to : Option Receiver) (k n : ℕ) (v : Option ℕ) (old : Option ℕ) (hs gs : List SlotFrame) → m ≡ now → IsMachine m → IsRunning now → ReceiverFits now.frames to → IsNext now.program now.frames k
    → n ≤ length now.output → hs ≡ gives to v m.frames → old ≡ held_by to m.frames → gs ≡ on_innermost (at_index (k + 1)) hs → d ≡ wrote_move k n (received to old)
    → Made d (record now { output = take n now.output }) (whole m.program gs m.memory m.output m.status)
wrote_made {A} m now d to k n v old hs gs same ok run h next l eh eo eg ed =
    subst (λ (w : Whole A). IsRunning w → ReceiverFits w.frames to → IsNext w.program w.frames k → n ≤ length w.output → Made d (record w { output = take n w.output }) (whole m.program gs m.memory m.output m.status)) same
    (λ run h next l. rw (ed, eo, eg, eh) (wrote_at m.program m.frames m.memory m.output m.status to k n (received_value to v) run ok h next l)) run h next l

-- ---- what is done

writes_at : {A : Type 0} (p : Program A) (f : SlotFrame) (fs : List SlotFrame) (m : Buffers) (out : List ℕ) (st : Status) (to : Option Receiver) (bytes : List ℕ) (k v : ℕ) → FramesFit p (f ∷ fs) → ReceiverFits (f ∷ fs) to → IsNext p (f ∷ fs) k
    → length out + length bytes ≤ 2 ^ 20
    → writes (state_of (whole p (f ∷ fs) m out st)) (frame_state p fs f) (frames_state p fs) (option_map (named_receiver (names_of p f.func)) to) bytes v
    ≡ Ok (state_of (whole p (at_index (k + 1) (with_received to (received_value to (Some v)) f) ∷ fs) m (out ++ bytes) st))
writes_at {A} p f fs m out st None bytes k v fits h n room =
    let S : State = state_of (whole p (f ∷ fs) m out st) in
    let F : meaning.Frame = frame_state p fs f in
    let there : nat_lt output_limit (length (out ++ bytes)) ≡ false = le-ltb output_limit (length (out ++ bytes)) (omega (arith, length-append out bytes, room)) in
    rw there (λ i. Ok (record S { frames = record F { index = n.0 i + 1 } ∷ frames_state p fs; output = out ++ bytes }))
writes_at {A} p f fs m out st (Some to) bytes k v fits h n room =
    let S : State = state_of (whole p (f ∷ fs) m out st) in
    let F : meaning.Frame = frame_state p fs f in
    let ns : List Name = names_of p f.func in
    let there : nat_lt output_limit (length (out ++ bytes)) ≡ false = le-ltb output_limit (length (out ++ bytes)) (omega (arith, length-append out bytes, room)) in
    let sets = slot_written ns f.slots to.slot.index (Some (taken to.abi_type v)) (are_slots p f fits.0) h in
    rw there (λ i. Ok (record S { frames = record F { index = n.0 i + 1; temps = sym sets i } ∷ frames_state p fs; output = out ++ bytes }))

writes_full : (s : State) (f : meaning.Frame) (fs : List meaning.Frame) (to : Option CallResult) (bytes : List ℕ) (v : ℕ) → 2 ^ 20 < length s.output + length bytes → writes s f fs to bytes v ≡ Err output_full
writes_full s f fs to bytes v over =
    let there : nat_lt output_limit (length (s.output ++ bytes)) ≡ true = lt-ltb output_limit (length (s.output ++ bytes)) (omega (arith, length-append s.output bytes, over)) in
    rw there refl

writes_well : (s : State) (f : meaning.Frame) (fs : List meaning.Frame) (to : Option CallResult) (bytes : List ℕ) (v : ℕ) → length s.output + length bytes ≤ 2 ^ 20 → IsOk (writes s f fs to bytes v)
writes_well s f fs to bytes v room =
    let there : nat_lt output_limit (length (s.output ++ bytes)) ≡ false = le-ltb output_limit (length (s.output ++ bytes)) (omega (arith, length-append s.output bytes, room)) in
    rw there refl

writes_explains : (ns : List Name) (s : State) (f : meaning.Frame) (fs : List meaning.Frame) (to : Option CallResult) (bytes : List ℕ) (v : ℕ) (e : StepError) → WriteExplains e (length s.output + length bytes) → Explains ns (writes s f fs to bytes v) e
writes_explains ns s f fs to bytes v (errors.Fault why) h = writes_full s f fs to bytes v h.1 ∙ ap (λ f. Err (fault_of ns f)) (sym h.0)
writes_explains ns s f fs to bytes v errors.OutOfMemory h = writes_well s f fs to bytes v h

-- what comes of a call is what comes of writing these bytes, and then this value is given
abbrev pub IsWrite : {A : Type 0} → Whole A → Option Receiver → Outcome State → List ℕ → ℕ → List SlotFrame → Type 0
IsWrite w to o bytes v [] = ⊥
IsWrite w to o bytes v (f ∷ fs) = o ≡ writes (state_of w) (frame_state w.program fs f) (frames_state w.program fs) (option_map (named_receiver (names_of w.program f.func)) to) bytes v

written_at : {A : Type 0} (p : Program A) (fs : List SlotFrame) (m : Buffers) (out : List ℕ) (st : Status) (to : Option Receiver) (o : Outcome State) (bytes : List ℕ) (k v : ℕ) → FramesFit p fs → ReceiverFits fs to → IsNext p fs k → length out + length bytes ≤ 2 ^ 20
    → IsWrite (whole p fs m out st) to o bytes v fs → o ≡ Ok (state_of (whole p (on_innermost (at_index (k + 1)) (gives to (Some v) fs)) m (out ++ bytes) st))
written_at p [] m out st to o bytes k v fits h n room is = absurd is
written_at p (f ∷ fs) m out st to o bytes k v fits h n room is = is ∙ writes_at p f fs m out st to bytes k v fits h n room

explained_at : {A : Type 0} (p : Program A) (fs : List SlotFrame) (m : Buffers) (out : List ℕ) (st : Status) (to : Option Receiver) (o : Outcome State) (bytes : List ℕ) (v : ℕ) (e : StepError) → WriteExplains e (length out + length bytes)
    → IsWrite (whole p fs m out st) to o bytes v fs → Explains (head_names p fs) o e
explained_at p [] m out st to o bytes v e h is = absurd is
explained_at p (f ∷ fs) m out st to o bytes v e h is =
    subst (λ (r : Outcome State). Explains (names_of p f.func) r e) (sym is)
    (writes_explains (names_of p f.func) (state_of (whole p (f ∷ fs) m out st)) (frame_state p fs f) (frames_state p fs) (option_map (named_receiver (names_of p f.func)) to) bytes v e h)

-- ---- a byte

char_at : {A : Type 0} (p : Program A) (fs : List SlotFrame) (m : Buffers) (out : List ℕ) (st : Status) (to : Option Receiver) (args : List NumberedArgument) (vs : List (Option ℕ)) (a v b : ℕ) → AreOf fs vs → TakesOne vs types.W (Some types.W) to args (Ok v) → b ≡ low_bits 8 v
    → IsWrite (whole p fs m out st) to (called_whole (whole p fs m out st) to args a (Some PutChar)) (b ∷ []) b fs
char_at p [] m out st to args vs a v b of one eb = absurd of
char_at {A} p (f ∷ fs) m out st to args vs a v b of one eb =
    let S : State = state_of (whole p (f ∷ fs) m out st) in
    let R : Option CallResult = option_map (named_receiver (names_of p f.func)) to in
    let here : TakesOne f.slots types.W (Some types.W) to args (Ok v) = subst (λ us. TakesOne us types.W (Some types.W) to args (Ok v)) of one in
    ap (λ (o : Outcome (List ℕ)). o >>= λ ws. putchar S (frame_state p fs f) (frames_state p fs) R (first ws)) (sym (here (names_of p f.func)))
    ∙ ap (λ x. writes S (frame_state p fs f) (frames_state p fs) R (x ∷ []) x) (sym eb)

pub char_does : {A : Type 0} (m now new : Whole A) (to : Option Receiver) (args : List NumberedArgument) (vs : List (Option ℕ)) (k v b : ℕ) → m ≡ now → IsMachine m → AreOf m.frames vs → TakesOne vs types.W (Some types.W) to args (Ok v) → b ≡ low_bits 8 v
    → ReceiverFits now.frames to → IsNext now.program now.frames k → length now.output + 1 ≤ 2 ^ 20
    → new ≡ record now { frames = on_innermost (at_index (k + 1)) (gives to (Some b) now.frames); output = now.output ++ b ∷ [] } → (a : ℕ) → called_whole now to args a (Some PutChar) ≡ Ok (state_of new)
char_does {A} m now new to args vs k v b same ok of one eb h n room en a =
    subst (λ (x : Whole A). ReceiverFits x.frames to → IsNext x.program x.frames k → length x.output + 1 ≤ 2 ^ 20
    → new ≡ record x { frames = on_innermost (at_index (k + 1)) (gives to (Some b) x.frames); output = x.output ++ b ∷ [] } → called_whole x to args a (Some PutChar) ≡ Ok (state_of new)) same
    (λ h n room en. written_at m.program m.frames m.memory m.output m.status to (called_whole m to args a (Some PutChar)) (b ∷ []) k b ok.frames h n room (char_at m.program m.frames m.memory m.output m.status to args vs a v b of one eb)
    ∙ ap (λ (y : Whole A). Ok (state_of y)) (sym en)) h n room en

pub char_explains : {A : Type 0} (m now : Whole A) (to : Option Receiver) (args : List NumberedArgument) (vs : List (Option ℕ)) (v b : ℕ) (e : StepError) → m ≡ now → AreOf m.frames vs → TakesOne vs types.W (Some types.W) to args (Ok v) → b ≡ low_bits 8 v
    → WriteExplains e (length now.output + 1) → (a : ℕ) → Explains (head_names now.program now.frames) (called_whole now to args a (Some PutChar)) e
char_explains {A} m now to args vs v b e same of one eb h a =
    subst (λ (x : Whole A). WriteExplains e (length x.output + 1) → Explains (head_names x.program x.frames) (called_whole x to args a (Some PutChar)) e) same
    (λ h. explained_at m.program m.frames m.memory m.output m.status to (called_whole m to args a (Some PutChar)) (b ∷ []) b e h (char_at m.program m.frames m.memory m.output m.status to args vs a v b of one eb)) h

-- ---- a text

text_long : (m : Live) (a n : ℕ) (out mid all : List ℕ) → mid ≡ out → all ≡ mid ++ (bytes_from m a n ++ 10 ∷ []) → length all ≡ length out + (n + 1)
text_long m a n out mid all em ea =
    let bs : List ℕ = bytes_from m a n in
    let long : length bs ≡ n = length_bytes m a n in
    let last : length (bs ++ 10 ∷ []) ≡ length bs + 1 = length-append bs (10 ∷ []) in
    ap (λ (l : List ℕ). length l) (ea ∙ ap (λ l. l ++ (bs ++ 10 ∷ [])) em) ∙ length-append out (bs ++ 10 ∷ []) ∙ omega (arith, long, last)

pub text_machine : {A : Type 0} (w : Whole A) (a n : ℕ) (mid all : List ℕ) → IsMachine w → mid ≡ w.output → all ≡ mid ++ (bytes_from (live w.memory) a n ++ 10 ∷ []) → length w.output + (n + 1) ≤ 2 ^ 20 → IsMachine (whole w.program w.frames w.memory all w.status)
text_machine w a n mid all ok em ea room =
    let long : length all ≡ length w.output + (n + 1) = text_long (live w.memory) a n w.output mid all em ea in
    record { few = ok.few; frames = ok.frames; some = ok.some; floors = ok.floors; output = omega (arith, long, room) }

pub text_after : {A : Type 0} (m now new : Whole A) (a n k : ℕ) (to : Option Receiver) (mid all : List ℕ) → m ≡ now → text_at (live m.memory) a ≡ Ok (bytes_from (live m.memory) a n) → length m.output + (n + 1) ≤ 2 ^ 20
    → mid ≡ m.output → all ≡ mid ++ (bytes_from (live m.memory) a n ++ 10 ∷ []) → new ≡ whole m.program (on_innermost (at_index (k + 1)) (gives to (Some 0) m.frames)) m.memory all m.status → PutsText a k to new now
text_after {A} m now new a n k to mid all same et room em ea en =
    let bs : List ℕ = bytes_from (live m.memory) a n in
    let out : all ≡ m.output ++ (bs ++ 10 ∷ []) = ea ∙ ap (λ l. l ++ (bs ++ 10 ∷ [])) em in
    subst (PutsText a k to new) same (n, et, room, en ∙ ap (λ (o : List ℕ). whole m.program (on_innermost (at_index (k + 1)) (gives to (Some 0) m.frames)) m.memory o m.status) out)

pub text_full : {A : Type 0} (m now : Whole A) (a n : ℕ) (e : StepError) → m ≡ now → text_at (live m.memory) a ≡ Ok (bytes_from (live m.memory) a n) → WriteExplains e (length m.output + (n + 1)) → TextExplains (text_at (live now.memory) a) (length now.output) e
text_full {A} m now a n e same et h =
    subst (λ (x : Whole A). TextExplains (text_at (live x.memory) a) (length x.output) e) same
    (subst (λ (o : Outcome (List ℕ)). TextExplains o (length m.output) e) (sym et)
    (subst (λ j. WriteExplains e (length m.output + (j + 1))) (sym (length_bytes (live m.memory) a n)) h))

puts_at : {A : Type 0} (p : Program A) (fs : List SlotFrame) (m : Buffers) (out : List ℕ) (st : Status) (to : Option Receiver) (args : List NumberedArgument) (vs : List (Option ℕ)) (a v : ℕ) (bs : List ℕ) → AreOf fs vs → TakesOne vs types.L (Some types.W) to args (Ok v)
    → text_at (live m) v ≡ Ok bs → IsWrite (whole p fs m out st) to (called_whole (whole p fs m out st) to args a (Some Puts)) (bs ++ 10 ∷ []) 0 fs
puts_at p [] m out st to args vs a v bs of one et = absurd of
puts_at {A} p (f ∷ fs) m out st to args vs a v bs of one et =
    let S : State = state_of (whole p (f ∷ fs) m out st) in
    let R : Option CallResult = option_map (named_receiver (names_of p f.func)) to in
    let here : TakesOne f.slots types.L (Some types.W) to args (Ok v) = subst (λ us. TakesOne us types.L (Some types.W) to args (Ok v)) of one in
    ap (λ (o : Outcome (List ℕ)). o >>= λ ws. puts S (frame_state p fs f) (frames_state p fs) R (first ws)) (sym (here (names_of p f.func)))
    ∙ ap (λ (o : Outcome (List ℕ)). o >>= λ bytes. writes S (frame_state p fs f) (frames_state p fs) R (bytes ++ (10 ∷ [])) 0) et

puts_dead_at : {A : Type 0} (p : Program A) (fs : List SlotFrame) (m : Buffers) (out : List ℕ) (st : Status) (to : Option Receiver) (args : List NumberedArgument) (vs : List (Option ℕ)) (a v : ℕ) (why : meaning.Fault) → AreOf fs vs → TakesOne vs types.L (Some types.W) to args (Ok v)
    → text_at (live m) v ≡ Err why → called_whole (whole p fs m out st) to args a (Some Puts) ≡ Err why
puts_dead_at p [] m out st to args vs a v why of one et = absurd of
puts_dead_at {A} p (f ∷ fs) m out st to args vs a v why of one et =
    let S : State = state_of (whole p (f ∷ fs) m out st) in
    let R : Option CallResult = option_map (named_receiver (names_of p f.func)) to in
    let here : TakesOne f.slots types.L (Some types.W) to args (Ok v) = subst (λ us. TakesOne us types.L (Some types.W) to args (Ok v)) of one in
    ap (λ (o : Outcome (List ℕ)). o >>= λ ws. puts S (frame_state p fs f) (frames_state p fs) R (first ws)) (sym (here (names_of p f.func)))
    ∙ ap (λ (o : Outcome (List ℕ)). o >>= λ bytes. writes S (frame_state p fs f) (frames_state p fs) R (bytes ++ (10 ∷ [])) 0) et

pub puts_does : {A : Type 0} (m now new : Whole A) (to : Option Receiver) (args : List NumberedArgument) (vs : List (Option ℕ)) (k v : ℕ) → m ≡ now → IsMachine m → AreOf m.frames vs → TakesOne vs types.L (Some types.W) to args (Ok v)
    → ReceiverFits now.frames to → IsNext now.program now.frames k → PutsText v k to new now → (a : ℕ) → called_whole now to args a (Some Puts) ≡ Ok (state_of new)
puts_does {A} m now new to args vs k v same ok of one h n text a =
    subst (λ (x : Whole A). ReceiverFits x.frames to → IsNext x.program x.frames k → PutsText v k to new x → called_whole x to args a (Some Puts) ≡ Ok (state_of new)) same
    (λ h n text.
    let bs : List ℕ = bytes_from (live m.memory) v text.0 in
    let long : length bs ≡ text.0 = length_bytes (live m.memory) v text.0 in
    let last : length (bs ++ 10 ∷ []) ≡ length bs + 1 = length-append bs (10 ∷ []) in
    let few = text.2 in
    let room : length m.output + length (bs ++ 10 ∷ []) ≤ 2 ^ 20 = omega (arith, long, last, few) in
    written_at m.program m.frames m.memory m.output m.status to (called_whole m to args a (Some Puts)) (bs ++ 10 ∷ []) k 0 ok.frames h n room
    (puts_at m.program m.frames m.memory m.output m.status to args vs a v bs of one text.1)
    ∙ ap (λ (y : Whole A). Ok (state_of y)) (sym text.3)) h n text

puts_fails : {A : Type 0} (m : Whole A) (to : Option Receiver) (args : List NumberedArgument) (vs : List (Option ℕ)) (a v : ℕ) (e : StepError) (o : Outcome (List ℕ)) → AreOf m.frames vs → TakesOne vs types.L (Some types.W) to args (Ok v)
    → text_at (live m.memory) v ≡ o → TextExplains o (length m.output) e → Explains (head_names m.program m.frames) (called_whole m to args a (Some Puts)) e
puts_fails {A} m to args vs a v e (Ok bs) of one et h =
    let last : length bs + 1 ≡ length (bs ++ 10 ∷ []) = sym (length-append bs (10 ∷ [])) in
    explained_at m.program m.frames m.memory m.output m.status to (called_whole m to args a (Some Puts)) (bs ++ 10 ∷ []) 0 e (subst (λ j. WriteExplains e (length m.output + j)) last h)
    (puts_at m.program m.frames m.memory m.output m.status to args vs a v bs of one et)
puts_fails {A} m to args vs a v (errors.Fault f) (Err why) of one et h =
    puts_dead_at m.program m.frames m.memory m.output m.status to args vs a v why of one et ∙ ap (λ x. Err x) (h (head_names m.program m.frames))
puts_fails {A} m to args vs a v errors.OutOfMemory (Err why) of one et h = absurd h

pub puts_explains : {A : Type 0} (m now : Whole A) (to : Option Receiver) (args : List NumberedArgument) (vs : List (Option ℕ)) (v : ℕ) (e : StepError) → m ≡ now → AreOf m.frames vs → TakesOne vs types.L (Some types.W) to args (Ok v)
    → TextExplains (text_at (live now.memory) v) (length now.output) e → (a : ℕ) → Explains (head_names now.program now.frames) (called_whole now to args a (Some Puts)) e
puts_explains {A} m now to args vs v e same of one h a =
    subst (λ (x : Whole A). TextExplains (text_at (live x.memory) v) (length x.output) e → Explains (head_names x.program x.frames) (called_whole x to args a (Some Puts)) e) same
    (λ h. puts_fails m to args vs a v e (text_at (live m.memory) v) of one refl h) h
