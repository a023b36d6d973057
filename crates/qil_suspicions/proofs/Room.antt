-- The live bytes of each state of a run are those of the data and of the stack below its top, which has room.
use Rattle.std.proofs.Common.{◌≡◌, ◌∙◌, ◌⊎◌, inl, inr, refl, sym, ap, subst, ℕ, zero, suc, ◌+◌, ◌-◌, ◌^◌, ◌<◌, ◌≤◌, Bool, true, false, ◌&&◌, ◌||◌, if◌then◌else◌, List, [], ◌∷◌, ◌++◌, length, Option, Some, None, Ok, Err, arith}
use Rattle.std.specs.Prelude.{nat_le, nat_lt, ◌==◌, slice_get, replicate, map, flat_map, ⊤}
use Rattle.std.proofs.lemmas.Bool.Decides.{nat_tests}
use Rattle.std.proofs.lemmas.List.{length-replicate}
use Rattle.std.proofs.lemmas.Option.{slice_get_within}
use Rattle.qil_tree.specs.declared.tree.Argument.{Argument}
use Rattle.qil_tree.specs.declared.tree.CallResult.{CallResult}
use Rattle.qil_tree.specs.declared.ops.AllocOp.{AllocOp}
use Rattle.qil_tree.specs.declared.ops.AllocOp.TheVariants as allocs
use Rattle.qil_tree.specs.declared.ops.AbiType.TheVariants as types
use Rattle.qil_tree.specs.declared.ops.Class.TheVariants as classes
use Rattle.qil_tree.specs.declared.tree.Inst.{Inst}
use Rattle.qil_tree.specs.declared.tree.InstKind.{InstKind}
use Rattle.qil_tree.specs.declared.tree.InstKind.TheVariants as insts
use Rattle.qil_tree.specs.declared.tree.Jump.{Jump}
use Rattle.qil_tree.specs.declared.tree.JumpKind.{JumpKind}
use Rattle.qil_tree.specs.declared.tree.JumpKind.TheVariants as jumps
use Rattle.qil_tree.specs.declared.tree.Block.{Block}
use Rattle.qil_tree.specs.declared.tree.Func.{Func}
use Rattle.qil_tree.specs.declared.tree.Program.{Program}
use Rattle.qil_memory.specs.qil_rules.Operands.{inst_reads}
use Rattle.qil_memory.specs.qil_rules.Occurrences.{returned_class}
use Rattle.qil_memory.specs.qil_layout.declared.callee.Callee.{Callee}
use Rattle.qil_memory.specs.qil_layout.declared.callee.Callee.TheVariants.{Defined, PutChar, Puts, Exit}
use Rattle.qil_memory.specs.qil_layout.Callee.{callee_at}
use Rattle.qil_memory.specs.qil_layout.Layout.{data_base, bytes_of, width_bytes, rounded, low_bytes, zeros}
use Rattle.qil_layout.proofs.BytesLemmas.{rounded_low, length-low_bytes}
use Rattle.qil_memory.specs.declared.fault.Dead.{Dead}
use Rattle.qil_memory.specs.declared.fault.BlitFault.{BlitFault}
use Rattle.qil_memory.specs.declared.fault.BlitFault.TheVariants as blits
use Rattle.qil_memory.specs.Buffers.{stack_base, stack_end, capacity}
use Rattle.qil_memory.specs.Live.{Live, onto, read, else_at, laid, below}
use Rattle.qil_memory.specs.Calls as memory
use Rattle.qil_memory.specs.Calls.{overlap, stored, blitted}
use Rattle.qil_memory.proofs.Maps.{laid_before, laid_from}
use Rattle.qil_semantics.specs.State.{Name, Frame, State}
use Rattle.qil_semantics.specs.Values.{Outcome, ◌>>=◌, if_live, val, vals, fit, first, second, rest, result_of}
use Rattle.qil_semantics.specs.Calls.{next, in_shape, shape_of, shape_of_putchar, shape_of_puts, shape_of_exit, enters, call_defined, output_limit, writes, text_at, call_at}
use Rattle.qil_semantics.specs.Start.{none_live, started}
use Rattle.qil_semantics.specs.Step.{alignment, act, copied, remembers, grows, phi_moves, merges, enters_block, block_labelled, func_named, returns, leave, does, in_block, in_func, settled, step_in, step_of}
use Rattle.qil_shadow.specs.Accesses.{are_live}
use Rattle.qil_shadow.specs.Steps.{HasRoom}
use Rattle.qil_shadow.proofs.ValueLemmas.{bound}
use Rattle.qil_shadow.proofs.SoundLemmas.{passed_if, passed_then, lies_by, read_lies}
use Rattle.qil_shadow.proofs.StepLemmas.{ok_is}

-- ---- where a byte lies

abbrev Lies : {A : Type 0} → Program A → ℕ → ℕ → Type 0
Lies p top a = ((data_base ≤ a) × (a + 1 ≤ data_base + length (bytes_of p))) ⊎ ((stack_base ≤ a) × (a + 1 ≤ top))

record Room {A : Type 0} (p : Program A) (m : Live) (top : ℕ) : Type 0 where
  live : (a b : ℕ) → m a ≡ Some b → Lies p top a
  low : stack_base ≤ top
  high : top ≤ stack_end

is_below : (a b : ℕ) → a ≤ b → nat_le a b ≡ true
is_below a b l = grind (arith, nat_tests, l)

or_right : (x : Bool) → (x || true) ≡ true
or_right true = refl
or_right false = refl

live_by : {A : Type 0} (p : Program A) (s : State) (a : ℕ) → Lies p s.top a → are_live p s a 1 ≡ true
live_by p s a (inl d) =
    λ j. (is_below data_base a d.0 j && is_below (a + 1) (data_base + length (bytes_of p)) d.1 j) || (nat_le stack_base a && nat_le (a + 1) s.top)
live_by p s a (inr d) =
    (λ j. (nat_le data_base a && nat_le (a + 1) (data_base + length (bytes_of p))) || (is_below stack_base a d.0 j && is_below (a + 1) s.top d.1 j))
    ∙ or_right (nat_le data_base a && nat_le (a + 1) (data_base + length (bytes_of p)))

room_of : {A : Type 0} (p : Program A) (s : State) → HasRoom p s → Room p s.memory s.top
room_of p s r = record { live = λ a b e. lies_by p s a 1 (r.live a b e); low = r.low; high = r.high }

of_room : {A : Type 0} (p : Program A) (s : State) → Room p s.memory s.top → HasRoom p s
of_room p s r = record { live = λ a b e. live_by p s a (r.live a b e); low = r.low; high = r.high }

grown : {A : Type 0} (p : Program A) (top more a : ℕ) → top ≤ more → Lies p top a → Lies p more a
grown p top more a l (inl d) = inl d
grown p top more a l (inr d) = inr (d.0, omega (arith, l, d.1))

-- ---- bytes that are laid

before : (a b : ℕ) → nat_lt a b ≡ true → a < b
before a b e = grind (arith, nat_tests, e)

not_before : (a b : ℕ) → nat_lt a b ≡ false → b ≤ a
not_before a b e = grind (arith, nat_tests, e)

laid_room : {A : Type 0} (p : Program A) (m : Live) (top more a : ℕ) (bs : List ℕ) → Room p m top → top ≤ more → more ≤ stack_end → ((k : ℕ) → k < length bs → Lies p more (a + k)) → Room p (laid m a bs) more
laid_room p m top more a bs r l high each = record {
  live = λ b v e. at b v e (nat_lt b a) refl;
  low = let low = r.low in omega (arith, low, l);
  high = high;
}
  where
    over : (b v : ℕ) (o : Option ℕ) → a ≤ b → slice_get bs (b - a) ≡ o → else_at o (m b) ≡ Some v → Lies p more b
    over b v None behind is e = grown p top more b l (r.live b v e)
    over b v (Some w) behind is e = let same : a + (b - a) ≡ b = omega (arith, behind) in subst (Lies p more) same (each (b - a) (slice_get_within bs (b - a) w is))

    at : (b v : ℕ) → laid m a bs b ≡ Some v → (t : Bool) → nat_lt b a ≡ t → Lies p more b
    at b v e true is = grown p top more b l (r.live b v (sym (laid_before m a bs b (before b a is)) ∙ e))
    at b v e false is =
        let behind = not_before b a is in
        over b v (slice_get bs (b - a)) behind refl (sym (laid_from m a bs b (b - a) (omega (arith, behind))) ∙ e)

under : {A : Type 0} (p : Program A) (top floor b : ℕ) → b < floor → Lies p top b → Lies p floor b
under p top floor b is (inl d) = inl d
under p top floor b is (inr d) = inr (d.0, omega (arith, is))

below_room : {A : Type 0} (p : Program A) (m : Live) (top floor : ℕ) → Room p m top → stack_base ≤ floor → floor ≤ top → Room p (below m floor) floor
unfolding below
below_room p m top floor r low l = record { live = λ b v e. at b v e (nat_lt b floor) refl; low = low; high = let high = r.high in omega (arith, high, l) }
  where
    at : (b v : ℕ) → below m floor b ≡ Some v → (t : Bool) → nat_lt b floor ≡ t → Lies p floor b
    at b v e true is = under p top floor b (before b floor is) (r.live b v ((λ i. if sym is i then m b else None) ∙ e))
    at b v e false is = let none : None ≡ Some v = (λ i. if sym is i then m b else None) ∙ e in absurd cc

-- ---- an instruction

-- all of some bytes lie where each of them does
part : {A : Type 0} (p : Program A) (s : State) (a n k : ℕ) → ((data_base ≤ a) × (a + n ≤ data_base + length (bytes_of p))) ⊎ ((stack_base ≤ a) × (a + n ≤ s.top)) → k < n → Lies p s.top (a + k)
part p s a n k (inl d) l = inl (omega (arith, d.0), omega (arith, d.1, l))
part p s a n k (inr d) l = inr (omega (arith, d.0), omega (arith, d.1, l))

read_part : {A : Type 0} (p : Program A) (s : State) (a n k : ℕ) (bytes : List ℕ) → HasRoom p s → length (bytes_of p) ≤ 2 ^ 20 → read s.memory a n ≡ Some bytes → k < n → Lies p s.top (a + k)
read_part p s a n k bytes room few e l = part p s a n k (read_lies p s a n bytes room few (omega (arith, l)) e) l

onto_some : (o : Option ℕ) (r : Option (List ℕ)) (bytes : List ℕ) → onto o r ≡ Some bytes → (b : ℕ) × (bs : List ℕ) × (r ≡ Some bs) × (b ∷ bs ≡ bytes)
onto_some None r bytes e = absurd cc
onto_some (Some b) None bytes e = absurd cc
onto_some (Some b) (Some bs) bytes e = let same : Some (b ∷ bs) ≡ Some bytes = e in (b, bs, refl, cc)

read_length : (m : Live) (a n : ℕ) (bytes : List ℕ) → read m a n ≡ Some bytes → length bytes ≡ n
read_length m a zero bytes e = let same : Some [] ≡ Some bytes = e in let none : [] ≡ bytes = cc in ap length (sym none)
read_length m a (suc n) bytes e = let q = onto_some (m a) (read m (a + 1) n) bytes e in ap length (sym q.3) ∙ ap suc (read_length m (a + 1) n q.1 q.2)

live_map : (r : _) (m : Live) → if_live r ≡ Ok m → r ≡ Ok m
live_map (Ok n) m e = let same : Ok n ≡ Ok m = e in cc
live_map (Err dead) m e = absurd cc

stored_map : (m : Live) (a n v : ℕ) (o : Option (List ℕ)) (w : Live) → memory.if_live a (λ _. laid m a (low_bytes n v)) o ≡ Ok w → (bytes : List ℕ) × (o ≡ Some bytes) × (laid m a (low_bytes n v) ≡ w)
stored_map m a n v None w e = absurd cc
stored_map m a n v (Some bytes) w e = (bytes, refl, cc)

copied_ok : (r : _) (w : Live) → copied r ≡ Ok w → r ≡ Ok w
copied_ok (Ok m) w e = let same : Ok m ≡ Ok w = e in cc
copied_ok (Err (blits.Source a)) w e = absurd cc
copied_ok (Err (blits.Target a)) w e = absurd cc
copied_ok (Err blits.Overlap) w e = absurd cc
copied_ok (Err blits.OutOfMemory) w e = absurd cc

copied_map : (m : Live) (a b n : ℕ) (o q : Option (List ℕ)) (w : Live) → memory.copied m a b n o q ≡ Ok w → (bytes : List ℕ) × (old : List ℕ) × (o ≡ Some bytes) × (q ≡ Some old) × (laid m b bytes ≡ w)
copied_map m a b n None q w e = absurd cc
copied_map m a b n (Some bytes) None w e = absurd cc
copied_map m a b n (Some bytes) (Some old) w e = by (overlap a b n) e
  where
    by : (t : Bool) → (if t then Err blits.Overlap else Ok (laid m b bytes)) ≡ Ok w → (bytes2 : List ℕ) × (old2 : List ℕ) × (Some bytes ≡ Some bytes2) × (Some old ≡ Some old2) × (laid m b bytes2 ≡ w)
    by true f = absurd cc
    by false f = (bytes, old, refl, refl, cc)

store_room : {A : Type 0} (p : Program A) (s : State) (a n v : ℕ) (w : Live) → HasRoom p s → length (bytes_of p) ≤ 2 ^ 20 → stored s.memory a n v ≡ Ok w → Room p w s.top
store_room p s a n v w room few e =
    let q = stored_map s.memory a n v (read s.memory a n) w e in
    let long = length-low_bytes n v in
    subst (λ m. Room p m s.top) q.2 (laid_room p s.memory s.top s.top a (low_bytes n v) (room_of p s room) (omega arith) room.high (λ k l. read_part p s a n k q.0 room few q.1 (omega (arith, l, long))))

blit_room : {A : Type 0} (p : Program A) (s : State) (a b n : ℕ) (w : Live) → HasRoom p s → length (bytes_of p) ≤ 2 ^ 20 → blitted s.memory a b n ≡ Ok w → Room p w s.top
blit_room p s a b n w room few e = by (n == 0) e
  where
    by : (t : Bool) → (if t then Ok s.memory else memory.copied s.memory a b n (read s.memory a n) (read s.memory b n)) ≡ Ok w → Room p w s.top
    by true f = let same : Ok s.memory ≡ Ok w = f in let is : s.memory ≡ w = cc in subst (λ m. Room p m s.top) is (room_of p s room)
    by false f =
        let q = copied_map s.memory a b n (read s.memory a n) (read s.memory b n) w f in
        let long = read_length s.memory a n q.0 q.2 in
        subst (λ m. Room p m s.top) q.4 (laid_room p s.memory s.top s.top b q.0 (room_of p s room) (omega arith) room.high (λ k l. read_part p s b n k q.1 room few q.3 (omega (arith, l, long))))

length-zeros : (n : ℕ) → length (zeros n) ≡ n
unfolding zeros
length-zeros n = length-replicate n 0

aligned : (op : AllocOp) → 0 < alignment op
aligned allocs.Four = omega arith
aligned allocs.Eight = omega arith
aligned allocs.Sixteen = omega arith

grow_room : {A : Type 0} (p : Program A) (s : State) (at n : ℕ) → HasRoom p s → s.top ≤ at → nat_lt stack_end (at + n) ≡ false → Room p (laid s.memory s.top (zeros (at + n - s.top))) (at + n)
grow_room p s at n room l fits =
    let high = not_before stack_end (at + n) fits in
    let long = length-zeros (at + n - s.top) in
    let low = room.low in
    laid_room p s.memory s.top (at + n) s.top (zeros (at + n - s.top)) (room_of p s room) (omega (arith, l)) high (λ k m. inr (omega (arith, low), omega (arith, m, long, l)))

-- a state with this memory and top has room as another does
same_room : {A : Type 0} (p : Program A) (s : State) (fs : List Frame) → HasRoom p s → HasRoom p (record s { frames = fs })
same_room p s fs r = record { live = r.live; low = r.low; high = r.high }

write_room : {A : Type 0} (p : Program A) (s : State) (f : Frame) (fs : List Frame) (to : Option CallResult) (bytes : List ℕ) (v : ℕ) (t : State) → HasRoom p s → writes s f fs to bytes v ≡ Ok t → HasRoom p t
write_room p s f fs to bytes v t r e =
    let q = passed_if (nat_lt output_limit (length (s.output ++ bytes))) _ _ t e in
    subst (HasRoom p) (ok_is _ t q.1) (record { live = r.live; low = r.low; high = r.high })

call_room : {A : Type 0} (p : Program A) (s : State) (f : Frame) (fs : List Frame) (to : Option CallResult) (args : List Argument) (a : ℕ) (vs : List ℕ) (o : Option Callee) (t : State) → HasRoom p s → call_at p s f fs to args a vs o ≡ Ok t → HasRoom p t
call_room p s f fs to args a vs None t r e = absurd cc
call_room {A} p s f fs to args a vs (Some (Defined id)) t r e = by (slice_get p.funcs id.index) e
  where
    by : (o : Option (Func A)) → call_defined s f fs to args vs o ≡ Ok t → HasRoom p t
    by None d = subst (HasRoom p) (ok_is s t d) r
    by (Some func) d =
        let b = bound (in_shape (shape_of func) to args vs) (enters s f fs to func) t d in
        let q = passed_then _ _ _ t b.2 in
        subst (HasRoom p) (ok_is _ t q.1) (record { live = r.live; low = r.low; high = r.high })
call_room p s f fs to args a vs (Some PutChar) t r e = let b = bound (in_shape shape_of_putchar to args vs) _ t e in write_room p s f fs to _ _ t r b.2
call_room p s f fs to args a vs (Some Puts) t r e =
    let b = bound (in_shape shape_of_puts to args vs) _ t e in
    let c = bound (text_at s.memory (first b.0)) _ t b.2 in
    write_room p s f fs to _ _ t r c.2
call_room p s f fs to args a vs (Some Exit) t r e =
    let b = bound (in_shape shape_of_exit to args vs) _ t e in
    subst (HasRoom p) (ok_is _ t b.2) (record { live = r.live; low = r.low; high = r.high })

act_room : {A : Type 0} (p : Program A) (s : State) (f : Frame) (fs : List Frame) (kind : InstKind A) (vs : List ℕ) (t : State) → HasRoom p s → length (bytes_of p) ≤ 2 ^ 20 → act p s f fs kind vs ≡ Ok t → HasRoom p t
act_room p s f fs (insts.Assign to e) vs t r few is = let b = bound (result_of s.memory to.class e vs) _ t is in subst (HasRoom p) (ok_is _ t b.2) (same_room p s _ r)
act_room p s f fs (insts.Alloc to op n) vs t r few is =
    let at = rounded (alignment op) s.top in
    let q = passed_if (nat_lt stack_end (at + first vs)) _ _ t is in
    subst (HasRoom p) (ok_is _ t q.1) (of_room p _ (grow_room p s at (first vs) r (rounded_low (alignment op) s.top (aligned op)) q.0))
act_room p s f fs (insts.Store w a b) vs t r few is =
    let q = bound (if_live (stored s.memory (second vs) (width_bytes w) (first vs))) (remembers s f fs) t is in
    subst (HasRoom p) (ok_is _ t q.2) (of_room p _ (store_room p s (second vs) (width_bytes w) (first vs) q.0 r few (live_map _ q.0 q.1)))
act_room p s f fs (insts.Blit a b n) vs t r few is =
    let q = bound (copied (blitted s.memory (first vs) (second vs) n)) (remembers s f fs) t is in
    subst (HasRoom p) (ok_is _ t q.2) (of_room p _ (blit_room p s (first vs) (second vs) n q.0 r few (copied_ok _ q.0 q.1)))
act_room p s f fs (insts.Call to callee args) vs t r few is = call_room p s f fs to args (first vs) (rest vs) (callee_at p (first vs)) t r is

-- ---- a jump

block_room : {A : Type 0} (p : Program A) (s : State) (f : Frame) (fs : List Frame) (o : Option (Block A)) (t : State) → HasRoom p s → enters_block p s f fs o ≡ Ok t → HasRoom p t
block_room p s f fs None t r e = subst (HasRoom p) (ok_is s t e) r
block_room p s f fs (Some b) t r e = let q = bound (merges p f (flat_map (phi_moves f.label) b.phis)) _ t e in subst (HasRoom p) (ok_is _ t q.2) (same_room p s _ r)

return_room : {A : Type 0} (p : Program A) (s : State) (f : Frame) (fs : List Frame) (value : Option ℕ) (t : State) → HasRoom p s → stack_base ≤ f.floor → f.floor ≤ s.top → returns s f fs value ≡ Ok t → HasRoom p t
return_room p s f fs value t r low high e = subst (HasRoom p) (ok_is _ t e) (of_room p _ (below_room p s.memory s.top f.floor (room_of p s r) low high))

leave_room : {A : Type 0} (p : Program A) (s : State) (f : Frame) (fs : List Frame) (func : Func A) (kind : JumpKind) (t : State) → HasRoom p s → stack_base ≤ f.floor → f.floor ≤ s.top → leave p s f fs func kind ≡ Ok t → HasRoom p t
leave_room p s f fs func (jumps.Jmp l) t r low high e = block_room p s f fs (block_labelled func.blocks l) t r e
leave_room p s f fs func (jumps.Jnz a l m) t r low high e = let q = bound (val p f.temps classes.W a) _ t e in block_room p s f fs (block_labelled func.blocks (if q.0 == 0 then m else l)) t r q.2
leave_room p s f fs func (jumps.Ret None) t r low high e = return_room p s f fs None t r low high e
leave_room p s f fs func (jumps.Ret (Some a)) t r low high e = let q = bound (val p f.temps (returned_class func.returns) a) _ t e in return_room p s f fs _ t r low high q.2
leave_room p s f fs func jumps.Hlt t r low high e = absurd cc

-- ---- a step

does_room : {A : Type 0} (p : Program A) (s : State) (f : Frame) (fs : List Frame) (func : Func A) (o : Option (Inst A)) (jump : Jump) (t : State) → HasRoom p s → length (bytes_of p) ≤ 2 ^ 20 → stack_base ≤ f.floor → f.floor ≤ s.top
    → does p s f fs func o jump ≡ Ok t → HasRoom p t
does_room p s f fs func (Some inst) jump t r few low high e = let q = bound (vals p f.temps (inst_reads inst.kind)) (act p s f fs inst.kind) t e in act_room p s f fs inst.kind q.0 t r few q.2
does_room p s f fs func None jump t r few low high e = leave_room p s f fs func jump.kind t r low high e

in_block_room : {A : Type 0} (p : Program A) (s : State) (f : Frame) (fs : List Frame) (func : Func A) (o : Option (Block A)) (t : State) → HasRoom p s → length (bytes_of p) ≤ 2 ^ 20 → stack_base ≤ f.floor → f.floor ≤ s.top
    → in_block p s f fs func o ≡ Ok t → HasRoom p t
in_block_room p s f fs func None t r few low high e = subst (HasRoom p) (ok_is s t e) r
in_block_room p s f fs func (Some b) t r few low high e = does_room p s f fs func (slice_get b.insts f.index) b.jump t r few low high e

in_func_room : {A : Type 0} (p : Program A) (s : State) (f : Frame) (fs : List Frame) (o : Option (Func A)) (t : State) → HasRoom p s → length (bytes_of p) ≤ 2 ^ 20 → stack_base ≤ f.floor → f.floor ≤ s.top
    → in_func p s f fs o ≡ Ok t → HasRoom p t
in_func_room p s f fs None t r few low high e = subst (HasRoom p) (ok_is s t e) r
in_func_room p s f fs (Some func) t r few low high e = in_block_room p s f fs func (block_labelled func.blocks f.label) t r few low high e

settled_room : {A : Type 0} (p : Program A) (s : State) (o : Outcome State) → HasRoom p s → ((t : State) → o ≡ Ok t → HasRoom p t) → HasRoom p (settled s o)
settled_room p s (Ok t) r f = f t refl
settled_room p s (Err why) r f = record { live = r.live; low = r.low; high = r.high }

-- what the innermost frame found on the stack is still there
abbrev pub IsFloored : State → List Frame → Type 0
IsFloored s [] = ⊤
IsFloored s (f ∷ fs) = (stack_base ≤ f.floor) × (f.floor ≤ s.top)

step_in_room : {A : Type 0} (p : Program A) (s : State) (fs : List Frame) → HasRoom p s → length (bytes_of p) ≤ 2 ^ 20 → IsFloored s fs → HasRoom p (step_in p s fs)
step_in_room p s [] r few l = r
step_in_room p s (f ∷ fs) r few l = settled_room p s (in_func p s f fs (func_named p.funcs f.func)) r (λ t e. in_func_room p s f fs (func_named p.funcs f.func) t r few l.0 l.1 e)

pub room_then : {A : Type 0} (p : Program A) (s : State) → HasRoom p s → length (bytes_of p) ≤ 2 ^ 20 → IsFloored s s.frames → HasRoom p (step_of p s)
unfolding step_of
room_then p s r few l = step_in_room p s s.frames r few l

-- ---- the start

pub room_first : {A : Type 0} (p : Program A) (func : Func A) (args : List ℕ) → length (bytes_of p) ≤ 2 ^ 20 → HasRoom p (started p func args)
room_first p func args few =
    let none : Room p none_live stack_base = record { live = λ a b e. absurd cc; low = omega arith; high = omega arith } in
    of_room p (started p func args) (laid_room p none_live stack_base stack_base data_base (bytes_of p) none (omega arith) (omega arith) (λ k l. inl (omega arith, omega (arith, l))))
