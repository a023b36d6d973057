-- The replies to `set` and `poke`, by where the timeline was left.
use Rattle.std.proofs.Common.{◌≡◌, refl, sym, ap, ◌∙◌, subst, ℕ, ◌+◌, ◌<◌, ◌^◌, Bool, List, [], ◌∷◌, Option, Some, None, Result, Ok, Err, arith}
use Rattle.std.specs.Prelude.{◌↔◌, IsOk}
use Rattle.qil_tree.specs.declared.ops.Class.{Class}
use Rattle.qil_tree.specs.declared.ops.Width.{Width}
use Rattle.qil_tree.specs.declared.tree.Program.{Program}
use Rattle.qil_layout.specs.Layout.{width_bytes}
use Rattle.qil_commands.specs.declared.command.Address.{Address}
use Rattle.qil_commands.specs.declared.command.Command.TheVariants.{Set, Poke}
use Rattle.qil_semantics.specs.State.{Name, Frame, State}
use Rattle.qil_semantics.specs.Timeline.{Timeline, position, to, poked}
use Rattle.qil_semantics.specs.Poke.{PokeFault, no_frame, dead_bytes, unknown_temporary, poke_in, poke_frames, poke_temp, poke_memory, remembered, temp_class}
use Rattle.qil_semantics.specs.Step.{func_named}
use Rattle.qil_semantics.proofs.KeptLemmas.{position-to}
use Rattle.qil_semantics.specs.declared.reason.Reason.TheVariants.{Memory}
use Rattle.qil_machine.specs.declared.error.PokeError.{PokeError}
use Rattle.qil_machine.specs.declared.error.PokeError.TheVariants.{NoFrame, UnknownTemporary, DeadAddress, OutOfMemory}
use Rattle.qil_memory.specs.declared.fault.Dead.{Dead}
use Rattle.qil_memory.specs.Live.{Live}
use Rattle.qil_memory.specs.Calls.{stored}
use Rattle.qil_stops.specs.Listed.{Listed}
use Rattle.qil_replies.specs.declared.reply.CommandRefusal.{CommandRefusal}
use Rattle.qil_replies.specs.declared.reply.CommandRefusal.TheVariants.{UnknownPlace}
use Rattle.qil_replies.specs.declared.reply.Reply.{Reply}
use Rattle.qil_replies.specs.declared.reply.Reply.TheVariants.{Refused, Place, Stopped}
use Rattle.qil_replies.specs.SessionState.{session_at, resolved_address}
use Rattle.qil_replies.specs.Answers.{Replies, answer, IsValid, poke_answer, poke_refusal}

-- ---- what comes of a poke

-- the reply and the session that is left are those of a poke with this outcome
record IsPoke {A : Type 0} (wants : Bool) (p : Program A) (t u : Timeline) (stops : Listed) (limit : ℕ) (outcome : Result State PokeFault) (reported : Reply A) : Type 0 where
  reply : reported ≡ (poke_answer (session_at wants p t stops limit) outcome).reply
  left : session_at wants p u stops limit ≡ (poke_answer (session_at wants p t stops limit) outcome).left

poke_moves : {A : Type 0} {wants : Bool} (p : Program A) (t u : Timeline) (stops : Listed) (limit : ℕ) (outcome : Result State PokeFault) → poked t outcome ≡ Ok u → IsPoke wants p t u stops limit outcome Place
poke_moves {A} {wants} p t u stops limit (Ok s) e =
    let same : to s t ≡ u = cc in
    record { reply = refl; left = ap (λ (v : Timeline). session_at wants p v stops limit) (sym same) }
poke_moves p t u stops limit (Err why) e = absurd cc

poke_refused : {A : Type 0} {wants : Bool} (p : Program A) (t u : Timeline) (stops : Listed) (limit : ℕ) (outcome : Result State PokeFault) (why : PokeFault) →
    outcome ≡ Err why → u ≡ t → IsPoke wants p t u stops limit outcome (Refused (poke_refusal why))
poke_refused p t u stops limit (Ok s) why e same = absurd cc
poke_refused {A} {wants} p t u stops limit (Err other) why e same =
    let here : other ≡ why = cc in
    record { reply = ap (λ (x : PokeFault). Refused (poke_refusal x)) (sym here); left = ap (λ (v : Timeline). session_at wants p v stops limit) same }

poked_position : (t u : Timeline) (outcome : Result State PokeFault) → poked t outcome ≡ Ok u → position u ≡ position t + 1
poked_position t u (Ok s) e = let same : to s t ≡ u = cc in sym (ap position same) ∙ position-to t s
poked_position t u (Err why) e = absurd cc

pub poked_near : (t u : Timeline) (outcome : Result State PokeFault) → poked t outcome ≡ Ok u → position u < position t + 2 ^ 32
poked_near t u outcome e = let one : position u ≡ position t + 1 = poked_position t u outcome e in omega (arith, one)

-- ---- memory runs out only for a poke that isn't refused

in_plain : (s : State) (f : Frame) (fs : List Frame) (x : Name) (v : ℕ) (class : Option Class) → poke_in s f fs x v class ≡ Err dead_bytes → ⊥
in_plain s f fs x v None e = cc
in_plain s f fs x v (Some class) e = cc

frames_plain : {A : Type 0} (p : Program A) (s : State) (fs : List Frame) (x : Name) (v : ℕ) → poke_frames p s fs x v ≡ Err dead_bytes → ⊥
frames_plain p s [] x v e = cc
frames_plain p s (f ∷ fs) x v e = in_plain s f fs x v (temp_class (func_named p.funcs f.func) x) e

temp_by : (outcome : Result State PokeFault) (r : Result (Unit {0}) PokeError) → r ≡ Err OutOfMemory
    → (r ≡ Err NoFrame) ↔ (outcome ≡ Err no_frame) → (r ≡ Err UnknownTemporary) ↔ (outcome ≡ Err unknown_temporary) → (outcome ≡ Err dead_bytes → ⊥) → IsOk outcome
temp_by (Ok s) r e frame unknown plain = refl
temp_by (Err no_frame) r e frame unknown plain = let other = frame.1 refl in absurd cc
temp_by (Err unknown_temporary) r e frame unknown plain = let other = unknown.1 refl in absurd cc
temp_by (Err dead_bytes) r e frame unknown plain = absurd (plain refl)

memory_by : (s : State) (q : Result Live Dead) (r : Result (Unit {0}) PokeError) → r ≡ Err OutOfMemory → (r ≡ Err DeadAddress) ↔ (remembered s q ≡ Err dead_bytes) → IsOk (remembered s q)
memory_by s (Ok m) r e dead = refl
memory_by s (Err why) r e dead = let other = dead.1 refl in absurd cc

-- ---- `set %x N`

pub replies_set : {A : Type 0} {wants : Bool} (p : Program A) (t u : Timeline) (stops : Listed) (limit : ℕ) (x : Name) (v : ℕ) →
    poked t (poke_temp p t.now x v) ≡ Ok u → Replies (session_at wants p t stops limit) (session_at wants p u stops limit) (Ok (Some (Set x v))) Place
unfolding answer IsValid
replies_set p t u stops limit x v moved =
    let made = poke_moves p t u stops limit (poke_temp p t.now x v) moved in
    record { shortage = None; valid = tt; reply = made.reply; left = made.left }

pub replies_set_refused : {A : Type 0} {wants : Bool} (p : Program A) (t u : Timeline) (stops : Listed) (limit : ℕ) (x : Name) (v : ℕ) (why : PokeFault) →
    poke_temp p t.now x v ≡ Err why → u ≡ t → Replies (session_at wants p t stops limit) (session_at wants p u stops limit) (Ok (Some (Set x v))) (Refused (poke_refusal why))
unfolding answer IsValid
replies_set_refused p t u stops limit x v why refused same =
    let made = poke_refused p t u stops limit (poke_temp p t.now x v) why refused same in
    record { shortage = None; valid = tt; reply = made.reply; left = made.left }

pub replies_set_wants : {A : Type 0} {wants : Bool} (p : Program A) (t u : Timeline) (stops : Listed) (limit : ℕ) (x : Name) (v : ℕ) (reported : Result (Unit {0}) PokeError) →
    reported ≡ Err OutOfMemory → (reported ≡ Err NoFrame) ↔ (poke_temp p t.now x v ≡ Err no_frame) → (reported ≡ Err UnknownTemporary) ↔ (poke_temp p t.now x v ≡ Err unknown_temporary) →
    u ≡ t → Replies (session_at wants p t stops limit) (session_at wants p u stops limit) (Ok (Some (Set x v))) (Stopped Memory)
unfolding answer IsValid
replies_set_wants {A} {wants} p t u stops limit x v reported is frame unknown same = record {
  shortage = Some 0;
  valid = (refl, temp_by (poke_temp p t.now x v) reported is frame unknown (frames_plain p t.now t.now.frames x v));
  reply = refl;
  left = ap (λ (w : Timeline). session_at wants p w stops limit) same;
}

-- ---- `poke W ADDR N`

pub replies_nowhere : {A : Type 0} {wants : Bool} (p : Program A) (t : Timeline) (stops : Listed) (limit : ℕ) (w : Width) (at : Address) (v : ℕ) →
    resolved_address p at ≡ None → Replies (session_at wants p t stops limit) (session_at wants p t stops limit) (Ok (Some (Poke w at v))) (Refused UnknownPlace)
unfolding answer IsValid
replies_nowhere p t stops limit w at v is = record { shortage = None; valid = tt; reply = rw is refl; left = rw is refl }

pub replies_poke : {A : Type 0} {wants : Bool} (p : Program A) (t u : Timeline) (stops : Listed) (limit : ℕ) (w : Width) (at : Address) (v start n : ℕ) →
    resolved_address p at ≡ Some start → n ≡ width_bytes w →
    poked t (poke_memory t.now start n v) ≡ Ok u → Replies (session_at wants p t stops limit) (session_at wants p u stops limit) (Ok (Some (Poke w at v))) Place
unfolding answer IsValid
replies_poke p t u stops limit w at v start n is wide moved =
    let there = subst (λ i. poked t (poke_memory t.now start i v) ≡ Ok u) wide moved in
    let made = poke_moves p t u stops limit (poke_memory t.now start (width_bytes w) v) there in
    record { shortage = None; valid = tt; reply = rw is made.reply; left = rw is made.left }

pub replies_poke_dead : {A : Type 0} {wants : Bool} (p : Program A) (t u : Timeline) (stops : Listed) (limit : ℕ) (w : Width) (at : Address) (v start n : ℕ) →
    resolved_address p at ≡ Some start → n ≡ width_bytes w →
    poke_memory t.now start n v ≡ Err dead_bytes → u ≡ t → Replies (session_at wants p t stops limit) (session_at wants p u stops limit) (Ok (Some (Poke w at v))) (Refused (poke_refusal dead_bytes))
unfolding answer IsValid
replies_poke_dead p t u stops limit w at v start n is wide refused same =
    let there = subst (λ i. poke_memory t.now start i v ≡ Err dead_bytes) wide refused in
    let made = poke_refused p t u stops limit (poke_memory t.now start (width_bytes w) v) dead_bytes there same in
    record { shortage = None; valid = tt; reply = rw is made.reply; left = rw is made.left }

pub replies_poke_wants : {A : Type 0} {wants : Bool} (p : Program A) (t u : Timeline) (stops : Listed) (limit : ℕ) (w : Width) (at : Address) (v start n : ℕ) (reported : Result (Unit {0}) PokeError) →
    resolved_address p at ≡ Some start → n ≡ width_bytes w →
    reported ≡ Err OutOfMemory → (reported ≡ Err DeadAddress) ↔ (poke_memory t.now start n v ≡ Err dead_bytes) → u ≡ t →
    Replies (session_at wants p t stops limit) (session_at wants p u stops limit) (Ok (Some (Poke w at v))) (Stopped Memory)
unfolding answer IsValid
replies_poke_wants {A} {wants} p t u stops limit w at v start n reported is wide shortages dead same =
    let there = subst (λ i. (reported ≡ Err DeadAddress) ↔ (poke_memory t.now start i v ≡ Err dead_bytes)) wide dead in
    record {
      shortage = Some 0;
      valid = (refl, start, is, memory_by t.now (stored t.now.memory start (width_bytes w) v) reported shortages there);
      reply = refl;
      left = ap (λ (w : Timeline). session_at wants p w stops limit) same;
    }
