-- What a line that is taken did to its session.
use Rattle.std.proofs.Common.{◌≡◌, refl, sym, ap, subst, ◌∙◌, ℕ, List, Option, Some, None, Bool, true, false, Result, Ok, Err, inl, inr}
use Rattle.std.specs.Prelude.{◌⊎◌}
use Rattle.std.proofs.lemmas.Bool.{false≢true}
use Rattle.qil_commands.specs.declared.command.Address.{Address}
use Rattle.qil_commands.specs.declared.command.Command.{Command}
use Rattle.qil_commands.specs.declared.command.Command.TheVariants as commands
use Rattle.qil_commands.specs.declared.command.Refused.{Refused}
use Rattle.qil_tree.specs.declared.ops.Width.{Width}
use Rattle.qil_layout.specs.Layout.{width_bytes}
use Rattle.qil_semantics.specs.State.{State}
use Rattle.qil_semantics.specs.Poke.{PokeFault, poke_memory, poke_temp}
use Rattle.qil_semantics.specs.Timeline.{to}
use Rattle.qil_semantics.specs.declared.reason.Reason.TheVariants as reasons
use Rattle.qrev_debuggee.specs.qrev_recorder.qil_replies.SessionState.{SessionState, resolved_address}
use Rattle.qrev_debuggee.specs.qrev_recorder.qil_replies.Answers.{answer, poke_answer, poke_at, poke_refusal}
use Rattle.qrev_debuggee.specs.qrev_recorder.qil_replies.declared.reply.CommandRefusal.TheVariants as refusals
use Rattle.qrev_debuggee.specs.qrev_recorder.qil_replies.declared.reply.Reply.{Reply}
use Rattle.qrev_debuggee.specs.qrev_recorder.qil_replies.declared.reply.Reply.TheVariants as replies
use Rattle.qrev_debuggee.specs.qrev_recorder.Done.{IsDone, done_of}
use Rattle.qrev_debuggee.specs.qrev_recorder.declared.done.Done.{Done}
use Rattle.qrev_debuggee.specs.qrev_recorder.declared.done.Done.TheVariants as dones
use Rattle.qrev_debuggee.specs.Moves.{LineFails, Recorded}
use Rattle.qrev_inspection.specs.Taken.{IsToldOf, is_taken}
use Rattle.qrev_debuggee.specs.declared.failure.Failure.{Failure}
use Rattle.qrev_debuggee.specs.declared.failure.Failure.TheVariants as failures
use Rattle.qrev_debuggee.specs.declared.failure.Cause.TheVariants as causes
use Rattle.qrev_debuggee.specs.qrev_recorder.declared.done.LineError.TheVariants as errors
use Rattle.qrev_inspection.specs.Setting.{IsPoked, Stays}

-- what isn't taken was not
untaken : {A : Type 0} (done : Done) (reported reply : Reply A) → done ≡ done_of reported → reported ≡ reply → is_taken (done_of reply) ≡ false → is_taken done ≡ true → ⊥
untaken done reported reply is same not taken = false≢true (sym not ∙ (ap (λ r. is_taken (done_of r)) (sym same) ∙ (ap is_taken (sym is) ∙ taken)))

-- ---- a line that is none

err_by : {A : Type 0} (old : SessionState A) (refused : Refused) (shortage : Option ℕ) (reported : Reply A) (done : Done) → reported ≡ (answer old (Err refused) shortage).reply → done ≡ done_of reported → is_taken done ≡ true → ⊥
unfolding answer
err_by old refused shortage reported done reply is taken = untaken done reported (replies.Refused (refusals.Line refused)) is reply refl taken

pub err_not_taken : {A : Type 0} (old new : SessionState A) (t u : List ℕ) (refused : Refused) (done : Done) → IsDone old new t u (Err refused) done → is_taken done ≡ true → ⊥
err_not_taken old new t u refused done did taken = err_by old refused did.replied.shortage did.reply done did.replied.reply did.done_is taken

-- ---- one that pokes

poke_by : {A : Type 0} (old new : SessionState A) (outcome : Result State PokeFault) (reported : Reply A) (done : Done) → reported ≡ (poke_answer old outcome).reply → new ≡ (poke_answer old outcome).left → done ≡ done_of reported → is_taken done ≡ true
    → IsPoked old new outcome
poke_by old new (Ok s) reported done reply left is taken = record { state = s; is_made = refl; left = left }
poke_by old new (Err why) reported done reply left is taken = absurd (untaken done reported (replies.Refused (poke_refusal why)) is reply refl taken)

set_by : {A : Type 0} (old new : SessionState A) (x : List ℕ) (v : ℕ) (shortage : Option ℕ) (reported : Reply A) (done : Done) → reported ≡ (answer old (Ok (Some (commands.Set x v))) shortage).reply → new ≡ (answer old (Ok (Some (commands.Set x v))) shortage).left
    → done ≡ done_of reported → is_taken done ≡ true → IsPoked old new (poke_temp old.program old.timeline.now x v)
unfolding answer
set_by old new x v None reported done reply left is taken = poke_by old new (poke_temp old.program old.timeline.now x v) reported done reply left is taken
set_by old new x v (Some k) reported done reply left is taken = absurd (untaken done reported (replies.Stopped reasons.Memory) is reply refl taken)

pub set_taken : {A : Type 0} (old new : SessionState A) (t u : List ℕ) (x : List ℕ) (v : ℕ) (done : Done) → IsDone old new t u (Ok (Some (commands.Set x v))) done → is_taken done ≡ true → IsPoked old new (poke_temp old.program old.timeline.now x v)
set_taken old new t u x v done did taken = set_by old new x v did.replied.shortage did.reply done did.replied.reply did.replied.left did.done_is taken

at_by : {A : Type 0} (old new : SessionState A) (w : Width) (v : ℕ) (a : Option ℕ) (reported : Reply A) (done : Done) → reported ≡ (poke_at old w v a).reply → new ≡ (poke_at old w v a).left → done ≡ done_of reported → is_taken done ≡ true
    → (start : ℕ) × (a ≡ Some start) × IsPoked old new (poke_memory old.timeline.now start (width_bytes w) v)
at_by old new w v None reported done reply left is taken = absurd (untaken done reported (replies.Refused refusals.UnknownPlace) is reply refl taken)
at_by old new w v (Some start) reported done reply left is taken = (start, refl, poke_by old new (poke_memory old.timeline.now start (width_bytes w) v) reported done reply left is taken)

poked_by : {A : Type 0} (old new : SessionState A) (w : Width) (at : Address) (v : ℕ) (shortage : Option ℕ) (reported : Reply A) (done : Done) → reported ≡ (answer old (Ok (Some (commands.Poke w at v))) shortage).reply
    → new ≡ (answer old (Ok (Some (commands.Poke w at v))) shortage).left → done ≡ done_of reported → is_taken done ≡ true
    → (start : ℕ) × (resolved_address old.program at ≡ Some start) × IsPoked old new (poke_memory old.timeline.now start (width_bytes w) v)
unfolding answer
poked_by old new w at v None reported done reply left is taken = at_by old new w v (resolved_address old.program at) reported done reply left is taken
poked_by old new w at v (Some k) reported done reply left is taken = absurd (untaken done reported (replies.Stopped reasons.Memory) is reply refl taken)

pub poke_taken : {A : Type 0} (old new : SessionState A) (t u : List ℕ) (w : Width) (at : Address) (v : ℕ) (done : Done) → IsDone old new t u (Ok (Some (commands.Poke w at v))) done → is_taken done ≡ true
    → (start : ℕ) × (resolved_address old.program at ≡ Some start) × IsPoked old new (poke_memory old.timeline.now start (width_bytes w) v)
poke_taken old new t u w at v done did taken = poked_by old new w at v did.replied.shortage did.reply done did.replied.reply did.replied.left did.done_is taken

-- ---- one that isn't taken

-- a poke that was made is
told_none : {A : Type 0} (done : Done) (reported reply : Reply A) (from : ℕ) (why : Failure) → done ≡ done_of reported → reported ≡ reply → IsToldOf (done_of reply) from why ≡ ⊥ → IsToldOf done from why → ⊥
told_none {A} done reported reply from why is same none told =
    let here : IsToldOf (done_of reply) from why = subst (λ (r : Reply A). IsToldOf (done_of r) from why) same (subst (λ (d : Done). IsToldOf d from why) is told) in
    subst (λ (X : Type 0). X) none here

err_same : {A : Type 0} (old new : SessionState A) (refused : Refused) (shortage : Option ℕ) → new ≡ (answer old (Err refused) shortage).left → new ≡ old
unfolding answer
err_same old new refused shortage left = left

pub err_left : {A : Type 0} (old new : SessionState A) (t u : List ℕ) (refused : Refused) (done : Done) → IsDone old new t u (Err refused) done → new ≡ old
err_left old new t u refused done did = err_same old new refused did.replied.shortage did.replied.left

poke_same : {A : Type 0} (old new : SessionState A) (outcome : Result State PokeFault) (reported : Reply A) (done : Done) (from : ℕ) (why : Failure) → reported ≡ (poke_answer old outcome).reply → new ≡ (poke_answer old outcome).left → done ≡ done_of reported
    → IsToldOf done from why → new ≡ old
poke_same old new (Ok s) reported done from why reply left is told = absurd (told_none done reported replies.Place from why is reply refl told)
poke_same old new (Err fault) reported done from why reply left is told = left

set_same : {A : Type 0} (old new : SessionState A) (x : List ℕ) (v : ℕ) (shortage : Option ℕ) (reported : Reply A) (done : Done) (from : ℕ) (why : Failure) → reported ≡ (answer old (Ok (Some (commands.Set x v))) shortage).reply
    → new ≡ (answer old (Ok (Some (commands.Set x v))) shortage).left → done ≡ done_of reported → IsToldOf done from why → new ≡ old
unfolding answer
set_same old new x v None reported done from why reply left is told = poke_same old new (poke_temp old.program old.timeline.now x v) reported done from why reply left is told
set_same old new x v (Some k) reported done from why reply left is told = left

pub set_left : {A : Type 0} (old new : SessionState A) (t u : List ℕ) (x : List ℕ) (v : ℕ) (done : Done) (from : ℕ) (why : Failure) → IsDone old new t u (Ok (Some (commands.Set x v))) done → IsToldOf done from why → new ≡ old
set_left old new t u x v done from why did told = set_same old new x v did.replied.shortage did.reply done from why did.replied.reply did.replied.left did.done_is told

at_same : {A : Type 0} (old new : SessionState A) (w : Width) (v : ℕ) (a : Option ℕ) (reported : Reply A) (done : Done) (from : ℕ) (why : Failure) → reported ≡ (poke_at old w v a).reply → new ≡ (poke_at old w v a).left → done ≡ done_of reported
    → IsToldOf done from why → new ≡ old
at_same old new w v None reported done from why reply left is told = left
at_same old new w v (Some start) reported done from why reply left is told = poke_same old new (poke_memory old.timeline.now start (width_bytes w) v) reported done from why reply left is told

poked_same : {A : Type 0} (old new : SessionState A) (w : Width) (at : Address) (v : ℕ) (shortage : Option ℕ) (reported : Reply A) (done : Done) (from : ℕ) (why : Failure) → reported ≡ (answer old (Ok (Some (commands.Poke w at v))) shortage).reply
    → new ≡ (answer old (Ok (Some (commands.Poke w at v))) shortage).left → done ≡ done_of reported → IsToldOf done from why → new ≡ old
unfolding answer
poked_same old new w at v None reported done from why reply left is told = at_same old new w v (resolved_address old.program at) reported done from why reply left is told
poked_same old new w at v (Some k) reported done from why reply left is told = left

pub poke_left : {A : Type 0} (old new : SessionState A) (t u : List ℕ) (w : Width) (at : Address) (v : ℕ) (done : Done) (from : ℕ) (why : Failure) → IsDone old new t u (Ok (Some (commands.Poke w at v))) done → IsToldOf done from why → new ≡ old
poke_left old new t u w at v done from why did told = poked_same old new w at v did.replied.shortage did.reply done from why did.replied.reply did.replied.left did.done_is told

-- why a poke was not made
refused_by : {A : Type 0} (old : SessionState A) (outcome : Result State PokeFault) (reported : Reply A) (done : Done) (from : ℕ) (why : Failure) → reported ≡ (poke_answer old outcome).reply → done ≡ done_of reported → IsToldOf done from why
    → (fault : PokeFault) × (outcome ≡ Err fault)
refused_by old (Ok s) reported done from why reply is told = absurd (told_none done reported replies.Place from why is reply refl told)
refused_by old (Err fault) reported done from why reply is told = (fault, refl)

no_memory : {A : Type 0} (done : Done) (reported : Reply A) (from : ℕ) (why : Failure) → reported ≡ replies.Stopped reasons.Memory → done ≡ done_of reported → IsToldOf done from why → why ≡ failures.Because causes.NoMemory
no_memory {A} done reported from why reply is told = subst (λ (r : Reply A). IsToldOf (done_of r) from why) reply (subst (λ (d : Done). IsToldOf d from why) is told)

refused_set : {A : Type 0} (old : SessionState A) (x : List ℕ) (v : ℕ) (shortage : Option ℕ) (reported : Reply A) (done : Done) (from : ℕ) (why : Failure) → reported ≡ (answer old (Ok (Some (commands.Set x v))) shortage).reply → done ≡ done_of reported
    → IsToldOf done from why → (why ≡ failures.Because causes.NoMemory) ⊎ ((fault : PokeFault) × (poke_temp old.program old.timeline.now x v ≡ Err fault))
unfolding answer
refused_set old x v None reported done from why reply is told = inr (refused_by old (poke_temp old.program old.timeline.now x v) reported done from why reply is told)
refused_set old x v (Some k) reported done from why reply is told = inl (no_memory done reported from why reply is told)

pub set_refused : {A : Type 0} (old new : SessionState A) (t u : List ℕ) (x : List ℕ) (v : ℕ) (done : Done) (from : ℕ) (why : Failure) → IsDone old new t u (Ok (Some (commands.Set x v))) done → IsToldOf done from why
    → (why ≡ failures.Because causes.NoMemory) ⊎ ((fault : PokeFault) × (poke_temp old.program old.timeline.now x v ≡ Err fault))
set_refused old new t u x v done from why did told = refused_set old x v did.replied.shortage did.reply done from why did.replied.reply did.done_is told

-- a line that isn't answered
pub line_left : {A : Type 0} (old new : Recorded A) (line : List ℕ) (why : Failure) → LineFails old new line why → Stays old.session new.session why
line_left old new line why (errors.Newline, is, unanswered, stays) = inr (ap (λ r. r.session) stays)
line_left old new line why (errors.Quit, is, unanswered, stays) = inr (ap (λ r. r.session) stays)
line_left old new line why (errors.Full, is, unanswered, stays) = inr (ap (λ r. r.session) stays)
line_left old new line why (errors.OutOfMemory, is, unanswered, stays) = inl is
