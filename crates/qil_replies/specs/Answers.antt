-- What a session answers: the reply to each command, and the session that it leaves.
use Rattle.std.specs.Prelude.{◌≡◌, ◌⊎◌, ℕ, ◌+◌, ◌<◌, ◌==◌, ◌||◌, cond, Bool, true, false, List, [], ◌∷◌, ◌++◌, length, Option, Some, None, option_map, Result, Ok, Err, IsOk}
use Rattle.std.specs.Bool.{MatchBool}
use Rattle.std.specs.List.{list_any}
use Rattle.qil_tree.specs.declared.ops.Width.{Width}
use Rattle.qil_layout.specs.Layout.{width_bytes}
use Rattle.qil_commands.specs.declared.command.Command.{Command}
use Rattle.qil_commands.specs.declared.command.Command.TheVariants as commands
use Rattle.qil_commands.specs.declared.command.Refused.{Refused}
use Rattle.qil_commands.specs.Command.{command_of}
use Rattle.qil_streams.specs.Device.{Puts}
use Rattle.qil_semantics.specs.State.{State}
use Rattle.qil_semantics.specs.Poke.{PokeFault, no_frame, dead_bytes, unknown_temporary, poke_temp, poke_memory}
use Rattle.qil_semantics.specs.Timeline.{Timeline, position, at_end, to, moved, gone}
use Rattle.qil_semantics.specs.Moves.{least, forward_by, back_by}
use Rattle.qil_semantics.specs.Runs.{stop_on, stop_back, within, target, IsLeast}
use Rattle.qil_semantics.specs.declared.reason.Reason.{Reason}
use Rattle.qil_semantics.specs.declared.reason.Reason.TheVariants.{Memory}
use Rattle.qil_accesses.specs.Accesses.{accesses_by, is_filled}
use Rattle.qil_counts.specs.Counts as counts
use Rattle.qil_counts.specs.Counts.{counts_by, met_by}
use Rattle.qil_spans.specs.Spans as spans
use Rattle.qil_spans.specs.Spans.{ended_by, spans_by}
use Rattle.qil_stops.specs.declared.stop.Watched.TheVariants as watches
use Rattle.qil_stops.specs.declared.stop.StopKind.{StopKind}
use Rattle.qil_stops.specs.declared.stop.StopKind.TheVariants as kinds
use Rattle.qil_stops.specs.declared.stops.StopError.{StopError}
use Rattle.qil_stops.specs.declared.stops.StopError.TheVariants as stop_errors
use Rattle.qil_stops.specs.Listed.{added, is_listed, without}
use Rattle.qil_stops.specs.Named.{named_stops}
use Rattle.qil_replies.specs.declared.reply.CommandRefusal.{CommandRefusal}
use Rattle.qil_replies.specs.declared.reply.CommandRefusal.TheVariants as refusals
use Rattle.qil_replies.specs.declared.reply.Reply.{Reply}
use Rattle.qil_replies.specs.declared.reply.Reply.TheVariants as replies
use Rattle.qil_replies.specs.SessionState.{SessionState, resolved_address, resolved_place, resolved_temp, has_kind, is_full, text_in}

-- what a line is replied, the session that it leaves, and whether more lines are read
pub record Answer (A : Type 0) : Type 0 where
  pub reply : Reply A
  pub left : SessionState A
  pub goes : Bool

-- the text of its reply, in the session that it leaves
abbrev pub answer_text : {A : Type 0} → Answer A → List ℕ
answer_text one = text_in one.left one.reply

-- the session stays as it is
abbrev pub says : {A : Type 0} → SessionState A → Reply A → Answer A
says s reply = record { reply = reply; left = s; goes = true }

abbrev pub refuses : {A : Type 0} → SessionState A → CommandRefusal → Answer A
refuses s refusal = says s (replies.Refused refusal)

-- the session goes to that timeline
abbrev pub goes_to : {A : Type 0} → SessionState A → Reply A → Timeline → Answer A
goes_to s reply t = record { reply = reply; left = record s { timeline = t }; goes = true }

-- the same, where memory ran out for the next move
abbrev pub stops_at : {A : Type 0} → SessionState A → Timeline → Answer A
stops_at s t = goes_to s (replies.Stopped Memory) t

-- ---- moves

abbrev pub step_answer : {A : Type 0} → SessionState A → ℕ → Answer A
step_answer s n = cond (at_end s.timeline) (refuses s refusals.AtEnd) (goes_to s replies.Place (forward_by s.program n s.timeline))

-- k moves forward are enough: to the end, or to a full list of accesses of the m bytes from a on
abbrev pub is_enough : {A : Type 0} → SessionState A → ℕ → ℕ → ℕ → Bool
is_enough s a m k = at_end (moved s.program k s.timeline) || is_filled (accesses_by s.program a m s.timeline k)

-- the least number of moves that is enough, and n at most
abbrev pub access_moves : {A : Type 0} → SessionState A → ℕ → ℕ → ℕ → ℕ
access_moves s n a m = least (is_enough s a m) n

-- k moves forward, and what they accessed of the m bytes from a on; and why no more were made, if that is said
abbrev pub accessed : {A : Type 0} → SessionState A → ℕ → ℕ → ℕ → Option Reason → Answer A
accessed s a m k reason = goes_to s (replies.Accesses (accesses_by s.program a m s.timeline k) reason) (moved s.program k s.timeline)

abbrev pub accesses_answer : {A : Type 0} → SessionState A → ℕ → ℕ → Option ℕ → Option ℕ → Answer A
accesses_answer s n m None shortage = refuses s refusals.UnknownPlace
accesses_answer s n m (Some a) None = accessed s a m (access_moves s n a m) None
accesses_answer s n m (Some a) (Some k) = accessed s a m k (Some Memory)

-- k moves forward are enough: to the end, or to a state at the last place that is told
abbrev pub is_counted : {A : Type 0} → SessionState A → ℕ → Bool
is_counted s k = at_end (moved s.program k s.timeline) || counts.is_filled (counts_by s.program s.timeline k)

abbrev pub count_moves : {A : Type 0} → SessionState A → ℕ → ℕ
count_moves s n = least (is_counted s) n

-- k moves forward, and how many of them were made from each place; and why no more were made, if that is said
abbrev pub counted : {A : Type 0} → SessionState A → ℕ → Option Reason → Answer A
counted s k reason = goes_to s (replies.Counts (met_by s.program s.timeline k) reason) (moved s.program k s.timeline)

abbrev pub counts_answer : {A : Type 0} → SessionState A → ℕ → Option ℕ → Answer A
counts_answer s n None = counted s (count_moves s n) None
counts_answer s n (Some k) = counted s k (Some Memory)

-- k moves forward are enough: to the end, or to that of the last frame which is told
abbrev pub is_spanned : {A : Type 0} → SessionState A → ℕ → ℕ → Bool
is_spanned s d k = at_end (moved s.program k s.timeline) || spans.is_filled (ended_by s.program s.timeline d k)

abbrev pub span_moves : {A : Type 0} → SessionState A → ℕ → ℕ → ℕ
span_moves s n d = least (is_spanned s d) n

-- k moves forward, and the frames that end, or begin and last; and why no more moves were made, if that is said
abbrev pub spanned : {A : Type 0} → SessionState A → ℕ → ℕ → Option Reason → Answer A
spanned s d k reason = goes_to s (replies.Spans (spans_by s.program s.timeline d k) reason) (moved s.program k s.timeline)

abbrev pub spans_answer : {A : Type 0} → SessionState A → ℕ → ℕ → Option ℕ → Answer A
spans_answer s n d None = spanned s d (span_moves s n d) None
spans_answer s n d (Some k) = spanned s d k (Some Memory)

-- back from the start, or from the oldest state that is kept, there is no way; else the answer is this
abbrev pub if_back : {A : Type 0} → SessionState A → Answer A → Answer A
if_back s answer =
    cond (position s.timeline == 0) (refuses s refusals.AtStart)
    (cond (length s.timeline.past == 0) (refuses s refusals.HistoryEnds) answer)

-- why there is none, at a position, where the oldest state that is kept is at another
abbrev pub back_refusal : ℕ → ℕ → Option CommandRefusal
back_refusal at oldest = cond (at == 0) (Some refusals.AtStart) (cond (at == oldest) (Some refusals.HistoryEnds) None)

-- why a run stops after so many moves, the limit with the others
abbrev pub reason_on : {A : Type 0} → SessionState A → ℕ → Option Reason
reason_on s k = within s.limit k (stop_on s.program (named_stops s.program s.stops.kept) s.timeline k)

abbrev pub reason_back : {A : Type 0} → SessionState A → ℕ → Option Reason
reason_back s k = within s.limit k (stop_back (named_stops s.program s.stops.kept) s.timeline k)

-- a run came to a place, for a reason if there is one
abbrev pub stopped_for : {A : Type 0} → Option Reason → Reply A
stopped_for None = replies.Place
stopped_for (Some reason) = replies.Stopped reason

-- the least number of moves with a reason to stop
abbrev pub continued : {A : Type 0} → SessionState A → ℕ → Answer A
continued s k = goes_to s (stopped_for (reason_on s k)) (moved s.program k s.timeline)

abbrev pub reversed : {A : Type 0} → SessionState A → ℕ → Answer A
reversed s k = goes_to s (stopped_for (reason_back s k)) (gone k s.timeline)

abbrev pub continue_answer : {A : Type 0} → SessionState A → Answer A
continue_answer s = cond (at_end s.timeline) (refuses s refusals.AtEnd) (continued s (target (stop_on s.program (named_stops s.program s.stops.kept) s.timeline) s.limit))

abbrev pub reverse_answer : {A : Type 0} → SessionState A → Answer A
reverse_answer s = if_back s (reversed s (target (stop_back (named_stops s.program s.stops.kept) s.timeline) s.limit))

-- ---- pokes

abbrev pub poke_refusal : PokeFault → CommandRefusal
poke_refusal no_frame = refusals.NoFrame
poke_refusal dead_bytes = refusals.DeadAddress
poke_refusal unknown_temporary = refusals.UnknownTemporary

abbrev pub poke_answer : {A : Type 0} → SessionState A → Result State PokeFault → Answer A
poke_answer s (Ok state) = goes_to s replies.Place (to state s.timeline)
poke_answer s (Err why) = refuses s (poke_refusal why)

-- what comes of the bytes at an address, if the program has it
abbrev pub poke_at : {A : Type 0} → SessionState A → Width → ℕ → Option ℕ → Answer A
poke_at s w v None = refuses s refusals.UnknownPlace
poke_at s w v (Some a) = poke_answer s (poke_memory s.timeline.now a (width_bytes w) v)

-- so many bytes of memory, if the program has their address
abbrev pub memory_reply : {A : Type 0} → ℕ → Option ℕ → Reply A
memory_reply n None = replies.Refused refusals.UnknownPlace
memory_reply n (Some a) = replies.Bytes a n

-- ---- stops

abbrev pub stop_answer : {A : Type 0} → SessionState A → Option StopKind → Answer A
stop_answer s None = refuses s refusals.UnknownPlace
stop_answer s (Some kind) =
    cond (has_kind s.program kind)
    (cond (is_full s.stops) (refuses s refusals.TooManyStops)
    (record { reply = replies.Added (s.stops.given + 1) kind; left = record s { stops = added kind s.stops }; goes = true }))
    (refuses s refusals.UnknownPlace)

-- the reply where code added a stop, or didn't
abbrev pub made_reply : {A : Type 0} → Result ℕ StopError → StopKind → Reply A
made_reply (Ok n) kind = replies.Added n kind
made_reply (Err stop_errors.UnknownPlace) kind = replies.Refused refusals.UnknownPlace
made_reply (Err stop_errors.TooMany) kind = replies.Refused refusals.TooManyStops
made_reply (Err stop_errors.NoSuchStop) kind = replies.Refused refusals.NoSuchStop

abbrev pub delete_answer : {A : Type 0} → SessionState A → ℕ → Answer A
delete_answer s n =
    cond (is_listed n s.stops.kept)
    (record { reply = replies.Deleted n; left = record s { stops = record s.stops { kept = without n s.stops.kept } }; goes = true })
    (refuses s refusals.NoSuchStop)

-- ---- the answer to a command

-- `shortage` is None, or says after how many moves memory ran out
abbrev pub command_answer : {A : Type 0} → SessionState A → Command → Option ℕ → Answer A
command_answer s (commands.Step n) None = step_answer s n
command_answer s (commands.Step n) (Some k) = stops_at s (forward_by s.program k s.timeline)
command_answer s (commands.Accesses n at m) shortage =
    cond (at_end s.timeline) (refuses s refusals.AtEnd) (accesses_answer s n m (resolved_address s.program at) shortage)
command_answer s (commands.Counts n) shortage = cond (at_end s.timeline) (refuses s refusals.AtEnd) (counts_answer s n shortage)
command_answer s (commands.Frames n d) shortage = cond (at_end s.timeline) (refuses s refusals.AtEnd) (spans_answer s n d shortage)
command_answer s (commands.Back n) shortage = if_back s (goes_to s replies.Place (back_by n s.timeline))
command_answer s commands.Continue None = continue_answer s
command_answer s commands.Continue (Some k) = stops_at s (moved s.program k s.timeline)
command_answer s commands.Reverse shortage = reverse_answer s
command_answer s (commands.Set x v) None = poke_answer s (poke_temp s.program s.timeline.now x v)
command_answer s (commands.Set x v) (Some k) = stops_at s s.timeline
command_answer s (commands.Poke w at v) None = poke_at s w v (resolved_address s.program at)
command_answer s (commands.Poke w at v) (Some k) = stops_at s s.timeline
command_answer s (commands.Break func at) shortage = stop_answer s (option_map kinds.Break (resolved_place s.program func at))
command_answer s (commands.WatchBytes w at) shortage = stop_answer s (option_map (λ a. kinds.Watch (watches.Bytes a (width_bytes w))) (resolved_address s.program at))
command_answer s (commands.WatchTemp func x) shortage = stop_answer s (option_map kinds.Watch (resolved_temp s.program func x))
command_answer s (commands.Delete n) shortage = delete_answer s n
command_answer s commands.Stops shortage = says s replies.Stops
command_answer s (commands.Print x) shortage = says s (replies.Temporary x)
command_answer s commands.Temps shortage = says s replies.Temporaries
command_answer s (commands.Mem at n) shortage = says s (memory_reply n (resolved_address s.program at))
command_answer s commands.Where shortage = says s replies.Frames
command_answer s commands.List shortage = says s replies.Block
command_answer s commands.Out shortage = says s replies.Output
command_answer s commands.Quit shortage = record { reply = replies.Nothing; left = s; goes = false }

-- the answer to what a line says
unfoldable pub answer : {A : Type 0} → SessionState A → Result (Option Command) Refused → Option ℕ → Answer A
answer s (Ok (Some command)) shortage = command_answer s command shortage
answer s (Ok None) shortage = says s replies.Nothing
answer s (Err refused) shortage = refuses s (refusals.Line refused)

-- ---- out of memory

-- Memory may run out, where a move may want some, after k moves of a `step` that were not all, and from which another move could
-- be made, and after k moves of a `continue`, none of which led to a stop; and for a poke that isn't refused. So it may after
-- k moves of an `accesses`, a `counts` or a `frames` that were not all; and before the first of them, where there is none for the list.
unfoldable pub IsValid : {A : Type 0} → SessionState A → Result (Option Command) Refused → Option ℕ → Type 0
IsValid s said None = Unit {0}
IsValid s (Ok (Some (commands.Step n))) (Some k) = (s.moves_want_memory ≡ true) × (k < n) × (at_end (forward_by s.program k s.timeline) ≡ false)
IsValid s (Ok (Some (commands.Accesses n at m))) (Some k) =
    (at_end s.timeline ≡ false) × (a : ℕ) × (resolved_address s.program at ≡ Some a) × ((k ≡ 0) ⊎ ((s.moves_want_memory ≡ true) × (k < access_moves s n a m)))
IsValid s (Ok (Some (commands.Counts n))) (Some k) = (at_end s.timeline ≡ false) × ((k ≡ 0) ⊎ ((s.moves_want_memory ≡ true) × (k < count_moves s n)))
IsValid s (Ok (Some (commands.Frames n d))) (Some k) = (at_end s.timeline ≡ false) × ((k ≡ 0) ⊎ ((s.moves_want_memory ≡ true) × (k < span_moves s n d)))
IsValid s (Ok (Some commands.Continue)) (Some k) =
    (s.moves_want_memory ≡ true) × (k < s.limit) × IsLeast (stop_on s.program (named_stops s.program s.stops.kept) s.timeline) s.limit k Memory
IsValid s (Ok (Some (commands.Set x v))) (Some k) = (k ≡ 0) × IsOk (poke_temp s.program s.timeline.now x v)
IsValid s (Ok (Some (commands.Poke w at v))) (Some k) =
    (k ≡ 0) × (a : ℕ) × (resolved_address s.program at ≡ Some a) × IsOk (poke_memory s.timeline.now a (width_bytes w) v)
IsValid s _ (Some k) = ⊥

-- From the old session what a line says was replied so, and the new session is left.
pub record Replies {A : Type 0} (old new : SessionState A) (said : Result (Option Command) Refused) (reported : Reply A) : Type 0 where
  pub shortage : Option ℕ
  pub valid : IsValid old said shortage
  pub reply : reported ≡ (answer old said shortage).reply
  pub left : new ≡ (answer old said shortage).left

-- From the old session what a line says was answered, and the new session is left.
pub record Answers {A T E : Type 0} (old new : SessionState A) (said : Result (Option Command) Refused) (result : Result T E) (before after : Option (List ℕ)) : Type 0 where
  pub shortage : Option ℕ
  pub valid : IsValid old said shortage
  pub text : Puts result before after (answer_text (answer old said shortage))
  pub left : new ≡ (answer old said shortage).left

-- ---- the answers to a script

-- the answers to lines in order, up to a `quit`
abbrev pub answers : {A : Type 0} → SessionState A → List (List ℕ) → List (Option ℕ) → List ℕ
answers s [] shortages = []
answers s (line ∷ lines) [] = []
answers s (line ∷ lines) (shortage ∷ shortages) =
    let one = answer s (command_of line) shortage in
    answer_text one ++ cond one.goes (answers one.left lines shortages) []

-- one valid want for each line that is answered
abbrev pub AreValid : {A : Type 0} → SessionState A → List (List ℕ) → List (Option ℕ) → Type 0
AreValid s [] shortages = shortages ≡ []
AreValid s (line ∷ lines) [] = ⊥
AreValid s (line ∷ lines) (shortage ∷ shortages) =
    let one = answer s (command_of line) shortage in
    IsValid s (command_of line) shortage × MatchBool one.goes (AreValid one.left lines shortages) (shortages ≡ [])

-- the session that these answers leave
abbrev pub left_by : {A : Type 0} → SessionState A → List (List ℕ) → List (Option ℕ) → SessionState A
left_by s [] shortages = s
left_by s (line ∷ lines) [] = s
left_by s (line ∷ lines) (shortage ∷ shortages) =
    let one = answer s (command_of line) shortage in
    cond one.goes (left_by one.left lines shortages) one.left

-- the lines may be answered by this text
abbrev pub IsAnswered : {A : Type 0} → SessionState A → List (List ℕ) → List ℕ → Type 0
IsAnswered s lines text = (shortages : List (Option ℕ)) × AreValid s lines shortages × (text ≡ answers s lines shortages)

-- the lines may be answered by this text, and the session be left so
abbrev pub IsAnsweredTo : {A : Type 0} → SessionState A → List (List ℕ) → List ℕ → SessionState A → Type 0
IsAnsweredTo s lines text left = (shortages : List (Option ℕ)) × AreValid s lines shortages × (text ≡ answers s lines shortages) × (left ≡ left_by s lines shortages)

-- whether what a line says ends the session
abbrev pub is_quit : Result (Option Command) Refused → Bool
is_quit (Ok (Some commands.Quit)) = true
is_quit _ = false

-- whether some line says so
abbrev pub quits : List (List ℕ) → Bool
quits lines = list_any (λ line. is_quit (command_of line)) lines
