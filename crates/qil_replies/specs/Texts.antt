-- The texts of refusals, reasons and stops.
use Rattle.std.specs.Prelude.{ℕ, ◌==◌, cond, List, [], ◌∷◌, ◌++◌, map, codes, decimal, Option, Some, None}
use Rattle.qil_tree.specs.declared.tree.Program.{Program}
use Rattle.qil_commands.specs.declared.command.Refused.{Refused}
use Rattle.qil_commands.specs.declared.command.Refused.TheVariants.{LineTooLong, UnknownCommand, MissingWord, BadWord, ExtraWord}
use Rattle.qil_accesses.specs.declared.access.Action.{Action}
use Rattle.qil_accesses.specs.declared.access.Action.TheVariants.{Read, Write}
use Rattle.qil_accesses.specs.declared.access.Access.{Access}
use Rattle.qil_counts.specs.declared.count.Count.{Count}
use Rattle.qil_spans.specs.declared.span.Span.{Span}
use Rattle.qil_semantics.specs.State.{State}
use Rattle.qil_semantics.specs.declared.reason.Reason.{Reason}
use Rattle.qil_semantics.specs.declared.reason.Reason.TheVariants as reasons
use Rattle.qil_code.specs.Numbered.{func_at, block_at, names_of}
use Rattle.qil_code.specs.Slots.{name_at}
use Rattle.qil_render.specs.qil_state.State.{func_name, label_in}
use Rattle.qil_stops.specs.declared.stop.Watched.TheVariants as watches
use Rattle.qil_stops.specs.declared.stop.StopKind.{StopKind}
use Rattle.qil_stops.specs.declared.stop.StopKind.TheVariants as kinds
use Rattle.qil_stops.specs.declared.stop.NumberedStop.{NumberedStop}
use Rattle.qil_fragments.specs.Texts.{text_of}
use Rattle.qil_render.specs.Texts.{state_line}
use Rattle.qil_render.specs.Shown.{or_none}
use Rattle.qil_replies.specs.declared.reply.CommandRefusal.{CommandRefusal}
use Rattle.qil_replies.specs.declared.reply.CommandRefusal.TheVariants as refusals

-- ---- refusals

-- why a line spells no command
abbrev pub line_refusal_text : Refused → List ℕ
line_refusal_text LineTooLong = codes "no: line too long"
line_refusal_text UnknownCommand = codes "no: unknown command"
line_refusal_text MissingWord = codes "no: missing word"
line_refusal_text BadWord = codes "no: bad word"
line_refusal_text ExtraWord = codes "no: extra word"

abbrev pub refusal_text : CommandRefusal → List ℕ
refusal_text refusals.AtEnd = codes "no: at end"
refusal_text refusals.AtStart = codes "no: at start"
refusal_text refusals.HistoryEnds = codes "no: history ends"
refusal_text refusals.NoFrame = codes "no: no frame"
refusal_text refusals.UnknownTemporary = codes "no: unknown temporary"
refusal_text refusals.DeadAddress = codes "no: dead address"
refusal_text refusals.UnknownPlace = codes "no: unknown place"
refusal_text refusals.TooManyStops = codes "no: too many stops"
refusal_text refusals.NoSuchStop = codes "no: no such stop"
refusal_text (refusals.Line refused) = line_refusal_text refused

-- ---- reasons

-- `stop: REASON`
abbrev pub reason_line : Reason → List ℕ
reason_line reasons.End = codes "stop: end\n"
reason_line reasons.Start = codes "stop: start\n"
reason_line reasons.Oldest = codes "stop: oldest\n"
reason_line (reasons.Watch n) = text_of (codes "stop: watch " ∷ decimal n ∷ codes "\n" ∷ [])
reason_line (reasons.Break n) = text_of (codes "stop: break " ∷ decimal n ∷ codes "\n" ∷ [])
reason_line reasons.Limit = codes "stop: limit\n"
reason_line reasons.Memory = codes "stop: memory\n"

-- the place after n moves, and before it why no more were made, if that is said
abbrev pub place_text : Option Reason → ℕ → State → List ℕ
place_text None n s = state_line n s.frames s.status
place_text (Some reason) n s = reason_line reason ++ state_line n s.frames s.status

-- ---- accesses

abbrev pub action_word : Action → List ℕ
action_word Read = codes "read #"
action_word Write = codes "write #"

-- `read #P A N` or `write #P A N`
abbrev pub access_line : Access → List ℕ
access_line one =
    text_of (action_word one.action ∷ decimal one.position ∷ codes " " ∷ decimal one.address ∷ codes " " ∷ decimal one.count ∷ codes "\n" ∷ [])

-- ---- counts

-- `count C $F @B K`
abbrev pub count_line : {A : Type 0} → Program A → Count → List ℕ
count_line p one =
    text_of (codes "count " ∷ decimal one.count ∷ codes " $" ∷ func_name (func_at p one.place.func.index) ∷ codes " @" ∷ label_in (block_at p one.place.func.index one.place.block.index)
    ∷ codes " " ∷ decimal one.place.index ∷ codes "\n" ∷ [])

-- ---- frames along moves

-- `#N`, or `-` where there is no position
abbrev pub sign_text : Option ℕ → List ℕ
sign_text None = codes "-"
sign_text (Some n) = codes "#"

abbrev pub digits_text : Option ℕ → List ℕ
digits_text None = []
digits_text (Some n) = decimal n

-- `frame #B #E $F K`
abbrev pub span_line : {A : Type 0} → Program A → Span → List ℕ
span_line p one =
    text_of (codes "frame " ∷ sign_text one.begin ∷ digits_text one.begin ∷ codes " " ∷ sign_text one.end ∷ digits_text one.end ∷ codes " $" ∷ func_name (func_at p one.func.index)
    ∷ codes " " ∷ decimal one.below ∷ codes "\n" ∷ [])

-- ---- stops

-- the letter of a width in bytes
abbrev pub width_letter : ℕ → List ℕ
width_letter n = cond (n == 1) (codes "b") (cond (n == 2) (codes "h") (cond (n == 4) (codes "w") (codes "l")))

abbrev pub stop_line : {A : Type 0} → Program A → ℕ → StopKind → List ℕ
stop_line p n (kinds.Break place) =
    text_of (codes "break " ∷ decimal n ∷ codes " $" ∷ func_name (func_at p place.func.index) ∷ codes " @" ∷ label_in (block_at p place.func.index place.block.index)
    ∷ codes " " ∷ decimal place.index ∷ codes "\n" ∷ [])
stop_line p n (kinds.Watch (watches.Bytes a width)) = text_of (codes "watch " ∷ decimal n ∷ codes " " ∷ width_letter width ∷ codes " " ∷ decimal a ∷ codes "\n" ∷ [])
stop_line p n (kinds.Watch (watches.Temp func slot)) =
    text_of (codes "watch " ∷ decimal n ∷ codes " $" ∷ func_name (func_at p func.index) ∷ codes " %" ∷ name_at (names_of p func.index) slot.index ∷ codes "\n" ∷ [])

abbrev pub listed_line : {A : Type 0} → Program A → NumberedStop → List ℕ
listed_line p stop = stop_line p stop.number stop.kind

abbrev pub deleted_line : ℕ → List ℕ
deleted_line n = text_of (codes "deleted " ∷ decimal n ∷ codes "\n" ∷ [])

-- the line of each stop, by number
abbrev pub stops_shown : {A : Type 0} → Program A → List NumberedStop → List ℕ
stops_shown p stops = or_none (map (listed_line p) stops)
