-- The text of the report of two runs.
use Rattle.std.specs.Prelude.{ℕ, zero, suc, ◌==◌, if◌then◌else◌, List, [], ◌∷◌, ◌++◌, codes, decimal, Option, Some, None}
use Rattle.std.specs.List.{flat_map}
use Rattle.qil_tree.specs.declared.tree.Program.{Program}
use Rattle.qil_streams.specs.Text.{line}
use Rattle.qil_fragments.specs.Texts.{text_of}
use Rattle.qil_semantics.specs.State.{State}
use Rattle.qil_semantics.specs.Timeline.{Timeline, position}
use Rattle.qil_render.specs.Texts.{place_line, byte_text, quoted_byte}
use Rattle.qil_render.specs.Shown.{frames_shown, bytes_text}
use Rattle.qil_render.specs.Listing.{block_shown}
use Rattle.qil_compare.specs.declared.event.Found.{Found}
use Rattle.qil_compare.specs.declared.event.Found.TheVariants as founds
use Rattle.qil_compare.specs.declared.comparing.Verdict.{Verdict}
use Rattle.qil_compare.specs.declared.comparing.Verdict.TheVariants as verdicts
use Rattle.qil_compare.specs.declared.comparing.Answer.{Answer}
use Rattle.qil_compare.specs.Seen.{Offset, Value, number, stack, in_data, function}
use Rattle.qil_compare.specs.Events.{Event, byte_out, written, called, returned, ended}
use Rattle.qil_compare.specs.Next.{event_at}

-- ---- values

abbrev pub place_text : Offset → List ℕ
place_text place =
    if place.bytes == 0 then text_of (codes "$" ∷ place.object ∷ []) else text_of (codes "$" ∷ place.object ∷ codes "+" ∷ decimal place.bytes ∷ [])

abbrev pub value_text : Value → List ℕ
value_text (number n) = text_of (decimal n ∷ [])
value_text stack = codes "stack"
value_text (in_data place) = place_text place
value_text (function name) = text_of (codes "$" ∷ name ∷ [])

-- a value after another, with a comma between them
abbrev pub further_value : Value → List ℕ
further_value value = codes ", " ++ value_text value

abbrev pub values_text : List Value → List ℕ
values_text [] = []
values_text (first ∷ others) = value_text first ++ flat_map further_value others

abbrev pub returned_text : Option Value → List ℕ
returned_text None = codes "\n"
returned_text (Some value) = codes " " ++ (value_text value ++ codes "\n")

-- ---- events

abbrev pub event_line : Event → List ℕ
event_line (byte_out byte) = codes "output \"" ++ (quoted_byte byte ++ codes "\"\n")
event_line (written place bytes) = codes "write " ++ (place_text place ++ (codes " " ++ line (bytes_text bytes)))
event_line (called name values) = text_of (codes "call $" ∷ name ∷ codes "(" ∷ []) ++ (values_text values ++ codes ")\n")
event_line (returned name value) = text_of (codes "return $" ∷ name ∷ []) ++ returned_text value
event_line (ended end) = codes "end\n"

abbrev pub found_line : {A : Type 0} → Program A → State → Found → List ℕ
found_line p s (founds.Event event) = event_line (event_at p s event)
found_line p s founds.Over = codes "none\n"
found_line p s founds.Limit = codes "limit\n"

-- ---- an answer

-- the command that takes a session from its start to a position, where there is one
abbrev pub way_line : ℕ → List ℕ
way_line zero = []
way_line (suc n) = text_of (codes "step " ∷ decimal (suc n) ∷ codes "\n" ∷ [])

-- the place, the frames, the block, and the way there
abbrev pub stand_text : {A : Type 0} → Program A → Timeline → List ℕ
stand_text p t = place_line t ++ (frames_shown t.now.frames ++ (block_shown p t.now.frames ++ way_line (position t)))

abbrev pub side_text : {A : Type 0} → List ℕ → Program A → Timeline → Found → List ℕ
side_text name p t found = name ++ (found_line p t.now found ++ stand_text p t)

abbrev pub verdict_line : Verdict → ℕ → List ℕ
verdict_line verdicts.Same events = text_of (codes "same " ∷ decimal events ∷ codes " events\n" ∷ [])
verdict_line verdicts.Part events = text_of (codes "part at event " ∷ decimal events ∷ codes "\n" ∷ [])
verdict_line verdicts.Limit events = text_of (codes "limit at event " ∷ decimal events ∷ codes "\n" ∷ [])

abbrev pub sides_text : {A : Type 0} → Program A → Program A → Timeline → Timeline → Answer → List ℕ
sides_text p q t u answer = side_text (codes "good: ") p t answer.good ++ side_text (codes "bad: ") q u answer.bad

-- of runs that are the same only how many events they had
abbrev pub answer_text : {A : Type 0} → Program A → Program A → Timeline → Timeline → Verdict → Answer → List ℕ
answer_text p q t u verdicts.Same answer = verdict_line answer.verdict answer.events
answer_text p q t u verdict answer = verdict_line answer.verdict answer.events ++ sides_text p q t u answer

abbrev pub told_text : {A : Type 0} → Program A → Program A → Timeline → Timeline → Answer → List ℕ
told_text p q t u answer = answer_text p q t u answer.verdict answer
