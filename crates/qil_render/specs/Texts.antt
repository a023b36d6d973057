-- Texts: places, faults, values, bytes.
use Rattle.std.specs.Prelude.{ℕ, ◌+◌, ◌/◌, ◌%◌, ◌==◌, ◌||◌, ◌&&◌, nat_lt, if◌then◌else◌, List, [], ◌∷◌, codes, decimal, Option, Some, None}
use Rattle.qil_ops.specs.declared.division.DivFault.TheVariants as divisions
use Rattle.qil_semantics.specs.State.{Name, Frame, Fault, division, dead_address, unset_temporary, overlapping_blit, stack_full, calls_too_deep, no_function, call_shape, output_full, halted, Status, running, done, exited, faulted}
use Rattle.qil_semantics.specs.Timeline.{Timeline, position}
use Rattle.qil_fragments.specs.Texts.{text_of}

-- ---- places

-- `$f @b K`: a function, a block of it, and an index of its instructions
abbrev pub frame_line : Frame → List ℕ
frame_line f = text_of (codes "$" ∷ f.func ∷ codes " @" ∷ f.label ∷ codes " " ∷ decimal f.index ∷ codes "\n" ∷ [])

-- where a running state stands after so many moves: the place of its innermost frame
abbrev pub standing_line : ℕ → List Frame → List ℕ
standing_line n [] = text_of (codes "#" ∷ decimal n ∷ codes "\n" ∷ [])
standing_line n (f ∷ fs) = text_of (codes "#" ∷ decimal n ∷ codes " $" ∷ f.func ∷ codes " @" ∷ f.label ∷ codes " " ∷ decimal f.index ∷ codes "\n" ∷ [])

-- ---- how a run ended

abbrev pub fault_words : Fault → List ℕ
fault_words (division divisions.Zero) = codes "division by zero"
fault_words (division divisions.Overflow) = codes "division overflow"
fault_words (dead_address a) = codes "dead address "
fault_words (unset_temporary x) = codes "unset temporary %"
fault_words overlapping_blit = codes "overlapping blit"
fault_words stack_full = codes "stack full"
fault_words calls_too_deep = codes "calls too deep"
fault_words (no_function a) = codes "no function at "
fault_words call_shape = codes "call shape"
fault_words output_full = codes "output full"
fault_words halted = codes "halted"

-- the address or the temporary that a fault tells
abbrev pub fault_detail : Fault → List ℕ
fault_detail (dead_address a) = decimal a
fault_detail (no_function a) = decimal a
fault_detail (unset_temporary x) = x
fault_detail fault = []

-- the line of a run that ended in a fault, with what the fault is called and what it tells
abbrev pub fault_line : ℕ → List ℕ → List ℕ → List ℕ
fault_line n words detail = text_of (codes "#" ∷ decimal n ∷ codes " fault " ∷ words ∷ detail ∷ codes "\n" ∷ [])

-- the line of a place: how many moves were made, and where the state stands or how it ended
abbrev pub state_line : ℕ → List Frame → Status → List ℕ
state_line n frames running = standing_line n frames
state_line n frames (done None) = text_of (codes "#" ∷ decimal n ∷ codes " done\n" ∷ [])
state_line n frames (done (Some v)) = text_of (codes "#" ∷ decimal n ∷ codes " done " ∷ decimal v ∷ codes "\n" ∷ [])
state_line n frames (exited w) = text_of (codes "#" ∷ decimal n ∷ codes " exit " ∷ decimal w ∷ codes "\n" ∷ [])
state_line n frames (faulted fault) = fault_line n (fault_words fault) (fault_detail fault)

abbrev pub place_line : Timeline → List ℕ
place_line t = state_line (position t) t.now.frames t.now.status

-- ---- values

-- `%x = V`, or `%x unset`
abbrev pub value_line : Name → Option ℕ → List ℕ
value_line x (Some v) = text_of (codes "%" ∷ x ∷ codes " = " ∷ decimal v ∷ codes "\n" ∷ [])
value_line x None = text_of (codes "%" ∷ x ∷ codes " unset\n" ∷ [])

-- ---- bytes

abbrev pub hex_digit : ℕ → ℕ
hex_digit d = if nat_lt d 10 then 48 + d else 87 + d

-- two hexadecimal digits, and `--` for a dead byte
abbrev pub byte_text : Option ℕ → List ℕ
byte_text None = codes "--"
byte_text (Some b) = hex_digit (b / 16) ∷ hex_digit (b % 16) ∷ []

-- a byte in quotes: those of visible letters as they are, `"` and `\` after a `\`, all others as `\` and three octal digits
abbrev pub quoted_byte : ℕ → List ℕ
quoted_byte b =
    if b == 34 || b == 92 then 92 ∷ b ∷ [] else
    (if nat_lt 31 b && nat_lt b 127 then b ∷ [] else
    92 ∷ (48 + b / 64) ∷ (48 + b / 8 % 8) ∷ (48 + b % 8) ∷ [])
