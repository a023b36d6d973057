-- Where a request asks to go, by its command.
use Rattle.std.specs.Prelude.{ℕ, ◌-◌, max, Bool, not, ◌&&◌, cond, List, [], Option, Some, None, codes, unwrap_or}
use Rattle.std.specs.Str.{bytes_eq}
use Rattle.json.specs.Json.{Json}
use Rattle.qrev_requests.specs.Members.{text_in}
use Rattle.qrev_debuggee.specs.declared.motion.Motion.{Motion}
use Rattle.qrev_debuggee.specs.declared.motion.Motion.TheVariants as motions
use Rattle.qrev_moving.specs.declared.lines.Travel.{Travel}
use Rattle.qrev_moving.specs.declared.lines.Travel.TheVariants as travels
use Rattle.std.specs.Prelude.{true, false}

-- it asks for single moves
abbrev pub asks_single : Option Json → Bool
asks_single json = bytes_eq (unwrap_or (text_in (codes "granularity") json) []) (codes "instruction")

-- the motion of a command, by single moves or not, while so many calls are open
abbrev pub motion_of : List ℕ → Bool → ℕ → Option Motion
motion_of command is_single depth =
    cond (bytes_eq command (codes "continue")) (Some motions.Continue)
    (cond (bytes_eq command (codes "reverseContinue")) (Some motions.Reverse)
    (cond (bytes_eq command (codes "stepOut")) (Some (motions.ToDepth (depth - 1)))
    (cond (bytes_eq command (codes "stepIn")) (Some motions.Step)
    (cond (bytes_eq command (codes "next")) (Some (cond is_single motions.Step (motions.ToDepth depth)))
    (cond (bytes_eq command (codes "stepBack")) (Some (cond is_single motions.Back (motions.BackToDepth (max depth 1)))) None)))))

-- its step from line to line of a source
abbrev pub line_of : List ℕ → Option Travel
line_of command =
    cond (bytes_eq command (codes "next")) (Some (travels.Line false))
    (cond (bytes_eq command (codes "stepIn")) (Some (travels.Line true))
    (cond (bytes_eq command (codes "stepBack")) (Some travels.LineBack) None))

-- a step from line to line before a motion
abbrev pub first_of : Option Travel → Option Motion → Option Travel
first_of (Some line) motion = Some line
first_of None (Some motion) = Some (travels.Motion motion)
first_of None None = None

-- where it leads, from line to line where such steps can be made
abbrev pub travel_of : Bool → List ℕ → Bool → ℕ → Option Travel
travel_of has_lines command is_single depth = first_of (cond has_lines (line_of command) None) (motion_of command is_single depth)

-- by what it says: from line to line if there is a map of places and no single moves are asked for
abbrev pub travel_said : Bool → List ℕ → Option Json → ℕ → Option Travel
travel_said has_map command json depth = travel_of (has_map && not (asks_single json)) command (asks_single json) depth
