-- At which line of which source a frame is shown.
use Rattle.std.specs.Prelude.{◌≡◌, ◌==◌, ℕ, ◌+◌, ◌-◌, List, [], ◌∷◌, ◌++◌, cond, codes, decimal, Option, Some, None, slice_get, option_map, unwrap_or}
use Rattle.std.specs.Borrow.{Bor}
use Rattle.json.specs.Token.{Token, key, number}
use Rattle.qil_tree.specs.declared.tree.Program.{Program}
use Rattle.qil_frames.specs.Frames.{SlotFrame}
use Rattle.qil_lines.specs.Lines.{line_at}
use Rattle.qrev_map.specs.Maps.{Origin, source_at}
use Rattle.qrev_map.specs.Spans.{origins_of}
use Rattle.qrev_views.specs.Frames.{source_tokens}
use Rattle.qrev_views.specs.declared.frames.Numbering.{Numbering}
use Rattle.qrev_views.specs.declared.frames.Shown.{Shown}
use Rattle.qrev_views.specs.declared.source_map.SourceMap.{SourceMap}

-- a line that is counted from 1, as an editor counts
abbrev pub counted_line : Numbering → ℕ → ℕ
counted_line numbering line = (line - 1) + numbering.first_line

-- of a caller its call is shown, after which its index stands
abbrev pub shown_index : ℕ → SlotFrame → ℕ
shown_index n f = cond (n == 1) f.index (f.index - 1)

-- the line of the text for the n-th frame: that of its place, or of its function where it has none
abbrev pub frame_line : {A : Type 0} → Program A → SlotFrame → ℕ → ℕ
frame_line p f n = unwrap_or (option_map (λ func. unwrap_or (line_at func f.block (shown_index n f)) func.line) (slice_get p.funcs f.func)) 1

-- which line of a source a line of the text came from, by the map, if there is one
abbrev pub origin_of : {A : Type 0} → Option (Bor (SourceMap A)) → ℕ → Option Origin
origin_of None line = None
origin_of (Some sources) line = source_at (origins_of sources.now.map) line

-- a source, and a line of it
abbrev pub place_tokens : List ℕ → List ℕ → ℕ → List Token
place_tokens name path line = source_tokens name path ++ key (codes "line") ∷ number (decimal line) ∷ []

-- a line of the text is shown at the line of the source that it came from, and where it came from none, at itself in the text
abbrev pub IsShownAt : Shown → Option Origin → ℕ → List Token → Type 0
IsShownAt shown None line place = (name : List ℕ) × (place ≡ place_tokens name shown.path.now (counted_line shown.numbering line))
IsShownAt shown (Some origin) line place = (name path : List ℕ) × (place ≡ place_tokens name path (counted_line shown.numbering origin.line))
