-- Where a line of the text is shown.
use Rattle.std.proofs.Common.{◌≡◌, refl, sym, ap, ◌∙◌, ℕ, List, [], ◌∷◌, ◌++◌, Some, None, Option}
use Rattle.std.specs.Prelude.{option_map, unwrap_or}
use Rattle.json.specs.Token.{Token}
use Rattle.qil_semantics.specs.State.{Frame}
use Rattle.qrev_map.specs.Maps.{Origin}
use Rattle.qrev_views.specs.declared.frames.Shown.{Shown}
use Rattle.qrev_views.specs.Frames.{IsPlace, ShowsFrame, ShowsFrameAt}
use Rattle.qrev_views.specs.Sources.{counted_line, place_tokens, IsShownAt}

-- a line that came from no source
pub shown_itself : (shown : Shown) (origin : Option Origin) (line : ℕ) (name : List ℕ) → None ≡ option_map (λ (o : Origin). o.line) origin
    → IsShownAt shown origin line (place_tokens name shown.path.now (counted_line shown.numbering line))
shown_itself shown None line name e = (name, refl)
shown_itself shown (Some origin) line name e = absurd cc

-- a line that came from one
pub shown_there : (shown : Shown) (origin : Option Origin) (line n : ℕ) (name path : List ℕ) → Some n ≡ option_map (λ (o : Origin). o.line) origin
    → IsShownAt shown origin line (place_tokens name path (counted_line shown.numbering n))
shown_there shown None line n name path e = absurd cc
shown_there shown (Some origin) line n name path e =
    (name, path, ap (λ (k : ℕ). place_tokens name path (counted_line shown.numbering k)) (ap (λ (o : Option ℕ). unwrap_or o n) e))

is_place : (shown : Shown) (origin : Option Origin) (line : ℕ) (place : List Token) → IsShownAt shown origin line place → IsPlace place
is_place shown None line place p = (p.0, shown.path.now, counted_line shown.numbering line, p.1)
is_place shown (Some origin) line place p = (p.0, p.1, counted_line shown.numbering origin.line, p.2)

-- a frame that is shown there is shown somewhere
pub shows_frame : (shown : Shown) (origin : Option Origin) (line n : ℕ) (f : Frame) (item : List Token) → ShowsFrameAt (IsShownAt shown origin line) n f item → ShowsFrame n f item
shows_frame shown origin line n f item p = (p.0, p.1, is_place shown origin line p.0 p.2, p.3)
