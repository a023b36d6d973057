-- The frames of a run, as the tokens of an editor's stack.
use Rattle.std.specs.Prelude.{◌≡◌, ℕ, suc, ◌+◌, List, [], ◌∷◌, ◌++◌, length, codes, decimal}
use Rattle.json.specs.Token.{Token, begin_object, end_object, begin_array, end_array, key, string, number}
use Rattle.qil_fragments.specs.Texts.{text_of}
use Rattle.qil_semantics.specs.State.{Frame, State}
use Rattle.qil_render.specs.Texts.{state_line}
use Rattle.qrev_views.specs.Texts.{shown_text, without_end}
use Rattle.qrev_views.specs.Pages.{page_of}
use Rattle.qrev_views.specs.declared.variable.Page.{Page}

-- the name of a frame: its function, its block, and the index where it stands
abbrev pub shown_name : Frame → List ℕ
shown_name f = shown_text (text_of (codes "$" ∷ f.func ∷ codes " @" ∷ f.label ∷ codes " " ∷ decimal f.index ∷ []))

-- the number of an item, and its name
abbrev pub item_head : ℕ → List ℕ → List Token
item_head n name = begin_object ∷ key (codes "id") ∷ number (decimal n) ∷ key (codes "name") ∷ string name ∷ []

-- the number of a frame, and its name
abbrev pub frame_head : ℕ → Frame → List Token
frame_head n f = begin_object ∷ key (codes "id") ∷ number (decimal n) ∷ key (codes "name") ∷ string (shown_name f) ∷ []

-- what stands behind the place of a frame
abbrev pub frame_end : ℕ → List Token
frame_end column = key (codes "column") ∷ number (decimal column) ∷ end_object ∷ []

-- a source: its name, and the path of its file
abbrev pub source_tokens : List ℕ → List ℕ → List Token
source_tokens name path =
    key (codes "source") ∷ begin_object ∷ key (codes "name") ∷ string name ∷ key (codes "path") ∷ string path ∷ end_object ∷ []

-- where it is shown: in a source, at a line of it
abbrev pub IsPlace : List Token → Type 0
IsPlace place = (name path : List ℕ) × (line : ℕ) × (place ≡ source_tokens name path ++ key (codes "line") ∷ number (decimal line) ∷ [])

-- the item of a frame, which is shown at such a place
abbrev pub ShowsFrameAt : (List Token → Type 0) → ℕ → Frame → List Token → Type 0
ShowsFrameAt IsThere n f item =
    (place : List Token) × (column : ℕ) × IsThere place × (item ≡ frame_head n f ++ (place ++ key (codes "column") ∷ number (decimal column) ∷ end_object ∷ []))

abbrev pub ShowsFrame : ℕ → Frame → List Token → Type 0
ShowsFrame n f item = ShowsFrameAt IsPlace n f item

-- the items of frames, one after the other, the first of this number
abbrev pub ShowsFrames : ℕ → List Frame → List Token → Type 0
ShowsFrames n [] tokens = tokens ≡ []
ShowsFrames n (f ∷ fs) tokens = (item others : List Token) × ShowsFrame n f item × ShowsFrames (suc n) fs others × (tokens ≡ item ++ others)

-- what stands behind the name of an item that is no frame
abbrev pub label_end : List Token
label_end =
    key (codes "line") ∷ number (decimal 0) ∷ key (codes "column") ∷ number (decimal 0) ∷ key (codes "presentationHint") ∷ string (codes "label") ∷ end_object ∷ []

-- where no call is open there is one item, which tells how the run ended
abbrev pub end_item : ℕ → State → List Token
end_item position s =
    begin_object ∷ key (codes "id") ∷ number (decimal 1) ∷ key (codes "name") ∷ string (shown_text (without_end (state_line position s.frames s.status)))
    ∷ key (codes "line") ∷ number (decimal 0) ∷ key (codes "column") ∷ number (decimal 0) ∷ key (codes "presentationHint") ∷ string (codes "label") ∷ end_object ∷ []

-- items, and how many there are in all
abbrev pub stack_of : List Token → ℕ → List Token
stack_of items count = key (codes "stackFrames") ∷ begin_array ∷ (items ++ end_array ∷ key (codes "totalFrames") ∷ number (decimal count) ∷ [])

-- the frames of a page, the innermost first
abbrev pub ShowsFramesOf : ℕ → State → List Frame → Page → List Token → Type 0
ShowsFramesOf position s [] page tokens = tokens ≡ stack_of (end_item position s) 1
ShowsFramesOf position s (f ∷ fs) page tokens = (items : List Token) × ShowsFrames (page.start + 1) (page_of page (f ∷ fs)) items × (tokens ≡ stack_of items (length (f ∷ fs)))

abbrev pub ShowsStack : ℕ → State → Page → List Token → Type 0
ShowsStack position s page tokens = ShowsFramesOf position s s.frames page tokens
