-- What a request asks to see of a session, by its JSON, and what it is shown.
use Rattle.std.specs.Prelude.{◌≡◌, ◌⊎◌, ℕ, zero, suc, ◌-◌, ◌^◌, ◌+◌, ◌<◌, ◌==◌, cond, false, List, [], length, Option, None, Some, codes, flat_map, option_map, slice_get, unwrap_or}
use Rattle.json.specs.Json.{Json}
use Rattle.json.specs.Written.{Written}
use Rattle.json.specs.Token.{Token}
use Rattle.qil_tree.specs.declared.tree.Program.{Program}
use Rattle.qil_semantics.specs.State.{Frame, State}
use Rattle.qil_semantics.specs.Timeline.{position, oldest}
use Rattle.qil_frames.specs.Frames.{SlotFrame}
use Rattle.qil_render.specs.Shown.{temps_of_frame}
use Rattle.qrev_protocol.specs.Outgoing.{Adds}
use Rattle.qrev_requests.specs.Members.{member_in, text_in, flag_in, IsNumberIn}
use Rattle.qrev_views.specs.Pages.{page_of}
use Rattle.qrev_views.specs.Scopes.{scopes_tokens}
use Rattle.qrev_views.specs.Variables.{ShowsData, ShowsEach, ShowsTemps, fixed_tokens, machine_rows}
use Rattle.qrev_views.specs.declared.variable.Page.{Page}
use Rattle.qrev_views.specs.declared.variable.Showing.{Showing}
use Rattle.qrev_debuggee.specs.qrev_recorder.qil_replies.SessionState.{SessionState}
use Rattle.qrev_debuggee.specs.declared.client.Client.{Client}
use Rattle.qrev_debuggee.specs.declared.failure.Failure.{Failure}
use Rattle.qrev_debuggee.specs.declared.failure.Failure.TheVariants.{Because, OutOfMemory}
use Rattle.qrev_debuggee.specs.declared.failure.Cause.TheVariants.{NoSuchFrame, NoSuchVariables}
use Rattle.qrev_inspection.specs.Shown.{variables_member}

-- a number that it says under a name, or what stands for none
abbrev pub Says : List ℕ → Option Json → ℕ → ℕ → Type 0
Says name json otherwise n = (said : Option ℕ) × IsNumberIn name json said × (n ≡ unwrap_or said otherwise)

-- a text that it says under a name, or the empty one
abbrev pub said_in : List ℕ → Option Json → List ℕ
said_in name json = unwrap_or (text_in name json) []

-- its page: from an item on, and so many, where none and 0 stand for all
pub record AsksPage (json : Option Json) (start count : List ℕ) (page : Page) : Type 0 where
  pub from : Says start json 0 page.start
  pub many : (n : ℕ) × Says count json 0 n × (page.count ≡ cond (n == 0) (2 ^ 64 - 1) n)

-- the form of its values, for an editor that said this of itself
abbrev pub showing_of : Client → Option Json → Showing
showing_of client json = record { is_hex = unwrap_or (flag_in (codes "hex") (member_in (codes "format") json)) false; has_types = client.has_types; has_references = client.has_references }

-- the frame of a number: that of the innermost one is 1
abbrev pub frame_numbered : {X : Type 0} → ℕ → List X → Option X
frame_numbered zero frames = None
frame_numbered (suc k) frames = slice_get frames k

-- ---- scopes

-- those of the frame of the number that a request says were added; a frame has a slot for each temporary of its function
pub record ShowsScopes {A : Type 0} (s : SessionState A) (json : Option Json) (old new : Written) : Type 0 where
  pub number : ℕ
  pub frame : Option SlotFrame
  pub is_said : Says (codes "frameId") json 0 number
  pub has_slots : option_map (λ f. length f.slots) frame ≡ option_map (λ f. length (temps_of_frame s.program f)) (frame_numbered number s.timeline.now.frames)
  pub added : Adds old new (scopes_tokens number frame (length s.program.datas))

-- why none are shown: memory ran out, or no frame has the number
abbrev pub HasNoScopes : {A : Type 0} → SessionState A → Option Json → Failure → Type 0
HasNoScopes s json why = (why ≡ OutOfMemory)
    ⊎ ((why ≡ Because NoSuchFrame) × (number : ℕ) × Says (codes "frameId") json 0 number × (frame_numbered number s.timeline.now.frames ≡ None))

-- ---- variables

-- the temporaries of the frame of a number, of which those of the innermost one can be set
pub record ShowsTemporaries {A : Type 0} (p : Program A) (s : State) (names : List ℕ) (showing : Showing) (n : ℕ) (page : Page) (items : List Token) : Type 0 where
  pub frame : Frame
  pub is_there : frame_numbered n s.frames ≡ Some frame
  pub temporaries : ShowsTemps p s.memory names showing (n == 1) frame page items

-- the data of the program, and what they hold
abbrev pub ShowsDatas : {A : Type 0} → Program A → State → List ℕ → Showing → Page → List Token → Type 0
ShowsDatas p s names showing page items = ShowsEach (ShowsData p s.memory names showing) (page_of page p.datas) items

-- so many items were added as variables
abbrev pub Lists : Written → Written → (List Token → Type 0) → Type 0
Lists old new Shows = (items : List Token) × Shows items × Adds old new (variables_member items)

-- those of a reference were added: of the machine, of the data, and else of the frame of that number; larger ones are of parts
pub record ShowsVariables {A : Type 0} (s : SessionState A) (names : List ℕ) (showing : Showing) (reference : ℕ) (page : Page) (old new : Written) : Type 0 where
  pub of_machine : reference ≡ 2 ^ 30 → Adds old new (variables_member (flat_map fixed_tokens (page_of page (machine_rows (position s.timeline) (oldest s.timeline) s.timeline.now))))
  pub of_data : reference ≡ 2 ^ 30 + 1 → Lists old new (ShowsDatas s.program s.timeline.now names showing page)
  pub of_frame : reference < 2 ^ 28 → Lists old new (ShowsTemporaries s.program s.timeline.now names showing reference page)

-- why none are shown: memory ran out, or the reference names none, and so no frame has its number
abbrev pub HasNoVariables : Failure → ℕ → List Frame → Type 0
HasNoVariables why reference frames = (why ≡ OutOfMemory)
    ⊎ ((why ≡ Because NoSuchVariables) × (reference ≡ 2 ^ 30 → ⊥) × (reference ≡ 2 ^ 30 + 1 → ⊥) × (reference < 2 ^ 28 → frame_numbered reference frames ≡ None))

-- those that a request asks for were added
pub record ShowsAsked {A : Type 0} (s : SessionState A) (names : List ℕ) (client : Client) (json : Option Json) (old new : Written) : Type 0 where
  pub reference : ℕ
  pub page : Page
  pub is_said : Says (codes "variablesReference") json 0 reference
  pub is_page : AsksPage json (codes "start") (codes "count") page
  pub shown : ShowsVariables s names (showing_of client json) reference page old new

abbrev pub HasNoneAsked : {A : Type 0} → SessionState A → Option Json → Failure → Type 0
HasNoneAsked s json why = (reference : ℕ) × Says (codes "variablesReference") json 0 reference × HasNoVariables why reference s.timeline.now.frames
