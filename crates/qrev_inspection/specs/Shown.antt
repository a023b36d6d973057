-- What the bodies of responses show of a state, as the tokens of their JSON.
use Rattle.std.specs.Prelude.{◌≡◌, ◌⊎◌, ℕ, ◌+◌, ◌-◌, ◌<◌, ◌==◌, List, [], ◌∷◌, ◌++◌, codes, drop, length, slice_get, Some}
use Rattle.json.specs.Token.{Token, begin_array, end_array, key}
use Rattle.qil_memory.specs.Live.{live}
use Rattle.qil_frames.specs.Frames.{SlotFrame}
use Rattle.qil_state.specs.State.{Whole, frame_state}
use Rattle.qrev_debuggee.specs.declared.failure.Failure.{Failure}
use Rattle.qrev_debuggee.specs.declared.failure.Failure.TheVariants.{OutOfMemory}
use Rattle.qrev_views.specs.Variables.{ShowsTemps}
use Rattle.qrev_views.specs.declared.variable.Page.{Page}
use Rattle.qrev_views.specs.declared.variable.Showing.{Showing}

-- a list of variables, as a member of a body
abbrev pub variables_member : List Token → List Token
variables_member items = key (codes "variables") ∷ begin_array ∷ (items ++ end_array ∷ [])

-- the temporaries of the frame of a number: that of the innermost one is 1
pub record ShowsFrame {A : Type 0} (w : Whole A) (names : List ℕ) (showing : Showing) (n : ℕ) (page : Page) (tokens : List Token) : Type 0 where
  pub frame : SlotFrame
  pub items : List Token
  pub is_there : slice_get w.frames (n - 1) ≡ Some frame
  pub temporaries : ShowsTemps w.program (live w.memory) names showing (n == 1) (frame_state w.program (drop (n - 1 + 1) w.frames) frame) page items
  pub is_listed : tokens ≡ variables_member items

-- why the frame of a number isn't shown: memory ran out, or there is no such frame, which is refused by these words
abbrev pub IsMissing : Failure → Failure → ℕ → List SlotFrame → Type 0
IsMissing why refused n frames = (why ≡ OutOfMemory) ⊎ ((why ≡ refused) × ((n ≡ 0) ⊎ (length frames < n)))
