-- How far the opening of a session has come.
use Rattle.std.specs.Prelude.{◌≡◌, ℕ, List}
use Rattle.qil_tree.specs.declared.tree.Program.{Program}
use Rattle.qil_rules.specs.Verdict.{Verdict}
use Rattle.qil_state.specs.State.{Whole, state_of}
use Rattle.qil_loading.specs.Load.{Accepts}
use Rattle.qil_loading.specs.Lines.{IsLoaded}
use Rattle.qil_loading.specs.declared.loaded.Loaded.{Loaded}
use Rattle.qrev_recorder.specs.qil_replies.Transcript.{Setup, Begins}

-- a text is accepted, of which this is reported and this is the program
pub record IsAccepted {A : Type 0} (text : List ℕ) (loaded : Loaded) (p : Program A) : Type 0 where
  pub verdict : Verdict A
  pub accepts : Accepts text verdict
  pub loaded_is : IsLoaded loaded verdict
  pub program : p ≡ verdict.program

-- a machine stands at the start of an accepted text
pub record HasStarted {A : Type 0} (s : Setup) (loaded : Loaded) (w : Whole A) : Type 0 where
  pub verdict : Verdict A
  pub begins : Begins s verdict (state_of w)
  pub loaded_is : IsLoaded loaded verdict
  pub program : w.program ≡ verdict.program
