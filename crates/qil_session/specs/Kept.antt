-- What a session keeps.
use Rattle.std.specs.Prelude.{ℕ, Bool}
use Rattle.qil_tree.specs.declared.tree.Program.{Program}
use Rattle.qil_semantics.specs.Timeline.{Timeline}
use Rattle.qil_stops.specs.Listed.{Listed}
use Rattle.qil_replies.specs.SessionState.{SessionState, session_at}

pub record Kept (H : Type 0) : Type 0 where
  pub history : H
  pub stops : Listed
  pub limit : ℕ

-- the situation of what is kept, by whether a move of its history may want memory, and by its program and timeline
abbrev pub session_state : {A H : Type 0} → Bool → (H → Program A) → (H → Timeline) → Kept H → SessionState A
session_state wants program timeline k = session_at wants (program k.history) (timeline k.history) k.stops k.limit
