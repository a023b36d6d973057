-- A session that was just opened.
use Rattle.std.proofs.Common.{◌≡◌, ℕ, Bool, [], sym, ◌∙◌, ap}
use Rattle.qil_tree.specs.declared.tree.Program.{Program}
use Rattle.qil_semantics.specs.State.{State}
use Rattle.qil_semantics.specs.Timeline.{Timeline, begun}
use Rattle.qil_session.specs.Kept.{Kept, session_state}
use Rattle.qil_replies.specs.Transcript.{Setup, opened}

-- a session over a history that has made no move is at the start of its program
pub begun_session : {A H : Type 0} (wants : Bool) (program : H → Program A) (timeline : H → Timeline) (k : Kept H) (h : H) (s : Setup) (p : Program A) (start : State) (limit : ℕ)
    → k ≡ record { history = h; stops = record { given = 0; kept = [] }; limit = limit } → s.limit ≡ limit → s.moves_want_memory ≡ wants → program h ≡ p → timeline h ≡ begun s.keeps start
    → session_state wants program timeline k ≡ opened s p start
begun_session {A} {H} wants program timeline k h s p start limit e l w ep et =
    ap (λ (x : Kept H). session_state wants program timeline x) e ∙ (λ i. record { program = ep i; timeline = et i; stops = record { given = 0; kept = [] }; limit = sym l i; moves_want_memory = sym w i })
