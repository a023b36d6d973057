-- A session that was just begun.
use Rattle.std.proofs.Common.{◌≡◌, ℕ, Bool, [], sym, ◌∙◌}
use Rattle.qil_tree.specs.declared.tree.Program.{Program}
use Rattle.qil_rules.specs.Verdict.{Verdict}
use Rattle.qil_semantics.specs.State.{State}
use Rattle.qil_semantics.specs.Timeline.{Timeline, begun}
use Rattle.qil_loading.specs.Lines.{IsLoaded}
use Rattle.qil_loading.specs.declared.loaded.Loaded.{Loaded}
use Rattle.qil_replies.specs.SessionState.{SessionState, session_at}
use Rattle.qil_replies.specs.Transcript.{Setup, Begins}
use Rattle.qrev_recorder.specs.Record.{IsBeginning}

-- without stops, over a timeline that has made no move, it is at the start of its program
pub is_beginning : {A : Type 0} (s : Setup) (loaded : Loaded) (verdict : Verdict A) (start : State) (state : SessionState A) (p : Program A) (t : Timeline) (wants : Bool)
    → wants ≡ s.moves_want_memory → Begins s verdict start → IsLoaded loaded verdict → state ≡ session_at wants p t (record { given = 0; kept = [] }) s.limit → p ≡ verdict.program → t ≡ begun s.keeps start
    → IsBeginning s loaded state
is_beginning s loaded verdict start state p t wants same begins loaded_is e ep et = record {
  verdict = verdict;
  start = start;
  begins = begins;
  loaded_is = loaded_is;
  opened_is = e ∙ (λ i. record { program = ep i; timeline = et i; stops = record { given = 0; kept = [] }; limit = s.limit; moves_want_memory = same i });
}
