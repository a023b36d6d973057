-- A session over copies of the states from a machine on, which is at its start.
use Rattle.std.proofs.Common.{false}
use Rattle.qil_session.specs.qil_replies.SessionState.{session_at}
use Rattle.qrev_sessions.specs.Copied.{copied_program, copied_timeline}
use Rattle.qrev_sessions.proofs.copying.CopyingSession.new.Goals as goal

pub returns-clause-opened : goal.returns-clause-opened
returns-clause-opened g c =
    let history = c.in_ok-session.session.history in
    λ i. session_at false (copied_program g.M.HasCopies.present history) (copied_timeline g.M.HasCopies.present g.M.HasCopies.kept history) (c.in_ok-session.ensures.stops i) (c.in_ok-session.ensures.limit i)
