-- Answers to the goals of `reply_command`, where the command changes nothing.
use Rattle.std.proofs.Common.{ap, ◌∙◌}
use Rattle.qil_replies.specs.SessionState.{resolved_address}
use Rattle.qil_replies.specs.Answers.{memory_reply}
use Rattle.qil_session.specs.Kept.{Kept, session_state}
use Rattle.qil_session.proofs.ShownAnswers.{replies_stops, replies_print, replies_temps, replies_mem, replies_where, replies_list, replies_out, replies_quit}
use Rattle.qil_session.proofs.session.Session.reply_command.Goals as goal

pub returns-in-Stops-clause-replied : goal.returns-in-Stops-clause-replied
returns-in-Stops-clause-replied g c = rw c.in-Stops.is (replies_stops (session_state g.H.Runs.wants_memory g.H.Runs.program g.H.Runs.timeline c.args.self.now))

pub returns-in-Print-clause-replied : goal.returns-in-Print-clause-replied
returns-in-Print-clause-replied g c = rw c.in-Print.is (replies_print (session_state g.H.Runs.wants_memory g.H.Runs.program g.H.Runs.timeline c.args.self.now) c.in-Print.name)

pub returns-in-Temps-clause-replied : goal.returns-in-Temps-clause-replied
returns-in-Temps-clause-replied g c = rw c.in-Temps.is (replies_temps (session_state g.H.Runs.wants_memory g.H.Runs.program g.H.Runs.timeline c.args.self.now))

pub returns-in-Where-clause-replied : goal.returns-in-Where-clause-replied
returns-in-Where-clause-replied g c = rw c.in-Where.is (replies_where (session_state g.H.Runs.wants_memory g.H.Runs.program g.H.Runs.timeline c.args.self.now))

pub returns-in-List-clause-replied : goal.returns-in-List-clause-replied
returns-in-List-clause-replied g c = rw c.in-List.is (replies_list (session_state g.H.Runs.wants_memory g.H.Runs.program g.H.Runs.timeline c.args.self.now))

pub returns-in-Out-clause-replied : goal.returns-in-Out-clause-replied
returns-in-Out-clause-replied g c = rw c.in-Out.is (replies_out (session_state g.H.Runs.wants_memory g.H.Runs.program g.H.Runs.timeline c.args.self.now))

pub returns-in-Quit-clause-replied : goal.returns-in-Quit-clause-replied
returns-in-Quit-clause-replied g c = rw c.in-Quit.is (replies_quit (session_state g.H.Runs.wants_memory g.H.Runs.program g.H.Runs.timeline c.args.self.now))

pub returns-in-Mem-clause-replied : goal.returns-in-Mem-clause-replied
returns-in-Mem-clause-replied g c =
    rw c.in-Mem.is
    (replies_mem (session_state g.H.Runs.wants_memory g.H.Runs.program g.H.Runs.timeline c.args.self.now) c.in-Mem.address c.in-Mem.count c.show_bytes.result
    (c.show_bytes.ensures ∙ ap (λ p. memory_reply c.in-Mem.count (resolved_address p c.in-Mem.address)) (c.code_of.ensures ∙ c.machine-in-Mem.ensures.program ∙ ap (λ (k : Kept g.row.H.Denot). g.H.Runs.program k.history) c.self.view_is)))
