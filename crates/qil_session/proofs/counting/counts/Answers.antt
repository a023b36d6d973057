-- Answers to the goals of `counts`.
use Rattle.std.proofs.Common.{sym, ◌∙◌, arith, []}
use Rattle.qil_replies.specs.SessionState.{session_at}
use Rattle.qil_session.proofs.CountAnswers.{counts_near, replies_at_end, replies_no_table, replies_counted}
use Rattle.qil_session.proofs.counting.counts.Goals as goal

pub returns-then-is_at_end-clause-replied : goal.returns-then-is_at_end-clause-replied
returns-then-is_at_end-clause-replied g c = λ stops limit.
    replies_at_end (g.H.Runs.program c.args.history.now) (g.H.Runs.timeline c.args.history.now) stops limit c.args.moves (sym c.is_at_end.ensures ∙ c.if-is_at_end.true)

pub returns-in_default-clause-replied : goal.returns-in_default-clause-replied
returns-in_default-clause-replied g c = λ stops limit.
    replies_no_table (g.H.Runs.program c.args.history.now) (g.H.Runs.timeline c.args.history.now) stops limit c.args.moves c.no_table.result (sym c.is_at_end.ensures ∙ c.if-is_at_end.false) c.no_table.ensures

pub returns-clause-near : goal.returns-clause-near
returns-clause-near g c =
    counts_near (session_at g.H.Runs.wants_memory (g.H.Runs.program c.args.history.now) (g.H.Runs.timeline c.args.history.now) (record { given = 0; kept = [] }) 0) c.args.moves
    (g.H.Runs.timeline c.count_moves-is_short.new.history) c.count_moves-is_short.new.table c.count_moves-is_short.result (c.count_moves-is_short.ensures.counted (record { given = 0; kept = [] }) 0) (omega arith)

pub returns-clause-replied : goal.returns-clause-replied
returns-clause-replied g c = λ stops limit.
    replies_counted (g.H.Runs.program c.args.history.now) (g.H.Runs.timeline c.args.history.now) (g.H.Runs.timeline c.count_moves-is_short.new.history) stops limit c.args.moves
    c.count_moves-is_short.new.table c.into_items.result c.count_moves-is_short.result c.reason_if.result
    (sym c.is_at_end.ensures ∙ c.if-is_at_end.false) (c.count_moves-is_short.ensures.counted stops limit) c.into_items.ensures c.reason_if.ensures
