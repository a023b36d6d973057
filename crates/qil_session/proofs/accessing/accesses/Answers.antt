-- Answers to the goals of `accesses`.
use Rattle.std.proofs.Common.{sym, ◌∙◌, arith, []}
use Rattle.qil_replies.specs.SessionState.{session_at}
use Rattle.qil_session.proofs.AccessAnswers.{gathers_near, replies_over, replies_unknown, replies_no_list, replies_gathered}
use Rattle.qil_session.proofs.accessing.accesses.Goals as goal

pub returns-then-is_at_end-clause-replied : goal.returns-then-is_at_end-clause-replied
returns-then-is_at_end-clause-replied g c = λ stops limit.
    replies_over (g.H.Runs.program c.args.history.now) (g.H.Runs.timeline c.args.history.now) stops limit c.args.moves c.args.count c.args.address (sym c.is_at_end.ensures ∙ c.if-is_at_end.true)

pub returns-in_default-clause-replied : goal.returns-in_default-clause-replied
returns-in_default-clause-replied g c = λ stops limit.
    replies_unknown (g.H.Runs.program c.args.history.now) (g.H.Runs.timeline c.args.history.now) stops limit c.args.moves c.args.count c.args.address
    (sym c.is_at_end.ensures ∙ c.if-is_at_end.false) (sym c.start_of.ensures ∙ c.in_default.is)

pub returns-in_default-new-clause-replied : goal.returns-in_default-new-clause-replied
returns-in_default-new-clause-replied g c = λ stops limit.
    replies_no_list (g.H.Runs.program c.args.history.now) (g.H.Runs.timeline c.args.history.now) stops limit c.args.moves c.args.count c.args.address c.in-Some.start c.no_list.result
    (sym c.is_at_end.ensures ∙ c.if-is_at_end.false) (sym c.start_of.ensures ∙ c.in-Some.is) c.no_list.ensures

pub returns-clause-near : goal.returns-clause-near
returns-clause-near g c =
    gathers_near (session_at g.H.Runs.wants_memory (g.H.Runs.program c.args.history.now) (g.H.Runs.timeline c.args.history.now) (record { given = 0; kept = [] }) 0) c.in-Some.start c.args.count c.args.moves
    (g.H.Runs.timeline c.gather-is_short.new.history) c.gather-is_short.new.list c.gather-is_short.result (c.gather-is_short.ensures.gathered (record { given = 0; kept = [] }) 0) (omega arith)

pub returns-clause-replied : goal.returns-clause-replied
returns-clause-replied g c = λ stops limit.
    replies_gathered (g.H.Runs.program c.args.history.now) (g.H.Runs.timeline c.args.history.now) (g.H.Runs.timeline c.gather-is_short.new.history) stops limit c.args.moves c.args.count c.args.address c.in-Some.start
    c.gather-is_short.new.list c.into_items.result c.gather-is_short.result c.reason_if.result
    (sym c.is_at_end.ensures ∙ c.if-is_at_end.false) (sym c.start_of.ensures ∙ c.in-Some.is) (c.gather-is_short.ensures.gathered stops limit) c.into_items.ensures c.reason_if.ensures
