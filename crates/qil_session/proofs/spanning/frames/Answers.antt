-- Answers to the goals of `frames`.
use Rattle.std.proofs.Common.{sym, ◌∙◌, arith, rules, []}
use Rattle.qil_replies.specs.SessionState.{session_at}
use Rattle.qil_session.proofs.SpanAnswers.{replies_at_end, replies_no_spans, replies_spanned, spanned_few, spans_near}
use Rattle.qil_session.proofs.spanning.frames.Goals as goal

pub returns-then-is_at_end-clause-replied : goal.returns-then-is_at_end-clause-replied
returns-then-is_at_end-clause-replied g c = λ stops limit.
    replies_at_end (g.H.Runs.program c.args.history.now) (g.H.Runs.timeline c.args.history.now) stops limit c.args.moves c.args.least (sym c.is_at_end.ensures ∙ c.if-is_at_end.true)

pub returns-in_default-clause-replied : goal.returns-in_default-clause-replied
returns-in_default-clause-replied g c = λ stops limit.
    replies_no_spans (g.H.Runs.program c.args.history.now) (g.H.Runs.timeline c.args.history.now) stops limit c.args.moves c.args.least c.no_spans.result (sym c.is_at_end.ensures ∙ c.if-is_at_end.false) c.no_spans.ensures

pub told-list-requires : goal.told-list-requires
told-list-requires g c = λ lifetimes. (
  search rules,
  spanned_few (session_at g.H.Runs.wants_memory (g.H.Runs.program c.args.history.now) (g.H.Runs.timeline c.args.history.now) (record { given = 0; kept = [] }) 0) c.args.least
      (c.span_moves-is_short.ensures.spanned (record { given = 0; kept = [] }) 0).count (g.H.Runs.timeline c.span_moves-is_short.new.history) c.span_moves-is_short.new.table (c.span_moves-is_short.ensures.spanned (record { given = 0; kept = [] }) 0).so_far,
)

pub returns-clause-near : goal.returns-clause-near
returns-clause-near g c =
    spans_near (session_at g.H.Runs.wants_memory (g.H.Runs.program c.args.history.now) (g.H.Runs.timeline c.args.history.now) (record { given = 0; kept = [] }) 0) c.args.least c.args.moves
    (g.H.Runs.timeline c.span_moves-is_short.new.history) c.span_moves-is_short.new.table c.span_moves-is_short.result (c.span_moves-is_short.ensures.spanned (record { given = 0; kept = [] }) 0) (omega arith)

pub returns-clause-replied : goal.returns-clause-replied
returns-clause-replied g c = λ stops limit.
    replies_spanned (g.H.Runs.program c.args.history.now) (g.H.Runs.program c.span_moves-is_short.new.history) (g.H.Runs.timeline c.args.history.now) (g.H.Runs.timeline c.span_moves-is_short.new.history) stops limit c.args.moves c.args.least
    c.span_moves-is_short.new.table c.told-list.result c.span_moves-is_short.result c.reason_if.result
    (sym c.is_at_end.ensures ∙ c.if-is_at_end.false) (c.span_moves-is_short.ensures.spanned stops limit) c.span_moves-is_short.ensures.program c.told-list.ensures c.reason_if.ensures
