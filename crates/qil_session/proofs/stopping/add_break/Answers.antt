-- Answers to the goals of `add_break`.
use Rattle.std.proofs.Common.{sym, ◌∙◌}
use Rattle.qil_session.proofs.StopAnswers.{replies_no_place, replies_break}
use Rattle.qil_session.proofs.stopping.add_break.Goals as goal

pub returns-in_default : goal.returns-in_default
returns-in_default g c = λ wants t limit.
    replies_no_place c.args.code.now t c.args.stops.now limit c.args.func.now c.args.at (sym c.resolved_place.ensures ∙ c.in_default.is)

pub returns : goal.returns
returns g c = λ wants t limit.
    replies_break c.args.code.now t c.args.stops.now c.add_break-made.new.self limit c.args.func.now c.args.at c.in-Some.place c.add_break-made.result c.made_reply.result
    (sym c.resolved_place.ensures ∙ c.in-Some.is)
    (record { number = c.add_break-made.ensures.number; ok = c.add_break-made.ensures.ok; unknown = c.add_break-made.ensures.unknown; many = c.add_break-made.ensures.many; only = c.add_break-made.ensures.only; err = c.add_break-made.ensures.err })
    c.made_reply.ensures
