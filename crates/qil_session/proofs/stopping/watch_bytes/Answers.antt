-- Answers to the goals of `watch_bytes`.
use Rattle.std.proofs.Common.{sym, ◌∙◌}
use Rattle.qil_session.proofs.StopAnswers.{replies_no_bytes, replies_watch_bytes}
use Rattle.qil_session.proofs.stopping.watch_bytes.Goals as goal

pub returns-in_default : goal.returns-in_default
returns-in_default g c = λ wants t limit.
    replies_no_bytes c.args.code.now t c.args.stops.now limit c.args.width c.args.address (sym c.resolved_address.ensures ∙ c.in_default.is)

pub returns : goal.returns
returns g c = λ wants t limit.
    replies_watch_bytes c.args.code.now t c.args.stops.now c.add_watch-made.new.self limit c.args.width c.args.address c.in-Some.address c.width_bytes-width.result
    c.add_watch-made.result c.made_reply.result
    (sym c.resolved_address.ensures ∙ c.in-Some.is) c.width_bytes-width.ensures.value
    (record { number = c.add_watch-made.ensures.number; ok = c.add_watch-made.ensures.ok; unknown = c.add_watch-made.ensures.unknown; many = c.add_watch-made.ensures.many; only = c.add_watch-made.ensures.only; err = c.add_watch-made.ensures.err })
    c.made_reply.ensures
