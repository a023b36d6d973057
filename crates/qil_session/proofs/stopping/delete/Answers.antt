-- Answers to the goals of `delete`.
use Rattle.std.proofs.Common.{ap, Err}
use Rattle.qil_stops.specs.Listed.{is_listed}
use Rattle.qil_session.proofs.StopAnswers.{not_false, replies_deleted, replies_unlisted}
use Rattle.qil_session.proofs.stopping.delete.Goals as goal

pub returns-in-Ok : goal.returns-in-Ok
returns-in-Ok g c = λ wants p t limit.
    replies_deleted p t c.args.stops.now c.delete.new.self limit c.args.number
    (not_false (is_listed c.args.number c.args.stops.now.kept) (λ e. let none = c.in-Ok.ensures.none.1 e in absurd cc)) c.in-Ok.ensures.ok

pub returns-in-Err : goal.returns-in-Err
returns-in-Err g c = λ wants p t limit.
    replies_unlisted p t c.args.stops.now c.delete.new.self limit c.args.number
    (c.in-Err.ensures.none.0 (ap Err c.in-Err.ensures.only)) c.in-Err.ensures.err
