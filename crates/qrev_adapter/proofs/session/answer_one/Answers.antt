-- What follows a response was told, or was not.
use Rattle.std.proofs.Common.{sym, subst}
use Rattle.std.specs.Prelude.{Result, Option, Ok, Err}
use Rattle.std.proofs.lemmas.Result.{err_from_is_err_and}
use Rattle.qrev_notices.specs.Conversation.{asked_by, spoken, Responds}
use Rattle.qrev_notices.specs.declared.trouble.Trouble.{Trouble}
use Rattle.qrev_notices.proofs.Replies.{responded_then, responds_as}
use Rattle.qrev_adapter.specs.declared.requests.Ending.{Ending}
use Rattle.qrev_adapter.proofs.session.answer_one.Goals as goal

pub returns-in_err-follow-clause-responds : goal.returns-in_err-follow-clause-responds
returns-in_err-follow-clause-responds g c =
    let at = spoken g.W.Sink.contents in
    let p = err_from_is_err_and c.from_residual-in_err-follow.result c.from_residual-in_err-follow.ensures.1 in
    let a = asked_by c.args.request in
    subst (λ (r : Result (Option Ending) Trouble). Responds r a (at c.args.port.now) (at c.follow.new.port)) (sym p.1)
    (responds_as (Unit {0}) (Option Ending) c.in_err-follow.field-0.0 p.0 a (at c.args.port.now) (at c.follow.new.port)
    (responded_then {U = Unit {0}} c.in_ok-then.then (Err c.in_err-follow.field-0.0) a (at c.args.port.now) (at c.respond.new.port) (at c.follow.new.port) c.in_ok-then.ensures c.in_err-follow.ensures.events) p.2)

pub returns-clause-responds : goal.returns-clause-responds
returns-clause-responds g c =
    let at = spoken g.W.Sink.contents in
    responded_then {U = Unit {0}} c.in_ok-then.then (Ok (tt {0})) (asked_by c.args.request) (at c.args.port.now) (at c.respond.new.port) (at c.follow.new.port) c.in_ok-then.ensures c.in_ok-follow.ensures.events
