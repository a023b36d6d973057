-- A header, and what there is of the body.
use Rattle.std.proofs.Common.{◌++◌, sym, subst}
use Rattle.std.proofs.lemmas.Result.{err_from_is_err_and}
use Rattle.qil_streams.proofs.DeviceLemmas.{Consumes-append}
use Rattle.qrev_protocol.specs.Frame.{IsHeader}
use Rattle.qrev_protocol.proofs.Messages.{whole_message, part_of_message}
use Rattle.qrev_protocol.proofs.incoming.Incoming.read_message.Goals as goal

pub returns-in_err-body-clause-message : goal.returns-in_err-body-clause-message
returns-in_err-body-clause-message g c =
    let p = err_from_is_err_and c.from_residual-in_err-body.result c.from_residual-in_err-body.ensures.1 in
    let head = rw c.in-Length.is at c.in_ok-length.ensures.head in
    let part = c.in_err-body.ensures.body in
    rw p.1 (head.0 ++ part.0, Consumes-append _ _ _ head.0 part.0 head.3 part.1)

pub returns-in-Some-clause-message : goal.returns-in-Some-clause-message
returns-in-Some-clause-message g c =
    let head = rw c.in-Length.is at c.in_ok-length.ensures.head in
    let body = rw c.in-Some.is at c.in_ok-body.ensures.body in
    whole_message head.0 c.in-Some.body.items _ _ _ (subst (λ v. IsHeader head.0 v) (sym body.0) head.1) (rw body.0 head.2) head.3 body.1

pub returns-in-None-clause-message : goal.returns-in-None-clause-message
returns-in-None-clause-message g c =
    let head = rw c.in-Length.is at c.in_ok-length.ensures.head in
    let body = rw c.in-None.is at c.in_ok-body.ensures.body in
    part_of_message head.0 c.in-Length.length body.0 _ _ _ head.1 head.3 body.1 body.2
