-- What the second script is answered comes after what the first was, from the session that it left.
use Rattle.qil_session.proofs.ServeLemmas.{in_turn, one_of_two, fault_is, Promise-long, first_long, second_long}
use Rattle.qil_session.proofs.serving.serve_in_turn.Goals as goal

pub returns-clause-served : goal.returns-clause-served
returns-clause-served g c = in_turn c.serve-2.result _ _ _ _ _ _ _ _ _ _ c.in_ok-serve.field-0 c.in_ok-serve.ensures.served c.serve-2.ensures.served

pub returns-in_err-serve-clause-served : goal.returns-in_err-serve-clause-served
returns-in_err-serve-clause-served g c = one_of_two c.serve.result c.from_residual.result c.in_err-serve.field-0.0 _ _ _ _ _ _ _ c.in_err-serve.was c.from_residual.ensures.1 c.serve.ensures.served

pub returns-in_err-serve-clause-too_long : goal.returns-in_err-serve-clause-too_long
returns-in_err-serve-clause-too_long g c = λ e.
    let fault = fault_is c.serve.result c.from_residual.result _ _ c.in_err-serve.was c.from_residual.ensures.1 e in
    first_long _ _ (Promise-long c.serve.result _ _ _ _ _ _ fault c.serve.ensures.served)

pub returns-clause-too_long : goal.returns-clause-too_long
returns-clause-too_long g c = λ e. second_long _ _ (Promise-long c.serve-2.result _ _ _ _ _ _ e c.serve-2.ensures.served)
