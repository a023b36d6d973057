-- Answers to the goals of `poke`.
use Rattle.std.proofs.Common.{ap, sym, ◌∙◌, Err}
use Rattle.qil_replies.specs.SessionState.{resolved_address}
use Rattle.qil_session.proofs.PokeAnswers.{replies_nowhere, replies_poke, replies_poke_dead, replies_poke_wants, poked_near}
use Rattle.qil_session.proofs.poking.poke.Goals as goal

pub returns-in_default-clause-replied : goal.returns-in_default-clause-replied
returns-in_default-clause-replied g c = λ stops limit.
    replies_nowhere (g.H.Runs.program c.args.history.now) (g.H.Runs.timeline c.args.history.now) stops limit c.args.width c.args.address c.args.value
    (sym c.start_of.ensures ∙ c.in_default.is)

pub returns-in-Ok-clause-near : goal.returns-in-Ok-clause-near
returns-in-Ok-clause-near g c = poked_near (g.H.Runs.timeline c.args.history.now) (g.H.Runs.timeline c.poke_memory.new.self) _ c.in-Ok.ensures.ok

pub returns-in-Ok-clause-replied : goal.returns-in-Ok-clause-replied
returns-in-Ok-clause-replied g c = λ stops limit.
    replies_poke (g.H.Runs.program c.args.history.now) (g.H.Runs.timeline c.args.history.now) (g.H.Runs.timeline c.poke_memory.new.self) stops limit c.args.width c.args.address c.args.value c.in-Some.start c.width_bytes.result
    (sym c.start_of.ensures ∙ c.in-Some.is) c.width_bytes.ensures.value c.in-Ok.ensures.ok

pub returns-in-Err-DeadAddress-clause-replied : goal.returns-in-Err-DeadAddress-clause-replied
returns-in-Err-DeadAddress-clause-replied g c = λ stops limit.
    let arm = c.in-Err-DeadAddress in
    replies_poke_dead (g.H.Runs.program c.args.history.now) (g.H.Runs.timeline c.args.history.now) (g.H.Runs.timeline c.poke_memory.new.self) stops limit c.args.width c.args.address c.args.value c.in-Some.start c.width_bytes.result
    (sym c.start_of.ensures ∙ c.in-Some.is) c.width_bytes.ensures.value
    (arm.ensures.dead.0 (ap Err arm.field-0-is)) arm.ensures.err

pub returns-in-Err-OutOfMemory-clause-replied : goal.returns-in-Err-OutOfMemory-clause-replied
returns-in-Err-OutOfMemory-clause-replied g c = λ stops limit.
    let arm = c.in-Err-OutOfMemory in
    replies_poke_wants (g.H.Runs.program c.args.history.now) (g.H.Runs.timeline c.args.history.now) (g.H.Runs.timeline c.poke_memory.new.self) stops limit c.args.width c.args.address c.args.value c.in-Some.start c.width_bytes.result c.poke_memory.result
    (sym c.start_of.ensures ∙ c.in-Some.is) c.width_bytes.ensures.value
    (arm.is ∙ ap Err arm.field-0-is) c.poke_memory.ensures.dead arm.ensures.err
