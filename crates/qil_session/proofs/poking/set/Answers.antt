-- Answers to the goals of `set`.
use Rattle.std.proofs.Common.{ap, ◌∙◌, Err}
use Rattle.qil_semantics.specs.Poke.{no_frame, unknown_temporary}
use Rattle.qil_session.proofs.PokeAnswers.{replies_set, replies_set_refused, replies_set_wants}
use Rattle.qil_session.proofs.poking.set.Goals as goal

pub returns-in-Ok-clause-replied : goal.returns-in-Ok-clause-replied
returns-in-Ok-clause-replied g c = λ stops limit.
    replies_set (g.H.Runs.program c.args.history.now) (g.H.Runs.timeline c.args.history.now) (g.H.Runs.timeline c.poke_named.new.self) stops limit c.args.name.now c.args.value c.in-Ok.ensures.ok

pub returns-in-Err-NoFrame-clause-replied : goal.returns-in-Err-NoFrame-clause-replied
returns-in-Err-NoFrame-clause-replied g c = λ stops limit.
    replies_set_refused (g.H.Runs.program c.args.history.now) (g.H.Runs.timeline c.args.history.now) (g.H.Runs.timeline c.poke_named.new.self) stops limit c.args.name.now c.args.value no_frame
    (c.in-Err-NoFrame.ensures.frame.0 (ap Err c.in-Err-NoFrame.field-0-is)) c.in-Err-NoFrame.ensures.err

pub returns-in-Err-UnknownTemporary-clause-replied : goal.returns-in-Err-UnknownTemporary-clause-replied
returns-in-Err-UnknownTemporary-clause-replied g c = λ stops limit.
    let arm = c.in-Err-UnknownTemporary in
    replies_set_refused (g.H.Runs.program c.args.history.now) (g.H.Runs.timeline c.args.history.now) (g.H.Runs.timeline c.poke_named.new.self) stops limit c.args.name.now c.args.value unknown_temporary
    (arm.ensures.unknown.0 (ap Err arm.field-0-is)) arm.ensures.err

pub returns-in-Err-OutOfMemory-clause-replied : goal.returns-in-Err-OutOfMemory-clause-replied
returns-in-Err-OutOfMemory-clause-replied g c = λ stops limit.
    let arm = c.in-Err-OutOfMemory in
    replies_set_wants (g.H.Runs.program c.args.history.now) (g.H.Runs.timeline c.args.history.now) (g.H.Runs.timeline c.poke_named.new.self) stops limit c.args.name.now c.args.value c.poke_named.result
    (arm.is ∙ ap Err arm.field-0-is) c.poke_named.ensures.frame c.poke_named.ensures.unknown arm.ensures.err
