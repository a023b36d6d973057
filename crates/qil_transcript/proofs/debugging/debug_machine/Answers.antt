-- Answers to the goals of `debug_machine`.
use Rattle.std.specs.Prelude.{ℕ, Option, None}
use Rattle.std.proofs.Common.{◌∙◌, ap, refl, sym}
use Rattle.qil_semantics.specs.Timeline.{begun}
use Rattle.qil_state.specs.State.{state_of}
use Rattle.qil_transcript.specs.Handed.{setup_of, moves_want_memory}
use Rattle.qil_transcript.proofs.DebugLemmas.{Written-memory, untaken}
use Rattle.qil_transcript.proofs.debugging.debug_machine.Goals as goal

pub returns-in-None-clause-written : goal.returns-in-None-clause-written
returns-in-None-clause-written g c = λ text verdict begins loaded same.
    c.debug_history.ensures.written (setup_of text c.args.request.now) verdict (state_of c.args.machine) begins loaded refl (ap moves_want_memory c.requires.records)
    (c.new-history.ensures.program ∙ same)
    (c.new-history.ensures.begun ∙ ap (λ (keeps : Option ℕ). begun keeps (state_of c.args.machine)) (sym c.in-None.is))

pub returns-in-Ok-clause-written : goal.returns-in-Ok-clause-written
returns-in-Ok-clause-written g c = λ text verdict begins loaded same.
    c.debug_history-in-Ok.ensures.written (setup_of text c.args.request.now) verdict (state_of c.args.machine) begins loaded refl (ap moves_want_memory c.requires.records)
    (c.in-Ok.ensures.program ∙ same)
    (c.in-Ok.ensures.begun ∙ ap (λ (keeps : Option ℕ). begun keeps (state_of c.args.machine)) (sym c.in-Some.is))

pub returns-clause-written : goal.returns-clause-written
returns-clause-written g c = λ text verdict begins loaded same. Written-memory g.row.A.Denot (setup_of text c.args.request.now) _ None _ _ refl

pub returns-clause-few : goal.returns-clause-few
returns-clause-few g c = untaken (g.S.Source.remaining c.args.source.now)
