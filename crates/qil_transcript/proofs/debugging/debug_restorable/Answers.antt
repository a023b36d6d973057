-- Answers to the goals of `debug_restorable`.
use Rattle.std.proofs.Common.{ℕ, Option, ◌∙◌, ap, refl, sym}
use Rattle.qil_semantics.specs.Timeline.{begun}
use Rattle.qil_state.specs.State.{state_of}
use Rattle.qil_transcript.specs.Handed.{setup_of, moves_want_memory}
use Rattle.qil_transcript.proofs.debugging.debug_restorable.Goals as goal

pub returns-in-Ok-clause-written : goal.returns-in-Ok-clause-written
returns-in-Ok-clause-written g c = λ text verdict begins loaded same.
    c.debug_runs.ensures.written (setup_of text c.args.request.now) verdict (state_of (g.M.HasCopies.present c.args.machine)) begins loaded refl (ap moves_want_memory c.requires.replay)
    (c.in-Ok.ensures.program ∙ same)
    (c.in-Ok.ensures.begun ∙ ap (λ (keeps : Option ℕ). begun keeps (state_of (g.M.HasCopies.present c.args.machine))) (sym c.requires.bound))
