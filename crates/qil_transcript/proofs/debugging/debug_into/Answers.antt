-- Answers to the goals of `debug_into`.
use Rattle.std.proofs.Common.{◌∙◌, ap}
use Rattle.qil_tree.specs.declared.tree.Program.{Program}
use Rattle.qil_layout.specs.Layout.{fault_of}
use Rattle.qil_semantics.specs.Start.{start_of}
use Rattle.qil_transcript.specs.Handed.{setup_of}
use Rattle.qil_session.proofs.Explaining.{check-explained}
use Rattle.qil_transcript.proofs.DebugLemmas.{Written-refuse, no_session, refused-no_session, shortage-not_refused}
use Rattle.qil_transcript.proofs.debugging.debug_into.Goals as goal

pub returns-in-Ok-clause-only_begun : goal.returns-in-Ok-clause-only_begun
returns-in-Ok-clause-only_begun g c = λ verdict start begins.
    let same = c.in-Ok.ensures.only_accepted verdict begins.accepts.checks in
    c.debug_checked.ensures.only_started start
    (ap (λ (p : Program g.row.A.Denot). fault_of p) same ∙ begins.accepts.lies)
    (ap (λ (p : Program g.row.A.Denot). start_of p c.args.request.now.func.now c.args.request.now.args.now) same ∙ begins.starts)

pub returns-in-Ok-clause-only_refused : goal.returns-in-Ok-clause-only_refused
returns-in-Ok-clause-only_refused g c = λ refusal refuses.
    no_session g.row.A.Denot (setup_of c.args.text.now c.args.request.now) c.in-Ok.checked.program c.debug_checked.result refusal refuses
    c.in-Ok.ensures.only_refused c.in-Ok.ensures.only_accepted c.debug_checked.ensures.only_refused c.debug_checked.ensures.only_laid_out

pub returns-in-Err-clause-written : goal.returns-in-Err-clause-written
returns-in-Err-clause-written g c =
    Written-refuse g.row.A.Denot c.refuse.result (setup_of c.args.text.now c.args.request.now) c.in-Err.error _ _ _ _
    (check-explained g.row.A.Denot (setup_of c.args.text.now c.args.request.now) c.in-Err.error c.in-Err.ensures.refused) c.refuse.ensures.refused

pub returns-in-Err-clause-only_begun : goal.returns-in-Err-clause-only_begun
returns-in-Err-clause-only_begun g c = λ verdict start begins.
    shortage-not_refused c.refuse.result c.in-Err.error _ _ c.refuse.ensures.refused (c.in-Err.ensures.only_accepted verdict begins.accepts.checks)

pub returns-in-Err-clause-only_refused : goal.returns-in-Err-clause-only_refused
returns-in-Err-clause-only_refused g c = λ refusal refuses. refused-no_session c.refuse.result c.in-Err.error _ _ c.refuse.ensures.refused
