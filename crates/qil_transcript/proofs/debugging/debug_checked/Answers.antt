-- Answers to the goals of `debug_checked`.
use Rattle.std.proofs.Common.{◌∙◌, ap}
use Rattle.qil_tree.specs.declared.tree.Program.{Program}
use Rattle.qil_semantics.specs.Start.{start_of}
use Rattle.qil_transcript.specs.Handed.{setup_of}
use Rattle.qil_session.proofs.Explaining.{layout-explained, layout-shortage}
use Rattle.qil_transcript.proofs.DebugLemmas.{Written-refuse, refused-no_session, shortage-not_refused}
use Rattle.qil_transcript.proofs.debugging.debug_checked.Goals as goal

pub returns-in-Err-clause-written : goal.returns-in-Err-clause-written
returns-in-Err-clause-written g c = λ text checks.
    Written-refuse g.row.A.Denot c.refuse.result (setup_of text c.args.request.now) c.from.result _ _ _ _
    (layout-explained (setup_of text c.args.request.now) c.args.checked.now c.in-Err.error c.from.result checks c.in-Err.ensures.fault c.from.ensures) c.refuse.ensures.refused

pub returns-in-Err-clause-only_started : goal.returns-in-Err-clause-only_started
returns-in-Err-clause-only_started g c = λ start none ok.
    shortage-not_refused c.refuse.result c.from.result _ _ c.refuse.ensures.refused
    (layout-shortage c.args.checked.now.program c.in-Err.error c.from.result none c.in-Err.ensures.fault c.from.ensures)

pub returns-in-Err-clause-only_refused : goal.returns-in-Err-clause-only_refused
returns-in-Err-clause-only_refused g c = λ fault e. refused-no_session c.refuse.result c.from.result _ _ c.refuse.ensures.refused

pub returns-in-Err-clause-only_laid_out : goal.returns-in-Err-clause-only_laid_out
returns-in-Err-clause-only_laid_out g c = λ code line e. refused-no_session c.refuse.result c.from.result _ _ c.refuse.ensures.refused

pub returns-in-Ok-clause-written : goal.returns-in-Ok-clause-written
returns-in-Ok-clause-written g c = λ text checks. c.debug_laid_out.ensures.written text checks

pub returns-in-Ok-clause-only_started : goal.returns-in-Ok-clause-only_started
returns-in-Ok-clause-only_started g c = λ start none ok. c.debug_laid_out.ensures.only_started start ok

pub returns-in-Ok-clause-only_refused : goal.returns-in-Ok-clause-only_refused
returns-in-Ok-clause-only_refused g c = λ fault e. c.debug_laid_out.ensures.only_refused fault e
