-- Answers to the goals of `debug_records`.
use Rattle.std.proofs.Common.{◌∙◌, sym, ap}
use Rattle.qil_tree.specs.declared.tree.Program.{Program}
use Rattle.qil_semantics.specs.Start.{start_of}
use Rattle.qil_transcript.specs.Handed.{setup_of}
use Rattle.qil_transcript.proofs.DebugLemmas.{Written-refuse, refused-no_session, shortage-not_refused, start-explained, start-shortage}
use Rattle.qil_transcript.proofs.debugging.debug_records.Goals as goal

pub returns-in-Ok-clause-written : goal.returns-in-Ok-clause-written
returns-in-Ok-clause-written g c = λ text verdict accepts loaded same.
    c.debug_machine.ensures.written text verdict
    (record { accepts = accepts; starts = ap (λ (p : Program g.row.A.Denot). start_of p c.args.request.now.func.now c.args.request.now.args.now) (sym same) ∙ c.in-Ok.ensures.ok })
    loaded (c.in-Ok.ensures.program ∙ same)

pub returns-in-Err-clause-written : goal.returns-in-Err-clause-written
returns-in-Err-clause-written g c = λ text verdict accepts loaded same.
    Written-refuse g.row.A.Denot c.refuse.result (setup_of text c.args.request.now) c.start_error.result _ _ _ _
    (start-explained (setup_of text c.args.request.now) verdict c.args.code.now c.in-Err.error c.start_error.result accepts same c.in-Err.ensures.fault c.start_error.ensures) c.refuse.ensures.refused

pub returns-in-Err-clause-only_started : goal.returns-in-Err-clause-only_started
returns-in-Err-clause-only_started g c = λ start ok.
    shortage-not_refused c.refuse.result c.start_error.result _ _ c.refuse.ensures.refused
    (start-shortage c.args.code.now c.args.request.now.func.now c.args.request.now.args.now start c.in-Err.error c.start_error.result ok c.in-Err.ensures.fault c.start_error.ensures)

pub returns-in-Err-clause-only_refused : goal.returns-in-Err-clause-only_refused
returns-in-Err-clause-only_refused g c = λ fault e. refused-no_session c.refuse.result c.start_error.result _ _ c.refuse.ensures.refused
