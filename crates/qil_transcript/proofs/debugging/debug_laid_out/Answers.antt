-- Answers to the goals of `debug_laid_out`.
use Rattle.std.proofs.Common.{◌∙◌, ap}
use Rattle.qil_tree.specs.declared.tree.Program.{Program}
use Rattle.qil_semantics.specs.Start.{start_of}
use Rattle.qil_transcript.proofs.debugging.debug_laid_out.Goals as goal

pub returns-clause-written : goal.returns-clause-written
returns-clause-written g c = λ text checks. c.debug_code.ensures.written text c.args.checked.now (record { checks = checks; lies = c.requires.lies }) c.new-loaded.ensures c.in-Ok.ensures

pub returns-clause-only_started : goal.returns-clause-only_started
returns-clause-only_started g c = λ start ok.
    c.debug_code.ensures.only_started start (ap (λ (p : Program g.row.A.Denot). start_of p c.args.request.now.func.now c.args.request.now.args.now) c.in-Ok.ensures ∙ ok)

pub returns-clause-only_refused : goal.returns-clause-only_refused
returns-clause-only_refused g c = λ fault e.
    c.debug_code.ensures.only_refused fault (ap (λ (p : Program g.row.A.Denot). start_of p c.args.request.now.func.now c.args.request.now.args.now) c.in-Ok.ensures ∙ e)
