-- Answers to the goals of `phi_text`.
use Rattle.qil_printer.specs.Canonical.{phi_start, sources_words}
use Rattle.qil_printer.proofs.CanonicalLemmas.{words_put, words_stop}
use Rattle.qil_printer.proofs.canonical.phi_text.Goals as goal

pub returns-in_err-put_phi : goal.returns-in_err-put_phi
returns-in_err-put_phi g c = words_stop (phi_start c.args.phi.now.target) (sources_words c.args.phi.now.sources) _ _ c.from_residual.ensures.1 _ _ _ c.in_err-put_phi.ensures

pub returns : goal.returns
returns g c = words_put (phi_start c.args.phi.now.target) (sources_words c.args.phi.now.sources) _ _ _ _ _ c.in_ok-put_phi.ensures (rw c.as_slice.ensures at c.put_sources.ensures)
