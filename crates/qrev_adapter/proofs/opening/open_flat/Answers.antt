-- Answers to the goals of `open_flat`.
use Rattle.std.proofs.Common.{◌∙◌, sym, ap}
use Rattle.qil_tree.specs.declared.tree.Program.{Program}
use Rattle.qil_semantics.specs.Start.{start_of}
use Rattle.qrev_adapter.proofs.opening.open_flat.Goals as goal

pub open_restorable-requires-clause-begins : goal.open_restorable-requires-clause-begins
open_restorable-requires-clause-begins g c =
    let accepted = c.requires.accepted in
    record {
      verdict = accepted.verdict;
      begins = record {
        accepts = accepted.accepts;
        starts = ap (λ (p : Program g.row.A.Denot). start_of p c.args.opening.entry.now c.args.opening.args.now) (sym accepted.program) ∙ c.in-Ok.ensures.ok;
      };
      loaded_is = accepted.loaded_is;
      program = c.in-Ok.ensures.program ∙ accepted.program;
    }
