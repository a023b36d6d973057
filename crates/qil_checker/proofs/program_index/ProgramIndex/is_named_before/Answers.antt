-- The first definition of a name comes before the others.
use Rattle.std.proofs.Common.{◌∙◌, sym}
use Rattle.qil_checker.specs.Whole.{occurrences_of}
use Rattle.qil_checker.proofs.Programs.Names.{named_before, not_named}
use Rattle.qil_checker.proofs.program_index.ProgramIndex.is_named_before.Goals as goal

pub returns-in-Some : goal.returns-in-Some
returns-in-Some g c =
    let s = c.args.self.now in
    named_before (occurrences_of s.texts.items) c.args.name.now c.in-Some.first c.args.number (sym (c.in-Some.ensures ∙ s.first_names c.args.name.now))

pub returns-in-None : goal.returns-in-None
returns-in-None g c =
    let s = c.args.self.now in
    (λ t. absurd cc, λ b. absurd (not_named (occurrences_of s.texts.items) c.args.name.now (sym (c.in-None.ensures ∙ s.first_names c.args.name.now)) b.0 b.2))
