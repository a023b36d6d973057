-- A name that has no first definition is defined nowhere.
use Rattle.std.proofs.Common.{◌∙◌, sym}
use Rattle.qil_checker.specs.Whole.{occurrences_of}
use Rattle.qil_checker.proofs.Programs.Names.{named_first, unknown}
use Rattle.qil_checker.proofs.program_index.ProgramIndex.is_unknown.Goals as goal

pub returns-in-Some : goal.returns-in-Some
returns-in-Some g c =
    let s = c.args.self.now in
    (λ t. absurd cc, λ u. absurd (u.0 _ (named_first (occurrences_of s.texts.items) c.args.name.now _ (sym (c.in-Some.ensures ∙ s.first_names c.args.name.now)))))

pub returns-in-None : goal.returns-in-None
returns-in-None g c =
    let s = c.args.self.now in
    unknown (occurrences_of s.texts.items) c.args.name.now c.is_built_in.result c.is_built_in.ensures (sym (c.in-None.ensures ∙ s.first_names c.args.name.now))
