use Rattle.std.proofs.Common.{◌∙◌}
use Rattle.qrev_map.proofs.Ranks.{first_found}
use Rattle.qrev_map.proofs.file.SourceFile.first_from.Goals as goal

-- src/file.rt:44:5
pub returns-clause-first : goal.returns-clause-first
returns-clause-first g c = λ rise. first_found c.args.line c.args.self.now.mappings.items c.mappings_from.result.now c.copied.result rise (c.mappings_from.ensures rise) (c.copied.ensures ∙ c.first.ensures.value)
