-- The table of names is as long as there are temporaries.
use Rattle.std.proofs.Common.{refl}
use Rattle.qil_checker.proofs.Tables.Counts.{many}
use Rattle.qil_checker.proofs.definition.IndexedDefinition.has_many_temporaries.Goals as goal

pub returns : goal.returns
returns g c =
    let s = c.args.self.now in
    many s.tables.named.places s.occurrences.items s.named_places c.len.ensures.unique _ c.len.result c.len.ensures.len refl
