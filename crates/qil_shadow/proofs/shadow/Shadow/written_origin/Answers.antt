-- By what is written.
use Rattle.qil_shadow.proofs.ReadLemmas.{written_global}
use Rattle.qil_shadow.proofs.shadow.Shadow.written_origin.Goals as goal

pub returns-in-Global : goal.returns-in-Global
returns-in-Global g c = λ are value. written_global c.args.self.now.names _ _ c.in-Global.name c.bytes.result.now _ _ _ c.in-Global.is c.bytes.ensures (c.object_of.ensures are) value c.in_class.ensures
