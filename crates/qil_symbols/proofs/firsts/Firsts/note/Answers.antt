-- What the table says once a new name is in it.
use Rattle.std.proofs.Common.{sym}
use Rattle.qil_symbols.proofs.TableLemmas.{first_recorded}
use Rattle.qil_symbols.proofs.firsts.Firsts.note.Goals as goal

pub returns-in_ok-insert-in-None : goal.returns-in_ok-insert-in-None
returns-in_ok-insert-in-None g c = λ x. first_recorded _ _ c.args.self.now.values c.insert.new.self c.in_ok-insert-in-None.ensures.updates (sym c.in-None.ensures) x
