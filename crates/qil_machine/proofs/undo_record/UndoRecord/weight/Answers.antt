use Rattle.std.proofs.Common.{arith}
use Rattle.qil_layout.proofs.BytesLemmas.{length-low_bytes}
use Rattle.qil_machine.proofs.undo_record.UndoRecord.weight.Goals as goal

pub returns-in-Stored : goal.returns-in-Stored
returns-in-Stored g c = rw (← c.self.view_is, c.in-Stored.is, length-low_bytes c.in-Stored.count c.in-Stored.number) (omega (arith, c.from.ensures))

pub returns-in-PokedBytes : goal.returns-in-PokedBytes
returns-in-PokedBytes g c = rw (← c.self.view_is, c.in-PokedBytes.is, length-low_bytes c.in-PokedBytes.count c.in-PokedBytes.number) (omega (arith, c.from-in-PokedBytes.ensures))
