-- The goals of `put_back` that the check leaves open.
use Rattle.qil_layout.specs.Layout.{low_bytes}
use Rattle.qil_layout.proofs.BytesLemmas.{length-low_bytes}
use Rattle.qil_memory.proofs.Calling.{some_places}
use Rattle.qil_memory.proofs.memory.Memory.put_back.Goals as goal

pub put_number-requires-clause-places : goal.put_number-requires-clause-places
put_number-requires-clause-places g c = some_places c.args.self.now c.args.address c.args.n (low_bytes c.args.n c.args.number) c.if-n-gt0.true (length-low_bytes c.args.n c.args.number) c.requires.places
