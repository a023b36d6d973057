-- The goals of `exchange` that the check leaves open.
use Rattle.std.proofs.Common.{refl}
use Rattle.qil_memory.proofs.Calling.{stored_live, stored_dead}
use Rattle.qil_memory.proofs.Exchanging.{exchange_undo, exchange_places}
use Rattle.qil_memory.proofs.Undoing.{has_live}
use Rattle.qil_memory.proofs.memory.Memory.exchange.Goals as goal

pub returns-in-Some-clause-ok : goal.returns-in-Some-clause-ok
returns-in-Some-clause-ok g c = stored_live c.args.self.now _ c.args.address c.args.n c.args.v c.exchange_live.ensures.memory (c.in-Some.ensures.live.0 refl) c.in-Some.ensures.new

pub returns-in-Some-clause-places : goal.returns-in-Some-clause-places
returns-in-Some-clause-places g c = exchange_places c.args.self.now _ c.args.address c.args.n c.args.v c.in-Some.old
    (has_live c.args.self.now c.args.address c.args.n c.exchange_live.ensures.memory (c.in-Some.ensures.live.0 refl)) c.in-Some.ensures.new c.in-Some.ensures.old

pub returns-in-Some-clause-undo : goal.returns-in-Some-clause-undo
returns-in-Some-clause-undo g c = exchange_undo c.args.self.now _ c.args.address c.args.n c.args.v c.in-Some.old
    (has_live c.args.self.now c.args.address c.args.n c.exchange_live.ensures.memory (c.in-Some.ensures.live.0 refl)) c.in-Some.ensures.new c.in-Some.ensures.old

pub returns-in-None-clause-dead : goal.returns-in-None-clause-dead
returns-in-None-clause-dead g c = stored_dead c.args.self.now c.args.address c.args.n c.args.v c.exchange_live.ensures.memory c.requires c.in-None.ensures.live.1
