-- Places by number are places by name.
use Rattle.std.proofs.Common.{refl}
use Rattle.qil_machine.proofs.Standing.{is_standing, stands_nowhere, lacks_place}
use Rattle.qil_machine.proofs.machine.Machine.is_at.Goals as goal

pub returns-in-Running-clause-named : goal.returns-in-Running-clause-named
returns-in-Running-clause-named g c = λ source target func block.
    is_standing _ c.args.self.now c.self.inside.code.now c.innermost.result.now c.args.func.index c.args.block.index c.args.index source target c.stands_at.result c.self.view_is c.self.invariant
    refl c.in-Running.is c.innermost.ensures c.names_are_distinct.ensures.finds c.names_are_distinct.ensures.numbers c.stands_at.ensures func block

pub returns-in-Running-clause-unknown : goal.returns-in-Running-clause-unknown
returns-in-Running-clause-unknown g c = λ none.
    lacks_place _ c.args.self.now c.innermost.result.now c.args.func.index c.args.block.index c.args.index c.stands_at.result c.self.view_is c.self.invariant c.innermost.ensures c.stands_at.ensures none

pub returns-in_default-clause-named : goal.returns-in_default-clause-named
returns-in_default-clause-named g c = λ source target func block.
    stands_nowhere _ c.args.self.now (record { func = source.name; label = target.label; index = c.args.index }) c.self.view_is c.in_default.not-Running
