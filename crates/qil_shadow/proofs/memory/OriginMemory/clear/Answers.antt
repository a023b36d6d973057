-- By the words of the stack.
use Rattle.qil_shadow.proofs.MemoryLemmas.{spot_stack}
use Rattle.qil_shadow.proofs.ClearLemmas.{clear_stack}
use Rattle.qil_shadow.proofs.memory.OriginMemory.clear.Goals as goal

pub returns-in-Some-Stack : goal.returns-in-Some-Stack
returns-in-Some-Stack g c low high = clear_stack (record { data_words = c.self.inside.data_origins; stack_words = c.self.inside.stack_origins }) _ _ _ _ _ c.self.view_is (spot_stack _ _ c.in-Some-Stack.at _ c.in-Some-Stack.field-0-is c.in-Some-Stack.ensures.spot) c.clear.ensures.kept
