-- By the words of the data, or of the stack.
use Rattle.qil_shadow.proofs.MemoryLemmas.{spot_data, spot_stack}
use Rattle.qil_shadow.proofs.CopyLemmas.{get_data, get_stack}
use Rattle.qil_shadow.proofs.memory.OriginMemory.get.Goals as goal

pub returns-in-Some-Data : goal.returns-in-Some-Data
returns-in-Some-Data g c spot = get_data (record { data_words = c.self.inside.data_origins; stack_words = c.self.inside.stack_origins }) _ _ _ _ c.self.view_is (spot_data _ _ c.in-Some-Data.at _ c.in-Some-Data.field-0-is c.in-Some-Data.ensures.spot) c.get.ensures

pub returns-in-Some-Stack : goal.returns-in-Some-Stack
returns-in-Some-Stack g c spot = get_stack (record { data_words = c.self.inside.data_origins; stack_words = c.self.inside.stack_origins }) _ _ _ _ c.self.view_is (spot_stack _ _ c.in-Some-Stack.at _ c.in-Some-Stack.field-0-is c.in-Some-Stack.ensures.spot) c.get-in-Some-Stack.ensures
