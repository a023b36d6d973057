-- What a part of a step leaves as it was.
use Rattle.std.specs.Prelude.{◌≡◌}
use Rattle.qil_shadow.specs.declared.shadow.Shadow.{Shadow}

-- all but what was found, open bits, and the blocks of a heap
pub record Keeps {A : Type 0} (was now : Shadow A) : Type 0 where
  pub calls_are : now.calls ≡ was.calls
  pub memory_is : now.memory ≡ was.memory
  pub names_are : now.names ≡ was.names
  pub end_is : now.data_end ≡ was.data_end
  pub position_is : now.position ≡ was.position
  pub roles_are : now.heap.roles.items ≡ was.heap.roles.items

-- and what was found
pub record KeepsAll {A : Type 0} (was now : Shadow A) : Type 0 where
  pub rest : Keeps was now
  pub found_is : now.found.items ≡ was.found.items

-- all but memory too
pub record KeepsButMemory {A : Type 0} (was now : Shadow A) : Type 0 where
  pub calls_are : now.calls ≡ was.calls
  pub names_are : now.names ≡ was.names
  pub end_is : now.data_end ≡ was.data_end
  pub position_is : now.position ≡ was.position
  pub roles_are : now.heap.roles.items ≡ was.heap.roles.items

-- all but calls, memory, open bits, and the blocks of a heap
pub record KeepsRest {A : Type 0} (was now : Shadow A) : Type 0 where
  pub names_are : now.names ≡ was.names
  pub end_is : now.data_end ≡ was.data_end
  pub position_is : now.position ≡ was.position
  pub found_is : now.found.items ≡ was.found.items
  pub roles_are : now.heap.roles.items ≡ was.heap.roles.items

-- all but calls, objects, open bits, and the blocks of a heap
pub record KeepsButCalls {A : Type 0} (was now : Shadow A) : Type 0 where
  pub memory_is : now.memory ≡ was.memory
  pub names_are : now.names ≡ was.names
  pub end_is : now.data_end ≡ was.data_end
  pub position_is : now.position ≡ was.position
  pub found_is : now.found.items ≡ was.found.items
  pub roles_are : now.heap.roles.items ≡ was.heap.roles.items
