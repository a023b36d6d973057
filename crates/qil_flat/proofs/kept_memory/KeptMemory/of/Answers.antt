use Rattle.std.proofs.Common.{◌-◌, ap}
use Rattle.qil_memory.specs.Buffers.{stack_base}
use Rattle.qil_flat.proofs.SameBytes.{live_is}
use Rattle.qil_flat.proofs.kept_memory.KeptMemory.of.Goals as goal

pub returns-clause-live : goal.returns-clause-live
returns-clause-live g c =
    live_is c.args.memory.now c.data_length-count.result _ c.in_ok-data_bytes.data_bytes.items c.in_ok-stack_bytes.stack_bytes.items c.top.ensures.memory c.data_length-count.ensures (ap (λ n. n - stack_base) c.top.ensures.value)
    c.in_ok-data_bytes.ensures c.in_ok-stack_bytes.ensures
