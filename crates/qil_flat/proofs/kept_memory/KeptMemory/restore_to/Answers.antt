use Rattle.std.proofs.Common.{◌+◌, ◌∙◌, ap, sym, length}
use Rattle.qil_layout.specs.Layout.{data_base}
use Rattle.qil_memory.specs.Buffers.{Buffers, stack_base}
use Rattle.qil_memory.specs.Live.{live}
use Rattle.qil_memory.specs.Undo.{with_bytes}
use Rattle.qil_flat.proofs.SameBytes.{restored_live}
use Rattle.qil_flat.proofs.kept_memory.KeptMemory.restore_to.Goals as goal

pub returns-clause-live : goal.returns-clause-live
returns-clause-live g c =
    restored_live c.args.memory.now c.set_top.new.self c.write_from.new.memory c.write_from-2.new.memory c.self.inside.data_bytes.items c.self.inside.stack_bytes.items _
    (c.requires ∙ ap (λ (m : Buffers). length m.data_bytes) (sym c.self.view_is))
    (ap (λ n. stack_base + n) (c.len.ensures ∙ c.self.inside.stack_bytes.ok.0)) c.set_top.ensures.after
    (c.write_from.ensures.after ∙ ap (with_bytes c.set_top.new.self data_base) c.deref.ensures.value)
    (c.write_from-2.ensures.after ∙ ap (with_bytes c.write_from.new.memory stack_base) c.deref-2.ensures.value)
    ∙ ap live c.self.view_is
