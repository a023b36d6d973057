-- The bytes that are live are those that are read.
use Rattle.std.proofs.Common.{refl, ◌∙◌, ap, sym, Some, option_map}
use Rattle.qil_layout.specs.Layout.{low_bytes}
use Rattle.qil_memory.specs.Bytes.{number}
use Rattle.qil_memory.proofs.Calling.{some_width}
use Rattle.qil_memory.proofs.LiveBytes.{read-live, read-dead}
use Rattle.qil_memory.proofs.memory.Memory.number_at.Goals as goal

pub returns-in-Some-clause-number : goal.returns-in-Some-clause-number
returns-in-Some-clause-number g c =
    ap Some (c.spelled.ensures.number ∙ ap number c.in-Some.ensures.bytes)
    ∙ sym (ap (option_map number) (read-live c.args.self.now c.args.address c.args.n c.live_bytes.ensures.memory (c.in-Some.ensures.live.0 refl)))

pub returns-in-Some-clause-bytes : goal.returns-in-Some-clause-bytes
returns-in-Some-clause-bytes g c =
    ap (λ n. Some (low_bytes n c.spelled.result)) (sym c.in-Some.ensures.count)
    ∙ ap Some (c.spelled.ensures.bytes ∙ c.in-Some.ensures.bytes)
    ∙ sym (read-live c.args.self.now c.args.address c.args.n c.live_bytes.ensures.memory (c.in-Some.ensures.live.0 refl))

pub returns-in-None-clause-number : goal.returns-in-None-clause-number
returns-in-None-clause-number g c =
    sym (ap (option_map number) (read-dead c.args.self.now c.args.address c.args.n c.live_bytes.ensures.memory (some_width c.args.n c.requires) (λ l. let e = c.in-None.ensures.live.1 l in absurd cc)))

pub returns-in-None-clause-bytes : goal.returns-in-None-clause-bytes
returns-in-None-clause-bytes g c =
    sym (read-dead c.args.self.now c.args.address c.args.n c.live_bytes.ensures.memory (some_width c.args.n c.requires) (λ l. let e = c.in-None.ensures.live.1 l in absurd cc))
