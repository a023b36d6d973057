-- From the last byte on to the first.
use Rattle.std.proofs.Common.{◌≡◌, ◌+◌, ◌-◌, ◌∙◌, sym, ap, Some, arith}
use Rattle.qil_memory.specs.Live.{live}
use Rattle.qrev_views.proofs.ReadNumbers.{none-read, byte-read, room, at-most-eight, all-read, one-dead}
use Rattle.qrev_views.proofs.bytes.value_at.Goals as goal

pub loop-done-init : goal.loop-done-init
loop-done-init g c = record {
  within = omega arith;
  read = none-read (live (g.M.Readers.whole c.args.machine.now).memory) (c.args.address + (c.args.width - 0));
}

pub loop-done-preserved : goal.loop-done-preserved
loop-done-preserved g c =
    let i = c.loop-done.invariant in
    let m = live (g.M.Readers.whole c.args.machine.now).memory in
    let k = c.loop-done.done in
    let place : c.args.width - (k + 1) ≡ c.args.width - 1 - k = omega arith in
    record {
      within = omega (arith, c.loop-done-test.true);
      read = byte-read m (c.args.address + (c.args.width - (k + 1))) (c.args.address + (c.args.width - k)) k c.loop-done.value c.from.result (omega (arith, c.loop-done-test.true)) i.read
          (ap (λ n. m (c.args.address + n)) place ∙ sym c.byte_after.ensures ∙ c.in-Some.is ∙ ap Some (sym c.from.ensures)) (omega arith);
    }

pub overflow_mul-value : goal.overflow_mul-value
overflow_mul-value g c =
    let few = room c.loop-done.done c.loop-done.value (omega (arith, c.loop-done-test.true, at-most-eight c.args.width c.requires)) c.loop-done.invariant.read.few in
    omega (arith, few)

pub overflow_add-value : goal.overflow_add-value
overflow_add-value g c =
    let few = room c.loop-done.done c.loop-done.value (omega (arith, c.loop-done-test.true, at-most-eight c.args.width c.requires)) c.loop-done.invariant.read.few in
    omega (arith, few)

pub returns-in-None : goal.returns-in-None
returns-in-None g c =
    one-dead (live (g.M.Readers.whole c.args.machine.now).memory) c.args.address c.args.width (c.args.width - 1 - c.loop-done.done) (omega (arith, c.loop-done-test.true)) (sym c.byte_after.ensures ∙ c.in-None.is)

pub returns : goal.returns
returns g c =
    let i = c.loop-done.invariant in
    all-read (live (g.M.Readers.whole c.args.machine.now).memory) c.args.address (c.args.address + (c.args.width - c.loop-done.done)) c.args.width c.loop-done.done c.loop-done.value
    (omega (arith, i.within, c.loop-done-test.false)) (omega (arith, i.within, c.loop-done-test.false)) i.read
