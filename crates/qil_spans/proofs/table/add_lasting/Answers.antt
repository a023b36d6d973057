-- One more was added.
use Rattle.std.proofs.Common.{◌+◌, ◌-◌, ◌≤◌, ◌∙◌, arith, length}
use Rattle.std.proofs.lemmas.Option.{slice_get-get_or}
use Rattle.qil_state.specs.State.{state_of}
use Rattle.qil_spans.proofs.Keeping.{lasting_more}
use Rattle.qil_spans.proofs.table.add_lasting.Goals as goal

pub loop-index-preserved : goal.loop-index-preserved
loop-index-preserved g c =
    let w = g.M.Readers.whole c.args.machine.now in
    let begins = c.args.begins.now in
    let i = c.loop-index.invariant in
    let added = c.add_last.ensures in
    record {
      items = lasting_more w.program (state_of w) (length (state_of w).frames - length begins) begins c.loop-index.index _ _ c.args.list.now.items c.loop-index.list.items _
          (slice_get-get_or begins c.loop-index.index _ (omega arith)) (omega (arith, c.depth_of.ensures)) i.items added.items;
      few = omega (arith, added.few, i.few);
      capacity = added.capacity ∙ i.capacity;
    }
