-- A function more, and all of them.
use Rattle.std.proofs.Common.{◌∙◌, refl, ap, length, [], ◌+◌}
use Rattle.qil_tree.specs.declared.tree.Program.{Program}
use Rattle.qil_counts.specs.Counts.{func_places}
use Rattle.qil_counts.proofs.Laid.{pieces_more, places_all}
use Rattle.qil_counts.proofs.laying.lay.Goals as goal

pub returns-then-number-count-clause-counts : goal.returns-then-number-count-clause-counts
returns-then-number-count-clause-counts g c =
    places_all c.args.code.now c.loop-number.number c.loop-number.rows.counts.items (c.if-number-count.true ∙ ap length (c.as_slice-count.ensures ∙ ap (λ (q : Program _). q.funcs) c.program.ensures)) c.loop-number.invariant.counts

pub loop-number-preserved : goal.loop-number-preserved
loop-number-preserved g c =
    let n = c.loop-number.number in
    let added = c.in_ok-add_func.ensures in
    record {
      next = added.next;
      numbered = added.numbered;
      counts = pieces_more (func_places c.args.code.now) n (n + 1) (func_places c.args.code.now n) [] c.loop-number.rows.counts.items _ refl refl c.loop-number.invariant.counts added.counts;
    }
