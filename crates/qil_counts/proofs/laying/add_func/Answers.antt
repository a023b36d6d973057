-- A block more, and the end of them.
use Rattle.std.proofs.Common.{◌≡◌, ◌∙◌, refl, sym, ap, arith, length, length-append, ◌++◌, ◌∷◌, [], ◌+◌}
use Rattle.std.proofs.lemmas.List.{append-nil}
use Rattle.std.specs.Option.{option_copied}
use Rattle.qil_counts.proofs.Laid.{block_before, block_more, block_numbered, blocks_all, func_begins, func_numbered}
use Rattle.qil_counts.proofs.laying.add_func.Goals as goal

pub loop-number-init : goal.loop-number-init
loop-number-init g c =
    let old = c.args.rows.now in
    let begin : c.len-begin.result ≡ length old.firsts.items = omega arith in
    let more = c.in_ok-push.ensures.items ∙ ap (λ n. old.blocks.items ++ n ∷ []) begin in
    record {
      blocks = more;
      firsts = omega arith;
      numbered = func_numbered old.blocks.items _ old.firsts.items (length old.firsts.items) old.counts.items c.requires.numbered more;
      counts = sym (append-nil old.counts.items);
      within = omega arith;
    }

pub returns-in_default-clause-counts : goal.returns-in_default-clause-counts
returns-in_default-clause-counts g c =
    blocks_all c.args.code.now c.args.func.index c.loop-number.number c.args.rows.now.counts.items c.loop-number.rows.counts.items (sym c.source.ensures ∙ ap (λ o. option_copied o) c.in_default.is)
    c.loop-number.invariant.within c.loop-number.invariant.counts

pub loop-number-preserved : goal.loop-number-preserved
loop-number-preserved g c =
    let p = c.args.code.now in
    let f = c.args.func.index in
    let b = c.loop-number.number in
    let i = c.loop-number.invariant in
    let old = c.loop-number.rows in
    let added = c.in_ok-add_block.ensures in
    let block_is = sym c.source.ensures ∙ ap (λ o. option_copied o) c.in-Some.is in
    let grown = ap length added.firsts ∙ length-append old.firsts.items (length old.counts.items ∷ []) in
    record {
      blocks = added.blocks ∙ i.blocks;
      firsts = omega (arith, grown, i.firsts);
      numbered = block_numbered old.blocks.items _ old.firsts.items _ f b (length c.args.rows.now.firsts.items) _ old.counts.items _ i.numbered
          (func_begins c.args.rows.now.blocks.items old.blocks.items f (length c.args.rows.now.firsts.items) c.requires.next i.blocks) (sym i.firsts) added.blocks added.firsts added.counts;
      counts = block_more p f b (b + 1) (length c.as_slice.result.now) c.in-Some.found.now c.args.rows.now.counts.items old.counts.items _ block_is (ap length c.as_slice.ensures) refl i.counts added.counts;
      within = block_before p f b c.in-Some.found.now block_is;
    }
