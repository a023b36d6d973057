-- Answers to the goals of `put_insts`.
use Rattle.std.proofs.Common.{◌+◌, ◌∙◌, drop, rules}
use Rattle.qil_printer.specs.Canonical.{inst_text}
use Rattle.qil_render.specs.Listing.{row, inst_rows}
use Rattle.qil_render.proofs.Reported.{reported_as, reported_stop, reported_more}
use Rattle.qil_render.proofs.ListLines.{rows_at}
use Rattle.qil_render.proofs.listing.put_insts.Goals as goal

pub returns-in_err-put_inst : goal.returns-in_err-put_inst
returns-in_err-put_inst g c =
    let i = c.loop-index.index in
    record {
      text = reported_stop _ (row c.args.at i (inst_text c.index-insts-index.result)) (inst_rows c.args.at (i + 1) (drop (i + 1) c.args.insts.now)) _ _ _
          (reported_as _ _ _ _ _ (rows_at c.args.at c.args.insts.now i c.index-insts-index.result c.index-insts-index.is c.loop-index-test.true) c.loop-index.invariant.text)
          _ _ c.from_residual.ensures.1 c.in_err-put_inst.field-0.0 c.in_err-put_inst.ensures.text;
      counted = search rules;
      device = search rules;
    }

pub loop-index-preserved : goal.loop-index-preserved
loop-index-preserved g c =
    let i = c.loop-index.index in
    record {
      text = reported_more _ (row c.args.at i (inst_text c.index-insts-index.result)) (inst_rows c.args.at (i + 1) (drop (i + 1) c.args.insts.now)) _ _ _
          (reported_as _ _ _ _ _ (rows_at c.args.at c.args.insts.now i c.index-insts-index.result c.index-insts-index.is c.loop-index-test.true) c.loop-index.invariant.text)
          c.in_ok-put_inst.ensures.text;
      counted = c.in_ok-put_inst.ensures.counted ∙ c.loop-index.invariant.counted;
      device = c.put_inst.ensures.device ∙ c.loop-index.invariant.device;
    }
