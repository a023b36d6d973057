-- Answers to the goals of `put_all_quoted`.
use Rattle.std.proofs.Common.{◌+◌, ◌∙◌, drop, get_or, rules}
use Rattle.std.specs.List.{flat_map}
use Rattle.qil_render.specs.Texts.{quoted_byte}
use Rattle.qil_render.proofs.Reported.{reported_as, reported_stop, reported_more}
use Rattle.qil_render.proofs.ListLines.{flat_step}
use Rattle.qil_render.proofs.bytes.put_all_quoted.Goals as goal

pub returns-in_err-put_quoted : goal.returns-in_err-put_quoted
returns-in_err-put_quoted g c = record {
  text = reported_stop _ (quoted_byte (get_or c.args.bytes.now c.loop-byte.byte-index 0)) (flat_map quoted_byte (drop (c.loop-byte.byte-index + 1) c.args.bytes.now)) _ _ _
      (reported_as _ _ _ _ _ (flat_step quoted_byte c.args.bytes.now c.loop-byte.byte-index 0 c.loop-byte-test.true) c.loop-byte.invariant.text)
      _ _ c.from_residual.ensures.1 c.in_err-put_quoted.field-0.0 c.in_err-put_quoted.ensures.text;
  counted = search rules;
  device = search rules;
}

pub loop-byte-preserved : goal.loop-byte-preserved
loop-byte-preserved g c = record {
  text = reported_more _ (quoted_byte (get_or c.args.bytes.now c.loop-byte.byte-index 0)) (flat_map quoted_byte (drop (c.loop-byte.byte-index + 1) c.args.bytes.now)) _ _ _
      (reported_as _ _ _ _ _ (flat_step quoted_byte c.args.bytes.now c.loop-byte.byte-index 0 c.loop-byte-test.true) c.loop-byte.invariant.text)
      c.in_ok-put_quoted.ensures.text;
  counted = c.in_ok-put_quoted.ensures.counted ∙ c.loop-byte.invariant.counted;
  device = c.put_quoted.ensures.device ∙ c.loop-byte.invariant.device;
}
