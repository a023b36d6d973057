-- Answers to the goals of `put_list`.
use Rattle.std.proofs.Common.{◌∙◌, refl, rules}
use Rattle.qil_streams.proofs.DeviceLemmas.{Appends-nil}
use Rattle.qil_streams.proofs.FragmentLemmas.{put_more, put_stop, put_all}
use Rattle.qil_replies.specs.Texts.{span_line}
use Rattle.qil_replies.proofs.spans.put_list.Goals as goal

pub loop-one-init : goal.loop-one-init
loop-one-init g c = record { text = Appends-nil _; counted = refl; device = refl }

pub loop-one-preserved : goal.loop-one-preserved
loop-one-preserved g c = record {
  text = put_more (span_line c.args.code.now) c.args.list.now c.loop-one.one-index _ _ _ _ c.loop-one-test.true c.loop-one.invariant.text c.in_ok-put_span.ensures.text;
  counted = c.in_ok-put_span.ensures.counted ∙ c.loop-one.invariant.counted;
  device = c.put_span.ensures.device ∙ c.loop-one.invariant.device;
}

pub returns-in_err-put_span : goal.returns-in_err-put_span
returns-in_err-put_span g c = record {
  text = put_stop (span_line c.args.code.now) c.args.list.now c.loop-one.one-index _ _ _ _ c.loop-one-test.true _ _ c.from_residual.ensures.1 c.in_err-put_span.field-0.0
      c.loop-one.invariant.text c.in_err-put_span.ensures.text;
  counted = search rules;
  device = search rules;
}

pub returns : goal.returns
returns g c = record {
  text = put_all (span_line c.args.code.now) c.args.list.now c.loop-one.one-index _ _ c.loop-one-test.false c.loop-one.invariant.text;
  counted = search rules;
  device = search rules;
}
