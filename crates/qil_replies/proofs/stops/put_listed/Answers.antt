-- Answers to the goals of `put_listed`.
use Rattle.std.proofs.Common.{◌∙◌, refl, rules}
use Rattle.qil_streams.proofs.DeviceLemmas.{Appends-nil}
use Rattle.qil_streams.proofs.FragmentLemmas.{put_more, put_stop, put_all}
use Rattle.qil_replies.specs.Texts.{listed_line}
use Rattle.qil_replies.proofs.stops.put_listed.Goals as goal

pub loop-stop-init : goal.loop-stop-init
loop-stop-init g c = record { text = Appends-nil _; counted = refl; device = refl }

pub loop-stop-preserved : goal.loop-stop-preserved
loop-stop-preserved g c = record {
  text = put_more (listed_line c.args.code.now) c.args.stops.now c.loop-stop.stop-index _ _ _ _ c.loop-stop-test.true c.loop-stop.invariant.text c.in_ok-put_stop.ensures.text;
  counted = c.in_ok-put_stop.ensures.counted ∙ c.loop-stop.invariant.counted;
  device = c.put_stop.ensures.device ∙ c.loop-stop.invariant.device;
}

pub returns-in_err-put_stop : goal.returns-in_err-put_stop
returns-in_err-put_stop g c = record {
  text = put_stop (listed_line c.args.code.now) c.args.stops.now c.loop-stop.stop-index _ _ _ _ c.loop-stop-test.true _ _ c.from_residual.ensures.1 c.in_err-put_stop.field-0.0
      c.loop-stop.invariant.text c.in_err-put_stop.ensures.text;
  counted = search rules;
  device = search rules;
}

pub returns : goal.returns
returns g c = record {
  text = put_all (listed_line c.args.code.now) c.args.stops.now c.loop-stop.stop-index _ _ c.loop-stop-test.false c.loop-stop.invariant.text;
  counted = search rules;
  device = search rules;
}
