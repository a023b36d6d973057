-- Answers to the goals of `put_more_arguments`.
use Rattle.std.proofs.Common.{◌∙◌, refl, rules}
use Rattle.qil_streams.proofs.DeviceLemmas.{Appends-nil}
use Rattle.qil_streams.proofs.FragmentLemmas.{put_all}
use Rattle.qil_printer.specs.Fragments.{more_argument_text}
use Rattle.qil_printer.proofs.CanonicalLemmas.{item_more, item_stop}
use Rattle.qil_printer.proofs.canonical.put_more_arguments.Goals as goal

pub loop-argument-init : goal.loop-argument-init
loop-argument-init g c = record { text = Appends-nil _; counted = refl; device = refl }

pub loop-argument-preserved : goal.loop-argument-preserved
loop-argument-preserved g c = record {
  text = item_more more_argument_text c.args.arguments.now c.loop-argument.argument-index c.argument-item.result _ c.loop-argument-test.true c.argument-item.is refl _ _ _ c.loop-argument.invariant.text c.in_ok-put_argument.ensures.text;
  counted = c.in_ok-put_argument.ensures.counted ∙ c.loop-argument.invariant.counted;
  device = c.put_argument.ensures.device ∙ c.loop-argument.invariant.device;
}

pub returns-in_err-put_argument : goal.returns-in_err-put_argument
returns-in_err-put_argument g c = record {
  text = item_stop more_argument_text c.args.arguments.now c.loop-argument.argument-index c.argument-item.result _ c.loop-argument-test.true c.argument-item.is refl _ _ _ _ _ c.from_residual.ensures.1 c.in_err-put_argument.field-0.0
      c.loop-argument.invariant.text c.in_err-put_argument.ensures.text;
  counted = search rules;
  device = search rules;
}

pub returns : goal.returns
returns g c = record {
  text = put_all more_argument_text c.args.arguments.now c.loop-argument.argument-index _ _ c.loop-argument-test.false c.loop-argument.invariant.text;
  counted = search rules;
  device = search rules;
}
