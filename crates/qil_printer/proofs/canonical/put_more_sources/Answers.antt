-- Answers to the goals of `put_more_sources`.
use Rattle.std.proofs.Common.{◌∙◌, refl, rules}
use Rattle.qil_streams.proofs.DeviceLemmas.{Appends-nil}
use Rattle.qil_streams.proofs.FragmentLemmas.{put_all}
use Rattle.qil_printer.specs.Fragments.{more_source_text}
use Rattle.qil_printer.proofs.CanonicalLemmas.{item_more, item_stop}
use Rattle.qil_printer.proofs.canonical.put_more_sources.Goals as goal

pub loop-source-init : goal.loop-source-init
loop-source-init g c = record { text = Appends-nil _; counted = refl; device = refl }

pub loop-source-preserved : goal.loop-source-preserved
loop-source-preserved g c = record {
  text = item_more more_source_text c.args.sources.now c.loop-source.source-index c.source-item.result _ c.loop-source-test.true c.source-item.is refl _ _ _ c.loop-source.invariant.text c.in_ok-put_source.ensures.text;
  counted = c.in_ok-put_source.ensures.counted ∙ c.loop-source.invariant.counted;
  device = c.put_source.ensures.device ∙ c.loop-source.invariant.device;
}

pub returns-in_err-put_source : goal.returns-in_err-put_source
returns-in_err-put_source g c = record {
  text = item_stop more_source_text c.args.sources.now c.loop-source.source-index c.source-item.result _ c.loop-source-test.true c.source-item.is refl _ _ _ _ _ c.from_residual.ensures.1 c.in_err-put_source.field-0.0
      c.loop-source.invariant.text c.in_err-put_source.ensures.text;
  counted = search rules;
  device = search rules;
}

pub returns : goal.returns
returns g c = record {
  text = put_all more_source_text c.args.sources.now c.loop-source.source-index _ _ c.loop-source-test.false c.loop-source.invariant.text;
  counted = search rules;
  device = search rules;
}
