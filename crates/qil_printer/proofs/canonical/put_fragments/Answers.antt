-- Answers to the goals of `put_fragments`.
use Rattle.std.proofs.Common.{◌∙◌, refl, rules}
use Rattle.qil_streams.proofs.DeviceLemmas.{Appends-nil}
use Rattle.qil_streams.proofs.FragmentLemmas.{put_all}
use Rattle.qil_printer.specs.Fragments.{fragment_bytes}
use Rattle.qil_printer.proofs.CanonicalLemmas.{item_more, item_stop}
use Rattle.qil_printer.proofs.canonical.put_fragments.Goals as goal

pub loop-fragment-init : goal.loop-fragment-init
loop-fragment-init g c = record { text = Appends-nil _; counted = refl; device = refl }

pub loop-fragment-preserved : goal.loop-fragment-preserved
loop-fragment-preserved g c = record {
  text = item_more fragment_bytes c.args.fragments.now c.loop-fragment.fragment-index c.fragment-item.result _ c.loop-fragment-test.true c.fragment-item.is refl _ _ _ c.loop-fragment.invariant.text c.in_ok-put_fragment.ensures.text;
  counted = c.in_ok-put_fragment.ensures.counted ∙ c.loop-fragment.invariant.counted;
  device = c.put_fragment.ensures.device ∙ c.loop-fragment.invariant.device;
}

pub returns-in_err-put_fragment : goal.returns-in_err-put_fragment
returns-in_err-put_fragment g c = record {
  text = item_stop fragment_bytes c.args.fragments.now c.loop-fragment.fragment-index c.fragment-item.result _ c.loop-fragment-test.true c.fragment-item.is refl _ _ _ _ _ c.from_residual.ensures.1 c.in_err-put_fragment.field-0.0
      c.loop-fragment.invariant.text c.in_err-put_fragment.ensures.text;
  counted = search rules;
  device = search rules;
}

pub returns : goal.returns
returns g c = record {
  text = put_all fragment_bytes c.args.fragments.now c.loop-fragment.fragment-index _ _ c.loop-fragment-test.false c.loop-fragment.invariant.text;
  counted = search rules;
  device = search rules;
}
