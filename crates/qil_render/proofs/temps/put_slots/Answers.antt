-- Answers to the goals of `put_slots`.
use Rattle.std.proofs.Common.{◌+◌, ◌∙◌, drop, get_or, None, rules}
use Rattle.qil_code.specs.Numbered.{names_of}
use Rattle.qil_code.specs.Slots.{name_at}
use Rattle.qil_render.specs.Texts.{value_line}
use Rattle.qil_render.specs.Slots.{slot_lines}
use Rattle.qil_render.proofs.Reported.{reported_as, reported_stop, reported_more}
use Rattle.qil_render.proofs.SlotValues.{slot_lines_step}
use Rattle.qil_render.proofs.temps.put_slots.Goals as goal

pub returns-in_err-put_value : goal.returns-in_err-put_value
returns-in_err-put_value g c =
    let ns = names_of c.args.code.now c.args.frame.now.func in
    let vs = c.args.frame.now.slots in
    let i = c.loop-index.index in
    record {
      text = reported_stop _ (value_line (name_at ns i) (get_or vs i None)) (slot_lines (drop (i + 1) ns) (drop (i + 1) vs)) _ _ _
          (reported_as _ _ _ _ _ (slot_lines_step ns vs i None c.requires.slots (rw c.slots-slots.ensures.value at c.loop-index-test.true)) c.loop-index.invariant.text)
          _ _ c.from_residual.ensures.1 c.in_err-put_value.field-0.0 (rw (c.temp_name.ensures, c.func.ensures, c.slots-slots.ensures.value) at c.in_err-put_value.ensures.text);
      counted = search rules;
      device = search rules;
    }

pub loop-index-preserved : goal.loop-index-preserved
loop-index-preserved g c =
    let ns = names_of c.args.code.now c.args.frame.now.func in
    let vs = c.args.frame.now.slots in
    let i = c.loop-index.index in
    record {
      text = reported_more _ (value_line (name_at ns i) (get_or vs i None)) (slot_lines (drop (i + 1) ns) (drop (i + 1) vs)) _ _ _
          (reported_as _ _ _ _ _ (slot_lines_step ns vs i None c.requires.slots (rw c.slots-slots.ensures.value at c.loop-index-test.true)) c.loop-index.invariant.text)
          (rw (c.temp_name.ensures, c.func.ensures, c.slots-slots.ensures.value) at c.in_ok-put_value.ensures.text);
      counted = c.in_ok-put_value.ensures.counted ∙ c.loop-index.invariant.counted;
      device = c.put_value.ensures.device ∙ c.loop-index.invariant.device;
    }
