-- The first value, and each other one behind a comma.
use Rattle.std.proofs.Common.{◌≡◌, ◌+◌, ◌-◌, ◌<◌, ◌≤◌, ◌∙◌, sym, drop, arith, rules}
use Rattle.std.specs.List.{flat_map}
use Rattle.qil_state.specs.State.{state_of}
use Rattle.qil_streams.proofs.TextLemmas.{HasPut-as, HasPut-stop}
use Rattle.qil_render.proofs.Reported.{reported_none, reported_as, reported_stop, reported_more, reported_all}
use Rattle.qil_compare.specs.Coded.{value_of}
use Rattle.qil_compare.specs.Events.{call_params}
use Rattle.qil_comparison.specs.Told.{value_text, further_value, values_text}
use Rattle.qil_comparison.proofs.Values.{no_values, values_first, values_step, values_end}
use Rattle.qil_comparison.proofs.event_text.put_params.Goals as goal

pub returns-in_err-put_seen : goal.returns-in_err-put_seen
returns-in_err-put_seen g c =
    let vs = call_params (g.M.Readers.whole c.args.machine.now).program (state_of (g.M.Readers.whole c.args.machine.now)).frames in
    HasPut-as (sym (values_first vs (value_of c.param_seen.result) c.param_seen.ensures))
    (HasPut-stop _ _ c.from_residual.ensures.1 _ _ _ (value_text (value_of c.param_seen.result)) (flat_map further_value (drop 1 vs)) c.in_err-put_seen.ensures)

pub loop-i-init : goal.loop-i-init
loop-i-init g c =
    let vs = call_params (g.M.Readers.whole c.args.machine.now).program (state_of (g.M.Readers.whole c.args.machine.now)).frames in
    record {
      text = reported_more _ (value_text (value_of c.param_seen.result)) (flat_map further_value (drop 1 vs)) _ _ _
          (reported_as _ _ _ _ _ (values_first vs (value_of c.param_seen.result) c.param_seen.ensures) (reported_none (values_text vs) _)) c.in_ok-put_seen.ensures.text;
      counted = c.in_ok-put_seen.ensures.counted;
      device = c.put_seen.ensures.device;
    }

pub returns-in_err-put_next_seen : goal.returns-in_err-put_next_seen
returns-in_err-put_next_seen g c =
    let vs = call_params (g.M.Readers.whole c.args.machine.now).program (state_of (g.M.Readers.whole c.args.machine.now)).frames in
    let i = c.loop-i.i in
    record {
      text = reported_stop _ (further_value (value_of c.param_seen-in-loop-i.result)) (flat_map further_value (drop (i + 1) vs)) _ _ _
          (reported_as _ _ _ _ _ (values_step vs i (value_of c.param_seen-in-loop-i.result) c.param_seen-in-loop-i.ensures) c.loop-i.invariant.text)
          _ _ c.from_residual-in_err-put_next_seen.ensures.1 c.in_err-put_next_seen.field-0.0 c.in_err-put_next_seen.ensures.text;
      counted = search rules;
      device = search rules;
    }

pub loop-i-preserved : goal.loop-i-preserved
loop-i-preserved g c =
    let vs = call_params (g.M.Readers.whole c.args.machine.now).program (state_of (g.M.Readers.whole c.args.machine.now)).frames in
    let i = c.loop-i.i in
    record {
      text = reported_more _ (further_value (value_of c.param_seen-in-loop-i.result)) (flat_map further_value (drop (i + 1) vs)) _ _ _
          (reported_as _ _ _ _ _ (values_step vs i (value_of c.param_seen-in-loop-i.result) c.param_seen-in-loop-i.ensures) c.loop-i.invariant.text) c.in_ok-put_next_seen.ensures.text;
      counted = c.in_ok-put_next_seen.ensures.counted ∙ c.loop-i.invariant.counted;
      device = c.put_next_seen.ensures.device ∙ c.loop-i.invariant.device;
    }

pub returns : goal.returns
returns g c =
    let vs = call_params (g.M.Readers.whole c.args.machine.now).program (state_of (g.M.Readers.whole c.args.machine.now)).frames in
    record {
      text = reported_all _ _ _ (reported_as _ _ _ _ _ (values_end vs c.param_count-count.result c.loop-i.i c.param_count-count.ensures c.loop-i-test.false) c.loop-i.invariant.text);
      counted = search rules;
      device = search rules;
    }
