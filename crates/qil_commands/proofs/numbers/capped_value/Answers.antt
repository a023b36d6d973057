-- The goals of `capped_value` that the check leaves open.
use Rattle.std.proofs.Common.{◌≡◌, ◌+◌, ◌*◌, ◌-◌, ◌^◌, min, get_or, ◌∙◌, arith}
use Rattle.qil_commands.proofs.NumberLemmas.{value_after-step}
use Rattle.qil_commands.proofs.numbers.capped_value.Goals as goal

pub loop-digit-preserved : goal.loop-digit-preserved
loop-digit-preserved c =
    let next : c.min-value.result ≡ min (c.loop-digit.value * 10 + (get_or c.args.digits.now c.loop-digit.digit-index 0 - 48)) (2 ^ 64) = omega (arith, c.min-value.ensures, c.saturating_sub.ensures) in
    record {
      capped = omega (arith, c.min-value.ensures);
      so_far = rw next (value_after-step (2 ^ 64) c.loop-digit.value c.loop-digit.digit-index c.args.digits.now c.loop-digit-test.true ∙ c.loop-digit.invariant.so_far);
    }
