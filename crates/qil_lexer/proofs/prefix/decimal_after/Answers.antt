-- Answers to the goals of `decimal_after`.
use Rattle.std.proofs.Common.{◌≡◌, ◌+◌, ◌*◌, ◌-◌, drop, get_or, sym, arith, ap, ◌∙◌}
use Rattle.std.proofs.lemmas.List.{drop_all}
use Rattle.qil_lexer.specs.Shape.{decimal_after}
use Rattle.qil_lexer.proofs.Tails.{decimal_at, decimal_step}
use Rattle.qil_lexer.proofs.prefix.decimal_after.Goals as goal

pub returns-in_err-checked_mul : goal.returns-in_err-checked_mul
returns-in_err-checked_mul c = rw c.from_residual.ensures (λ lt.
    let too_large = c.in_err-checked_mul.ensures in
    let at = decimal_at c.loop-d.value c.loop-d.d-index c.args.digits.now c.loop-d-test.true in
    too_large (omega (arith, at, c.loop-d.invariant.so_far)))

pub returns-in_err-value : goal.returns-in_err-value
returns-in_err-value c = rw c.from_residual-in_err-value.ensures (λ lt.
    let too_large = c.in_err-value.ensures in
    let at = decimal_at c.loop-d.value c.loop-d.d-index c.args.digits.now c.loop-d-test.true in
    too_large (omega (arith, at, c.loop-d.invariant.so_far, c.from.ensures, c.in_ok-checked_mul.ensures)))

pub loop-d-preserved : goal.loop-d-preserved
loop-d-preserved c =
    let next : c.in_ok-value.value ≡ c.loop-d.value * 10 + (get_or c.args.digits.now c.loop-d.d-index 0 - 48) = omega (arith, c.from.ensures, c.in_ok-checked_mul.ensures, c.in_ok-value.ensures) in
    record {
      fits = omega (arith, c.in_ok-value.ensures);
      so_far = rw next (sym (decimal_step c.loop-d.value c.loop-d.d-index c.args.digits.now c.loop-d-test.true) ∙ c.loop-d.invariant.so_far);
    }

pub returns : goal.returns
returns c =
    let e : decimal_after c.loop-d.value (drop c.loop-d.d-index c.args.digits.now) ≡ c.loop-d.value = ap (decimal_after c.loop-d.value) (drop_all c.loop-d.d-index c.args.digits.now (omega arith)) in
    let same : c.loop-d.value ≡ decimal_after c.args.start c.args.digits.now = sym e ∙ c.loop-d.invariant.so_far in
    (omega (arith, same, c.loop-d.invariant.fits), same)
