-- From the innermost call outward, to the first of the function.
use Rattle.std.proofs.Common.{◌∙◌, arith, refl, sym}
use Rattle.qil_flat.specs.Shown.{active_call, slot_frame}
use Rattle.qil_flatmachine.specs.Seen.{place_in}
use Rattle.qil_flatmachine.proofs.Viewing.{all_left, as_many, call_now, found_innermost, func_placed, never_lost, passed_by, shown_now}
use Rattle.qil_flatmachine.proofs.machine.FlatMachine.innermost_of.Goals as goal

pub loop-left-init : goal.loop-left-init
loop-left-init g c = record {
  inside = omega (arith, c.depth-left.ensures.count, as_many _ _ _ _ _ _ c.self.view_is);
  so_far = all_left c.args.func.index c.depth-left.result c.args.self.now.whole.frames (c.depth-left.ensures.count ∙ sym (as_many _ _ _ _ _ _ c.self.view_is));
}

pub call_at-call-requires : goal.call_at-call-requires
call_at-call-requires g c = omega (arith, c.loop-left.invariant.inside, c.loop-left-test.true, as_many _ _ _ _ _ _ c.self.view_is)

pub unreachable-requires : goal.unreachable-requires
unreachable-requires g c =
    never_lost _ _ _ _ _ c.args.self.now c.call_at-call.result.ip c.self.view_is (call_now _ _ _ _ _ _ _ _ _ c.self.invariant c.self.view_is c.call_at-call.ensures).there c.in-None.ensures.place

pub returns-then-place-func : goal.returns-then-place-func
returns-then-place-func g c =
    found_innermost c.args.func.index c.loop-left.left _ c.args.self.now.whole.frames (slot_frame (place_in c.args.self.now.base.flat.places) (active_call c.call_at-call.result)) c.call_at-call.result.slots.now (omega (arith, c.loop-left-test.true))
    (shown_now _ _ _ _ _ c.args.self.now _ _ _ c.self.view_is c.call_at-call.ensures refl)
    (sym (func_placed _ _ _ _ _ c.args.self.now (active_call c.call_at-call.result) c.in-Some.place c.self.view_is c.in-Some.ensures.place) ∙ c.if-place-func.true) refl c.loop-left.invariant.so_far

pub loop-left-preserved : goal.loop-left-preserved
loop-left-preserved g c = record {
  inside = omega (arith, c.loop-left.invariant.inside);
  so_far = passed_by c.args.func.index c.loop-left.left _ c.args.self.now.whole.frames (slot_frame (place_in c.args.self.now.base.flat.places) (active_call c.call_at-call.result)) (omega (arith, c.loop-left-test.true))
      (shown_now _ _ _ _ _ c.args.self.now _ _ _ c.self.view_is c.call_at-call.ensures refl)
      (λ same. c.if-place-func.false (func_placed _ _ _ _ _ c.args.self.now (active_call c.call_at-call.result) c.in-Some.place c.self.view_is c.in-Some.ensures.place ∙ same)) c.loop-left.invariant.so_far;
}
