use Rattle.std.proofs.Common.{length, ◌∙◌, arith}
use Rattle.qil_flat.proofs.Cutting.{calls_bound, depth_is, frames_kept, slot_count_is}
use Rattle.qil_flat.proofs.kept.KeptCalls.size.Goals as goal

pub overflow_mul-result : goal.overflow_mul-result
overflow_mul-result g c = omega (arith, c.len.ensures, c.self.inside.callers.ok.0, c.self.invariant.few)

pub overflow_mul-result-2 : goal.overflow_mul-result-2
overflow_mul-result-2 g c =
    let k = c.self.inside in
    let end = calls_bound k.most_slots 1000 k.innermost k.callers.items (length k.slots.items) c.self.invariant.slots c.self.invariant.few in
    omega (arith, end, c.len-2.ensures, k.slots.ok.0, c.self.invariant.fits)

pub overflow_add-result : goal.overflow_add-result
overflow_add-result g c =
    let k = c.self.inside in
    let end = calls_bound k.most_slots 1000 k.innermost k.callers.items (length k.slots.items) c.self.invariant.slots c.self.invariant.few in
    omega (arith, end, c.len.ensures, k.callers.ok.0, c.len-2.ensures, k.slots.ok.0, c.self.invariant.few, c.self.invariant.fits)

pub returns : goal.returns
returns g c =
    let k = c.self.inside in
    let frames = frames_kept _ _ c.self.view_is in
    let calls = c.len.ensures ∙ k.callers.ok.0 ∙ depth_is k.innermost k.callers.items k.slots.items c.args.self.now.frames frames in
    let slots = c.len-2.ensures ∙ k.slots.ok.0 ∙ slot_count_is k.most_slots k.innermost k.callers.items k.slots.items c.args.self.now.frames c.self.invariant.slots frames in
    omega (arith, calls, slots)
