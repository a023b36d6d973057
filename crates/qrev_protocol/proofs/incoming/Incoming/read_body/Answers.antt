-- One chunk more.
use Rattle.std.proofs.Common.{◌-◌, length, take, min, ap, ◌∙◌, arith, length-append, length-take}
use Rattle.qrev_protocol.proofs.Chunks.{body_more}
use Rattle.qrev_protocol.proofs.incoming.Incoming.read_body.Goals as goal

pub loop-self-preserved : goal.loop-self-preserved
loop-self-preserved g c =
    let i = c.loop-self.invariant in
    let moved = c.in_ok-move_into.ensures.ok in
    let filled = rw c.if-not-branch.false at c.in_ok-fill.ensures.filled in
    let pending = c.fill.new.self in
    let body = c.loop-self.body.items in
    let n = min (c.args.length - c.len-in-loop-self.result) (length pending) in
    let longer = ap length moved.0 ∙ length-append body (take n pending) in (
      c.in_ok-fill.ensures.counted ∙ i.0,
      omega (arith, longer, length-take n pending),
      body_more body c.move_into.new.body.items c.loop-self.self.pending pending c.move_into.new.self n _ (g.S.Source.remaining c.loop-self.source) (g.S.Source.remaining c.fill.new.source) i.2
          filled.1 moved.0 moved.1,
    )

pub loop-self-smaller : goal.loop-self-smaller
loop-self-smaller g c =
    let moved = c.in_ok-move_into.ensures.ok in
    let filled = rw c.if-not-branch.false at c.in_ok-fill.ensures.filled in
    let pending = c.fill.new.self in
    let body = c.loop-self.body.items in
    let n = min (c.args.length - c.len-in-loop-self.result) (length pending) in
    let longer = ap length moved.0 ∙ length-append body (take n pending) in
    let some = filled.0 in
    omega (arith, longer, length-take n pending)

pub returns-clause-body : goal.returns-clause-body
returns-clause-body g c = (omega (arith, c.loop-self-test.false, c.len.ensures, c.loop-self.invariant.1), c.loop-self.invariant.2)
