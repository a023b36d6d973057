-- The first bytes of the chunk go over.
use Rattle.std.proofs.Common.{◌≡◌, ◌++◌, ◌-◌, length, length-take, take, drop, min, ap, sym, ◌∙◌, arith}
use Rattle.qrev_protocol.proofs.Chunks.{moved}
use Rattle.qrev_protocol.proofs.pending.Pending.move_into.Goals as goal

pub returns-clause-ok : goal.returns-clause-ok
returns-clause-ok g c =
    let s = c.self.inside in
    let pending = c.args.self.now in
    let count : c.min-count.result ≡ min c.args.most (length pending) = c.min-count.ensures ∙ ap (λ k. min c.args.most k) c.len.ensures in
    let both = moved s.chunk pending s.start s.end c.min-count.result (sym c.self.view_is) (omega (arith, ap length c.self.view_is, length-take (s.end - s.start) (drop s.start s.chunk))) in (
      c.in_ok-extend_from_slice.ensures.items ∙ ap (λ v. c.args.body.now.items ++ v) (both.0 ∙ ap (λ k. take k pending) count),
      both.1 ∙ ap (λ k. drop k pending) count,
    )
