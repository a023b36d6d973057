-- What the map tells of a line.
use Rattle.std.proofs.Common.{arith, ap, ◌∙◌, Some, None}
use Rattle.qrev_map.proofs.Told.{source_read}
use Rattle.qrev_map.proofs.map.Map.source_of.Goals as goal

pub returns-in_err-span : goal.returns-in_err-span
returns-in_err-span g c = let now = c.args.self.now in
    rw c.from_residual.ensures (source_read now.text.items now.spans.items c.args.line None (omega (arith, c.if-line-eq0.false)) c.in_err-span.ensures)

pub returns : goal.returns
returns g c = let now = c.args.self.now in let span = c.in_ok-span.span in
    ap (λ p. Some (record { path = p; line = span.line })) c.path.ensures ∙ source_read now.text.items now.spans.items c.args.line (Some span) (omega (arith, c.if-line-eq0.false)) c.in_ok-span.ensures
