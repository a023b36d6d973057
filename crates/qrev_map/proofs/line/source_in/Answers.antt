-- What the last three fields tell.
use Rattle.std.proofs.Common.{◌≡◌, ◌∙◌, true, false, sym}
use Rattle.qrev_map.proofs.Fields.{unreadable, source_found}
use Rattle.qrev_map.proofs.line.source_in.Goals as goal

pub returns-then-not-are_readable-clause-malformed : goal.returns-then-not-are_readable-clause-malformed
returns-then-not-are_readable-clause-malformed c =
    unreadable c.args.bytes.now c.in-Some.path.now c.in-Some.after.now c.in-Some-cut.digits.now c.in-Some-cut.column.now c.in-Some.ensures.cut c.in-Some-cut.ensures.cut
    (λ readable. let never : false ≡ true = sym c.if-not-are_readable.true ∙ c.are_readable.ensures.1 readable in cc)

pub returns-clause-told : goal.returns-clause-told
returns-clause-told c =
    source_found c.args.bytes.now c.in-Some.path.now c.in-Some.after.now c.in-Some-cut.digits.now c.in-Some-cut.column.now c.place_in.result c.ok.result c.in-Some.ensures.cut c.in-Some-cut.ensures.cut
    (c.are_readable.ensures.0 c.if-not-are_readable.false) c.place_in.ensures.told c.place_in.ensures.malformed c.ok.ensures.value
