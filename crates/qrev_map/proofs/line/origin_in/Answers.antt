-- What a line tells.
use Rattle.qrev_map.proofs.Fields.{alone_malformed, on_err, outer_malformed, source_malformed, with_source_told}
use Rattle.qrev_map.proofs.line.origin_in.Goals as goal

pub returns-in_default-cut-clause-malformed : goal.returns-in_default-cut-clause-malformed
returns-in_default-cut-clause-malformed c =
    alone_malformed c.args.line.now c.in-Some.path.now c.in-Some.after.now c.place_in.result c.in-Some.ensures.cut c.in_default-cut.ensures.whole c.place_in.ensures.malformed

pub returns-in_err-outer-clause-malformed : goal.returns-in_err-outer-clause-malformed
returns-in_err-outer-clause-malformed c =
    on_err c.from_residual.result _ (outer_malformed c.args.line.now c.in-Some.path.now c.in-Some.after.now c.in-Some-cut.digits.now c.in-Some-cut.source.now c.in-Some.ensures.cut c.in-Some-cut.ensures.cut c.in_err-outer.ensures.malformed)

pub returns-in_err-told-clause-malformed : goal.returns-in_err-told-clause-malformed
returns-in_err-told-clause-malformed c =
    on_err c.from_residual-in_err-told.result _ (source_malformed c.args.line.now c.in-Some.path.now c.in-Some.after.now c.in-Some-cut.digits.now c.in-Some-cut.source.now c.in-Some.ensures.cut c.in-Some-cut.ensures.cut c.in_err-told.ensures.malformed)

pub returns-in-Some-2-clause-told : goal.returns-in-Some-2-clause-told
returns-in-Some-2-clause-told c =
    with_source_told c.args.line.now c.in-Some.path.now c.in-Some.after.now c.in-Some-cut.digits.now c.in-Some-cut.source.now c.in_ok-outer.outer c.in-Some-2.told c.in-Some.ensures.cut c.in-Some-cut.ensures.cut c.in_ok-outer.ensures.told (rw c.in-Some-2.is at c.in_ok-told.ensures.told)
