-- With a bound or without one.
use Rattle.std.specs.Prelude.{None, Some, true, false}
use Rattle.qil_comparison.proofs.Reporting.{served_keeping, goes_named, served_named}
use Rattle.qil_comparison.proofs.sessions.serve_from.Goals as goal

pub returns-in-None-clause-served : goal.returns-in-None-clause-served
returns-in-None-clause-served g c = λ s starts.
    let r = c.args.request.now in
    served_keeping c.args.code.now.program None r.bound s c.args.moves r.limit c.serve_flat.result c.args.told _ _ _ _ c.in-None.is (c.serve_flat.ensures.served s starts)

pub serve_newest-requires-clause-goes : goal.serve_newest-requires-clause-goes
serve_newest-requires-clause-goes g c =
    let r = c.args.request.now in
    goes_named c.code-numbered.result.now c.args.code.now.program r.func.now r.args.now c.args.moves c.code-numbered.ensures.code c.requires.goes

pub returns-in-Some-clause-served : goal.returns-in-Some-clause-served
returns-in-Some-clause-served g c = λ s starts.
    let r = c.args.request.now in
    let bound = c.in-Some.bound in
    let p = c.args.code.now.program in
    served_keeping p (Some bound) r.bound s c.args.moves r.limit c.serve_newest.result c.args.told _ _ _ _ c.in-Some.is
    (served_named true c.code-numbered.result.now p r.func.now r.args.now (Some bound) c.args.moves r.limit c.serve_newest.result c.args.told _ _ _ _ c.code-numbered.ensures.code c.serve_newest.ensures.served s starts)
