-- No more calls are open than so many, or more.
use Rattle.std.proofs.Common.{◌≡◌, ◌∙◌, ap, ◌≤◌, ◌<◌, length, arith}
use Rattle.std.proofs.lemmas.Bool.Decides.{nat_tests}
use Rattle.qil_state.specs.State.{Whole, state_of}
use Rattle.qil_stops.proofs.Walking.{as_many}
use Rattle.qil_checkpoints.proofs.AtDepths.{shallow-told, deep-told}
use Rattle.qil_checkpoints.proofs.shallow.shallow_now.Goals as goal

pub returns-then-depth-most : goal.returns-then-depth-most
returns-then-depth-most g c =
    let w = g.M.HasCopies.present c.args.machine.now in
    let many : c.depth.result ≡ length (state_of w).frames = c.depth.ensures ∙ ap (λ (x : Whole g.row.A.Denot). length x.frames) c.is_read.ensures ∙ as_many w.program w.frames in
    let few : length (state_of w).frames ≤ c.args.most = grind (arith, nat_tests, many, c.if-depth-most.true) in
    shallow-told c.args.most (length (state_of w).frames) few

pub returns-else-depth-most : goal.returns-else-depth-most
returns-else-depth-most g c =
    let w = g.M.HasCopies.present c.args.machine.now in
    let many : c.depth.result ≡ length (state_of w).frames = c.depth.ensures ∙ ap (λ (x : Whole g.row.A.Denot). length x.frames) c.is_read.ensures ∙ as_many w.program w.frames in
    let deep : c.args.most < length (state_of w).frames = grind (arith, nat_tests, many, c.if-depth-most.false) in
    deep-told c.args.most (length (state_of w).frames) deep
