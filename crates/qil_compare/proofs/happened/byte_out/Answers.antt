-- The byte is the first of those that weren't told.
use Rattle.std.proofs.Common.{ap, subst, drop, length, List, ℕ, ◌≤◌, ◌<◌, get_or}
use Rattle.qil_state.specs.State.{state_of}
use Rattle.qil_compare.proofs.Happening.{is_off, is_on, unasked_told, none_told, one_told}
use Rattle.qil_compare.proofs.happened.byte_out.Goals as goal

pub returns-then-not-kinds : goal.returns-then-not-kinds
returns-then-not-kinds g c = unasked_told (g.M.Readers.whole c.args.machine.now).program c.args.kinds (drop c.args.told (g.M.Readers.whole c.args.machine.now).output) (is_off c.args.kinds.output c.if-not-kinds.true)

pub returns-then-told-output : goal.returns-then-told-output
returns-then-told-output g c = none_told c.args.kinds c.args.told (g.M.Readers.whole c.args.machine.now).output (subst (λ (out : List ℕ). length out ≤ c.args.told) c.output-output.ensures c.if-told-output.true)

pub returns : goal.returns
returns g c =
    one_told (g.M.Readers.whole c.args.machine.now).program c.args.kinds c.args.told (state_of (g.M.Readers.whole c.args.machine.now)) _ (is_on c.args.kinds.output c.if-not-kinds.false)
    (subst (λ (out : List ℕ). c.args.told < length out) c.output-output.ensures c.if-told-output.false) (ap (λ (out : List ℕ). get_or out c.args.told 0) c.output-output.ensures)
