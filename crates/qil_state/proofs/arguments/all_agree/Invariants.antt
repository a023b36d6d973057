use Rattle.std.proofs.Common.{◌≡◌, drop}
use Rattle.std.specs.Prelude.{map}
use Rattle.qil_semantics.specs.Calls.{agree_all}
use Rattle.qil_state.proofs.arguments.all_agree.Given as goal

-- those after agree
abbrev pub invariant-loop-i : goal.invariant-loop-i
invariant-loop-i l =
    agree_all (map (λ a. a.abi_type) (drop l.i l.args)) (map (λ q. q.1) (drop l.i l.params))
    ≡ agree_all (map (λ a. a.abi_type) l.args) (map (λ q. q.1) l.params)
