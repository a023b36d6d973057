-- By hand, as a search takes ten seconds to find them: what a jump made is kept, and what holds of it holds then.
use Rattle.std.proofs.Common.{◌≡◌, ◌∙◌, ap, sym, subst, length, Ok, OnOk, IfErr, refl}
use Rattle.qil_state.specs.State.{state_of, head_names}
use Rattle.qil_state.specs.Stepping.{left_whole}
use Rattle.qil_machine.specs.Results.{Explains}
use Rattle.qil_machine.proofs.Keeping.{kept_does, kept_made, kept_weight, kept_fault, kept_error, kept_same}
use Rattle.qil_machine.proofs.Jumps.{may_return, jmp_is, hlt_is, several}
use Rattle.qil_machine.proofs.machine.Machine.leave.Goals as goal

pub take_edge-requires-clause-here : goal.take_edge-requires-clause-here
take_edge-requires-clause-here g c = c.requires.here

pub take_edge-requires-clause-end : goal.take_edge-requires-clause-end
take_edge-requires-clause-end g c = c.requires.end

pub take_edge-requires-clause-edge : goal.take_edge-requires-clause-edge
take_edge-requires-clause-edge g c = rw c.in-Jmp.is refl

pub branch-self-requires-clause-here : goal.branch-self-requires-clause-here
branch-self-requires-clause-here g c = c.requires.here

pub branch-self-requires-clause-end : goal.branch-self-requires-clause-end
branch-self-requires-clause-end g c = c.requires.end

pub branch-self-requires-clause-jump : goal.branch-self-requires-clause-jump
branch-self-requires-clause-jump g c = c.in-Jnz.is

pub give_back-requires-clause-source : goal.give_back-requires-clause-source
give_back-requires-clause-source g c = may_return _ c.args.self.now c.args.block.now c.args.index c.in-Ret.source c.self.view_is c.self.invariant c.requires.here c.in-Ret.is

pub returns-in-Jmp-clause-does : goal.returns-in-Jmp-clause-does
returns-in-Jmp-clause-does g c =
    kept_does _ c.take_edge.result c.keep_made.result _ c.keep_made.ensures.kept
    (subst (λ o. OnOk c.take_edge.result (o ≡ Ok (state_of c.take_edge.new.self)))
    (sym (ap (left_whole c.args.self.now) c.in-Jmp.is ∙ jmp_is _ c.args.self.now c.innermost.result.now c.in-Jmp.edge c.self.view_is c.self.invariant c.innermost.ensures))
    c.take_edge.ensures.does)

pub returns-in-Jmp-clause-made : goal.returns-in-Jmp-clause-made
returns-in-Jmp-clause-made g c = kept_made _ _ c.take_edge.result c.keep_made.result _ c.keep_made.ensures.kept c.take_edge.ensures.made

pub returns-in-Jmp-clause-weighs : goal.returns-in-Jmp-clause-weighs
returns-in-Jmp-clause-weighs g c = rw c.in-Jmp.is (kept_weight _ c.take_edge.result c.keep_made.result _ c.keep_made.ensures.kept c.take_edge.ensures.weighs)

pub returns-in-Jmp-clause-fault : goal.returns-in-Jmp-clause-fault
returns-in-Jmp-clause-fault g c =
    kept_fault _ c.take_edge.result c.keep_made.result _ c.keep_made.ensures.kept
    (subst (λ o. IfErr c.take_edge.result (Explains (head_names c.args.self.now.program c.args.self.now.frames) o))
    (sym (ap (left_whole c.args.self.now) c.in-Jmp.is ∙ jmp_is _ c.args.self.now c.innermost.result.now c.in-Jmp.edge c.self.view_is c.self.invariant c.innermost.ensures))
    c.take_edge.ensures.fault)

pub returns-in-Jmp-clause-memory : goal.returns-in-Jmp-clause-memory
returns-in-Jmp-clause-memory g c =
    λ is. rw c.in-Jmp.is (several (length c.in-Jmp.edge.moves) _ c.take_edge.ensures.few (kept_error _ c.take_edge.result c.keep_made.result _ c.keep_made.ensures.kept is))

pub returns-in-Jmp-clause-err : goal.returns-in-Jmp-clause-err
returns-in-Jmp-clause-err g c = kept_same _ c.take_edge.result c.keep_made.result _ c.keep_made.ensures.kept c.take_edge.ensures.err

pub returns-in-Jmp-clause-none : goal.returns-in-Jmp-clause-none
returns-in-Jmp-clause-none g c = c.keep_made.ensures.none

pub returns-in-Jnz-clause-does : goal.returns-in-Jnz-clause-does
returns-in-Jnz-clause-does g c = kept_does _ c.branch-self.result c.keep_made-in-Jnz.result _ c.keep_made-in-Jnz.ensures.kept c.branch-self.ensures.does

pub returns-in-Jnz-clause-made : goal.returns-in-Jnz-clause-made
returns-in-Jnz-clause-made g c = kept_made _ _ c.branch-self.result c.keep_made-in-Jnz.result _ c.keep_made-in-Jnz.ensures.kept c.branch-self.ensures.made

pub returns-in-Jnz-clause-weighs : goal.returns-in-Jnz-clause-weighs
returns-in-Jnz-clause-weighs g c = rw c.in-Jnz.is (kept_weight _ c.branch-self.result c.keep_made-in-Jnz.result _ c.keep_made-in-Jnz.ensures.kept c.branch-self.ensures.weighs)

pub returns-in-Jnz-clause-fault : goal.returns-in-Jnz-clause-fault
returns-in-Jnz-clause-fault g c = kept_fault _ c.branch-self.result c.keep_made-in-Jnz.result _ c.keep_made-in-Jnz.ensures.kept c.branch-self.ensures.fault

pub returns-in-Jnz-clause-memory : goal.returns-in-Jnz-clause-memory
returns-in-Jnz-clause-memory g c =
    λ is. rw c.in-Jnz.is (c.branch-self.ensures.memory (kept_error _ c.branch-self.result c.keep_made-in-Jnz.result _ c.keep_made-in-Jnz.ensures.kept is))

pub returns-in-Jnz-clause-err : goal.returns-in-Jnz-clause-err
returns-in-Jnz-clause-err g c = kept_same _ c.branch-self.result c.keep_made-in-Jnz.result _ c.keep_made-in-Jnz.ensures.kept c.branch-self.ensures.err

pub returns-in-Jnz-clause-none : goal.returns-in-Jnz-clause-none
returns-in-Jnz-clause-none g c = c.keep_made-in-Jnz.ensures.none

pub returns-in-Ret-clause-does : goal.returns-in-Ret-clause-does
returns-in-Ret-clause-does g c = rw c.in-Ret.is (kept_does _ c.give_back.result c.keep_made-in-Ret.result _ c.keep_made-in-Ret.ensures.kept c.give_back.ensures.does)

pub returns-in-Ret-clause-made : goal.returns-in-Ret-clause-made
returns-in-Ret-clause-made g c = kept_made _ _ c.give_back.result c.keep_made-in-Ret.result _ c.keep_made-in-Ret.ensures.kept c.give_back.ensures.made

pub returns-in-Ret-clause-weighs : goal.returns-in-Ret-clause-weighs
returns-in-Ret-clause-weighs g c = rw c.in-Ret.is (kept_weight _ c.give_back.result c.keep_made-in-Ret.result _ c.keep_made-in-Ret.ensures.kept c.give_back.ensures.weighs)

pub returns-in-Ret-clause-fault : goal.returns-in-Ret-clause-fault
returns-in-Ret-clause-fault g c = rw c.in-Ret.is (kept_fault _ c.give_back.result c.keep_made-in-Ret.result _ c.keep_made-in-Ret.ensures.kept c.give_back.ensures.fault)

pub returns-in-Ret-clause-memory : goal.returns-in-Ret-clause-memory
returns-in-Ret-clause-memory g c = λ is. absurd (c.give_back.ensures.memory (kept_error _ c.give_back.result c.keep_made-in-Ret.result _ c.keep_made-in-Ret.ensures.kept is))

pub returns-in-Ret-clause-err : goal.returns-in-Ret-clause-err
returns-in-Ret-clause-err g c = kept_same _ c.give_back.result c.keep_made-in-Ret.result _ c.keep_made-in-Ret.ensures.kept c.give_back.ensures.err

pub returns-in-Ret-clause-none : goal.returns-in-Ret-clause-none
returns-in-Ret-clause-none g c = c.keep_made-in-Ret.ensures.none

pub returns-in-Hlt-clause-fault : goal.returns-in-Hlt-clause-fault
returns-in-Hlt-clause-fault g c = ap (left_whole c.args.self.now) c.in-Hlt.is ∙ hlt_is _ c.args.self.now c.innermost.result.now c.self.view_is c.self.invariant c.innermost.ensures

pub returns-in-Hlt-clause-err : goal.returns-in-Hlt-clause-err
returns-in-Hlt-clause-err g c = refl

pub returns-in-Hlt-clause-none : goal.returns-in-Hlt-clause-none
returns-in-Hlt-clause-none g c = refl
