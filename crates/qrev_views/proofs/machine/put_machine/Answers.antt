-- Answers to the goals of `put_machine`.
use Rattle.std.proofs.Common.{rules, arith, ℕ, List, [], length, ◌<◌, Some, ◌≡◌}
use Rattle.std.specs.Prelude.{get_or, slice_get}
use Rattle.std.proofs.lemmas.Option.{slice_get-get_or}
use Rattle.qil_state.specs.State.{state_of}
use Rattle.qrev_views.specs.Variables.{fixed_tokens, machine_rows}
use Rattle.qrev_views.proofs.Pages.{page_more, page_all}
use Rattle.qrev_views.proofs.machine.put_machine.Goals as goal

pub loop-number-preserved : goal.loop-number-preserved
loop-number-preserved g c =
    let i = c.loop-number.number in
    let rows : List (List ℕ × List ℕ) = machine_rows c.args.position c.args.oldest (state_of (g.M.Readers.whole c.args.machine.now)) in
    let row : List ℕ × List ℕ = get_or rows i ([], []) in
    let here : slice_get rows i ≡ Some row = slice_get-get_or rows i ([], []) (omega (arith, c.loop-number-test.true, c.of-first.ensures.after)) in
    record {
      begun = search rules;
      within = search rules;
      added = page_more fixed_tokens rows c.of-first.result.0 i row _ _ _ c.loop-number.invariant.begun here c.loop-number.invariant.added (c.in_ok-list.ensures row here);
    }

pub returns : goal.returns
returns g c = page_all fixed_tokens (machine_rows c.args.position c.args.oldest (state_of (g.M.Readers.whole c.args.machine.now))) c.args.page c.of-first.result.0 c.of-first.result.1 c.loop-number.number _ _
    c.of-first.ensures.first c.of-first.ensures.after c.loop-number-test.false c.loop-number.invariant.within c.loop-number.invariant.added
