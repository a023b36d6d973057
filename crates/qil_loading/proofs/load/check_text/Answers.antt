-- Answers to the goals of `check_text`.
use Rattle.std.proofs.Common.{sym, ◌∙◌, subst}
use Rattle.qil_tree.specs.declared.tree.Program.{Program}
use Rattle.qil_parser.specs.Token.{seen}
use Rattle.qil_parser.specs.Programs.{Spells}
use Rattle.qil_loading.proofs.LoadLemmas.{short_text, parse_refused, parse_accepts, check_refused, check_accepts, none_refused, same_program, err_from, err_match}
use Rattle.qil_loading.proofs.load.check_text.Goals as goal

pub returns-in_err-program-clause-refused : goal.returns-in_err-program-clause-refused
returns-in_err-program-clause-refused g c =
    let lexed = c.in_ok-tokens.ensures in
    let text = c.args.text.now in
    err_from c.from_residual-in_err-program.result _ _ c.from_residual-in_err-program.ensures.1
    (λ load is. parse_refused g.row.A.Denot text c.in_ok-tokens.tokens.items c.in_err-program.field-0.0 load (short_text text lexed.only_fault) lexed.cut
    (rw c.deref.ensures.value at c.in_err-program.ensures.fault) is)

pub returns-in_err-program-clause-only_accepted : goal.returns-in_err-program-clause-only_accepted
returns-in_err-program-clause-only_accepted g c = λ verdict accepts.
    err_match c.from_residual-in_err-program.result _ _ _ c.from_residual-in_err-program.ensures.1
    (λ load is. parse_accepts c.args.text.now c.in_ok-tokens.tokens.items c.in_err-program.field-0.0 load verdict accepts c.in_ok-tokens.ensures.only_cut
    (rw c.deref.ensures.value at c.in_err-program.ensures.only_spelled) is)

pub returns-in-Ok-clause-accepted : goal.returns-in-Ok-clause-accepted
returns-in-Ok-clause-accepted g c =
    let lexed = c.in_ok-tokens.ensures in
    let text = c.args.text.now in
    let ts = c.in_ok-tokens.tokens.items in
    record {
      of_text = record {
        tokens = ts;
        short = short_text text lexed.only_fault;
        cut = lexed.cut;
        spelled = subst (λ (p : Program g.row.A.Denot). Spells (seen ts) p) (sym c.in-Ok.ensures.same) (rw c.deref.ensures.value at c.in_ok-program.ensures.spelled.0);
      };
      well_formed = c.in-Ok.ensures.kept.0;
      has_form = c.in-Ok.ensures.kept.1;
    }

pub returns-in-Ok-clause-only_refused : goal.returns-in-Ok-clause-only_refused
returns-in-Ok-clause-only_refused g c = λ refusal refuses.
    absurd (none_refused g.row.A.Denot c.args.text.now c.in_ok-tokens.tokens.items c.in_ok-program.program refusal refuses
    c.in_ok-tokens.ensures.only_fault c.in_ok-tokens.ensures.only_cut
    (rw c.deref.ensures.value at c.in_ok-program.ensures.only_fault) (rw c.deref.ensures.value at c.in_ok-program.ensures.only_spelled) c.in-Ok.ensures.only_broken)

pub returns-clause-refused : goal.returns-clause-refused
returns-clause-refused g c =
    let lexed = c.in_ok-tokens.ensures in
    let text = c.args.text.now in
    check_refused text c.in_ok-program.program c.in-Err.refused.1 c.from.result
    (record { tokens = c.in_ok-tokens.tokens.items; short = short_text text lexed.only_fault; cut = lexed.cut; spelled = rw c.deref.ensures.value at c.in_ok-program.ensures.spelled.0 })
    c.in-Err.ensures.refused c.from.ensures

pub returns-clause-only_accepted : goal.returns-clause-only_accepted
returns-clause-only_accepted g c = λ verdict accepts.
    check_accepts c.args.text.now c.in_ok-tokens.tokens.items c.in_ok-program.program c.in-Err.refused.1 c.from.result verdict accepts
    c.in_ok-tokens.ensures.only_cut (rw c.deref.ensures.value at c.in_ok-program.ensures.only_spelled) c.in-Err.ensures.only_kept c.from.ensures

pub returns-in-Ok-clause-only_accepted : goal.returns-in-Ok-clause-only_accepted
returns-in-Ok-clause-only_accepted g c = λ verdict accepts.
    c.in-Ok.ensures.same ∙ same_program c.args.text.now c.in_ok-tokens.tokens.items c.in_ok-program.program verdict accepts
    c.in_ok-tokens.ensures.only_cut (rw c.deref.ensures.value at c.in_ok-program.ensures.only_spelled)
