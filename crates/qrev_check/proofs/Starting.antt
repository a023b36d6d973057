-- Texts that start, and texts that are refused.
use Rattle.std.proofs.Common.{◌≡◌, ◌∙◌, ℕ, List, [], Bool, true, false, sym, ap, subst, refl, map}
use Rattle.std.specs.Prelude.{Option, Some, None, Result, Ok, Err, ◌==◌, length, if◌then◌else◌}
use Rattle.qil_tree.specs.declared.tree.Func.{Func}
use Rattle.qil_tree.specs.declared.tree.Program.{Program}
use Rattle.qil_rules.specs.Rules.{WellFormed}
use Rattle.qil_rules.specs.Verdict.{Verdict}
use Rattle.qil_layout.specs.Layout.{fault_of}
use Rattle.qil_layout_builder.specs.Answer.{IsFault}
use Rattle.qil_layout_builder.specs.declared.error.LayoutError.{LayoutError}
use Rattle.qil_layout_builder.specs.declared.error.LayoutError.TheVariants as layout
use Rattle.qil_streams.proofs.DeviceLemmas.{Appends-nil}
use Rattle.qil_symbols.specs.Numbers.{place_of}
use Rattle.qil_semantics.specs.State.{State}
use Rattle.qil_semantics.specs.Step.{func_named}
use Rattle.qil_semantics.specs.Start.{started, started_with, start_of}
use Rattle.qil_semantics.specs.declared.start.StartFault.{StartFault}
use Rattle.qil_semantics.specs.declared.start.StartFault.TheVariants as faults
use Rattle.qil_code.specs.Facts.{Finds}
use Rattle.qil_code.specs.Numbered.{func_at}
use Rattle.qil_code.specs.Reading.{func_names}
use Rattle.qil_state.specs.State.{Whole, state_of}
use Rattle.qil_machine.specs.Starting.{StartExplains}
use Rattle.qil_machine.specs.declared.error.StartError.{StartError}
use Rattle.qil_machine.specs.declared.error.StartError.TheVariants as errors
use Rattle.qil_machine.proofs.StartedState.{entry_found, entry_there}
use Rattle.qil_loading.specs.Load.{Accepts, Checks, Refuses, RefusesCheck}
use Rattle.qil_loading.specs.declared.refusal.Refusal.{Refusal}
use Rattle.qil_loading.specs.declared.refusal.Refusal.TheVariants as refusals
use Rattle.qil_shadow.specs.Shadow.{shadow_at_start}
use Rattle.qil_shadow.specs.Steps.{shadow_of}
use Rattle.qil_suspicions.specs.Run.{CheckedRun, IsAtStart}
use Rattle.qrev_check.specs.declared.report.Request.{Request}
use Rattle.qrev_check.specs.declared.report.Outcome.{Outcome}
use Rattle.qrev_check.specs.declared.report.Outcome.TheVariants as outcomes
use Rattle.qrev_check.specs.Report.{Setup, setup_of, Begins, Written, start_outcome, layout_outcome}

-- ---- refusals

pub refused : (A : Type 0) (s : Setup) (refusal : Refusal) (before : Option (List ℕ)) → Refuses A s.text s.entry s.args refusal → Written A outcomes.Refused s before before
refused A s refusal before h = ([], Appends-nil before, (refusal, h, refl))

pub short : (A : Type 0) (s : Setup) (before : Option (List ℕ)) → Written A outcomes.Memory s before before
short A s before = ([], Appends-nil before, refl)

pub check_refused : (A : Type 0) (s : Setup) (refusal : Refusal) → RefusesCheck A s.text refusal → Refuses A s.text s.entry s.args refusal
check_refused A s (refusals.Text code line) h = h
check_refused A s (refusals.Tokens code line) h = h
check_refused A s (refusals.Rule rule line) h = h
check_refused A s (refusals.Layout code line) h = absurd h
check_refused A s (refusals.Start fault) h = absurd h

pub unlaid : {A : Type 0} (s : Setup) (verdict : Verdict A) (p : Program A) (error : LayoutError) (result : Outcome) (before : Option (List ℕ)) → Checks s.text verdict → p ≡ verdict.program
    → IsFault (fault_of p) error → result ≡ layout_outcome error → Written A result s before before
unlaid {A} s verdict p (layout.Refused code line) result before checks same why e =
    subst (λ (o : Outcome). Written A o s before before) (sym e)
    (refused A s (refusals.Layout code line) before (verdict, checks, ap (λ (x : Program A). fault_of x) (sym same) ∙ why))
unlaid {A} s verdict p layout.OutOfMemory result before checks same why e = subst (λ (o : Outcome). Written A o s before before) (sym e) (short A s before)

pub start_refused : {A : Type 0} (s : Setup) (verdict : Verdict A) (p : Program A) (fault : StartFault) (before : Option (List ℕ)) → Accepts s.text verdict → p ≡ verdict.program
    → start_of p s.entry s.args ≡ Err fault → Written A outcomes.Refused s before before
start_refused {A} s verdict p fault before accepts same e =
    refused A s (refusals.Start fault) before (verdict, accepts, ap (λ (x : Program A). start_of x s.entry s.args) (sym same) ∙ e)

pub unstarted : {A : Type 0} (s : Setup) (verdict : Verdict A) (p : Program A) (error : StartError) (result : Outcome) (before : Option (List ℕ)) → Accepts s.text verdict → p ≡ verdict.program
    → StartExplains (start_of p s.entry s.args) error → result ≡ start_outcome error → Written A result s before before
unstarted {A} s verdict p errors.NoEntry result before accepts same why e =
    subst (λ (o : Outcome). Written A o s before before) (sym e) (start_refused s verdict p faults.NoEntry before accepts same why)
unstarted {A} s verdict p errors.ArgumentCount result before accepts same why e =
    subst (λ (o : Outcome). Written A o s before before) (sym e) (start_refused s verdict p faults.ArgumentCount before accepts same why)
unstarted {A} s verdict p errors.OutOfMemory result before accepts same why e =
    subst (λ (o : Outcome). Written A o s before before) (sym e) (short A s before)

-- ---- a run that starts

the_func : {A : Type 0} (o : Option (Func A)) → (o ≡ None → ⊥) → (f : Func A) × (o ≡ Some f)
the_func None h = absurd (h refl)
the_func (Some f) h = (f, refl)

given_state : {A : Type 0} (p : Program A) (f : Func A) (args : List ℕ) (s : State) (b : Bool) → (if b then Ok (started p f args) else Err faults.ArgumentCount) ≡ Ok s → s ≡ started p f args
given_state p f args s true e = sym cc
given_state p f args s false e = absurd cc

started_is : {A : Type 0} (p : Program A) (x : List ℕ) (f : Func A) (args : List ℕ) (s : State) → func_named p.funcs x ≡ Some f → start_of p x args ≡ Ok s → s ≡ started p f args
started_is p x f args s named e = given_state p f args s (length args == length f.params) (ap (λ o. started_with p o args) (sym named) ∙ e)

-- a pass over it stands at its start, with the shadow of the start beside it
pub starts : {A : Type 0} (text : List ℕ) (r : Request) (verdict : Verdict A) (p : Program A) (i : ℕ) (m : Whole A) (pass : CheckedRun A)
    → Accepts text verdict → p ≡ verdict.program → Finds p → place_of (func_names p) r.entry.now ≡ Some i
    → start_of p r.entry.now r.args.now ≡ Ok (state_of m) → m.program ≡ p → pass.whole ≡ m
    → (WellFormed pass.whole.program → (f : Func A) (args : List ℕ) → func_at pass.whole.program i ≡ Some f → state_of pass.whole ≡ started pass.whole.program f args
    → IsAtStart pass × (shadow_of pass.whole.program (state_of pass.whole) pass.shadow ≡ shadow_at_start pass.whole.program f))
    → (func : Func A) × Begins (setup_of text r) verdict func (state_of pass.whole) × (pass.whole.program ≡ verdict.program) × IsAtStart pass
    × (shadow_of pass.whole.program (state_of pass.whole) pass.shadow ≡ shadow_at_start verdict.program func)
starts {A} text r verdict p i m pass accepts same finds at ok program whole begins =
    let x = r.entry.now in
    let q : pass.whole.program ≡ p = ap (λ (w : Whole A). w.program) whole ∙ program in
    let there : (f : Func A) × (func_at p i ≡ Some f) = the_func (func_at p i) (entry_there p x i at) in
    let f : Func A = there.0 in
    let named : func_named p.funcs x ≡ Some f = entry_found p x i f finds at there.1 in
    let state : state_of pass.whole ≡ started pass.whole.program f r.args.now =
    ap (λ (w : Whole A). state_of w) whole ∙ started_is p x f r.args.now (state_of m) named ok ∙ ap (λ (y : Program A). started y f r.args.now) (sym q) in
    let h = begins (subst (λ (y : Program A). WellFormed y) (sym (q ∙ same)) accepts.checks.well_formed) f r.args.now (ap (λ (y : Program A). func_at y i) q ∙ there.1) state in (
      f,
      record {
        accepts = accepts;
        entry = ap (λ (y : Program A). func_named y.funcs x) (sym same) ∙ named;
        starts = ap (λ (y : Program A). start_of y x r.args.now) (sym same) ∙ ok ∙ ap (λ (w : Whole A). Ok (state_of w)) (sym whole);
      },
      q ∙ same,
      h.0,
      h.1 ∙ ap (λ (y : Program A). shadow_at_start y f) (q ∙ same),
    )
