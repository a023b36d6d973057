-- Texts that are loaded, and texts that are refused.
use Rattle.std.proofs.Common.{◌≡◌, ◌≢◌, refl, sym, ap, ◌∙◌, subst, ℕ, true, false, inl, List, ◌++◌}
use Rattle.std.proofs.lemmas.Bool.{false≢true}
use Rattle.std.specs.Prelude.{Option, Some, None, Result, Ok, Err, IsOk, IfErr}
use Rattle.std.specs.Io.KnownBytes.{Appends}
use Rattle.qil_tree.specs.declared.tree.Program.{Program}
use Rattle.qil_rules.specs.Verdict as accepted
use Rattle.qil_streams.specs.Device.{IsPrefixOf}
use Rattle.qil_layout.specs.Layout.{fault_of}
use Rattle.qil_layout.specs.declared.error.LayoutCode.{LayoutCode}
use Rattle.qil_semantics.specs.State.{State}
use Rattle.qil_semantics.specs.Start.{start_of}
use Rattle.qil_semantics.specs.declared.start.StartFault.{StartFault}
use Rattle.qil_loading.specs.Load.{Accepts, Checks, Refuses, RefusesCheck, IsCheckFault}
use Rattle.qil_loading.specs.declared.load.LoadError.{LoadError}
use Rattle.qil_loading.specs.declared.load.LoadError.TheVariants as errors
use Rattle.qil_loading.specs.declared.refusal.Refusal.{Refusal}
use Rattle.qil_loading.specs.declared.refusal.Refusal.TheVariants as refusals
use Rattle.qil_replies.specs.Transcript.{Begins}
use Rattle.qil_session.proofs.Explaining.{Explained}
use Rattle.qil_comparison.specs.declared.request.SideName.{SideName}
use Rattle.qil_comparison.specs.declared.request.SideName.TheVariants.{Good, Bad}
use Rattle.qil_comparison.specs.declared.request.Text.{Text}
use Rattle.qil_comparison.specs.declared.request.Request.{Request}
use Rattle.qil_comparison.specs.declared.outcome.Outcome.{Outcome}
use Rattle.qil_comparison.specs.declared.outcome.Outcome.TheVariants as outcomes
use Rattle.qil_comparison.specs.Compared.{Setup, opened_as, good_setup, bad_setup, text_on, IsRefusedOn, IsRefusal, IsUncompared, Written, refusal_text}
use Rattle.qil_comparison.specs.Handed.{StartRefuses, IsUnloaded, IsUnloadedOn, IsRefused}
use Rattle.qil_comparison.proofs.Comparisons.{Written-memory}

-- ---- why a text isn't loaded

-- as a session on it tells it
pub unloaded : (A : Type 0) (text : Text) (r : Request) (error : LoadError) → Explained A (opened_as text r Good) error → IsUnloaded A text r error
unloaded A text r (errors.Refused refusal) h = h
unloaded A text r errors.OutOfMemory h = tt

-- its program isn't started
pub unstarted : {A : Type 0} (text : Text) (r : Request) (verdict : accepted.Verdict A) (p : Program A) (error : LoadError) → Accepts text.bytes.now verdict → p ≡ verdict.program
    → StartRefuses (start_of p r.func.now r.args.now) error → IsUnloaded A text r error
unstarted text r verdict p (errors.Refused (refusals.Text code line)) accepts same why = absurd why
unstarted text r verdict p (errors.Refused (refusals.Tokens code line)) accepts same why = absurd why
unstarted text r verdict p (errors.Refused (refusals.Rule rule line)) accepts same why = absurd why
unstarted text r verdict p (errors.Refused (refusals.Layout code line)) accepts same why = absurd why
unstarted {A} text r verdict p (errors.Refused (refusals.Start fault)) accepts same why = (verdict, accepts, ap (λ (x : Program A). start_of x r.func.now r.args.now) (sym same) ∙ why)
unstarted text r verdict p errors.OutOfMemory accepts same why = absurd why

-- a program that starts has no fault of the start
pub starts_refused : {X : Type 0} (r : Result State StartFault) (start : State) (error : LoadError) → r ≡ Ok start → StartRefuses r error → X
starts_refused r start (errors.Refused (refusals.Text code line)) ok why = absurd why
starts_refused r start (errors.Refused (refusals.Tokens code line)) ok why = absurd why
starts_refused r start (errors.Refused (refusals.Rule rule line)) ok why = absurd why
starts_refused r start (errors.Refused (refusals.Layout code line)) ok why = absurd why
starts_refused r start (errors.Refused (refusals.Start fault)) ok why = absurd cc
starts_refused r start errors.OutOfMemory ok why = absurd why

-- of what comes of a start
pub start_unloaded : {A T : Type 0} (text : Text) (r : Request) (verdict : accepted.Verdict A) (p : Program A) (result : Result T LoadError) → Accepts text.bytes.now verdict → p ≡ verdict.program
    → IfErr result (StartRefuses (start_of p r.func.now r.args.now)) → IfErr result (IsUnloaded A text r)
start_unloaded text r verdict p (Ok x) accepts same why = tt
start_unloaded text r verdict p (Err error) accepts same why = unstarted text r verdict p error accepts same why

pub start_shortage : {T : Type 0} (r : Result State StartFault) (start : State) (result : Result T LoadError) → r ≡ Ok start → IfErr result (StartRefuses r) → IfErr result (λ e. e ≡ errors.OutOfMemory)
start_shortage r start (Ok x) ok why = tt
start_shortage r start (Err error) ok why = starts_refused r start error ok why

-- ---- a text that is refused isn't loaded

pub ok_is_no_fault : {X : Type 0} (r : Result State StartFault) (fault : StartFault) → IsOk r → r ≡ Err fault → X
ok_is_no_fault (Ok start) fault ok e = absurd cc
ok_is_no_fault (Err other) fault ok e = absurd (false≢true ok)

-- its program can't be laid out, or not be started
pub refused_so : {X : Type 0} (A : Type 0) (text entry args : List ℕ) (p : Program A) (refusal : Refusal) → Refuses A text entry args refusal
    → ((r : Refusal) → RefusesCheck A text r → false ≡ true) → ((verdict : accepted.Verdict A) → Checks text verdict → p ≡ verdict.program)
    → ((code : LayoutCode) (line : ℕ) → fault_of p ≡ Some (code, line) → X) → ((fault : StartFault) → start_of p entry args ≡ Err fault → X) → X
refused_so A text entry args p (refusals.Text code line) h only_refused same laid started = absurd (false≢true (only_refused (refusals.Text code line) h))
refused_so A text entry args p (refusals.Tokens code line) h only_refused same laid started = absurd (false≢true (only_refused (refusals.Tokens code line) h))
refused_so A text entry args p (refusals.Rule rule line) h only_refused same laid started = absurd (false≢true (only_refused (refusals.Rule rule line) h))
refused_so A text entry args p (refusals.Layout code line) (verdict, checks, fault) only_refused same laid started =
    laid code line (ap (λ (q : Program A). fault_of q) (same verdict checks) ∙ fault)
refused_so A text entry args p (refusals.Start fault) (verdict, accepts, refused) only_refused same laid started =
    started fault (ap (λ (q : Program A). start_of q entry args) (same verdict accepts.checks) ∙ refused)

-- a program that lies has no fault of its layout
pub lies_not : {A X : Type 0} (p : Program A) (code : LayoutCode) (line : ℕ) → fault_of p ≡ None → fault_of p ≡ Some (code, line) → X
lies_not p code line none some = absurd cc

-- ---- which of two texts

pub good_unloaded : (A : Type 0) (s : Setup) (error : LoadError) → IsUnloaded A s.good s.request error → IsUnloadedOn A s Good error
good_unloaded A s (errors.Refused refusal) h = h
good_unloaded A s errors.OutOfMemory h = tt

state_in : (r : Result State StartFault) → IsOk r → (start : State) × (r ≡ Ok start)
state_in (Ok start) ok = (start, refl)
state_in (Err fault) ok = absurd (false≢true ok)

-- the good text is a program that starts
pub good_begins : {A : Type 0} (s : Setup) (verdict : accepted.Verdict A) (p : Program A) → Accepts s.good.bytes.now verdict → p ≡ verdict.program → IsOk (start_of p s.request.func.now s.request.args.now)
    → (start : State) × Begins (good_setup s) verdict start
good_begins {A} s verdict p accepts same ok =
    let found = state_in (start_of p s.request.func.now s.request.args.now) ok in
    (found.0, record { accepts = accepts; starts = ap (λ (x : Program A). start_of x s.request.func.now s.request.args.now) (sym same) ∙ found.1 })

pub bad_unloaded : {A : Type 0} (s : Setup) (error : LoadError) (verdict : accepted.Verdict A) → ((start : State) × Begins (good_setup s) verdict start) → IsUnloaded A s.bad s.request error → IsUnloadedOn A s Bad error
bad_unloaded s (errors.Refused refusal) verdict good h = (verdict, good.0, good.1, h)
bad_unloaded s errors.OutOfMemory verdict good h = tt

-- one of two texts is refused
pub refused_on : {X : Type 0} (A : Type 0) (s : Setup) (side : SideName) (refusal : Refusal) → IsRefusedOn A s side refusal
    → (Refuses A s.good.bytes.now s.request.func.now s.request.args.now refusal → X) → (Refuses A s.bad.bytes.now s.request.func.now s.request.args.now refusal → X) → X
refused_on A s Good refusal refused good bad = good refused
refused_on A s Bad refusal (verdict, start, begins, refused) good bad = bad refused

-- ---- refusals that are written

refused-all : (A : Type 0) (s : Setup) (side : SideName) (refusal : Refusal) (name : List ℕ) → IsRefusedOn A s side refusal → name ≡ (text_on s side).name.now → IsRefusal A s (refusal_text name refusal)
refused-all A s side refusal name refused e = record { side = side; refusal = refusal; refused = refused; written_is = ap (λ (x : List ℕ). refusal_text x refusal) e }

Written-refused : (A : Type 0) (s : Setup) (side : SideName) (refusal : Refusal) (name : List ℕ) (known left w0 w1 : Option (List ℕ)) → IsRefusedOn A s side refusal → name ≡ (text_on s side).name.now
    → Appends w0 w1 (refusal_text name refusal) → Written A outcomes.Refused s known left w0 w1
Written-refused A s side refusal name None left w0 w1 refused e p = tt
Written-refused A s side refusal name (Some script) left w0 w1 refused e p = (refusal_text name refusal, p, refused-all A s side refusal name refused e)

Written-refusal_cut : (A : Type 0) (s : Setup) (side : SideName) (refusal : Refusal) (name : List ℕ) (known left w0 w1 : Option (List ℕ)) → IsRefusedOn A s side refusal → name ≡ (text_on s side).name.now
    → ((prefix : List ℕ) × IsPrefixOf prefix (refusal_text name refusal) × Appends w0 w1 prefix) → Written A outcomes.WriteFault s known left w0 w1
Written-refusal_cut A s side refusal name None left w0 w1 refused e p = tt
Written-refusal_cut A s side refusal name (Some script) left w0 w1 refused e p = (p.0, p.2, (refusal_text name refusal, inl (refused-all A s side refusal name refused e), p.1))

pub Written-refuse : (A : Type 0) (outcome : Outcome) (s : Setup) (side : SideName) (error : LoadError) (name : List ℕ) (known left w0 w1 : Option (List ℕ)) → IsUnloadedOn A s side error → name ≡ (text_on s side).name.now
    → IsRefused outcome name error w0 w1 → Written A outcome s known left w0 w1
Written-refuse A outcomes.Refused s side (errors.Refused refusal) name known left w0 w1 refused e p = Written-refused A s side refusal name known left w0 w1 refused e p
Written-refuse A outcomes.WriteFault s side (errors.Refused refusal) name known left w0 w1 refused e p = Written-refusal_cut A s side refusal name known left w0 w1 refused e p
Written-refuse A outcomes.Memory s side errors.OutOfMemory name known left w0 w1 refused e p = Written-memory A s known left w0 w1 p
Written-refuse A (outcomes.Told verdict) s side (errors.Refused refusal) name known left w0 w1 refused e p = absurd p
Written-refuse A outcomes.Unserved s side (errors.Refused refusal) name known left w0 w1 refused e p = absurd p
Written-refuse A outcomes.ReadFault s side (errors.Refused refusal) name known left w0 w1 refused e p = absurd p
Written-refuse A outcomes.TooLong s side (errors.Refused refusal) name known left w0 w1 refused e p = absurd p
Written-refuse A outcomes.Memory s side (errors.Refused refusal) name known left w0 w1 refused e p = absurd p
Written-refuse A (outcomes.Told verdict) s side errors.OutOfMemory name known left w0 w1 refused e p = absurd p
Written-refuse A outcomes.Refused s side errors.OutOfMemory name known left w0 w1 refused e p = absurd p
Written-refuse A outcomes.Unserved s side errors.OutOfMemory name known left w0 w1 refused e p = absurd p
Written-refuse A outcomes.ReadFault s side errors.OutOfMemory name known left w0 w1 refused e p = absurd p
Written-refuse A outcomes.WriteFault s side errors.OutOfMemory name known left w0 w1 refused e p = absurd p
Written-refuse A outcomes.TooLong s side errors.OutOfMemory name known left w0 w1 refused e p = absurd p

-- what is answered of a text that isn't loaded is no comparison
pub refused-uncompared : (outcome : Outcome) (name : List ℕ) (error : LoadError) (w0 w1 : Option (List ℕ)) → IsRefused outcome name error w0 w1 → IsUncompared outcome
refused-uncompared outcomes.Refused name error w0 w1 p = tt
refused-uncompared outcomes.WriteFault name error w0 w1 p = tt
refused-uncompared outcomes.Memory name error w0 w1 p = tt
refused-uncompared (outcomes.Told verdict) name (errors.Refused refusal) w0 w1 p = absurd p
refused-uncompared outcomes.Unserved name (errors.Refused refusal) w0 w1 p = absurd p
refused-uncompared outcomes.ReadFault name (errors.Refused refusal) w0 w1 p = absurd p
refused-uncompared outcomes.TooLong name (errors.Refused refusal) w0 w1 p = absurd p
refused-uncompared (outcomes.Told verdict) name errors.OutOfMemory w0 w1 p = absurd p
refused-uncompared outcomes.Unserved name errors.OutOfMemory w0 w1 p = absurd p
refused-uncompared outcomes.ReadFault name errors.OutOfMemory w0 w1 p = absurd p
refused-uncompared outcomes.TooLong name errors.OutOfMemory w0 w1 p = absurd p

-- out of memory is no refusal
pub shortage-not_refused : (outcome : Outcome) (name : List ℕ) (error : LoadError) (w0 w1 : Option (List ℕ)) → IsRefused outcome name error w0 w1 → error ≡ errors.OutOfMemory → outcome ≢ outcomes.Refused
shortage-not_refused outcome name error w0 w1 p e r =
    subst (λ (x : Outcome). IsRefused x name errors.OutOfMemory w0 w1) r (subst (λ (x : LoadError). IsRefused outcome name x w0 w1) e p)
