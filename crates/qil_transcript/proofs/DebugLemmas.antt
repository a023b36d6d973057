-- From the answers of a session to the transcript.
use Rattle.std.proofs.Common.{◌≡◌, ◌≢◌, ℕ, ◌^◌, List, [], ◌++◌, take, sym, ◌∙◌, ap, refl, subst, append_assoc, inl, inr, arith}
use Rattle.std.proofs.Common.{true, false}
use Rattle.std.proofs.lemmas.Bool.{false≢true}
use Rattle.std.specs.Prelude.{Option, Some, None, Ok, Err, IfSome}
use Rattle.std.specs.Io.KnownBytes.{Appends}
use Rattle.qil_streams.specs.Device.{IsPrefixOf}
use Rattle.qil_streams.specs.Script.{lines_of, whole_lines_of}
use Rattle.qil_streams.proofs.DeviceLemmas.{Appends-nil, Appends-append, Consumes-nil}
use Rattle.qil_tree.specs.declared.tree.Program.{Program}
use Rattle.qil_rules.specs.Verdict.{Verdict}
use Rattle.qil_layout.specs.Layout.{fault_of}
use Rattle.qil_layout_builder.specs.Answer.{IsFault}
use Rattle.qil_layout.specs.declared.error.LayoutCode.{LayoutCode}
use Rattle.qil_layout_builder.specs.declared.error.LayoutError.{LayoutError}
use Rattle.qil_layout_builder.specs.declared.error.LayoutError.TheVariants as layout
use Rattle.qil_machine.specs.Starting.{StartExplains}
use Rattle.qil_machine.specs.declared.error.StartError.{StartError}
use Rattle.qil_machine.specs.declared.error.StartError.TheVariants as start
use Rattle.qil_semantics.specs.State.{State}
use Rattle.qil_semantics.specs.Start.{start_of}
use Rattle.qil_semantics.specs.Timeline.{begun}
use Rattle.qil_semantics.specs.declared.start.StartFault.{StartFault}
use Rattle.qil_replies.specs.SessionState.{SessionState}
use Rattle.qil_replies.specs.Answers.{IsAnswered, answers}
use Rattle.qil_session.specs.Serve.{TakesFew}
use Rattle.qil_session.specs.declared.serving.IoFault.TheVariants.{Read, Write, TooLong}
use Rattle.qil_transcript.specs.declared.outcome.Outcome.{Outcome}
use Rattle.qil_transcript.specs.declared.outcome.Outcome.TheVariants as outcomes
use Rattle.qil_loading.specs.declared.load.LoadError.{LoadError}
use Rattle.qil_loading.specs.declared.load.LoadError.TheVariants as errors
use Rattle.qil_loading.specs.declared.refusal.Refusal.{Refusal}
use Rattle.qil_loading.specs.declared.refusal.Refusal.TheVariants as refusals
use Rattle.qil_loading.specs.Load.{Accepts, Checks, Refuses, RefusesCheck, IsCheckFault}
use Rattle.qil_loading.specs.LoadError.{of_layout}
use Rattle.qil_loading.specs.Lines.{refused_line}
use Rattle.qil_replies.specs.Transcript.{Setup, Begins, IsSession, load_lines, opened}
use Rattle.qil_transcript.specs.Debug.{IsNoSession, Written}
use Rattle.qil_transcript.specs.Handed.{IsRefused, of_start}
use Rattle.qil_replies.proofs.ReachedLemmas.{ample}
use Rattle.qil_session.proofs.Explaining.{Explained}
use Rattle.qil_session.proofs.ServeLemmas.{Promise}

-- the load lines of a program
abbrev pub heading : {A : Type 0} → Setup → Verdict A → State → List ℕ
heading s verdict start = load_lines verdict.program verdict.form (begun s.keeps start)

-- what a session began with, and what was written of it before the answers
pub record Opened {A : Type 0} (s : Setup) (verdict : Verdict A) (start : State) (first : SessionState A) (w0 w1 : Option (List ℕ)) : Type 0 where
  pub begins : Begins s verdict start
  pub first_is : first ≡ opened s verdict.program start
  pub reported : Appends w0 w1 (heading s verdict start)

-- the load lines of a session are those of the timeline that it begins with
heading-is : {A : Type 0} (s : Setup) (verdict : Verdict A) (start : State) (first : SessionState A) → first ≡ opened s verdict.program start →
    load_lines verdict.program verdict.form first.timeline ≡ heading s verdict start
heading-is {A} s verdict start first e = ap (λ (x : SessionState A). load_lines verdict.program verdict.form x.timeline) e

pub opened_with : {A : Type 0} (s : Setup) (verdict : Verdict A) (start : State) (first : SessionState A) (w0 w1 : Option (List ℕ)) → Begins s verdict start →
    first ≡ opened s verdict.program start → Appends w0 w1 (load_lines verdict.program verdict.form first.timeline) → Opened s verdict start first w0 w1
opened_with s verdict start first w0 w1 begins e reported = record {
  begins = begins;
  first_is = e;
  reported = subst (λ (lines : List ℕ). Appends w0 w1 lines) (heading-is s verdict start first e) reported;
}

pub stopped_heading : {A : Type 0} (s : Setup) (verdict : Verdict A) (start : State) (first : SessionState A) (w0 w1 : Option (List ℕ)) → first ≡ opened s verdict.program start
    → ((prefix : List ℕ) × IsPrefixOf prefix (load_lines verdict.program verdict.form first.timeline) × Appends w0 w1 prefix)
    → (prefix : List ℕ) × IsPrefixOf prefix (heading s verdict start) × Appends w0 w1 prefix
stopped_heading s verdict start first w0 w1 e stopped =
    (stopped.0, subst (λ (lines : List ℕ). IsPrefixOf stopped.0 lines) (heading-is s verdict start first e) stopped.1, stopped.2)

is_session : {A : Type 0} (s : Setup) (verdict : Verdict A) (start : State) (first : SessionState A) (lines : List (List ℕ)) (reported : List ℕ) →
    Begins s verdict start → first ≡ opened s verdict.program start → IsAnswered first lines reported →
    IsSession A s lines (heading s verdict start ++ reported)
is_session {A} s verdict start first lines reported begins first_is answered = record {
  verdict = verdict;
  start = start;
  begins = begins;
  answered = reported;
  answers = subst (λ (x : SessionState A). IsAnswered x lines reported) first_is answered;
  written_is = refl;
}

pub Written-ended : {A T : Type 0} (v : T) (s : Setup) (verdict : Verdict A) (start : State) (first : SessionState A) (known left w0 w1 w2 : Option (List ℕ)) (now : SessionState A)
    → Opened s verdict start first w0 w1 → Promise (Ok v) first known left w1 w2 now
    → Written A outcomes.Ended s known left w0 w2
Written-ended v s verdict start first None left w0 w1 w2 now o p = tt
Written-ended v s verdict start first (Some script) left w0 w1 w2 now o p = (
  heading s verdict start ++ p.0,
  Appends-append w0 w1 w2 (heading s verdict start) p.0 o.reported p.1,
  (is_session s verdict start first (lines_of script) p.0 o.begins o.first_is (p.2.0.0, p.2.0.1, p.2.0.2), p.2.1),
)

pub Written-too_long : {A : Type 0} (T : Type 0) (s : Setup) (verdict : Verdict A) (start : State) (first : SessionState A) (known left w0 w1 w2 : Option (List ℕ)) (now : SessionState A)
    → Opened s verdict start first w0 w1 → Promise {T = T} (Err TooLong) first known left w1 w2 now
    → Written A outcomes.TooLong s known left w0 w2
Written-too_long T s verdict start first None left w0 w1 w2 now o p = tt
Written-too_long T s verdict start first (Some script) left w0 w1 w2 now o p = (
  heading s verdict start ++ p.0,
  Appends-append w0 w1 w2 (heading s verdict start) p.0 o.reported p.1,
  (is_session s verdict start first (whole_lines_of (take (2 ^ 24) script)) p.0 o.begins o.first_is (p.2.0.0, p.2.0.1, p.2.0.2), p.2.1),
)

pub Written-read : {A : Type 0} (T : Type 0) (s : Setup) (verdict : Verdict A) (start : State) (first : SessionState A) (known left w0 w1 w2 : Option (List ℕ)) (now : SessionState A)
    → Opened s verdict start first w0 w1 → Promise {T = T} (Err Read) first known left w1 w2 now
    → Written A outcomes.ReadFault s known left w0 w2
Written-read T s verdict start first None left w0 w1 w2 now o p = tt
Written-read T s verdict start first (Some script) left w0 w1 w2 now o p =
    let (read, taken, answered, goes) = p.2 in (
      heading s verdict start ++ p.0,
      Appends-append w0 w1 w2 (heading s verdict start) p.0 o.reported p.1,
      (read, taken, is_session s verdict start first (whole_lines_of read) p.0 o.begins o.first_is (answered.0, answered.1, answered.2), goes),
    )

pub Written-write : {A : Type 0} (T : Type 0) (s : Setup) (verdict : Verdict A) (start : State) (first : SessionState A) (known left w0 w1 w2 : Option (List ℕ)) (now : SessionState A)
    → Opened s verdict start first w0 w1 → Promise {T = T} (Err Write) first known left w1 w2 now
    → Written A outcomes.WriteFault s known left w0 w2
Written-write T s verdict start first None left w0 w1 w2 now o p = tt
Written-write T s verdict start first (Some script) left w0 w1 w2 now o p =
    let (all, answered, prefix, cut) = p.2 in (
      heading s verdict start ++ p.0,
      Appends-append w0 w1 w2 (heading s verdict start) p.0 o.reported p.1,
      (
        heading s verdict start ++ all,
        inr (is_session s verdict start first (lines_of script) all o.begins o.first_is answered),
        (prefix.0, ap (λ v. heading s verdict start ++ v) prefix.1 ∙ sym (append_assoc (heading s verdict start) p.0 prefix.0)),
      ),
    )

-- the load lines stopped
pub Written-load : {A : Type 0} (s : Setup) (verdict : Verdict A) (start : State) (known left w0 w1 : Option (List ℕ))
    → Begins s verdict start → ((prefix : List ℕ) × IsPrefixOf prefix (heading s verdict start) × Appends w0 w1 prefix)
    → Written A outcomes.WriteFault s known left w0 w1
Written-load s verdict start None left w0 w1 begins p = tt
Written-load {A} s verdict start (Some script) left w0 w1 begins p =
    let first : SessionState A = opened s verdict.program start in
    let more = ample first (lines_of script) in
    let reported = answers first (lines_of script) more.0 in (
      p.0,
      p.2,
      (
        heading s verdict start ++ reported,
        inr (is_session s verdict start first (lines_of script) reported begins refl (more.0, more.1, refl)),
        (p.1.0 ++ reported, ap (λ v. v ++ reported) p.1.1 ∙ append_assoc p.0 p.1.0 reported),
      ),
    )

-- memory ran out before anything was written
pub Written-memory : (A : Type 0) (s : Setup) (known left w0 w1 : Option (List ℕ)) → w1 ≡ w0 → Written A outcomes.Memory s known left w0 w1
Written-memory A s None left w0 w1 same = tt
Written-memory A s (Some script) left w0 w1 same = ([], subst (λ (w : Option (List ℕ)). Appends w0 w []) (sym same) (Appends-nil w0), refl)

-- ---- refusals

-- a refusal was reported
Written-refused : (A : Type 0) (s : Setup) (refusal : Refusal) (known left w0 w1 : Option (List ℕ))
    → Refuses A s.text s.entry s.args refusal → Appends w0 w1 (refused_line refusal)
    → Written A outcomes.Refused s known left w0 w1
Written-refused A s refusal None left w0 w1 refuses p = tt
Written-refused A s refusal (Some script) left w0 w1 refuses p =
    (refused_line refusal, p, record { refusal = refusal; refuses = refuses; written_is = refl })

-- the line of a refusal stopped
Written-refusal_stopped : (A : Type 0) (s : Setup) (refusal : Refusal) (known left w0 w1 : Option (List ℕ))
    → Refuses A s.text s.entry s.args refusal → ((prefix : List ℕ) × IsPrefixOf prefix (refused_line refusal) × Appends w0 w1 prefix)
    → Written A outcomes.WriteFault s known left w0 w1
Written-refusal_stopped A s refusal None left w0 w1 refuses p = tt
Written-refusal_stopped A s refusal (Some script) left w0 w1 refuses p =
    (p.0, p.2, (refused_line refusal, inl (record { refusal = refusal; refuses = refuses; written_is = refl }), p.1))

-- what was refused and how that was put
pub Written-refuse : (A : Type 0) (outcome : Outcome) (s : Setup) (error : LoadError) (known left w0 w1 : Option (List ℕ))
    → Explained A s error → IsRefused outcome error w0 w1 → Written A outcome s known left w0 w1
Written-refuse A outcomes.Refused s (errors.Refused refusal) known left w0 w1 refuses p = Written-refused A s refusal known left w0 w1 refuses p
Written-refuse A outcomes.WriteFault s (errors.Refused refusal) known left w0 w1 refuses p = Written-refusal_stopped A s refusal known left w0 w1 refuses p
Written-refuse A outcomes.Memory s errors.OutOfMemory known left w0 w1 refuses p = Written-memory A s known left w0 w1 p
Written-refuse A outcomes.Ended s (errors.Refused refusal) known left w0 w1 refuses p = absurd p
Written-refuse A outcomes.ReadFault s (errors.Refused refusal) known left w0 w1 refuses p = absurd p
Written-refuse A outcomes.TooLong s (errors.Refused refusal) known left w0 w1 refuses p = absurd p
Written-refuse A outcomes.Memory s (errors.Refused refusal) known left w0 w1 refuses p = absurd p
Written-refuse A outcomes.Ended s errors.OutOfMemory known left w0 w1 refuses p = absurd p
Written-refuse A outcomes.Refused s errors.OutOfMemory known left w0 w1 refuses p = absurd p
Written-refuse A outcomes.ReadFault s errors.OutOfMemory known left w0 w1 refuses p = absurd p
Written-refuse A outcomes.WriteFault s errors.OutOfMemory known left w0 w1 refuses p = absurd p
Written-refuse A outcomes.TooLong s errors.OutOfMemory known left w0 w1 refuses p = absurd p

-- what is reported of a refusal is no session
pub refused-no_session : (outcome : Outcome) (error : LoadError) (w0 w1 : Option (List ℕ)) → IsRefused outcome error w0 w1 → IsNoSession outcome
refused-no_session outcomes.Refused error w0 w1 p = tt
refused-no_session outcomes.WriteFault error w0 w1 p = tt
refused-no_session outcomes.Memory error w0 w1 p = tt
refused-no_session outcomes.Ended (errors.Refused refusal) w0 w1 p = absurd p
refused-no_session outcomes.ReadFault (errors.Refused refusal) w0 w1 p = absurd p
refused-no_session outcomes.TooLong (errors.Refused refusal) w0 w1 p = absurd p
refused-no_session outcomes.Ended errors.OutOfMemory w0 w1 p = absurd p
refused-no_session outcomes.ReadFault errors.OutOfMemory w0 w1 p = absurd p
refused-no_session outcomes.TooLong errors.OutOfMemory w0 w1 p = absurd p

-- out of memory is no refusal
pub shortage-not_refused : (outcome : Outcome) (error : LoadError) (w0 w1 : Option (List ℕ)) → IsRefused outcome error w0 w1 → error ≡ errors.OutOfMemory → outcome ≢ outcomes.Refused
shortage-not_refused outcome error w0 w1 p e r =
    subst (λ (x : Outcome). IsRefused x errors.OutOfMemory w0 w1) r (subst (λ (x : LoadError). IsRefused outcome x w0 w1) e p)

-- ---- why each part refuses

pub start-explained : {A : Type 0} (s : Setup) (verdict : Verdict A) (p : Program A) (error : StartError) (load : LoadError) → Accepts s.text verdict → p ≡ verdict.program
    → StartExplains (start_of p s.entry s.args) error → load ≡ of_start error → Explained A s load
start-explained {A} s verdict p start.NoEntry load accepts same why e =
    subst (λ (x : LoadError). Explained A s x) (sym e) (verdict, accepts, ap (λ (q : Program A). start_of q s.entry s.args) (sym same) ∙ why)
start-explained {A} s verdict p start.ArgumentCount load accepts same why e =
    subst (λ (x : LoadError). Explained A s x) (sym e) (verdict, accepts, ap (λ (q : Program A). start_of q s.entry s.args) (sym same) ∙ why)
start-explained {A} s verdict p start.OutOfMemory load accepts same why e = subst (λ (x : LoadError). Explained A s x) (sym e) tt

-- a program that starts isn't refused its start
pub start-shortage : {A : Type 0} (p : Program A) (entry args : List ℕ) (state : State) (error : StartError) (load : LoadError) → start_of p entry args ≡ Ok state
    → StartExplains (start_of p entry args) error → load ≡ of_start error → load ≡ errors.OutOfMemory
start-shortage p entry args state start.NoEntry load ok why e = absurd cc
start-shortage p entry args state start.ArgumentCount load ok why e = absurd cc
start-shortage p entry args state start.OutOfMemory load ok why e = e

-- ---- where no session can be, and where one must be

pub no_session : (A : Type 0) (s : Setup) (p : Program A) (outcome : Outcome) (refusal : Refusal) → Refuses A s.text s.entry s.args refusal →
    ((r : Refusal) → RefusesCheck A s.text r → false ≡ true) →
    ((verdict : Verdict A) → Checks s.text verdict → p ≡ verdict.program) →
    ((fault : StartFault) → start_of p s.entry s.args ≡ Err fault → IsNoSession outcome) →
    ((code : LayoutCode) (line : ℕ) → fault_of p ≡ Some (code, line) → IsNoSession outcome) → IsNoSession outcome
no_session A s p outcome (refusals.Text code line) h only_refused same only_start only_layout = absurd (false≢true (only_refused (refusals.Text code line) h))
no_session A s p outcome (refusals.Tokens code line) h only_refused same only_start only_layout = absurd (false≢true (only_refused (refusals.Tokens code line) h))
no_session A s p outcome (refusals.Rule rule line) h only_refused same only_start only_layout = absurd (false≢true (only_refused (refusals.Rule rule line) h))
no_session A s p outcome (refusals.Layout code line) h only_refused same only_start only_layout =
    let (verdict, checks, fault) = h in
    only_layout code line (ap (λ (q : Program A). fault_of q) (same verdict checks) ∙ fault)
no_session A s p outcome (refusals.Start fault) h only_refused same only_start only_layout =
    let (verdict, accepts, starts) = h in
    only_start fault (ap (λ (q : Program A). start_of q s.entry s.args) (same verdict accepts.checks) ∙ starts)

-- nothing is taken of a source that isn't read
pub untaken : (known : Option (List ℕ)) → IfSome known (λ script. TakesFew script known)
untaken None = tt
untaken (Some script) = ([], Consumes-nil (Some script), omega arith)
