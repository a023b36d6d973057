-- From what comes of two runs to what is written of them.
use Rattle.std.proofs.Common.{◌≡◌, ◌≢◌, refl, sym, ap, ◌∙◌, subst, ℕ, ◌^◌, inr, List, [], ◌++◌, take, append_assoc, arith}
use Rattle.std.proofs.lemmas.List.{append-nil}
use Rattle.std.specs.Prelude.{Bool, Option, Some, None, Result, Ok, Err, IfSome, is_some}
use Rattle.std.specs.Io.KnownBytes.{Appends}
use Rattle.qil_tree.specs.declared.tree.Program.{Program}
use Rattle.qil_rules.specs.Verdict as accepted
use Rattle.qil_streams.specs.Device.{IsPrefixOf}
use Rattle.qil_streams.specs.Script.{lines_of, whole_lines_of}
use Rattle.qil_streams.proofs.DeviceLemmas.{Appends-nil, Appends-append, Consumes-nil}
use Rattle.qil_semantics.specs.State.{State}
use Rattle.qil_semantics.specs.Start.{start_of}
use Rattle.qil_semantics.specs.Timeline.{Timeline, begun, moved}
use Rattle.qil_loading.specs.Load.{Accepts}
use Rattle.qil_replies.specs.SessionState.{SessionState}
use Rattle.qil_session.specs.Kept.{Kept, session_state}
use Rattle.qil_replies.specs.Answers as sessions
use Rattle.qil_replies.proofs.ReachedLemmas.{ample}
use Rattle.qil_session.specs.declared.serving.IoFault.{IoFault}
use Rattle.qil_session.specs.declared.serving.IoFault.TheVariants.{Read, Write, TooLong}
use Rattle.qil_session.specs.Serve.{IsServed, IsTooLong, CountsServe, TakesFew}
use Rattle.qil_compare.specs.declared.event.Kinds.{Kinds}
use Rattle.qil_compare.specs.declared.comparing.Verdict.{Verdict}
use Rattle.qil_compare.specs.declared.comparing.Verdict.TheVariants as verdicts
use Rattle.qil_compare.specs.declared.comparing.Answer.{Answer}
use Rattle.qil_compare.specs.Answer.{run_of, IsAnswered}
use Rattle.qil_compare.proofs.Longest.{answer_part, answer_same, answer_front}
use Rattle.qil_comparison.specs.declared.request.SideName.{SideName}
use Rattle.qil_comparison.specs.declared.request.SideName.TheVariants.{Good, Bad}
use Rattle.qil_comparison.specs.declared.request.Request.{Request}
use Rattle.qil_comparison.specs.declared.request.Text.{Text}
use Rattle.qil_comparison.specs.declared.outcome.Outcome.{Outcome}
use Rattle.qil_comparison.specs.declared.outcome.Outcome.TheVariants as outcomes
use Rattle.qil_comparison.specs.Told.{told_text}
use Rattle.qil_comparison.specs.Compared.{Setup, setup_of, Begin, keeps, good_setup, bad_setup, good_begun, bad_begun, NumberIs, session_on, session_there, AreAnswers, IsComparison, Leaves, Written, IsUntouched, CountsFaults}
use Rattle.qil_comparison.specs.Handed.{IsReported, IsServedBy, IsServedAt, served_outcome}

-- ---- two runs that came to an answer

-- both programs began, and were run to where an answer is told of them
pub record Came {A : Type 0} (s : Setup) (p q : accepted.Verdict A) (u v : Timeline) (answer : Answer) : Type 0 where
  pub first : State
  pub second : State
  pub begin : Begin s p q first second
  pub answered : IsAnswered s.request.kinds s.request.limit p.program q.program (good_begun s first) u (bad_begun s second) v answer

-- where a side stands after so many moves
abbrev pub good_there : {A : Type 0} → Setup → accepted.Verdict A → State → ℕ → Timeline
good_there s P start k = moved P.program k (good_begun s start)

abbrev pub bad_there : {A : Type 0} → Setup → accepted.Verdict A → State → ℕ → Timeline
bad_there s Q start k = moved Q.program k (bad_begun s start)

pub came : {A : Type 0} (s : Setup) (P Q : accepted.Verdict A) (first second : State) (k j : ℕ) (answer : Answer) (text : List ℕ) → Begin s P Q first second → IsReported s.request P.program Q.program first second k j answer text
    → Came s P Q (good_there s P first k) (bad_there s Q second j) answer
came s P Q first second k j answer text begin report = record {
  first = first;
  second = second;
  begin = begin;
  answered = report.answered (good_setup s).keeps (bad_setup s).keeps;
}

-- what was reported of two programs is so of those that they are
pub reported_as : {A : Type 0} (r : Request) (p q P Q : Program A) (s t : State) (k j : ℕ) (answer : Answer) (text : List ℕ) → p ≡ P → q ≡ Q → IsReported r p q s t k j answer text → IsReported r P Q s t k j answer text
reported_as {A} r p q P Q s t k j answer text ep eq report =
    subst (λ (x : Program A). IsReported r x Q s t k j answer text) ep (subst (λ (x : Program A). IsReported r p x s t k j answer text) eq report)

-- counted otherwise
pub reported_of : {A : Type 0} (r : Request) (p q : Program A) (s t : State) (k j n m : ℕ) (answer : Answer) (text : List ℕ) → n ≡ k → m ≡ j → IsReported r p q s t k j answer text → IsReported r p q s t n m answer text
reported_of r p q s t k j n m answer text ek ej report = subst (λ x. IsReported r p q s t x m answer text) (sym ek) (subst (λ x. IsReported r p q s t k x answer text) (sym ej) report)

number_is : {A : Type 0} (kinds : Kinds) (limit : ℕ) (p q : Program A) (t u w v : Timeline) (answer : Answer) (verdict : Verdict) → IsAnswered kinds limit p q t u w v answer → answer.verdict ≡ verdict
    → NumberIs (run_of kinds p q t) (run_of kinds q p w) verdict answer.events
number_is kinds limit p q t u w v answer verdicts.Same answered is = answer_same kinds limit p q t u w v answer answered is
number_is kinds limit p q t u w v answer verdicts.Part answered is = answer_part kinds limit p q t u w v answer answered is
number_is kinds limit p q t u w v answer verdicts.Limit answered is = answer_front kinds limit p q t u w v answer answered

abbrev pub told : {A : Type 0} → accepted.Verdict A → accepted.Verdict A → Timeline → Timeline → Answer → List ℕ
told P Q u v answer = told_text P.program Q.program u v answer

abbrev pub session_of : {A : Type 0} → Setup → accepted.Verdict A → accepted.Verdict A → Timeline → Timeline → Option (SessionState A)
session_of s P Q u v = session_there s.request s.request.session P.program Q.program u v

comparison : {A : Type 0} (s : Setup) (P Q : accepted.Verdict A) (u v : Timeline) (answer : Answer) (verdict : Verdict) (lines : List (List ℕ)) (answers : List ℕ) → Came s P Q u v answer → answer.verdict ≡ verdict
    → AreAnswers (session_of s P Q u v) lines answers → IsComparison A s verdict lines (told P Q u v answer ++ answers)
comparison s P Q u v answer verdict lines answers c is are = record {
  good = P;
  bad = Q;
  good_start = c.first;
  bad_start = c.second;
  begin = c.begin;
  good_now = u;
  bad_now = v;
  answer = answer;
  answered = c.answered;
  verdict_is = is;
  number = number_is s.request.kinds s.request.limit P.program Q.program (good_begun s c.first) u (bad_begun s c.second) v answer verdict c.answered is;
  answers = answers;
  answers_are = are;
  written_is = refl;
}

pub wrote_as : (w0 w1 : Option (List ℕ)) (text other : List ℕ) → text ≡ other → Appends w0 w1 text → Appends w0 w1 other
wrote_as w0 w1 text other e p = subst (λ (x : List ℕ). Appends w0 w1 x) e p

pub cut_as : (w0 w1 : Option (List ℕ)) (text other : List ℕ) → text ≡ other → ((prefix : List ℕ) × IsPrefixOf prefix text × Appends w0 w1 prefix) → (prefix : List ℕ) × IsPrefixOf prefix other × Appends w0 w1 prefix
cut_as w0 w1 text other e p = (p.0, subst (λ (x : List ℕ). IsPrefixOf p.0 x) e p.1, p.2)

-- ---- the sink failed in what is told

-- each script has answers
some_answers : {A : Type 0} (o : Option (SessionState A)) (lines : List (List ℕ)) → (text : List ℕ) × AreAnswers o lines text
some_answers None lines = ([], refl)
some_answers (Some s) lines = let more = ample s lines in (sessions.answers s lines more.0, (more.0, more.1, refl))

pub Written-cut : {A : Type 0} (s : Setup) (P Q : accepted.Verdict A) (u v : Timeline) (answer : Answer) (known left w0 w1 : Option (List ℕ)) → Came s P Q u v answer
    → ((prefix : List ℕ) × IsPrefixOf prefix (told P Q u v answer) × Appends w0 w1 prefix) → Written A outcomes.WriteFault s known left w0 w1
Written-cut s P Q u v answer None left w0 w1 c cut = tt
Written-cut s P Q u v answer (Some script) left w0 w1 c cut =
    let more = some_answers (session_of s P Q u v) (lines_of script) in (
      cut.0,
      cut.2,
      (
        told P Q u v answer ++ more.0,
        inr (answer.verdict, comparison s P Q u v answer answer.verdict (lines_of script) more.0 c refl more.1),
        (cut.1.0 ++ more.0, ap (λ xs. xs ++ more.0) cut.1.1 ∙ append_assoc cut.0 cut.1.0 more.0),
      ),
    )

-- ---- no session

no_answers : {A : Type 0} (r : Request) (o : Option SideName) (p q : Program A) (u v : Timeline) (lines : List (List ℕ)) → o ≡ None → AreAnswers (session_there r o p q u v) lines []
no_answers r None p q u v lines e = refl
no_answers r (Some side) p q u v lines e = absurd cc

if_none : (o : Option SideName) (X : Type 0) → o ≡ None → IfSome o (λ side. X)
if_none None X e = tt
if_none (Some side) X e = absurd cc

if_any : (o : Option SideName) (X : Type 0) → X → IfSome o (λ side. X)
if_any None X x = tt
if_any (Some side) X x = x

pub Written-told : {A : Type 0} (s : Setup) (P Q : accepted.Verdict A) (u v : Timeline) (answer : Answer) (known left w0 w1 : Option (List ℕ)) → Came s P Q u v answer → s.request.session ≡ None
    → Appends w0 w1 (told P Q u v answer) → Written A (outcomes.Told answer.verdict) s known left w0 w1
Written-told s P Q u v answer None left w0 w1 c none wrote = tt
Written-told s P Q u v answer (Some script) left w0 w1 c none wrote = (
  told P Q u v answer ++ [],
  subst (λ (xs : List ℕ). Appends w0 w1 xs) (sym (append-nil (told P Q u v answer))) wrote,
  (
    comparison s P Q u v answer answer.verdict (lines_of script) [] c refl (no_answers s.request s.request.session P.program Q.program u v (lines_of script) none),
    if_none s.request.session (¬ IsTooLong script) none,
  ),
)

-- ---- a script was served

served_by : {A T : Type 0} (r : Result T IoFault) (verdict : Verdict) (first : SessionState A) (script : List ℕ) (left : Option (List ℕ)) (text : List ℕ) (now : SessionState A)
    → IsServed r first script left text now → IsServedBy (served_outcome r verdict) verdict first script left text
served_by (Ok x) verdict first script left text now p = (refl, (p.0.0, p.0.1, p.0.2), p.1)
served_by (Err Read) verdict first script left text now (read, taken, answered, goes) = (read, taken, (answered.0, answered.1, answered.2), goes)
served_by (Err Write) verdict first script left text now (all, answered, prefix, cut) = (all, answered, prefix)
served_by (Err TooLong) verdict first script left text now (answered, long) = ((answered.0, answered.1, answered.2), long)

-- what was served of a session that was made of a history
pub served_at : {A H T : Type 0} (wants : Bool) (program : H → Program A) (timeline : H → Timeline) (k : Kept H) (h : H) (limit : ℕ) (r : Result T IoFault) (verdict : Verdict) (outcome : Outcome) (known left w0 w1 : Option (List ℕ)) (now : SessionState A)
    → k ≡ record { history = h; stops = record { given = 0; kept = [] }; limit = limit } → outcome ≡ served_outcome r verdict
    → IfSome known (λ script. (text : List ℕ) × Appends w0 w1 text × IsServed r (session_state wants program timeline k) script left text now)
    → IsServedAt outcome verdict (session_on wants (program h) (timeline h) limit) known left w0 w1
served_at wants program timeline k h limit r verdict outcome None left w0 w1 now e is p = tt
served_at {A} {H} wants program timeline k h limit r verdict outcome (Some script) left w0 w1 now e is p = (
  p.0,
  p.1,
  subst (λ (x : Kept H). IsServedBy outcome verdict (session_state wants program timeline x) script left p.0) e
      (subst (λ (x : Outcome). IsServedBy x verdict (session_state wants program timeline k) script left p.0) (sym is) (served_by r verdict (session_state wants program timeline k) script left p.0 now p.2)),
)

untouched_served : {S T : Type 0} (r : Result T IoFault) (verdict : Verdict) (old new : S) → IsUntouched (served_outcome r verdict) old new
untouched_served (Ok x) verdict old new = tt
untouched_served (Err Read) verdict old new = tt
untouched_served (Err Write) verdict old new = tt
untouched_served (Err TooLong) verdict old new = tt

-- of what is answered of a script none says that nothing was read
pub untouched_by : {S T : Type 0} (r : Result T IoFault) (verdict : Verdict) (outcome : Outcome) (old new : S) → outcome ≡ served_outcome r verdict → IsUntouched outcome old new
untouched_by r verdict outcome old new e = subst (λ (x : Outcome). IsUntouched x old new) (sym e) (untouched_served r verdict old new)

ran_served : {T : Type 0} (r : Result T IoFault) (verdict : Verdict) → served_outcome r verdict ≢ outcomes.Refused
ran_served (Ok x) verdict e = absurd cc
ran_served (Err Read) verdict e = absurd cc
ran_served (Err Write) verdict e = absurd cc
ran_served (Err TooLong) verdict e = absurd cc

pub ran_by : {T : Type 0} (r : Result T IoFault) (verdict : Verdict) (outcome : Outcome) → outcome ≡ served_outcome r verdict → outcome ≢ outcomes.Refused
ran_by r verdict outcome e is = ran_served r verdict (sym e ∙ is)

counts_served : {T : Type 0} (r : Result T IoFault) (verdict : Verdict) (a b c d : ℕ) → CountsServe r a b c d → CountsFaults (served_outcome r verdict) a b c d
counts_served (Ok x) verdict a b c d p = p
counts_served (Err Read) verdict a b c d p = p
counts_served (Err Write) verdict a b c d p = p
counts_served (Err TooLong) verdict a b c d p = p

pub counts_by : {T : Type 0} (r : Result T IoFault) (verdict : Verdict) (outcome : Outcome) (a b c d : ℕ) → outcome ≡ served_outcome r verdict → CountsServe r a b c d → CountsFaults outcome a b c d
counts_by r verdict outcome a b c d e p = subst (λ (x : Outcome). CountsFaults x a b c d) (sym e) (counts_served r verdict a b c d p)

-- no memory for the session, and nothing was written of the answers
pub unserved : {A : Type 0} (verdict : Verdict) (first : SessionState A) (known left w0 w1 : Option (List ℕ)) → w1 ≡ w0 → IsServedAt outcomes.Unserved verdict first known left w0 w1
unserved verdict first None left w0 w1 same = tt
unserved verdict first (Some script) left w0 w1 same = ([], subst (λ (w : Option (List ℕ)). Appends w0 w []) (sym same) (Appends-nil w0), refl)

there_answered : {A : Type 0} (o : Option (SessionState A)) (state : SessionState A) (lines : List (List ℕ)) (text : List ℕ) → o ≡ Some state → sessions.IsAnswered state lines text → AreAnswers o lines text
there_answered {A} o state lines text e h = subst (λ (x : Option (SessionState A)). AreAnswers x lines text) (sym e) h

Leaves-served : {A : Type 0} (outcome : Outcome) (s : Setup) (P Q : accepted.Verdict A) (u v : Timeline) (answer : Answer) (state : SessionState A) (script : List ℕ) (left : Option (List ℕ)) (text : List ℕ) → Came s P Q u v answer
    → session_of s P Q u v ≡ Some state → IsServedBy outcome answer.verdict state script left text → Leaves A outcome s script left (told P Q u v answer ++ text)
Leaves-served (outcomes.Told verdict) s P Q u v answer state script left text c there p = (
  comparison s P Q u v answer verdict (lines_of script) text c (sym p.0) (there_answered (session_of s P Q u v) state (lines_of script) text there p.1),
  if_any s.request.session (¬ IsTooLong script) p.2,
)
Leaves-served outcomes.Refused s P Q u v answer state script left text c there p = absurd p
Leaves-served outcomes.Unserved s P Q u v answer state script left text c there p =
    (answer.verdict, comparison s P Q u v answer answer.verdict [] text c refl (there_answered (session_of s P Q u v) state [] text there ([], refl, p)))
Leaves-served outcomes.ReadFault s P Q u v answer state script left text c there (read, taken, answered, goes) = (
  answer.verdict,
  read,
  taken,
  comparison s P Q u v answer answer.verdict (whole_lines_of read) text c refl (there_answered (session_of s P Q u v) state (whole_lines_of read) text there answered),
  goes,
)
Leaves-served outcomes.WriteFault s P Q u v answer state script left text c there (all, answered, prefix) = (
  told P Q u v answer ++ all,
  inr (answer.verdict, comparison s P Q u v answer answer.verdict (lines_of script) all c refl (there_answered (session_of s P Q u v) state (lines_of script) all there answered)),
  (prefix.0, ap (λ xs. told P Q u v answer ++ xs) prefix.1 ∙ sym (append_assoc (told P Q u v answer) text prefix.0)),
)
Leaves-served outcomes.TooLong s P Q u v answer state script left text c there (answered, long) = (
  answer.verdict,
  comparison s P Q u v answer answer.verdict (whole_lines_of (take (2 ^ 24) script)) text c refl
      (there_answered (session_of s P Q u v) state (whole_lines_of (take (2 ^ 24) script)) text there answered),
  long,
)
Leaves-served outcomes.Memory s P Q u v answer state script left text c there p = absurd p

pub Written-served : {A : Type 0} (outcome : Outcome) (s : Setup) (P Q : accepted.Verdict A) (u v : Timeline) (answer : Answer) (state : SessionState A) (known left w0 w1 w2 : Option (List ℕ)) → Came s P Q u v answer
    → session_of s P Q u v ≡ Some state → Appends w0 w1 (told P Q u v answer)
    → IsServedAt outcome answer.verdict state known left w1 w2 → Written A outcome s known left w0 w2
Written-served outcome s P Q u v answer state None left w0 w1 w2 c there wrote p = tt
Written-served outcome s P Q u v answer state (Some script) left w0 w1 w2 c there wrote p = (
  told P Q u v answer ++ p.0,
  Appends-append w0 w1 w2 (told P Q u v answer) p.0 wrote p.1,
  Leaves-served outcome s P Q u v answer state script left p.0 c there p.2,
)

-- a side that a session is asked of keeps as many moves as the bound
keeps_good : (bound : Option ℕ) → keeps bound (Some Good) Good ≡ bound
keeps_good None = refl
keeps_good (Some n) = refl

keeps_bad : (bound : Option ℕ) → keeps bound (Some Bad) Bad ≡ bound
keeps_bad None = refl
keeps_bad (Some n) = refl

-- the session is on the side of its name, at its program
pub there_good : {A : Type 0} (s : Setup) (P Q : accepted.Verdict A) (first : State) (k : ℕ) (v : Timeline) (p : Program A) → s.request.session ≡ Some Good → p ≡ P.program
    → session_of s P Q (good_there s P first k) v ≡ Some (session_on (is_some s.request.bound) p (moved p k (begun s.request.bound first)) s.request.limit)
there_good {A} s P Q first k v p e same =
    let r : Request = s.request in
    let keeps_is : keeps r.bound r.session Good ≡ r.bound = ap (λ (o : Option SideName). keeps r.bound o Good) e ∙ keeps_good r.bound in
    ap (λ (o : Option SideName). session_there r o P.program Q.program (good_there s P first k) v) e
    ∙ (λ i. Some (session_on (is_some r.bound) (sym same i) (moved (sym same i) k (begun (keeps_is i) first)) r.limit))

pub there_bad : {A : Type 0} (s : Setup) (P Q : accepted.Verdict A) (second : State) (k : ℕ) (u : Timeline) (q : Program A) → s.request.session ≡ Some Bad → q ≡ Q.program
    → session_of s P Q u (bad_there s Q second k) ≡ Some (session_on (is_some s.request.bound) q (moved q k (begun s.request.bound second)) s.request.limit)
there_bad {A} s P Q second k u q e same =
    let r : Request = s.request in
    let keeps_is : keeps r.bound r.session Bad ≡ r.bound = ap (λ (o : Option SideName). keeps r.bound o Bad) e ∙ keeps_bad r.bound in
    ap (λ (o : Option SideName). session_there r o P.program Q.program u (bad_there s Q second k)) e
    ∙ (λ i. Some (session_on (is_some r.bound) (sym same i) (moved (sym same i) k (begun (keeps_is i) second)) r.limit))

-- ---- from the report of two programs that were started

pub record Here {A : Type 0} (s : Setup) (P Q : accepted.Verdict A) (first second : State) (k j : ℕ) (answer : Answer) (text : List ℕ) : Type 0 where
  pub here : Came s P Q (good_there s P first k) (bad_there s Q second j) answer
  pub told_is : text ≡ told P Q (good_there s P first k) (bad_there s Q second j) answer

pub here_of : {A : Type 0} (one two : Text) (r : Request) (P Q : accepted.Verdict A) (p q x y : Program A) (first second : State) (k j : ℕ) (answer : Answer) (text : List ℕ) → Accepts one.bytes.now P → Accepts two.bytes.now Q → p ≡ P.program → q ≡ Q.program → x ≡ p → y ≡ q
    → start_of p r.func.now r.args.now ≡ Ok first → start_of q r.func.now r.args.now ≡ Ok second → IsReported r x y first second k j answer text → Here (setup_of one two r) P Q first second k j answer text
here_of {A} one two r P Q p q x y first second k j answer text good bad ep eq ex ey es et report =
    let s : Setup = setup_of one two r in
    let begin : Begin s P Q first second = record {
      good_begins = record { accepts = good; starts = ap (λ (z : Program A). start_of z r.func.now r.args.now) (sym ep) ∙ es };
      bad_begins = record { accepts = bad; starts = ap (λ (z : Program A). start_of z r.func.now r.args.now) (sym eq) ∙ et };
    } in
    let same : IsReported r P.program Q.program first second k j answer text = reported_as r x y P.program Q.program first second k j answer text (ex ∙ ep) (ey ∙ eq) report in
    record {
      here = came s P Q first second k j answer text begin same;
      told_is = same.told (good_setup s).keeps (bad_setup s).keeps;
    }

pub here_cut : {A : Type 0} (s : Setup) (P Q : accepted.Verdict A) (first second : State) (k j : ℕ) (answer : Answer) (text : List ℕ) (known left w0 w1 : Option (List ℕ)) → Here s P Q first second k j answer text
    → ((prefix : List ℕ) × IsPrefixOf prefix text × Appends w0 w1 prefix) → Written A outcomes.WriteFault s known left w0 w1
here_cut s P Q first second k j answer text known left w0 w1 at cut =
    Written-cut s P Q (good_there s P first k) (bad_there s Q second j) answer known left w0 w1 at.here (cut_as w0 w1 text _ at.told_is cut)

pub here_told : {A : Type 0} (s : Setup) (P Q : accepted.Verdict A) (first second : State) (k j : ℕ) (answer : Answer) (text : List ℕ) (known left w0 w1 : Option (List ℕ)) → Here s P Q first second k j answer text → s.request.session ≡ None
    → Appends w0 w1 text → Written A (outcomes.Told answer.verdict) s known left w0 w1
here_told s P Q first second k j answer text known left w0 w1 at none wrote =
    Written-told s P Q (good_there s P first k) (bad_there s Q second j) answer known left w0 w1 at.here none (wrote_as w0 w1 text _ at.told_is wrote)

pub here_good : {A : Type 0} (outcome : Outcome) (s : Setup) (P Q : accepted.Verdict A) (p : Program A) (first second : State) (k j : ℕ) (answer : Answer) (text : List ℕ) (known left w0 w1 w2 : Option (List ℕ)) → Here s P Q first second k j answer text
    → s.request.session ≡ Some Good → p ≡ P.program → Appends w0 w1 text
    → IsServedAt outcome answer.verdict (session_on (is_some s.request.bound) p (moved p k (begun s.request.bound first)) s.request.limit) known left w1 w2 → Written A outcome s known left w0 w2
here_good outcome s P Q p first second k j answer text known left w0 w1 w2 at session ep wrote served =
    Written-served outcome s P Q (good_there s P first k) (bad_there s Q second j) answer (session_on (is_some s.request.bound) p (moved p k (begun s.request.bound first)) s.request.limit) known left w0 w1 w2
    at.here (there_good s P Q first k (bad_there s Q second j) p session ep) (wrote_as w0 w1 text _ at.told_is wrote) served

pub here_bad : {A : Type 0} (outcome : Outcome) (s : Setup) (P Q : accepted.Verdict A) (q : Program A) (first second : State) (k j : ℕ) (answer : Answer) (text : List ℕ) (known left w0 w1 w2 : Option (List ℕ)) → Here s P Q first second k j answer text
    → s.request.session ≡ Some Bad → q ≡ Q.program → Appends w0 w1 text
    → IsServedAt outcome answer.verdict (session_on (is_some s.request.bound) q (moved q j (begun s.request.bound second)) s.request.limit) known left w1 w2 → Written A outcome s known left w0 w2
here_bad outcome s P Q q first second k j answer text known left w0 w1 w2 at session eq wrote served =
    Written-served outcome s P Q (good_there s P first k) (bad_there s Q second j) answer (session_on (is_some s.request.bound) q (moved q j (begun s.request.bound second)) s.request.limit) known left w0 w1 w2
    at.here (there_bad s P Q second j (good_there s P first k) q session eq) (wrote_as w0 w1 text _ at.told_is wrote) served

-- ---- nothing was written

-- nothing was taken of the source
pub few_none : (known : Option (List ℕ)) → IfSome known (λ script. TakesFew script known)
few_none None = tt
few_none (Some script) = ([], Consumes-nil (Some script), omega arith)

pub Written-memory : (A : Type 0) (s : Setup) (known left w0 w1 : Option (List ℕ)) → w1 ≡ w0 → Written A outcomes.Memory s known left w0 w1
Written-memory A s None left w0 w1 same = tt
Written-memory A s (Some script) left w0 w1 same = ([], subst (λ (w : Option (List ℕ)). Appends w0 w []) (sym same) (Appends-nil w0), refl)
