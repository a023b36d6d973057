-- A line that was answered sets what a request names, and one that isn't taken sets nothing.
use Rattle.std.proofs.Common.{◌≡◌, refl, sym, ap, subst, ◌∙◌, ℕ, ◌+◌, ◌<◌, List, [], ◌∷◌, Option, Some, None, true, Result, Ok, Err, inl, inr, arith}
use Rattle.std.specs.Prelude.{◌⊎◌, ◌≤◌, Bool, codes, length}
use Rattle.std.proofs.lemmas.Bool.{false≢true}
use Rattle.qil_tree.specs.declared.tree.Program.{Program}
use Rattle.qil_tree.specs.declared.ops.Width.{Width}
use Rattle.qil_tree.specs.declared.ops.Width.TheVariants as widths
use Rattle.qil_layout.specs.Layout.{width_bytes}
use Rattle.qil_commands.specs.Command.{command_of}
use Rattle.qil_commands.specs.Numbers.{address_of, is_name, value_of}
use Rattle.qil_commands.specs.Words.{words_of}
use Rattle.qil_commands.specs.declared.command.Address.{Address}
use Rattle.qil_commands.specs.declared.command.Address.TheVariants as addresses
use Rattle.qil_commands.specs.declared.command.Command.{Command}
use Rattle.qil_commands.specs.declared.command.Command.TheVariants as commands
use Rattle.qil_commands.specs.declared.command.Refused.{Refused}
use Rattle.qil_semantics.specs.Poke.{PokeFault, no_frame, poke_frames, poke_memory, poke_temp}
use Rattle.qil_semantics.specs.State.{State}
use Rattle.qil_frames.specs.Frames.{SlotFrame}
use Rattle.qil_state.specs.State.{Whole, frames_state, state_of}
use Rattle.qrev_map.specs.declared.names.FloatClass.{FloatClass}
use Rattle.qrev_views.specs.Variables.{width_letter}
use Rattle.qrev_debuggee.specs.Moves.{LineFails, Recorded}
use Rattle.qrev_inspection.specs.Taken.{IsNotTaken, IsToldOf, Takes}
use Rattle.qrev_debuggee.specs.declared.failure.Failure.{Failure}
use Rattle.qrev_debuggee.specs.declared.failure.Failure.TheVariants as failures
use Rattle.qrev_debuggee.specs.declared.failure.Cause.TheVariants as causes
use Rattle.qrev_debuggee.specs.qrev_recorder.qil_replies.Answers.{is_quit}
use Rattle.qrev_debuggee.specs.qrev_recorder.declared.done.LineError.TheVariants as errors
use Rattle.qrev_debuggee.specs.qrev_recorder.qil_replies.SessionState.{SessionState, resolved_address}
use Rattle.qrev_debuggee.specs.qrev_recorder.Done.{IsDone}
use Rattle.qrev_debuggee.specs.qrev_recorder.declared.done.Done.{Done}
use Rattle.qrev_inspection.specs.Setting.{AreWords, IsPoked, PokesOnce, RefusesNamed, RefusesTemp, SetsData, SetsNamed, SetsTemp, Stays, poke_at_line, poke_line, set_line, without}
use Rattle.qrev_inspection.proofs.Poked.{err_left, err_not_taken, line_left, poke_left, poke_taken, set_left, set_refused, set_taken}
use Rattle.qrev_inspection.proofs.Spelling.{at_says, data_says, global_word, named_global, set_is_line, set_says, set_spelled}

-- words of a number that a text says
same_number : (names text words : List ℕ) (float : Option FloatClass) → (names ≡ [] → float ≡ None) → AreWords float text words → names ≡ [] → (n : ℕ) → value_of text ≡ Some n → value_of words ≡ Some n
same_number names text words float plain are none n says = subst (λ (t : List ℕ). value_of t ≡ Some n) (sym (are (plain none) n says)) says

-- ---- temporaries

pub temp_is_set : {A : Type 0} (old new : Recorded A) (names name text plain words : List ℕ) (float : Option FloatClass) (done : Done) → Takes old new (set_line plain words) done → (names ≡ [] → plain ≡ without 37 name)
    → (names ≡ [] → float ≡ None) → AreWords float text words → SetsTemp old.session new.session names name text
temp_is_set {A} old new names name text plain words float done takes named unfloated are = elim (set_says plain words) [
  | inl (refused, e) ↦ absurd (err_not_taken old.session new.session old.transcript new.transcript refused done (subst (λ said. IsDone old.session new.session old.transcript new.transcript said done) e takes.answered) takes.taken)
  | inr (x, v, e, is_x, is_v) ↦ record {
    temp = x;
    value = v;
    poked = set_taken old.session new.session old.transcript new.transcript x v done (subst (λ said. IsDone old.session new.session old.transcript new.transcript said done) e takes.answered) takes.taken;
    is_named = λ none is. is_x (subst (λ (n : List ℕ). is_name n ≡ true) (sym (named none)) is) ∙ named none;
    is_value = λ none n says. is_v n (same_number names text words float unfloated are none n says);
  }
]

set_stays : {A : Type 0} (old new : Recorded A) (plain words : List ℕ) (why : Failure) (done : Done) → IsDone old.session new.session old.transcript new.transcript (command_of (set_line plain words)) done
    → (from : ℕ) → IsToldOf done from why → new.session ≡ old.session
set_stays {A} old new plain words why done answered from told = elim (set_says plain words) [
  | inl (refused, e) ↦ err_left old.session new.session old.transcript new.transcript refused done (subst (λ said. IsDone old.session new.session old.transcript new.transcript said done) e answered)
  | inr (x, v, e, is_x, is_v) ↦ set_left old.session new.session old.transcript new.transcript x v done from why (subst (λ said. IsDone old.session new.session old.transcript new.transcript said done) e answered) told
]

pub temp_stays : {A : Type 0} (old new : Recorded A) (plain words : List ℕ) (why : Failure) → IsNotTaken old new (set_line plain words) why → Stays old.session new.session why
temp_stays old new plain words why (inl fails) = line_left old new (set_line plain words) why fails
temp_stays old new plain words why (inr leaves) = inr (set_stays old new plain words why leaves.done leaves.answered _ leaves.told)

-- why a name and a number aren't set
fails_so : {A : Type 0} (old new : Recorded A) (name text : List ℕ) (n : ℕ) (why : Failure) → is_name name ≡ true → value_of text ≡ Some n → command_of (set_line name text) ≡ Ok (Some (commands.Set name n)) → LineFails old new (set_line name text) why
    → (why ≡ failures.OutOfMemory) ⊎ (why ≡ failures.Because causes.ScriptFull)
fails_so old new name text n why is says spelled (errors.Newline, e, unanswered, stays) = absurd (unanswered (set_is_line name text n is says))
fails_so old new name text n why is says spelled (errors.Quit, e, unanswered, stays) = absurd (false≢true (sym (ap is_quit spelled) ∙ unanswered))
fails_so old new name text n why is says spelled (errors.Full, e, unanswered, stays) = inr e
fails_so old new name text n why is says spelled (errors.OutOfMemory, e, unanswered, stays) = inl e

refused_so : {A : Type 0} (old new : Recorded A) (name text : List ℕ) (n : ℕ) (why : Failure) → is_name name ≡ true → value_of text ≡ Some n → length (set_line name text) ≤ 256 → IsNotTaken old new (set_line name text) why
    → (why ≡ failures.OutOfMemory) ⊎ ((why ≡ failures.Because causes.NoMemory) ⊎ ((why ≡ failures.Because causes.ScriptFull) ⊎ ((fault : PokeFault) × (poke_temp old.session.program old.session.timeline.now name n ≡ Err fault))))
refused_so old new name text n why is says few (inl fails) = elim (fails_so old new name text n why is says (set_spelled name text n is says few) fails) [
  | inl memory ↦ inl memory
  | inr full ↦ inr (inr (inl full))
]
refused_so {A} old new name text n why is says few (inr leaves) =
    let answered = subst (λ said. IsDone old.session new.session old.transcript new.transcript said leaves.done) (set_spelled name text n is says few) leaves.answered in
    elim (set_refused old.session new.session old.transcript new.transcript name n leaves.done _ why answered leaves.told) [
      | inl memory ↦ inr (inl memory)
      | inr fault ↦ inr (inr (inr fault))
    ]

pub temp_refused : {A : Type 0} (old new : Recorded A) (names name text plain words : List ℕ) (float : Option FloatClass) (why : Failure) → IsNotTaken old new (set_line plain words) why → (names ≡ [] → plain ≡ without 37 name)
    → (names ≡ [] → float ≡ None) → AreWords float text words → RefusesTemp old.session names name text why
temp_refused {A} old new names name text plain words float why fails named unfloated are none is n says few =
    let same : set_line plain words ≡ set_line (without 37 name) text = (λ i. set_line (named none i) (are (unfloated none) n says i)) in
    refused_so old new (without 37 name) text n why is says few (subst (λ (line : List ℕ). IsNotTaken old new line why) same fails)

-- ---- data

letter_word : (w : Width) → words_of (width_letter w) ≡ width_letter w ∷ []
letter_word widths.B = refl
letter_word widths.H = refl
letter_word widths.W = refl
letter_word widths.L = refl

one_letter : (w : Width) (letter : List ℕ) → letter ≡ width_letter w → words_of letter ≡ letter ∷ []
one_letter w letter is = subst (λ (l : List ℕ). words_of l ≡ l ∷ []) (sym is) (letter_word w)

pub data_is_set : {A : Type 0} (old new : Recorded A) (names name text words letter : List ℕ) (w : Width) (float : Option FloatClass) (done : Done) → Takes old new (poke_line letter (without 36 name) words) done → letter ≡ width_letter w
    → (names ≡ [] → float ≡ None) → AreWords float text words → SetsData old.session new.session names name text
data_is_set {A} old new names name text words letter w float done takes lettered unfloated are = elim (data_says letter (without 36 name) words (one_letter w letter lettered)) [
  | inl (refused, e) ↦ absurd (err_not_taken old.session new.session old.transcript new.transcript refused done (subst (λ said. IsDone old.session new.session old.transcript new.transcript said done) e takes.answered) takes.taken)
  | inr (width, at, v, e, is_at, is_v) ↦
      let made = poke_taken old.session new.session old.transcript new.transcript width at v done (subst (λ said. IsDone old.session new.session old.transcript new.transcript said done) e takes.answered) takes.taken in
      record {
        width = width;
        address = made.0;
        value = v;
        poked = made.2;
        is_named = λ is. subst (λ (a : Address). resolved_address old.session.program a ≡ Some made.0) (is_at (addresses.Global (without 36 name) 0) (global_word (without 36 name) is) (named_global (without 36 name) is)) made.1;
        is_value = λ none n says. is_v n (same_number names text words float unfloated are none n says);
      }
]

pub data_set_by : {A : Type 0} (old new : Recorded A) (names name text plain words letter : List ℕ) (w : Width) (float : Option FloatClass) (done : Done) → Takes old new (poke_line letter plain words) done → plain ≡ without 36 name → letter ≡ width_letter w
    → (names ≡ [] → float ≡ None) → AreWords float text words → SetsData old.session new.session names name text
data_set_by {A} old new names name text plain words letter w float done takes same lettered unfloated are =
    data_is_set old new names name text words letter w float done (subst (λ (p : List ℕ). Takes old new (poke_line letter p words) done) same takes) lettered unfloated are

poke_stays : {A : Type 0} (old new : Recorded A) (letter plain words : List ℕ) (why : Failure) (done : Done) → words_of letter ≡ letter ∷ [] → IsDone old.session new.session old.transcript new.transcript (command_of (poke_line letter plain words)) done
    → (from : ℕ) → IsToldOf done from why → new.session ≡ old.session
poke_stays {A} old new letter plain words why done single answered from told = elim (data_says letter plain words single) [
  | inl (refused, e) ↦ err_left old.session new.session old.transcript new.transcript refused done (subst (λ said. IsDone old.session new.session old.transcript new.transcript said done) e answered)
  | inr (width, at, v, e, is_at, is_v) ↦ poke_left old.session new.session old.transcript new.transcript width at v done from why (subst (λ said. IsDone old.session new.session old.transcript new.transcript said done) e answered) told
]

pub data_stays : {A : Type 0} (old new : Recorded A) (letter plain words : List ℕ) (w : Width) (why : Failure) → letter ≡ width_letter w → IsNotTaken old new (poke_line letter plain words) why → Stays old.session new.session why
data_stays old new letter plain words w why lettered (inl fails) = line_left old new (poke_line letter plain words) why fails
data_stays old new letter plain words w why lettered (inr leaves) = inr (poke_stays old new letter plain words why leaves.done (one_letter w letter lettered) leaves.answered _ leaves.told)

-- ---- memory

pub memory_is_set : {A : Type 0} (old new : Recorded A) (letter words : List ℕ) (a : ℕ) (w : Width) (done : Done) → Takes old new (poke_at_line letter a words) done → letter ≡ width_letter w → PokesOnce old.session new.session
memory_is_set {A} old new letter words a w done takes lettered = elim (at_says letter a words (one_letter w letter lettered)) [
  | inl (refused, e) ↦ absurd (err_not_taken old.session new.session old.transcript new.transcript refused done (subst (λ said. IsDone old.session new.session old.transcript new.transcript said done) e takes.answered) takes.taken)
  | inr (width, at, v, e, is_at, is_v) ↦
      let made = poke_taken old.session new.session old.transcript new.transcript width at v done (subst (λ said. IsDone old.session new.session old.transcript new.transcript said done) e takes.answered) takes.taken in
      inr (made.0, width, v, made.2)
]

at_stays : {A : Type 0} (old new : Recorded A) (letter words : List ℕ) (a : ℕ) (why : Failure) (done : Done) → words_of letter ≡ letter ∷ [] → IsDone old.session new.session old.transcript new.transcript (command_of (poke_at_line letter a words)) done
    → (from : ℕ) → IsToldOf done from why → new.session ≡ old.session
at_stays {A} old new letter words a why done single answered from told = elim (at_says letter a words single) [
  | inl (refused, e) ↦ err_left old.session new.session old.transcript new.transcript refused done (subst (λ said. IsDone old.session new.session old.transcript new.transcript said done) e answered)
  | inr (width, at, v, e, is_at, is_v) ↦ poke_left old.session new.session old.transcript new.transcript width at v done from why (subst (λ said. IsDone old.session new.session old.transcript new.transcript said done) e answered) told
]

pub memory_stays : {A : Type 0} (old new : Recorded A) (letter words : List ℕ) (a : ℕ) (w : Width) (why : Failure) → letter ≡ width_letter w → IsNotTaken old new (poke_at_line letter a words) why → Stays old.session new.session why
memory_stays old new letter words a w why lettered (inl fails) = line_left old new (poke_at_line letter a words) why fails
memory_stays old new letter words a w why lettered (inr leaves) = inr (at_stays old new letter words a why leaves.done (one_letter w letter lettered) leaves.answered _ leaves.told)

-- a temporary that was set is one poke
pub temp_is_poked : {A : Type 0} (old new : SessionState A) (names name text : List ℕ) → SetsTemp old new names name text → PokesOnce old new
temp_is_poked old new names name text set = inl (set.temp, set.value, set.poked)

-- ---- no frame

bare : (fs : List SlotFrame) → length fs < 1 → fs ≡ []
bare [] few = refl
bare (f ∷ fs) few = absurd (omega (arith, few))

-- where no call is open no temporary can be set
pub none_poked : {A : Type 0} (w : Whole A) (p : Program A) (s : State) (x : List ℕ) (v : ℕ) → state_of w ≡ s → length w.frames < 1 → poke_temp p s x v ≡ Err no_frame
none_poked {A} w p s x v now few = subst (λ (t : State). poke_temp p t x v ≡ Err no_frame) now (ap (λ (fs : List SlotFrame). poke_frames p (state_of w) (frames_state w.program fs) x v) (bare w.frames few))

-- ---- a request

-- the reference of the data isn't that of the innermost frame
pub data_apart : (reference : ℕ) → reference ≡ 1073741825 → reference ≡ 1 → ⊥
data_apart reference data_said one = omega (arith, data_said, one)

pub set_as : {A : Type 0} (old new : SessionState A) (names : List ℕ) (reference : ℕ) (n m t u : List ℕ) → n ≡ m → t ≡ u → SetsNamed old new names reference n t → SetsNamed old new names reference m u
set_as old new names reference n m t u name text set = subst (λ (x : List ℕ). SetsNamed old new names reference x u) name (subst (λ (y : List ℕ). SetsNamed old new names reference n y) text set)

pub refused_as : {A : Type 0} (old : SessionState A) (names : List ℕ) (reference : ℕ) (n m t u : List ℕ) (why : Failure) → n ≡ m → t ≡ u → RefusesNamed old names reference n t why → RefusesNamed old names reference m u why
refused_as old names reference n m t u why name text refused = subst (λ (x : List ℕ). RefusesNamed old names reference x u why) name (subst (λ (y : List ℕ). RefusesNamed old names reference n y why) text refused)
