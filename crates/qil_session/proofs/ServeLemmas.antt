-- How far `serve` has come.
use Rattle.std.proofs.Common.{◌≡◌, inl, inr, ◌⊎◌, ℕ, ◌+◌, ◌-◌, ◌≤◌, ◌<◌, ◌^◌, List, [], ◌∷◌, ◌++◌, take, length, arith, sym, ◌∙◌, ap, refl, true, false, cond, append_assoc, length-append}
use Rattle.std.specs.Prelude.{Option, Some, None, Result, Ok, Err}
use Rattle.std.proofs.lemmas.List.{append-nil}
use Rattle.std.proofs.lemmas.Bool.{true≢false, false≢true}
use Rattle.std.proofs.lemmas.List.Folds.{list_any-append}
use Rattle.qil_commands.specs.declared.command.Command.{Command}
use Rattle.qil_commands.specs.declared.command.Command.TheVariants as commands
use Rattle.qil_commands.specs.declared.command.Refused.{Refused}
use Rattle.qil_commands.specs.Command.{command_of}
use Rattle.qil_streams.specs.Reader.{IsLine}
use Rattle.qil_streams.specs.Script.{lines_of, whole_lines_of}
use Rattle.qil_replies.specs.Reply.{reply_text}
use Rattle.qil_replies.specs.SessionState.{SessionState}
use Rattle.qil_session.specs.AnsweredLine.{AnswersLine}
use Rattle.qil_replies.specs.Answers.{answer, answer_text, answers, AreValid, IsValid, IsAnswered, IsAnsweredTo, is_quit, quits}
use Rattle.std.specs.Prelude.{IfSome, IsErrAnd, OnOk}
use Rattle.std.specs.Io.KnownBytes.{Consumes, Appends, IsAtEnd, prepend_known}
use Rattle.qil_session.specs.declared.serving.IoFault.{IoFault}
use Rattle.qil_session.specs.declared.serving.IoFault.TheVariants.{Read, Write, TooLong}
use Rattle.qil_streams.specs.Reader.{HasMore}
use Rattle.qil_streams.proofs.DeviceLemmas.{Appends-nil, Appends-append, Consumes-nil, Consumes-append}
use Rattle.qil_streams.specs.Device.{IsPrefixOf}
use Rattle.std.proofs.Common.{subst}
use Rattle.std.proofs.Math.Seq.{take-append_seam, take-append-add}
use Rattle.qil_session.specs.declared.session.Next.{Next}
use Rattle.qil_session.specs.Serve.{AreServed, one_alone, both, IsServed, IsCutShort, IsTooLong}
use Rattle.qil_streams.proofs.ScriptLemmas.{WholeLines-line, WholeLines-whole_part, WholeLines-end, WholeLines-last}
use Rattle.qil_session.proofs.KeptLemmas.{command_of-kept}
use Rattle.qil_replies.specs.Reached.{Reported, Reached}
use Rattle.qil_replies.proofs.ReachedLemmas.{Reported-line, Reported-answered, none_valid, ample, either, Reached-nil, Reached-line}

-- a line that ends the session says `quit`
quit_is : (said : Result (Option Command) Refused) → is_quit said ≡ true → said ≡ Ok (Some commands.Quit)
quit_is (Ok (Some (commands.Step n))) h = absurd (false≢true h)
quit_is (Ok (Some (commands.Accesses n at m))) h = absurd (false≢true h)
quit_is (Ok (Some (commands.Counts n))) h = absurd (false≢true h)
quit_is (Ok (Some (commands.Frames n d))) h = absurd (false≢true h)
quit_is (Ok (Some (commands.Back n))) h = absurd (false≢true h)
quit_is (Ok (Some commands.Continue)) h = absurd (false≢true h)
quit_is (Ok (Some commands.Reverse)) h = absurd (false≢true h)
quit_is (Ok (Some (commands.Set x v))) h = absurd (false≢true h)
quit_is (Ok (Some (commands.Poke w at v))) h = absurd (false≢true h)
quit_is (Ok (Some (commands.Break func at))) h = absurd (false≢true h)
quit_is (Ok (Some (commands.WatchBytes w at))) h = absurd (false≢true h)
quit_is (Ok (Some (commands.WatchTemp func x))) h = absurd (false≢true h)
quit_is (Ok (Some (commands.Delete n))) h = absurd (false≢true h)
quit_is (Ok (Some commands.Stops)) h = absurd (false≢true h)
quit_is (Ok (Some (commands.Print x))) h = absurd (false≢true h)
quit_is (Ok (Some commands.Temps)) h = absurd (false≢true h)
quit_is (Ok (Some (commands.Mem at n))) h = absurd (false≢true h)
quit_is (Ok (Some commands.Where)) h = absurd (false≢true h)
quit_is (Ok (Some commands.List)) h = absurd (false≢true h)
quit_is (Ok (Some commands.Out)) h = absurd (false≢true h)
quit_is (Ok (Some commands.Quit)) h = refl
quit_is (Ok None) h = absurd (false≢true h)
quit_is (Err refusal) h = absurd (false≢true h)

quit_goes : {A : Type 0} (now : SessionState A) (said : Result (Option Command) Refused) → is_quit said ≡ true → (answer now said None).goes ≡ false
unfolding answer
quit_goes now said h = rw (quit_is said h) refl

quit_text : {A : Type 0} (now : SessionState A) (said : Result (Option Command) Refused) → is_quit said ≡ true → answer_text (answer now said None) ≡ []
unfolding answer reply_text
quit_text now said h = rw (quit_is said h) refl

quit_left : {A : Type 0} (now : SessionState A) (said : Result (Option Command) Refused) → is_quit said ≡ true → (answer now said None).left ≡ now
unfolding answer
quit_left now said h = rw (quit_is said h) refl

-- and, with a `quit` after them, any lines that follow
pub Reported-quit : {A : Type 0} (first : SessionState A) (before : List (List ℕ)) (shortages : List (Option ℕ)) (reported : List ℕ) (now : SessionState A) (line : List ℕ) (rest : List (List ℕ)) → Reported first before shortages reported now → is_quit (command_of line) ≡ true → IsAnsweredTo first (before ++ line ∷ rest) reported now
Reported-quit first before shortages reported now line rest r quit = (
  shortages ++ None ∷ [],
  r.valid (line ∷ rest) (None ∷ []) (none_valid now (command_of line), rw (quit_goes now (command_of line) quit) refl),
  sym (r.text (line ∷ rest) (None ∷ []) ∙ rw (quit_goes now (command_of line) quit, quit_text now (command_of line) quit) (append-nil reported)),
  sym (r.left (line ∷ rest) (None ∷ []) ∙ rw (quit_goes now (command_of line) quit) (quit_left now (command_of line) quit)),
)

-- what is left of the text of a line, and of the answers to any lines that follow
pub Reported-prefix : {A : Type 0} (first : SessionState A) (before : List (List ℕ)) (shortages : List (Option ℕ)) (reported : List ℕ) (now : SessionState A) (line : List ℕ) (rest : List (List ℕ)) (shortage : Option ℕ) (prefix : List ℕ)
    → Reported first before shortages reported now → IsValid now (command_of line) shortage → IsPrefixOf prefix (answer_text (answer now (command_of line) shortage))
    → (all : List ℕ) × IsAnswered first (before ++ line ∷ rest) all × IsPrefixOf (reported ++ prefix) all
Reported-prefix first before shortages reported now line rest shortage prefix r valid is_prefix =
    let one = answer now (command_of line) shortage in
    let more = either one.goes (λ shortages. AreValid one.left rest shortages) (ample one.left rest) in (
      reported ++ answers now (line ∷ rest) (shortage ∷ more.0),
      (shortages ++ shortage ∷ more.0, r.valid (line ∷ rest) (shortage ∷ more.0) (valid, more.1), sym (r.text (line ∷ rest) (shortage ∷ more.0))),
      (
        is_prefix.0 ++ cond one.goes (answers one.left rest more.0) [],
        rw is_prefix.1 (simp append_assoc),
      ),
    )

-- where that was, and how the session is left
pub Reported-cut : {A : Type 0} (first : SessionState A) (before : List (List ℕ)) (shortages : List (Option ℕ)) (reported : List ℕ) (now : SessionState A) (line : List ℕ) (rest : List (List ℕ)) (shortage : Option ℕ) (prefix : List ℕ) (next : SessionState A) (lines : List (List ℕ))
    → lines ≡ before ++ line ∷ rest → Reported first before shortages reported now → IsValid now (command_of line) shortage → IsPrefixOf prefix (answer_text (answer now (command_of line) shortage))
    → next ≡ (answer now (command_of line) shortage).left
    → IsCutShort first lines (reported ++ prefix) next
Reported-cut first before shortages reported now line rest shortage prefix next lines are r valid is_prefix is_next = record {
  before = before;
  line = line;
  after = rest;
  lines_are = are;
  goes = r.goes;
  reported = reported;
  there = now;
  answered = Reported-answered first before shortages reported now r;
  shortage = shortage;
  valid = valid;
  prefix = prefix;
  is_prefix = is_prefix;
  text_is = refl;
  now_is = is_next;
}

-- Where a loop over the lines stands: what it took of the script, and what it wrote.
pub record Standing {A : Type 0} (first : SessionState A) (known rest : Option (List ℕ)) (w0 w1 : Option (List ℕ)) (now : SessionState A) (given : ℕ) : Type 0 where
  pub done : List ℕ
  pub reported : List ℕ
  pub reached : Reached first done reported now
  pub taken : Consumes known rest done
  pub given_is : given ≡ length done
  pub wrote : Appends w0 w1 reported

-- what `serve` promises
abbrev pub Promise : {A T : Type 0} → Result T IoFault → SessionState A → Option (List ℕ) → Option (List ℕ) → Option (List ℕ) → Option (List ℕ) → SessionState A → Type 0
Promise r first known left w0 w1 now = IfSome known (λ script. (text : List ℕ) × Appends w0 w1 text × IsServed r first script left text now)

consumed_all : (script done : List ℕ) (rest : Option (List ℕ)) → Consumes (Some script) rest done → IsAtEnd rest → script ≡ done
consumed_all script done None p e = absurd p
consumed_all script done (Some ys) p e = p ∙ ap (λ v. done ++ v) e ∙ append-nil done

short_enough : (script : List ℕ) → length script ≤ 2 ^ 24 → IsTooLong script → ⊥
short_enough script le t = omega (arith, t.0)

pub Standing-start : {A : Type 0} (first : SessionState A) (known rest w : Option (List ℕ)) (given : ℕ) → rest ≡ known → given ≡ 0 → Standing first known rest w w first given
Standing-start first known rest w given e h = record {
  done = [];
  reported = [];
  reached = Reached-nil first;
  taken = rw e (Consumes-nil known);
  given_is = h;
  wrote = Appends-nil w;
}

pub Standing-line : {A : Type 0} (first : SessionState A) (known rest rest' w0 w1 w2 : Option (List ℕ)) (now next : SessionState A) (given given' : ℕ) (line : List ℕ) (shortage : Option ℕ)
    → Standing first known rest w0 w1 now given → IsLine line → Consumes rest rest' (line ++ 10 ∷ []) → given' ≡ given + (length line + 1)
    → is_quit (command_of line) ≡ false → IsValid now (command_of line) shortage → Appends w1 w2 (answer_text (answer now (command_of line) shortage))
    → next ≡ (answer now (command_of line) shortage).left
    → Standing first known rest' w0 w2 next given'
Standing-line first known rest rest' w0 w1 w2 now next given given' line shortage s is_line taken given_is no_quit valid wrote is_next =
    let text = answer_text (answer now (command_of line) shortage) in
    let size : length (s.done ++ (line ++ 10 ∷ [])) ≡ length s.done + (length line + 1) = length-append s.done (line ++ 10 ∷ []) ∙ ap (λ v. length s.done + v) (length-append line (10 ∷ [])) in
    record {
      done = s.done ++ (line ++ 10 ∷ []);
      reported = s.reported ++ text;
      reached = Reached-line first s.done s.reported now line shortage text next s.reached is_line no_quit valid refl is_next;
      taken = Consumes-append known rest rest' s.done (line ++ 10 ∷ []) s.taken taken;
      given_is = omega (arith, given_is, s.given_is, size);
      wrote = Appends-append w0 w1 w2 s.reported text s.wrote wrote;
    }

-- the end of the script
pub Promise-end : {A T : Type 0} (v : T) (first : SessionState A) (known rest rest' left w0 w1 : Option (List ℕ)) (now : SessionState A) (given given' : ℕ)
    → Standing first known rest w0 w1 now given → Consumes rest rest' [] → IsAtEnd rest' → given' ≡ given → given' ≤ 2 ^ 24
    → Promise (Ok v) first known left w0 w1 now
Promise-end v first None rest rest' left w0 w1 now given given' s taken end same le = tt
Promise-end v first (Some script) rest rest' left w0 w1 now given given' s taken end same le =
    let all = Consumes-append (Some script) rest rest' s.done [] s.taken taken in
    let is : script ≡ s.done = consumed_all script (s.done ++ []) rest' all end ∙ append-nil s.done in
    let size : length script ≤ 2 ^ 24 = omega (arith, ap length is, s.given_is) in (
      s.reported,
      s.wrote,
      (
        rw is (rw (WholeLines-end s.done s.reached.before s.reached.whole_lines) (Reported-answered first s.reached.before s.reached.shortages s.reported now s.reached.so_far)),
        short_enough script size,
      ),
    )

-- a last line without byte 10
pub Promise-last : {A T : Type 0} (v : T) (first : SessionState A) (known rest rest' left w0 w1 w2 : Option (List ℕ)) (now next : SessionState A) (given given' : ℕ) (line : List ℕ) (shortage : Option ℕ)
    → Standing first known rest w0 w1 now given → IsLine line → 0 < length line → Consumes rest rest' line → IsAtEnd rest' → given' ≡ given + length line → given' ≤ 2 ^ 24
    → is_quit (command_of line) ≡ false → IsValid now (command_of line) shortage → Appends w1 w2 (answer_text (answer now (command_of line) shortage))
    → next ≡ (answer now (command_of line) shortage).left
    → Promise (Ok v) first known left w0 w2 next
Promise-last v first None rest rest' left w0 w1 w2 now next given given' line shortage s is_line some taken end given_is le no_quit valid wrote is_next = tt
Promise-last v first (Some script) rest rest' left w0 w1 w2 now next given given' line shortage s is_line some taken end given_is le no_quit valid wrote is_next =
    let text = answer_text (answer now (command_of line) shortage) in
    let r = s.reached in
    let is : script ≡ s.done ++ line = consumed_all script (s.done ++ line) rest' (Consumes-append (Some script) rest rest' s.done line s.taken taken) end in
    let size : length script ≤ 2 ^ 24 = omega (arith, ap length is, s.given_is, given_is, length-append s.done line) in (
      s.reported ++ text,
      Appends-append w0 w1 w2 s.reported text s.wrote wrote,
      (
        rw is (rw (WholeLines-last s.done r.before line r.whole_lines is_line some)
            (Reported-answered first (r.before ++ line ∷ []) (r.shortages ++ shortage ∷ []) (s.reported ++ text) next
            (Reported-line first r.before r.shortages s.reported now line shortage text next r.so_far no_quit valid refl is_next))),
        short_enough script size,
      ),
    )

-- a last line that quits
pub Promise-last_quit : {A T : Type 0} (v : T) (first : SessionState A) (known rest rest' left w0 w1 : Option (List ℕ)) (now : SessionState A) (given given' : ℕ) (line : List ℕ)
    → Standing first known rest w0 w1 now given → IsLine line → 0 < length line → Consumes rest rest' line → IsAtEnd rest' → given' ≡ given + length line → given' ≤ 2 ^ 24
    → is_quit (command_of line) ≡ true
    → Promise (Ok v) first known left w0 w1 now
Promise-last_quit v first None rest rest' left w0 w1 now given given' line s is_line some taken end given_is le quit = tt
Promise-last_quit v first (Some script) rest rest' left w0 w1 now given given' line s is_line some taken end given_is le quit =
    let r = s.reached in
    let is : script ≡ s.done ++ line = consumed_all script (s.done ++ line) rest' (Consumes-append (Some script) rest rest' s.done line s.taken taken) end in
    let size : length script ≤ 2 ^ 24 = omega (arith, ap length is, s.given_is, given_is, length-append s.done line) in (
      s.reported,
      s.wrote,
      (
        rw is (rw (WholeLines-last s.done r.before line r.whole_lines is_line some) (Reported-quit first r.before r.shortages s.reported now line [] r.so_far quit)),
        short_enough script size,
      ),
    )

pub prepend_none : (pending : List ℕ) (left : Option (List ℕ)) → pending ≡ [] → prepend_known pending left ≡ left
prepend_none pending None e = refl
prepend_none pending (Some xs) e = rw e refl

-- a reading that failed
pub Promise-read : {A : Type 0} (T : Type 0) (first : SessionState A) (known rest left w0 w1 : Option (List ℕ)) (pending : List ℕ) (now : SessionState A) (given : ℕ) (line : List ℕ)
    → Standing first known rest w0 w1 now given → IsLine line → Consumes rest (prepend_known pending left) line → pending ≡ []
    → Promise {T = T} (Err Read) first known left w0 w1 now
Promise-read T first None rest left w0 w1 pending now given line s is_line taken none = tt
Promise-read T first (Some script) rest left w0 w1 pending now given line s is_line taken none =
    let r = s.reached in
    let all = Consumes-append (Some script) rest left s.done line s.taken (rw (prepend_none pending left none) at taken) in (
      s.reported,
      s.wrote,
      (
        s.done ++ line,
        all,
        rw (WholeLines-whole_part s.done r.before line r.whole_lines is_line) (Reported-answered first r.before r.shortages s.reported now r.so_far),
        ap (λ lines. quits lines) (WholeLines-whole_part s.done r.before line r.whole_lines is_line) ∙ r.so_far.goes,
      ),
    )

consumed_some : (script done : List ℕ) (rest : Option (List ℕ)) → Consumes (Some script) rest done → (more : List ℕ) × (script ≡ done ++ more)
consumed_some script done None p = absurd p
consumed_some script done (Some ys) p = (ys, p)

consumed_part : (script done : List ℕ) (rest : Option (List ℕ)) → Consumes (Some script) rest done → HasMore rest → (more : List ℕ) × (script ≡ done ++ more) × (0 < length more)
consumed_part script done None p m = absurd p
consumed_part script done (Some ys) p m = (ys, p, m)

take_seam : (n : ℕ) (xs ys : List ℕ) → length xs ≡ n → take n (xs ++ ys) ≡ xs
take_seam n xs ys e = rw (← e) (take-append_seam xs ys)

take_over : (n : ℕ) (xs ys : List ℕ) → length xs ≤ n → take n (xs ++ ys) ≡ xs ++ take (n - length xs) ys
take_over n xs ys le =
    let e : n ≡ length xs + (n - length xs) = omega arith in
    ap (λ v. take v (xs ++ ys)) e ∙ take-append-add xs ys (n - length xs)

-- a script that is too long
pub Promise-too_long : {A : Type 0} (T : Type 0) (first : SessionState A) (known rest after left w0 w1 : Option (List ℕ)) (now : SessionState A) (given : ℕ) (line : List ℕ)
    → Standing first known rest w0 w1 now given → IsLine line → Consumes rest after line → HasMore after → given + length line ≡ 2 ^ 24
    → Promise {T = T} (Err TooLong) first known left w0 w1 now
Promise-too_long T first None rest after left w0 w1 now given line s is_line taken more full = tt
Promise-too_long T first (Some script) rest after left w0 w1 now given line s is_line taken more full =
    let r = s.reached in
    let (ys, is, some) = consumed_part script (s.done ++ line) after (Consumes-append (Some script) rest after s.done line s.taken taken) more in
    let size : length (s.done ++ line) ≡ 2 ^ 24 = length-append s.done line ∙ ap (λ v. v + length line) (sym s.given_is) ∙ full in
    let prefix : take (2 ^ 24) script ≡ s.done ++ line = ap (λ v. take (2 ^ 24) v) is ∙ take_seam (2 ^ 24) (s.done ++ line) ys size in
    let whole : whole_lines_of (take (2 ^ 24) script) ≡ r.before = ap (λ v. whole_lines_of v) prefix ∙ WholeLines-whole_part s.done r.before line r.whole_lines is_line in
    let long : 2 ^ 24 < length script = omega (arith, ap length is, length-append (s.done ++ line) ys, size, some) in (
      s.reported,
      s.wrote,
      (
        subst (λ lines. IsAnsweredTo first lines s.reported now) (sym whole) (Reported-answered first r.before r.shortages s.reported now r.so_far),
        (long, ap (λ lines. quits lines) whole ∙ r.so_far.goes),
      ),
    )

quits_there : (before : List (List ℕ)) (line : List ℕ) (after : List (List ℕ)) → quits before ≡ false → is_quit (command_of line) ≡ true → quits (before ++ line ∷ after) ≡ true
quits_there before line after e f = list_any-append _ before (line ∷ after) ∙ rw (e, f) refl

-- a line that quits
pub Promise-quit : {A T : Type 0} (v : T) (first : SessionState A) (known rest rest' left w0 w1 : Option (List ℕ)) (now : SessionState A) (given given' : ℕ) (line : List ℕ)
    → Standing first known rest w0 w1 now given → IsLine line → Consumes rest rest' (line ++ 10 ∷ []) → given' ≡ given + (length line + 1) → given' ≤ 2 ^ 24
    → is_quit (command_of line) ≡ true
    → Promise (Ok v) first known left w0 w1 now
Promise-quit v first None rest rest' left w0 w1 now given given' line s is_line taken given_is le quit = tt
Promise-quit v first (Some script) rest rest' left w0 w1 now given given' line s is_line taken given_is le quit =
    let r = s.reached in
    let bytes = s.done ++ (line ++ 10 ∷ []) in
    let whole_lines = WholeLines-line s.done r.before line r.whole_lines is_line in
    let (ys, is) = consumed_some script bytes rest' (Consumes-append (Some script) rest rest' s.done (line ++ 10 ∷ []) s.taken taken) in
    let size : length bytes ≤ 2 ^ 24 = omega (arith, s.given_is, given_is, length-append s.done (line ++ 10 ∷ []), length-append line (10 ∷ [])) in
    let all : lines_of script ≡ r.before ++ line ∷ lines_of ys = ap (λ v. lines_of v) is ∙ whole_lines.lines ys ∙ append_assoc r.before (line ∷ []) (lines_of ys) in
    let prefix : take (2 ^ 24) script ≡ bytes ++ take (2 ^ 24 - length bytes) ys = ap (λ v. take (2 ^ 24) v) is ∙ take_over (2 ^ 24) bytes ys size in
    let whole : whole_lines_of (take (2 ^ 24) script) ≡ r.before ++ line ∷ whole_lines_of (take (2 ^ 24 - length bytes) ys) =
    ap (λ v. whole_lines_of v) prefix ∙ whole_lines.whole (take (2 ^ 24 - length bytes) ys) ∙ append_assoc r.before (line ∷ []) (whole_lines_of (take (2 ^ 24 - length bytes) ys)) in
    let ends : quits (whole_lines_of (take (2 ^ 24) script)) ≡ true = ap (λ lines. quits lines) whole ∙ quits_there r.before line (whole_lines_of (take (2 ^ 24 - length bytes) ys)) r.so_far.goes quit in (
      s.reported,
      s.wrote,
      (
        subst (λ lines. IsAnsweredTo first lines s.reported now) (sym all) (Reported-quit first r.before r.shortages s.reported now line (lines_of ys) r.so_far quit),
        λ t. true≢false (sym ends ∙ t.1),
      ),
    )

-- a writing that failed at a line
pub Promise-write : {A : Type 0} (T : Type 0) (first : SessionState A) (known rest rest' left w0 w1 w2 : Option (List ℕ)) (now next : SessionState A) (given : ℕ) (line : List ℕ) (shortage : Option ℕ)
    → Standing first known rest w0 w1 now given → IsLine line → Consumes rest rest' (line ++ 10 ∷ []) → IsValid now (command_of line) shortage
    → ((prefix : List ℕ) × IsPrefixOf prefix (answer_text (answer now (command_of line) shortage)) × Appends w1 w2 prefix)
    → next ≡ (answer now (command_of line) shortage).left
    → Promise {T = T} (Err Write) first known left w0 w2 next
Promise-write T first None rest rest' left w0 w1 w2 now next given line shortage s is_line taken valid wrote is_next = tt
Promise-write T first (Some script) rest rest' left w0 w1 w2 now next given line shortage s is_line taken valid wrote is_next =
    let r = s.reached in
    let bytes = s.done ++ (line ++ 10 ∷ []) in
    let whole_lines = WholeLines-line s.done r.before line r.whole_lines is_line in
    let (ys, is) = consumed_some script bytes rest' (Consumes-append (Some script) rest rest' s.done (line ++ 10 ∷ []) s.taken taken) in
    let all : lines_of script ≡ r.before ++ line ∷ lines_of ys = ap (λ v. lines_of v) is ∙ whole_lines.lines ys ∙ append_assoc r.before (line ∷ []) (lines_of ys) in
    let reported = Reported-prefix first r.before r.shortages s.reported now line (lines_of ys) shortage wrote.0 r.so_far valid wrote.1 in (
      s.reported ++ wrote.0,
      Appends-append w0 w1 w2 s.reported wrote.0 s.wrote wrote.2,
      (reported.0, subst (λ lines. IsAnswered first lines reported.0) (sym all) reported.1, reported.2, Reported-cut first r.before r.shortages s.reported now line (lines_of ys) shortage wrote.0 next _ all r.so_far valid wrote.1 is_next),
    )

-- a writing that failed at a last line without byte 10
pub Promise-write_last : {A : Type 0} (T : Type 0) (first : SessionState A) (known rest rest' left w0 w1 w2 : Option (List ℕ)) (now next : SessionState A) (given : ℕ) (line : List ℕ) (shortage : Option ℕ)
    → Standing first known rest w0 w1 now given → IsLine line → 0 < length line → Consumes rest rest' line → IsAtEnd rest' → IsValid now (command_of line) shortage
    → ((prefix : List ℕ) × IsPrefixOf prefix (answer_text (answer now (command_of line) shortage)) × Appends w1 w2 prefix)
    → next ≡ (answer now (command_of line) shortage).left
    → Promise {T = T} (Err Write) first known left w0 w2 next
Promise-write_last T first None rest rest' left w0 w1 w2 now next given line shortage s is_line some taken end valid wrote is_next = tt
Promise-write_last T first (Some script) rest rest' left w0 w1 w2 now next given line shortage s is_line some taken end valid wrote is_next =
    let r = s.reached in
    let is : script ≡ s.done ++ line = consumed_all script (s.done ++ line) rest' (Consumes-append (Some script) rest rest' s.done line s.taken taken) end in
    let all : lines_of script ≡ r.before ++ line ∷ [] = ap (λ v. lines_of v) is ∙ WholeLines-last s.done r.before line r.whole_lines is_line some in
    let reported = Reported-prefix first r.before r.shortages s.reported now line [] shortage wrote.0 r.so_far valid wrote.1 in (
      s.reported ++ wrote.0,
      Appends-append w0 w1 w2 s.reported wrote.0 s.wrote wrote.2,
      (reported.0, subst (λ lines. IsAnswered first lines reported.0) (sym all) reported.1, reported.2, Reported-cut first r.before r.shortages s.reported now line [] shortage wrote.0 next _ all r.so_far valid wrote.1 is_next),
    )

-- what is kept of a line says what it says
pub line_read : {A E : Type 0} (r : Result Next E) (old new : SessionState A) (slice kept line : List ℕ) (before after : Option (List ℕ))
    → slice ≡ kept → kept ≡ take 257 line → AnswersLine r old new (command_of slice) before after → AnswersLine r old new (command_of line) before after
line_read r old new slice kept line before after e f h =
    subst (λ said. AnswersLine r old new said before after) (ap (λ v. command_of v) (e ∙ f) ∙ command_of-kept line) h

-- two scripts, the second from where the first left the session
pub in_turn : {A T U : Type 0} (r : Result T IoFault) (first there now : SessionState A) (one two left left' w0 w1 w2 : Option (List ℕ)) (v : U)
    → Promise (Ok v) first one left w0 w1 there → Promise r there two left' w1 w2 now
    → IfSome one (λ script. IfSome two (λ more. (text : List ℕ) × Appends w0 w2 text × AreServed r first script more left left' text now))
in_turn r first there now None two left left' w0 w1 w2 v p q = tt
in_turn r first there now (Some script) None left left' w0 w1 w2 v p q = tt
in_turn r first there now (Some script) (Some more) left left' w0 w1 w2 v p q =
    (p.0 ++ q.0, Appends-append w0 w1 w2 p.0 q.0 p.1 q.1, both there p.0 q.0 p.2.0 p.2.1 q.2 refl)

served_cast : {A : Type 0} (T U : Type 0) (fault : IoFault) (s : SessionState A) (script : List ℕ) (left : Option (List ℕ)) (text : List ℕ) (now : SessionState A)
    → IsServed {T = T} (Err fault) s script left text now → IsServed {T = U} (Err fault) s script left text now
served_cast T U Read s script left text now h = h
served_cast T U Write s script left text now h = h
served_cast T U TooLong s script left text now h = h

-- the first wasn't answered to its end, and that is handed on
pub one_of_two : {A T U : Type 0} (r : Result T IoFault) (on : Result U IoFault) (fault : IoFault) (first now : SessionState A) (one two left w0 w1 : Option (List ℕ)) → r ≡ Err fault → IsErrAnd on (λ e. e ≡ fault)
    → Promise r first one left w0 w1 now
    → IfSome one (λ script. IfSome two (λ more. (text : List ℕ) × Appends w0 w1 text × AreServed on first script more left two text now))
one_of_two r on fault first now None two left w0 w1 e h p = tt
one_of_two r on fault first now (Some script) None left w0 w1 e h p = tt
one_of_two r (Ok x) fault first now (Some script) (Some more) left w0 w1 e h p = absurd h
one_of_two {A} {T} {U} r (Err other) fault first now (Some script) (Some more) left w0 w1 e h p =
    let q = rw e at p in
    (q.0, q.1, one_alone fault (ap Err h) (served_cast T U fault first script left q.0 now q.2) refl)

-- ---- a script of two is too long

-- the fault of a call is the one that was handed on
pub fault_is : {T U : Type 0} (r : Result T IoFault) (on : Result U IoFault) (fault reported : IoFault) → r ≡ Err fault → IsErrAnd on (λ e. e ≡ fault) → on ≡ Err reported → r ≡ Err reported
fault_is r (Ok x) fault reported is h e = absurd h
fault_is r (Err other) fault reported is h e = let same : other ≡ reported = cc in is ∙ ap Err (sym h ∙ same)

-- one that was reported to be too long is
pub Promise-long : {A T : Type 0} (r : Result T IoFault) (first : SessionState A) (known left w0 w1 : Option (List ℕ)) (now : SessionState A)
    → r ≡ Err TooLong → Promise r first known left w0 w1 now → IfSome known IsTooLong
Promise-long r first None left w0 w1 now e p = tt
Promise-long r first (Some script) left w0 w1 now e p = (rw e at p).2.1

pub first_long : (one two : Option (List ℕ)) → IfSome one IsTooLong → IfSome one (λ script. IfSome two (λ more. IsTooLong script ⊎ IsTooLong more))
first_long None two h = tt
first_long (Some script) None h = tt
first_long (Some script) (Some more) h = inl h

pub second_long : (one two : Option (List ℕ)) → IfSome two IsTooLong → IfSome one (λ script. IfSome two (λ more. IsTooLong script ⊎ IsTooLong more))
second_long None two h = tt
second_long (Some script) None h = tt
second_long (Some script) (Some more) h = inr h
