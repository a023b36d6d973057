-- A script that is answered line by line.
use Rattle.std.proofs.Common.{◌≡◌, ℕ, List, [], ◌∷◌, ◌++◌, length, sym, ◌∙◌, refl, Bool, true, false, cond, append_assoc}
use Rattle.std.specs.Prelude.{Option, Some, None, Result, Ok, Err, ◌==◌}
use Rattle.std.specs.Bool.{MatchBool}
use Rattle.std.proofs.lemmas.Bool.{true≢false}
use Rattle.std.proofs.lemmas.List.{append-nil}
use Rattle.std.proofs.lemmas.List.Folds.{list_any-append}
use Rattle.qil_tree.specs.declared.ops.Width.{Width}
use Rattle.qil_commands.specs.declared.command.Command.{Command}
use Rattle.qil_commands.specs.declared.command.Command.TheVariants as commands
use Rattle.qil_commands.specs.declared.command.Refused.{Refused}
use Rattle.qil_commands.specs.Command.{command_of}
use Rattle.qil_streams.specs.Reader.{IsLine}
use Rattle.qil_streams.proofs.ScriptLemmas.{WholeLines-nil, WholeLines-line}
use Rattle.qil_semantics.specs.State.{State}
use Rattle.qil_semantics.specs.Poke.{PokeFault}
use Rattle.qil_semantics.specs.Timeline.{position, at_end}
use Rattle.qil_stops.specs.Listed.{is_listed}
use Rattle.qil_stops.specs.declared.stop.StopKind.{StopKind}
use Rattle.qil_replies.specs.SessionState.{SessionState, has_kind, is_full, resolved_address}
use Rattle.qil_replies.specs.Answers.{Answer, answer, answer_text, AreValid, IsValid, IsAnsweredTo, is_quit, if_back, accesses_answer, counts_answer, spans_answer, poke_answer, poke_at, stop_answer}
use Rattle.qil_replies.specs.Reached.{Reported, Reached}

pub Reported-nil : {A : Type 0} (first : SessionState A) → Reported first [] [] [] first
Reported-nil first = record { goes = refl; valid = λ rest more h. h; text = λ rest more. refl; left = λ rest more. refl }

cond_goes : {A : Type 0} (b : Bool) (x y : Answer A) → x.goes ≡ true → y.goes ≡ true → (cond b x y).goes ≡ true
cond_goes true x y p q = p
cond_goes false x y p q = q

if_back-goes : {A : Type 0} (s : SessionState A) (x : Answer A) → x.goes ≡ true → (if_back s x).goes ≡ true
if_back-goes s x p = cond_goes (position s.timeline == 0) _ _ refl (cond_goes (length s.timeline.past == 0) _ x refl p)

poke_answer-goes : {A : Type 0} (s : SessionState A) (r : Result State PokeFault) → (poke_answer s r).goes ≡ true
poke_answer-goes s (Ok state) = refl
poke_answer-goes s (Err why) = refl

poke_at-goes : {A : Type 0} (s : SessionState A) (w : Width) (v : ℕ) (a : Option ℕ) → (poke_at s w v a).goes ≡ true
poke_at-goes s w v None = refl
poke_at-goes s w v (Some a) = poke_answer-goes s _

stop_answer-goes : {A : Type 0} (s : SessionState A) (kind : Option StopKind) → (stop_answer s kind).goes ≡ true
stop_answer-goes s None = refl
stop_answer-goes s (Some kind) = cond_goes (has_kind s.program kind) _ _ (cond_goes (is_full s.stops) _ _ refl refl) refl

accesses_answer-goes : {A : Type 0} (s : SessionState A) (n m : ℕ) (a shortage : Option ℕ) → (accesses_answer s n m a shortage).goes ≡ true
accesses_answer-goes s n m None shortage = refl
accesses_answer-goes s n m (Some a) None = refl
accesses_answer-goes s n m (Some a) (Some k) = refl

counts_answer-goes : {A : Type 0} (s : SessionState A) (n : ℕ) (shortage : Option ℕ) → (counts_answer s n shortage).goes ≡ true
counts_answer-goes s n None = refl
counts_answer-goes s n (Some k) = refl

spans_answer-goes : {A : Type 0} (s : SessionState A) (n d : ℕ) (shortage : Option ℕ) → (spans_answer s n d shortage).goes ≡ true
spans_answer-goes s n d None = refl
spans_answer-goes s n d (Some k) = refl

-- only `quit` ends a session
pub answer_goes : {A : Type 0} (s : SessionState A) (said : Result (Option Command) Refused) (shortage : Option ℕ) → is_quit said ≡ false → (answer s said shortage).goes ≡ true
unfolding answer
answer_goes s (Ok (Some (commands.Step n))) None h = cond_goes (at_end s.timeline) _ _ refl refl
answer_goes s (Ok (Some (commands.Step n))) (Some k) h = refl
answer_goes s (Ok (Some (commands.Accesses n at m))) shortage h = cond_goes (at_end s.timeline) _ _ refl (accesses_answer-goes s n m (resolved_address s.program at) shortage)
answer_goes s (Ok (Some (commands.Counts n))) shortage h = cond_goes (at_end s.timeline) _ _ refl (counts_answer-goes s n shortage)
answer_goes s (Ok (Some (commands.Frames n d))) shortage h = cond_goes (at_end s.timeline) _ _ refl (spans_answer-goes s n d shortage)
answer_goes s (Ok (Some (commands.Back n))) shortage h = if_back-goes s _ refl
answer_goes s (Ok (Some commands.Continue)) None h = cond_goes (at_end s.timeline) _ _ refl refl
answer_goes s (Ok (Some commands.Continue)) (Some k) h = refl
answer_goes s (Ok (Some commands.Reverse)) shortage h = if_back-goes s _ refl
answer_goes s (Ok (Some (commands.Set x v))) None h = poke_answer-goes s _
answer_goes s (Ok (Some (commands.Set x v))) (Some k) h = refl
answer_goes s (Ok (Some (commands.Poke w at v))) None h = poke_at-goes s w v _
answer_goes s (Ok (Some (commands.Poke w at v))) (Some k) h = refl
answer_goes s (Ok (Some (commands.Break func at))) shortage h = stop_answer-goes s _
answer_goes s (Ok (Some (commands.WatchBytes w at))) shortage h = stop_answer-goes s _
answer_goes s (Ok (Some (commands.WatchTemp func x))) shortage h = stop_answer-goes s _
answer_goes s (Ok (Some (commands.Delete n))) shortage h = cond_goes (is_listed n s.stops.kept) _ _ refl refl
answer_goes s (Ok (Some commands.Stops)) shortage h = refl
answer_goes s (Ok (Some (commands.Print x))) shortage h = refl
answer_goes s (Ok (Some commands.Temps)) shortage h = refl
answer_goes s (Ok (Some (commands.Mem at n))) shortage h = refl
answer_goes s (Ok (Some commands.Where)) shortage h = refl
answer_goes s (Ok (Some commands.List)) shortage h = refl
answer_goes s (Ok (Some commands.Out)) shortage h = refl
answer_goes s (Ok (Some commands.Quit)) shortage h = absurd (true≢false h)
answer_goes s (Ok None) shortage h = refl
answer_goes s (Err refusal) shortage h = refl

-- one more line
pub Reported-line : {A : Type 0} (first : SessionState A) (before : List (List ℕ)) (shortages : List (Option ℕ)) (reported : List ℕ) (now : SessionState A) (line : List ℕ) (shortage : Option ℕ) (text : List ℕ) (next : SessionState A)
    → Reported first before shortages reported now → is_quit (command_of line) ≡ false → IsValid now (command_of line) shortage
    → text ≡ answer_text (answer now (command_of line) shortage) → next ≡ (answer now (command_of line) shortage).left
    → Reported first (before ++ line ∷ []) (shortages ++ shortage ∷ []) (reported ++ text) next
Reported-line first before shortages reported now line shortage text next r no_quit valid is_text is_next =
    let goes = answer_goes now (command_of line) shortage no_quit in
    record {
      goes = list_any-append _ before (line ∷ []) ∙ rw (r.goes, no_quit) refl;
      valid = λ rest more h. simp append_assoc (r.valid (line ∷ rest) (shortage ∷ more) (valid, rw goes (rw (← is_next) h)));
      text = λ rest more. simp append_assoc (r.text (line ∷ rest) (shortage ∷ more) ∙ rw (goes, is_text, is_next) refl);
      left = λ rest more. simp append_assoc (r.left (line ∷ rest) (shortage ∷ more) ∙ rw (goes, is_next) refl);
    }

-- no want is valid
pub none_valid : {A : Type 0} (s : SessionState A) (said : Result (Option Command) Refused) → IsValid s said None
unfolding IsValid
none_valid s said = tt

pub either : (b : Bool) (A : List (Option ℕ) → Type 0) → ((shortages : List (Option ℕ)) × A shortages) → (shortages : List (Option ℕ)) × MatchBool b (A shortages) (shortages ≡ [])
either true A h = h
either false A h = ([], refl)

-- where memory never runs out, that is valid
pub ample : {A : Type 0} (s : SessionState A) (lines : List (List ℕ)) → (shortages : List (Option ℕ)) × AreValid s lines shortages
ample s [] = ([], refl)
ample s (line ∷ lines) =
    let one = answer s (command_of line) None in
    let rest = either one.goes (λ shortages. AreValid one.left lines shortages) (ample one.left lines) in
    (None ∷ rest.0, (none_valid s (command_of line), rest.1))

-- what was reported answers the lines so far
pub Reported-answered : {A : Type 0} (first : SessionState A) (before : List (List ℕ)) (shortages : List (Option ℕ)) (reported : List ℕ) (now : SessionState A) → Reported first before shortages reported now → IsAnsweredTo first before reported now
Reported-answered first before shortages reported now r = (
  shortages ++ [],
  rw (append-nil before) at (r.valid [] [] refl),
  sym (rw (append-nil before, append-nil reported) at (r.text [] [])),
  sym (rw (append-nil before) at (r.left [] [])),
)

pub Reached-nil : {A : Type 0} (first : SessionState A) → Reached first [] [] first
Reached-nil first = record { before = []; shortages = []; whole_lines = WholeLines-nil; so_far = Reported-nil first }

pub Reached-line : {A : Type 0} (first : SessionState A) (done reported : List ℕ) (now : SessionState A) (line : List ℕ) (shortage : Option ℕ) (text : List ℕ) (next : SessionState A)
    → Reached first done reported now → IsLine line → is_quit (command_of line) ≡ false → IsValid now (command_of line) shortage
    → text ≡ answer_text (answer now (command_of line) shortage) → next ≡ (answer now (command_of line) shortage).left
    → Reached first (done ++ (line ++ 10 ∷ [])) (reported ++ text) next
Reached-line first done reported now line shortage text next r is_line no_quit valid is_text is_next = record {
  before = r.before ++ line ∷ [];
  shortages = r.shortages ++ shortage ∷ [];
  whole_lines = WholeLines-line done r.before line r.whole_lines is_line;
  so_far = Reported-line first r.before r.shortages reported now line shortage text next r.so_far no_quit valid is_text is_next;
}
