-- What is shown of a machine is shown of the state that it stands for.
use Rattle.std.proofs.Common.{◌≡◌, refl, ap, subst, ◌∙◌, ℕ, zero, suc, ◌+◌, ◌-◌, ◌<◌, ◌≤◌, List, ◌++◌, [], ◌∷◌, length, drop, Some, None, inl, inr, arith}
use Rattle.std.specs.Prelude.{◌⊎◌, IfOk, Result, Ok, Err, Option, codes, slice_get, flat_map, option_map}
use Rattle.std.proofs.lemmas.Option.{slice_get_past}
use Rattle.json.specs.Json.{Json}
use Rattle.json.specs.Token.{Token}
use Rattle.json.specs.Written.{Written}
use Rattle.qil_tree.specs.declared.tree.Program.{Program}
use Rattle.qil_memory.specs.Live.{live}
use Rattle.qil_semantics.specs.State.{Frame, State}
use Rattle.qil_semantics.specs.Timeline.{position, oldest}
use Rattle.qil_frames.specs.Frames.{SlotFrame}
use Rattle.qil_state.specs.State.{Whole, frame_state, frames_state, state_of}
use Rattle.qil_render.specs.Shown.{temps_of_frame}
use Rattle.qrev_protocol.specs.Outgoing.{Adds}
use Rattle.qrev_views.specs.Pages.{page_of}
use Rattle.qrev_views.specs.Variables.{ShowsData, ShowsEach, fixed_tokens, machine_rows}
use Rattle.qrev_views.specs.declared.variable.Page.{Page}
use Rattle.qrev_views.specs.declared.variable.Showing.{Showing}
use Rattle.qrev_views.proofs.Stacks.{frame_named, frames_long}
use Rattle.qrev_debuggee.specs.qrev_recorder.qil_replies.SessionState.{SessionState}
use Rattle.qrev_debuggee.specs.declared.failure.Failure.{Failure}
use Rattle.qrev_debuggee.specs.declared.failure.Failure.TheVariants.{Because, OutOfMemory}
use Rattle.qrev_debuggee.specs.declared.failure.Cause.TheVariants.{NoSuchFrame, NoSuchVariables}
use Rattle.qrev_inspection.specs.Shown.{IsMissing, ShowsFrame, variables_member}
use Rattle.qrev_inspection.specs.Requested.{HasNoScopes, HasNoVariables, Lists, Says, ShowsDatas, ShowsTemporaries, ShowsVariables, frame_numbered}

-- ---- one state

temporaries_here : {A : Type 0} (w : Whole A) (names : List ℕ) (showing : Showing) (n : ℕ) (page : Page) (tokens : List Token) → (n ≡ 0 → ⊥) → (shows : ShowsFrame w names showing n page tokens)
    → ShowsTemporaries w.program (state_of w) names showing n page shows.items
temporaries_here w names showing zero page tokens some shows = absurd (some refl)
temporaries_here w names showing (suc k) page tokens some shows =
    let e : suc k - 1 ≡ k = omega arith in
    let frame : Frame = frame_state w.program (drop (suc k - 1 + 1) w.frames) shows.frame in
    record {
      frame = frame;
      is_there = subst (λ (j : ℕ). slice_get (frames_state w.program w.frames) j ≡ Some frame) e (frame_named w.program w.frames (suc k - 1) shows.frame shows.is_there);
      temporaries = shows.temporaries;
    }

-- the temporaries of a frame of a machine are those of the state of its session
pub temporaries_shown : {A : Type 0} (w : Whole A) (p : Program A) (s : State) (names : List ℕ) (showing : Showing) (n : ℕ) (page : Page) (tokens : List Token) (old new : Written) → state_of w ≡ s → w.program ≡ p → (n ≡ 0 → ⊥)
    → ShowsFrame w names showing n page tokens → Adds old new tokens → Lists old new (ShowsTemporaries p s names showing n page)
temporaries_shown {A} w p s names showing n page tokens old new now program some shows added = (
  shows.items,
  subst (λ (q : Program A). ShowsTemporaries q s names showing n page shows.items) program
      (subst (λ (t : State). ShowsTemporaries w.program t names showing n page shows.items) now (temporaries_here w names showing n page tokens some shows)),
  added ∙ ap (λ (more : List Token). old.tokens ++ more) shows.is_listed,
)

missing_here : {A : Type 0} (p : Program A) (fs : List SlotFrame) (n : ℕ) → ((n ≡ 0) ⊎ (length fs < n)) → frame_numbered n (frames_state p fs) ≡ None
missing_here p fs zero missing = refl
missing_here p fs (suc k) (inl none) = absurd (omega (arith, none))
missing_here p fs (suc k) (inr few) = slice_get_past (frames_state p fs) k (let long = frames_long p fs in omega (arith, long, few))

-- what frame a machine doesn't have its state doesn't, either
pub none_numbered : {A : Type 0} (w : Whole A) (s : State) (why refused : Failure) (n : ℕ) → state_of w ≡ s → IsMissing why refused n w.frames → (why ≡ OutOfMemory) ⊎ ((why ≡ refused) × (frame_numbered n s.frames ≡ None))
none_numbered w s why refused n now (inl memory) = inl memory
none_numbered w s why refused n now (inr missing) = inr (missing.0, subst (λ (t : State). frame_numbered n t.frames ≡ None) now (missing_here w.program w.frames n missing.1))

pub named_missing : {A : Type 0} (w : Whole A) (s : SessionState A) (json : Option Json) (why : Failure) (n : ℕ) → state_of w ≡ s.timeline.now → Says (codes "frameId") json 0 n → IsMissing why (Because NoSuchFrame) n w.frames
    → HasNoScopes s json why
named_missing w s json why n now said missing = elim (none_numbered w s.timeline.now why (Because NoSuchFrame) n now missing) [
  | inl memory ↦ inl memory
  | inr none ↦ inr (none.0, n, said, none.1)
]

slots_here : {A : Type 0} (p : Program A) (fs : List SlotFrame) (k : ℕ) → ((j : ℕ) (f : SlotFrame) → slice_get fs j ≡ Some f → length f.slots ≡ length (temps_of_frame p (frame_state p (drop (j + 1) fs) f)))
    → option_map (λ (f : SlotFrame). length f.slots) (slice_get fs k) ≡ option_map (λ (f : Frame). length (temps_of_frame p f)) (slice_get (frames_state p fs) k)
slots_here p [] k each = refl
slots_here p (g ∷ gs) zero each = ap (λ (n : ℕ). Some n) (each 0 g refl)
slots_here p (g ∷ gs) (suc k) each = slots_here p gs k (λ j f at. each (suc j) f at ∙ (let e : suc j + 1 ≡ suc (j + 1) = omega arith in ap (λ (n : ℕ). length (temps_of_frame p (frame_state p (drop n (g ∷ gs)) f))) e))

counted_here : {A : Type 0} (w : Whole A) (n : ℕ) → (n ≡ 0 → ⊥) → ((j : ℕ) (f : SlotFrame) → slice_get w.frames j ≡ Some f → length f.slots ≡ length (temps_of_frame w.program (frame_state w.program (drop (j + 1) w.frames) f)))
    → option_map (λ (f : SlotFrame). length f.slots) (slice_get w.frames (n - 1)) ≡ option_map (λ (f : Frame). length (temps_of_frame w.program f)) (frame_numbered n (state_of w).frames)
counted_here w zero some each = absurd (some refl)
counted_here w (suc k) some each =
    let e : suc k - 1 ≡ k = omega arith in
    ap (λ (j : ℕ). option_map (λ (f : SlotFrame). length f.slots) (slice_get w.frames j)) e ∙ slots_here w.program w.frames k each

-- a frame of a machine has as many slots as its function has temporaries
pub slots_counted : {A : Type 0} (w : Whole A) (p : Program A) (s : State) (n : ℕ) → state_of w ≡ s → w.program ≡ p → (n ≡ 0 → ⊥)
    → ((j : ℕ) (f : SlotFrame) → slice_get w.frames j ≡ Some f → length f.slots ≡ length (temps_of_frame w.program (frame_state w.program (drop (j + 1) w.frames) f)))
    → option_map (λ (f : SlotFrame). length f.slots) (slice_get w.frames (n - 1)) ≡ option_map (λ (f : Frame). length (temps_of_frame p f)) (frame_numbered n s.frames)
slots_counted {A} w p s n now program some each =
    counted_here w n some each ∙ (λ i. option_map (λ (f : Frame). length (temps_of_frame (program i) f)) (frame_numbered n (now i).frames))

-- the data
pub datas_shown : {A : Type 0} (w : Whole A) (p q : Program A) (s : State) (names : List ℕ) (showing : Showing) (page : Page) (items : List Token) → state_of w ≡ s → w.program ≡ p → q ≡ p
    → ShowsEach (ShowsData w.program (live w.memory) names showing) (page_of page q.datas) items → ShowsDatas p s names showing page items
datas_shown {A} w p q s names showing page items now program same shows =
    let there = subst (λ (t : State). ShowsEach (ShowsData w.program t.memory names showing) (page_of page q.datas) items) now shows in
    let known = subst (λ (r : Program A). ShowsEach (ShowsData r s.memory names showing) (page_of page q.datas) items) program there in
    subst (λ (r : Program A). ShowsEach (ShowsData p s.memory names showing) (page_of page r.datas) items) same known

-- ---- one reference

-- what holds of all values holds of one that is given
pub ok_all : {T E : Type 0} (r : Result T E) (P : T → Type 0) → ((x : T) → P x) → IfOk r P
ok_all (Ok x) P each = each x
ok_all (Err e) P each = tt

pub as_machine : {A : Type 0} (s : SessionState A) (names : List ℕ) (showing : Showing) (reference : ℕ) (page : Page) (old new : Written) → reference ≡ 1073741824
    → Adds old new (variables_member (flat_map fixed_tokens (page_of page (machine_rows (position s.timeline) (oldest s.timeline) s.timeline.now)))) → ShowsVariables s names showing reference page old new
as_machine s names showing reference page old new is shown = record {
  of_machine = λ e. shown;
  of_data = λ e. (let other : reference ≡ 1073741825 = e in absurd (omega (arith, is, other)));
  of_frame = λ lt. (let few : reference < 268435456 = lt in absurd (omega (arith, is, few)));
}

pub as_data : {A : Type 0} (s : SessionState A) (names : List ℕ) (showing : Showing) (reference : ℕ) (page : Page) (old new : Written) → reference ≡ 1073741825 → Lists old new (ShowsDatas s.program s.timeline.now names showing page)
    → ShowsVariables s names showing reference page old new
as_data s names showing reference page old new is shown = record {
  of_machine = λ e. (let other : reference ≡ 1073741824 = e in absurd (omega (arith, is, other)));
  of_data = λ e. shown;
  of_frame = λ lt. (let few : reference < 268435456 = lt in absurd (omega (arith, is, few)));
}

pub as_frame : {A : Type 0} (s : SessionState A) (names : List ℕ) (showing : Showing) (reference : ℕ) (page : Page) (old new : Written) → reference < 268435456
    → Lists old new (ShowsTemporaries s.program s.timeline.now names showing reference page) → ShowsVariables s names showing reference page old new
as_frame s names showing reference page old new few shown = record {
  of_machine = λ e. (let other : reference ≡ 1073741824 = e in absurd (omega (arith, few, other)));
  of_data = λ e. (let other : reference ≡ 1073741825 = e in absurd (omega (arith, few, other)));
  of_frame = λ lt. shown;
}

-- those of a part
pub as_part : {A : Type 0} (s : SessionState A) (names : List ℕ) (showing : Showing) (reference : ℕ) (page : Page) (old new : Written) → 268435456 ≤ reference → (reference ≡ 1073741824 → ⊥) → (reference ≡ 1073741825 → ⊥)
    → ShowsVariables s names showing reference page old new
as_part s names showing reference page old new many no_machine no_data = record {
  of_machine = λ e. absurd (no_machine e);
  of_data = λ e. absurd (no_data e);
  of_frame = λ lt. (let few : reference < 268435456 = lt in absurd (omega (arith, many, few)));
}

pub no_part : (why : Failure) (reference : ℕ) (frames : List Frame) → 268435456 ≤ reference → (reference ≡ 1073741824 → ⊥) → (reference ≡ 1073741825 → ⊥) → (why ≡ OutOfMemory) ⊎ (why ≡ Because NoSuchVariables)
    → HasNoVariables why reference frames
no_part why reference frames many no_machine no_data (inl memory) = inl memory
no_part why reference frames many no_machine no_data (inr none) = inr (none, no_machine, no_data, λ lt. (let few : reference < 268435456 = lt in absurd (omega (arith, many, few))))

pub no_frame : (why : Failure) (reference : ℕ) (frames : List Frame) → reference < 268435456 → (why ≡ OutOfMemory) ⊎ ((why ≡ Because NoSuchVariables) × (frame_numbered reference frames ≡ None)) → HasNoVariables why reference frames
no_frame why reference frames few (inl memory) = inl memory
no_frame why reference frames few (inr missing) = inr (
  missing.0,
  (λ e. (let other : reference ≡ 1073741824 = e in absurd (omega (arith, few, other)))),
  (λ e. (let other : reference ≡ 1073741825 = e in absurd (omega (arith, few, other)))),
  λ lt. missing.1,
)
