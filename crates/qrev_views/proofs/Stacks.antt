-- The items of frames, one after the other.
use Rattle.std.proofs.Common.{◌≡◌, refl, sym, ap, subst, ◌∙◌, ℕ, zero, suc, ◌+◌, ◌-◌, ◌<◌, ◌≤◌, List, [], ◌∷◌, ◌++◌, length, take, drop, Some, arith, append_assoc}
use Rattle.std.specs.Prelude.{min, slice_get}
use Rattle.std.proofs.lemmas.List.{append-nil, length-take, length-drop}
use Rattle.std.proofs.lemmas.Option.{slice_get_within}
use Rattle.json.specs.Token.{Token}
use Rattle.qil_tree.specs.declared.tree.Program.{Program}
use Rattle.qil_semantics.specs.State.{Frame, State}
use Rattle.qil_frames.specs.Frames.{SlotFrame}
use Rattle.qil_state.specs.State.{frame_state, frames_state}
use Rattle.qrev_views.specs.Pages.{page_of}
use Rattle.qrev_views.specs.Frames.{ShowsFrame, ShowsFrames, ShowsFramesOf, stack_of, end_item}
use Rattle.qrev_views.specs.declared.variable.Page.{Page}
use Rattle.qrev_views.proofs.Pages.{take_more, dropped, taken}

-- a frame by its number, and by names
pub frame_named : {A : Type 0} (p : Program A) (fs : List SlotFrame) (k : ℕ) (f : SlotFrame) → slice_get fs k ≡ Some f → slice_get (frames_state p fs) k ≡ Some (frame_state p (drop (k + 1) fs) f)
frame_named p [] k f at = absurd cc
frame_named p (g ∷ gs) zero f at = ap (λ (h : SlotFrame). Some (frame_state p gs h)) (first at)
  where
    first : Some g ≡ Some f → g ≡ f
    first e = cc
frame_named p (g ∷ gs) (suc k) f at = frame_named p gs k f at ∙ (let e : suc (k + 1) ≡ suc k + 1 = omega arith in ap (λ (n : ℕ). Some (frame_state p (drop n (g ∷ gs)) f)) e)

pub frames_long : {A : Type 0} (p : Program A) (fs : List SlotFrame) → length (frames_state p fs) ≡ length fs
frames_long p [] = refl
frames_long p (f ∷ fs) = ap (λ (n : ℕ). suc n) (frames_long p fs)

shows_more : (n m : ℕ) (fs : List Frame) (f : Frame) (tokens item : List Token) → m ≡ n + length fs → ShowsFrames n fs tokens → ShowsFrame m f item → ShowsFrames n (fs ++ f ∷ []) (tokens ++ item)
shows_more n m [] f tokens item e none shows =
    let same : m ≡ n = omega (arith, e) in
    (item, [], subst (λ (k : ℕ). ShowsFrame k f item) same shows, refl, ap (λ (t : List Token). t ++ item) none ∙ sym (append-nil item))
shows_more n m (g ∷ gs) f tokens item e some shows =
    (some.0, some.1 ++ item, some.2, shows_more (suc n) m gs f some.1 item (omega (arith, e)) some.3 shows, ap (λ (t : List Token). t ++ item) some.4 ∙ append_assoc some.0 some.1 item)

-- the items of a page so far
abbrev pub ShowsSoFar : ℕ → List Frame → ℕ → ℕ → List Token → Type 0
ShowsSoFar n fs first i tokens = ShowsFrames n (take (i - first) (drop first fs)) tokens

pub nothing_yet : (n : ℕ) (fs : List Frame) (first : ℕ) → ShowsSoFar n fs first first []
nothing_yet n fs first = let e : first - first ≡ 0 = omega arith in subst (λ (k : ℕ). ShowsFrames n (take k (drop first fs)) []) (sym e) refl

-- the next item
pub frame_more : (start first i : ℕ) (fs : List Frame) (f : Frame) (tokens item : List Token) → first ≡ min start (length fs) → first ≤ i → slice_get fs i ≡ Some f
    → ShowsSoFar (start + 1) fs first i tokens → ShowsFrame (i + 1) f item → ShowsSoFar (start + 1) fs first (i + 1) (tokens ++ item)
frame_more start first i fs f tokens item ef from at so_far shows =
    let k : ℕ = i - first in
    let within : i < length fs = slice_get_within fs i f at in
    let long : length (take k (drop first fs)) ≡ k = omega (arith, length-take k (drop first fs), length-drop first fs, within, from) in
    let here : slice_get (drop first fs) k ≡ Some f = dropped fs first k i (omega (arith, from)) ∙ at in
    let next : take (i + 1 - first) (drop first fs) ≡ take k (drop first fs) ++ f ∷ [] = (let e : i + 1 - first ≡ suc k = omega (arith, from) in ap (λ (n : ℕ). take n (drop first fs)) e) ∙ take_more (drop first fs) k f here in
    subst (λ (l : List Frame). ShowsFrames (start + 1) l (tokens ++ item)) (sym next)
    (shows_more (start + 1) (i + 1) (take k (drop first fs)) f tokens item (omega (arith, long, ef, from, within)) so_far shows)

-- all items of a page
pub frames_all : (page : Page) (first after i : ℕ) (fs : List Frame) (tokens : List Token) → first ≡ min page.start (length fs) → after ≡ min (first + page.count) (length fs) → after ≤ i → i ≤ after
    → ShowsSoFar (page.start + 1) fs first i tokens → ShowsFrames (page.start + 1) (page_of page fs) tokens
frames_all page first after i fs tokens ef ea most least so_far =
    let end : i ≡ after = omega (arith, most, least) in
    subst (λ (l : List Frame). ShowsFrames (page.start + 1) l tokens) (ap (λ (n : ℕ). take (n - first) (drop first fs)) end ∙ taken fs page.start page.count first after ef ea) so_far

-- the whole stack
pub none_open : (position : ℕ) (s : State) (fs : List Frame) (page : Page) → length fs ≡ 0 → ShowsFramesOf position s fs page (stack_of (end_item position s) 1)
none_open position s [] page e = refl
none_open position s (f ∷ fs) page e = absurd (omega (arith, e))

pub some_open : (position : ℕ) (s : State) (fs : List Frame) (page : Page) (items : List Token) → (length fs ≡ 0 → ⊥) → ShowsFrames (page.start + 1) (page_of page fs) items
    → ShowsFramesOf position s fs page (stack_of items (length fs))
some_open position s [] page items some shows = absurd (some refl)
some_open position s (f ∷ fs) page items some shows = (items, shows, refl)
