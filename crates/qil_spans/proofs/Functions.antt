-- The function of a frame, by numbers and by names.
use Rattle.std.proofs.Common.{◌≡◌, refl, sym, ap, ◌∙◌, subst, ℕ, zero, suc, ◌+◌, ◌-◌, ◌≤◌, List, [], ◌∷◌, ◌++◌, length, Option, Some, None, arith}
use Rattle.std.specs.Prelude.{slice_get, unwrap_or}
use Rattle.qil_symbols.specs.Numbers.{place_of}
use Rattle.qil_tree.specs.declared.tree.Func.{Func}
use Rattle.qil_tree.specs.declared.tree.Program.{Program}
use Rattle.qil_layout.specs.declared.callee.FuncId.{FuncId}
use Rattle.qil_semantics.specs.State.{State}
use Rattle.qil_code.specs.Facts.{Finds}
use Rattle.qil_code.specs.Numbered.{block_in, func_at}
use Rattle.qil_code.specs.Reading.{func_names}
use Rattle.qil_frames.specs.Frames.{SlotFrame}
use Rattle.qil_state.specs.State.{FrameFits, FramesFit, IsMachine, PlaceFits, Whole, frame_state, frames_state, func_name, state_of}
use Rattle.qil_spans.specs.declared.span.Span.{Span}
use Rattle.qil_spans.specs.Spans.{func_over, lasting, number_of, span}
use Rattle.qil_spans.specs.Table.{IsInnermost}

number_in : {A : Type 0} (p : Program A) (callers : List SlotFrame) (f : SlotFrame) → Finds p → FrameFits p f → number_of p (Some (frame_state p callers f)) ≡ f.func
number_in {A} p callers f finds fits = by (func_at p f.func) refl
  where
    by : (o : Option (Func A)) → func_at p f.func ≡ o → number_of p (Some (frame_state p callers f)) ≡ f.func
    by None e = absurd (subst (λ o. PlaceFits (block_in o f.block) f.index) e fits.place)
    by (Some func) e = ap (λ o. unwrap_or (place_of (func_names p) (func_name o)) 0) e ∙ ap (λ o. unwrap_or o 0) (finds.number f.func func e)

number_at : {A : Type 0} (p : Program A) (fs : List SlotFrame) (i : ℕ) (f : SlotFrame) → Finds p → FramesFit p fs → slice_get fs i ≡ Some f → number_of p (slice_get (frames_state p fs) i) ≡ f.func
number_at p [] i f finds fit e = absurd cc
number_at p (g ∷ fs) zero f finds fit e = let same : g ≡ f = cc in number_in p fs g finds fit.0 ∙ ap (λ (x : SlotFrame). x.func) same
number_at p (g ∷ fs) (suc i) f finds fit e = number_at p fs i f finds fit.2 e

number_none : {A : Type 0} (p : Program A) (fs : List SlotFrame) (i : ℕ) → slice_get fs i ≡ None → number_of p (slice_get (frames_state p fs) i) ≡ 0
number_none p [] i e = refl
number_none p (g ∷ fs) zero e = absurd cc
number_none p (g ∷ fs) (suc i) e = number_none p fs i e

as_many : {A : Type 0} (p : Program A) (fs : List SlotFrame) → length (frames_state p fs) ≡ length fs
as_many p [] = refl
as_many p (f ∷ fs) = ap suc (as_many p fs)

-- ---- of a machine

pub number_here : {A : Type 0} (w : Whole A) (q : Program A) (i func : ℕ) (f : SlotFrame) → q ≡ w.program → IsMachine w → slice_get w.frames i ≡ Some f → Finds q → func ≡ f.func → func ≡ number_of w.program (slice_get (state_of w).frames i)
number_here {A} w q i func f program ok there finds same =
    same ∙ sym (number_at w.program w.frames i f (subst (λ (p : Program A). Finds p) program finds) ok.frames there)

pub number_past : {A : Type 0} (w : Whole A) (i : ℕ) → slice_get w.frames i ≡ None → 0 ≡ number_of w.program (slice_get (state_of w).frames i)
number_past w i none = sym (number_none w.program w.frames i none)

pub depth_here : {A : Type 0} (w : Whole A) (depth : ℕ) → depth ≡ length w.frames → depth ≡ length (state_of w).frames
depth_here w depth is = is ∙ sym (as_many w.program w.frames)

pub few_here : {A : Type 0} (w : Whole A) → IsMachine w → length (state_of w).frames ≤ 1000
few_here w ok = let long = as_many w.program w.frames in omega (arith, long, ok.few)

-- ---- of a state

over_is : {A : Type 0} (p : Program A) (s : State) (n i : ℕ) (func : FuncId) → length s.frames - suc n ≡ i → func.index ≡ number_of p (slice_get s.frames i) → func ≡ func_over p s n
over_is p s n i func at is = λ j. record { index = (is ∙ ap (λ m. number_of p (slice_get s.frames m)) (sym at)) j }

pub innermost_is : {A : Type 0} (p : Program A) (s : State) (func : FuncId) → func.index ≡ number_of p (slice_get s.frames 0) → IsInnermost p s func
innermost_is p s func is = λ n long. over_is p s n 0 func (omega (arith, long)) is

-- one more that lasts
pub last_more : {A : Type 0} (p : Program A) (s : State) (begin inside below : ℕ) (func : FuncId) (old new : List Span) → below + suc inside ≡ length s.frames → func.index ≡ number_of p (slice_get s.frames inside)
    → new ≡ old ++ span (Some begin) None func below ∷ [] → new ≡ old ++ lasting (Some begin) (func_over p s below) below
last_more p s begin inside below func old new long is more = more ∙ ap (λ (f : FuncId). old ++ span (Some begin) None f below ∷ []) (over_is p s below inside func (omega (arith, long)) is)
