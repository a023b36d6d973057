-- Facts on what is kept.
use Rattle.std.proofs.Common.{◌≡◌, ℕ, ◌+◌, ◌≤◌, suc, List, [], ◌∷◌, ◌++◌, length, reverse, None, Result, Ok, Err, OnOk, ap, sym, ◌∙◌, subst, refl, arith}
use Rattle.std.proofs.lemmas.List.{length-reverse, reverse-append}
use Rattle.std.proofs.lemmas.List.Sums.{sum_by_push}
use Rattle.qil_semantics.specs.State.{State}
use Rattle.qil_semantics.specs.Poke.{PokeFault}
use Rattle.qil_semantics.specs.Step.{step_of}
use Rattle.qil_semantics.specs.Cost.{cost_of}
use Rattle.qil_semantics.specs.Timeline.{to, forward, poked}
use Rattle.qil_state.specs.State.{Whole, state_of}
use Rattle.qil_machine.specs.Moves.{Move, undone, weight}
use Rattle.qil_machine.specs.Places.{Made, HasMade}
use Rattle.qil_machine.specs.Costs.{WeighsAtMost}
use Rattle.qil_undo_log.specs.Kept.{before, AllFit, Moved, moved_timeline}
use Rattle.qil_undo_log.specs.Weights.{total}

before-length : {A : Type 0} (ds : List Move) (m : Whole A) → length (before ds m) ≡ length ds
before-length [] m = refl
before-length (d ∷ ds) m = ap suc (before-length ds (undone d m))

-- as many states before as moves
pub length_before : {A : Type 0} (ds : List Move) (m : Whole A) → length (before (reverse ds) m) ≡ length ds
length_before ds m = before-length (reverse ds) m ∙ length-reverse ds

-- the states before a move more
pub before_made : {A : Type 0} (ds : List Move) (d : Move) (m w : Whole A) → Made d m w → before (reverse (ds ++ d ∷ [])) w ≡ state_of m ∷ before (reverse ds) m
before_made {A} ds d m w made =
    ap (λ xs. before xs w) (reverse-append ds (d ∷ [])) ∙ ap (λ (v : Whole A). state_of v ∷ before (reverse ds) v) made.undo

pub fits_made : {A : Type 0} (ds : List Move) (d : Move) (m w : Whole A) → Made d m w → AllFit (reverse ds) m → AllFit (reverse (ds ++ d ∷ [])) w
fits_made {A} ds d m w made fit =
    subst (λ xs. AllFit xs w) (sym (reverse-append ds (d ∷ []))) (made.fits, subst (AllFit (reverse ds)) (sym made.undo) fit)

-- ---- one more of all undo records

abbrev pub kept : {A : Type 0} → Whole A → List Move → Moved A
kept m ds = record { machine = m; records = ds }

module _ {A : Type 0} (m w : Whole A) (ds es : List Move) (d : Move) where
  -- all may be put back
  pub stays_kept : es ≡ ds ++ d ∷ [] → Made d m w → AllFit (reverse ds) m → AllFit (reverse es) w
  stays_kept e made fit = subst (λ xs. AllFit (reverse xs) w) (sym e) (fits_made ds d m w made fit)

  moved-on : es ≡ ds ++ d ∷ [] → Made d m w → moved_timeline (kept w es) ≡ to (state_of w) (moved_timeline (kept m ds))
  moved-on e made =
      let past : before (reverse es) w ≡ state_of m ∷ before (reverse ds) m = ap (λ xs. before (reverse xs) w) e ∙ before_made ds d m w made in
      λ i. record { now = state_of w; past = past i; forgotten = 0; keeps = None }

  -- a poke that isn't refused is a move
  pub pokes_kept : (now : Moved A) (r : Result State PokeFault) → kept m ds ≡ now → es ≡ ds ++ d ∷ [] → Made d m w → r ≡ Ok (state_of w) → poked (moved_timeline now) r ≡ Ok (moved_timeline (kept w es))
  pokes_kept now r view e made is =
      subst (λ (k : Moved A). poked (moved_timeline k) r ≡ Ok (moved_timeline (kept w es))) view
      (ap (poked (moved_timeline (kept m ds))) is ∙ ap Ok (sym (moved-on e made)))

  -- its weight is added
  pub adds_weight : (now : Moved A) (k : ℕ) → kept m ds ≡ now → es ≡ ds ++ d ∷ [] → weight d ≤ k → total es ≤ total now.records + k
  adds_weight now k view e few =
      let whole : total es ≡ total ds + weight d = ap total e ∙ sum_by_push weight ds d in
      subst (λ (r : Moved A). total es ≤ total r.records + k) view (omega (arith, whole, few))

-- where the list is the same and the machine too, so is the timeline
pub kept_moves : {A : Type 0} (m : Whole A) (ds es : List Move) (k : Moved A) → ds ≡ es → kept m es ≡ k → moved_timeline (kept m ds) ≡ moved_timeline k
kept_moves {A} m ds es k e is = ap (λ (xs : List Move). moved_timeline (kept m xs)) e ∙ ap (λ (x : Moved A). moved_timeline x) is

-- a step that was kept behind the others is the move forward
pub steps_kept : {A T E : Type 0} (r : Result T E) (m w : Whole A) (ds es fs : List Move) (now : Moved A) → OnOk r (state_of w ≡ step_of m.program (state_of m)) → OnOk r (HasMade (λ d. es ≡ ds ++ d ∷ []) m w) → ds ≡ fs → kept m fs ≡ now
    → OnOk r (moved_timeline (kept w es) ≡ forward now.machine.program (moved_timeline now))
steps_kept (Err e) m w ds es fs now step made same view = tt
steps_kept {A} (Ok x) m w ds es fs now step made same view =
    subst (λ (k : Moved A). moved_timeline (kept w es) ≡ forward k.machine.program (moved_timeline k)) (ap (λ (xs : List Move). kept m xs) same ∙ view)
    (moved-on m w ds es made.move made.is_kept made.made ∙ ap (λ (s : State). to s (moved_timeline (kept m ds))) step)

-- and adds at most what the step costs
pub steps_weigh : {A T E : Type 0} (r : Result T E) (m : Whole A) (ds es fs : List Move) (now : Moved A) → OnOk r (WeighsAtMost (λ d. es ≡ ds ++ d ∷ []) (cost_of m.program (state_of m))) → ds ≡ fs → kept m fs ≡ now
    → OnOk r (total es ≤ total now.records + cost_of now.machine.program (state_of now.machine))
steps_weigh (Err e) m ds es fs now few same view = tt
steps_weigh {A} (Ok x) m ds es fs now few same view =
    subst (λ (k : Moved A). total es ≤ total k.records + cost_of k.machine.program (state_of k.machine)) (ap (λ (xs : List Move). kept m xs) same ∙ view)
    (adds_weight m m ds es few.0 (kept m ds) (cost_of m.program (state_of m)) refl few.1 few.2)
