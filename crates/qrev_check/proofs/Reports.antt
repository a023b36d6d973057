-- The report of a pass, and what is written of it.
use Rattle.std.proofs.Common.{◌≡◌, ◌⊎◌, ◌++◌, ◌∙◌, ℕ, ◌≤◌, List, [], ◌∷◌, length, map, sym, ap, subst, inl, inr, true, refl}
use Rattle.std.specs.Prelude.{Option, Some, None}
use Rattle.std.specs.List.{flat_map}
use Rattle.std.proofs.lemmas.List.{length-map}
use Rattle.std.proofs.lemmas.List.Folds.{flat_map-map}
use Rattle.qil_tree.specs.declared.tree.Func.{Func}
use Rattle.qil_tree.specs.declared.tree.Program.{Program}
use Rattle.qil_rules.specs.Verdict.{Verdict}
use Rattle.qil_semantics.specs.State.{State, Status, is_final}
use Rattle.qil_semantics.specs.State as states
use Rattle.qil_semantics.specs.Targets.{after}
use Rattle.qil_state.specs.State.{state_of}
use Rattle.qil_shadow.specs.Shadow.{Shadow, shadow_at_start}
use Rattle.qil_shadow.specs.Suspicions.{suspicions}
use Rattle.qil_shadow.specs.Steps.{shadow_of}
use Rattle.qil_suspicions.specs.declared.notes.Note as numbered
use Rattle.qil_suspicions.specs.Adding.{note_named}
use Rattle.qil_suspicions.specs.Notes.{Note, noted}
use Rattle.qil_suspicions.specs.Run.{CheckedRun, IsAtStart, HasNoted}
use Rattle.qrev_check.specs.declared.report.Outcome.{Outcome}
use Rattle.qrev_check.specs.declared.report.Outcome.TheVariants as outcomes
use Rattle.qrev_check.specs.Told.{note_line, last_line, report_text}
use Rattle.qrev_check.specs.Report.{Setup, Begins, IsChecked, notes_of, outcome_of, IsReport, Leaves, Written, IsWritten}

-- lines of notes by number, and the last one, are the report by names
pub reported : {A : Type 0} (p q : Program A) (notes ns : List numbered.Note) (moves m : ℕ) (unsure : Option ℕ) (start before text : List ℕ)
    → q ≡ p → ns ≡ notes → m ≡ moves → start ≡ [] → before ≡ start ++ flat_map (λ n. note_line (note_named q n)) ns → text ≡ before ++ last_line (length ns) m unsure
    → text ≡ report_text (map (note_named p) notes) moves unsure
reported p q notes ns moves m unsure start before text ep en em es eb et =
    et ∙ ap (λ (x : List ℕ). x ++ last_line (length ns) m unsure) eb
    ∙ (λ i. (es i ++ flat_map (λ n. note_line (note_named (ep i) n)) (en i)) ++ last_line (length (en i)) (em i) unsure)
    ∙ (λ i. sym (flat_map-map note_line (note_named p) notes) i ++ last_line (sym (length-map notes (note_named p)) i) moves unsure)

-- a report is what is left behind, whatever came of its run
pub left : (A : Type 0) (s : Setup) (notes : List Note) (status : Status) (text : List ℕ) → IsReport A s (outcome_of notes status) text → Leaves A (outcome_of notes status) s text
left A s (n ∷ ns) status text h = h
left A s [] states.running text h = h
left A s [] (states.done value) text h = h
left A s [] (states.exited value) text h = h
left A s [] (states.faulted fault) text h = h

pub wrote : (A : Type 0) (s : Setup) (notes : List Note) (status : Status) (result outcome : Outcome) (text : List ℕ) (before now : Option (List ℕ)) → outcome ≡ outcome_of notes status
    → IsReport A s outcome text → IsWritten result outcome text before now → Written A result s before now
wrote A s notes status result outcome text before now e h (inl w) =
    (text, w.1, subst (λ (o : Outcome). Leaves A o s text) (sym e ∙ sym w.0) (left A s notes status text (subst (λ (o : Outcome). IsReport A s o text) e h)))
wrote A s notes status result outcome text before now e h (inr w) =
    (w.1, w.3, subst (λ (o : Outcome). Leaves A o s w.1) (sym w.0) (outcome, text, h, w.2))

module _ {A : Type 0} (s : Setup) (verdict : Verdict A) (func : Func A) (r q : CheckedRun A) where
  -- the notes of a pass from the start are those of the program's run
  pub notes_are : r.whole.program ≡ verdict.program → shadow_of r.whole.program (state_of r.whole) r.shadow ≡ shadow_at_start verdict.program func → q.whole.program ≡ r.whole.program → HasNoted r q
      → map (note_named q.whole.program) q.notes ≡ notes_of verdict.program func (state_of r.whole) q.moves
  notes_are ep es eq h =
      ap (λ (p : Program A). map (note_named p) q.notes) eq ∙ h ∙ (λ i. noted (suspicions (ep i) (state_of r.whole) (es i) q.moves))

  -- what is written of it
  pub passed : (limit : ℕ) → Begins s verdict func (state_of r.whole) → s.limit ≡ limit → r.whole.program ≡ verdict.program → IsAtStart r
      → shadow_of r.whole.program (state_of r.whole) r.shadow ≡ shadow_at_start verdict.program func
      → q.whole.program ≡ r.whole.program → q.moves ≤ limit → state_of q.whole ≡ after r.whole.program (state_of r.whole) q.moves
      → (q.moves ≡ limit) ⊎ (is_final (state_of q.whole).status ≡ true) → (IsAtStart r → HasNoted r q)
      → (text : List ℕ) (outcome : Outcome) → (unsure : Option ℕ) × (text ≡ report_text (map (note_named q.whole.program) q.notes) q.moves unsure)
      → outcome ≡ outcome_of (map (note_named q.whole.program) q.notes) (state_of q.whole).status
      → (result : Outcome) (before now : Option (List ℕ)) → IsWritten result outcome text before now → Written A result s before now
  passed limit begins el ep at es eq few steps all noted text outcome told eo result before now written =
      let N = notes_are ep es eq (noted at) in
      let S : state_of q.whole ≡ after verdict.program (state_of r.whole) q.moves = steps ∙ ap (λ (p : Program A). after p (state_of r.whole) q.moves) ep in
      let ends : (q.moves ≡ s.limit) ⊎ (is_final (after verdict.program (state_of r.whole) q.moves).status ≡ true) =
      subst (λ (x : ℕ). (q.moves ≡ x) ⊎ (is_final (after verdict.program (state_of r.whole) q.moves).status ≡ true)) (sym el)
      (subst (λ (x : State). (q.moves ≡ limit) ⊎ (is_final x.status ≡ true)) S all) in
      let E : outcome ≡ outcome_of (notes_of verdict.program func (state_of r.whole) q.moves) (after verdict.program (state_of r.whole) q.moves).status =
      eo ∙ (λ i. outcome_of (N i) (S i).status) in
      wrote A s (notes_of verdict.program func (state_of r.whole) q.moves) (after verdict.program (state_of r.whole) q.moves).status result outcome text before now E
      (record {
        verdict = verdict;
        func = func;
        start = state_of r.whole;
        begins = begins;
        moves = q.moves;
        checked = record { few = subst (λ (x : ℕ). q.moves ≤ x) (sym el) few; all = ends };
        unsure = told.0;
        text_is = told.1 ∙ ap (λ (ns : List Note). report_text ns q.moves told.0) N;
        outcome_is = E;
      })
      written
