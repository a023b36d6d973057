-- An undo record fits, and is put back, as the move that its kind is.
use Rattle.std.proofs.Common.{◌≡◌, ◌∙◌, sym, ap, subst}
use Rattle.qil_state.specs.State.{Whole}
use Rattle.qil_machine.specs.declared.undo_record.UndoKind.{UndoKind}
use Rattle.qil_machine.specs.Moves.{Move, undone, Fits}
use Rattle.qil_machine.specs.UndoRecords.{move_of}

-- a kind that is another has its move
pub same_move : {A : Type 0} (k v : UndoKind A) (d e : Move) → move_of k ≡ d → k ≡ v → e ≡ move_of v → e ≡ d
same_move k v d e view is made = made ∙ ap move_of (sym is) ∙ view

pub fits_kind : {A : Type 0} (k v : UndoKind A) (d e : Move) (m : Whole A) → move_of k ≡ d → k ≡ v → e ≡ move_of v → Fits d m → Fits e m
fits_kind k v d e m view is made h = subst (λ x. Fits x m) (sym (same_move k v d e view is made)) h

pub kind_undone : {A : Type 0} (k v : UndoKind A) (d e : Move) (m w : Whole A) → move_of k ≡ d → k ≡ v → e ≡ move_of v → w ≡ undone e m → w ≡ undone d m
kind_undone k v d e m w view is made h = h ∙ ap (λ x. undone x m) (same_move k v d e view is made)
