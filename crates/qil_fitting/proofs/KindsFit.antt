-- An undo record fits as the move that its kind is.
use Rattle.std.proofs.Common.{◌≡◌, ◌∙◌, ap, subst, Bool}
use Rattle.std.specs.Prelude.{◌↔◌, IsTrue}
use Rattle.std.specs.declared.vec.Vec.{Vec}
use Rattle.arrayvec.specs.ArrayVec.{ArrayVec}
use Rattle.qil_state.specs.State.{Whole}
use Rattle.qil_machine.specs.declared.undo_record.UndoKind.{UndoKind}
use Rattle.qil_machine.specs.declared.undo_record.Grown.{Grown}
use Rattle.qil_machine.specs.declared.undo_record.Copied.{Copied}
use Rattle.qil_machine.specs.Moves.{Move, Fits}
use Rattle.qil_machine.specs.Kinds.{grown_move, copied_move}
use Rattle.qil_machine.specs.UndoRecords.{move_of}
use Rattle.qil_machine.proofs.KindsFit.{same_move}

pub kind_fits : {A : Type 0} (k v : UndoKind A) (d e : Move) (m : Whole A) (b : Bool) → move_of k ≡ d → k ≡ v → e ≡ move_of v → (IsTrue b ↔ Fits e m) → (IsTrue b ↔ Fits d m)
kind_fits k v d e m b view is made h = subst (λ x. IsTrue b ↔ Fits x m) (same_move k v d e view is made) h

-- ---- what a box lends

pub kept_items : {X A : Type 0} (a b : Vec X A) → a ≡ b → a.items ≡ b.items
kept_items a b e = ap (λ v. v.items) e

pub short_items : {X : Type 0} (a b : ArrayVec X) → a ≡ b → a.items ≡ b.items
short_items a b e = ap (λ v. v.items) e

pub grown_same : {A : Type 0} (a b : Grown A) → a ≡ b → grown_move a.index a.slot a.value a.saved ≡ grown_move b.index b.slot b.value b.saved
grown_same a b e = ap (λ k. grown_move k.index k.slot k.value k.saved) e

pub copied_same : {A : Type 0} (a b c : Copied A) → a ≡ c → b ≡ c → copied_move a.index b.saved ≡ copied_move c.index c.saved
copied_same a b c e f = ap (λ k. copied_move k.index b.saved) e ∙ ap (λ k. copied_move c.index k.saved) f
