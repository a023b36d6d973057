-- An edge, from the place of the innermost frame to the block that it leads to.
use Rattle.std.proofs.Common.{◌≡◌, refl, sym, ap, ◌∙◌, subst, List, ◌∷◌, length, Option, Some, Ok, Err, arith}
use Rattle.std.specs.List.{All, flat_map}
use Rattle.qil_tree.specs.declared.tree.Block.{Block}
use Rattle.qil_tree.specs.declared.tree.Func.{Func}
use Rattle.qil_tree.specs.declared.tree.Program.{Program}
use Rattle.qil_semantics.specs.State as meaning
use Rattle.qil_semantics.specs.State.{Name, State, unset_temporary}
use Rattle.qil_semantics.specs.Values.{Outcome, ◌>>=◌}
use Rattle.qil_semantics.specs.Step as step
use Rattle.qil_semantics.specs.Step.{phi_moves, merges, enters_block, goes, block_labelled}
use Rattle.qil_code.specs.declared.numbered.Slot.{Slot}
use Rattle.qil_code.specs.declared.numbered.Edge.{Edge}
use Rattle.qil_code.specs.Slots.{name_at}
use Rattle.qil_code.specs.Numbered.{func_at, block_at, names_of}
use Rattle.qil_code.specs.Ranges.{MoveInRange}
use Rattle.qil_code.specs.Reading.{labels_at}
use Rattle.qil_code.proofs.EdgesNamed.{EdgeNamed}
use Rattle.qil_frames.specs.declared.saved.SavedSlot.{SavedSlot}
use Rattle.qil_frames.specs.Frames.{SlotFrame}
use Rattle.qil_frames.specs.Enter.{gathered, entered}
use Rattle.qil_frames.proofs.ValueLemmas.{length-written}
use Rattle.qil_state.specs.State.{label_in, FrameFits, PlaceFits, frame_state, frames_state}
use Rattle.qil_state.proofs.Reading.{are_slots}
use Rattle.qil_state.proofs.Place.{block_at_here}
use Rattle.qil_state.proofs.Entering.{Merges, merges_by}

-- ---- going along it

pub record EdgeHere {A : Type 0} (p : Program A) (f : SlotFrame) (fs : List SlotFrame) (s : State) (func : Func A) (e : Edge A) : Type 0 where
  pub goes_there : (ks : List SavedSlot) → gathered f.slots e.moves ≡ Ok ks
      → goes p s (frame_state p fs f) (frames_state p fs) func (name_at (labels_at p f.func) e.to.index) ≡ Ok (record s { frames = frames_state p (entered e.to.index ks f ∷ fs) })
  pub unset : (t : Slot) → gathered f.slots e.moves ≡ Err t
      → goes p s (frame_state p fs f) (frames_state p fs) func (name_at (labels_at p f.func) e.to.index) ≡ Err (unset_temporary (name_at (names_of p f.func) t.index))

abbrev at_block : State → List meaning.Frame → Name → meaning.Frame → Outcome State
at_block s FS l g = Ok (record s { frames = record g { label = l; index = 0 } ∷ FS })

pub edge_here : {A : Type 0} (p : Program A) (f : SlotFrame) (fs : List SlotFrame) (s : State) (func : Func A) (e : Edge A)
    → FrameFits p f → func_at p f.func ≡ Some func → EdgeNamed p f.func func (label_in (block_at p f.func f.block)) e → All (MoveInRange (length (names_of p f.func))) e.moves → EdgeHere p f fs s func e
edge_here {A} p f fs s func e fits ef named range =
    let ns : List Name = names_of p f.func in
    let F : meaning.Frame = frame_state p fs f in
    let FS : List meaning.Frame = frames_state p fs in
    let b : Block A = named.target in
    let tree : List step.PhiMove = flat_map (phi_moves F.label) b.phis in
    let moves : All (MoveInRange (length f.slots)) e.moves = subst (λ n. All (MoveInRange n) e.moves) fits.slots range in
    let by : Merges p F tree ns f.slots e.moves = merges_by p F tree ns f.slots e.moves named.moves refl (are_slots p f fits) moves in
    let label : b.label ≡ label_in (block_at p f.func e.to.index) =
    ap (λ (o : Option (Block A)). label_in o) (sym (block_at_here p f.func e.to.index func b ef named.there)) in
    let into : goes p s F FS func (name_at (labels_at p f.func) e.to.index) ≡ (merges p F tree >>= at_block s FS b.label) = ap (enters_block p s F FS) named.found in
    record {
      goes_there = λ ks at. into ∙ ap (λ o. o >>= at_block s FS b.label) (by.done ks at)
          ∙ (λ i. at_block s FS (label i) (record F { temps = (frame_state p fs (entered e.to.index ks f)).temps }));
      unset = λ t at. into ∙ ap (λ o. o >>= at_block s FS b.label) (by.unset t at);
    }

-- ---- the frame after it

pub entered_fits : {A : Type 0} (p : Program A) (f : SlotFrame) (func : Func A) (left : Name) (e : Edge A) (ks : List SavedSlot)
    → FrameFits p f → func_at p f.func ≡ Some func → EdgeNamed p f.func func left e → FrameFits p (entered e.to.index ks f)
entered_fits {A} p f func left e ks fits ef named = record {
  place = subst (λ (o : Option (Block A)). PlaceFits o 0) (sym (block_at_here p f.func e.to.index func named.target ef named.there)) (omega arith);
  slots = fits.slots ∙ sym (length-written ks f.slots);
}
