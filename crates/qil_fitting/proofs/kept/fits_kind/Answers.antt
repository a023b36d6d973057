-- Each kind fits as the move that it is.
use Rattle.std.proofs.Common.{refl, ap, ◌∙◌}
use Rattle.qil_machine.specs.Moves.{end_of}
use Rattle.qil_machine.specs.Kinds.{slots_move, one, returned_move, wrote_move, poked_slot_move}
use Rattle.qil_fitting.proofs.KindsFit.{kind_fits, kept_items, short_items, grown_same, copied_same}
use Rattle.qil_fitting.proofs.kept.fits_kind.Goals as goal

pub returns-in-Assigned : goal.returns-in-Assigned
returns-in-Assigned g c = kind_fits _ _ _ _ c.args.machine.now _ refl c.in-Assigned.is refl c.fits_assigned.ensures

pub returns-in-Stored : goal.returns-in-Stored
returns-in-Stored g c = kind_fits _ _ _ _ c.args.machine.now _ refl c.in-Stored.is refl c.fits_stored.ensures

pub returns-in-Left : goal.returns-in-Left
returns-in-Left g c = kind_fits _ _ _ _ c.args.machine.now _ refl c.in-Left.is refl c.fits_left.ensures

pub returns-in-LeftOne : goal.returns-in-LeftOne
returns-in-LeftOne g c = kind_fits _ _ _ _ c.args.machine.now _ refl c.in-LeftOne.is refl c.fits_left_one.ensures

pub returns-in-LeftTwo : goal.returns-in-LeftTwo
returns-in-LeftTwo g c = kind_fits _ _ _ _ c.args.machine.now _ refl c.in-LeftTwo.is refl c.fits_left_two.ensures

pub returns-in-LeftShort : goal.returns-in-LeftShort
returns-in-LeftShort g c = kind_fits _ _ _ _ c.args.machine.now _ refl c.in-LeftShort.is (ap (slots_move (end_of c.in-LeftShort.block)) (c.as_slice.ensures.value ∙ short_items _ _ c.deref.ensures)) c.fits_left-in-LeftShort.ensures

pub returns-in-LeftMany : goal.returns-in-LeftMany
returns-in-LeftMany g c = kind_fits _ _ _ _ c.args.machine.now _ refl c.in-LeftMany.is (ap (slots_move (end_of c.in-LeftMany.block)) (c.as_slice-in-LeftMany.ensures.value ∙ kept_items _ _ c.deref-in-LeftMany.ensures)) c.fits_left-in-LeftMany.ensures

pub returns-in-Called : goal.returns-in-Called
returns-in-Called g c = kind_fits _ _ _ _ c.args.machine.now _ refl c.in-Called.is refl c.fits_called.ensures

pub returns-in-Returned : goal.returns-in-Returned
returns-in-Returned g c = kind_fits _ _ _ _ c.args.machine.now _ refl c.in-Returned.is (ap (returned_move c.in-Returned.frame c.in-Returned.top) c.value_of.ensures) c.fits_returned.ensures

pub returns-in-Grew : goal.returns-in-Grew
returns-in-Grew g c = kind_fits _ _ _ _ c.args.machine.now _ refl c.in-Grew.is (grown_same _ _ c.deref-in-Grew.ensures) c.fits_grew.ensures

pub returns-in-Copied : goal.returns-in-Copied
returns-in-Copied g c = kind_fits _ _ _ _ c.args.machine.now _ refl c.in-Copied.is (copied_same _ _ _ c.deref-in-Copied.ensures c.deref-in-Copied-2.ensures) c.fits_copied.ensures

pub returns-in-Wrote : goal.returns-in-Wrote
returns-in-Wrote g c = kind_fits _ _ _ _ c.args.machine.now _ refl c.in-Wrote.is refl c.fits_wrote.ensures

pub returns-in-WroteTo : goal.returns-in-WroteTo
returns-in-WroteTo g c = kind_fits _ _ _ _ c.args.machine.now _ refl c.in-WroteTo.is (ap (λ v. wrote_move c.in-WroteTo.index c.in-WroteTo.count (one c.in-WroteTo.slot v)) c.value_of-in-WroteTo.ensures) c.fits_wrote_to.ensures

pub returns-in-Ended : goal.returns-in-Ended
returns-in-Ended g c = kind_fits _ _ _ _ c.args.machine.now _ refl c.in-Ended.is refl c.fits_ended.ensures

pub returns-in-PokedSlot : goal.returns-in-PokedSlot
returns-in-PokedSlot g c = kind_fits _ _ _ _ c.args.machine.now _ refl c.in-PokedSlot.is (ap (poked_slot_move c.in-PokedSlot.slot) c.value_of-in-PokedSlot.ensures) c.fits_poked_slot.ensures

pub returns-in-PokedBytes : goal.returns-in-PokedBytes
returns-in-PokedBytes g c = kind_fits _ _ _ _ c.args.machine.now _ refl c.in-PokedBytes.is refl c.fits_poked_bytes.ensures
