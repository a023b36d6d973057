-- Each kind is put back as the move that it is.
use Rattle.std.proofs.Common.{refl, sym, ap, ◌∙◌}
use Rattle.qil_machine.specs.Kinds.{one, value_of, returned_move, wrote_move, poked_slot_move}
use Rattle.qil_machine.proofs.Undoing.{poked_fits}
use Rattle.qil_machine.proofs.KindsFit.{fits_kind, kind_undone}
use Rattle.qil_machine.proofs.machine.Machine.undo.Goals as goal

pub undo_assigned-requires : goal.undo_assigned-requires
undo_assigned-requires g c = fits_kind _ _ _ _ _ c.undo_record.view_is c.in-Assigned.is refl c.requires

pub returns-in-Assigned : goal.returns-in-Assigned
returns-in-Assigned g c = kind_undone _ _ _ _ _ _ c.undo_record.view_is c.in-Assigned.is refl c.undo_assigned.ensures

pub undo_stored-requires-clause-fits : goal.undo_stored-requires-clause-fits
undo_stored-requires-clause-fits g c = fits_kind _ _ _ _ _ c.undo_record.view_is c.in-Stored.is refl c.requires

pub returns-in-Stored : goal.returns-in-Stored
returns-in-Stored g c = kind_undone _ _ _ _ _ _ c.undo_record.view_is c.in-Stored.is refl c.undo_stored.ensures

pub undo_left-requires-clause-fits : goal.undo_left-requires-clause-fits
undo_left-requires-clause-fits g c = fits_kind _ _ _ _ _ c.undo_record.view_is c.in-Left.is refl c.requires

pub returns-in-Left : goal.returns-in-Left
returns-in-Left g c = kind_undone _ _ _ _ _ _ c.undo_record.view_is c.in-Left.is refl c.undo_left.ensures

pub undo_left-requires-in-LeftOne-clause-fits : goal.undo_left-requires-in-LeftOne-clause-fits
undo_left-requires-in-LeftOne-clause-fits g c = fits_kind _ _ _ _ _ c.undo_record.view_is c.in-LeftOne.is refl c.requires

pub returns-in-LeftOne : goal.returns-in-LeftOne
returns-in-LeftOne g c = kind_undone _ _ _ _ _ _ c.undo_record.view_is c.in-LeftOne.is refl c.undo_left-in-LeftOne.ensures

pub undo_left-requires-in-LeftTwo-clause-fits : goal.undo_left-requires-in-LeftTwo-clause-fits
undo_left-requires-in-LeftTwo-clause-fits g c = fits_kind _ _ _ _ _ c.undo_record.view_is c.in-LeftTwo.is refl c.requires

pub returns-in-LeftTwo : goal.returns-in-LeftTwo
returns-in-LeftTwo g c = kind_undone _ _ _ _ _ _ c.undo_record.view_is c.in-LeftTwo.is refl c.undo_left-in-LeftTwo.ensures

pub undo_left-requires-in-LeftShort-clause-fits : goal.undo_left-requires-in-LeftShort-clause-fits
undo_left-requires-in-LeftShort-clause-fits g c = fits_kind _ _ _ _ _ c.undo_record.view_is c.in-LeftShort.is refl c.requires

pub returns-in-LeftShort : goal.returns-in-LeftShort
returns-in-LeftShort g c = kind_undone _ _ _ _ _ _ c.undo_record.view_is c.in-LeftShort.is refl c.undo_left-in-LeftShort.ensures

pub undo_left-requires-in-LeftMany-clause-fits : goal.undo_left-requires-in-LeftMany-clause-fits
undo_left-requires-in-LeftMany-clause-fits g c = fits_kind _ _ _ _ _ c.undo_record.view_is c.in-LeftMany.is refl c.requires

pub returns-in-LeftMany : goal.returns-in-LeftMany
returns-in-LeftMany g c = kind_undone _ _ _ _ _ _ c.undo_record.view_is c.in-LeftMany.is refl c.undo_left-in-LeftMany.ensures

pub undo_called-requires : goal.undo_called-requires
undo_called-requires g c = fits_kind _ _ _ _ _ c.undo_record.view_is c.in-Called.is refl c.requires

pub returns-in-Called : goal.returns-in-Called
returns-in-Called g c = kind_undone _ _ _ _ _ _ c.undo_record.view_is c.in-Called.is refl c.undo_called.ensures

pub undo_returned-requires : goal.undo_returned-requires
undo_returned-requires g c = fits_kind _ _ _ _ _ c.undo_record.view_is c.in-Returned.is (ap (returned_move c.in-Returned.frame c.in-Returned.top) c.value_of.ensures) c.requires

pub returns-in-Returned : goal.returns-in-Returned
returns-in-Returned g c = kind_undone _ _ _ _ _ _ c.undo_record.view_is c.in-Returned.is (ap (returned_move c.in-Returned.frame c.in-Returned.top) c.value_of.ensures) c.undo_returned.ensures

pub undo_boxed_grew-requires : goal.undo_boxed_grew-requires
undo_boxed_grew-requires g c = fits_kind _ _ _ _ _ c.undo_record.view_is c.in-Grew.is refl c.requires

pub returns-in-Grew : goal.returns-in-Grew
returns-in-Grew g c = kind_undone _ _ _ _ _ _ c.undo_record.view_is c.in-Grew.is refl c.undo_boxed_grew.ensures

pub undo_boxed_copied-requires : goal.undo_boxed_copied-requires
undo_boxed_copied-requires g c = fits_kind _ _ _ _ _ c.undo_record.view_is c.in-Copied.is refl c.requires

pub returns-in-Copied : goal.returns-in-Copied
returns-in-Copied g c = kind_undone _ _ _ _ _ _ c.undo_record.view_is c.in-Copied.is refl c.undo_boxed_copied.ensures

pub undo_wrote-requires : goal.undo_wrote-requires
undo_wrote-requires g c = fits_kind _ _ _ _ _ c.undo_record.view_is c.in-Wrote.is refl c.requires

pub returns-in-Wrote : goal.returns-in-Wrote
returns-in-Wrote g c = kind_undone _ _ _ _ _ _ c.undo_record.view_is c.in-Wrote.is refl c.undo_wrote.ensures

pub undo_wrote_to-requires : goal.undo_wrote_to-requires
undo_wrote_to-requires g c = fits_kind _ _ _ _ _ c.undo_record.view_is c.in-WroteTo.is (ap (λ v. wrote_move c.in-WroteTo.index c.in-WroteTo.count (one c.in-WroteTo.slot v)) c.value_of-in-WroteTo.ensures) c.requires

pub returns-in-WroteTo : goal.returns-in-WroteTo
returns-in-WroteTo g c = kind_undone _ _ _ _ _ _ c.undo_record.view_is c.in-WroteTo.is (ap (λ v. wrote_move c.in-WroteTo.index c.in-WroteTo.count (one c.in-WroteTo.slot v)) c.value_of-in-WroteTo.ensures) c.undo_wrote_to.ensures

pub undo_ended-requires : goal.undo_ended-requires
undo_ended-requires g c = fits_kind _ _ _ _ _ c.undo_record.view_is c.in-Ended.is refl c.requires

pub returns-in-Ended : goal.returns-in-Ended
returns-in-Ended g c = kind_undone _ _ _ _ _ _ c.undo_record.view_is c.in-Ended.is refl c.undo_ended.ensures

pub undo_poked_slot-requires : goal.undo_poked_slot-requires
undo_poked_slot-requires g c =
    poked_fits c.args.undo_record c.args.self.now c.in-PokedSlot.slot (value_of c.in-PokedSlot.was_set c.in-PokedSlot.old) _
    (sym c.undo_record.view_is ∙ rw c.in-PokedSlot.is refl) c.value_of-in-PokedSlot.ensures c.requires

pub returns-in-PokedSlot : goal.returns-in-PokedSlot
returns-in-PokedSlot g c = kind_undone _ _ _ _ _ _ c.undo_record.view_is c.in-PokedSlot.is (ap (poked_slot_move c.in-PokedSlot.slot) c.value_of-in-PokedSlot.ensures) c.undo_poked_slot.ensures

pub undo_poked_bytes-requires-clause-fits : goal.undo_poked_bytes-requires-clause-fits
undo_poked_bytes-requires-clause-fits g c = fits_kind _ _ _ _ _ c.undo_record.view_is c.in-PokedBytes.is refl c.requires

pub returns-in-PokedBytes : goal.returns-in-PokedBytes
returns-in-PokedBytes g c = kind_undone _ _ _ _ _ _ c.undo_record.view_is c.in-PokedBytes.is refl c.undo_poked_bytes.ensures
