use Rattle.std.proofs.Common.{ℕ, Option, None, Some}
use Rattle.qil_state.specs.declared.status.Status.TheVariants.{Running}
use Rattle.qil_machine.specs.Moves.{Bytes, at}
use Rattle.qil_machine.specs.Kinds.{one}
use Rattle.qil_fitting.proofs.Fitting.{bytes_of, fits_slot, fits_rest, fitting_slot}
use Rattle.qil_fitting.proofs.kept.fits_grew.Goals as goal

pub returns-then-is_slot : goal.returns-then-is_slot
returns-then-is_slot g c =
    let b : Option Bytes = bytes_of c.args.grown.now.saved in
    let t : Option ℕ = Some c.args.grown.now.saved.top in (
      λ h. fits_slot c.args.machine.now (at c.args.grown.now.index) c.args.grown.now.slot c.args.grown.now.value b t None (Some Running) (c.is_slot_there-is_slot.ensures.slot.0 c.if-is_slot.true) (c.fits_copied-is_saved.ensures.0 h),
      λ h. c.fits_copied-is_saved.ensures.1 (fits_rest c.args.machine.now (at c.args.grown.now.index) (one c.args.grown.now.slot c.args.grown.now.value) b t None (Some Running) h),
    )

pub returns-else-is_slot : goal.returns-else-is_slot
returns-else-is_slot g c =
    let b : Option Bytes = bytes_of c.args.grown.now.saved in
    let t : Option ℕ = Some c.args.grown.now.saved.top in (
      λ h. absurd (cc (h, c.if-is_slot.false)),
      λ h. c.is_slot_there-is_slot.ensures.slot.1 (fitting_slot c.args.machine.now (at c.args.grown.now.index) c.args.grown.now.slot c.args.grown.now.value b t None (Some Running) h),
    )
