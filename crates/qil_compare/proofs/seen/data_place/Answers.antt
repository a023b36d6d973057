-- The place is that of the last object that starts at the address or before it.
use Rattle.std.proofs.Common.{Some, None}
use Rattle.qil_compare.proofs.Places.{place_far, place_near, place_some}
use Rattle.qil_compare.proofs.seen.data_place.Goals as goal

pub returns-then-address-bytes : goal.returns-then-address-bytes
returns-then-address-bytes g c = place_far c.args.program.now c.args.image.now c.args.address c.bytes.result.now c.requires c.bytes.ensures.value c.if-address-bytes.true

pub returns-in-Some : goal.returns-in-Some
returns-in-Some g c =
    place_some c.args.image.now c.args.address c.start_of.result c.saturating_sub.result c.bytes-in-Some.result.now c.in-Some.data.now _ c.bytes-in-Some.ensures c.start_of.ensures c.saturating_sub.ensures
    (place_near c.args.program.now c.args.image.now c.args.address c.bytes.result.now c.as_slice.result.now (Some c.in-Some.data.now) c.requires c.bytes.ensures.value c.if-address-bytes.false c.as_slice.ensures c.in-Some.ensures)

pub returns-in-None : goal.returns-in-None
returns-in-None g c =
    place_near c.args.program.now c.args.image.now c.args.address c.bytes.result.now c.as_slice.result.now None c.requires c.bytes.ensures.value c.if-address-bytes.false c.as_slice.ensures c.in-None.ensures
