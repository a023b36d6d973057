-- The objects so far are noted.
use Rattle.std.proofs.Common.{◌≡◌, drop}
use Rattle.qil_shadow.specs.Objects.{object_named}
use Rattle.qil_shadow.specs.Spots.{origins_in}
use Rattle.qil_shadow.proofs.StartObjects.{AreNoted}
use Rattle.qil_shadow.proofs.start.note_datas.Given as goal

abbrev pub invariant-loop-object : goal.invariant-loop-object
invariant-loop-object g l =
    AreNoted (object_named l.names) l.datas (drop l.object-index l.datas) l.object-index l.at l.objects (origins_in l.memory)
    × (l.number ≡ l.object-index)
