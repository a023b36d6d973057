-- How many bytes are taken of a source.
use Rattle.std.proofs.Common.{◌≡◌, ℕ, ◌+◌, ◌≤◌, ◌^◌, List, [], arith, refl}
use Rattle.std.specs.Prelude.{Option, Some, None, IfSome}
use Rattle.qil_streams.specs.Reading.{Reading, read_count}
use Rattle.qil_streams.specs.Reader.{Reads}
use Rattle.qil_streams.proofs.DeviceLemmas.{Consumes-nil}
use Rattle.qil_streams.proofs.ReaderLemmas.{Reads-append}
use Rattle.qil_session.specs.Serve.{TakesFew}

-- a reader that has read nothing
abbrev pub unread : Reading
unread = record { pending = []; given = 0 }

pub Reads-start : (r : Reading) (before : Option (List ℕ)) → r.pending ≡ [] → r.given ≡ 0 → Reads unread r before before
Reads-start r before pending given = ([], Consumes-nil before, rw (pending, given) refl)

few_of : (new : Reading) (known left : Option (List ℕ)) → Reads unread new known left → read_count new ≤ 2 ^ 24 + 1 → IfSome known (λ script. TakesFew script left)
few_of new None left reads within = tt
few_of new (Some script) left (bytes, taken, count) within = (bytes, taken, omega (arith, count, within))

-- what was read before a line, and with it
pub few_read : (mid new : Reading) (known middle left : Option (List ℕ)) → Reads unread mid known middle → Reads mid new middle left → read_count new ≤ 2 ^ 24 + 1 →
    IfSome known (λ script. TakesFew script left)
few_read mid new known middle left before line within = few_of new known left (Reads-append unread mid new known middle left before line) within
