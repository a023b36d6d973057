-- A byte more is a longer prefix of the line, and byte 10 ends it.
use Rattle.std.proofs.Common.{◌≡◌, ◌+◌, [], ◌∷◌, ◌++◌, take, length, length-append, ap, ◌∙◌, refl, arith}
use Rattle.qil_streams.proofs.DeviceLemmas.{Consumes-append, Consumes-end}
use Rattle.qil_streams.proofs.ReaderLemmas.{take-take-append, IsLine-append, Reads-append, TakesPrefix-nil, has_bytes}
use Rattle.qil_streams.proofs.reader.LineReader.next.Goals as goal

pub loop-byte-init : goal.loop-byte-init
loop-byte-init g c = (TakesPrefix-nil _ _ _ c.clear.ensures, refl)

pub loop-byte-preserved : goal.loop-byte-preserved
loop-byte-preserved g c =
    let so_far = c.loop-byte.invariant.0 in
    let line = so_far.line in
    let next_byte = rw c.in-Byte.is at c.in_ok-next.ensures.next_byte in
    let byte = c.in-Byte.byte in
    let longer : length (line ++ byte ∷ []) ≡ length line + 1 = length-append line (byte ∷ []) in (
      record {
        line = line ++ byte ∷ [];
        is_line = IsLine-append line byte so_far.is_line c.in-Byte.byte-test.1;
        taken = Consumes-append _ _ _ line (byte ∷ []) so_far.taken next_byte.0;
        kept_is = c.push.ensures ∙ ap (λ v. take 257 (v ++ byte ∷ [])) so_far.kept_is ∙ take-take-append 257 line (byte ∷ []);
        given = omega (arith, next_byte.1, so_far.given, longer);
        reads = Reads-append _ _ _ _ _ _ so_far.reads c.in_ok-next.ensures.reads;
      },
      c.in_ok-next.ensures.counted ∙ c.loop-byte.invariant.1,
    )

pub returns-in-Byte-eq10-clause-line : goal.returns-in-Byte-eq10-clause-line
returns-in-Byte-eq10-clause-line g c =
    let so_far = c.loop-byte.invariant.0 in
    let line = so_far.line in
    let next_byte = rw c.in-Byte-eq10.is at c.in_ok-next.ensures.next_byte in
    (line, so_far.is_line, (Consumes-append _ _ _ line (10 ∷ []) so_far.taken (rw c.in-Byte-eq10.field-0-test at next_byte.0), so_far.kept_is, omega (arith, next_byte.1, so_far.given), next_byte.2))

pub returns-in-Byte-eq10-clause-reads : goal.returns-in-Byte-eq10-clause-reads
returns-in-Byte-eq10-clause-reads g c = Reads-append _ _ _ _ _ _ c.loop-byte.invariant.0.reads c.in_ok-next.ensures.reads

pub returns-in-End-clause-reads : goal.returns-in-End-clause-reads
returns-in-End-clause-reads g c = Reads-append _ _ _ _ _ _ c.loop-byte.invariant.0.reads c.in_ok-next.ensures.reads

pub returns-in-End-2-clause-line : goal.returns-in-End-2-clause-line
returns-in-End-2-clause-line g c =
    let so_far = c.loop-byte.invariant.0 in
    let line = so_far.line in
    let next_byte = rw c.in-End-2.is at c.in_ok-next.ensures.next_byte in
    let some = has_bytes c.as_slice.result.now _ line c.is_empty.result c.as_slice.ensures c.is_empty.ensures c.if-is_empty.false so_far.kept_is in
    (line, so_far.is_line, (Consumes-end _ _ _ line so_far.taken next_byte.0, so_far.kept_is, some, next_byte.1, omega (arith, next_byte.2, so_far.given), next_byte.3))

pub returns-in-End-2-clause-reads : goal.returns-in-End-2-clause-reads
returns-in-End-2-clause-reads g c = Reads-append _ _ _ _ _ _ c.loop-byte.invariant.0.reads c.in_ok-next.ensures.reads

pub returns-in-TooLong-clause-reads : goal.returns-in-TooLong-clause-reads
returns-in-TooLong-clause-reads g c = Reads-append _ _ _ _ _ _ c.loop-byte.invariant.0.reads c.in_ok-next.ensures.reads

pub returns-in_err-next-clause-reads : goal.returns-in_err-next-clause-reads
returns-in_err-next-clause-reads g c = Reads-append _ _ _ _ _ _ c.loop-byte.invariant.0.reads c.in_err-next.ensures.reads
