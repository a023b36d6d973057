-- The whole lines so far were answered. Each is of a byte at least, and moves less than 2^32 moves.
use Rattle.std.proofs.Common.{◌≡◌, ◌+◌, ◌-◌, ◌*◌, ◌≤◌, ◌^◌, []}
use Rattle.qil_streams.specs.Reader.{rest_of, Reads}
use Rattle.qil_semantics.specs.Timeline.{position}
use Rattle.qil_session.specs.Kept.{session_state}
use Rattle.qil_session.proofs.ServeLemmas.{Standing}
use Rattle.qil_session.proofs.serving.serve_lines.Given as goal

abbrev pub invariant-loop-end : goal.invariant-loop-end
invariant-loop-end g l =
    let remaining = g.S.Source.remaining in
    let written = g.P.Put.written in
    let seen = session_state g.H.Runs.wants_memory g.H.Runs.program g.H.Runs.timeline in
    record {
      standing : Standing (seen l.fn.session) (remaining l.fn.source) (rest_of l.reader.bytes (remaining l.source)) (written l.fn.out) (written l.out) (seen l.session) l.reader.bytes.given;
      reads : Reads (record { pending = []; given = 0 }) l.reader.bytes (remaining l.fn.source) (remaining l.source);
      near : position (seen l.session).timeline ≤ position (seen l.fn.session).timeline + l.reader.bytes.given * 4294967296;
      limit : l.session.limit ≡ l.fn.session.limit;
      source : g.S.Source.failures l.source ≡ g.S.Source.failures l.fn.source;
      out : g.P.Put.stops l.out ≡ g.P.Put.stops l.fn.out;
      device : g.P.Put.device l.out ≡ g.P.Put.device l.fn.out;
    }

abbrev pub decreases-loop-end : goal.decreases-loop-end
decreases-loop-end g l = 2 ^ 24 - l.reader.bytes.given
