-- Each reply has its text, by the function that puts it.
use Rattle.std.proofs.Common.{ℕ, List, ap, refl, ◌++◌}
use Rattle.std.specs.List.{flat_map}
use Rattle.qil_tree.specs.declared.tree.Program.{Program}
use Rattle.qil_streams.specs.Text.{line}
use Rattle.qil_streams.proofs.DeviceLemmas.{Appends-nil}
use Rattle.qil_streams.proofs.TextLemmas.{HasPut-as}
use Rattle.qil_semantics.specs.State.{Name}
use Rattle.qil_render.specs.qil_state.State.{state_of}
use Rattle.qil_render.specs.Shown.{printed}
use Rattle.qil_replies.specs.Reply.{reply_text}
use Rattle.qil_accesses.specs.declared.access.Access.{Access}
use Rattle.qil_counts.specs.declared.count.Count.{Count}
use Rattle.qil_spans.specs.declared.span.Span.{Span}
use Rattle.qil_replies.specs.Texts.{stop_line, stops_shown, access_line, count_line, span_line, place_text}
use Rattle.qil_replies.proofs.put.put_reply.Goals as goal

pub returns-in-Nothing : goal.returns-in-Nothing
unfolding reply_text
returns-in-Nothing g c = rw c.in-Nothing.is (record { text = Appends-nil (g.P.Put.written c.args.out.now); counted = refl; device = refl })

pub returns-in-Refused : goal.returns-in-Refused
unfolding reply_text
returns-in-Refused g c = rw c.in-Refused.is (HasPut-as (ap (λ (x : List ℕ). line x) c.refusal_words.ensures) c.put_line.ensures)

pub returns-in-Place : goal.returns-in-Place
unfolding reply_text
returns-in-Place g c = rw c.in-Place.is c.put_place.ensures

pub returns-in-Stopped : goal.returns-in-Stopped
unfolding reply_text
returns-in-Stopped g c = rw c.in-Stopped.is c.put_stopped.ensures

pub returns-in-Accesses : goal.returns-in-Accesses
unfolding reply_text
returns-in-Accesses g c =
    rw c.in-Accesses.is (HasPut-as (ap (λ (list : List Access). flat_map access_line list ++ place_text c.in-Accesses.reason c.args.position (state_of (g.M.Readers.whole c.args.machine.now))) c.as_slice-list.ensures) c.put_accesses.ensures)

pub returns-in-Counts : goal.returns-in-Counts
unfolding reply_text
returns-in-Counts g c =
    let w = g.M.Readers.whole c.args.machine.now in
    rw c.in-Counts.is (HasPut-as (ap (λ (list : List Count). flat_map (count_line w.program) list ++ place_text c.in-Counts.reason c.args.position (state_of w)) c.as_slice-list-in-Counts.ensures) c.put_counts.ensures)

pub returns-in-Spans : goal.returns-in-Spans
unfolding reply_text
returns-in-Spans g c =
    let w = g.M.Readers.whole c.args.machine.now in
    rw c.in-Spans.is (HasPut-as (ap (λ (list : List Span). flat_map (span_line w.program) list ++ place_text c.in-Spans.reason c.args.position (state_of w)) c.as_slice-list-in-Spans.ensures) c.put_spans.ensures)

pub returns-in-Added : goal.returns-in-Added
unfolding reply_text
returns-in-Added g c =
    rw c.in-Added.is (HasPut-as (ap (λ (p : Program g.row.A.Denot). stop_line p c.in-Added.number c.in-Added.kind) c.code_of.ensures) c.put_stop.ensures)

pub returns-in-Deleted : goal.returns-in-Deleted
unfolding reply_text
returns-in-Deleted g c = rw c.in-Deleted.is c.put_deleted.ensures

pub returns-in-Stops : goal.returns-in-Stops
unfolding reply_text
returns-in-Stops g c =
    rw c.in-Stops.is (HasPut-as (ap (λ (p : Program g.row.A.Denot). stops_shown p c.args.stops.now) c.code_of-in-Stops.ensures) c.put_stops.ensures)

pub returns-in-Temporary : goal.returns-in-Temporary
unfolding reply_text
returns-in-Temporary g c =
    rw c.in-Temporary.is
    (HasPut-as (ap (λ (x : Name). printed (g.M.Readers.whole c.args.machine.now).program (state_of (g.M.Readers.whole c.args.machine.now)).frames x) c.bytes-name.ensures) c.put_printed.ensures)

pub returns-in-Temporaries : goal.returns-in-Temporaries
unfolding reply_text
returns-in-Temporaries g c = rw c.in-Temporaries.is c.put_temps.ensures

pub returns-in-Bytes : goal.returns-in-Bytes
unfolding reply_text
returns-in-Bytes g c = rw c.in-Bytes.is c.put_memory.ensures

pub returns-in-Frames : goal.returns-in-Frames
unfolding reply_text
returns-in-Frames g c = rw c.in-Frames.is c.put_frames.ensures

pub returns-in-Block : goal.returns-in-Block
unfolding reply_text
returns-in-Block g c = rw c.in-Block.is c.put_block.ensures

pub returns-in-Output : goal.returns-in-Output
unfolding reply_text
returns-in-Output g c = rw c.in-Output.is c.put_output.ensures
