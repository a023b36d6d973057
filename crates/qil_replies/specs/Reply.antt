-- The text of a reply.
use Rattle.std.specs.Prelude.{ℕ, List, [], ◌++◌}
use Rattle.std.specs.List.{flat_map}
use Rattle.qil_tree.specs.declared.tree.Program.{Program}
use Rattle.qil_streams.specs.Text.{line}
use Rattle.qil_semantics.specs.State.{State}
use Rattle.qil_stops.specs.declared.stop.NumberedStop.{NumberedStop}
use Rattle.qil_render.specs.Texts.{state_line}
use Rattle.qil_render.specs.Shown.{printed, temps_shown, frames_shown, memory_shown, output_shown}
use Rattle.qil_render.specs.Listing.{block_shown}
use Rattle.qil_replies.specs.declared.reply.Reply.{Reply}
use Rattle.qil_replies.specs.declared.reply.Reply.TheVariants as replies
use Rattle.qil_replies.specs.Texts.{refusal_text, reason_line, stop_line, deleted_line, stops_shown, access_line, count_line, span_line, place_text}

-- The text of a reply in a program's state s after n moves, with these stops.
unfoldable pub reply_text : {A : Type 0} → Program A → ℕ → State → List NumberedStop → Reply A → List ℕ
reply_text p n s stops replies.Nothing = []
reply_text p n s stops (replies.Refused refusal) = line (refusal_text refusal)
reply_text p n s stops replies.Place = state_line n s.frames s.status
reply_text p n s stops (replies.Stopped reason) = reason_line reason ++ state_line n s.frames s.status
reply_text p n s stops (replies.Accesses list reason) = flat_map access_line list ++ place_text reason n s
reply_text p n s stops (replies.Counts list reason) = flat_map (count_line p) list ++ place_text reason n s
reply_text p n s stops (replies.Spans list reason) = flat_map (span_line p) list ++ place_text reason n s
reply_text p n s stops (replies.Added number kind) = stop_line p number kind
reply_text p n s stops (replies.Deleted number) = deleted_line number
reply_text p n s stops replies.Stops = stops_shown p stops
reply_text p n s stops (replies.Temporary x) = printed p s.frames x
reply_text p n s stops replies.Temporaries = temps_shown p s.frames
reply_text p n s stops (replies.Bytes a count) = memory_shown s a count
reply_text p n s stops replies.Frames = frames_shown s.frames
reply_text p n s stops replies.Block = block_shown p s.frames
reply_text p n s stops replies.Output = output_shown s.output
