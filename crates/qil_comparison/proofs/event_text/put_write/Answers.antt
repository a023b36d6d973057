-- The place, and the bytes.
use Rattle.std.proofs.Common.{◌∷◌, [], ◌++◌, ◌∙◌, codes, decimal, ap, sym, List, ℕ}
use Rattle.qil_comparison.specs.Told.{place_text, value_text, further_value, values_text, returned_text, event_line, found_line, way_line, side_text, verdict_line, sides_text}
use Rattle.std.specs.Prelude.{unwrap_or}
use Rattle.qil_memory.specs.Live.{live}
use Rattle.qil_streams.specs.Text.{line}
use Rattle.qil_render.specs.Shown.{bytes_text}
use Rattle.qil_compare.specs.Seen.{Offset, data_place}
use Rattle.qil_compare.specs.Next.{nowhere}
use Rattle.qil_compare.specs.Coded.{offset_of}
use Rattle.qil_compare.specs.Events.{bytes_from}
use Rattle.qil_streams.proofs.TextLemmas.{HasPut-as, HasPut-append, HasPut-stop}
use Rattle.qil_comparison.proofs.event_text.put_write.Goals as goal

pub returns-in_err-put : goal.returns-in_err-put
returns-in_err-put g c =
    HasPut-stop _ _ c.from_residual.ensures.1 _ _ _ (codes "write ")
    (place_text (unwrap_or (data_place (g.M.Readers.whole c.args.machine.now).program c.args.start) nowhere) ++ (codes " " ++ line (bytes_text (bytes_from (live (g.M.Readers.whole c.args.machine.now).memory) c.args.start c.args.count)))) c.in_err-put.ensures

pub returns-in_err-put_data : goal.returns-in_err-put_data
returns-in_err-put_data g c =
    HasPut-as (ap (λ (place : Offset). codes "write " ++ (place_text place ++ (codes " " ++ line (bytes_text (bytes_from (live (g.M.Readers.whole c.args.machine.now).memory) c.args.start c.args.count))))) c.place_or_nowhere.ensures)
    (HasPut-append _ _ _ _ _ (codes "write ") ((place_text (offset_of c.place_or_nowhere.result)) ++ ((codes " ") ++ (line (bytes_text (bytes_from (live (g.M.Readers.whole c.args.machine.now).memory) c.args.start c.args.count))))) c.in_ok-put.ensures
    (HasPut-stop _ _ c.from_residual-in_err-put_data.ensures.1 _ _ _ (place_text (offset_of c.place_or_nowhere.result)) ((codes " ") ++ (line (bytes_text (bytes_from (live (g.M.Readers.whole c.args.machine.now).memory) c.args.start c.args.count)))) c.in_err-put_data.ensures))

pub returns-in_err-put-2 : goal.returns-in_err-put-2
returns-in_err-put-2 g c =
    HasPut-as (ap (λ (place : Offset). codes "write " ++ (place_text place ++ (codes " " ++ line (bytes_text (bytes_from (live (g.M.Readers.whole c.args.machine.now).memory) c.args.start c.args.count))))) c.place_or_nowhere.ensures)
    (HasPut-append _ _ _ _ _ (codes "write ") ((place_text (offset_of c.place_or_nowhere.result)) ++ ((codes " ") ++ (line (bytes_text (bytes_from (live (g.M.Readers.whole c.args.machine.now).memory) c.args.start c.args.count))))) c.in_ok-put.ensures
    (HasPut-append _ _ _ _ _ (place_text (offset_of c.place_or_nowhere.result)) ((codes " ") ++ (line (bytes_text (bytes_from (live (g.M.Readers.whole c.args.machine.now).memory) c.args.start c.args.count)))) c.in_ok-put_data.ensures
    (HasPut-stop _ _ c.from_residual-in_err-put-2.ensures.1 _ _ _ (codes " ") (line (bytes_text (bytes_from (live (g.M.Readers.whole c.args.machine.now).memory) c.args.start c.args.count))) c.in_err-put-2.ensures)))

pub returns : goal.returns
returns g c =
    HasPut-as (ap (λ (place : Offset). codes "write " ++ (place_text place ++ (codes " " ++ line (bytes_text (bytes_from (live (g.M.Readers.whole c.args.machine.now).memory) c.args.start c.args.count))))) c.place_or_nowhere.ensures)
    (HasPut-append _ _ _ _ _ (codes "write ") ((place_text (offset_of c.place_or_nowhere.result)) ++ ((codes " ") ++ (line (bytes_text (bytes_from (live (g.M.Readers.whole c.args.machine.now).memory) c.args.start c.args.count))))) c.in_ok-put.ensures
    (HasPut-append _ _ _ _ _ (place_text (offset_of c.place_or_nowhere.result)) ((codes " ") ++ (line (bytes_text (bytes_from (live (g.M.Readers.whole c.args.machine.now).memory) c.args.start c.args.count)))) c.in_ok-put_data.ensures
    (HasPut-append _ _ _ _ _ (codes " ") (line (bytes_text (bytes_from (live (g.M.Readers.whole c.args.machine.now).memory) c.args.start c.args.count))) c.in_ok-put-2.ensures
    (c.put_bytes.ensures))))
