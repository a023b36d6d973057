-- Answers to the goals of `put_counted`.
use Rattle.std.proofs.Common.{codes, ◌++◌, ◌∷◌, [], decimal, length}
use Rattle.std.specs.List.{flat_map}
use Rattle.qil_fragments.specs.Texts.{text_of}
use Rattle.qil_render.specs.Texts.{quoted_byte}
use Rattle.qil_streams.proofs.TextLemmas.{HasPut-append, HasPut-stop}
use Rattle.qil_render.proofs.bytes.put_counted.Goals as goal

pub returns-in_err-put_fragments : goal.returns-in_err-put_fragments
returns-in_err-put_fragments g c =
    HasPut-stop _ _ c.from_residual.ensures.1 _ _ _ (text_of (codes "out " ∷ decimal (length c.args.bytes.now) ∷ codes " \"" ∷ [])) ((flat_map quoted_byte c.args.bytes.now) ++ (codes "\"\n")) c.in_err-put_fragments.ensures

pub returns-in_err-put_all_quoted : goal.returns-in_err-put_all_quoted
returns-in_err-put_all_quoted g c =
    HasPut-append _ _ _ _ _ (text_of (codes "out " ∷ decimal (length c.args.bytes.now) ∷ codes " \"" ∷ [])) ((flat_map quoted_byte c.args.bytes.now) ++ (codes "\"\n")) c.in_ok-put_fragments.ensures
    (HasPut-stop _ _ c.from_residual-in_err-put_all_quoted.ensures.1 _ _ _ (flat_map quoted_byte c.args.bytes.now) (codes "\"\n") c.in_err-put_all_quoted.ensures)

pub returns : goal.returns
returns g c =
    HasPut-append _ _ _ _ _ (text_of (codes "out " ∷ decimal (length c.args.bytes.now) ∷ codes " \"" ∷ [])) ((flat_map quoted_byte c.args.bytes.now) ++ (codes "\"\n")) c.in_ok-put_fragments.ensures
    (HasPut-append _ _ _ _ _ (flat_map quoted_byte c.args.bytes.now) (codes "\"\n") c.in_ok-put_all_quoted.ensures
    (c.put.ensures))
