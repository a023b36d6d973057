-- The name of the file, and the line.
use Rattle.std.proofs.Common.{◌∷◌, [], codes}
use Rattle.qil_fragments.specs.Texts.{text_of}
use Rattle.qil_loading.specs.Lines.{refused_line}
use Rattle.qil_streams.proofs.TextLemmas.{HasPut-append, HasPut-stop}
use Rattle.qil_comparison.proofs.refusal.put_refusal.Goals as goal

pub returns-in_err-put_fragments : goal.returns-in_err-put_fragments
returns-in_err-put_fragments g c =
    HasPut-stop _ _ c.from_residual.ensures.1 _ _ _ (text_of (c.args.name.now ∷ codes ": " ∷ [])) (refused_line c.args.refusal) c.in_err-put_fragments.ensures

pub returns : goal.returns
returns g c =
    HasPut-append _ _ _ _ _ (text_of (c.args.name.now ∷ codes ": " ∷ [])) (refused_line c.args.refusal) c.in_ok-put_fragments.ensures c.put_refusal_line.ensures
