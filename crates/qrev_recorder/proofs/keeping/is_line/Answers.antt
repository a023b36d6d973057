-- Where the byte of a newline isn't found.
use Rattle.qrev_recorder.proofs.Lines.{line_without, line_lacks}
use Rattle.qrev_recorder.proofs.keeping.is_line.Goals as goal

pub returns : goal.returns
returns c =
    (λ t. line_without c.args.bytes.now c.contains.result c.contains.ensures.value t, λ line. line_lacks c.args.bytes.now c.contains.result c.contains.ensures.value line)
