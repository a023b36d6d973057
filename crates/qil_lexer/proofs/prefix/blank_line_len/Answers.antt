-- Answers to the goals of `blank_line_len`.
use Rattle.std.proofs.Common.{arith}
use Rattle.qil_lexer.proofs.Lines.{no_line}
use Rattle.qil_lexer.proofs.prefix.blank_line_len.Goals as goal
use Rattle.qil_lexer.proofs.prefix.blank_line_len.Goals.{else-gap-bytes-via-then-gap-bytes+else-bytes-gap-eq10, else-gap-bytes-via-else-gap-bytes}

pub returns-else-gap-bytes : goal.returns-else-gap-bytes
returns-else-gap-bytes c = no_line c.args.bytes.now c.gap_len-gap.result c.gap_len-gap.ensures
    (λ lt ten. elim c.else-gap-bytes.branch [
      | else-gap-bytes-via-then-gap-bytes+else-bytes-gap-eq10 w ↦ w.if-bytes-gap-eq10.false ten
      | else-gap-bytes-via-else-gap-bytes w ↦ omega arith
    ])
