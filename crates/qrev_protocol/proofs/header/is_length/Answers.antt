-- The name before the colon, in capital or small letters.
use Rattle.qrev_protocol.proofs.Names.{named_length}
use Rattle.qrev_protocol.proofs.header.is_length.Goals as goal

pub returns-then-line-ge15 : goal.returns-then-line-ge15
returns-then-line-ge15 c = named_length c.args.line.now c.eq_ignore_ascii_case.result c.eq_ignore_ascii_case.ensures.test
