-- A byte is kept while there is room, and else dropped.
use Rattle.std.proofs.Common.{rules}
use Rattle.qil_streams.proofs.ReaderLemmas.{push_kept, push_full}
use Rattle.qil_streams.proofs.reader.KeptLine.push.Goals as goal

pub returns-then-self-lt-KEPT : goal.returns-then-self-lt-KEPT
returns-then-self-lt-KEPT c = rw (← c.self.view_is) (push_kept c.self.inside.bytes c.self.inside.len c.args.byte (search rules) (search rules))

pub returns-else-self-lt-KEPT : goal.returns-else-self-lt-KEPT
returns-else-self-lt-KEPT c = rw (← c.self.view_is) (push_full c.self.inside.bytes c.self.inside.len c.args.byte (search rules) (search rules))
