-- The goals of `spelled` that the check leaves open.
use Rattle.std.proofs.Common.{◌∙◌, ap, length, rules}
use Rattle.qil_layout.specs.Layout.{low_bytes}
use Rattle.qil_memory.proofs.Numbers.{low_bytes-number}
use Rattle.qil_memory.proofs.bytes.spelled.Goals as goal

pub returns-clause-bytes : goal.returns-clause-bytes
returns-clause-bytes c = ap (low_bytes (length c.args.bytes.now)) c.number_of.ensures ∙ low_bytes-number c.args.bytes.now (search rules)
