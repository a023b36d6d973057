-- The number after the name, or none.
use Rattle.std.proofs.Common.{◌≡◌, arith, rules}
use Rattle.qrev_protocol.proofs.Numbers.{trimmed_is, says_read, says_none}
use Rattle.qrev_protocol.proofs.header.said_in.Goals as goal

pub returns : goal.returns
returns c =
    (search rules, says_read c.args.line.now c.trim_ascii.result.now c.parse_u64.result c.in-Ok.length (trimmed_is c.args.line.now _ c.trim_ascii.ensures.value) c.parse_u64.ensures c.in-Ok.is, omega arith)

pub returns-then-length : goal.returns-then-length
returns-then-length c = (
  search rules,
  says_none c.args.line.now c.trim_ascii.result.now c.parse_u64.result (trimmed_is c.args.line.now _ c.trim_ascii.ensures.value) c.parse_u64.ensures
      (λ n e. let same : n ≡ c.in-Ok.length = let i = c.in-Ok.is in cc in omega arith),
)

pub returns-in_default : goal.returns-in_default
returns-in_default c = (
  search rules,
  says_none c.args.line.now c.trim_ascii.result.now c.parse_u64.result (trimmed_is c.args.line.now _ c.trim_ascii.ensures.value) c.parse_u64.ensures
      (λ n e. absurd (c.in_default.not-Ok n e)),
)
