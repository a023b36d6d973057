-- A program that was read from all tokens is theirs, and one that was read from their prefix isn't.
use Rattle.std.proofs.Common.{sym, arith}
use Rattle.qil_parser.specs.Token.{seen}
use Rattle.qil_parser.proofs.Verdict.{spelled_all, fault_after, no_program, no_fault, that_fault}
use Rattle.qil_parser.proofs.SpelledBlocks.{spelled_has}
use Rattle.qil_parser.proofs.parser.whole.Goals as goal

pub returns-in-empty-clause-spelled : goal.returns-in-empty-clause-spelled
returns-in-empty-clause-spelled g c = spelled_all c.args.tokens.now c.args.read c.args.left.now c.requires (omega (arith, c.in-empty.len_below))

pub returns-in-empty-clause-blocks : goal.returns-in-empty-clause-blocks
returns-in-empty-clause-blocks g c = spelled_has (seen c.args.tokens.now) c.args.read (spelled_all c.args.tokens.now c.args.read c.args.left.now c.requires (omega (arith, c.in-empty.len_below))).0

pub returns-in-empty-clause-only_spelled : goal.returns-in-empty-clause-only_spelled
returns-in-empty-clause-only_spelled g c = λ p s. sym ((spelled_all c.args.tokens.now c.args.read c.args.left.now c.requires (omega (arith, c.in-empty.len_below))).1 p s)

pub returns-in-empty-clause-only_fault : goal.returns-in-empty-clause-only_fault
returns-in-empty-clause-only_fault g c = no_fault (seen c.args.tokens.now) c.args.read (spelled_all c.args.tokens.now c.args.read c.args.left.now c.requires (omega (arith, c.in-empty.len_below))).0

pub returns-clause-fault : goal.returns-clause-fault
returns-clause-fault g c = fault_after c.args.tokens.now c.args.read c.args.left.now c.refusal.result c.requires (omega (arith, c.in-len1-up.len_at_least)) c.refusal.ensures

pub returns-clause-only_spelled : goal.returns-clause-only_spelled
returns-clause-only_spelled g c = no_program (seen c.args.tokens.now) c.refusal.result (fault_after c.args.tokens.now c.args.read c.args.left.now c.refusal.result c.requires (omega (arith, c.in-len1-up.len_at_least)) c.refusal.ensures)

pub returns-clause-only_fault : goal.returns-clause-only_fault
returns-clause-only_fault g c = that_fault (seen c.args.tokens.now) c.refusal.result (fault_after c.args.tokens.now c.args.read c.args.left.now c.refusal.result c.requires (omega (arith, c.in-len1-up.len_at_least)) c.refusal.ensures)
