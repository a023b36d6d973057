-- What a cut of a text says of its numbers and strings is what a cursor keeps of its tokens; a refusal is the tokens' fault.
use Rattle.qil_parser.specs.Token.{seen}
use Rattle.qil_parser.proofs.Numbers.{cut_numbers}
use Rattle.qil_parser.proofs.Strings.{cut_strings}
use Rattle.qil_parser.proofs.Verdict.{fault_at, no_program, that_fault}
use Rattle.qil_parser.proofs.parser.parse.Goals as goal

pub invariant_of-cursor : goal.invariant_of-cursor
invariant_of-cursor g c = record { numbers = cut_numbers c.requires.cut.0 c.args.tokens.now c.requires.cut.1; strings = cut_strings c.requires.cut.0 c.args.tokens.now c.requires.cut.1 }

pub returns-in-Err-Refused-clause-fault : goal.returns-in-Err-Refused-clause-fault
returns-in-Err-Refused-clause-fault g c = fault_at c.args.tokens.now c.in-Err-Refused.marked c.program.new.self.rest.now c.refusal.result (rw c.in-Err-Refused.field-0-is at c.in-Err-Refused.ensures) (rw c.in-Err-Refused.marked-is at c.refusal.ensures)

pub returns-in-Err-Refused-clause-only_spelled : goal.returns-in-Err-Refused-clause-only_spelled
returns-in-Err-Refused-clause-only_spelled g c = no_program (seen c.args.tokens.now) c.refusal.result (returns-in-Err-Refused-clause-fault g c)

pub returns-in-Err-Refused-clause-only_fault : goal.returns-in-Err-Refused-clause-only_fault
returns-in-Err-Refused-clause-only_fault g c = that_fault (seen c.args.tokens.now) c.refusal.result (returns-in-Err-Refused-clause-fault g c)
