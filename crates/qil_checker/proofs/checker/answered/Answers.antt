-- A program is well-formed or breaks one rule first, never both.
use Rattle.qil_rules.specs.Occurrences.{texts}
use Rattle.qil_checker.proofs.Programs.Firsts.{not_both, only_memory, only_reported}
use Rattle.qil_checker.proofs.checker.answered.Goals as goal

pub returns-in-Ok-clause-kept : goal.returns-in-Ok-clause-kept
returns-in-Ok-clause-kept g c = rw (c.new.ensures.program, c.new.ensures.form) ((rw c.in-Ok.is at c.requires.well_formed), (rw c.in-Ok.is at c.requires.form))

pub returns-in-Ok-clause-only_broken : goal.returns-in-Ok-clause-only_broken
returns-in-Ok-clause-only_broken g c = λ rule line b. not_both (texts c.args.program) rule line (rw c.in-Ok.is at c.requires.well_formed) b

pub returns-in-Err-clause-only_kept : goal.returns-in-Err-clause-only_kept
returns-in-Err-clause-only_kept g c = λ kept. only_memory (texts c.args.program) c.in-Err.error (rw c.in-Err.is at c.requires.reported) kept

pub returns-in-Err-clause-only_broken : goal.returns-in-Err-clause-only_broken
returns-in-Err-clause-only_broken g c = λ rule line b. only_reported (texts c.args.program) c.in-Err.error (rw c.in-Err.is at c.requires.reported) rule line b
