-- The texts so far, and those of the definitions that are left, are all texts.
use Rattle.std.proofs.Common.{◌≡◌, ◌++◌, drop}
use Rattle.qil_rules.specs.Occurrences.{texts, texts_in}
use Rattle.qil_checker.specs.Whole.{occurrences_of}
use Rattle.qil_checker.proofs.program_index.texts_of.Given as goal

abbrev pub invariant-loop-definition : goal.invariant-loop-definition
invariant-loop-definition g l = occurrences_of l.out.items ++ texts_in (drop l.definition-index l.definition-items) l.left.datas.now l.left.funcs.now ≡ texts l.fn.program
