-- Answers to the goals of `canonical_spells`.
use Rattle.qil_printer.proofs.Respells.{inst_respelled, phi_respelled, jump_respelled}
use Rattle.qil_printer.proofs.Whole.{program_respelled}
use Rattle.qil_printer.proofs.canonical.canonical_spells.Goals as goal

pub returns-clause-inst : goal.returns-clause-inst
returns-clause-inst g c = λ ts i shaped spelled. inst_respelled ts i shaped spelled

pub returns-clause-phi : goal.returns-clause-phi
returns-clause-phi g c = λ ts p shaped spelled. phi_respelled ts p shaped spelled

pub returns-clause-jump : goal.returns-clause-jump
returns-clause-jump g c = λ ts j shaped spelled. jump_respelled ts j shaped spelled

pub returns-clause-program : goal.returns-clause-program
returns-clause-program g c = λ text ts p cut spelled. program_respelled text ts p cut spelled
