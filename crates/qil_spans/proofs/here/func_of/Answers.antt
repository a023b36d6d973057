-- The number of the function, and how many frames there are at most.
use Rattle.std.proofs.Common.{◌∙◌, sym}
use Rattle.qil_spans.proofs.Functions.{few_here, number_here, number_past}
use Rattle.qil_spans.proofs.here.func_of.Goals as goal

pub returns-in-Some-clause-number : goal.returns-in-Some-clause-number
returns-in-Some-clause-number g c =
    number_here (g.M.Readers.whole c.args.machine.now) c.code_of.result.now c.args.inner c.func.result.index c.in-Some.frame c.code_of.ensures c.frame.ensures.machine (sym c.in-Some.ensures.frame)
    c.names_are_distinct.ensures.finds c.func.ensures

pub returns-in-Some-clause-few : goal.returns-in-Some-clause-few
returns-in-Some-clause-few g c = few_here (g.M.Readers.whole c.args.machine.now) c.frame.ensures.machine

pub returns-in-None-clause-number : goal.returns-in-None-clause-number
returns-in-None-clause-number g c = number_past (g.M.Readers.whole c.args.machine.now) c.args.inner (sym c.frame.ensures.frame ∙ c.in-None.is)

pub returns-in-None-clause-few : goal.returns-in-None-clause-few
returns-in-None-clause-few g c = few_here (g.M.Readers.whole c.args.machine.now) c.frame.ensures.machine
