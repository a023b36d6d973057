-- The rules are looked at from the lowest on.
use Rattle.std.proofs.Common.{subst, ℕ, Option, MatchOption}
use Rattle.qil_rules.specs.Rules.{IsKept, IsBrokenFirst}
use Rattle.qil_checker.specs.Whole.{occurrences_of}
use Rattle.qil_checker.proofs.Programs.Firsts.{one_more_rule, all_rules}
use Rattle.qil_checker.proofs.program_index.ProgramIndex.lowest.Goals as goal

pub rules-preserved : goal.rules-preserved
rules-preserved g c =
    let all = occurrences_of c.args.self.now.texts.items in
    let kept = subst (λ (o : Option ℕ). MatchOption o (IsKept c.rules.rule all) (IsBrokenFirst c.rules.rule all)) c.in_default.is c.in_ok-line.ensures in
    one_more_rule all c.rules.rule c.in-Some-next.next c.rules.invariant kept c.in-Some-next.ensures

pub returns-in-None : goal.returns-in-None
returns-in-None g c =
    let all = occurrences_of c.args.self.now.texts.items in
    let kept = subst (λ (o : Option ℕ). MatchOption o (IsKept c.rules.rule all) (IsBrokenFirst c.rules.rule all)) c.in_default.is c.in_ok-line.ensures in
    all_rules all c.rules.rule c.rules.invariant kept c.in-None.ensures
