-- What the command of the words says holds of its matches and of its error.
use Rattle.qil_options.proofs.command_line.parse_words.Goals as goal

pub returns-in-Ok-try_get_matches_from-clause-matches : goal.returns-in-Ok-try_get_matches_from-clause-matches
returns-in-Ok-try_get_matches_from-clause-matches g c = rw c.in-Ok.is c.in-Ok-try_get_matches_from.ensures.matches

pub returns-in-Err-try_get_matches_from-clause-passes : goal.returns-in-Err-try_get_matches_from-clause-passes
returns-in-Err-try_get_matches_from-clause-passes g c = rw c.in-Ok.is (λ taken.
    rw (c.in-Err-try_get_matches_from.ensures.passes taken) at c.tell-in-Err-try_get_matches_from.ensures.kind)
