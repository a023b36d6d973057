-- The goals of `output_is_bounded` that the check leaves open.
use Rattle.qil_semantics.proofs.laws.output_is_bounded.Goals as goal
use Rattle.qil_semantics.proofs.CallLemmas.{writes_full, writes_within}

pub returns-clause-full : goal.returns-clause-full
returns-clause-full c s f fs to bytes v h = writes_full s f fs to bytes v h

pub returns-clause-within : goal.returns-clause-within
returns-clause-within c s f fs to bytes v h = writes_within s f fs to bytes v h
