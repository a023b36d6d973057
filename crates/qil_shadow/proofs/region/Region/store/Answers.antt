-- A whole word is stored at once.
use Rattle.std.proofs.Common.{arith}
use Rattle.qil_shadow.proofs.StoreLemmas.{word_stored_found}
use Rattle.qil_shadow.proofs.region.Region.store.Goals as goal

pub returns-then-count-eq8-clause-kept : goal.returns-then-count-eq8-clause-kept
returns-then-count-eq8-clause-kept g c =
    word_stored_found _ _ _ _ _ _ c.self.view_is c.word_of.ensures (omega (arith, c.if-at-eq0.true)) (omega (arith, c.if-count-eq8.true)) c.requires.there
