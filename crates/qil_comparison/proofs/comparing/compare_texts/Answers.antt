-- The outcome of both runs, or the refusal of a text that isn't loaded.
use Rattle.std.proofs.Common.{◌≡◌, ap, sym, subst, List, ℕ, Option}
use Rattle.qil_comparison.specs.Compared.{setup_of}
use Rattle.qil_comparison.specs.Handed.{IsRefused}
use Rattle.qil_comparison.proofs.Loads.{Written-refuse, refused-uncompared, shortage-not_refused}
use Rattle.qil_comparison.proofs.comparing.compare_texts.Goals as goal

pub returns-in-Err-clause-written : goal.returns-in-Err-clause-written
returns-in-Err-clause-written g c =
    let setup = setup_of c.args.good.now c.args.bad.now c.args.request.now in
    let unloaded = c.in-Err.unloaded in
    Written-refuse g.row.A.Denot c.refuse.result setup unloaded.side unloaded.error c.name_on.result.now (g.S.Source.remaining c.args.source.now) (g.S.Source.remaining c.load_both.new.source) (g.W.Sink.contents c.args.sink.now) (g.W.Sink.contents c.refuse.new.sink)
    c.in-Err.ensures.unloaded (c.name_on.ensures c.args.request.now)
    (subst (λ (w : Option (List ℕ)). IsRefused c.refuse.result c.name_on.result.now unloaded.error w (g.W.Sink.contents c.refuse.new.sink)) (ap g.W.Sink.contents c.in-Err.ensures.unwritten) c.refuse.ensures.refused)

pub returns-in-Err-clause-only_begun : goal.returns-in-Err-clause-only_begun
returns-in-Err-clause-only_begun g c = λ p q s t begin.
    shortage-not_refused c.refuse.result c.name_on.result.now c.in-Err.unloaded.error _ _ c.refuse.ensures.refused (c.in-Err.ensures.only_begun p q s t begin)

pub returns-in-Err-clause-only_refused : goal.returns-in-Err-clause-only_refused
returns-in-Err-clause-only_refused g c = λ side refusal refused. refused-uncompared c.refuse.result c.name_on.result.now c.in-Err.unloaded.error _ _ c.refuse.ensures.refused
