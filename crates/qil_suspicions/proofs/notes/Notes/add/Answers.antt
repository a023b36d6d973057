-- One more of a note that is there, or a note more.
use Rattle.std.proofs.Common.{◌∙◌, refl, sym, ap, ◌∷◌, [], ◌++◌}
use Rattle.qil_suspicions.specs.Adding.{once_more}
use Rattle.qil_suspicions.proofs.ByNumber.{counted_more, noted_new}
use Rattle.qil_suspicions.proofs.notes.Notes.add.Goals as goal

pub returns-in-Some : goal.returns-in-Some
returns-in-Some g c =
    counted_more c.args.place c.args.suspicion.now c.self.inside.notes.items c.args.self.now c.in-Some.number _ c.once_more.result (sym c.self.view_is) c.in-Some.ensures.some
    (c.once_more.ensures ∙ ap once_more c.index.ensures)

pub returns-in_ok-push-in-None : goal.returns-in_ok-push-in-None
returns-in_ok-push-in-None g c =
    c.in_ok-push-in-None.ensures.items
    ∙ ap (λ n. c.self.inside.notes.items ++ n ∷ []) c.noted_once.ensures
    ∙ noted_new c.args.place c.args.suspicion.now c.self.inside.notes.items c.args.self.now (sym c.self.view_is) (c.in-None.ensures.none refl)
