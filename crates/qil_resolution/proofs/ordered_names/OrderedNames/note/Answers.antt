-- One name more, if it is new.
use Rattle.std.proofs.Common.{◌∙◌, ap, ◌∷◌, []}
use Rattle.qil_symbols.specs.Numbers.{names_of, recorded}
use Rattle.qil_resolution.proofs.SetsOfNames.{names-insert, stays-settled}
use Rattle.qil_resolution.proofs.ordered_names.OrderedNames.note.Goals as goal

pub returns : goal.returns
returns g c = ap names_of c.in_ok-insert.ensures.keys ∙ names-insert c.self.inside.set.keys c.args.name ∙ ap (λ ns. recorded ns (c.args.name.now ∷ [])) c.self.view_is

pub invariant_of-self-2 : goal.invariant_of-self-2
invariant_of-self-2 g c = stays-settled c.self.inside.set.keys c.insert.new.self.keys c.args.name c.in_ok-insert.ensures.keys c.self.invariant
