-- The place of a key is that of its name.
use Rattle.std.proofs.Common.{◌∙◌, ap}
use Rattle.qil_symbols.specs.Numbers.{place_of}
use Rattle.qil_resolution.proofs.SetsOfNames.{position-place}
use Rattle.qil_resolution.proofs.ordered_names.OrderedNames.number.Goals as goal

pub returns-clause-place : goal.returns-clause-place
returns-clause-place g c = c.get_index_of.ensures.index ∙ position-place c.args.name.now c.self.inside.set.keys ∙ ap (λ ns. place_of ns c.args.name.now) c.self.view_is
