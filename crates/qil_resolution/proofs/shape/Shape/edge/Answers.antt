-- The block of a label, by its number.
use Rattle.std.proofs.Common.{◌∙◌, ap}
use Rattle.qil_symbols.specs.Numbers.{place_of}
use Rattle.qil_code.proofs.Edges.{edge-there, edge-nowhere}
use Rattle.qil_resolution.proofs.shape.Shape.edge.Goals as goal

pub returns-in_ok-moves-in-Some-clause-edge : goal.returns-in_ok-moves-in-Some-clause-edge
returns-in_ok-moves-in-Some-clause-edge g c =
    edge-there c.args.self.now.resolver.now.image.now _ _ c.args.self.now.resolver.now.labels.now _ c.args.label.now _ _ c.args.self.now.labels_are
    (c.in-Some.ensures.place ∙ ap (λ x. place_of c.args.self.now.resolver.now.labels.now x) c.bytes.ensures) (λ b there. c.new.ensures ∙ c.in_ok-moves-in-Some.ensures.moves b there)

pub returns-in-None-clause-edge : goal.returns-in-None-clause-edge
returns-in-None-clause-edge g c =
    edge-nowhere c.args.self.now.resolver.now.image.now _ _ c.args.self.now.resolver.now.labels.now c.args.left.now c.args.label.now _ c.args.self.now.labels_are
    (c.in-None.ensures.place ∙ ap (λ x. place_of c.args.self.now.resolver.now.labels.now x) c.bytes.ensures) (c.new-in-None-2.ensures ∙ c.new-in-None.ensures.items)
