-- One phi more.
use Rattle.std.proofs.Common.{◌++◌, ap}
use Rattle.std.specs.List.{flat_map}
use Rattle.qil_code.specs.Numbered.{one_phi_moves}
use Rattle.qil_resolution.proofs.Parts.{flat_more, flat_all}
use Rattle.qil_resolution.proofs.moves.moves_of.Goals as goal

pub loop-phi-init : goal.loop-phi-init
loop-phi-init g c = λ x. ap (λ l. l ++ flat_map (one_phi_moves c.args.resolver.now.image.now c.args.resolver.now.temps.now x) c.args.block.now.phis) (c.new-table.ensures x)

pub loop-phi-preserved : goal.loop-phi-preserved
loop-phi-preserved g c = λ x.
    flat_more (one_phi_moves c.args.resolver.now.image.now c.args.resolver.now.temps.now x) c.as_slice-phi-items.result.now c.args.block.now.phis c.loop-phi.phi-index c.phi-item.result _ _ _
    c.as_slice-phi-items.ensures c.phi-item.is c.loop-phi-test.true (c.in_ok-note_phi.ensures x) (c.loop-phi.invariant x)

pub returns : goal.returns
returns g c = λ x.
    flat_all (one_phi_moves c.args.resolver.now.image.now c.args.resolver.now.temps.now x) c.as_slice-phi-items.result.now c.args.block.now.phis c.loop-phi.phi-index _ _
    c.as_slice-phi-items.ensures c.loop-phi-test.false (c.loop-phi.invariant x)
