-- One after the other.
use Rattle.std.proofs.Common.{◌∙◌}
use Rattle.qil_shadow.proofs.StartObjects.{fixed_more, same_starts, three_more}
use Rattle.qil_shadow.proofs.start.note_built_ins.Goals as goal

pub returns-clause-objects : goal.returns-clause-objects
returns-clause-objects g c = λ p.
    three_more p c.args.objects.now c.add_fixed.new.self c.add_fixed-2.new.self c.add_fixed-3.new.self _ _ _ c.fixed.ensures c.fixed-2.ensures c.fixed-3.ensures
    c.in_ok-add_fixed.ensures c.in_ok-add_fixed-2.ensures c.in_ok-add_fixed-3.ensures

pub returns-clause-starts : goal.returns-clause-starts
returns-clause-starts g c =
    same_starts c.add_fixed-2.new.self c.add_fixed-3.new.self _ c.in_ok-add_fixed-3.ensures
    ∙ same_starts c.add_fixed.new.self c.add_fixed-2.new.self _ c.in_ok-add_fixed-2.ensures
    ∙ same_starts c.args.objects.now c.add_fixed.new.self _ c.in_ok-add_fixed.ensures
