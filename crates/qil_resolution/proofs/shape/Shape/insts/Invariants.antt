-- The instructions so far, with those that are left, are all.
use Rattle.std.proofs.Common.{◌≡◌, ◌++◌, drop}
use Rattle.std.specs.Prelude.{map}
use Rattle.qil_code.specs.Numbered.{inst_of}
use Rattle.qil_resolution.proofs.shape.Shape.insts.Given as goal

abbrev pub invariant-loop-inst : goal.invariant-loop-inst
invariant-loop-inst g l = l.out.items ++ map (inst_of l.self.resolver.now.image.now l.self.resolver.now.temps.now) (drop l.inst-index l.insts) ≡ map (inst_of l.self.resolver.now.image.now l.self.resolver.now.temps.now) l.insts
