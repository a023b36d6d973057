-- The parameters so far are set, and the call lies as at the start.
use Rattle.std.proofs.Common.{◌≡◌, [], ◌∷◌}
use Rattle.qil_shadow.specs.Shapes.{shapes_of, first_shape}
use Rattle.qil_shadow.proofs.ParamLemmas.{AreSet}
use Rattle.qil_shadow.proofs.start.first_call.Given as goal

abbrev pub invariant-loop-param : goal.invariant-loop-param
invariant-loop-param g l = record {
  set : AreSet l.code l.fn.func.index l.param-index l.origins;
  lies : shapes_of l.origins ≡ first_shape l.code l.fn.func.index ∷ [];
}
