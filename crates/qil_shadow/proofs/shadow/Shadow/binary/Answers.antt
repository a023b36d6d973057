-- Each operand is made of what the one of the tree is.
use Rattle.std.proofs.Common.{◌≡◌, ◌∙◌, ap}
use Rattle.std.specs.Prelude.{unwrap_or}
use Rattle.qil_code.specs.Numbered.{names_of}
use Rattle.qil_shadow.specs.Origins.{binary_origin}
use Rattle.qil_shadow.specs.Shadowed.{operand_origin}
use Rattle.qil_shadow.specs.Reads.{innermost}
use Rattle.qil_shadow.proofs.TwiceLemmas.{twice_read}
use Rattle.qil_shadow.proofs.shadow.Shadow.binary.Goals as goal

pub returns : goal.returns
returns g c = λ a b own slots left right.
    let twice = c.are_one_temporary-is_twice.ensures ∙ twice_read c.args.code.now (names_of c.args.code.now c.args.place.func.index) a b _ _ left.is_for right.is_for in
    let one = c.origin_of-one.ensures a own slots left in
    let other =
    c.origin_of-other.ensures b own slots right
    ∙ ap (λ k. operand_origin c.args.code.now (innermost c.args.code.now c.args.place.func.index c.args.self.now.calls.calls) k b) c.class_right-wanted.ensures in
    let value = c.unwrap_or-value.ensures ∙ ap (λ o. unwrap_or o 0) c.value_of.ensures in
    let second = c.unwrap_or-second.ensures ∙ ap (λ o. unwrap_or o 0) c.value_of-2.ensures in
    c.binary_origin.ensures ∙ (λ i. binary_origin c.args.op c.args.class (twice i) (one i) (value i) (other i) (second i))
