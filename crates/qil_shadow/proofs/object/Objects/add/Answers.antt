-- The new one stands above all that are living.
use Rattle.std.proofs.Common.{rules, ◌≡◌, ◌∷◌, [], ◌++◌, length, sym, subst}
use Rattle.std.specs.Prelude.{All}
use Rattle.qil_shadow.specs.Table.{ObjectTable, of_stack, IsBelow}
use Rattle.qil_shadow.proofs.ObjectLemmas.{table_object}
use Rattle.qil_shadow.proofs.object.Objects.add.Goals as goal

pub invariant_of-self-2 : goal.invariant_of-self-2
invariant_of-self-2 g c =
    let index : length c.self.inside.all.items ≡ c.len-count.result = search rules in
    let numbers : c.push_reserved.new.self.items ≡ c.self.inside.living.items ++ length c.self.inside.all.items ∷ [] = rw index (search rules) in
    let above = subst (λ (t : ObjectTable). All (λ o. IsBelow o c.args.object) (of_stack t)) (sym c.self.view_is) c.requires.above in
    rw (c.in_ok-push.ensures.items, numbers) (table_object _ _ _ _ _ _ c.self.invariant c.requires.lives c.requires.low above)
