-- A list that a value is recorded in has one value more; the other lists stay.
use Rattle.std.proofs.Common.{rules, ◌≡◌, ◌∙◌, sym, ap, Some, [], ◌∷◌, ◌++◌}
use Rattle.std.specs.Str.{bytes_eq}
use Rattle.std.specs.HashMap.{get_by}
use Rattle.qil_symbols.specs.Tables.{values_at, items_of}
use Rattle.qil_symbols.proofs.TableLemmas.{one_more, one_new}
use Rattle.qil_symbols.proofs.groups.Groups.note.Goals as goal

pub returns-in_ok-push-in-Some : goal.returns-in_ok-push-in-Some
returns-in_ok-push-in-Some g c =
    let found : get_by (λ k. bytes_eq c.args.name.now k.now) c.args.self.now.lists ≡ Some c.in-Some.list.now = sym c.in-Some.ensures.value in
    let more : c.push.new.self.items ≡ values_at c.args.self.now.lists c.args.name.now ++ c.args.value ∷ [] = c.in_ok-push-in-Some.ensures.items ∙ ap (λ o. items_of o ++ c.args.value ∷ []) (sym found) in
    one_more _ _ c.push.new.self c.args.self.now.lists (c.get_mut.follows.lender c.push.new.self) ((c.get_mut.follows.holds c.push.new.self).3 (search rules)) more

pub returns-in_ok-insert-in-None : goal.returns-in_ok-insert-in-None
returns-in_ok-insert-in-None g c =
    let one : c.push-in-None.new.self.items ≡ c.args.value ∷ [] = c.in_ok-push-in-None.ensures.items ∙ ap (λ xs. xs ++ c.args.value ∷ []) c.new-list.ensures.items in
    one_new _ _ c.push-in-None.new.self c.get_mut.follows.lender-at-none c.args.self.now.lists c.insert.new.self c.get_mut.follows.holds-at-none
    c.in_ok-insert-in-None.ensures.updates c.in-None.ensures.value one
