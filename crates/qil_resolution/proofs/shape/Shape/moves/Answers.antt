-- The table of the block that is come to, and what it has for the name: by hand, as a search takes seconds to find it.
use Rattle.std.proofs.Common.{◌≡◌, ◌∙◌, ap, subst, List, ℕ}
use Rattle.std.specs.Prelude.{IfOk}
use Rattle.qil_symbols.specs.Tables.{values_at}
use Rattle.qil_code.specs.Numbered.{block_moves}
use Rattle.qil_resolution.proofs.Tables.{read_there}
use Rattle.qil_resolution.proofs.shape.Shape.moves.Goals as goal

pub returns-in-Some-clause-moves : goal.returns-in-Some-clause-moves
returns-in-Some-clause-moves g c = λ b there.
    let s = c.args.self.now in
    let table = c.index-table.result.now in
    let here = read_there (λ d t. (x : List ℕ) → values_at t.lists x ≡ block_moves s.resolver.now.image.now s.resolver.now.temps.now x d) _ _ c.args.number b table
    s.each_block c.requires c.index-table.ensures there s.moves_are in
    subst (λ ms. IfOk c.copied.result (λ v. v.items ≡ ms)) (c.as_slice.ensures.value ∙ c.in-Some.ensures ∙ ap (λ x. values_at table.lists x) c.bytes.ensures ∙ here c.args.left.now) c.copied.ensures.moves

pub returns-in-None-clause-moves : goal.returns-in-None-clause-moves
returns-in-None-clause-moves g c = λ b there.
    let s = c.args.self.now in
    let table = c.index-table.result.now in
    let here = read_there (λ d t. (x : List ℕ) → values_at t.lists x ≡ block_moves s.resolver.now.image.now s.resolver.now.temps.now x d) _ _ c.args.number b table
    s.each_block c.requires c.index-table.ensures there s.moves_are in
    c.new.ensures.items ∙ c.in-None.ensures ∙ ap (λ x. values_at table.lists x) c.bytes.ensures ∙ here c.args.left.now
