-- By hand, as a search takes four seconds to find them: the function that is there, and its name.
use Rattle.std.proofs.Common.{◌≡◌, ◌∙◌, refl, sym, ap, ℕ, ◌<◌, ◌≤◌, List, length, Option, Some, None, Bor}
use Rattle.std.specs.Prelude.{option_map, slice_get}
use Rattle.std.specs.Option.{option_copied, MatchOption}
use Rattle.std.specs.List.{HoldsAt}
use Rattle.std.proofs.lemmas.Option.{slice_get_past, slice_get_read}
use Rattle.qil_layout.proofs.image.Image.name_of.Goals as goal

-- what a slice gives at a place
copied_at : {X : Type 0} (o : Option (Bor X)) (xs : List X) (i : ℕ) → MatchOption o (length xs ≤ i) (λ x. (i < length xs) × HoldsAt (λ y. x.now ≡ y) xs i) → option_copied o ≡ slice_get xs i
copied_at None xs i h = sym (slice_get_past xs i h)
copied_at (Some x) xs i h = sym (slice_get_read xs (length xs) i x.now refl h.0 (h.1 x.now))

pub returns-in-Some : goal.returns-in-Some
returns-in-Some g c =
    ap Some (c.new.ensures ∙ c.bytes.ensures)
    ∙ ap (λ o. option_map (λ f. f.name) o)
    (ap (λ o. option_copied o) (sym c.in-Some.is) ∙ copied_at c.get.result c.as_slice.result.now c.from.result c.get.ensures.lookup.3 ∙ ap (λ i. slice_get c.as_slice.result.now i) c.from.ensures ∙ ap (λ xs. slice_get xs c.args.func.index) c.as_slice.ensures
    ∙ ap (λ p. slice_get p.funcs c.args.func.index) c.self.view_is)

pub returns-in-None : goal.returns-in-None
returns-in-None g c =
    ap (λ o. option_map (λ f. f.name) o)
    (ap (λ o. option_copied o) (sym c.in-None.is) ∙ copied_at c.get.result c.as_slice.result.now c.from.result c.get.ensures.lookup.3 ∙ ap (λ i. slice_get c.as_slice.result.now i) c.from.ensures ∙ ap (λ xs. slice_get xs c.args.func.index) c.as_slice.ensures
    ∙ ap (λ p. slice_get p.funcs c.args.func.index) c.self.view_is)
