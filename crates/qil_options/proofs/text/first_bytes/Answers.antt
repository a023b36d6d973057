-- What a reader that is cut has left is the prefix of what the reader has.
use Rattle.std.proofs.Common.{◌≡◌, IfSome, take, ℕ, List, [], ◌++◌, Option, ap, ◌∙◌}
use Rattle.std.specs.Prelude.{Some, None, option_map}
use Rattle.qil_options.proofs.text.first_bytes.Goals as goal

read_prefix : (limit most : ℕ) (before after : List ℕ) (all : Option (List ℕ)) → limit ≡ most → before ≡ []
    → IfSome (option_map (take limit) all) (λ xs. after ≡ before ++ xs) → IfSome all (λ xs. after ≡ take most xs)
read_prefix limit most before after None e none h = tt
read_prefix limit most before after (Some xs) e none h = h ∙ ap (λ v. v ++ take limit xs) none ∙ ap (λ n. take n xs) e

pub returns : goal.returns
returns g c =
    let bytes = rw c.take.ensures.inner at c.in_ok-read_to_end.ensures.bytes in
    read_prefix c.take.result.limit 1048577 _ _ _ c.take.ensures.limit c.new-bytes.ensures.items bytes
