-- Facts on what is kept.
use Rattle.std.proofs.Common.{◌≡◌, List, length, reverse, map, ◌∙◌}
use Rattle.std.proofs.lemmas.List.{length-reverse, length-map}
use Rattle.qil_state.specs.State.{Whole, state_of}

-- as many states before as clones
pub length_clones : {A : Type 0} (ms : List (Whole A)) → length (map state_of (reverse ms)) ≡ length ms
length_clones ms = length-map (reverse ms) state_of ∙ length-reverse ms
