-- Copies that are added and let go.
use Rattle.std.proofs.Common.{◌≡◌, sym, ap, ◌∙◌, subst, ℕ, ◌+◌, List, [], ◌∷◌, ◌++◌, take, drop}
use Rattle.std.specs.List.{All}
use Rattle.std.proofs.lemmas.List.{map-append, take-map, drop-map}
use Rattle.std.proofs.lemmas.List.Elements.{All-append, All-cons, All-nil}
use Rattle.qil_state.specs.State.{state_of}
use Rattle.qil_flatmachine.specs.Seen.{Base}
use Rattle.qil_flatmachine.specs.Kept.{KeptWhole, IsOf, AreOf, states_of}

-- one more at the end
pub copy_added : {A : Type 0} (b : Base A) (old middle new : List (KeptWhole A)) (k : KeptWhole A) → middle ≡ old → new ≡ middle ++ k ∷ [] → AreOf b old → IsOf b k → AreOf b new
copy_added b old middle new k same is all here = subst (AreOf b) (sym (is ∙ ap (λ ks. ks ++ k ∷ []) same)) (All-append (IsOf b) old (k ∷ []) all (All-cons (IsOf b) k [] here (All-nil (IsOf b))))

pub states_without : {A : Type 0} (old new : List (KeptWhole A)) (i : ℕ) → new ≡ take i old ++ drop (i + 1) old → states_of new ≡ take i (states_of old) ++ drop (i + 1) (states_of old)
states_without {A} old new i is =
    ap states_of is ∙ map-append (λ (k : KeptWhole A). state_of k.whole) (take i old) (drop (i + 1) old)
    ∙ (λ j. sym (take-map (λ (k : KeptWhole A). state_of k.whole) i old) j ++ sym (drop-map (λ (k : KeptWhole A). state_of k.whole) (i + 1) old) j)

pub states_first : {A : Type 0} (old new : List (KeptWhole A)) (n : ℕ) → new ≡ take n old → states_of new ≡ take n (states_of old)
states_first {A} old new n is = ap states_of is ∙ sym (take-map (λ (k : KeptWhole A). state_of k.whole) n old)
