-- Temporaries that are set one after the other.
use Rattle.std.proofs.Common.{◌≡◌, ◌∙◌, sym, ap, ℕ, ◌+◌, ◌<◌, ◌≤◌, List, length, drop, get_or}
use Rattle.std.proofs.lemmas.List.{drop_more, drop_all}
use Rattle.qil_code.specs.declared.numbered.Slot.{Slot}
use Rattle.qil_shadow.specs.declared.origin.Origin.{Origin}
use Rattle.qil_shadow.specs.Calls.{LiveCalls, with_set}
use Rattle.qil_shadow.specs.Moves.{with_all}

pub put_more : (xs : List (Slot × Origin)) (i : ℕ) (d : Slot × Origin) (calls now all : LiveCalls) → i < length xs → now ≡ with_set calls (get_or xs i d).0 (get_or xs i d).1
    → with_all (drop i xs) calls ≡ all → with_all (drop (i + 1) xs) now ≡ all
put_more xs i d calls now all below set so_far = ap (with_all (drop (i + 1) xs)) set ∙ ap (λ ys. with_all ys calls) (sym (drop_more xs i d below)) ∙ so_far

pub put_all : (xs : List (Slot × Origin)) (i : ℕ) (calls all : LiveCalls) → length xs ≤ i → with_all (drop i xs) calls ≡ all → calls ≡ all
put_all xs i calls all past so_far = ap (λ ys. with_all ys calls) (sym (drop_all i xs past)) ∙ so_far
