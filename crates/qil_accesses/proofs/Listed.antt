-- The accesses of moves as those of each state in a list.
use Rattle.std.proofs.Common.{◌≡◌, ◌∙◌, refl, sym, ap, ℕ, ◌+◌, zero, suc, [], ◌∷◌, ◌++◌, map, arith}
use Rattle.std.specs.List.{flat_map, range_with_len}
use Rattle.std.proofs.lemmas.Grind.{flat_map-append}
use Rattle.std.proofs.lemmas.List.{append-nil}
use Rattle.std.proofs.lemmas.List.FromFn.{map-range_with_len_more}
use Rattle.qil_tree.specs.declared.tree.Program.{Program}
use Rattle.qil_semantics.specs.Timeline.{Timeline, moved}
use Rattle.qil_accesses.specs.Accesses.{accesses_by, accesses_next}

pub listed : {A : Type 0} (p : Program A) (a m : ℕ) (t : Timeline) (k : ℕ) → accesses_by p a m t k ≡ flat_map (accesses_next p a m) (map (λ j. moved p j t) (range_with_len 0 k))
unfolding accesses_by
listed p a m t zero = refl
listed p a m t (suc k) =
    let states = map (λ j. moved p j t) (range_with_len 0 k) in
    let one : suc k ≡ k + 1 = omega arith in
    let more : map (λ j. moved p j t) (range_with_len 0 (suc k)) ≡ states ++ moved p k t ∷ [] =
    ap (λ n. map (λ j. moved p j t) (range_with_len 0 n)) one ∙ map-range_with_len_more (λ j. moved p j t) 0 k k (omega arith) in
    ap (λ xs. xs ++ accesses_next p a m (moved p k t)) (listed p a m t k)
    ∙ ap (λ xs. flat_map (accesses_next p a m) states ++ xs) (sym (append-nil (accesses_next p a m (moved p k t))))
    ∙ sym (flat_map-append (accesses_next p a m) states (moved p k t ∷ []))
    ∙ sym (ap (flat_map (accesses_next p a m)) more)
