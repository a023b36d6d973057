-- What an undo record more adds to the weight of a bounded log.
use Rattle.std.proofs.Common.{◌≡◌, ℕ, ◌+◌, ◌-◌, ◌≤◌, List, [], ◌∷◌, ◌++◌, length, take, drop, Result, Ok, Err, OnOk, ap, sym, subst, arith, take-append-drop}
use Rattle.std.proofs.lemmas.List.Sums.{sum_by-append, sum_by_push}
use Rattle.circular_buffer.specs.Buffer.{Buffer, buffer, keep_last}
use Rattle.qil_semantics.specs.Cost.{cost_of}
use Rattle.qil_state.specs.State.{Whole, state_of}
use Rattle.qil_machine.specs.Moves.{Move, weight}
use Rattle.qil_machine.specs.Costs.{WeighsAtMost}
use Rattle.qil_undo_log.specs.Kept.{Recent, recent, HasAdded}
use Rattle.qil_undo_log.specs.Weights.{total}

newest_weigh : (ds : List Move) (n : ℕ) → total (keep_last n ds) ≤ total ds
newest_weigh ds n =
    let k : ℕ = length ds - n in
    let whole : total (take k ds ++ drop k ds) ≡ total ds = ap total (take-append-drop k ds) in
    omega (arith, whole, sum_by-append weight (take k ds) (drop k ds))

newest_added : (ds : List Move) (d : Move) (n k : ℕ) → weight d ≤ k → total (keep_last n (ds ++ d ∷ [])) ≤ total ds + k
newest_added ds d n k few = omega (arith, newest_weigh (ds ++ d ∷ []) n, sum_by_push weight ds d, few)

-- at most its own weight: what is forgotten only takes off
pub adds_at_most : {A : Type 0} (m : Whole A) (ds : List Move) (d : Move) (f n k : ℕ) (b : Buffer Move) (now : Recent A) → recent m ds f n ≡ now → b ≡ buffer (keep_last n (ds ++ d ∷ [])) n → weight d ≤ k
    → total b.items ≤ total now.records + k
adds_at_most {A} m ds d f n k b now is eb few =
    subst (λ (r : Recent A). total b.items ≤ total r.records + k) is (subst (λ (c : Buffer Move). total c.items ≤ total ds + k) (sym eb) (newest_added ds d n k few))

-- a step whose undo record went into the bounded log adds at most what it costs
pub steps_add : {A X T E : Type 0} (records : X → Buffer Move) (forgotten : X → ℕ) (r : Result T E) (m : Whole A) (x y : X) (now : Recent A) → recent m (records x).items (forgotten x) (records x).capacity ≡ now
    → OnOk r (WeighsAtMost (λ d. HasAdded (records x) (forgotten x) d (records y) (forgotten y)) (cost_of m.program (state_of m))) → OnOk r (total (records y).items ≤ total now.records + cost_of now.machine.program (state_of now.machine))
steps_add {A} records forgotten (Ok t) m x y now view few =
    adds_at_most m (records x).items few.0 (forgotten x) (records x).capacity (cost_of now.machine.program (state_of now.machine)) (records y) now view few.1.kept
    (subst (λ (k : Recent A). weight few.0 ≤ cost_of k.machine.program (state_of k.machine)) view few.2)
steps_add records forgotten (Err e) m x y now view few = tt
