-- The first memory of a run: a fresh memory is the map of the first state.
use Rattle.std.proofs.Common.{◌≡◌, refl, ℕ, ◌-◌, ◌≤◌, Bool, true, false, if◌then◌else◌, nat_lt, List, length, Option, Some, None, arith}
use Rattle.std.specs.Prelude.{slice_get}
use Rattle.std.proofs.lemmas.Option.{slice_get_past}
use Rattle.std.proofs.lemmas.Bool.{ltb-false, le-ltb}
use Rattle.qil_memory.specs.qil_layout.Layout.{data_base, zeros}
use Rattle.qil_memory.specs.Buffers.{stack_base, capacity, fresh}
use Rattle.qil_memory.specs.Live.{live, laid, else_at}
use Rattle.qil_semantics.specs.Start.{none_live}

one_map : (x y : Bool) (g h : Option ℕ) → (x ≡ false → y ≡ false) → (x ≡ false → g ≡ None)
    → (if x then (if y then None else g) else (if x then h else None)) ≡ (if y then None else else_at g None)
one_map true true g h e f = refl
one_map true false (Some v) h e f = refl
one_map true false None h e f = refl
one_map false y g h e f = rw (e refl) (rw (f refl) refl)

pub live-fresh : (bytes : List ℕ) → length bytes ≤ capacity → (a : ℕ) → live (fresh bytes) a ≡ laid none_live data_base bytes a
unfolding live laid
live-fresh bytes h a =
    one_map (nat_lt a stack_base) (nat_lt a data_base) (slice_get bytes (a - data_base)) (slice_get (zeros capacity) (a - stack_base))
    (λ e. let le = ltb-false a stack_base e in le-ltb a data_base (omega (arith, le)))
    (λ e. let le = ltb-false a stack_base e in slice_get_past bytes (a - data_base) (omega (arith, le, h)))
