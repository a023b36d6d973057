-- A byte that was read is that of the map of live bytes.
use Rattle.std.proofs.Common.{◌≡◌, ℕ, ◌∙◌, List, [], Option, Some, None, IsTrue, false, get_or, lit<, refl, sym, ap}
use Rattle.std.specs.Prelude.{unwrap_or}
use Rattle.qil_memory.specs.Buffers.{Buffers, IsMemory}
use Rattle.qil_memory.specs.Live.{live, onto}
use Rattle.qil_memory.specs.Places.{IsLive, bytes_at}
use Rattle.qil_memory.proofs.LiveBytes.{read-live, read-dead}

first_onto : (o : Option ℕ) (bs : List ℕ) → onto o (Some []) ≡ Some bs → Some (get_or bs 0 0) ≡ o
first_onto None bs e = absurd (cc)
first_onto (Some b) bs e = ap (λ q. Some (get_or (unwrap_or q []) 0 0)) (sym e)

none_onto : (o : Option ℕ) → onto o (Some []) ≡ None → None ≡ o
none_onto None e = refl
none_onto (Some b) e = absurd (cc)

pub byte_live : (m : Buffers) (a : ℕ) (bs : List ℕ) → IsMemory m → IsLive m a 1 → bs ≡ bytes_at m a 1 → Some (get_or bs 0 0) ≡ live m a
byte_live m a bs is there e = first_onto (live m a) bs (read-live m a 1 is there ∙ ap (λ b. Some b) (sym e))

pub byte_dead : (m : Buffers) (a : ℕ) → IsMemory m → (IsLive m a 1 → IsTrue false) → None ≡ live m a
byte_dead m a is gone = none_onto (live m a) (read-dead m a 1 is (lit< tt) (λ l. let f : IsTrue false = gone l in absurd (cc)))
