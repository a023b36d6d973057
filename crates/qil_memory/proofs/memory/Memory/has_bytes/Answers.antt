-- Between the begin of the data and the end of its part of memory.
use Rattle.std.proofs.Common.{◌≡◌, ◌↔◌, ◌⊎◌, inl, inr, ℕ, ◌+◌, ◌<◌, ◌≤◌, length, Bool, IsTrue, arith, rules}
use Rattle.qil_layout.specs.Layout.{data_base}
use Rattle.qil_memory.specs.Buffers.{Buffers, IsMemory, stack_base, stack_end}
use Rattle.qil_memory.specs.Places.{HasBytes}
use Rattle.qil_memory.proofs.memory.Memory.has_bytes.Goals.{then-address-lt-STACK_BASE, else-address-lt-STACK_BASE}
use Rattle.qil_memory.proofs.memory.Memory.has_bytes.Goals as goal

in_data : (m : Buffers) (a n e : ℕ) (b : Bool) → IsMemory m → a < stack_base → e ≡ data_base + length m.data_bytes
    → IsTrue b ↔ ((data_base ≤ a) × (a + n ≤ e)) → IsTrue b ↔ HasBytes m a n
in_data m a n e b memory below end between = (
  λ t. let h = between.0 t in record { low = h.0; in_data = λ l. omega (arith, h.0, h.1, end); in_stack = λ l. absurd (omega (arith, l, below)) },
  λ has. let inside = has.in_data below in between.1 (has.low, omega (arith, inside, has.low, end)),
)

in_stack : (m : Buffers) (a n e : ℕ) (b : Bool) → IsMemory m → stack_base ≤ a → e ≡ stack_end
    → IsTrue b ↔ ((data_base ≤ a) × (a + n ≤ e)) → IsTrue b ↔ HasBytes m a n
in_stack m a n e b memory above end between = (
  λ t. let h = between.0 t in record { low = h.0; in_data = λ l. absurd (omega (arith, l, above)); in_stack = λ l. omega (arith, h.1, end, memory.whole, above) },
  λ has. let inside = has.in_stack above in between.1 (has.low, omega (arith, inside, end, memory.whole, above)),
)

pub returns-clause-places : goal.returns-clause-places
returns-clause-places g c =
    let m = c.args.self.now in
    elim c.if-address-lt-STACK_BASE.branch [
      | then-address-lt-STACK_BASE w ↦ in_data m c.args.address c.args.n c.if-address-lt-STACK_BASE.end c.is_between.result (search rules) (omega arith) (search rules) c.is_between.ensures
      | else-address-lt-STACK_BASE w ↦ in_stack m c.args.address c.args.n c.if-address-lt-STACK_BASE.end c.is_between.result (search rules) (omega arith) (search rules) c.is_between.ensures
    ]
