-- After the last address.
use Rattle.std.proofs.Common.{◌≡◌, ℕ, ◌<◌, ◌≤◌, ◌^◌, None, arith}
use Rattle.std.proofs.lemmas.Bool.Decides.{nat_tests}
use Rattle.qil_memory.specs.Buffers.{Buffers}
use Rattle.qil_memory.specs.Live.{live}

-- after all addresses of 64 bits nothing is live
pub dead_far : (m : Buffers) (a : ℕ) → m.top < 2 ^ 64 → 2 ^ 64 ≤ a → live m a ≡ None
unfolding live
dead_far m a low far = grind (arith, nat_tests, low, far)
