-- The bytes that are kept of a line say what the whole line says.
use Rattle.std.proofs.Common.{◌≡◌, ℕ, List, take, length, arith, sym, ◌∙◌, ap, refl, nat_lt, inl, inr}
use Rattle.std.proofs.lemmas.List.{take_all, length-take-le}
use Rattle.std.proofs.lemmas.Bool.{cond-true}
use Rattle.std.proofs.lemmas.Bool.Decides.{leb_tells}
use Rattle.qil_commands.specs.Command.{command_of}

-- 257 bytes of a line are enough, since a longer one is refused for its length
pub command_of-kept : (line : List ℕ) → command_of (take 257 line) ≡ command_of line
command_of-kept line = elim (leb_tells 257 (length line)) [
  | inl h ↦
      let long : length (take 257 line) ≡ 257 = length-take-le 257 line (omega (arith, h.1)) in
      cond-true (nat_lt 256 (length (take 257 line))) _ _ (rw long refl) ∙ sym (cond-true (nat_lt 256 (length line)) _ _ h.0)
  | inr h ↦ ap (λ v. command_of v) (take_all 257 line (omega (arith, h.1)))
]
