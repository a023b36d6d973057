-- Which bytes are a line, and which line is a command.
use Rattle.std.proofs.Common.{◌≡◌, ℕ, List, [], ◌∷◌, Bool, true, false, refl, sym, ap, ◌∙◌, arith}
use Rattle.std.specs.Prelude.{IsTrue, not, ◌==◌, ◌||◌}
use Rattle.std.specs.List.{list_any}
use Rattle.std.proofs.lemmas.Bool.{false≢true, or_parts}
use Rattle.std.proofs.lemmas.Bool.Decides.{nat_tests}
use Rattle.qil_streams.specs.Reader.{IsLine}

no_newline : (bytes : List ℕ) → list_any (λ b. b == 10) bytes ≡ false → IsLine bytes
no_newline [] none = tt
no_newline (b ∷ bytes) none =
    let parts = or_parts (b == 10) (list_any (λ b. b == 10) bytes) none in
    (λ e. false≢true (sym parts.0 ∙ ap (λ n. n == 10) e), no_newline bytes parts.1)

-- bytes in which byte 10 isn't found are a line
pub line_without : (bytes : List ℕ) (found : Bool) → found ≡ list_any (λ b. b == 10) bytes → IsTrue (not found) → IsLine bytes
line_without bytes true is t = absurd (false≢true t)
line_without bytes false is t = no_newline bytes (sym is)

none_in : (bytes : List ℕ) → IsLine bytes → list_any (λ b. b == 10) bytes ≡ false
none_in [] line = refl
none_in (b ∷ bytes) line =
    let other : b ≡ 10 → ⊥ = line.0 in
    let here : (b == 10) ≡ false = grind (arith, nat_tests, other) in
    ap (λ (x : Bool). x || list_any (λ c. c == 10) bytes) here ∙ none_in bytes line.1

-- it isn't found in a line
pub line_lacks : (bytes : List ℕ) (found : Bool) → found ≡ list_any (λ b. b == 10) bytes → IsLine bytes → IsTrue (not found)
line_lacks bytes true is line = absurd (false≢true (sym (none_in bytes line) ∙ sym is))
line_lacks bytes false is line = refl
