-- Names that are compared: that of the header of the length, and that of a kind of messages.
use Rattle.std.proofs.Common.{◌≡◌, List, ℕ, map, take, codes, sym, refl, Bool, true, false}
use Rattle.std.specs.Prelude.{IsTrue, ◌↔◌, not}
use Rattle.std.proofs.lemmas.Bool.{false≢true}
use Rattle.std.specs.Char.{to_ascii_lowercase}
use Rattle.std.specs.Str.{bytes_eq}
use Rattle.std.proofs.lemmas.Slice.Eq.{bytes_eq-Decides}
use Rattle.qrev_protocol.specs.Frame.{is_length}

-- two tests that hold together are one
same_test : (a b : Bool) → (a ≡ true → b ≡ true) → (b ≡ true → a ≡ true) → a ≡ b
same_test true b there back = sym (there refl)
same_test false true there back = back refl
same_test false false there back = refl

-- a comparison of small letters is the comparison of the name's bytes
pub named_length : (line : List ℕ) (test : Bool) → (IsTrue test ↔ (map to_ascii_lowercase (take 15 line) ≡ map to_ascii_lowercase (codes "content-length:"))) → test ≡ is_length line
named_length line test says =
    let bytes = bytes_eq-Decides (map to_ascii_lowercase (take 15 line)) (codes "content-length:") in
    same_test test (is_length line) (λ t. bytes.1 (says.0 t)) (λ t. says.1 (bytes.0 t))

not_false : (b : Bool) → false ≡ not b → b ≡ true
not_false true e = refl
not_false false e = absurd (false≢true e)

-- texts that aren't told apart are one
pub same_text : (text name : List ℕ) → false ≡ not (bytes_eq text name) → text ≡ name
same_text text name e = (bytes_eq-Decides text name).0 (not_false (bytes_eq text name) e)
