-- When bytes are a text as they are.
use Rattle.std.proofs.Common.{◌≡◌, refl, sym, ap, ◌∙◌, ℕ, zero, suc, ◌+◌, ◌<◌, ◌^◌, List, [], ◌∷◌, ◌++◌, length, take, decimal, Bool, true, false, append_assoc, arith}
use Rattle.std.specs.Prelude.{IsUtf8, IsAscii, encode_utf8_all, slice_index_or, nat_lt, if◌then◌else◌}
use Rattle.std.specs.Char.{encode_utf8}
use Rattle.std.specs.Str.Lossy.{utf8_valid_len}
use Rattle.std.proofs.lemmas.Bool.{le-ltb, lt-ltb}
use Rattle.std.proofs.lemmas.List.{append-nil}
use Rattle.std.proofs.lemmas.Str.{utf8_valid_len-IsUtf8, IsUtf8-from_ascii}
use Rattle.std.proofs.lemmas.Fmt.{IsAscii-decimal}
use Rattle.qrev_views.specs.Texts.{shown_text}

pub shown_valid : (bytes : List ℕ) → IsUtf8 bytes → shown_text bytes ≡ bytes
unfolding shown_text
shown_valid bytes is = rw (utf8_valid_len-IsUtf8 bytes is, le-ltb (length bytes) (length bytes) (omega arith)) refl

pub shown_invalid : (bytes : List ℕ) → utf8_valid_len bytes < length bytes → shown_text bytes ≡ encode_utf8_all bytes
unfolding shown_text
shown_invalid bytes less = rw (lt-ltb (utf8_valid_len bytes) (length bytes) less) refl

pub shown_decimal : (n : ℕ) → n < 2 ^ 64 → shown_text (decimal n) ≡ decimal n
shown_decimal n small = shown_valid (decimal n) (IsUtf8-from_ascii (decimal n) (IsAscii-decimal n small))

-- one character more
pub character_more : (bytes : List ℕ) (i : ℕ) → i < length bytes → encode_utf8_all (take i bytes) ++ encode_utf8 (slice_index_or bytes i 0) ≡ encode_utf8_all (take (i + 1) bytes)
character_more bytes i within = more bytes i within ∙ (let e : suc i ≡ i + 1 = omega arith in ap (λ (n : ℕ). encode_utf8_all (take n bytes)) e)
  where
    more : (bytes : List ℕ) (i : ℕ) → i < length bytes → encode_utf8_all (take i bytes) ++ encode_utf8 (slice_index_or bytes i 0) ≡ encode_utf8_all (take (suc i) bytes)
    more [] i l = absurd (omega (arith, l))
    more (c ∷ cs) zero l = sym (append-nil (encode_utf8 c))
    more (c ∷ cs) (suc i) l = append_assoc (encode_utf8 c) (encode_utf8_all (take i cs)) (encode_utf8 (slice_index_or cs i 0)) ∙ ap (λ (t : List ℕ). encode_utf8 c ++ t) (more cs i (omega (arith, l)))
