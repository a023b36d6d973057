-- A framed body is a message.
use Rattle.std.proofs.Common.{◌≡◌, ◌≢◌, ℕ, ◌+◌, ◌-◌, ◌%◌, ◌<◌, ◌≤◌, ◌^◌, List, [], ◌∷◌, ◌++◌, length, length-append, take, drop, refl, sym, ap, ◌∙◌, append_assoc, arith, subst, false, cond, inl, inr, rules}
use Rattle.std.specs.Prelude.{◌==◌, codes, decimal}
use Rattle.std.specs.Char.{is_ascii_whitespace}
use Rattle.std.specs.List.{AllByRecursion, prefix_len, suffix_len}
use Rattle.std.specs.Str.Parse.{IsNumeral, digits_value, without_leading_plus}
use Rattle.std.proofs.lemmas.List.{append-nil, reverse-append, take_at}
use Rattle.std.proofs.lemmas.Fmt.{decimal_by_steps, decimal_is_IsNumeral, length-decimal-le}
use Rattle.std.proofs.lemmas.Bool.Decides.{nat_tests}
use Rattle.qrev_protocol.proofs.Lines.{head_same}
use Rattle.qrev_protocol.specs.Frame.{IsLine, IsBlank, trimmed, trimmed_front, digits_in, Says, IsHeader, IsMessage, framed}

abbrev pub IsDigit : ℕ → Type 0
IsDigit d = (48 ≤ d) × (d ≤ 57)

-- digits, and the last of them
pub record AreDigits (ds : List ℕ) : Type 0 where
  pub all : AllByRecursion IsDigit ds
  pub prefix : List ℕ
  pub last : ℕ
  pub last_is : IsDigit last
  pub whole : ds ≡ prefix ++ last ∷ []

digits_push : (ds : List ℕ) (d : ℕ) → AllByRecursion IsDigit ds → IsDigit d → AllByRecursion IsDigit (ds ++ d ∷ [])
digits_push [] d h p = (p, tt)
digits_push (x ∷ xs) d h p = (h.0, digits_push xs d h.1 p)

pub decimal_digits : (n : ℕ) → n < 2 ^ 64 → AreDigits (decimal n)
decimal_digits n h =
    decimal_by_steps (λ k ds. AreDigits ds)
    (λ k small. record { all = ((omega arith, omega arith), tt); prefix = []; last = 48 + k; last_is = (omega arith, omega arith); whole = refl })
    (λ k ds large so_far.
    let digit : IsDigit (48 + k % 10) = (omega arith, omega arith) in
    record { all = digits_push ds (48 + k % 10) so_far.all digit; prefix = ds; last = 48 + k % 10; last_is = digit; whole = refl })
    n h

digit_no_space : (d : ℕ) → IsDigit d → is_ascii_whitespace d ≡ false
digit_no_space d h = grind (arith, nat_tests)

-- no white space before it
none_in_front : (ds more : List ℕ) → AllByRecursion IsDigit ds → 0 < length ds → prefix_len is_ascii_whitespace (ds ++ more) ≡ 0
none_in_front [] more h p = absurd (omega arith)
none_in_front (d ∷ ds) more h p = rw (digit_no_space d h.0) refl

none_behind : (prefix : List ℕ) (d : ℕ) → IsDigit d → suffix_len is_ascii_whitespace ((prefix ++ d ∷ []) ++ 13 ∷ []) ≡ 1
none_behind prefix d h =
    rw (reverse-append (prefix ++ d ∷ []) (13 ∷ []), reverse-append prefix (d ∷ []), digit_no_space d h) refl

-- digits, with a blank before them and byte 13 after them
pub trimmed_digits : (ds : List ℕ) → AreDigits ds → trimmed (32 ∷ (ds ++ 13 ∷ [])) ≡ ds
trimmed_digits ds h =
    let text = ds ++ 13 ∷ [] in
    let some : 0 < length ds = omega (arith, ap length h.whole, length-append h.prefix (h.last ∷ [])) in
    let prefix : trimmed_front (32 ∷ text) ≡ text = ap (λ k. drop (1 + k) (32 ∷ text)) (none_in_front ds (13 ∷ []) h.all some) in
    let behind : suffix_len is_ascii_whitespace text ≡ 1 = ap (λ v. suffix_len is_ascii_whitespace (v ++ 13 ∷ [])) h.whole ∙ none_behind h.prefix h.last h.last_is in
    let count : length ds ≡ length text - suffix_len is_ascii_whitespace text = omega (arith, behind, length-append ds (13 ∷ [])) in
    ap (λ v. take (length v - suffix_len is_ascii_whitespace v) v) prefix ∙ take_at ds (13 ∷ []) (length text - suffix_len is_ascii_whitespace text) count

pub no_plus : (ds : List ℕ) → AllByRecursion IsDigit ds → without_leading_plus ds ≡ ds
no_plus [] h = refl
no_plus (d ∷ ds) h =
    let other : (d == 43) ≡ false = grind (arith, nat_tests) in ap (λ b. drop (cond b 1 0) (d ∷ ds)) other

digits_line : (ds : List ℕ) → AllByRecursion IsDigit ds → IsLine (ds ++ 13 ∷ [])
digits_line [] h = ((λ e. omega arith), tt)
digits_line (d ∷ ds) h = ((λ e. omega (arith, e, h.0.0)), digits_line ds h.1)

-- the line that says the length
abbrev pub length_line : ℕ → List ℕ
length_line n = codes "Content-Length: " ++ (decimal n ++ 13 ∷ [])

not_blank : (x : ℕ) (xs : List ℕ) → x ≢ 13 → IsBlank (x ∷ xs) → ⊥
not_blank x xs h (inl e) = let never : x ∷ xs ≡ [] = e in cc
not_blank x xs h (inr e) = h (head_same x 13 xs [] e)

line_with : (prefix rest : List ℕ) → IsLine prefix → IsLine rest → IsLine (prefix ++ rest)
line_with [] rest h p = p
line_with (x ∷ xs) rest h p = (h.0, line_with xs rest h.1 p)

pub says_length : (n : ℕ) → n < 2 ^ 64 → Says (length_line n) n
says_length n h =
    let ds = decimal n in
    let digits = decimal_digits n h in
    let there : digits_in (length_line n) ≡ ds = ap without_leading_plus (trimmed_digits ds digits) ∙ no_plus ds digits.all in
    let number = decimal_is_IsNumeral n h in
    (subst (λ v. IsNumeral 10 v) (sym there) number.0, ap (λ v. digits_value 10 v) there ∙ number.1)

-- the header that is sent
pub sent_header : (n : ℕ) → n ≤ 2 ^ 20 → IsHeader (codes "Content-Length: " ++ decimal n ++ codes "\r\n\r\n") n
sent_header n small =
    let ds = decimal n in
    let digits = decimal_digits n (omega arith) in
    let ends : ds ++ codes "\r\n\r\n" ≡ ((((ds ++ 13 ∷ []) ++ 10 ∷ []) ++ []) ++ 13 ∷ 10 ∷ []) = sym (simp (append_assoc, append-nil)) in
    let size : length ds ≤ 20 = length-decimal-le 20 n (omega arith) (omega arith) (omega arith) in
    record {
      lines = length_line n ∷ [];
      blank = 13 ∷ [];
      are_lines = ((line_with (codes "Content-Length: ") (ds ++ 13 ∷ []) (search rules) (digits_line ds digits.all), not_blank 67 _ (λ e. omega (arith, e))), tt);
      is_blank = inr refl;
      says = (length_line n, refl, says_length n (omega arith));
      whole = ap (λ v. codes "Content-Length: " ++ v) ends;
      short = omega (arith, length-append ds (codes "\r\n\r\n"));
    }

pub framed_is_message : (body : List ℕ) → length body ≤ 2 ^ 20 → IsMessage (framed body) body
framed_is_message body small = record {
  text = codes "Content-Length: " ++ decimal (length body) ++ codes "\r\n\r\n";
  says = sent_header (length body) small;
  within = small;
  whole = refl;
}
