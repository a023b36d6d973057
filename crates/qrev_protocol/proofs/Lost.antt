-- Where no message stands: what was read so far tells it.
use Rattle.std.proofs.Common.{◌≡◌, ℕ, ◌+◌, ◌≤◌, ◌^◌, List, [], ◌∷◌, ◌++◌, length, length-append, refl, sym, ap, ◌∙◌, append_assoc, arith, subst}
use Rattle.std.specs.List.{AllByRecursion, flat_map}
use Rattle.std.proofs.lemmas.List.{append-nil}
use Rattle.std.proofs.lemmas.List.Concat.{flat_map-append}
use Rattle.qrev_protocol.specs.Frame.{ended, IsLine, IsBlank, IsHeaderLine, header, SayLength, IsMessage, HasNone, IsLost}
use Rattle.qrev_protocol.proofs.Lines.{Follows, follows, header_first, before_newline, IsLine-blank, same_line, ended_first}

-- the lines of a message that begins with these lines
pub message_follows : (lines : List (List ℕ)) (part message body rest : List ℕ) → AllByRecursion IsHeaderLine lines → (m : IsMessage message body)
    → flat_map ended lines ++ part ≡ message ++ rest → Follows lines m.says.lines m.says.blank part (body ++ rest)
message_follows lines part message body rest h m e =
    follows lines m.says.lines m.says.blank part (body ++ rest) h m.says.are_lines m.says.is_blank
    (e ∙ ap (λ v. v ++ rest) (m.whole ∙ ap (λ v. v ++ body) m.says.whole) ∙ append_assoc (header m.says.lines m.says.blank) body rest)

-- the input ended in a line
pub cut_in_line : (lines : List (List ℕ)) (part : List ℕ) → AllByRecursion IsHeaderLine lines → IsLine part → HasNone (flat_map ended lines ++ part)
cut_in_line lines part h p message body rest m e =
    let f = message_follows lines part message body rest h m e in
    let first = header_first f.more m.says.blank (body ++ rest) in
    let short = before_newline part [] first.0 first.1 p (append-nil part ∙ f.part_is ∙ first.2) in
    let long : length part ≡ length first.0 + length (10 ∷ first.1) = ap length (f.part_is ∙ first.2) ∙ length-append first.0 (10 ∷ first.1) in
    omega arith

-- a line goes on past the room that a header has
pub too_long : (lines : List (List ℕ)) (part : List ℕ) → AllByRecursion IsHeaderLine lines → IsLine part → length part + length (flat_map ended lines) ≡ 4096 → IsLost (flat_map ended lines ++ part)
too_long lines part h p full more message body rest m e =
    let f = message_follows lines (part ++ more) message body rest h m (sym (append_assoc (flat_map ended lines) part more) ∙ e) in
    let first = header_first f.more m.says.blank (body ++ rest) in
    let short = before_newline part more first.0 first.1 p (f.part_is ∙ first.2) in
    let whole : length (header m.says.lines m.says.blank) ≡ length (flat_map ended lines) + length (header f.more m.says.blank) =
    ap (λ v. length (header v m.says.blank)) f.all_is
    ∙ ap length (ap (λ v. v ++ ended m.says.blank) (flat_map-append ended lines f.more) ∙ append_assoc (flat_map ended lines) (flat_map ended f.more) (ended m.says.blank))
    ∙ length-append (flat_map ended lines) (header f.more m.says.blank) in
    omega (arith, m.says.short, ap length m.says.whole, first.3)

-- a blank line is no line of a header
pub blank_first : (blank other : List ℕ) (more : List (List ℕ)) (part rest : List ℕ) → IsBlank blank → IsBlank other → AllByRecursion IsHeaderLine more
    → ended blank ++ part ≡ header more other ++ rest → (more ≡ []) × (part ≡ rest)
blank_first blank other [] part rest b o h e =
    let one = same_line blank other part rest (IsLine-blank blank b) (IsLine-blank other o) (sym (append_assoc blank (10 ∷ []) part) ∙ e ∙ append_assoc other (10 ∷ []) rest) in
    (refl, one.1)
blank_first blank other (y ∷ ys) part rest b o h e =
    let one = same_line blank y part (header ys other ++ rest) (IsLine-blank blank b) h.0.0
    (sym (append_assoc blank (10 ∷ []) part) ∙ e ∙ ap (λ v. v ++ rest) (append_assoc (ended y) (flat_map ended ys) (ended other)) ∙ ended_first y (header ys other) rest) in
    absurd (h.0.1 (subst IsBlank one.0 b))

-- the lines that a message begins with, where a blank line follows them
pub message_lines : (lines : List (List ℕ)) (blank part message body rest : List ℕ) → AllByRecursion IsHeaderLine lines → IsBlank blank → (m : IsMessage message body)
    → header lines blank ++ part ≡ message ++ rest → (m.says.lines ≡ lines) × (part ≡ body ++ rest)
message_lines lines blank part message body rest h b m e =
    let f = message_follows lines (ended blank ++ part) message body rest h m (sym (append_assoc (flat_map ended lines) (ended blank) part) ∙ e) in
    let none = blank_first blank m.says.blank f.more part (body ++ rest) b m.says.is_blank f.are_lines f.part_is in
    (f.all_is ∙ ap (λ v. lines ++ v) none.0 ∙ append-nil lines, none.1)

-- a whole header says no length
pub unsaid : (lines : List (List ℕ)) (blank : List ℕ) → AllByRecursion IsHeaderLine lines → IsBlank blank → ((n : ℕ) → n ≤ 2 ^ 20 → SayLength lines n → ⊥) → IsLost (header lines blank)
unsaid lines blank h b none more message body rest m e =
    let same = message_lines lines blank more message body rest h b m e in
    none (length body) m.within (subst (λ v. SayLength v (length body)) same.0 m.says.says)
