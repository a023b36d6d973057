-- The header that was read so far.
use Rattle.std.proofs.Common.{◌≡◌, ◌≢◌, ℕ, ◌+◌, ◌≤◌, ◌^◌, List, [], ◌∷◌, ◌++◌, length, length-append, refl, sym, ap, ◌∙◌, append_assoc, arith, true, false, subst}
use Rattle.std.specs.Prelude.{Option}
use Rattle.std.specs.List.{AllByRecursion, filter, flat_map}
use Rattle.std.specs.Io.KnownBytes.{Consumes}
use Rattle.std.proofs.lemmas.List.Concat.{flat_map-append}
use Rattle.std.proofs.lemmas.List.Elements.{filter-append}
use Rattle.std.proofs.lemmas.List.{append-nil}
use Rattle.qil_streams.proofs.DeviceLemmas.{Consumes-nil, Consumes-append}
use Rattle.qrev_protocol.specs.Frame.{ended, IsHeaderLine, is_length, Says, SayLength}
use Rattle.qrev_protocol.specs.Incoming.{Reads, AreSaid}
use Rattle.qrev_protocol.specs.declared.header.Said.{Said}
use Rattle.qrev_protocol.specs.declared.header.Said.TheVariants.{Nothing, Length, Unreadable}

-- lines were taken, what they say is known, and so is the room that the header still has
pub record ReadSoFar (said : Said) (room : ℕ) (before after : Option (List ℕ)) : Type 0 where
  pub lines : List (List ℕ)
  pub are_lines : AllByRecursion IsHeaderLine lines
  pub are_said : AreSaid said lines
  pub room_is : room + length (flat_map ended lines) ≡ 4096
  pub taken : Consumes before after (flat_map ended lines)

pub none_so_far : (before : Option (List ℕ)) → ReadSoFar Nothing 4096 before before
none_so_far before = record { lines = []; are_lines = tt; are_said = refl; room_is = refl; taken = Consumes-nil before }

pub all_push : (P : List ℕ → Type 0) (lines : List (List ℕ)) (line : List ℕ) → AllByRecursion P lines → P line → AllByRecursion P (lines ++ line ∷ [])
all_push P [] line h p = (p, tt)
all_push P (x ∷ xs) line h p = (h.0, all_push P xs line h.1 p)

pub ended_push : (lines : List (List ℕ)) (line : List ℕ) → flat_map ended (lines ++ line ∷ []) ≡ flat_map ended lines ++ ended line
ended_push lines line = flat_map-append ended lines (line ∷ []) ∙ ap (λ v. flat_map ended lines ++ v) (append-nil (ended line))

pub one_line_more : (said joined : Said) (room next : ℕ) (line : List ℕ) (before middle after : Option (List ℕ)) → (so_far : ReadSoFar said room before middle)
    → IsHeaderLine line → AreSaid joined (so_far.lines ++ line ∷ []) → Consumes middle after (ended line) → next + (length line + 1) ≡ room → ReadSoFar joined next before after
one_line_more said joined room next line before middle after so_far h s taken r =
    let longer = ended_push so_far.lines line in record {
      lines = so_far.lines ++ line ∷ [];
      are_lines = all_push IsHeaderLine so_far.lines line so_far.are_lines h;
      are_said = s;
      room_is = omega (arith, so_far.room_is, ap length longer, length-append (flat_map ended so_far.lines) (ended line), length-append line (10 ∷ []));
      taken = subst (λ v. Consumes before after v) (sym longer) (Consumes-append before middle after (flat_map ended so_far.lines) (ended line) so_far.taken taken);
    }

-- ---- what lines say with one line more
pub filter_push_other : (lines : List (List ℕ)) (line : List ℕ) → is_length line ≡ false → filter is_length (lines ++ line ∷ []) ≡ filter is_length lines
filter_push_other lines line h = filter-append is_length lines (line ∷ []) ∙ rw h (append-nil (filter is_length lines))

pub filter_push : (lines : List (List ℕ)) (line : List ℕ) → is_length line ≡ true → filter is_length (lines ++ line ∷ []) ≡ filter is_length lines ++ line ∷ []
filter_push lines line h = filter-append is_length lines (line ∷ []) ∙ rw h refl

pub said_still : (said : Said) (lines : List (List ℕ)) (line : List ℕ) → AreSaid said lines → is_length line ≡ false → AreSaid said (lines ++ line ∷ [])
said_still Nothing lines line s h = filter_push_other lines line h ∙ s
said_still (Length n) lines line s h = ((s.0.0, filter_push_other lines line h ∙ s.0.1, s.0.2), s.1)
said_still Unreadable lines line s h = λ more n small says. s (line ∷ more) n small (subst (λ v. SayLength v n) (append_assoc lines (line ∷ []) more) says)

pub said_first : (lines : List (List ℕ)) (line : List ℕ) (n : ℕ) → filter is_length lines ≡ [] → is_length line ≡ true → Says line n → SayLength (lines ++ line ∷ []) n
said_first lines line n none h says = (line, filter_push lines line h ∙ ap (λ v. v ++ line ∷ []) none, says)

-- the lines that say a length, where more come after one
pub filter_more : (lines more : List (List ℕ)) (line : List ℕ) → is_length line ≡ true → filter is_length ((lines ++ line ∷ []) ++ more) ≡ filter is_length lines ++ line ∷ filter is_length more
filter_more lines more line h =
    filter-append is_length (lines ++ line ∷ []) more ∙ ap (λ v. v ++ filter is_length more) (filter_push lines line h) ∙ append_assoc (filter is_length lines) (line ∷ []) (filter is_length more)

pub unreadable_first : (lines : List (List ℕ)) (line : List ℕ) → filter is_length lines ≡ [] → is_length line ≡ true → ((n : ℕ) → n ≤ 2 ^ 20 → Says line n → ⊥) → AreSaid Unreadable (lines ++ line ∷ [])
unreadable_first lines line none h bad more n small says =
    let one : line ∷ filter is_length more ≡ says.0 ∷ [] = sym (filter_more lines more line h ∙ ap (λ v. v ++ line ∷ filter is_length more) none) ∙ says.1 in
    let same : says.0 ≡ line = cc in
    bad n small (subst (λ v. Says v n) same says.2)

pub said_twice : (lines : List (List ℕ)) (line other : List ℕ) → filter is_length lines ≡ other ∷ [] → is_length line ≡ true → AreSaid Unreadable (lines ++ line ∷ [])
said_twice lines line other one h more n small says =
    let two : other ∷ line ∷ filter is_length more ≡ says.0 ∷ [] = sym (filter_more lines more line h ∙ ap (λ v. v ++ line ∷ filter is_length more) one) ∙ says.1 in cc

-- lines that say nothing, and one after them
pub said_now : (said : Said) (lines : List (List ℕ)) (line : List ℕ) → filter is_length lines ≡ [] → Reads said line → AreSaid said (lines ++ line ∷ [])
said_now Nothing lines line none r = filter_push_other lines line r ∙ none
said_now (Length n) lines line none r = (said_first lines line n none r.0 r.1, r.2)
said_now Unreadable lines line none r = unreadable_first lines line none r.0 r.1

-- lines that say something, and one after them that does
pub said_both : (said next : Said) (lines : List (List ℕ)) (line : List ℕ) → (said ≢ Nothing) → (next ≢ Nothing) → AreSaid said lines → Reads next line → AreSaid Unreadable (lines ++ line ∷ [])
said_both Nothing next lines line p q s r = absurd (p refl)
said_both (Length n) Nothing lines line p q s r = absurd (q refl)
said_both (Length n) (Length m) lines line p q s r = said_twice lines line s.0.0 s.0.1 r.0
said_both (Length n) Unreadable lines line p q s r = said_twice lines line s.0.0 s.0.1 r.0
said_both Unreadable next lines line p q s r = λ more n small says. s (line ∷ more) n small (subst (λ v. SayLength v n) (append_assoc lines (line ∷ []) more) says)
