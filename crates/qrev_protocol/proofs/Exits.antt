-- How the reading of a header ends.
use Rattle.std.proofs.Common.{◌≡◌, ℕ, ◌<◌, ◌≤◌, ◌^◌, List, [], ◌∷◌, ◌++◌, length, length-append, refl, sym, ◌∙◌, arith, subst}
use Rattle.std.specs.Prelude.{Option}
use Rattle.std.specs.List.{flat_map}
use Rattle.std.specs.Io.KnownBytes.{Consumes}
use Rattle.std.proofs.lemmas.List.{append-nil}
use Rattle.qil_streams.proofs.DeviceLemmas.{Consumes-append}
use Rattle.qrev_protocol.specs.Frame.{ended, IsLine, IsBlank, SayLength, header, IsHeader, HasNone, IsLost}
use Rattle.qrev_protocol.specs.Incoming.{TakesAll, TakesPrefix, AreSaid}
use Rattle.qrev_protocol.specs.declared.header.Said.{Said}
use Rattle.qrev_protocol.specs.declared.header.Said.TheVariants.{Nothing, Length, Unreadable}
use Rattle.qrev_protocol.proofs.Heads.{ReadSoFar}
use Rattle.qrev_protocol.proofs.Lost.{cut_in_line, too_long, unsaid}

-- all that was taken, with these bytes after the lines
pub taken_with : (said : Said) (room : ℕ) (part : List ℕ) (before middle after : Option (List ℕ)) → (so_far : ReadSoFar said room before middle) → Consumes middle after part
    → Consumes before after (flat_map ended so_far.lines ++ part)
taken_with said room part before middle after so_far taken = Consumes-append before middle after (flat_map ended so_far.lines) part so_far.taken taken

pub front_with : (said : Said) (room : ℕ) (before middle after : Option (List ℕ)) → ReadSoFar said room before middle → TakesPrefix middle after → TakesPrefix before after
front_with said room before middle after so_far prefix = (flat_map ended so_far.lines ++ prefix.0, taken_with said room prefix.0 before middle after so_far prefix.1)

pub ends_in_line : (said : Said) (room : ℕ) (line : List ℕ) (before middle after : Option (List ℕ)) → ReadSoFar said room before middle → IsLine line → TakesAll middle after line
    → (prefix : List ℕ) × TakesAll before after prefix × HasNone prefix
ends_in_line said room line before middle after so_far h taken = (
  flat_map ended so_far.lines ++ line,
  (taken_with said room line before middle after so_far taken.0, taken.1),
  cut_in_line so_far.lines line so_far.are_lines h,
)

pub line_too_long : (said : Said) (room : ℕ) (line : List ℕ) (before middle after : Option (List ℕ)) → ReadSoFar said room before middle → IsLine line → length line ≡ room → Consumes middle after line
    → (prefix : List ℕ) × Consumes before after prefix × IsLost prefix
line_too_long said room line before middle after so_far h full taken = (
  flat_map ended so_far.lines ++ line,
  taken_with said room line before middle after so_far taken,
  too_long so_far.lines line so_far.are_lines h (omega (arith, so_far.room_is)),
)

pub whole_header : (n room : ℕ) (blank : List ℕ) (before middle after : Option (List ℕ)) → ReadSoFar (Length n) room before middle → IsBlank blank → length blank < room → Consumes middle after (ended blank)
    → (text : List ℕ) × IsHeader text n × (n ≤ 2 ^ 20) × Consumes before after text
whole_header n room blank before middle after so_far b short taken = (
  header so_far.lines blank,
  record {
    lines = so_far.lines;
    blank = blank;
    are_lines = so_far.are_lines;
    is_blank = b;
    says = so_far.are_said.0;
    whole = refl;
    short = omega (arith, so_far.room_is, length-append (flat_map ended so_far.lines) (ended blank), length-append blank (10 ∷ []));
  },
  so_far.are_said.1,
  taken_with (Length n) room (ended blank) before middle after so_far taken,
)

-- lines that say no length that a body may have
pub say_none : (said : Said) (lines : List (List ℕ)) → AreSaid said lines → ((n : ℕ) → said ≡ Length n → ⊥) → (n : ℕ) → n ≤ 2 ^ 20 → SayLength lines n → ⊥
say_none Nothing lines s none n small says = let one : [] ≡ says.0 ∷ [] = sym s ∙ says.1 in cc
say_none (Length m) lines s none n small says = none m refl
say_none Unreadable lines s none n small says = s [] n small (subst (λ v. SayLength v n) (sym (append-nil lines)) says)

pub no_length : (said : Said) (room : ℕ) (blank : List ℕ) (before middle after : Option (List ℕ)) → ReadSoFar said room before middle → IsBlank blank → ((n : ℕ) → said ≡ Length n → ⊥)
    → Consumes middle after (ended blank) → (prefix : List ℕ) × Consumes before after prefix × IsLost prefix
no_length said room blank before middle after so_far b none taken = (
  header so_far.lines blank,
  taken_with said room (ended blank) before middle after so_far taken,
  unsaid so_far.lines blank so_far.are_lines b (say_none said so_far.lines so_far.are_said none),
)
