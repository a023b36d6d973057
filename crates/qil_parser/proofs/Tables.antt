-- A loop over a table of words answers at the first row that has the text.
use Rattle.std.proofs.Common.{◌≡◌, ℕ, ◌+◌, ◌<◌, Bool, true, List, ◌∷◌, map, drop, get_or, length, Some, refl, sym, ◌∙◌}
use Rattle.std.proofs.lemmas.List.{at_drop_more}
use Rattle.std.specs.Str.{bytes_eq}
use Rattle.qil_parser.specs.declared.terminal.Terminal.{Terminal}
use Rattle.qil_parser.specs.Words.{next_to, is_one_of}

pub row_found : {T : Type 0} (row : T → List ℕ × Terminal) (rows : List T) (i : ℕ) (d : T) (text : List ℕ) → i < length rows → bytes_eq text (row (get_or rows i d)).0 ≡ true
    → next_to (map row (drop i rows)) text ≡ next_to (map row rows) text → Some (row (get_or rows i d)).1 ≡ next_to (map row rows) text
row_found row rows i d text l same so_far =
    let here : next_to (map row (get_or rows i d ∷ drop (i + 1) rows)) text ≡ Some (row (get_or rows i d)).1 = rw same refl in
    sym here ∙ sym (at_drop_more (λ xs. next_to (map row xs) text) rows i d l) ∙ so_far

pub word_found : {T : Type 0} (word : T → List ℕ) (words : List T) (i : ℕ) (d : T) (text : List ℕ) → i < length words → bytes_eq text (word (get_or words i d)) ≡ true
    → is_one_of (map word (drop i words)) text ≡ is_one_of (map word words) text → true ≡ is_one_of (map word words) text
word_found word words i d text l same so_far =
    let here : is_one_of (map word (get_or words i d ∷ drop (i + 1) words)) text ≡ true = rw same refl in
    sym here ∙ sym (at_drop_more (λ xs. is_one_of (map word xs) text) words i d l) ∙ so_far
