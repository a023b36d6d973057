-- The mappings of a source that were gathered so far.
use Rattle.std.proofs.Common.{◌≡◌, ℕ, zero, suc, ◌+◌, ◌<◌, ◌≤◌, List, [], ◌∷◌, ◌++◌, length, drop, get_or, cond, Option, Some, None, true, false, refl, sym, ap, ◌∙◌, subst, arith, append_assoc}
use Rattle.std.specs.Str.{bytes_eq}
use Rattle.std.proofs.lemmas.List.{append-nil, drop_all}
use Rattle.qrev_map.specs.Mappings.{mappings_from}
use Rattle.qrev_map.specs.Spans.{path_of, origins_in}
use Rattle.qrev_map.specs.declared.file.Mapping.{Mapping}
use Rattle.qrev_map.specs.declared.map.OriginSpan.{OriginSpan}

-- of the lines before a place these mappings were gathered
pub record IsGathered (text path : List ℕ) (spans : List (Option OriginSpan)) (k : ℕ) (mappings : List Mapping) : Type 0 where
  pub all : mappings_from 1 path (origins_in text spans) ≡ mappings ++ mappings_from (suc k) path (origins_in text (drop k spans))

pub gathered_nothing : (text path : List ℕ) (spans : List (Option OriginSpan)) → IsGathered text path spans 0 []
gathered_nothing text path spans = record { all = refl }

drop_here : (xs : List (Option OriginSpan)) (k : ℕ) (x : Option OriginSpan) → k < length xs → get_or xs k None ≡ x → drop k xs ≡ x ∷ drop (suc k) xs
drop_here [] k x lt e = absurd (omega (arith, lt))
drop_here (y ∷ ys) zero x lt e = ap (λ v. v ∷ ys) e
drop_here (y ∷ ys) (suc k) x lt e = drop_here ys k x (omega (arith, lt)) e

at_next : (text path : List ℕ) (spans : List (Option OriginSpan)) (k : ℕ) (mappings : List Mapping) → IsGathered text path spans (suc k) mappings → IsGathered text path spans (k + 1) mappings
at_next text path spans k mappings h = let next : suc k ≡ k + 1 = omega arith in subst (λ n. IsGathered text path spans n mappings) next h

-- the next line tells nothing
pub gathered_none : (text path : List ℕ) (spans : List (Option OriginSpan)) (k : ℕ) (mappings : List Mapping) → IsGathered text path spans k mappings → k < length spans → get_or spans k None ≡ None → IsGathered text path spans (k + 1) mappings
gathered_none text path spans k mappings h lt e =
    at_next text path spans k mappings (record { all = h.all ∙ ap (λ v. mappings ++ mappings_from (suc k) path (origins_in text v)) (drop_here spans k None lt e) })

-- it tells of another source
pub gathered_other : (text path : List ℕ) (spans : List (Option OriginSpan)) (k : ℕ) (mappings : List Mapping) (span : OriginSpan) → IsGathered text path spans k mappings → k < length spans → get_or spans k None ≡ Some span
    → bytes_eq (path_of text span.start span.length) path ≡ false → IsGathered text path spans (k + 1) mappings
gathered_other text path spans k mappings span h lt e other =
    let rest = drop (suc k) spans in
    let mapping : Mapping = record { line = span.line; text_line = suc k } in
    let later = mappings_from (suc (suc k)) path (origins_in text rest) in
    at_next text path spans k mappings (record { all = h.all ∙ ap (λ v. mappings ++ mappings_from (suc k) path (origins_in text v)) (drop_here spans k (Some span) lt e) ∙ ap (λ t. mappings ++ cond t (mapping ∷ later) later) other })

-- it tells of this source
pub gathered_more : (text path : List ℕ) (spans : List (Option OriginSpan)) (k : ℕ) (mappings more : List Mapping) (span : OriginSpan) → IsGathered text path spans k mappings → k < length spans → get_or spans k None ≡ Some span
    → bytes_eq (path_of text span.start span.length) path ≡ true → more ≡ mappings ++ record { line = span.line; text_line = k + 1 } ∷ [] → IsGathered text path spans (k + 1) more
gathered_more text path spans k mappings more span h lt e same added =
    let rest = drop (suc k) spans in
    let mapping : Mapping = record { line = span.line; text_line = suc k } in
    let next : suc k ≡ k + 1 = omega arith in
    let later = mappings_from (suc (suc k)) path (origins_in text rest) in
    let one : more ≡ mappings ++ mapping ∷ [] = added ∙ ap (λ n. mappings ++ record { line = span.line; text_line = n } ∷ []) (sym next) in
    let onto : more ++ later ≡ mappings ++ (mapping ∷ later) = ap (λ v. v ++ later) one ∙ append_assoc mappings (mapping ∷ []) later in
    at_next text path spans k more (record {
      all = h.all ∙ ap (λ v. mappings ++ mappings_from (suc k) path (origins_in text v)) (drop_here spans k (Some span) lt e) ∙ ap (λ t. mappings ++ cond t (mapping ∷ later) later) same ∙ sym onto;
    })

pub gathered_all : (text path : List ℕ) (spans : List (Option OriginSpan)) (k : ℕ) (mappings : List Mapping) → IsGathered text path spans k mappings → length spans ≤ k → mappings_from 1 path (origins_in text spans) ≡ mappings
gathered_all text path spans k mappings h le = h.all ∙ ap (λ v. mappings ++ mappings_from (suc k) path (origins_in text v)) (drop_all k spans le) ∙ append-nil mappings
