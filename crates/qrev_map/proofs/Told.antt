-- The lines of a map that were read so far, and what they tell.
use Rattle.std.proofs.Common.{◌≡◌, ◌≢◌, ℕ, zero, suc, ◌+◌, ◌-◌, ◌<◌, ◌≤◌, List, [], ◌∷◌, ◌++◌, length, length-append, take, drop, Option, Some, None, true, refl, sym, ap, ◌∙◌, subst, arith, length-drop, Ok, Err, Result}
use Rattle.std.specs.Prelude.{◌==◌, slice_index, slice_get, IfErr, IsErrAnd}
use Rattle.std.specs.Option.{option_flatten, option_and_then, option_map}
use Rattle.std.proofs.lemmas.Option.{slice_get-map}
use Rattle.std.proofs.Math.Seq.{take-add}
use Rattle.std.proofs.lemmas.Bool.Decides.{nat_tests}
use Rattle.std.proofs.lemmas.List.{take_all, take-append-drop, take_rest, drop-take, drop-drop}
use Rattle.memchr.specs.Find.{IsFirstByte, is_byte}
use Rattle.qil_streams.specs.Reader.{IsLine}
use Rattle.qil_streams.specs.Script.{lines_of}
use Rattle.qil_streams.proofs.ScriptLemmas.{WholeLines, WholeLines-nil, WholeLines-line, WholeLines-end, WholeLines-last, lines_of-line, lines_of-last}
use Rattle.qrev_map.specs.Maps.{Origin, source_at, IsOrigin, Tells, Tell, IsMalformed, fields_of}
use Rattle.qrev_map.specs.Spans.{path_of, told_origin, origin_in, origins_in, AddsLine, LineRefused, MapRefused}
use Rattle.qrev_map.specs.declared.line.Told.{Told}
use Rattle.qrev_map.specs.declared.map.OriginSpan.{OriginSpan}
use Rattle.qrev_map.specs.declared.map.MapError.{MapError}
use Rattle.qrev_map.specs.declared.map.MapError.TheVariants.{TooLong, Malformed, OutOfMemory}

pub Tell_more : (lines : List (List ℕ)) (origins : List (Option Origin)) (line : List ℕ) (origin : Option Origin) → Tell lines origins → Tells line origin → Tell (lines ++ line ∷ []) (origins ++ origin ∷ [])
Tell_more [] [] line origin told tells = (tells, tt)
Tell_more [] (o ∷ os) line origin told tells = absurd told
Tell_more (l ∷ ls) [] line origin told tells = absurd told
Tell_more (l ∷ ls) (o ∷ os) line origin told tells = (told.0, Tell_more ls os line origin told.1 tells)

pub Tell_count : (lines : List (List ℕ)) (origins : List (Option Origin)) → Tell lines origins → length lines ≡ length origins
Tell_count [] [] told = refl
Tell_count [] (o ∷ os) told = absurd told
Tell_count (l ∷ ls) [] told = absurd told
Tell_count (l ∷ ls) (o ∷ os) told = ap (λ n. suc n) (Tell_count ls os told.1)

count_spans : (text : List ℕ) (spans : List (Option OriginSpan)) → length (origins_in text spans) ≡ length spans
count_spans text [] = refl
count_spans text (s ∷ ss) = ap (λ n. suc n) (count_spans text ss)

more_spans : (text : List ℕ) (spans : List (Option OriginSpan)) (span : Option OriginSpan) → origins_in text (spans ++ span ∷ []) ≡ origins_in text spans ++ origin_in text span ∷ []
more_spans text [] span = refl
more_spans text (s ∷ ss) span = ap (λ v. origin_in text s ∷ v) (more_spans text ss span)

-- ---- lines of a text from a place on

not_newline : (x : ℕ) → ((x == 10) ≡ true → ⊥) → x ≢ 10
not_newline x h e = h (grind (arith, nat_tests, e))

pub line_before : (hay : List ℕ) (n : ℕ) → ((k : ℕ) → 0 ≤ k → k < n → (slice_index hay k == 10) ≡ true → ⊥) → n ≤ length hay → IsLine (take n hay)
line_before hay zero h le = tt
line_before [] (suc n) h le = absurd (omega (arith, le))
line_before (x ∷ xs) (suc n) h le =
    (not_newline x (h 0 (omega arith) (omega arith)), line_before xs n (λ k low high. h (suc k) (omega arith) (omega (arith, high))) (omega (arith, le)))

is_newline : (x : ℕ) → (x == 10) ≡ true → x ≡ 10
is_newline x e = grind (arith, nat_tests, e)

parts_at_suc : (hay : List ℕ) (n : ℕ) → n < length hay → slice_index hay n ≡ 10 → hay ≡ take n hay ++ 10 ∷ drop (suc n) hay
parts_at_suc [] n lt e = absurd (omega (arith, lt))
parts_at_suc (x ∷ xs) zero lt e = ap (λ v. v ∷ xs) e
parts_at_suc (x ∷ xs) (suc n) lt e = ap (λ v. x ∷ v) (parts_at_suc xs n (omega (arith, lt)) e)

parts_at : (hay : List ℕ) (n : ℕ) → n < length hay → slice_index hay n ≡ 10 → hay ≡ take n hay ++ 10 ∷ drop (n + 1) hay
parts_at hay n lt e = let next : suc n ≡ n + 1 = omega arith in parts_at_suc hay n lt e ∙ ap (λ m. take n hay ++ 10 ∷ drop m hay) next

line_end_suc : (hay : List ℕ) (n : ℕ) → n < length hay → slice_index hay n ≡ 10 → take (suc n) hay ≡ take n hay ++ 10 ∷ []
line_end_suc [] n lt e = absurd (omega (arith, lt))
line_end_suc (x ∷ xs) zero lt e = ap (λ v. v ∷ []) e
line_end_suc (x ∷ xs) (suc n) lt e = ap (λ v. x ∷ v) (line_end_suc xs n (omega (arith, lt)) e)

line_end : (hay : List ℕ) (n : ℕ) → n < length hay → slice_index hay n ≡ 10 → take (n + 1) hay ≡ take n hay ++ 10 ∷ []
line_end hay n lt e = let next : n + 1 ≡ suc n = omega arith in ap (λ m. take m hay) next ∙ line_end_suc hay n lt e

-- ---- a loop over the lines

-- up to a place a text has these lines, and what they tell was kept
pub record IsRead (text : List ℕ) (start : ℕ) (spans : List (Option OriginSpan)) : Type 0 where
  pub done : List (List ℕ)
  pub cut : WholeLines (take start text) done
  pub told : Tell done (origins_in text spans)
  pub within : start ≤ length text
  pub few : length spans ≤ start

pub read_nothing : (text : List ℕ) → IsRead text 0 []
read_nothing text = record { done = []; cut = WholeLines-nil; told = tt; within = omega arith; few = omega arith }

-- a line that byte 10 ends
pub read_line : (text : List ℕ) (start n : ℕ) (spans more : List (Option OriginSpan)) → IsRead text start spans → IsFirstByte (is_byte 10) (drop start text) (Some n) → AddsLine text start n spans more → IsRead text (start + (n + 1)) more
read_line text start n spans more r found adds =
    let hay = drop start text in
    let line = take n hay in
    let long : n < length hay = found.0.high in
    let is_line : IsLine line = line_before hay n found.0.before (omega (arith, long)) in
    let here : take (start + (n + 1)) text ≡ take start text ++ (line ++ 10 ∷ []) = take-add start (n + 1) text ∙ ap (λ v. take start text ++ v) (line_end hay n long (is_newline _ found.1)) in
    let size : length hay ≡ length text - start = length-drop start text in record {
      done = r.done ++ line ∷ [];
      cut = subst (λ v. WholeLines v (r.done ++ line ∷ [])) (sym here) (WholeLines-line (take start text) r.done line r.cut is_line);
      told = subst (λ v. Tell (r.done ++ line ∷ []) v) (sym (ap (λ v. origins_in text v) adds.added ∙ more_spans text spans adds.span))
          (Tell_more r.done (origins_in text spans) line (origin_in text adds.span) r.told adds.tells);
      within = omega (arith, long, size, r.within);
      few = omega (arith, r.few, ap (λ v. length v) adds.added, length-append spans (adds.span ∷ []));
    }

-- the text ends with a line that byte 10 ended
pub read_whole : (text : List ℕ) (start : ℕ) (spans : List (Option OriginSpan)) → IsRead text start spans → length text ≤ start → Tell (lines_of text) (origins_in text spans)
read_whole text start spans r end =
    subst (λ v. Tell v (origins_in text spans)) (sym (ap (λ v. lines_of v) (sym (take_all start text end)) ∙ WholeLines-end (take start text) r.done r.cut)) r.told

-- or with one that nothing ends
pub read_last : (text : List ℕ) (start n : ℕ) (spans more : List (Option OriginSpan)) → IsRead text start spans → IsFirstByte (is_byte 10) (drop start text) None → start < length text → n ≡ length text - start
    → AddsLine text start n spans more → Tell (lines_of text) (origins_in text more)
read_last text start n spans more r found some count adds =
    let hay = drop start text in
    let size : length hay ≡ length text - start = length-drop start text in
    let line : take n hay ≡ hay = take_all n hay (omega (arith, size, count)) in
    let is_line : IsLine hay = subst IsLine line (line_before hay n (λ k low high. found k low (omega (arith, high, size, count))) (omega (arith, size, count))) in
    let whole : lines_of text ≡ r.done ++ hay ∷ [] = ap (λ v. lines_of v) (sym (take-append-drop start text)) ∙ WholeLines-last (take start text) r.done hay r.cut is_line (omega (arith, size, some)) in
    let tells : Tells hay (origin_in text adds.span) = subst (λ v. Tells v (origin_in text adds.span)) line adds.tells in
    subst (λ v. Tell v (origins_in text more)) (sym whole)
    (subst (λ v. Tell (r.done ++ hay ∷ []) v) (sym (ap (λ v. origins_in text v) adds.added ∙ more_spans text spans adds.span))
    (Tell_more r.done (origins_in text spans) hay (origin_in text adds.span) r.told tells))

-- the rest of a text as a search takes it
pub rest_found : (text : List ℕ) (start : ℕ) (found : Option ℕ) → IsFirstByte (is_byte 10) (take (length text - start) (drop start text)) found → IsFirstByte (is_byte 10) (drop start text) found
rest_found text start found first = subst (λ v. IsFirstByte (is_byte 10) v found) (take_rest text start) first

pub line_shortens : (text : List ℕ) (start n : ℕ) → IsFirstByte (is_byte 10) (drop start text) (Some n) → length text - (start + (n + 1)) < length text - start
line_shortens text start n found = omega (arith, found.0.high, length-drop start text)

pub last_few : (text : List ℕ) (start n : ℕ) (spans more : List (Option OriginSpan)) → IsRead text start spans → start < length text → AddsLine text start n spans more → length more ≤ length text
last_few text start n spans more r some adds = omega (arith, r.few, some, ap (λ v. length v) adds.added, length-append spans (adds.span ∷ []))

-- ---- what a line tells, kept by its place in the text

take_less : (xs : List ℕ) (a b : ℕ) → a ≤ b → take a (take b xs) ≡ take a xs
take_less xs zero b le = refl
take_less xs (suc a) zero le = absurd (omega (arith, le))
take_less [] (suc a) (suc b) le = refl
take_less (x ∷ xs) (suc a) (suc b) le = ap (λ v. x ∷ v) (take_less xs a b (omega (arith, le)))

take_most : (n : ℕ) (xs : List ℕ) → length (take n xs) ≤ n
take_most zero xs = omega arith
take_most (suc n) [] = omega arith
take_most (suc n) (x ∷ xs) = omega (arith, take_most n xs)

part_within : (xs : List ℕ) (n s size : ℕ) → s + size ≤ n → path_of (take n xs) s size ≡ path_of xs s size
part_within xs n s size le =
    let cut : s + (n - s) ≡ n = omega (arith, le) in
    ap (λ m. path_of (take m xs) s size) (sym cut) ∙ ap (λ v. take size v) (drop-take s (n - s) xs) ∙ take_less (drop s xs) size (n - s) (omega (arith, le))

pub line_added : (text : List ℕ) (start n m : ℕ) (told : Told) (old new : List (Option OriginSpan)) → m ≡ n → told.path_start + told.path_length ≤ length (take m (drop start text))
    → Tells (take m (drop start text)) (Some (told_origin (take m (drop start text)) told))
    → new ≡ old ++ Some (record { start = start + told.path_start; length = told.path_length; line = told.line }) ∷ [] → AddsLine text start n old new
line_added text start n m told old new same within tells added =
    let path : path_of (take m (drop start text)) told.path_start told.path_length ≡ path_of text (start + told.path_start) told.path_length =
    part_within (drop start text) m told.path_start told.path_length (omega (arith, within, take_most m (drop start text))) ∙ ap (λ v. take told.path_length v) (drop-drop told.path_start start text) in record {
      span = Some (record { start = start + told.path_start; length = told.path_length; line = told.line });
      added = added;
      tells = subst (λ k. IsOrigin (fields_of (take k (drop start text))) (record { path = path_of text (start + told.path_start) told.path_length; line = told.line })) same
          (subst (λ p. IsOrigin (fields_of (take m (drop start text))) (record { path = p; line = told.line })) path tells);
    }

-- ---- lines that tell nothing

pub err_from : {T E : Type 0} (r : Result T E) (Q P : E → Type 0) → IsErrAnd r Q → ((e : E) → Q e → P e) → IfErr r P
err_from (Ok x) Q P q h = absurd q
err_from (Err e) Q P q h = h e q

-- lines after those that were read
after_done : (text : List ℕ) (start : ℕ) (spans : List (Option OriginSpan)) (r : IsRead text start spans) → lines_of text ≡ r.done ++ lines_of (drop start text)
after_done text start spans r = ap (λ v. lines_of v) (sym (take-append-drop start text)) ∙ r.cut.lines (drop start text)

pub refused_line : (text : List ℕ) (start n : ℕ) (spans : List (Option OriginSpan)) (e : MapError) → IsRead text start spans → IsFirstByte (is_byte 10) (drop start text) (Some n)
    → LineRefused (path_of text start n) (length spans) e → MapRefused text e
refused_line text start n spans TooLong r found refused = absurd refused
refused_line text start n spans (Malformed before) r found refused =
    let hay = drop start text in
    let long : n < length hay = found.0.high in
    let is_line : IsLine (take n hay) = line_before hay n found.0.before (omega (arith, long)) in
    let parts : hay ≡ take n hay ++ 10 ∷ drop (n + 1) hay = parts_at hay n long (is_newline _ found.1) in record {
      done = r.done;
      origins = origins_in text spans;
      line = take n hay;
      more = lines_of (drop (n + 1) hay);
      whole = after_done text start spans r ∙ ap (λ v. r.done ++ v) (ap (λ v. lines_of v) parts ∙ lines_of-line (take n hay) (drop (n + 1) hay) is_line);
      told = r.told;
      counted = Tell_count r.done (origins_in text spans) r.told ∙ count_spans text spans ∙ sym refused.0;
      malformed = refused.1;
    }
refused_line text start n spans OutOfMemory r found refused = tt

pub refused_last : (text : List ℕ) (start n : ℕ) (spans : List (Option OriginSpan)) (e : MapError) → IsRead text start spans → IsFirstByte (is_byte 10) (drop start text) None → start < length text → n ≡ length text - start
    → LineRefused (path_of text start n) (length spans) e → MapRefused text e
refused_last text start n spans TooLong r found some count refused = absurd refused
refused_last text start n spans (Malformed before) r found some count refused =
    let hay = drop start text in
    let size : length hay ≡ length text - start = length-drop start text in
    let line : take n hay ≡ hay = take_all n hay (omega (arith, size, count)) in
    let is_line : IsLine hay = subst IsLine line (line_before hay n (λ k low high. found k low (omega (arith, high, size, count))) (omega (arith, size, count))) in record {
      done = r.done;
      origins = origins_in text spans;
      line = hay;
      more = [];
      whole = after_done text start spans r ∙ ap (λ v. r.done ++ v) (lines_of-last hay is_line (omega (arith, size, some)));
      told = r.told;
      counted = Tell_count r.done (origins_in text spans) r.told ∙ count_spans text spans ∙ sym refused.0;
      malformed = subst IsMalformed line refused.1;
    }
refused_last text start n spans OutOfMemory r found some count refused = tt

-- ---- what is found

origin_flat : (text : List ℕ) (found : Option (Option OriginSpan)) → option_and_then (λ origin. origin) (option_map (origin_in text) found) ≡ origin_in text (option_flatten found)
origin_flat text None = refl
origin_flat text (Some span) = refl

pub source_read : (text : List ℕ) (spans : List (Option OriginSpan)) (line : ℕ) (span : Option OriginSpan) → 1 ≤ line → span ≡ option_flatten (slice_get spans (line - 1)) → origin_in text span ≡ source_at (origins_in text spans) line
source_read text spans zero span some e = absurd (omega (arith, some))
source_read text spans (suc k) span some e =
    let before : suc k - 1 ≡ k = omega arith in
    sym (ap (λ r. option_and_then (λ origin. origin) r) (slice_get-map (origin_in text) spans k) ∙ origin_flat text (slice_get spans k) ∙ ap (λ r. origin_in text r) (sym (e ∙ ap (λ m. option_flatten (slice_get spans m)) before)))
