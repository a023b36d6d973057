-- The fields of a line, and what is read of them.
use Rattle.std.proofs.Common.{◌≡◌, ℕ, zero, suc, ◌+◌, ◌-◌, ◌<◌, ◌≤◌, List, [], ◌∷◌, ◌++◌, length, length-append, take, drop, cond, Bool, true, false, Option, Some, None, Ok, Err, Result, refl, sym, ap, ◌∙◌, subst, arith, append_assoc}
use Rattle.std.specs.Prelude.{◌==◌, ◌&&◌, slice_index, IfOk, OnErr}
use Rattle.std.specs.List.{list_all}
use Rattle.std.specs.Result.{result_ok}
use Rattle.std.specs.Char.{is_ascii_digit, digit_value}
use Rattle.std.specs.Str.{IsUtf8, all_ascii_digits}
use Rattle.std.specs.Str.Parse.{IsNumeral, AllDigits, digits_value}
use Rattle.std.proofs.Math.Seq.{take-append_seam, drop-append_seam}
use Rattle.std.proofs.lemmas.Bool.Decides.{nat_tests}
use Rattle.std.proofs.lemmas.List.{take_rest}
use Rattle.std.proofs.lemmas.Str.Parse.{tells_digits, tells_all_ascii_digits, digit_from_value}
use Rattle.memchr.specs.Find.{IsFirstByte, is_byte}
use Rattle.qrev_map.specs.Maps.{Origin, IsPlace, IsOrigin, add_to_first, fields_of}
use Rattle.qrev_map.specs.Spans.{path_of, told_origin, IsCut, HasPlace, AreThree, HasSource}
use Rattle.qrev_map.specs.declared.line.Told.{Told}

-- ---- digits

all_digits : (ds : List ℕ) → list_all is_ascii_digit ds ≡ all_ascii_digits ds
all_digits [] = refl
all_digits (d ∷ ds) = ap (λ t. is_ascii_digit d && t) (all_digits ds)

digits_told : (ds : List ℕ) → all_ascii_digits ds ≡ true → AllDigits 10 ds
digits_told [] e = tt
digits_told (d ∷ ds) e = let parts = tells_all_ascii_digits.parts d ds e in tells_digits.more d ds parts.0 (digits_told ds parts.1)

digits_tell : (ds : List ℕ) → AllDigits 10 ds → all_ascii_digits ds ≡ true
digits_tell [] all = refl
digits_tell (d ∷ ds) all = let parts = tells_digits.parts d ds all in tells_all_ascii_digits.more d ds parts.0 (digits_tell ds parts.1)

pub digits_are : (ds : List ℕ) (t : Bool) → t ≡ list_all is_ascii_digit ds → t ≡ true → AllDigits 10 ds
digits_are ds t e is = digits_told ds (sym (e ∙ all_digits ds) ∙ is)

pub digits_pass : (ds : List ℕ) (t : Bool) → t ≡ list_all is_ascii_digit ds → AllDigits 10 ds → t ≡ true
digits_pass ds t e all = e ∙ all_digits ds ∙ digits_tell ds all

pub some_bytes : (bytes : List ℕ) → false ≡ (length bytes == 0) → 0 < length bytes
some_bytes [] e = let never : false ≡ true = e in cc
some_bytes (b ∷ bs) e = omega arith

-- ---- fields

not_true : (t : Bool) → (t ≡ true → ⊥) → t ≡ false
not_true true h = absurd (h refl)
not_true false h = refl

is_tab : (b : ℕ) → (b == 9) ≡ true → b ≡ 9
is_tab b e = grind (arith, nat_tests, e)

no_tab : (b : ℕ) → digit_value b < 10 → (b == 9) ≡ false
no_tab b digit = let range = digit_from_value b digit in not_true (b == 9) (λ e. absurd (omega (arith, is_tab b e, range.0)))

fields_digits : (ds : List ℕ) → AllDigits 10 ds → fields_of ds ≡ ds ∷ []
fields_digits [] all = refl
fields_digits (d ∷ ds) all = rw (no_tab d all.0, fields_digits ds all.1) refl

cut_at : (bytes : List ℕ) (n : ℕ) → n < length bytes → ((k : ℕ) → 0 ≤ k → k < n → (slice_index bytes k == 9) ≡ true → ⊥) → (slice_index bytes n == 9) ≡ true → IsCut bytes (take n bytes) (drop (suc n) bytes)
cut_at [] n lt before here = absurd (omega (arith, lt))
cut_at (b ∷ bs) zero lt before here = record { whole = ap (λ v. v ∷ bs) (is_tab b here); fields = rw here refl }
cut_at (b ∷ bs) (suc n) lt before here =
    let inner = cut_at bs n (omega (arith, lt)) (λ k low high. before (suc k) (omega arith) (omega (arith, high))) here in
    let plain : (b == 9) ≡ false = not_true (b == 9) (before 0 (omega arith) (omega arith)) in record { whole = ap (λ v. b ∷ v) inner.whole; fields = rw (plain, inner.fields) refl }

pub cut_found : (bytes : List ℕ) (n : ℕ) → IsFirstByte (is_byte 9) bytes (Some n) → IsCut bytes (take n bytes) (take (length bytes - (n + 1)) (drop (n + 1) bytes))
cut_found bytes n found =
    let next : suc n ≡ n + 1 = omega arith in
    subst (λ v. IsCut bytes (take n bytes) v) (ap (λ m. drop m bytes) next ∙ sym (take_rest bytes (n + 1))) (cut_at bytes n found.0.high found.0.before found.1)

pub cut_none : (bytes : List ℕ) → IsFirstByte (is_byte 9) bytes None → fields_of bytes ≡ bytes ∷ []
cut_none [] found = refl
cut_none (b ∷ bs) found =
    let plain : (b == 9) ≡ false = not_true (b == 9) (found 0 (omega arith) (omega arith)) in rw (plain, cut_none bs (λ k low high. found (suc k) (omega arith) (omega (arith, high)))) refl

some_joined : (t : Bool) (b : ℕ) (fields : List (List ℕ)) → 0 < length (cond t ([] ∷ fields) (add_to_first b fields))
some_joined true b fields = omega arith
some_joined false b [] = omega arith
some_joined false b (f ∷ fs) = omega arith

fields_some : (bytes : List ℕ) → 0 < length (fields_of bytes)
fields_some [] = omega arith
fields_some (b ∷ bs) = some_joined (b == 9) b (fields_of bs)

one_joined : (t : Bool) (b : ℕ) (bs x : List ℕ) (fields : List (List ℕ)) → 0 < length fields → ((y : List ℕ) → fields ≡ y ∷ [] → y ≡ bs) → cond t ([] ∷ fields) (add_to_first b fields) ≡ x ∷ [] → x ≡ b ∷ bs
one_joined t b bs x [] some inner e = absurd (omega (arith, some))
one_joined true b bs x (f ∷ fs) some inner e = let count : length ([] ∷ f ∷ fs) ≡ length (x ∷ []) = ap (λ v. length v) e in absurd (omega (arith, count))
one_joined false b bs x (f ∷ []) some inner e = let same : b ∷ f ≡ x = cc in sym same ∙ ap (λ v. b ∷ v) (inner f refl)
one_joined false b bs x (f ∷ g ∷ fs) some inner e = let count : length ((b ∷ f) ∷ g ∷ fs) ≡ length (x ∷ []) = ap (λ v. length v) e in absurd (omega (arith, count))

-- a single field is the whole
fields_one : (bytes x : List ℕ) → fields_of bytes ≡ x ∷ [] → x ≡ bytes
fields_one [] x e = let same : [] ≡ x = cc in sym same
fields_one (b ∷ bs) x e = one_joined (b == 9) b bs x (fields_of bs) (fields_some bs) (λ y. fields_one bs y) e

-- ---- the source of a source

pub unreadable : (bytes path after digits last : List ℕ) → IsCut bytes path after → IsCut after digits last → (IsUtf8 path × IsNumeral 10 digits × IsNumeral 10 last → ⊥)
    → (source number column : List ℕ) → AreThree bytes source number column → ⊥
unreadable bytes path after digits last outer inner never source number column three =
    let fields : path ∷ digits ∷ fields_of last ≡ source ∷ number ∷ column ∷ [] = sym (outer.fields ∙ ap (λ v. path ∷ v) inner.fields) ∙ three.fields in
    let first : source ≡ path = cc in
    let second : number ≡ digits = cc in
    let third : fields_of last ≡ column ∷ [] = cc in
    never
    (subst (λ v. IsUtf8 v) first three.is_text, subst (λ v. IsNumeral 10 v) second three.is_number, subst (λ v. IsNumeral 10 v) (fields_one last column third) three.is_column)

pub source_found : {E : Type 0} (bytes path after digits last : List ℕ) (placed : Result Told E) (found : Option Told) → IsCut bytes path after → IsCut after digits last
    → IsUtf8 path × IsNumeral 10 digits × IsNumeral 10 last → IfOk placed (HasPlace path digits) → OnErr placed ((origin : Origin) → IsPlace path digits origin → ⊥) → found ≡ result_ok placed
    → HasSource bytes found
source_found bytes path after digits last (Ok told) found outer inner readable place never e = rw e (record {
  source = path;
  number = digits;
  column = last;
  behind = 9 ∷ after;
  begins = outer.whole;
  are_three = record {
    fields = outer.fields ∙ ap (λ v. path ∷ v) (inner.fields ∙ ap (λ v. digits ∷ v) (fields_digits last readable.2.1));
    is_text = readable.0;
    is_number = readable.1;
    is_column = readable.2;
  };
  told = place;
  untold = tt;
})
source_found bytes path after digits last (Err x) found outer inner readable place never e = rw e (record {
  source = path;
  number = digits;
  column = last;
  behind = 9 ∷ after;
  begins = outer.whole;
  are_three = record {
    fields = outer.fields ∙ ap (λ v. path ∷ v) (inner.fields ∙ ap (λ v. digits ∷ v) (fields_digits last readable.2.1));
    is_text = readable.0;
    is_number = readable.1;
    is_column = readable.2;
  };
  told = tt;
  untold = λ told. never (record { path = path; line = digits_value 10 digits }) (record { same = refl; is_path = (told.0, readable.0); is_number = told.1; value = refl });
})

-- ---- a path and a number

same_path : (line path behind digits : List ℕ) (told : Told) → line ≡ path ++ behind → HasPlace path digits told → path_of line told.path_start told.path_length ≡ path
same_path line path behind digits told whole place =
    ap (λ n. take told.path_length (drop n line)) place.start ∙ ap (λ n. take n line) place.size ∙ ap (λ v. take (length path) v) whole ∙ take-append_seam path behind

place_read : (line path behind digits : List ℕ) (told : Told) → line ≡ path ++ behind → HasPlace path digits told → IsPlace path digits (told_origin line told)
place_read line path behind digits told whole place = record {
  same = same_path line path behind digits told whole place;
  is_path = place.is_place.is_path;
  is_number = place.is_place.is_number;
  value = place.is_place.value;
}

pub place_within : (line path behind digits : List ℕ) (told : Told) → line ≡ path ++ behind → HasPlace path digits told → told.path_start + told.path_length ≤ length line
place_within line path behind digits told whole place = omega (arith, place.start, place.size, ap (λ v. length v) whole, length-append path behind)

-- ---- a line of two fields, or of less

pub one_field : (line : List ℕ) → fields_of line ≡ line ∷ [] → (origin : Origin) → IsOrigin (fields_of line) origin → ⊥
one_field line e origin h = subst (λ v. IsOrigin v origin) e h

two_fields : (line path after : List ℕ) → IsCut line path after → fields_of after ≡ after ∷ [] → fields_of line ≡ path ∷ after ∷ []
two_fields line path after cut whole = cut.fields ∙ ap (λ v. path ∷ v) whole

pub alone_told : {E : Type 0} (line path after : List ℕ) (r : Result Told E) → IsCut line path after → fields_of after ≡ after ∷ [] → IfOk r (HasPlace path after)
    → IfOk r (λ told. IsOrigin (fields_of line) (told_origin line told))
alone_told line path after (Ok told) cut whole place =
    subst (λ v. IsOrigin v (told_origin line told)) (sym (two_fields line path after cut whole)) (place_read line path (9 ∷ after) after told cut.whole place)
alone_told line path after (Err x) cut whole place = tt

pub alone_malformed : {E : Type 0} (line path after : List ℕ) (r : Result Told E) → IsCut line path after → fields_of after ≡ after ∷ [] → OnErr r ((origin : Origin) → IsPlace path after origin → ⊥)
    → OnErr r ((origin : Origin) → IsOrigin (fields_of line) origin → ⊥)
alone_malformed line path after (Ok told) cut whole never = tt
alone_malformed line path after (Err x) cut whole never = λ origin h. never origin (subst (λ v. IsOrigin v origin) (two_fields line path after cut whole) h)

pub alone_within : {E : Type 0} (line path after : List ℕ) (r : Result Told E) → IsCut line path after → IfOk r (HasPlace path after) → IfOk r (λ told. told.path_start + told.path_length ≤ length line)
alone_within line path after (Ok told) cut place = place_within line path (9 ∷ after) after told cut.whole place
alone_within line path after (Err x) cut place = tt

-- ---- a line with the source of a source

pub on_err : {T E : Type 0} (r : Result T E) (P : Type 0) → P → OnErr r P
on_err (Ok x) P p = tt
on_err (Err x) P p = p

outer_none : (path digits : List ℕ) (rest : List (List ℕ)) (origin : Origin) → 0 < length rest → ((o : Origin) → IsPlace path digits o → ⊥) → IsOrigin (path ∷ digits ∷ rest) origin → ⊥
outer_none path digits [] origin some never h = absurd (omega (arith, some))
outer_none path digits (a ∷ []) origin some never h = h
outer_none path digits (a ∷ b ∷ []) origin some never h = h
outer_none path digits (a ∷ b ∷ c ∷ []) origin some never h = never h.outer h.is_outer
outer_none path digits (a ∷ b ∷ c ∷ d ∷ more) origin some never h = h

pub outer_malformed : (line path after digits bytes : List ℕ) → IsCut line path after → IsCut after digits bytes → ((o : Origin) → IsPlace path digits o → ⊥) → (origin : Origin) → IsOrigin (fields_of line) origin → ⊥
outer_malformed line path after digits bytes outer inner never origin h =
    outer_none path digits (fields_of bytes) origin (fields_some bytes) never (subst (λ v. IsOrigin v origin) (outer.fields ∙ ap (λ v. path ∷ v) inner.fields) h)

source_none : (path digits bytes : List ℕ) (rest : List (List ℕ)) (origin : Origin) → fields_of bytes ≡ rest → 0 < length rest → ((s n c : List ℕ) → AreThree bytes s n c → ⊥)
    → IsOrigin (path ∷ digits ∷ rest) origin → ⊥
source_none path digits bytes [] origin e some never h = absurd (omega (arith, some))
source_none path digits bytes (a ∷ []) origin e some never h = h
source_none path digits bytes (a ∷ b ∷ []) origin e some never h = h
source_none path digits bytes (a ∷ b ∷ c ∷ []) origin e some never h = never a b c (record { fields = e; is_text = h.is_text; is_number = h.is_number; is_column = h.is_column })
source_none path digits bytes (a ∷ b ∷ c ∷ d ∷ more) origin e some never h = h

pub source_malformed : (line path after digits bytes : List ℕ) → IsCut line path after → IsCut after digits bytes → ((s n c : List ℕ) → AreThree bytes s n c → ⊥) → (origin : Origin) → IsOrigin (fields_of line) origin → ⊥
source_malformed line path after digits bytes outer inner never origin h =
    source_none path digits bytes (fields_of bytes) origin refl (fields_some bytes) never (subst (λ v. IsOrigin v origin) (outer.fields ∙ ap (λ v. path ∷ v) inner.fields) h)

five_fields : (line path after digits bytes source number column : List ℕ) → IsCut line path after → IsCut after digits bytes → AreThree bytes source number column
    → fields_of line ≡ path ∷ digits ∷ source ∷ number ∷ column ∷ []
five_fields line path after digits bytes source number column outer inner three = outer.fields ∙ ap (λ v. path ∷ v) (inner.fields ∙ ap (λ v. digits ∷ v) three.fields)

before_bytes : (line path after digits bytes : List ℕ) → IsCut line path after → IsCut after digits bytes → line ≡ (path ++ 9 ∷ (digits ++ 9 ∷ [])) ++ bytes
before_bytes line path after digits bytes outer inner = simp append_assoc (outer.whole ∙ ap (λ v. path ++ 9 ∷ v) inner.whole)

drop_front : (line front bytes : List ℕ) → line ≡ front ++ bytes → drop (length line - length bytes) line ≡ bytes
drop_front line front bytes e =
    let count : length line - length bytes ≡ length front = omega (arith, ap (λ v. length v) e, length-append front bytes) in
    ap (λ n. drop n line) count ∙ ap (λ v. drop (length front) v) e ∙ drop-append_seam front bytes

pub with_source_told : (line path after digits bytes : List ℕ) (outer_told told : Told) → IsCut line path after → IsCut after digits bytes → HasPlace path digits outer_told → HasSource bytes (Some told)
    → IsOrigin (fields_of line) (record { path = path_of line (length line - length bytes) told.path_length; line = told.line })
with_source_told line path after digits bytes outer_told told outer inner place has =
    let three = has.are_three in
    let inside = has.told.is_place in
    let front = path ++ 9 ∷ (digits ++ 9 ∷ []) in
    let origin : Origin = record { path = path_of line (length line - length bytes) told.path_length; line = told.line } in
    let same : path_of line (length line - length bytes) told.path_length ≡ has.source =
    ap (λ v. take told.path_length v) (drop_front line front bytes (before_bytes line path after digits bytes outer inner)) ∙ ap (λ n. take n bytes) has.told.size
    ∙ ap (λ v. take (length has.source) v) has.begins ∙ take-append_seam has.source has.behind in
    subst (λ v. IsOrigin v origin) (sym (five_fields line path after digits bytes has.source has.number has.column outer inner three)) (record {
      outer = record { path = path; line = outer_told.line };
      is_outer = place.is_place;
      is_text = three.is_text;
      is_number = three.is_number;
      is_column = three.is_column;
      told = λ t. record { same = same; is_path = inside.is_path; is_number = inside.is_number; value = inside.value };
      untold = λ never. absurd (never (inside.is_path.0, inside.is_number));
    })

pub with_source_within : (line path after digits bytes : List ℕ) (told : Told) → IsCut line path after → IsCut after digits bytes → HasSource bytes (Some told)
    → length line - length bytes + told.path_length ≤ length line
with_source_within line path after digits bytes told outer inner has =
    let whole = before_bytes line path after digits bytes outer inner in
    omega (arith, ap (λ v. length v) whole, length-append (path ++ 9 ∷ (digits ++ 9 ∷ [])) bytes, has.told.size, ap (λ v. length v) has.begins, length-append has.source has.behind)

pub without_source_told : (line path after digits bytes : List ℕ) (told : Told) → IsCut line path after → IsCut after digits bytes → HasPlace path digits told → HasSource bytes None
    → IsOrigin (fields_of line) (told_origin line told)
without_source_told line path after digits bytes told outer inner place has =
    let three = has.are_three in
    let meant : Origin = record { path = path; line = told.line } in
    subst (λ v. IsOrigin v (told_origin line told)) (sym (five_fields line path after digits bytes has.source has.number has.column outer inner three)) (record {
      outer = meant;
      is_outer = place.is_place;
      is_text = three.is_text;
      is_number = three.is_number;
      is_column = three.is_column;
      told = λ t. absurd (has.untold t);
      untold = λ never. ap (λ p. record { path = p; line = told.line }) (same_path line path (9 ∷ after) digits told outer.whole place);
    })
