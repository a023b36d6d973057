-- What is noted of the data at the start of a run, one byte after the other.
use Rattle.std.proofs.Common.{◌≡◌, ◌∙◌, sym, ap, subst, refl, ℕ, zero, suc, ◌+◌, ◌-◌, ◌<◌, ◌≤◌, Bool, true, false, ◌||◌, List, [], ◌∷◌, ◌++◌, length, map, drop, slice_get, unwrap_or, Option, Some, None, length-append, append_assoc, arith, inl, inr}
use Rattle.std.specs.Prelude.{replicate, flat_map, ◌==◌, not, nat_lt, if◌then◌else◌}
use Rattle.std.specs.List.{sum_by}
use Rattle.std.proofs.lemmas.Bool.{cases_lt, ltb-false}
use Rattle.std.proofs.lemmas.Bool.Decides.{nat_tests}
use Rattle.std.proofs.lemmas.List.{length-replicate, length-map, append-nil, drop_all}
use Rattle.std.proofs.lemmas.List.Sums.{sum_by-cons}
use Rattle.qil_tree.specs.declared.ops.Width.{Width}
use Rattle.qil_tree.specs.declared.tree.Item.{Item}
use Rattle.qil_tree.specs.declared.tree.Item.TheVariants as items
use Rattle.qil_tree.specs.declared.tree.Field.{Field}
use Rattle.qil_tree.specs.declared.tree.Field.TheVariants as fields
use Rattle.qil_tree.specs.declared.tree.Data.{Data}
use Rattle.qil_tree.specs.declared.tree.Program.{Program}
use Rattle.qil_memory.specs.qil_layout.Layout.{data_base, data_limit, width_bytes, item_size, is_alignment, align_of, size_of, start_of, end_of, object_fault, fault_from}
use Rattle.qil_layout.proofs.BytesLemmas.{rounded_low, some_alignment, neither, unreported}
use Rattle.qil_shadow.specs.declared.origin.ByteOrigin.{ByteOrigin}
use Rattle.qil_shadow.specs.declared.origin.ByteOrigin.TheVariants as bytes
use Rattle.qil_semantics.specs.State.{Name}
use Rattle.qil_shadow.specs.declared.origin.ObjectId.{ObjectId}
use Rattle.qil_shadow.specs.declared.origin.Origin.TheVariants as origins
use Rattle.qil_shadow.specs.Bytes.{ByteOrigins, laid_origins, stored_origins}
use Rattle.qil_shadow.specs.Objects.{object_named}
use Rattle.qil_shadow.specs.Spots.{HasSpot}
use Rattle.qil_shadow.specs.Shadow.{all_numbers, item_origins, field_origins}
use Rattle.qil_shadow.specs.Starting.{HasNoted}
use Rattle.qil_shadow.proofs.MemoryLemmas.{laid_before, laid_from, laid_past}
use Rattle.qil_shadow.proofs.StoreLemmas.{length-bytes_from}

-- ---- bytes behind others

get_left : {X : Type 0} (xs ys : List X) (i : ℕ) → i < length xs → slice_get (xs ++ ys) i ≡ slice_get xs i
get_left [] ys i below = absurd (omega (arith, below))
get_left (x ∷ xs) ys zero below = refl
get_left (x ∷ xs) ys (suc i) below = get_left xs ys i (omega (arith, below))

get_right : {X : Type 0} (xs ys : List X) (i k : ℕ) → i ≡ length xs + k → slice_get (xs ++ ys) i ≡ slice_get ys k
get_right [] ys i k e = ap (slice_get ys) (omega (arith, e))
get_right (x ∷ xs) ys zero k e = absurd (omega (arith, e))
get_right (x ∷ xs) ys (suc i) k e = get_right xs ys i k (omega (arith, e))

after_at : (f : ByteOrigins) (a b : ℕ) (xs ys : List ByteOrigin) (j : ℕ) → b ≡ a + length xs → laid_origins (laid_origins f a xs) b ys j ≡ laid_origins f a (xs ++ ys) j
after_at f a b xs ys j e = elim (cases_lt j b) [
  | inl below ↦ elim (cases_lt j a) [
    | inl low ↦ laid_before (laid_origins f a xs) b ys j below ∙ laid_before f a xs j low ∙ sym (laid_before f a (xs ++ ys) j low)
    | inr high ↦
        laid_before (laid_origins f a xs) b ys j below
        ∙ laid_from f a xs j (j - a) (omega (arith, high))
        ∙ ap (λ o. unwrap_or o (f j)) (sym (get_left xs ys (j - a) (omega (arith, e, below, high))))
        ∙ sym (laid_from f a (xs ++ ys) j (j - a) (omega (arith, high)))
  ]
  | inr from ↦
      laid_from (laid_origins f a xs) b ys j (j - b) (omega (arith, from))
      ∙ ap (unwrap_or (slice_get ys (j - b))) (laid_past f a xs j (omega (arith, e, from)))
      ∙ ap (λ o. unwrap_or o (f j)) (sym (get_right xs ys (j - a) (j - b) (omega (arith, e, from))))
      ∙ sym (laid_from f a (xs ++ ys) j (j - a) (omega (arith, e, from)))
]

pub laid_after : (f : ByteOrigins) (a b : ℕ) (xs ys : List ByteOrigin) → b ≡ a + length xs → laid_origins (laid_origins f a xs) b ys ≡ laid_origins f a (xs ++ ys)
laid_after f a b xs ys e = λ path j. after_at f a b xs ys j e path

number_at : (n k : ℕ) (b : ByteOrigin) → b ≡ bytes.Number → unwrap_or (slice_get (replicate n bytes.Number) k) b ≡ b
number_at zero k b e = refl
number_at (suc n) zero b e = sym e
number_at (suc n) (suc k) b e = number_at n k b e

-- numbers laid over numbers
numbers_at : (f : ByteOrigins) (a n j : ℕ) → ((k : ℕ) → a ≤ k → f k ≡ bytes.Number) → laid_origins f a (replicate n bytes.Number) j ≡ f j
numbers_at f a n j are = elim (cases_lt j a) [
  | inl low ↦ laid_before f a (replicate n bytes.Number) j low
  | inr high ↦ laid_from f a (replicate n bytes.Number) j (j - a) (omega (arith, high)) ∙ number_at n (j - a) (f j) (are j high)
]

pub numbers_laid : (f : ByteOrigins) (a n : ℕ) → ((k : ℕ) → a ≤ k → f k ≡ bytes.Number) → laid_origins f a (replicate n bytes.Number) ≡ f
numbers_laid f a n are = λ path j. numbers_at f a n j are path

-- ---- what is noted

pub noted_stored : (bs xs : List ByteOrigin) (at next : ℕ) (m now : ByteOrigins) → next ≡ at + length xs → now ≡ laid_origins m at xs → HasNoted bs at m → HasNoted (bs ++ xs) next now
noted_stored bs xs at next m now e is noted = record {
  up_to = omega (arith, e, noted.up_to, length-append bs xs);
  bytes_are = is ∙ (λ i. laid_origins (noted.bytes_are i) at xs) ∙ laid_after all_numbers data_base at bs xs (sym noted.up_to);
}

pub noted_numbers : (bs : List ByteOrigin) (at next n : ℕ) (m : ByteOrigins) → next ≡ at + n → HasNoted bs at m → HasNoted (bs ++ replicate n bytes.Number) next m
noted_numbers bs at next n m e noted =
    let long = length-replicate n bytes.Number in
    noted_stored bs (replicate n bytes.Number) at next m m (omega (arith, e, long))
    (sym (numbers_laid m at n (λ k high. (λ i. noted.bytes_are i k) ∙ laid_past all_numbers data_base bs k (omega (arith, high, noted.up_to))))) noted

pub of_numbers : (text : List ℕ) → replicate (length text) bytes.Number ≡ map (λ (b : ℕ). bytes.Number) text
of_numbers [] = refl
of_numbers (b ∷ text) = ap (λ bs. bytes.Number ∷ bs) (of_numbers text)

pub noted_text : (bs : List ByteOrigin) (text : List ℕ) (at next n : ℕ) (m : ByteOrigins) → next ≡ at + n → n ≡ length text → HasNoted bs at m → HasNoted (bs ++ map (λ (b : ℕ). bytes.Number) text) next m
noted_text bs text at next n m e long noted = subst (λ xs. HasNoted (bs ++ xs) next m) (of_numbers text) (noted_numbers bs at next (length text) m (omega (arith, e, long)) noted)

-- some are noted, and what is left makes all
pub record HasRest (all rest : List ByteOrigin) (at : ℕ) (m : ByteOrigins) : Type 0 where
  pub so_far : List ByteOrigin
  pub noted : HasNoted so_far at m
  pub all_are : so_far ++ rest ≡ all

pub rest_first : (bs rest : List ByteOrigin) (at : ℕ) (m : ByteOrigins) → HasNoted bs at m → HasRest (bs ++ rest) rest at m
rest_first bs rest at m noted = record { so_far = bs; noted = noted; all_are = refl }

pub rest_step : (all rest xs more : List ByteOrigin) (at next : ℕ) (m now : ByteOrigins) → rest ≡ xs ++ more → ((bs : List ByteOrigin) → HasNoted bs at m → HasNoted (bs ++ xs) next now)
    → HasRest all rest at m → HasRest all more next now
rest_step all rest xs more at next m now e step r = record {
  so_far = r.so_far ++ xs;
  noted = step r.so_far r.noted;
  all_are = append_assoc r.so_far xs more ∙ ap (λ ys. r.so_far ++ ys) (sym e) ∙ r.all_are;
}

pub rest_done : (all rest : List ByteOrigin) (at : ℕ) (m : ByteOrigins) → rest ≡ [] → HasRest all rest at m → HasNoted all at m
rest_done all rest at m e r = subst (λ bs. HasNoted bs at m) (sym (append-nil r.so_far) ∙ ap (λ ys. r.so_far ++ ys) (sym e) ∙ r.all_are) r.noted

-- ---- an object without a fault

one_of : (b c : Bool) (P : Type 0) → (b || c) ≡ true → (b ≡ true → P) → (c ≡ true → P) → P
one_of true c P e f g = f refl
one_of false c P e f g = g e

few_at : (n k : ℕ) → k ≤ 4096 → (n == k) ≡ true → n ≤ 4096
few_at n k few e = let same : n ≡ k = grind (arith, nat_tests) in omega (arith, same, few)

pub few_alignment : (n : ℕ) → is_alignment n ≡ true → n ≤ 4096
few_alignment n is =
    one_of (n == 1) _ _ is (few_at n 1 (omega arith)) (λ is. one_of (n == 2) _ _ is (few_at n 2 (omega arith)) (λ is. one_of (n == 4) _ _ is (few_at n 4 (omega arith))
    (λ is. one_of (n == 8) _ _ is (few_at n 8 (omega arith)) (λ is. one_of (n == 16) _ _ is (few_at n 16 (omega arith)) (λ is. one_of (n == 32) _ _ is (few_at n 32 (omega arith))
    (λ is. one_of (n == 64) _ _ is (few_at n 64 (omega arith)) (λ is. one_of (n == 128) _ _ is (few_at n 128 (omega arith)) (λ is. one_of (n == 256) _ _ is (few_at n 256 (omega arith))
    (λ is. one_of (n == 512) _ _ is (few_at n 512 (omega arith)) (λ is. one_of (n == 1024) _ _ is (few_at n 1024 (omega arith))
    (λ is. one_of (n == 2048) _ _ is (few_at n 2048 (omega arith)) (few_at n 4096 (omega arith)))))))))))))

-- what is known of it
pub record IsLaid {A : Type 0} (at : ℕ) (d : Data A) : Type 0 where
  pub some : 0 < align_of d
  pub few : align_of d ≤ 4096
  pub low : at ≤ start_of at d
  pub high : end_of at d ≤ data_limit

pub is_laid : {A : Type 0} (at : ℕ) (d : Data A) → object_fault at d ≡ None → IsLaid at d
is_laid at d none =
    let fits = neither (is_alignment (align_of d)) (nat_lt data_limit (end_of at d)) none in
    let some : 0 < align_of d = some_alignment (align_of d) fits.0 in
    record { some = some; few = few_alignment (align_of d) fits.0; low = rounded_low (align_of d) at some; high = ltb-false data_limit (end_of at d) fits.1 }

-- ---- one more in a row

pub one_noted : {X : Type 0} (F : X → List ByteOrigin) (xs : List X) (i : ℕ) (x : X) (all : List ByteOrigin) (at next : ℕ) (m now : ByteOrigins) → drop i xs ≡ x ∷ drop (i + 1) xs
    → ((bs : List ByteOrigin) → HasNoted bs at m → HasNoted (bs ++ F x) next now) → HasRest all (flat_map F (drop i xs)) at m → HasRest all (flat_map F (drop (i + 1) xs)) next now
one_noted F xs i x all at next m now left step r = rest_step all (flat_map F (drop i xs)) (F x) (flat_map F (drop (i + 1) xs)) at next m now (ap (flat_map F) left) step r

pub one_size : {X : Type 0} (size : X → ℕ) (xs : List X) (i : ℕ) (x : X) (at total : ℕ) → drop i xs ≡ x ∷ drop (i + 1) xs → at + sum_by size (drop i xs) ≡ total → at + size x + sum_by size (drop (i + 1) xs) ≡ total
one_size size xs i x at total left e = let here = ap (sum_by size) left in let more = sum_by-cons size x (drop (i + 1) xs) in omega (arith, here, more, e)

pub all_noted : {X : Type 0} (F : X → List ByteOrigin) (xs : List X) (i : ℕ) (all : List ByteOrigin) (at : ℕ) (m : ByteOrigins) → length xs ≤ i → HasRest all (flat_map F (drop i xs)) at m → HasNoted all at m
all_noted F xs i all at m done r = rest_done all (flat_map F (drop i xs)) at m (ap (flat_map F) (drop_all i xs done)) r

pub all_sizes : {X : Type 0} (size : X → ℕ) (xs : List X) (i at total : ℕ) → length xs ≤ i → at + sum_by size (drop i xs) ≡ total → at ≡ total
all_sizes size xs i at total done e = let none : sum_by size (drop i xs) ≡ 0 = ap (sum_by size) (drop_all i xs done) in omega (arith, none, e)

-- ---- objects one after the other

pub one_behind : {X : Type 0} (xs ys all rest : List X) (x : X) → ys ≡ x ∷ rest → xs ++ ys ≡ all → (xs ++ x ∷ []) ++ rest ≡ all
one_behind xs ys all rest x e is = append_assoc xs (x ∷ []) rest ∙ ap (λ zs. xs ++ zs) (sym e) ∙ is

pub none_behind : {X : Type 0} (xs ys all : List X) → ys ≡ [] → xs ++ ys ≡ all → xs ≡ all
none_behind xs ys all e is = sym (append-nil xs) ∙ ap (λ zs. xs ++ zs) (sym e) ∙ is

-- ---- an item

pub item_number : {A : Type 0} (O : Name → ObjectId) (w : Width) (item : Item A) (n : ℕ) (bs : List ByteOrigin) (at next : ℕ) (m : ByteOrigins) → item ≡ items.Number n → next ≡ at + item_size w item
    → HasNoted bs at m → HasNoted (bs ++ item_origins O w item) next m
item_number O w item n bs at next m is e noted =
    subst (λ i. next ≡ at + item_size w i → HasNoted (bs ++ item_origins O w i) next m) (sym is) (λ e. noted_numbers bs at next (width_bytes w) m e noted) e

pub item_text : {A : Type 0} (O : Name → ObjectId) (w : Width) (item : Item A) (text : List ℕ) (bs : List ByteOrigin) (at next : ℕ) (m : ByteOrigins) → item ≡ items.Text text → next ≡ at + item_size w item
    → HasNoted bs at m → HasNoted (bs ++ item_origins O w item) next m
item_text O w item text bs at next m is e noted =
    subst (λ i. next ≡ at + item_size w i → HasNoted (bs ++ item_origins O w i) next m) (sym is) (λ e. noted_text bs text at next (length text) m e refl noted) e

pub item_address : {A : Type 0} (names : Program A) (w : Width) (item : Item A) (name : Name) (n size : ℕ) (o : ObjectId) (bs : List ByteOrigin) (at next : ℕ) (m now : ByteOrigins) → item ≡ items.Address name n
    → size ≡ width_bytes w → o ≡ object_named names name → (HasSpot at size → now ≡ laid_origins m at (stored_origins size (origins.Address o))) → data_base ≤ at → at + item_size w item ≤ data_limit
    → next ≡ at + item_size w item → HasNoted bs at m → HasNoted (bs ++ item_origins (object_named names) w item) next now
item_address names w item name n size o bs at next m now is count named stored low fits e noted =
    subst (λ i. at + item_size w i ≤ data_limit → next ≡ at + item_size w i → HasNoted (bs ++ item_origins (object_named names) w i) next now) (sym is)
    (λ fits e.
    let long = length-bytes_from (width_bytes w) (origins.Address (object_named names name)) 0 (width_bytes w) in
    noted_stored bs (stored_origins (width_bytes w) (origins.Address (object_named names name))) at next m now (omega (arith, e, long))
    (stored (inl (low, omega (arith, count, fits))) ∙ (λ i. laid_origins m at (stored_origins (count i) (origins.Address (named i))))) noted)
    fits e

-- ---- a field, and an object

pub field_zeros : {A : Type 0} (O : Name → ObjectId) (field : Field A) (n : ℕ) (bs : List ByteOrigin) (at : ℕ) (m : ByteOrigins) → field ≡ fields.Zeros n → HasNoted bs at m
    → HasNoted (bs ++ field_origins O field) (at + n) m
field_zeros O field n bs at m is noted = subst (λ f. HasNoted (bs ++ field_origins O f) (at + n) m) (sym is) (noted_numbers bs at (at + n) n m refl noted)

pub object_noted : {X : Type 0} (F : X → List ByteOrigin) (xs own : List X) (bs : List ByteOrigin) (at begin start end : ℕ) (m now : ByteOrigins) → begin ≡ start → at ≤ begin → xs ≡ own
    → ((cs : List ByteOrigin) → HasNoted cs begin m → HasNoted (cs ++ flat_map F xs) end now) → HasNoted bs at m → HasNoted (bs ++ (replicate (start - at) bytes.Number ++ flat_map F own)) end now
object_noted F xs own bs at begin start end m now is high same step noted =
    let gap = replicate (start - at) bytes.Number in
    let gapped : HasNoted (bs ++ gap) begin m = noted_numbers bs at begin (start - at) m (omega (arith, is, high)) noted in
    subst (λ ys. HasNoted ys end now) (append_assoc bs gap (flat_map F xs) ∙ ap (λ zs. bs ++ (gap ++ flat_map F zs)) same) (step (bs ++ gap) gapped)
