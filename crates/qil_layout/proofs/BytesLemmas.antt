-- How many bytes numbers, zeros and data have: the data of a program without a fault at most 2 ^ 20.
use Rattle.std.proofs.Common.{◌≡◌, ◌∙◌, ap, refl, ℕ, zero, suc, ◌+◌, ◌-◌, ◌/◌, ◌^◌, ◌<◌, ◌≤◌, Bool, true, false, not, nat_lt, if◌then◌else◌, List, [], ◌∷◌, length, Option, Some, None, length-append, arith}
use Rattle.std.specs.List.{sum_by}
use Rattle.std.proofs.lemmas.Bool.{ltb-false}
use Rattle.std.proofs.lemmas.List.{length-replicate}
use Rattle.std.proofs.lemmas.List.Concat.{length-flat_map}
use Rattle.qil_tree.specs.declared.ops.Width.{Width}
use Rattle.qil_tree.specs.declared.tree.Item.{Item}
use Rattle.qil_tree.specs.declared.tree.Item.TheVariants as items
use Rattle.qil_tree.specs.declared.tree.Field.{Field}
use Rattle.qil_tree.specs.declared.tree.Field.TheVariants as fields
use Rattle.qil_tree.specs.declared.tree.Data.{Data}
use Rattle.qil_tree.specs.declared.tree.Program.{Program}
use Rattle.qil_layout.specs.declared.error.LayoutCode.{LayoutCode}
use Rattle.qil_layout.specs.declared.error.LayoutCode.TheVariants.{Y1, Y2}
use Rattle.qil_layout.specs.Layout.{width_bytes, item_size, field_size, size_of, data_base, data_limit, align_of, rounded, start_of, end_of, is_alignment, object_fault, reported, fault_from, fault_of, low_bytes, zeros, item_bytes, field_bytes, object_bytes, bytes_from, address_of, bytes_of}

-- ---- as many bytes as the size

pub length-low_bytes : (n v : ℕ) → length (low_bytes n v) ≡ n
length-low_bytes zero v = refl
length-low_bytes (suc n) v = ap suc (length-low_bytes n (v / 256))

pub length-zeros : (n : ℕ) → length (zeros n) ≡ n
unfolding zeros
length-zeros n = length-replicate n 0

module _ {A : Type 0} (address : List ℕ → Option ℕ) where
  length-item : (w : Width) (item : Item A) → length (item_bytes address w item) ≡ item_size w item
  length-item w (items.Number n) = length-low_bytes (width_bytes w) n
  length-item w (items.Text bytes) = refl
  length-item w (items.Address g n) = length-low_bytes (width_bytes w) _

  length-field : (field : Field A) → length (field_bytes address field) ≡ field_size field
  length-field (fields.Values w values) = length-flat_map (item_bytes address w) values ∙ ap (λ (size : Item A → ℕ). sum_by size values) (λ i item. length-item w item i)
  length-field (fields.Zeros n) = length-zeros n

  pub length-object : (d : Data A) → length (object_bytes address d) ≡ size_of d
  length-object d = length-flat_map (field_bytes address) d.fields ∙ ap (λ (size : Field A → ℕ). sum_by size d.fields) (λ i field. length-field field i)

-- ---- nothing is rounded down

pub rounded_low : (align n : ℕ) → 0 < align → n ≤ rounded align n
rounded_low align n some = omega arith

-- ---- what has no fault

pub some_alignment : (align : ℕ) → is_alignment align ≡ true → 0 < align
some_alignment zero is = absurd cc
some_alignment (suc align) is = omega arith

pub neither : (aligned past : Bool) → (if not aligned then Some Y2 else (if past then Some Y1 else None)) ≡ None → (aligned ≡ true) × (past ≡ false)
neither true false is = (refl, refl)
neither true true is = absurd cc
neither false past is = absurd cc

pub unreported : {A : Type 0} (d : Data A) (code : Option LayoutCode) (later : Option (LayoutCode × ℕ)) → reported d code later ≡ None → (code ≡ None) × (later ≡ None)
unreported d None later is = (refl, is)
unreported d (Some code) later is = absurd cc

-- ---- all bytes

within : {A : Type 0} (address : List ℕ → Option ℕ) (at : ℕ) (ds : List (Data A)) → at ≤ data_limit → fault_from at ds ≡ None → at + length (bytes_from address at ds) ≤ data_limit
within address at [] low none = omega arith
within address at (d ∷ ds) low none =
    let both = unreported d (object_fault at d) (fault_from (end_of at d) ds) none in
    let fits = neither (is_alignment (align_of d)) (nat_lt data_limit (end_of at d)) both.0 in
    let start : at ≤ start_of at d = rounded_low (align_of d) at (some_alignment (align_of d) fits.0) in
    let more = within address (end_of at d) ds (ltb-false data_limit (end_of at d) fits.1) both.1 in
    let gap = length-zeros (start_of at d - at) in
    let object = length-object address d in
    let whole : length (bytes_from address at (d ∷ ds)) ≡ length (zeros (start_of at d - at)) + (length (object_bytes address d) + length (bytes_from address (end_of at d) ds)) = simp (length-append) refl in
    omega (arith, start, more, gap, object, whole)

pub few_bytes : {A : Type 0} (p : Program A) → fault_of p ≡ None → length (bytes_of p) ≤ 2 ^ 20
few_bytes p none = let all = within (address_of p) data_base p.datas (omega arith) none in omega (arith, all)
