-- The shadow of a state: what its values are made of, and the objects that there are.
use Rattle.std.specs.Prelude.{ℕ, ◌-◌, if◌then◌else◌, List, [], ◌∷◌, ◌++◌, map, flat_map, replicate}
use Rattle.std.specs.Str.{bytes_eq}
use Rattle.qil_tree.specs.declared.ops.AbiType.{AbiType}
use Rattle.qil_tree.specs.declared.ops.AbiType.TheVariants as types
use Rattle.qil_tree.specs.declared.ops.Width.{Width}
use Rattle.qil_tree.specs.declared.tree.Item.{Item}
use Rattle.qil_tree.specs.declared.tree.Item.TheVariants as items
use Rattle.qil_tree.specs.declared.tree.Field.{Field}
use Rattle.qil_tree.specs.declared.tree.Field.TheVariants as fields
use Rattle.qil_tree.specs.declared.tree.Data.{Data}
use Rattle.qil_tree.specs.declared.tree.Func.{Func}
use Rattle.qil_tree.specs.declared.tree.Program.{Program}
use Rattle.qil_memory.specs.qil_layout.Layout.{data_base, width_bytes, start_of, end_of}
use Rattle.qil_semantics.specs.State.{Name}
use Rattle.qil_shadow.specs.declared.origin.ObjectId.{ObjectId}
use Rattle.qil_shadow.specs.declared.origin.Origin.{Origin}
use Rattle.qil_shadow.specs.declared.origin.Origin.TheVariants as origins
use Rattle.qil_shadow.specs.declared.origin.ByteOrigin.{ByteOrigin}
use Rattle.qil_shadow.specs.declared.origin.ByteOrigin.TheVariants as bytes
use Rattle.qil_shadow.specs.Bytes.{ByteOrigins, laid_origins, bytes_from}
use Rattle.qil_shadow.specs.Objects.{Object, objects_of, object_named}

-- what the values of the temporaries are made of; of one that is unset nothing is asked
abbrev pub Origins : Type 0
Origins = Name → Origin

-- Of each call that is not over, the innermost first, what its temporaries are made of; what the bytes of memory are; the
-- objects that there were, in the order in which they were made; and how many moves were made.
pub record Shadow : Type 0 where
  pub frames : List Origins
  pub bytes : ByteOrigins
  pub objects : List Object
  pub position : ℕ

-- ---- temporaries

abbrev pub none_set : Origins
none_set x = origins.Number

unfoldable pub with_origin : Origins → Name → Origin → Origins
with_origin t x m y = if bytes_eq x y then m else t y

-- one after the other, so that of two for one name the later stays
abbrev pub with_origins : Origins → List (Name × Origin) → Origins
with_origins t [] = t
with_origins t (q ∷ qs) = with_origins (with_origin t q.0 q.1) qs

-- ---- the start of a run

-- bytes of data are numbers, but those of an address
abbrev pub item_origins : {A : Type 0} → (Name → ObjectId) → Width → Item A → List ByteOrigin
item_origins object w (items.Address g n) = bytes_from (width_bytes w) (origins.Address (object g)) 0 (width_bytes w)
item_origins object w (items.Number n) = replicate (width_bytes w) bytes.Number
item_origins object w (items.Text text) = map (λ b. bytes.Number) text

abbrev pub field_origins : {A : Type 0} → (Name → ObjectId) → Field A → List ByteOrigin
field_origins object (fields.Values w values) = flat_map (item_origins object w) values
field_origins object (fields.Zeros n) = replicate n bytes.Number

abbrev pub data_origins_from : {A : Type 0} → (Name → ObjectId) → ℕ → List (Data A) → List ByteOrigin
data_origins_from object at [] = []
data_origins_from object at (d ∷ ds) =
    replicate (start_of at d - at) bytes.Number ++ (flat_map (field_origins object) d.fields ++ data_origins_from object (end_of at d) ds)

abbrev pub all_numbers : ByteOrigins
all_numbers a = bytes.Number

abbrev pub data_origins : {A : Type 0} → Program A → ByteOrigins
data_origins p = laid_origins all_numbers data_base (data_origins_from (object_named p) data_base p.datas)

-- a long argument of a run may be an address of anything
abbrev pub given : AbiType → Origin
given types.L = origins.Mixed
given t = origins.Number

abbrev pub shadow_at_start : {A : Type 0} → Program A → Func A → Shadow
shadow_at_start p func = record {
  frames = with_origins none_set (map (λ q. (q.name, given q.abi_type)) func.params) ∷ [];
  bytes = data_origins p;
  objects = objects_of p;
  position = 0;
}
