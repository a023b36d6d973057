-- What the laws say of where a program's names and bytes are.
use Rattle.std.specs.Prelude.{◌≡◌, ◌≢◌, ℕ, ◌+◌, ◌-◌, ◌*◌, ◌<◌, ◌≤◌, ◌⊎◌, List, length, codes, Some, slice_get, slice_range}
use Rattle.qil_tree.specs.declared.tree.Data.{Data}
use Rattle.qil_tree.specs.declared.tree.Func.{Func}
use Rattle.qil_tree.specs.declared.tree.Program.{Program}
use Rattle.qil_layout.specs.Layout.{data_base, align_of, size_of, address_of, object_bytes, bytes_of}

-- r is a multiple of align that isn't below n, and no other such is below r
pub record IsLeastMultiple (align n r : ℕ) : Type 0 where
  pub multiple : (k : ℕ) × (r ≡ k * align)
  pub high : n ≤ r
  pub least : (k : ℕ) → n ≤ k * align → r ≤ k * align

-- ---- data

-- no two data objects of the text have one name
abbrev pub HaveOwnNames : {A : Type 0} → Program A → Type 0
HaveOwnNames {A} p = (j k : ℕ) (d e : Data A) → slice_get p.datas j ≡ Some d → slice_get p.datas k ≡ Some e → d.name ≡ e.name → j ≡ k

-- the k-th data object of the text, from 0, is d, and a is the address of its name
abbrev pub LiesAt : {A : Type 0} → Program A → ℕ → Data A → ℕ → Type 0
LiesAt p k d a = (slice_get p.datas k ≡ Some d) × (address_of p d.name ≡ Some a)

-- from the address on stand the bytes of the object's fields, within the data, and the address is a multiple of its alignment
pub record IsPlaced {A : Type 0} (p : Program A) (d : Data A) (a : ℕ) : Type 0 where
  pub aligned : (k : ℕ) × (a ≡ k * align_of d)
  pub behind : data_base ≤ a
  pub inside : a + size_of d ≤ data_base + length (bytes_of p)
  pub bytes : slice_range (bytes_of p) (a - data_base) (a - data_base + size_of d) ≡ object_bytes (address_of p) d

-- an address is one of the bytes of a data object
abbrev pub IsInObject : {A : Type 0} → Program A → ℕ → Type 0
IsInObject {A} p b = (k : ℕ) × (d : Data A) × (a : ℕ) × LiesAt p k d a × (a ≤ b) × (b < a + size_of d)

-- ---- names

-- the k-th function of the text, from 0, is the first that has its name, and no data object has it
pub record IsFirstNamed {A : Type 0} (p : Program A) (k : ℕ) (f : Func A) : Type 0 where
  pub function : slice_get p.funcs k ≡ Some f
  pub data_free : (j : ℕ) (d : Data A) → slice_get p.datas j ≡ Some d → d.name ≢ f.name
  pub first : (j : ℕ) (g : Func A) → j < k → slice_get p.funcs j ≡ Some g → g.name ≢ f.name

-- a data object has that name, and the address is one of the data or just after it
abbrev pub IsOfData : {A : Type 0} → Program A → List ℕ → ℕ → Type 0
IsOfData {A} p x a = (k : ℕ) × (d : Data A) × (slice_get p.datas k ≡ Some d) × (d.name ≡ x) × (data_base ≤ a)

-- the k-th function of the text, from 0, has that name, and the address is 4096 + 16 k
abbrev pub IsOfFunction : {A : Type 0} → Program A → List ℕ → ℕ → Type 0
IsOfFunction {A} p x a = (k : ℕ) × (f : Func A) × (slice_get p.funcs k ≡ Some f) × (f.name ≡ x) × (a ≡ 4096 + 16 * k)

-- a function that every program has
abbrev pub IsOfBuiltIn : List ℕ → ℕ → Type 0
IsOfBuiltIn x a = ((x ≡ codes "putchar") × (a ≡ 1024)) ⊎ (((x ≡ codes "puts") × (a ≡ 1040)) ⊎ ((x ≡ codes "exit") × (a ≡ 1056)))
