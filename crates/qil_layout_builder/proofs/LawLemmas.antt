-- The laws of the data, of a whole program.
use Rattle.std.proofs.Common.{◌≡◌, sym, ap, refl, subst, ℕ, suc, ◌+◌, ◌-◌, ◌*◌, ◌/◌, ◌<◌, ◌≤◌, ⊎_elim, List, [], length, slice_get, Some, None, arith}
use Rattle.std.proofs.Math.Nat.{div-mul-le_self, lt-div-mul-add}
use Rattle.std.proofs.lemmas.Bool.{cases_lt}
use Rattle.std.proofs.lemmas.Nat.{mul-le}
use Rattle.qil_tree.specs.declared.tree.Data.{Data}
use Rattle.qil_tree.specs.declared.tree.Program.{Program}
use Rattle.qil_layout.specs.Layout.{data_base, rounded, align_of, size_of, fault_of, address_of, bytes_from, bytes_of}
use Rattle.qil_layout_builder.specs.Laws.{IsLeastMultiple, HaveOwnNames, LiesAt, IsPlaced, IsInObject}
use Rattle.qil_layout.proofs.BytesLemmas.{rounded_low}
use Rattle.qil_layout_builder.proofs.Starts.{stands, first_start, next_start, one_behind, last_end, between}
use Rattle.qil_layout_builder.proofs.Named.{lies_of, begins_of}

pub rounded_is : (align n : ℕ) → 0 < align → IsLeastMultiple align n (rounded align n)
rounded_is align n some =
    let q : ℕ = (n + (align - 1)) / align in
    let down : q * align ≤ n + (align - 1) = div-mul-le_self (n + (align - 1)) align in
    let up : n + (align - 1) < q * align + align = lt-div-mul-add {a = n + (align - 1)} {b = align} some in
    record {
      multiple = (q, refl);
      high = rounded_low align n some;
      least = λ k h. ⊎_elim
          (λ (u : k < q). let more : (k + 1) * align ≤ q * align = mul-le (k + 1) align q align (omega arith) (omega arith) in
          let sum : (k + 1) * align ≡ k * align + align = grind arith in absurd (omega arith))
          (λ (u : q ≤ k). mul-le q align k align u (omega arith))
          (cases_lt k q);
    }

module _ {A : Type 0} (p : Program A) (none : fault_of p ≡ None) (own : HaveOwnNames p) where
  pub object_stands : (k : ℕ) (d : Data A) (a : ℕ) → LiesAt p k d a → IsPlaced p d a
  object_stands k d a l =
      let s = stands (address_of p) data_base p.datas k d a none (begins_of p k d a own l) in
      record { aligned = s.aligned; behind = s.behind; inside = s.inside; bytes = s.bytes }

  positive : (k : ℕ) (d : Data A) (a : ℕ) → LiesAt p k d a → 0 < align_of d
  positive k d a l = (stands (address_of p) data_base p.datas k d a none (begins_of p k d a own l)).some

  pub first_is_least : (d : Data A) (a : ℕ) → LiesAt p 0 d a → IsLeastMultiple (align_of d) data_base a
  first_is_least d a l =
      let place = first_start (address_of p) data_base p.datas d a (begins_of p 0 d a own l) in
      subst (IsLeastMultiple (align_of d) data_base) (sym place) (rounded_is (align_of d) data_base (positive 0 d a l))

  pub next_is_least : (k : ℕ) (d e : Data A) (a b : ℕ) → LiesAt p k d a → LiesAt p (suc k) e b → IsLeastMultiple (align_of e) (a + size_of d) b
  next_is_least k d e a b l m =
      let place = next_start (address_of p) data_base p.datas k d e a b (begins_of p k d a own l) (begins_of p (suc k) e b own m) in
      subst (IsLeastMultiple (align_of e) (a + size_of d)) (sym place) (rounded_is (align_of e) (a + size_of d) (positive (suc k) e b m))

  pub objects_apart : (j k : ℕ) (d e : Data A) (a b : ℕ) → j < k → LiesAt p j d a → LiesAt p k e b → a + size_of d ≤ b
  objects_apart j k d e a b h l m = one_behind (address_of p) data_base p.datas j k d e a b none h (begins_of p j d a own l) (begins_of p k e b own m)

  pub data_ends : (k : ℕ) (d : Data A) (a : ℕ) → suc k ≡ length p.datas → LiesAt p k d a → data_base + length (bytes_of p) ≡ a + size_of d
  data_ends k d a h l = last_end (address_of p) data_base p.datas k d a none h (begins_of p k d a own l)

  pub rest_is_zero : (i : ℕ) → i < length (bytes_of p) → (IsInObject p (data_base + i) → ⊥) → slice_get (bytes_of p) i ≡ Some 0
  rest_is_zero i h free = between (address_of p) data_base p.datas i none h (λ k d a b from to. free (k, d, a, lies_of p k d a own b, from, to))

pub no_bytes : {A : Type 0} (p : Program A) → p.datas ≡ [] → bytes_of p ≡ []
no_bytes {A} p e = ap (λ (ds : List (Data A)). bytes_from (address_of p) data_base ds) e
