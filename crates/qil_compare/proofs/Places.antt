-- The data object that an address belongs to.
use Rattle.std.proofs.Common.{◌≡◌, sym, ap, ◌∙◌, subst, ℕ, ◌+◌, ◌-◌, ◌<◌, ◌≤◌, if◌then◌else◌, List, length, reverse, find, Option, Some, None}
use Rattle.std.specs.Prelude.{option_map}
use Rattle.std.proofs.lemmas.Bool.{lt-ltb, le-ltb}
use Rattle.qil_tree.specs.declared.tree.Data.{Data}
use Rattle.qil_tree.specs.declared.tree.Program.{Program}
use Rattle.qil_layout.specs.Layout.{bytes_of}
use Rattle.qil_compare.specs.Seen.{Offset, start_of, starts_by, offset_in, data_place}

pub place_far : {A : Type 0} (p q : Program A) (a : ℕ) (bytes : List ℕ) → q ≡ p → bytes ≡ bytes_of q → 65536 + length bytes < a → None ≡ data_place p a
unfolding data_place
place_far {A} p q a bytes same is far =
    let at : bytes ≡ bytes_of p = is ∙ ap (λ (r : Program A). bytes_of r) same in
    sym (ap (λ b. if b then None else option_map (offset_in p a) (find (starts_by p a) (reverse p.datas))) (lt-ltb (65536 + length (bytes_of p)) a (subst (λ (bs : List ℕ). 65536 + length bs < a) at far)))

pub place_near : {A : Type 0} (p q : Program A) (a : ℕ) (bytes : List ℕ) (datas : List (Data A)) (o : Option (Data A)) → q ≡ p → bytes ≡ bytes_of q → a ≤ 65536 + length bytes → datas ≡ p.datas → o ≡ find (starts_by q a) (reverse datas)
    → option_map (offset_in q a) o ≡ data_place p a
unfolding data_place
place_near {A} p q a bytes datas o same is near all found =
    let at : bytes ≡ bytes_of p = is ∙ ap (λ (r : Program A). bytes_of r) same in
    ap (option_map (offset_in q a)) found
    ∙ (λ i. option_map (offset_in (same i) a) (find (starts_by (same i) a) (reverse (all i))))
    ∙ sym (ap (λ b. if b then None else option_map (offset_in p a) (find (starts_by p a) (reverse p.datas))) (le-ltb (65536 + length (bytes_of p)) a (subst (λ (bs : List ℕ). a ≤ 65536 + length bs) at near)))

-- a place in an object, from its parts
pub place_some : {A : Type 0} (q : Program A) (a start bytes : ℕ) (name : List ℕ) (d : Data A) (o : Option Offset) → name ≡ d.name → start ≡ start_of q d → bytes ≡ a - start → Some (offset_in q a d) ≡ o
    → Some (record { object = name; bytes = bytes }) ≡ o
place_some q a start bytes name d o en es eb is = (λ i. Some (record { object = en i; bytes = (eb ∙ ap (λ n. a - n) es) i })) ∙ is
