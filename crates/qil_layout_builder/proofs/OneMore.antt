-- The bytes of one more element of a list, behind those of the elements before it.
use Rattle.std.proofs.Common.{◌≡◌, ◌∙◌, sym, ap, ℕ, ◌+◌, ◌-◌, ◌<◌, List, ◌∷◌, ◌++◌, Option, length, drop, get_or, append_assoc}
use Rattle.std.specs.List.{flat_map}
use Rattle.std.proofs.lemmas.List.{drop_more}
use Rattle.qil_tree.specs.declared.tree.Data.{Data}
use Rattle.qil_tree.specs.declared.tree.Field.{Field}
use Rattle.qil_layout.specs.Layout.{start_of, end_of, zeros, field_bytes, object_bytes, bytes_from}

pub left_from : {X : Type 0} (xs : List X) (i : ℕ) (x : X) → i < length xs → x ≡ get_or xs i x → drop i xs ≡ x ∷ drop (i + 1) xs
left_from xs i x l e = drop_more xs i x l ∙ ap (λ y. y ∷ drop (i + 1) xs) (sym e)

pub one_more : {X : Type 0} (f : X → List ℕ) (xs : List X) (i : ℕ) (x : X) (old new all : List ℕ) → i < length xs → x ≡ get_or xs i x → new ≡ old ++ f x → old ++ flat_map f (drop i xs) ≡ all → new ++ flat_map f (drop (i + 1) xs) ≡ all
one_more f xs i x old new all l e made so_far =
    ap (λ n. n ++ flat_map f (drop (i + 1) xs)) made ∙ append_assoc old (f x) (flat_map f (drop (i + 1) xs)) ∙ ap (λ ys. old ++ flat_map f ys) (sym (left_from xs i x l e)) ∙ so_far

pub bytes_more : {A : Type 0} (address : List ℕ → Option ℕ) (at start end : ℕ) (d : Data A) (left ds : List (Data A)) (fields : List (Field A)) (old mid new all : List ℕ) → left ≡ d ∷ ds → start ≡ start_of at d → end ≡ end_of at d
    → fields ≡ d.fields → mid ≡ old ++ zeros (start - at) → new ≡ mid ++ flat_map (field_bytes address) fields → old ++ bytes_from address at left ≡ all → new ++ bytes_from address end ds ≡ all
bytes_more address at start end d left ds fields old mid new all e s t fs m n so_far =
    rw (n, m, fs, s, t) (append_assoc (old ++ zeros (start_of at d - at)) (object_bytes address d) (bytes_from address (end_of at d) ds))
    ∙ append_assoc old (zeros (start_of at d - at)) (object_bytes address d ++ bytes_from address (end_of at d) ds) ∙ ap (λ l. old ++ bytes_from address at l) (sym e) ∙ so_far
