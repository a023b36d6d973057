-- Where the data objects begin, one by one, and what stands there.
use Rattle.std.proofs.Common.{◌≡◌, ◌∙◌, sym, ap, refl, subst, ℕ, zero, suc, ◌+◌, ◌-◌, ◌*◌, ◌<◌, ◌≤◌, ⊎_elim, nat_lt, List, [], ◌∷◌, ◌++◌, length, take, drop, replicate, slice_get, slice_range, Option, Some, None, length-append, append_assoc, arith}
use Rattle.std.proofs.lemmas.Bool.{cases_lt}
use Rattle.std.proofs.lemmas.List.{take_at}
use Rattle.qil_tree.specs.declared.tree.Data.{Data}
use Rattle.qil_layout.specs.Layout.{data_limit, align_of, size_of, rounded, start_of, end_of, is_alignment, object_fault, fault_from, zeros, object_bytes, bytes_from}
use Rattle.qil_layout.proofs.BytesLemmas.{length-zeros, length-object, rounded_low, some_alignment, neither, unreported}

-- ---- parts of lists

get_left : (xs ys : List ℕ) (k : ℕ) → k < length xs → slice_get (xs ++ ys) k ≡ slice_get xs k
get_left [] ys k h = absurd (omega arith)
get_left (x ∷ xs) ys zero h = refl
get_left (x ∷ xs) ys (suc k) h = get_left xs ys k (omega arith)

get_right : (xs ys : List ℕ) (k j : ℕ) → k ≡ length xs + j → slice_get (xs ++ ys) k ≡ slice_get ys j
get_right [] ys k j h = let e : k ≡ j = omega arith in ap (slice_get ys) e
get_right (x ∷ xs) ys zero j h = absurd (omega arith)
get_right (x ∷ xs) ys (suc k) j h = get_right xs ys k j (omega arith)

get_zero : (n i : ℕ) → i < n → slice_get {X = ℕ} (replicate n 0) i ≡ Some 0
get_zero zero i h = absurd (omega arith)
get_zero (suc n) zero h = refl
get_zero (suc n) (suc i) h = get_zero n i (omega arith)

get_zeros : (n i : ℕ) → i < n → slice_get (zeros n) i ≡ Some 0
unfolding zeros
get_zeros n i h = get_zero n i h

drop_past : (xs ys : List ℕ) (i j : ℕ) → i ≡ length xs + j → drop i (xs ++ ys) ≡ drop j ys
drop_past [] ys i j h = let e : i ≡ j = omega arith in ap (λ k. drop k ys) e
drop_past (x ∷ xs) ys zero j h = absurd (omega arith)
drop_past (x ∷ xs) ys (suc i) j h = drop_past xs ys i j (omega arith)

range_past : (xs ys : List ℕ) (i j n : ℕ) → i ≡ length xs + j → slice_range (xs ++ ys) i (i + n) ≡ slice_range ys j (j + n)
range_past xs ys i j n h =
    let e : i + n - i ≡ j + n - j = omega arith in
    ap (take (i + n - i)) (drop_past xs ys i j h) ∙ ap (λ k. take k (drop j ys)) e

range_prefix : (ys zs : List ℕ) (n : ℕ) → length ys ≡ n → slice_range (ys ++ zs) 0 (0 + n) ≡ ys
range_prefix ys zs n h = let e : 0 + n - 0 ≡ n = omega arith in rw e (take_at ys zs n h)

range_middle : (xs ys zs : List ℕ) (i n : ℕ) → i ≡ length xs → length ys ≡ n → slice_range (xs ++ (ys ++ zs)) i (i + n) ≡ ys
range_middle xs ys zs i n h e = range_past xs (ys ++ zs) i 0 n (omega arith) ∙ range_prefix ys zs n e

-- ---- where each object begins

abbrev pub starts : {A : Type 0} → ℕ → List (Data A) → List ℕ
starts at [] = []
starts at (d ∷ ds) = start_of at d ∷ starts (end_of at d) ds

pub some_start : {A : Type 0} (at : ℕ) (ds : List (Data A)) (k : ℕ) (d : Data A) → slice_get ds k ≡ Some d → (a : ℕ) × (slice_get (starts at ds) k ≡ Some a)
some_start at [] k d h = absurd cc
some_start at (e ∷ ds) zero d h = (start_of at e, refl)
some_start at (e ∷ ds) (suc k) d h = some_start (end_of at e) ds k d h

-- the k-th object of these is d, and begins there
pub record Begins {A : Type 0} (at : ℕ) (ds : List (Data A)) (k : ℕ) (d : Data A) (a : ℕ) : Type 0 where
  pub object : slice_get ds k ≡ Some d
  pub start : slice_get (starts at ds) k ≡ Some a

-- what of one object follows where nothing has a fault
pub record Fine {A : Type 0} (at : ℕ) (d : Data A) (ds : List (Data A)) : Type 0 where
  pub some : 0 < align_of d
  pub behind : at ≤ start_of at d
  pub others : fault_from (end_of at d) ds ≡ None

pub fine : {A : Type 0} (at : ℕ) (d : Data A) (ds : List (Data A)) → fault_from at (d ∷ ds) ≡ None → Fine at d ds
fine at d ds none =
    let both = unreported d (object_fault at d) (fault_from (end_of at d) ds) none in
    let fits = neither (is_alignment (align_of d)) (nat_lt data_limit (end_of at d)) both.0 in
    let positive : 0 < align_of d = some_alignment (align_of d) fits.0 in
    record { some = positive; behind = rounded_low (align_of d) at positive; others = both.1 }

pub same_object : {A : Type 0} (d e : Data A) → Some e ≡ Some d → e ≡ d
same_object d e h = cc

pub same_start : (a b : ℕ) → Some a ≡ Some b → a ≡ b
same_start a b h = cc

-- ---- what stands there

pub record LiesFrom {A : Type 0} (address : List ℕ → Option ℕ) (at : ℕ) (ds : List (Data A)) (d : Data A) (a : ℕ) : Type 0 where
  pub some : 0 < align_of d
  pub aligned : (k : ℕ) × (a ≡ k * align_of d)
  pub behind : at ≤ a
  pub inside : a + size_of d ≤ at + length (bytes_from address at ds)
  pub bytes : slice_range (bytes_from address at ds) (a - at) (a - at + size_of d) ≡ object_bytes address d

module _ {A : Type 0} (address : List ℕ → Option ℕ) where
  -- the bytes of one object, and those after
  split : (at : ℕ) (d : Data A) (ds : List (Data A)) → bytes_from address at (d ∷ ds) ≡ (zeros (start_of at d - at) ++ object_bytes address d) ++ bytes_from address (end_of at d) ds
  split at d ds = sym (append_assoc (zeros (start_of at d - at)) (object_bytes address d) (bytes_from address (end_of at d) ds))

  length_prefix : (at : ℕ) (d : Data A) → at ≤ start_of at d → at + length (zeros (start_of at d - at) ++ object_bytes address d) ≡ end_of at d
  length_prefix at d h =
      let gap = length-zeros (start_of at d - at) in
      let object = length-object address d in
      let both = length-append (zeros (start_of at d - at)) (object_bytes address d) in
      omega (arith, h, gap, object, both)

  first_stands : (at : ℕ) (d : Data A) (ds : List (Data A)) → Fine at d ds → LiesFrom address at (d ∷ ds) d (start_of at d)
  first_stands at d ds f =
      let prefix = length_prefix at d f.behind in
      let whole = ap length (split at d ds) ∙ length-append (zeros (start_of at d - at) ++ object_bytes address d) (bytes_from address (end_of at d) ds) in
      record {
        some = f.some;
        aligned = (_, refl);
        behind = f.behind;
        inside = omega (arith, prefix, whole);
        bytes = range_middle (zeros (start_of at d - at)) (object_bytes address d) (bytes_from address (end_of at d) ds) (start_of at d - at) (size_of d) (sym (length-zeros (start_of at d - at))) (length-object address d);
      }

  later_stands : (at : ℕ) (e : Data A) (ds : List (Data A)) (d : Data A) (a : ℕ) → Fine at e ds → LiesFrom address (end_of at e) ds d a → LiesFrom address at (e ∷ ds) d a
  later_stands at e ds d a f s =
      let prefix = length_prefix at e f.behind in
      let low = f.behind in
      let behind = s.behind in
      let inside = s.inside in
      let whole = ap length (split at e ds) ∙ length-append (zeros (start_of at e - at) ++ object_bytes address e) (bytes_from address (end_of at e) ds) in
      record {
        some = s.some;
        aligned = s.aligned;
        behind = omega (arith, low, behind);
        inside = omega (arith, prefix, whole, inside);
        bytes = ap (λ (bs : List ℕ). slice_range bs (a - at) (a - at + size_of d)) (split at e ds)
            ∙ range_past (zeros (start_of at e - at) ++ object_bytes address e) (bytes_from address (end_of at e) ds) (a - at) (a - end_of at e) (size_of d) (omega (arith, prefix, low, behind))
            ∙ s.bytes;
      }

  pub stands : (at : ℕ) (ds : List (Data A)) (k : ℕ) (d : Data A) (a : ℕ) → fault_from at ds ≡ None → Begins at ds k d a → LiesFrom address at ds d a
  stands at [] k d a none b = absurd (let h = b.object in cc)
  stands at (e ∷ ds) zero d a none b =
      subst (LiesFrom address at (e ∷ ds) d) (same_start (start_of at e) a b.start)
      (subst (λ (o : Data A). LiesFrom address at (e ∷ ds) o (start_of at e)) (same_object d e b.object) (first_stands at e ds (fine at e ds none)))
  stands at (e ∷ ds) (suc k) d a none b =
      let f = fine at e ds none in
      later_stands at e ds d a f (stands (end_of at e) ds k d a f.others (record { object = b.object; start = b.start }))

  -- ---- the order

  pub first_start : (at : ℕ) (ds : List (Data A)) (d : Data A) (a : ℕ) → Begins at ds 0 d a → a ≡ rounded (align_of d) at
  first_start at [] d a b = absurd (let h = b.object in cc)
  first_start at (e ∷ ds) d a b = sym (same_start (start_of at e) a b.start) ∙ ap (λ (o : Data A). rounded (align_of o) at) (same_object d e b.object)

  -- the end of the one object that stands first
  first_end : (at : ℕ) (e : Data A) (ds : List (Data A)) (d : Data A) (a : ℕ) → Begins at (e ∷ ds) 0 d a → end_of at e ≡ a + size_of d
  first_end at e ds d a b =
      let place = same_start (start_of at e) a b.start in
      let size : size_of e ≡ size_of d = ap (λ (o : Data A). size_of o) (same_object d e b.object) in
      omega (arith, place, size)

  pub next_start : (at : ℕ) (ds : List (Data A)) (k : ℕ) (d e : Data A) (a b : ℕ) → Begins at ds k d a → Begins at ds (suc k) e b → b ≡ rounded (align_of e) (a + size_of d)
  next_start at [] k d e a b m n = absurd (let h = m.object in cc)
  next_start at (o ∷ ds) zero d e a b m n =
      first_start (end_of at o) ds e b (record { object = n.object; start = n.start }) ∙ ap (rounded (align_of e)) (first_end at o ds d a m)
  next_start at (o ∷ ds) (suc k) d e a b m n =
      next_start (end_of at o) ds k d e a b (record { object = m.object; start = m.start }) (record { object = n.object; start = n.start })

  pub one_behind : (at : ℕ) (ds : List (Data A)) (j k : ℕ) (d e : Data A) (a b : ℕ) → fault_from at ds ≡ None → j < k → Begins at ds j d a → Begins at ds k e b → a + size_of d ≤ b
  one_behind at ds j zero d e a b none h m n = absurd (omega arith)
  one_behind at [] j (suc k) d e a b none h m n = absurd (let h = m.object in cc)
  one_behind at (o ∷ ds) zero (suc k) d e a b none h m n =
      let f = fine at o ds none in
      let end = first_end at o ds d a m in
      let later = (stands (end_of at o) ds k e b f.others (record { object = n.object; start = n.start })).behind in
      omega (arith, end, later)
  one_behind at (o ∷ ds) (suc j) (suc k) d e a b none h m n =
      one_behind (end_of at o) ds j k d e a b (fine at o ds none).others (omega arith) (record { object = m.object; start = m.start }) (record { object = n.object; start = n.start })

  pub last_end : (at : ℕ) (ds : List (Data A)) (k : ℕ) (d : Data A) (a : ℕ) → fault_from at ds ≡ None → suc k ≡ length ds → Begins at ds k d a → at + length (bytes_from address at ds) ≡ a + size_of d
  last_end at [] k d a none h b = absurd (let h = b.object in cc)
  last_end at (e ∷ []) zero d a none h b =
      let prefix = length_prefix at e (fine at e [] none).behind in
      let end = first_end at e [] d a b in
      let whole = ap length (split at e []) ∙ length-append (zeros (start_of at e - at) ++ object_bytes address e) [] in
      omega (arith, prefix, end, whole)
  last_end at (e ∷ o ∷ ds) zero d a none h b = absurd (omega arith)
  last_end at (e ∷ ds) (suc k) d a none h b =
      let f = fine at e ds none in
      let prefix = length_prefix at e f.behind in
      let more = last_end (end_of at e) ds k d a f.others (omega arith) (record { object = b.object; start = b.start }) in
      let whole = ap length (split at e ds) ∙ length-append (zeros (start_of at e - at) ++ object_bytes address e) (bytes_from address (end_of at e) ds) in
      omega (arith, prefix, more, whole)

  -- ---- what stands between

  pub between : (at : ℕ) (ds : List (Data A)) (i : ℕ) → fault_from at ds ≡ None → i < length (bytes_from address at ds)
      → ((k : ℕ) (d : Data A) (a : ℕ) → Begins at ds k d a → a ≤ at + i → at + i < a + size_of d → ⊥)
      → slice_get (bytes_from address at ds) i ≡ Some 0
  between at [] i none h free = absurd (omega arith)
  between at (d ∷ ds) i none h free =
      let f = fine at d ds none in
      let low = f.behind in
      let gap = length-zeros (start_of at d - at) in
      let prefix = length_prefix at d low in
      let whole = ap length (split at d ds) ∙ length-append (zeros (start_of at d - at) ++ object_bytes address d) (bytes_from address (end_of at d) ds) in
      ⊎_elim
      (λ (u : i < start_of at d - at). get_left (zeros (start_of at d - at)) (object_bytes address d ++ bytes_from address (end_of at d) ds) i (omega (arith, u, gap)) ∙ get_zeros (start_of at d - at) i u)
      (λ (u : start_of at d - at ≤ i). ⊎_elim
      (λ (v : at + i < end_of at d). absurd (free 0 d (start_of at d) (record { object = refl; start = refl }) (omega (arith, u, low)) v))
      (λ (v : end_of at d ≤ at + i).
      let here : end_of at d + (at + i - end_of at d) ≡ at + i = omega (arith, v) in
      ap (λ (bs : List ℕ). slice_get bs i) (split at d ds)
      ∙ get_right (zeros (start_of at d - at) ++ object_bytes address d) (bytes_from address (end_of at d) ds) i (at + i - end_of at d) (omega (arith, v, prefix))
      ∙ between (end_of at d) ds (at + i - end_of at d) f.others (omega (arith, v, prefix, whole, h))
      (λ k o a b from to. free (suc k) o a (record { object = b.object; start = b.start }) (omega (arith, from, here)) (omega (arith, to, here))))
      (cases_lt (at + i) (end_of at d)))
      (cases_lt i (start_of at d - at))
