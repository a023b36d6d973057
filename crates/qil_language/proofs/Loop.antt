-- Reading many phrases one after the other, as a loop does.
use Rattle.std.proofs.Common.{◌≡◌, ℕ, zero, suc, ◌≤◌, ◌<◌, Bool, true, false, cond, List, [], ◌∷◌, ◌++◌, length, refl, sym, ap, subst, ◌∙◌, append_assoc, append-nil, arith, Option, Some}
use Rattle.std.proofs.lemmas.List.{length-append}
use Rattle.qil_language.specs.Reading.{Read, got, failed, ◌>>=◌, starts, nothing, seq, image, either, many_at, many, cons_of, tail_at, tail}
use Rattle.qil_language.specs.Language.{One, Many}
use Rattle.qil_language.specs.Reads.{Reads, Got, Explains, Begins, Takes}
use Rattle.qil_language.proofs.Law.{known_is, head_is}

prefix_shorter : {T : Type 0} (index : T → ℕ) (f : List ℕ) (ts prefix rest : List T) → ts ≡ prefix ++ rest → Begins index f false prefix → length rest < length ts
prefix_shorter index f ts [] rest e b = absurd cc
prefix_shorter index f ts (t ∷ prefix) rest e b = omega (arith, ap length e, length-append prefix rest)

pub takes_by : {T A : Type 0} {index : T → ℕ} {S : List T → A → Type 0} {r : List T → Read T A} {first more : List ℕ} {c : Bool} → ((n : ℕ) → Reads n c index S r first false more) → Takes r
takes_by {T} {A} {index} {S} {r} {first} {more} x = record { fewer = go }
  where
    go : (ts : List T) (a : A) (rest : List T) → r ts ≡ got a rest → length rest < length ts
    go ts a rest e =
        let g : Got index S more ts a rest = subst (λ (o : Read T A). Explains index S more ts o) e ((x (length ts)).explains ts (omega arith)) in
        prefix_shorter index first ts g.prefix rest g.parts ((x 0).begins g.prefix a g.spelled)

-- what was read before, and what is still read
abbrev pub with_prefix : {T A : Type 0} → List A → Read T (List A) → Read T (List A)
with_prefix prefix o = o >>= λ x. got (prefix ++ x.0) x.1

abbrev pub cons_at : {T A : Type 0} → A → Read T (List A) → Read T (List A)
cons_at a o = o >>= λ x. got (a ∷ x.0) x.1

pub regroup : {T A : Type 0} (prefix : List A) (a : A) (o : Read T (List A)) → with_prefix prefix (cons_at a o) ≡ with_prefix (prefix ++ a ∷ []) o
regroup prefix a (got others rest) = ap (λ (l : List _). got l rest) (sym (append_assoc prefix (a ∷ []) others))
regroup prefix a (failed e rest) = refl

module _ {T A : Type 0} (index : T → ℕ) (set : List ℕ) (r : List T → Read T A) (takes : Takes r) where
  abbrev then_many : Read T A → (List T → Read T (List A)) → Read T (List A)
  then_many o s = o >>= λ x. s x.1 >>= λ y. got (x.0 ∷ y.0) y.1

  same_then : (o : Read T A) (s u : List T → Read T (List A)) → ((a : A) (rest : List T) → o ≡ got a rest → s rest ≡ u rest) → then_many o s ≡ then_many o u
  same_then (got a rest) s u h = ap (cons_at a) (h a rest refl)
  same_then (failed e rest) s u h = refl

  stop_at : (n : ℕ) → many_at index set r n [] ≡ got [] []
  stop_at zero = refl
  stop_at (suc n) = refl

  many_fuel : (n m : ℕ) (ts : List T) → length ts ≤ n → length ts ≤ m → many_at index set r n ts ≡ many_at index set r m ts
  many_fuel zero m [] le lm = sym (stop_at m)
  many_fuel zero m (t ∷ ts) le lm = absurd (omega arith)
  many_fuel (suc n) zero [] le lm = refl
  many_fuel (suc n) zero (t ∷ ts) le lm = absurd (omega arith)
  many_fuel (suc n) (suc m) ts le lm = ap (λ (o : Read T (List A)). cond (starts index set ts) o (got [] ts)) (same_then (r ts) (many_at index set r n) (many_at index set r m) (λ a rest e. many_fuel n m rest (omega (arith, takes.fewer ts a rest e)) (omega (arith, takes.fewer ts a rest e))))

  many_at_more : (n : ℕ) (ts : List T) → length ts ≤ n → many_at index set r (suc n) ts ≡ cond (starts index set ts) (then_many (r ts) (many index set r)) (got [] ts)
  many_at_more n ts le = ap (λ (o : Read T (List A)). cond (starts index set ts) o (got [] ts)) (same_then (r ts) (many_at index set r n) (many index set r) (λ a rest e. many_fuel n (length rest) rest (omega (arith, takes.fewer ts a rest e)) (omega arith)))

  pub unrolled : (ts : List T) → many index set r ts ≡ cond (starts index set ts) (then_many (r ts) (many index set r)) (got [] ts)
  unrolled ts = many_fuel (length ts) (suc (length ts)) ts (omega arith) (omega arith) ∙ many_at_more (length ts) ts (omega arith)

  pub many_goes_on : (prefix : List A) (ts : List T) (a : A) (rest : List T) (total : Read T (List A)) → starts index set ts ≡ true → r ts ≡ got a rest → with_prefix prefix (many index set r ts) ≡ total → with_prefix (prefix ++ a ∷ []) (many index set r rest) ≡ total
  many_goes_on prefix ts a rest total h e so_far =
      let one : many index set r ts ≡ cons_at a (many index set r rest) = unrolled ts ∙ rw (h, e) refl in
      sym (ap (with_prefix prefix) one ∙ regroup prefix a (many index set r rest)) ∙ so_far

  pub many_fails : (prefix : List A) (ts : List T) (k : Bool) (rest : List T) (total : Read T (List A)) → starts index set ts ≡ true → r ts ≡ failed k rest → with_prefix prefix (many index set r ts) ≡ total → total ≡ failed k rest
  many_fails prefix ts k rest total h e so_far =
      let one : many index set r ts ≡ failed k rest = unrolled ts ∙ rw (h, e) refl in
      sym so_far ∙ ap (with_prefix prefix) one

  pub many_stops : (prefix : List A) (ts : List T) (total : Read T (List A)) → starts index set ts ≡ false → with_prefix prefix (many index set r ts) ≡ total → total ≡ got prefix ts
  many_stops prefix ts total h so_far =
      let one : many index set r ts ≡ got [] ts = unrolled ts ∙ rw h refl in
      sym so_far ∙ ap (with_prefix prefix) one ∙ ap (λ (l : List A). got l ts) (append-nil prefix)

-- ---- the same, where only how far they go counts

-- many phrases, whatever they represent
abbrev pub past : {T A : Type 0} → (T → ℕ) → List ℕ → (List T → Read T A) → List T → Read T (Unit {0})
past index set r = image (λ v. tt) (many index set r)

module _ {T A : Type 0} (index : T → ℕ) (set : List ℕ) (r : List T → Read T A) (takes : Takes r) where
  abbrev forget : Read T (List A) → Read T (Unit {0})
  forget o = o >>= λ x. got tt x.1

  forget_first : (a : A) (o : Read T (List A)) → forget (cons_at a o) ≡ forget o
  forget_first a (got others rest) = refl
  forget_first a (failed e rest) = refl

  pub past_goes_on : (ts : List T) (a : A) (rest : List T) → starts index set ts ≡ true → r ts ≡ got a rest → past index set r rest ≡ past index set r ts
  past_goes_on ts a rest h e =
      let one : many index set r ts ≡ cons_at a (many index set r rest) = unrolled index set r takes ts ∙ rw (h, e) refl in
      sym (ap forget one ∙ forget_first a (many index set r rest))

  pub past_fails : (ts : List T) (k : Bool) (rest : List T) → starts index set ts ≡ true → r ts ≡ failed k rest → past index set r ts ≡ failed k rest
  past_fails ts k rest h e = let one : many index set r ts ≡ failed k rest = unrolled index set r takes ts ∙ rw (h, e) refl in ap forget one

  pub past_stops : (ts : List T) → starts index set ts ≡ false → past index set r ts ≡ got tt ts
  past_stops ts h = let one : many index set r ts ≡ got [] ts = unrolled index set r takes ts ∙ rw h refl in ap forget one

-- ---- separated items

abbrev pub pair_got : {T B C : Type 0} → B × C → List T → Read T (B × C)
pair_got v rest = got v rest

module _ {T A : Type 0} (index : T → ℕ) (sep set : List ℕ) (c : List T → Read T (Unit {0})) (r : List T → Read T A) (takes_sep : Takes c) (takes : Takes r) where
  abbrev pub items_then : (List T → Read T (List A)) → List T → Read T (List A)
  items_then s = either index set (image cons_of (seq r s)) (nothing [])

  abbrev first_then : Read T A → (List T → Read T (List A)) → Read T (List A)
  first_then o s = (o >>= λ x. s x.1 >>= λ y. pair_got (x.0, y.0) y.1) >>= λ v. got (cons_of v.0) v.1

  abbrev cons_pair : A → Read T (List A) → Read T (List A)
  cons_pair a o = (o >>= λ y. pair_got (a, y.0) y.1) >>= λ v. got (cons_of v.0) v.1

  same_first : (o : Read T A) (s u : List T → Read T (List A)) → ((a : A) (rest : List T) → o ≡ got a rest → s rest ≡ u rest) → first_then o s ≡ first_then o u
  same_first (got a rest) s u h = ap (cons_pair a) (h a rest refl)
  same_first (failed e rest) s u h = refl

  same_items : (ts : List T) (s u : List T → Read T (List A)) → ((rest : List T) → length rest < length ts → s rest ≡ u rest) → items_then s ts ≡ items_then u ts
  same_items ts s u h = ap (λ (o : Read T (List A)). cond (starts index set ts) o (got [] ts)) (same_first (r ts) s u (λ a rest e. h rest (takes.fewer ts a rest e)))

  abbrev sep_then : Read T (Unit {0}) → (List T → Read T (List A)) → Read T (List A)
  sep_then o w = (o >>= λ x. w x.1 >>= λ y. pair_got (x.0, y.0) y.1) >>= λ v. got v.0.1 v.1

  abbrev after_pair : Read T (List A) → Read T (List A)
  after_pair o = (o >>= λ y. pair_got (tt {0}, y.0) y.1) >>= λ v. got v.0.1 v.1

  after_pair_is : (o : Read T (List A)) → after_pair o ≡ o
  after_pair_is (got a rest) = refl
  after_pair_is (failed e rest) = refl

  cons_pair_is : (a : A) (o : Read T (List A)) → cons_pair a o ≡ cons_at a o
  cons_pair_is a (got others rest) = refl
  cons_pair_is a (failed e rest) = refl

  same_sep : (o : Read T (Unit {0})) (w v : List T → Read T (List A)) → ((rest : List T) → o ≡ got tt rest → w rest ≡ v rest) → sep_then o w ≡ sep_then o v
  same_sep (got a rest) w v h = ap after_pair (h rest refl)
  same_sep (failed e rest) w v h = refl

  tail_stop : (n : ℕ) → tail_at index sep set c r n [] ≡ got [] []
  tail_stop zero = refl
  tail_stop (suc n) = refl

  tail_step : (n m : ℕ) (ts : List T) → length ts ≤ suc n → length ts ≤ suc m → ((rest : List T) → length rest ≤ n → length rest ≤ m → tail_at index sep set c r n rest ≡ tail_at index sep set c r m rest) → tail_at index sep set c r (suc n) ts ≡ tail_at index sep set c r (suc m) ts
  tail_step n m ts le lm below = ap (λ (o : Read T (List A)). cond (starts index sep ts) o (got [] ts)) (same_sep (c ts) (items_then (tail_at index sep set c r n)) (items_then (tail_at index sep set c r m)) (λ rest e. same_items rest (tail_at index sep set c r n) (tail_at index sep set c r m) (λ after lt. below after (omega (arith, takes_sep.fewer ts tt rest e)) (omega (arith, takes_sep.fewer ts tt rest e)))))

  tail_fuel : (n m : ℕ) (ts : List T) → length ts ≤ n → length ts ≤ m → tail_at index sep set c r n ts ≡ tail_at index sep set c r m ts
  tail_fuel zero m [] le lm = sym (tail_stop m)
  tail_fuel zero m (t ∷ ts) le lm = absurd (omega arith)
  tail_fuel (suc n) zero [] le lm = refl
  tail_fuel (suc n) zero (t ∷ ts) le lm = absurd (omega arith)
  tail_fuel (suc n) (suc m) ts le lm = tail_step n m ts le lm (λ rest lr ls. tail_fuel n m rest lr ls)

  -- a list of items with separators, as a loop reads it
  abbrev pub separated : List T → Read T (List A)
  separated = items_then (tail index sep set c r)

  tail_again : (ts : List T) → tail index sep set c r ts ≡ cond (starts index sep ts) (sep_then (c ts) separated) (got [] ts)
  tail_again ts =
      tail_fuel (length ts) (suc (length ts)) ts (omega arith) (omega arith)
      ∙ ap (λ (o : Read T (List A)). cond (starts index sep ts) o (got [] ts)) (same_sep (c ts) (items_then (tail_at index sep set c r (length ts))) separated (λ rest e. same_items rest (tail_at index sep set c r (length ts)) (tail index sep set c r) (λ after lt. tail_fuel (length ts) (length after) after (omega (arith, takes_sep.fewer ts tt rest e)) (omega arith))))

  pub separated_goes_on : (prefix : List A) (ts : List T) (a : A) (rest after : List T) (total : Read T (List A)) → starts index set ts ≡ true → r ts ≡ got a rest → starts index sep rest ≡ true → c rest ≡ got tt after → with_prefix prefix (separated ts) ≡ total → with_prefix (prefix ++ a ∷ []) (separated after) ≡ total
  separated_goes_on prefix ts a rest after total h e k f so_far =
      let two : tail index sep set c r rest ≡ separated after = tail_again rest ∙ rw (k, f) (after_pair_is (separated after)) in
      let one : separated ts ≡ cons_at a (separated after) = rw (h, e) (cons_pair_is a (tail index sep set c r rest) ∙ ap (cons_at a) two) in
      sym (ap (with_prefix prefix) one ∙ regroup prefix a (separated after)) ∙ so_far

  pub separated_last : (prefix : List A) (ts : List T) (a : A) (rest : List T) (total : Read T (List A)) → starts index set ts ≡ true → r ts ≡ got a rest → starts index sep rest ≡ false → with_prefix prefix (separated ts) ≡ total → total ≡ got (prefix ++ a ∷ []) rest
  separated_last prefix ts a rest total h e k so_far =
      let two : tail index sep set c r rest ≡ got [] rest = tail_again rest ∙ rw k refl in
      let one : separated ts ≡ got (a ∷ []) rest = rw (h, e) (cons_pair_is a (tail index sep set c r rest) ∙ ap (cons_at a) two) in
      sym so_far ∙ ap (with_prefix prefix) one

  pub separated_fails : (prefix : List A) (ts : List T) (b : Bool) (rest : List T) (total : Read T (List A)) → starts index set ts ≡ true → r ts ≡ failed b rest → with_prefix prefix (separated ts) ≡ total → total ≡ failed b rest
  separated_fails prefix ts b rest total h e so_far =
      let one : separated ts ≡ failed b rest = rw (h, e) refl in
      sym so_far ∙ ap (with_prefix prefix) one

  pub separated_breaks : (prefix : List A) (ts : List T) (a : A) (rest : List T) (b : Bool) (us : List T) (total : Read T (List A)) → starts index set ts ≡ true → r ts ≡ got a rest → starts index sep rest ≡ true → c rest ≡ failed b us → with_prefix prefix (separated ts) ≡ total → total ≡ failed b us
  separated_breaks prefix ts a rest b us total h e k f so_far =
      let two : tail index sep set c r rest ≡ failed b us = tail_again rest ∙ rw (k, f) refl in
      let one : separated ts ≡ failed b us = rw (h, e) (cons_pair_is a (tail index sep set c r rest) ∙ ap (cons_at a) two) in
      sym so_far ∙ ap (with_prefix prefix) one

  pub separated_stops : (prefix : List A) (ts : List T) (total : Read T (List A)) → starts index set ts ≡ false → with_prefix prefix (separated ts) ≡ total → total ≡ got prefix ts
  separated_stops prefix ts total h so_far =
      let one : separated ts ≡ got [] ts = rw h refl in
      sym so_far ∙ ap (with_prefix prefix) one ∙ ap (λ (l : List A). got l ts) (append-nil prefix)

-- ---- one token for each item

abbrev tail_of : {T : Type 0} → List T → List T
tail_of [] = []
tail_of (t ∷ ts) = ts

same_token : {T A : Type 0} (f : T → Option A) (t u : T) (a b : A) → t ≡ u → f t ≡ Some a → f u ≡ Some b → a ≡ b
same_token f t u a b e h k = known_is a b (sym h ∙ ap f e ∙ k)

pub one_list : {T A : Type 0} (f : T → Option A) (ts : List T) (xs ys : List A) → Many (One f) ts xs → Many (One f) ts ys → xs ≡ ys
one_list f ts [] [] h k = refl
one_list f ts [] (b ∷ ys) h k = let e : k.3.token ∷ k.1 ≡ [] = ap (λ (l : List _). l ++ k.1) (sym k.3.alone) ∙ sym k.2 ∙ h in absurd cc
one_list f ts (a ∷ xs) [] h k = let e : h.3.token ∷ h.1 ≡ [] = ap (λ (l : List _). l ++ h.1) (sym h.3.alone) ∙ sym h.2 ∙ k in absurd cc
one_list f ts (a ∷ xs) (b ∷ ys) h k =
    let e : h.3.token ∷ h.1 ≡ k.3.token ∷ k.1 = ap (λ (l : List _). l ++ h.1) (sym h.3.alone) ∙ sym h.2 ∙ k.2 ∙ ap (λ (l : List _). l ++ k.1) k.3.alone in
    let one : h.3.token ≡ k.3.token = head_is h.3.token k.3.token h.1 k.1 e in
    let two : h.1 ≡ k.1 = ap tail_of e in
    let three : xs ≡ ys = one_list f k.1 xs ys (subst (λ (l : List _). Many (One f) l xs) two h.4) k.4 in
    rw (same_token f h.3.token k.3.token a b one h.3.means k.3.means, three) refl
