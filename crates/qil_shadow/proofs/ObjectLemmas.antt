-- The table of objects: which are living, in which order, and what ends.
use Rattle.std.proofs.Common.{◌≡◌, ℕ, zero, suc, ◌+◌, ◌-◌, ◌<◌, ◌≤◌, Bool, true, false, ◌&&◌, leb, cond, List, [], ◌∷◌, ◌++◌, length, map, set, take, drop, get_or, Option, Some, None, slice_get, unwrap_or, refl, sym, ◌∙◌, ap, subst, arith}
use Rattle.std.specs.Prelude.{find, All, is_none, if◌then◌else◌, ◌==◌}
use Rattle.std.specs.List.{AllByRecursion}
use Rattle.std.proofs.lemmas.Bool.{false≢true}
use Rattle.std.proofs.lemmas.Bool.Decides.{nat_tests}
use Rattle.std.proofs.lemmas.List.{take-append-drop, drop-set-add, take-set-le, length-drop, length-append, nil_from_length, length-set, take-append-le, drop-append-le}
use Rattle.std.proofs.lemmas.List.Folds.{find-append}
use Rattle.std.proofs.lemmas.Option.{get_or_from_slice_get, slice_get_within, slice_get-get_or}
use Rattle.std.proofs.Math.Seq.{map-set_same}
use Rattle.std.specs.Option.{option_or}
use Rattle.std.proofs.lemmas.List.Elements.{recursion_from_All, All-from_recursion}
use Rattle.qil_shadow.specs.declared.object.Object.{Object}
use Rattle.qil_shadow.specs.Numbered.{has_bytes}
use Rattle.qil_shadow.specs.Table.{ObjectTable, is_living, has_one, has_byte, object_at, ends_with, IsFixed, IsLow, IsBelow, IsWithin, IsStacked, living_from, IsTable, Lacks, HasFound}

-- ---- lists

pub each_at : {X : Type 0} (P : X → Type 0) (xs : List X) (i : ℕ) (x : X) → AllByRecursion P xs → slice_get xs i ≡ Some x → P x
each_at P [] i x all is = absurd (cc)
each_at P (y ∷ ys) zero x all is = subst (λ o. P (unwrap_or o y)) is all.0
each_at P (y ∷ ys) (suc i) x all is = each_at P ys i x all.1 is

each_set : {X : Type 0} (P : X → Type 0) (xs : List X) (i : ℕ) (x : X) → P x → AllByRecursion P xs → AllByRecursion P (set xs i x)
each_set P [] i x it all = tt
each_set P (y ∷ ys) zero x it all = (it, all.1)
each_set P (y ∷ ys) (suc i) x it all = (all.0, each_set P ys i x it all.1)

each_push : {X : Type 0} (P : X → Type 0) (xs : List X) (x : X) → AllByRecursion P xs → P x → AllByRecursion P (xs ++ x ∷ [])
each_push P [] x all it = (it, tt)
each_push P (y ∷ ys) x all it = (all.0, each_push P ys x all.1 it)

get_past : {X : Type 0} (xs : List X) (n i : ℕ) → slice_get xs (n + i) ≡ slice_get (drop n xs) i
get_past xs zero i = let e : zero + i ≡ i = omega arith in ap (slice_get xs) e
get_past [] (suc n) i = refl
get_past (x ∷ xs) (suc n) i = let e : suc n + i ≡ suc (n + i) = omega arith in ap (slice_get (x ∷ xs)) e ∙ get_past xs n i

-- ---- which are living

-- by whether the first is
none_here : (b : Bool) (o : Object) (os : List Object) (n d : ℕ) → is_living o ≡ b → (if b then n ∷ living_from (suc n) os else living_from (suc n) os) ≡ []
    → (living_from (suc n) os ≡ [] → AllByRecursion (λ x. is_living x ≡ true → x.depth < d) os) → AllByRecursion (λ x. is_living x ≡ true → x.depth < d) (o ∷ os)
none_here true o os n d is e rest = absurd (cc)
none_here false o os n d is e rest = (λ lives. absurd (false≢true (sym is ∙ lives)), rest e)

none_living : (os : List Object) (n d : ℕ) → living_from n os ≡ [] → AllByRecursion (λ x. is_living x ≡ true → x.depth < d) os
none_living [] n d e = tt
none_living (o ∷ os) n d e = none_here (is_living o) o os n d refl e (none_living os (suc n) d)

-- what ends of those that are not so deep: none
stays_by : (b c : Bool) (x o : Object) → (b ≡ true → c ≡ true → ⊥) → (if b && c then x else o) ≡ o
stays_by true true x o not_both = absurd (not_both refl refl)
stays_by true false x o not_both = refl
stays_by false c x o not_both = refl

stays : (o : Object) (d p : ℕ) → (is_living o ≡ true → o.depth < d) → ends_with d p o ≡ o
stays o d p low = stays_by (is_living o) (o.depth == d) (record o { ended = Some p }) o (λ lives same. let less : o.depth < d = low lives in let even : o.depth ≡ d = grind (arith, nat_tests) in omega (arith, less, even))

pub none_ends : (os : List Object) (d p : ℕ) → AllByRecursion (λ x. is_living x ≡ true → x.depth < d) os → map (ends_with d p) os ≡ os
none_ends [] d p low = refl
none_ends (o ∷ os) d p low = let one = stays o d p low.0 in let others = none_ends os d p low.1 in λ i. one i ∷ others i

-- the last of those that are living
record IsLast (os : List Object) (n : ℕ) (before : List ℕ) (last : ℕ) : Type 0 where
  at : ℕ
  one : Object
  place : last ≡ n + at
  is : slice_get os at ≡ Some one
  lives : is_living one ≡ true
  gone : (x : Object) → is_living x ≡ false → living_from n (set os at x) ≡ before
  deepest : AllByRecursion (IsWithin one.depth) os

within_none : (d : ℕ) (os : List Object) → AllByRecursion (λ x. is_living x ≡ true → x.depth < suc d) os → AllByRecursion (IsWithin d) os
within_none d [] low = tt
within_none d (o ∷ os) low = (λ lives. let less : o.depth < suc d = low.0 lives in omega (arith, less), within_none d os low.1)

cons_last : {X : Type 0} (x l : X) (xs ls : List X) → x ∷ xs ≡ l ∷ ls → (x ≡ l) × (xs ≡ ls)
cons_last x l xs ls e = (cc, cc)

-- the first is living: it is the last, or one after it is
last_here : (before : List ℕ) (o : Object) (os : List Object) (n last : ℕ) → is_living o ≡ true → AllByRecursion (IsBelow o) os
    → n ∷ living_from (suc n) os ≡ before ++ last ∷ [] → ((earlier : List ℕ) → living_from (suc n) os ≡ earlier ++ last ∷ [] → IsLast os (suc n) earlier last)
    → IsLast (o ∷ os) n before last
last_here [] o os n last lives below e later =
    let parts = cons_last n last (living_from (suc n) os) [] e in
    record {
      at = 0;
      one = o;
      place = omega (arith, parts.0);
      is = refl;
      lives = lives;
      gone = λ x dead. rw dead parts.1;
      deepest = (λ _. omega arith, within_none o.depth os (none_living os (suc n) (suc o.depth) parts.1));
    }
last_here (l ∷ earlier) o os n last lives below e later =
    let parts = cons_last n l (living_from (suc n) os) (earlier ++ last ∷ []) e in
    let r = later earlier parts.1 in
    record {
      at = suc r.at;
      one = r.one;
      place = omega (arith, r.place);
      is = r.is;
      lives = r.lives;
      gone = λ x dead. rw lives (let others = r.gone x dead in λ i. parts.0 i ∷ others i);
      deepest = (λ living. (each_at (IsBelow o) os r.at r.one below r.is living r.lives).1, r.deepest);
    }

last_later : (o : Object) (os : List Object) (n last : ℕ) (before : List ℕ) → is_living o ≡ false → IsLast os (suc n) before last → IsLast (o ∷ os) n before last
last_later o os n last before dead r = record {
  at = suc r.at;
  one = r.one;
  place = omega (arith, r.place);
  is = r.is;
  lives = r.lives;
  gone = λ x over. rw dead (r.gone x over);
  deepest = (λ living. absurd (false≢true (sym dead ∙ living)), r.deepest);
}

last_by : (b : Bool) (o : Object) (os : List Object) (n last : ℕ) (before : List ℕ) → is_living o ≡ b → AllByRecursion (IsBelow o) os
    → (if b then n ∷ living_from (suc n) os else living_from (suc n) os) ≡ before ++ last ∷ []
    → ((earlier : List ℕ) → living_from (suc n) os ≡ earlier ++ last ∷ [] → IsLast os (suc n) earlier last) → IsLast (o ∷ os) n before last
last_by true o os n last before is below e later = last_here before o os n last is below e later
last_by false o os n last before is below e later = last_later o os n last before is (later before e)

not_empty : {X : Type 0} (xs : List X) (x : X) → [] ≡ xs ++ x ∷ [] → ⊥
not_empty [] x e = absurd (cc)
not_empty (y ∷ ys) x e = absurd (cc)

last_living : (os : List Object) (n last : ℕ) (before : List ℕ) → IsStacked os → living_from n os ≡ before ++ last ∷ [] → IsLast os n before last
last_living [] n last before stacked e = absurd (not_empty before last e)
last_living (o ∷ os) n last before stacked e = last_by (is_living o) o os n last before refl stacked.0 e (λ earlier. last_living os (suc n) last earlier stacked.1)

-- ---- the order

-- one in the place of another that isn't living
below_dead : (o x : Object) → is_living x ≡ false → IsBelow o x
below_dead o x dead = λ _ living. absurd (false≢true (sym dead ∙ living))

dead_below : (x : Object) (os : List Object) → is_living x ≡ false → AllByRecursion (IsBelow x) os
dead_below x [] dead = tt
dead_below x (o ∷ os) dead = (λ living _. absurd (false≢true (sym dead ∙ living)), dead_below x os dead)

stacked-set : (os : List Object) (i : ℕ) (x : Object) → is_living x ≡ false → IsStacked os → IsStacked (set os i x)
stacked-set [] i x dead stacked = tt
stacked-set (o ∷ os) zero x dead stacked = (dead_below x os dead, stacked.1)
stacked-set (o ∷ os) (suc i) x dead stacked = (each_set (IsBelow o) os i x (below_dead o x dead) stacked.0, stacked-set os i x dead stacked.1)

stacked-push : (os : List Object) (x : Object) → IsStacked os → AllByRecursion (λ o. IsBelow o x) os → IsStacked (os ++ x ∷ [])
stacked-push [] x stacked above = (tt, tt)
stacked-push (o ∷ os) x stacked above = (each_push (IsBelow o) os x stacked.0 above.0, stacked-push os x stacked.1 above.1)

living_push_by : (b : Bool) (n m : ℕ) (ns ms : List ℕ) → ms ≡ ns ++ m ∷ [] → (if b then n ∷ ms else ms) ≡ (if b then n ∷ ns else ns) ++ m ∷ []
living_push_by true n m ns ms e = λ i. n ∷ e i
living_push_by false n m ns ms e = e

living-push : (os : List Object) (n : ℕ) (x : Object) → is_living x ≡ true → living_from n (os ++ x ∷ []) ≡ living_from n os ++ (n + length os) ∷ []
living-push [] n x lives = rw lives (let e : n ≡ n + 0 = omega arith in λ i. e i ∷ [])
living-push (o ∷ os) n x lives =
    let e : suc n + length os ≡ n + suc (length os) = omega arith in
    living_push_by (is_living o) n (n + suc (length os)) (living_from (suc n) os) (living_from (suc n) (os ++ x ∷ [])) (living-push os (suc n) x lives ∙ ap (λ m. living_from (suc n) os ++ m ∷ []) e)

-- ---- the table

pub table_object : (all : List Object) (fixed : ℕ) (living starts : List ℕ) (apart : Bool) (x : Object) → IsTable all fixed living starts apart → x.ended ≡ None → IsLow x
    → All (λ o. IsBelow o x) (drop fixed all) → IsTable (all ++ x ∷ []) fixed (living ++ length all ∷ []) starts apart
table_object all fixed living starts apart x table lives low above =
    let more : drop fixed (all ++ x ∷ []) ≡ drop fixed all ++ x ∷ [] = drop-append-le fixed all (x ∷ []) table.within in
    let front : take fixed (all ++ x ∷ []) ≡ take fixed all = take-append-le fixed all (x ∷ []) table.within in
    let is : is_living x ≡ true = ap is_none lives in
    let at : fixed + length (drop fixed all) ≡ length all = omega (arith, length-drop fixed all, table.within) in
    record {
      within = omega (arith, table.within, length-append all (x ∷ []));
      stay = subst (AllByRecursion IsFixed) (sym front) table.stay;
      numbers = ap (λ ns. ns ++ length all ∷ []) table.numbers ∙ ap (λ m. living_from fixed (drop fixed all) ++ m ∷ []) (sym at) ∙ sym (living-push (drop fixed all) fixed x is) ∙ ap (living_from fixed) (sym more);
      stacked = subst IsStacked (sym more) (stacked-push (drop fixed all) x table.stacked (recursion_from_All (λ o. IsBelow o x) (drop fixed all) above));
      apart = table.apart;
      low = each_push IsLow all x table.low low;
    }

-- ---- what ends

abbrev ended_by : ℕ → Object → Object
ended_by p o = record o { ended = Some p }

-- the last that is living, by its number among all
pub record IsLastOf (all : List Object) (fixed : ℕ) (before starts : List ℕ) (apart : Bool) (last d p : ℕ) (one : Object) : Type 0 where
  pub there : last < length all
  pub lives : is_living one ≡ true
  pub deepest : AllByRecursion (IsWithin one.depth) (drop fixed all)
  pub table : IsTable (set all last (ended_by p one)) fixed before starts apart
  pub within : AllByRecursion (IsWithin d) (drop fixed (set all last (ended_by p one)))

pub last_of : (all : List Object) (fixed : ℕ) (before starts : List ℕ) (apart : Bool) (last d p : ℕ) (one : Object) → IsTable all fixed (before ++ last ∷ []) starts apart
    → slice_get all last ≡ Some one → AllByRecursion (IsWithin d) (drop fixed all) → IsLastOf all fixed before starts apart last d p one
last_of all fixed before starts apart last d p one table is within =
    let r = last_living (drop fixed all) fixed last before table.stacked (sym table.numbers) in
    let x = ended_by p one in
    let dead : is_living x ≡ false = refl in
    let moved : drop fixed (set all last x) ≡ set (drop fixed all) r.at x = ap (λ i. drop fixed (set all i x)) r.place ∙ drop-set-add fixed all r.at x in
    let front : take fixed (set all last x) ≡ take fixed all = take-set-le fixed all last x (omega (arith, r.place)) in
    let one_is : one ≡ r.one = ap (λ o. unwrap_or o one) (sym is ∙ ap (slice_get all) r.place ∙ get_past all fixed r.at ∙ r.is) in
    record {
      there = slice_get_within all last one is;
      lives = ap is_living one_is ∙ r.lives;
      deepest = subst (λ o. AllByRecursion (IsWithin o.depth) (drop fixed all)) (sym one_is) r.deepest;
      table = record {
        within = omega (arith, table.within, length-set all last x);
        stay = subst (AllByRecursion IsFixed) (sym front) table.stay;
        numbers = sym (r.gone x dead) ∙ ap (living_from fixed) (sym moved);
        stacked = subst IsStacked (sym moved) (stacked-set (drop fixed all) r.at x dead table.stacked);
        apart = table.apart;
        low = each_set IsLow all last x (each_at IsLow all last one table.low is) table.low;
      };
      within = subst (AllByRecursion (IsWithin d)) (sym moved) (each_set (IsWithin d) (drop fixed all) r.at x (λ living. absurd (false≢true living)) within);
    }

-- ends_with can't tell it from what it ends as
ends_both : (b c : Bool) (x o : Object) → b ≡ true → c ≡ true → x ≡ (if b && c then x else o)
ends_both true true x o lives same = refl
ends_both false c x o lives same = absurd (cc)
ends_both true false x o lives same = absurd (cc)

ends_same : (d p : ℕ) (o : Object) → is_living o ≡ true → o.depth ≡ d → ends_with d p (ended_by p o) ≡ ends_with d p o
ends_same d p o lives same = ends_both (is_living o) (o.depth == d) (ended_by p o) o lives (grind (arith, nat_tests))

pub ended_all : (all : List Object) (last d p : ℕ) (one : Object) → slice_get all last ≡ Some one → is_living one ≡ true → one.depth ≡ d
    → map (ends_with d p) (set all last (ended_by p one)) ≡ map (ends_with d p) all
ended_all all last d p one is lives same =
    let get : get_or all last one ≡ one = get_or_from_slice_get all last one one is in
    map-set_same (ends_with d p) all last (ended_by p one) one (ends_same d p one lives same ∙ ap (ends_with d p) (sym get))

-- ---- where nothing more ends

fixed_low : (os : List Object) (d : ℕ) → 0 < d → AllByRecursion IsFixed os → AllByRecursion (λ x. is_living x ≡ true → x.depth < d) os
fixed_low [] d some stay = tt
fixed_low (o ∷ os) d some stay = (λ living. omega (arith, stay.0.1, some), fixed_low os d some stay.1)

each_append : {X : Type 0} (P : X → Type 0) (xs ys : List X) → AllByRecursion P xs → AllByRecursion P ys → AllByRecursion P (xs ++ ys)
each_append P [] ys here there = there
each_append P (x ∷ xs) ys here there = (here.0, each_append P xs ys here.1 there)

no_more : (all : List Object) (fixed d p : ℕ) → 0 < d → AllByRecursion IsFixed (take fixed all) → AllByRecursion (λ x. is_living x ≡ true → x.depth < d) (drop fixed all)
    → map (ends_with d p) all ≡ all
no_more all fixed d p some stay low =
    let each = each_append (λ x. is_living x ≡ true → x.depth < d) (take fixed all) (drop fixed all) (fixed_low (take fixed all) d some stay) low in
    none_ends all d p (subst (AllByRecursion (λ x. is_living x ≡ true → x.depth < d)) (take-append-drop fixed all) each)

below_depth : (os : List Object) (m d : ℕ) → m < d → AllByRecursion (IsWithin m) os → AllByRecursion (λ x. is_living x ≡ true → x.depth < d) os
below_depth [] m d less within = tt
below_depth (o ∷ os) m d less within = (λ living. let low : o.depth ≤ m = within.0 living in omega (arith, low, less), below_depth os m d less within.1)

pub no_more_last : (all : List Object) (fixed d p : ℕ) (before starts : List ℕ) (apart : Bool) (last : ℕ) (one : Object) → 0 < d → IsTable all fixed (before ++ last ∷ []) starts apart
    → slice_get all last ≡ Some one → AllByRecursion (IsWithin d) (drop fixed all) → (one.depth ≡ d → ⊥) → map (ends_with d p) all ≡ all
no_more_last all fixed d p before starts apart last one some table is within other =
    let r = last_living (drop fixed all) fixed last before table.stacked (sym table.numbers) in
    let one_is : one ≡ r.one = ap (λ o. unwrap_or o one) (sym is ∙ ap (slice_get all) r.place ∙ get_past all fixed r.at ∙ r.is) in
    let is_within : r.one.depth ≤ d = each_at (IsWithin d) (drop fixed all) r.at r.one within r.is r.lives in
    let is_other : r.one.depth ≡ d → ⊥ = λ e. other (ap (λ o. o.depth) one_is ∙ e) in
    no_more all fixed d p some table.stay (below_depth (drop fixed all) r.one.depth d (omega (arith, is_within, is_other)) r.deepest)

pub no_more_none : (all : List Object) (fixed d p : ℕ) (starts : List ℕ) (apart : Bool) → 0 < d → IsTable all fixed [] starts apart → map (ends_with d p) all ≡ all
no_more_none all fixed d p starts apart some table = no_more all fixed d p some table.stay (none_living (drop fixed all) fixed d (sym table.numbers))

-- ---- the numbers of the living ones

numbers_by : (b : Bool) (P : ℕ → Type 0) (n : ℕ) (ms : List ℕ) → P n → AllByRecursion P ms → AllByRecursion P (if b then n ∷ ms else ms)
numbers_by true P n ms here later = (here, later)
numbers_by false P n ms here later = later

numbers_below : (os : List Object) (n m : ℕ) → n + length os ≤ m → AllByRecursion (λ i. i < m) (living_from n os)
numbers_below [] n m high = tt
numbers_below (o ∷ os) n m high =
    numbers_by (is_living o) (λ i. i < m) n (living_from (suc n) os) (omega (arith, high)) (numbers_below os (suc n) m (omega (arith, high)))

pub numbers_there : (all : List Object) (fixed : ℕ) (living starts : List ℕ) (apart : Bool) → IsTable all fixed living starts apart → All (λ i. i < length all) living
numbers_there all fixed living starts apart table =
    All-from_recursion (λ i. i < length all) living (subst (AllByRecursion (λ i. i < length all)) (sym table.numbers)
    (numbers_below (drop fixed all) fixed (length all) (omega (arith, length-drop fixed all, table.within))))

-- ---- which has a byte

found_byte : (b c : Bool) → b ≡ true → c ≡ true → (b && c) ≡ true
found_byte true c lives has = has
found_byte false c lives has = absurd (cc)

both_true : (b c : Bool) → (b && c) ≡ true → (b ≡ true) × (c ≡ true)
both_true true c e = (refl, e)
both_true false c e = absurd (cc)

no_byte : (b c : Bool) → c ≡ false → (b && c) ≡ false
no_byte true c none = none
no_byte false c none = refl

-- two that are living share none
apart_bytes : (o x : Object) (a : ℕ) → IsBelow o x → is_living o ≡ true → is_living x ≡ true → has_bytes o a 1 ≡ true → has_bytes x a 1 ≡ true → ⊥
apart_bytes o x a below lives living has holds =
    let order = below lives living in
    let of_o = both_true (leb o.address a) (leb (a + 1) (o.address + o.size)) has in
    let of_x = both_true (leb x.address a) (leb (a + 1) (x.address + x.size)) holds in
    let high : a + 1 ≤ o.address + o.size = grind (arith, nat_tests, of_o.1) in
    let low : x.address ≤ a = grind (arith, nat_tests, of_x.0) in
    omega (arith, order.0, high, low)

first_by : (b : Bool) (o : Object) (rest found : Option Object) → (b ≡ true → ⊥) → rest ≡ found → cond b (Some o) rest ≡ found
first_by true o rest found not e = absurd (not refl)
first_by false o rest found not e = e

found_first : (os : List Object) (i a : ℕ) (o : Object) → IsStacked os → slice_get os i ≡ Some o → is_living o ≡ true → has_bytes o a 1 ≡ true → find (has_byte a) os ≡ Some o
found_first [] i a o stacked is lives has = absurd (cc)
found_first (x ∷ xs) zero a o stacked is lives has =
    let same : x ≡ o = ap (λ q. unwrap_or q x) is in
    let has_it : has_byte a x ≡ true = ap (has_byte a) same ∙ found_byte (is_living o) (has_bytes o a 1) lives has in
    ap (λ b. cond b (Some x) (find (has_byte a) xs)) has_it ∙ is
found_first (x ∷ xs) (suc i) a o stacked is lives has =
    first_by (has_byte a x) x (find (has_byte a) xs) (Some o)
    (λ here. let parts = both_true (is_living x) (has_bytes x a 1) here in apart_bytes x o a (each_at (IsBelow x) xs i o stacked.0 is) parts.0 lives parts.1 has)
    (found_first xs i a o stacked.1 is lives has)

-- where none of the living ones has it
lacking_by : (b : Bool) (P : ℕ → Type 0) (n : ℕ) (ms : List ℕ) → AllByRecursion P (if b then n ∷ ms else ms) → (b ≡ true → P n) × (AllByRecursion P ms)
lacking_by true P n ms all = (λ e. all.0, all.1)
lacking_by false P n ms all = (λ e. absurd (false≢true e), all)

found_none : (all os : List Object) (n a : ℕ) → ((k : ℕ) → slice_get all (n + k) ≡ slice_get os k) → AllByRecursion (Lacks a all) (living_from n os) → find (has_byte a) os ≡ None
found_none all [] n a at lacking = refl
found_none all (o ∷ os) n a at lacking =
    let parts = lacking_by (is_living o) (Lacks a all) n (living_from (suc n) os) lacking in
    let here : slice_get all n ≡ Some o = let e : n ≡ n + 0 = omega arith in ap (slice_get all) e ∙ at 0 in
    first_by (has_byte a o) o (find (has_byte a) os) None
    (λ has. let both = both_true (is_living o) (has_bytes o a 1) has in false≢true (sym (parts.0 both.0 o here) ∙ both.1))
    (found_none all os (suc n) a (λ k. let e : suc n + k ≡ n + suc k = omega arith in ap (slice_get all) e ∙ at (suc k)) parts.1)

-- the number at a place among those of the living ones
record IsPlaced (os : List Object) (n number : ℕ) : Type 0 where
  at : ℕ
  one : Object
  place : number ≡ n + at
  is : slice_get os at ≡ Some one
  lives : is_living one ≡ true

placed_later : (o : Object) (os : List Object) (n number : ℕ) → IsPlaced os (suc n) number → IsPlaced (o ∷ os) n number
placed_later o os n number r = record { at = suc r.at; one = r.one; place = omega (arith, r.place); is = r.is; lives = r.lives }

placed_by : (b : Bool) (o : Object) (os : List Object) (n k : ℕ) → is_living o ≡ b → k < length (if b then n ∷ living_from (suc n) os else living_from (suc n) os)
    → ((j : ℕ) → j < length (living_from (suc n) os) → IsPlaced os (suc n) (get_or (living_from (suc n) os) j 0))
    → IsPlaced (o ∷ os) n (get_or (if b then n ∷ living_from (suc n) os else living_from (suc n) os) k 0)
placed_by true o os n zero is there later = record { at = 0; one = o; place = omega arith; is = refl; lives = is }
placed_by true o os n (suc k) is there later = placed_later o os n (get_or (living_from (suc n) os) k 0) (later k (omega (arith, there)))
placed_by false o os n k is there later = placed_later o os n (get_or (living_from (suc n) os) k 0) (later k there)

placed : (os : List Object) (n k : ℕ) → k < length (living_from n os) → IsPlaced os n (get_or (living_from n os) k 0)
placed [] n k there = absurd (omega (arith, there))
placed (o ∷ os) n k there = placed_by (is_living o) o os n k refl there (placed os (suc n))

found_placed : (all : List Object) (fixed number a : ℕ) (o : Object) → IsStacked (drop fixed all) → IsPlaced (drop fixed all) fixed number → slice_get all number ≡ Some o → has_bytes o a 1 ≡ true
    → Some o ≡ find (has_byte a) (drop fixed all)
found_placed all fixed number a o stacked r is has =
    let there : slice_get (drop fixed all) r.at ≡ Some o = sym (get_past all fixed r.at) ∙ ap (slice_get all) (sym r.place) ∙ is in
    let same : r.one ≡ o = ap (λ q. unwrap_or q o) (sym r.is ∙ there) in
    sym (found_first (drop fixed all) r.at a o stacked there (ap is_living (sym same) ∙ r.lives) has)

found_stack : (all : List Object) (fixed : ℕ) (living starts : List ℕ) (apart : Bool) (a : ℕ) (r : Option Object) → IsTable all fixed living starts apart → HasFound all living a r
    → r ≡ find (has_byte a) (drop fixed all)
found_stack all fixed living starts apart a None table found =
    sym (found_none all (drop fixed all) fixed a (get_past all fixed) (subst (AllByRecursion (Lacks a all)) table.numbers found))
found_stack all fixed living starts apart a (Some o) table found =
    let within : found.0 < length (living_from fixed (drop fixed all)) = subst (λ ns. found.0 < length ns) table.numbers found.1 in
    let number : get_or living found.0 0 ≡ get_or (living_from fixed (drop fixed all)) found.0 0 = ap (λ ns. get_or ns found.0 0) table.numbers in
    found_placed all fixed (get_or (living_from fixed (drop fixed all)) found.0 0) a o table.stacked (placed (drop fixed all) fixed found.0 within) (ap (slice_get all) (sym number) ∙ found.2) found.3

-- those that are there from the start on are all living
found_fixed : (os : List Object) (a : ℕ) → AllByRecursion IsFixed os → find (has_byte a) os ≡ find (has_one a) os
found_fixed [] a stay = refl
found_fixed (o ∷ os) a stay =
    let lives : is_living o ≡ true = ap is_none stay.0.0 in
    let same : has_byte a o ≡ has_one a o = ap (λ b. b && has_one a o) lives in
    let others = found_fixed os a stay.1 in
    λ i. cond (same i) (Some o) (others i)

found_all : (all : List Object) (fixed : ℕ) (living starts : List ℕ) (apart : Bool) (a : ℕ) → IsTable all fixed living starts apart
    → object_at all a ≡ option_or (find (has_one a) (take fixed all)) (find (has_byte a) (drop fixed all))
found_all all fixed living starts apart a table =
    ap (λ os. find (has_byte a) os) (sym (take-append-drop fixed all)) ∙ find-append (has_byte a) (take fixed all) (drop fixed all)
    ∙ ap (λ o. option_or o (find (has_byte a) (drop fixed all))) (found_fixed (take fixed all) a table.stay)

pub found_first_of : (all : List Object) (fixed : ℕ) (living starts : List ℕ) (apart : Bool) (a : ℕ) (o : Object) → IsTable all fixed living starts apart
    → Some o ≡ find (has_one a) (take fixed all) → Some o ≡ object_at all a
found_first_of all fixed living starts apart a o table first =
    ap (λ q. option_or q (find (has_byte a) (drop fixed all))) first ∙ sym (found_all all fixed living starts apart a table)

pub found_last_of : (all : List Object) (fixed : ℕ) (living starts : List ℕ) (apart : Bool) (a : ℕ) (r : Option Object) → IsTable all fixed living starts apart
    → None ≡ find (has_one a) (take fixed all) → HasFound all living a r → r ≡ object_at all a
found_last_of all fixed living starts apart a r table first found =
    found_stack all fixed living starts apart a r table found ∙ ap (λ q. option_or q (find (has_byte a) (drop fixed all))) first ∙ sym (found_all all fixed living starts apart a table)

-- ---- as the end of a call goes

split_last : (xs : List ℕ) (n x : ℕ) → suc n ≡ length xs → slice_get xs n ≡ Some x → xs ≡ take n xs ++ x ∷ []
split_last [] n x long is = absurd (cc)
split_last (y ∷ ys) zero x long is =
    let same : y ≡ x = ap (λ o. unwrap_or o y) is in
    let none : ys ≡ [] = nil_from_length ys (omega (arith, long)) in
    λ i. same i ∷ none i
split_last (y ∷ ys) (suc n) x long is = let later = split_last ys n x (omega (arith, long)) is in λ i. y ∷ later i

split_living : (living rest : List ℕ) (last : ℕ) → slice_get living (length living - 1) ≡ Some last → rest ≡ take (length living - 1) living → living ≡ rest ++ last ∷ []
split_living living rest last is taken =
    let there = slice_get_within living (length living - 1) last is in
    split_last living (length living - 1) last (omega (arith, there)) is ∙ ap (λ xs. xs ++ last ∷ []) (sym taken)

pub one_shorter : (living rest : List ℕ) (last : ℕ) → slice_get living (length living - 1) ≡ Some last → rest ≡ take (length living - 1) living → length rest + 1 ≡ length living
one_shorter living rest last is taken = omega (arith, ap length (split_living living rest last is taken), length-append rest (last ∷ []))

pub last_there : (all : List Object) (fixed : ℕ) (living starts : List ℕ) (apart : Bool) (last : ℕ) → IsTable all fixed living starts apart
    → slice_get living (length living - 1) ≡ Some last → last < length all
last_there all fixed living starts apart last table is =
    each_at (λ i. i < length all) living (length living - 1) last (recursion_from_All (λ i. i < length all) living (numbers_there all fixed living starts apart table)) is

one_there : (all : List Object) (last : ℕ) (one : Object) → last < length all → one ≡ get_or all last one → slice_get all last ≡ Some one
one_there all last one there is = slice_get-get_or all last one there ∙ ap (λ o. Some o) (sym is)

-- the innermost one that is living was made in another call: all that ends has ended
pub end_done : (all : List Object) (fixed d p : ℕ) (living starts : List ℕ) (apart : Bool) (last : ℕ) (one : Object) → 0 < d → IsTable all fixed living starts apart
    → slice_get living (length living - 1) ≡ Some last → one ≡ get_or all last one → AllByRecursion (IsWithin d) (drop fixed all) → (one.depth ≡ d → ⊥) → map (ends_with d p) all ≡ all
end_done all fixed d p living starts apart last one some table is_last is within other =
    let there = last_there all fixed living starts apart last table is_last in
    let split = split_living living (take (length living - 1) living) last is_last refl in
    no_more_last all fixed d p (take (length living - 1) living) starts apart last one some (subst (λ ns. IsTable all fixed ns starts apart) split table) (one_there all last one there is) within other

pub record HasEnded (all : List Object) (fixed : ℕ) (rest starts : List ℕ) (apart : Bool) (last d p : ℕ) (one : Object) : Type 0 where
  pub table : IsTable (set all last (ended_by p one)) fixed rest starts apart
  pub same : map (ends_with d p) (set all last (ended_by p one)) ≡ map (ends_with d p) all
  pub within : AllByRecursion (IsWithin d) (drop fixed (set all last (ended_by p one)))

-- it was made in the innermost call: it ends
pub end_step : (all : List Object) (fixed d p : ℕ) (living rest starts : List ℕ) (apart : Bool) (last : ℕ) (tested one : Object) → IsTable all fixed living starts apart
    → slice_get living (length living - 1) ≡ Some last → rest ≡ take (length living - 1) living → tested ≡ get_or all last tested → one ≡ get_or all last one
    → AllByRecursion (IsWithin d) (drop fixed all) → tested.depth ≡ d → HasEnded all fixed rest starts apart last d p one
end_step all fixed d p living rest starts apart last tested one table is_last taken tested_is is within same =
    let there = last_there all fixed living starts apart last table is_last in
    let one_is = one_there all last one there is in
    let both : tested ≡ one = ap (λ o. unwrap_or o tested) (sym (one_there all last tested there tested_is) ∙ one_is) in
    let split = split_living living rest last is_last taken in
    let r = last_of all fixed rest starts apart last d p one (subst (λ ns. IsTable all fixed ns starts apart) split table) one_is within in
    record { table = r.table; same = ended_all all last d p one one_is r.lives (ap (λ o. o.depth) (sym both) ∙ same); within = r.within }

pub end_empty : (all : List Object) (fixed d p : ℕ) (living starts : List ℕ) (apart : Bool) → 0 < d → IsTable all fixed living starts apart → length living ≡ 0 → map (ends_with d p) all ≡ all
end_empty all fixed d p living starts apart some table none =
    no_more_none all fixed d p starts apart some (subst (λ ns. IsTable all fixed ns starts apart) (nil_from_length living none) table)

pub as_table : (now : List Object) (fixed : ℕ) (f : Object → Object) (starts : List ℕ) (t : ObjectTable) → map f now ≡ now → map f now ≡ map f t.objects → fixed ≡ t.fixed → starts ≡ t.starts
    → ◌≡◌ {A = ObjectTable} (record { objects = now; fixed = fixed; starts = starts }) (record t { objects = map f t.objects })
as_table now fixed f starts t done same fixed_is starts_are =
    let all : now ≡ map f t.objects = sym done ∙ same in
    λ i. record { objects = all i; fixed = fixed_is i; starts = starts_are i }
