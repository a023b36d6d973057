-- Notes by number: one suspicion more, and that they are by names those of the definition.
use Rattle.std.proofs.Common.{◌≡◌, ◌∙◌, refl, sym, ap, subst, ℕ, zero, suc, ◌+◌, ◌-◌, ◌^◌, ◌<◌, ◌≤◌, min, Bool, true, false, ◌&&◌, ◌==◌, if◌then◌else◌, List, [], ◌∷◌, ◌++◌, length, map, Option, Some, None, option_map, unwrap_or, arith}
use Rattle.std.specs.Prelude.{slice_get, slice_set, get_or, drop, ⊤}
use Rattle.std.specs.List.{AllByRecursion}
use Rattle.std.specs.Str.{bytes_eq}
use Rattle.std.proofs.lemmas.Bool.{true≢false}
use Rattle.std.proofs.lemmas.Bool.Decides.{nat_tests}
use Rattle.std.proofs.lemmas.List.{append_assoc, append-nil, drop_all, drop_more}
use Rattle.std.proofs.lemmas.Option.{get_or_from_slice_get}
use Rattle.std.proofs.lemmas.Slice.Eq.{bytes_eq-Decides}
use Rattle.qil_tree.specs.declared.tree.Block.{Block}
use Rattle.qil_tree.specs.declared.tree.Func.{Func}
use Rattle.qil_tree.specs.declared.tree.Program.{Program}
use Rattle.qil_semantics.specs.State.{Name, Frame, State}
use Rattle.qil_semantics.specs.Stops as stops
use Rattle.qil_code.specs.Facts as facts
use Rattle.qil_code.specs.Facts.{NumbersBlocks}
use Rattle.qil_code.specs.Gather.{labels_in}
use Rattle.qil_code.specs.Numbered.{func_at, block_in, block_at}
use Rattle.qil_code.specs.Slots.{number_in}
use Rattle.qil_symbols.specs.Numbers.{place_of}
use Rattle.qil_shadow.specs.declared.access.Kind.{Kind}
use Rattle.qil_shadow.specs.declared.suspicion.Place.{Place}
use Rattle.qil_shadow.specs.declared.suspicion.Suspicion.{Suspicion}
use Rattle.qil_shadow.specs.Numbered.{function_name}
use Rattle.qil_shadow.specs.Doubts.{label_name, place_named, suspicion_named}
use Rattle.qil_shadow.specs.Suspicions as by_names
use Rattle.qil_suspicions.specs.declared.notes.Note.{Note}
use Rattle.qil_suspicions.specs.Notes as named
use Rattle.qil_suspicions.specs.Notes.{same_kind, are_alike, noted}
use Rattle.qil_suspicions.specs.Adding.{same_place, is_of, at_place, noted_once, once_more, with_note, with_notes, note_named}
use Rattle.qil_suspicions.proofs.Noting.{more, noted_more, total, total_noted}

-- ---- one more

counted_here : (place : Place) (s : Suspicion) (ns : List Note) (i : ℕ) (n : Note) → slice_get ns i ≡ Some n → is_of n s.doubt.kind place ≡ true → ((k : ℕ) (m : Note) → k < i → slice_get ns k ≡ Some m → is_of m s.doubt.kind place ≡ false)
    → slice_set ns i (once_more n) ≡ with_note place s ns
counted_here place s [] i n at is before = absurd cc
counted_here place s (m ∷ ns) zero n at is before =
    let same : m ≡ n = ap (λ o. unwrap_or o m) at in
    (λ i. once_more (sym same i) ∷ ns) ∙ (λ i. if sym (ap (λ x. is_of x s.doubt.kind place) same ∙ is) i then once_more m ∷ ns else m ∷ with_note place s ns)
counted_here place s (m ∷ ns) (suc i) n at is before =
    ap (λ l. m ∷ l) (counted_here place s ns i n at is (λ k x l e. before (suc k) x (omega (arith, l)) e))
    ∙ (λ j. if sym (before 0 m (omega arith) refl) j then once_more m ∷ ns else m ∷ with_note place s ns)

pub counted_more : (place : Place) (s : Suspicion) (items ns : List Note) (i : ℕ) (d r : Note) → ns ≡ items
    → (n : Note) × (slice_get ns i ≡ Some n) × (is_of n s.doubt.kind place ≡ true) × ((k : ℕ) (m : Note) → k < i → slice_get ns k ≡ Some m → is_of m s.doubt.kind place ≡ false)
    → r ≡ once_more (get_or items i d) → slice_set items i r ≡ with_note place s ns
counted_more place s items ns i d r same found e =
    (λ j. slice_set (sym same j) i r) ∙ ap (slice_set ns i) (e ∙ ap (λ l. once_more (get_or l i d)) (sym same) ∙ ap once_more (get_or_from_slice_get ns i found.0 d found.1)) ∙ counted_here place s ns i found.0 found.1 found.2 found.3

new_note : (place : Place) (s : Suspicion) (ns : List Note) → ((k : ℕ) (m : Note) → slice_get ns k ≡ Some m → is_of m s.doubt.kind place ≡ false) → ns ++ noted_once place s ∷ [] ≡ with_note place s ns
new_note place s [] none = refl
new_note place s (n ∷ ns) none =
    ap (λ l. n ∷ l) (new_note place s ns (λ k m e. none (suc k) m e))
    ∙ (λ j. if sym (none 0 n refl) j then once_more n ∷ ns else n ∷ with_note place s ns)

pub noted_new : (place : Place) (s : Suspicion) (items ns : List Note) → ns ≡ items → ((k : ℕ) (m : Note) → slice_get ns k ≡ Some m → is_of m s.doubt.kind place ≡ false) → items ++ noted_once place s ∷ [] ≡ with_note place s ns
noted_new place s items ns same none = (λ j. sym same j ++ noted_once place s ∷ []) ∙ new_note place s ns none

pub one_added : (place : Place) (items : List Suspicion) (i : ℕ) (d x : Suspicion) (old new all : List Note) → i < length items → x ≡ get_or items i d → new ≡ with_note place x old
    → with_notes place (drop i items) old ≡ all → with_notes place (drop (i + 1) items) new ≡ all
one_added place items i d x old new all within is e so_far =
    (λ j. with_notes place (drop (i + 1) items) ((e ∙ ap (λ y. with_note place y old) is) j)) ∙ ap (λ l. with_notes place l old) (sym (drop_more items i d within)) ∙ so_far

pub all_added : (place : Place) (items found : List Suspicion) (i : ℕ) (old first : List Note) → length items ≤ i → items ≡ found → with_notes place (drop i items) old ≡ with_notes place items first → old ≡ with_notes place found first
all_added place items found i old first past is so_far = ap (λ l. with_notes place l old) (sym (drop_all i items past)) ∙ so_far ∙ ap (λ l. with_notes place l first) is

-- ---- places by names

-- a place of the program
abbrev pub IsIn : {A : Type 0} → Program A → Place → Type 0
IsIn {A} p place = (func : Func A) × (block : Block A) × (func_at p place.func.index ≡ Some func) × (slice_get func.blocks place.block.index ≡ Some block)

abbrev pub AreIn : {A : Type 0} → Program A → List Note → Type 0
AreIn p ns = AllByRecursion (λ (n : Note). IsIn p n.first.place) ns

is_equal : (a b : ℕ) → (a == b) ≡ true → a ≡ b
is_equal a b e = grind (arith, nat_tests, e)

equal_self : (a : ℕ) → (a == a) ≡ true
equal_self a = grind (arith, nat_tests)

both_of : (x y : Bool) → (x && y) ≡ true → (x ≡ true) × (y ≡ true)
both_of true y e = (refl, e)
both_of false y e = absurd (true≢false (sym e))

bool_same : (x y : Bool) → (x ≡ true → y ≡ true) → (y ≡ true → x ≡ true) → x ≡ y
bool_same true y f g = sym (f refl)
bool_same false true f g = g refl
bool_same false false f g = refl

func_name_at : {A : Type 0} (p : Program A) (a : Place) (q : IsIn p a) → (place_named p a).func ≡ q.0.name
func_name_at {A} p a q = ap (λ (o : Option (Func A)). function_name o) q.2

label_name_at : {A : Type 0} (p : Program A) (a : Place) (q : IsIn p a) → (place_named p a).label ≡ q.1.label
label_name_at {A} p a q = ap (λ (o : Option (Func A)). label_name (block_in o a.block.index)) q.2 ∙ ap (λ (o : Option (Block A)). label_name o) q.3

some_is : {X : Type 0} (x y : X) → ◌≡◌ {A = Option X} (Some x) (Some y) → x ≡ y
some_is x y e = ap (λ o. unwrap_or o x) e

same_func : {A : Type 0} (p : Program A) (a b : Place) (q : IsIn p a) (r : IsIn p b) → facts.Finds p → q.0.name ≡ r.0.name → a.func.index ≡ b.func.index
same_func {A} p a b q r finds e =
    some_is a.func.index b.func.index (sym (finds.number a.func.index q.0 q.2) ∙ ap (place_of (map (λ (f : Func A). f.name) p.funcs)) e ∙ finds.number b.func.index r.0 r.2)

same_block : {A : Type 0} (p : Program A) (a b : Place) (q : IsIn p a) (r : IsIn p b) → NumbersBlocks p → a.func.index ≡ b.func.index → q.1.label ≡ r.1.label → a.block.index ≡ b.block.index
same_block {A} p a b q r numbers funcs e =
    let func : q.0 ≡ r.0 = some_is q.0 r.0 (sym q.2 ∙ ap (func_at p) funcs ∙ r.2) in
    sym (numbers.number a.func.index q.0 a.block.index q.1 q.2 q.3)
    ∙ (λ i. number_in (labels_in (func i).blocks) (e i))
    ∙ numbers.number b.func.index r.0 b.block.index r.1 r.2 r.3

places_alike : {A : Type 0} (p : Program A) (a b : Place) → facts.Finds p → NumbersBlocks p → IsIn p a → IsIn p b → same_place a b ≡ stops.same_place (place_named p a) (place_named p b)
places_alike p a b finds numbers q r = bool_same (same_place a b) (stops.same_place (place_named p a) (place_named p b)) there back
  where
    there : same_place a b ≡ true → stops.same_place (place_named p a) (place_named p b) ≡ true
    there e =
        let f = both_of (a.func.index == b.func.index) ((a.block.index == b.block.index) && a.index == b.index) e in
        let l = both_of (a.block.index == b.block.index) (a.index == b.index) f.1 in
        let func = is_equal a.func.index b.func.index f.0 in
        let block = is_equal a.block.index b.block.index l.0 in
        let names : (place_named p a).func ≡ (place_named p b).func = λ i. function_name (func_at p (func i)) in
        let labels : (place_named p a).label ≡ (place_named p b).label = λ i. label_name (block_at p (func i) (block i)) in
        λ i. (bytes_eq-Decides (place_named p a).func (place_named p b).func).1 names i && ((bytes_eq-Decides (place_named p a).label (place_named p b).label).1 labels i && l.1 i)

    back : stops.same_place (place_named p a) (place_named p b) ≡ true → same_place a b ≡ true
    back e =
        let f = both_of (bytes_eq (place_named p a).func (place_named p b).func) (bytes_eq (place_named p a).label (place_named p b).label && a.index == b.index) e in
        let l = both_of (bytes_eq (place_named p a).label (place_named p b).label) (a.index == b.index) f.1 in
        let names = sym (func_name_at p a q) ∙ (bytes_eq-Decides (place_named p a).func (place_named p b).func).0 f.0 ∙ func_name_at p b r in
        let labels = sym (label_name_at p a q) ∙ (bytes_eq-Decides (place_named p a).label (place_named p b).label).0 l.0 ∙ label_name_at p b r in
        let func = same_func p a b q r finds names in
        let block = same_block p a b q r numbers func labels in
        (λ i. (func i == b.func.index) && ((block i == b.block.index) && l.1 i)) ∙ (λ i. equal_self b.func.index i && (equal_self b.block.index i && true))

-- ---- notes by names

note_alike : {A : Type 0} (p : Program A) (place : Place) (s : Suspicion) (n : Note) → facts.Finds p → NumbersBlocks p → IsIn p place → IsIn p n.first.place
    → is_of n s.doubt.kind place ≡ are_alike (suspicion_named p n.first) (suspicion_named p (at_place place s))
note_alike p place s n finds numbers here there = ap (λ t. same_kind n.first.doubt.kind s.doubt.kind && t) (places_alike p n.first.place place finds numbers there here)

-- no count is at its limit
abbrev AreFew : List Note → Type 0
AreFew ns = AllByRecursion (λ (n : Note). n.count + 1 ≤ 2 ^ 64 - 1) ns

one_named : {A : Type 0} (p : Program A) (x : by_names.Suspicion) (n : Note) (ns ms : List Note) (b : Bool) → b ≡ are_alike (suspicion_named p n.first) x → n.count + 1 ≤ 2 ^ 64 - 1
    → map (note_named p) ms ≡ more x (map (note_named p) ns) → map (note_named p) (if b then once_more n ∷ ns else n ∷ ms) ≡ more x (note_named p n ∷ map (note_named p) ns)
one_named p x n ns ms true e few deep =
    let count : min (n.count + 1) (2 ^ 64 - 1) ≡ n.count + 1 = omega (arith, few) in
    (λ i. record { first = suspicion_named p n.first; count = count i } ∷ map (note_named p) ns)
    ∙ (λ i. if e i then record { first = suspicion_named p n.first; count = n.count + 1 } ∷ map (note_named p) ns else note_named p n ∷ more x (map (note_named p) ns))
one_named p x n ns ms false e few deep =
    ap (λ l. note_named p n ∷ l) deep
    ∙ (λ i. if e i then record { first = suspicion_named p n.first; count = n.count + 1 } ∷ map (note_named p) ns else note_named p n ∷ more x (map (note_named p) ns))

more_named : {A : Type 0} (p : Program A) (place : Place) (s : Suspicion) (ns : List Note) → facts.Finds p → NumbersBlocks p → IsIn p place → AreIn p ns → AreFew ns
    → map (note_named p) (with_note place s ns) ≡ more (suspicion_named p (at_place place s)) (map (note_named p) ns)
more_named p place s [] finds numbers here there few = refl
more_named p place s (n ∷ ns) finds numbers here there few =
    one_named p (suspicion_named p (at_place place s)) n ns (with_note place s ns) (is_of n s.doubt.kind place) (note_alike p place s n finds numbers here there.0) few.0
    (more_named p place s ns finds numbers here there.1 few.1)

in_chosen : {A : Type 0} (p : Program A) (b : Bool) (n : Note) (ns ms : List Note) → IsIn p n.first.place → AreIn p ns → AreIn p ms → AreIn p (if b then once_more n ∷ ns else n ∷ ms)
in_chosen p true n ns ms here there later = (here, there)
in_chosen p false n ns ms here there later = (here, later)

in_more : {A : Type 0} (p : Program A) (place : Place) (s : Suspicion) (ns : List Note) → IsIn p place → AreIn p ns → AreIn p (with_note place s ns)
in_more p place s [] here there = (here, tt)
in_more p place s (n ∷ ns) here there = in_chosen p (is_of n s.doubt.kind place) n ns (with_note place s ns) there.0 there.1 (in_more p place s ns here there.1)

few_in : {A : Type 0} (p : Program A) (ns : List Note) → total (map (note_named p) ns) + 1 ≤ 2 ^ 64 - 1 → AreFew ns
few_in p [] few = tt
few_in p (n ∷ ns) few = (omega (arith, few), few_in p ns (omega (arith, few)))

-- a suspicion of a step from a place, by names
abbrev pub named_at : {A : Type 0} → Program A → Place → Suspicion → by_names.Suspicion
named_at p place s = suspicion_named p (at_place place s)

pub record AreNotes {A : Type 0} (p : Program A) (ns : List Note) (xs : List by_names.Suspicion) : Type 0 where
  pub notes_are : map (note_named p) ns ≡ noted xs
  pub places : AreIn p ns

length-one : {X : Type 0} (xs : List X) (x : X) → length (xs ++ x ∷ []) ≡ length xs + 1
length-one [] x = refl
length-one (y ∷ xs) x = let deep = length-one xs x in omega (arith, deep)

one_noted : {A : Type 0} (p : Program A) (place : Place) (s : Suspicion) (ns : List Note) (xs : List by_names.Suspicion) → facts.Finds p → NumbersBlocks p → IsIn p place → length xs + 1 ≤ 2 ^ 64 - 1 → AreNotes p ns xs
    → AreNotes p (with_note place s ns) (xs ++ named_at p place s ∷ [])
one_noted p place s ns xs finds numbers here few are =
    let count : total (map (note_named p) ns) ≡ length xs = ap total are.notes_are ∙ total_noted xs in
    record {
      notes_are = more_named p place s ns finds numbers here are.places (few_in p ns (omega (arith, count, few))) ∙ ap (more (named_at p place s)) are.notes_are ∙ sym (noted_more xs (named_at p place s));
      places = in_more p place s ns here are.places;
    }

pub all_noted : {A : Type 0} (p : Program A) (place : Place) (found : List Suspicion) (ns : List Note) (xs : List by_names.Suspicion) → facts.Finds p → NumbersBlocks p → IsIn p place → length xs + length found ≤ 2 ^ 64 - 1 → AreNotes p ns xs
    → AreNotes p (with_notes place found ns) (xs ++ map (named_at p place) found)
all_noted p place [] ns xs finds numbers here few are = subst (AreNotes p ns) (sym (append-nil xs)) are
all_noted p place (s ∷ found) ns xs finds numbers here few are =
    let count = length-one xs (named_at p place s) in
    subst (AreNotes p (with_notes place (s ∷ found) ns)) (append_assoc xs (named_at p place s ∷ []) (map (named_at p place) found))
    (all_noted p place found (with_note place s ns) (xs ++ named_at p place s ∷ []) finds numbers here (omega (arith, count, few)) (one_noted p place s ns xs finds numbers here (omega (arith, few)) are))

pub no_notes : {A : Type 0} (p : Program A) → AreNotes p [] []
no_notes p = record { notes_are = refl; places = tt }
