-- By hand, as a search takes four seconds to find them: why an object has no place, and where it ends. An object with an alignment that isn't one
-- has none: so another code there is refused at once.
use Rattle.std.proofs.Common.{◌≡◌, ◌∙◌, refl, sym, ap, subst, ℕ, ◌+◌, ◌-◌, ◌<◌, ◌≤◌, Bool, true, false, List, Option, Some, None, if◌then◌else◌, arith, ⊎_elim}
use Rattle.std.specs.Prelude.{not, nat_lt}
use Rattle.std.specs.List.{sum_by}
use Rattle.std.proofs.lemmas.Bool.{cases_lt, lt-ltb, le-ltb}
use Rattle.qil_tree.specs.declared.tree.Data.{Data}
use Rattle.qil_tree.specs.declared.tree.Field.{Field}
use Rattle.qil_layout.specs.declared.error.LayoutCode.TheVariants.{Y1, Y2}
use Rattle.qil_layout.specs.Layout.{align_of, is_alignment, field_size, size_of, rounded, start_of, end_of, data_limit, object_fault}
use Rattle.qil_layout.proofs.BytesLemmas.{some_alignment}
use Rattle.qil_layout_builder.proofs.place.span_of.Goals as goal

misaligned : {A : Type 0} (at : ℕ) (d : Data A) (n : ℕ) (b : Bool) → n ≡ align_of d → b ≡ is_alignment n → b ≡ false → object_fault at d ≡ Some Y2
misaligned at d n b en eb off = ap (λ t. if not t then Some Y2 else (if nat_lt data_limit (end_of at d) then Some Y1 else None)) (ap is_alignment (sym en) ∙ sym eb ∙ off)

-- of an object with an alignment that is one
module _ {A : Type 0} (at : ℕ) (d : Data A) (n : ℕ) (b : Bool) (en : n ≡ align_of d) (eb : b ≡ is_alignment n) (on : b ≡ true) where
  by_end : object_fault at d ≡ (if nat_lt data_limit (end_of at d) then Some Y1 else None)
  by_end = ap (λ t. if not t then Some Y2 else (if nat_lt data_limit (end_of at d) then Some Y1 else None)) (ap is_alignment (sym en) ∙ sym eb ∙ on)

  late : data_limit < end_of at d → object_fault at d ≡ Some Y1
  late over = by_end ∙ ap (λ t. if t then Some Y1 else None) (lt-ltb data_limit (end_of at d) over)

  fine : end_of at d ≤ data_limit → object_fault at d ≡ None
  fine within = by_end ∙ ap (λ t. if t then Some Y1 else None) (le-ltb data_limit (end_of at d) within)

-- the room from an address on
abbrev room_at : ℕ → Option ℕ
room_at start = if nat_lt data_limit start then None else Some (data_limit - start)

no_room : (start : ℕ) → None ≡ room_at start → data_limit < start
no_room start none = ⊎_elim
    (λ over. over)
    (λ within. absurd (let never : None ≡ Some (data_limit - start) = none ∙ ap (λ t. if t then None else Some (data_limit - start)) (le-ltb data_limit start within) in cc))
    (cases_lt data_limit start)

some_room : (start room : ℕ) → Some room ≡ room_at start → (start ≤ data_limit) × (room ≡ data_limit - start)
some_room start room some = ⊎_elim
    (λ over. absurd (let never : Some room ≡ None = some ∙ ap (λ t. if t then None else Some (data_limit - start)) (lt-ltb data_limit start over) in cc))
    (λ within. (within, let same : Some room ≡ Some (data_limit - start) = some ∙ ap (λ t. if t then None else Some (data_limit - start)) (le-ltb data_limit start within) in cc))
    (cases_lt data_limit start)

starts : {A : Type 0} (at : ℕ) (d : Data A) (n start : ℕ) → n ≡ align_of d → start ≡ rounded n at → start ≡ start_of at d
starts at d n start en es = es ∙ ap (λ k. rounded k at) en

over_end : (start room size end : ℕ) → (start ≤ data_limit) × (room ≡ data_limit - start) → room < size → end ≡ start + size → data_limit < end
over_end start room size end some less is = let within = some.0 in let left = some.1 in omega arith

ends : (start room size left end : ℕ) → (start ≤ data_limit) × (room ≡ data_limit - start) → left + size ≡ room → end ≡ start + size → 1114112 - left ≡ end
ends start room size left end some all is = let within = some.0 in let rest = some.1 in omega arith

pub rounded_up-start-requires-clause-some : goal.rounded_up-start-requires-clause-some
rounded_up-start-requires-clause-some g c = some_alignment c.align_of-align.result (sym c.is_alignment.ensures ∙ c.if-not-is_alignment.false)

pub returns-then-not-is_alignment-clause-fault : goal.returns-then-not-is_alignment-clause-fault
returns-then-not-is_alignment-clause-fault g c =
    misaligned c.args.at c.args.object.now c.align_of-align.result c.is_alignment.result c.align_of-align.ensures c.is_alignment.ensures c.if-not-is_alignment.true

pub returns-in_default-clause-fault : goal.returns-in_default-clause-fault
returns-in_default-clause-fault g c =
    let d = c.args.object.now in
    let start = c.rounded_up-start.result in
    let is : start ≡ start_of c.args.at d = starts c.args.at d c.align_of-align.result start c.align_of-align.ensures c.rounded_up-start.ensures.value in
    let past : data_limit < start = no_room start (sym c.in_default.is ∙ c.room_from.ensures) in
    late c.args.at d c.align_of-align.result c.is_alignment.result c.align_of-align.ensures c.is_alignment.ensures c.if-not-is_alignment.false (omega (arith, past, is))

pub returns-in-None-clause-fault : goal.returns-in-None-clause-fault
returns-in-None-clause-fault g c =
    let d = c.args.object.now in
    let start = c.rounded_up-start.result in
    let is : start ≡ start_of c.args.at d = starts c.args.at d c.align_of-align.result start c.align_of-align.ensures c.rounded_up-start.ensures.value in
    let less : c.in-Some.room < size_of d = subst (λ fs. c.in-Some.room < sum_by field_size fs) c.as_slice.ensures c.in-None.ensures in
    late c.args.at d c.align_of-align.result c.is_alignment.result c.align_of-align.ensures c.is_alignment.ensures c.if-not-is_alignment.false
    (over_end start c.in-Some.room (size_of d) (end_of c.args.at d) (some_room start c.in-Some.room (sym c.in-Some.is ∙ c.room_from.ensures)) less (ap (λ s. s + size_of d) (sym is)))

pub returns-in-Some-after_fields-clause-start : goal.returns-in-Some-after_fields-clause-start
returns-in-Some-after_fields-clause-start g c = starts c.args.at c.args.object.now c.align_of-align.result c.rounded_up-start.result c.align_of-align.ensures c.rounded_up-start.ensures.value

pub returns-in-Some-after_fields-clause-end : goal.returns-in-Some-after_fields-clause-end
returns-in-Some-after_fields-clause-end g c =
    let d = c.args.object.now in
    let start = c.rounded_up-start.result in
    let is : start ≡ start_of c.args.at d = starts c.args.at d c.align_of-align.result start c.align_of-align.ensures c.rounded_up-start.ensures.value in
    let all : c.in-Some-after_fields.left + size_of d ≡ c.in-Some.room = subst (λ fs. c.in-Some-after_fields.left + sum_by field_size fs ≡ c.in-Some.room) c.as_slice.ensures c.in-Some-after_fields.ensures in
    ends start c.in-Some.room (size_of d) c.in-Some-after_fields.left (end_of c.args.at d) (some_room start c.in-Some.room (sym c.in-Some.is ∙ c.room_from.ensures)) all (ap (λ s. s + size_of d) (sym is))

pub returns-in-Some-after_fields-clause-no_fault : goal.returns-in-Some-after_fields-clause-no_fault
returns-in-Some-after_fields-clause-no_fault g c =
    let d = c.args.object.now in
    let start = c.rounded_up-start.result in
    let is : start ≡ start_of c.args.at d = starts c.args.at d c.align_of-align.result start c.align_of-align.ensures c.rounded_up-start.ensures.value in
    let all : c.in-Some-after_fields.left + size_of d ≡ c.in-Some.room = subst (λ fs. c.in-Some-after_fields.left + sum_by field_size fs ≡ c.in-Some.room) c.as_slice.ensures c.in-Some-after_fields.ensures in
    let end : 1114112 - c.in-Some-after_fields.left ≡ end_of c.args.at d =
    ends start c.in-Some.room (size_of d) c.in-Some-after_fields.left (end_of c.args.at d) (some_room start c.in-Some.room (sym c.in-Some.is ∙ c.room_from.ensures)) all (ap (λ s. s + size_of d) (sym is)) in
    fine c.args.at d c.align_of-align.result c.is_alignment.result c.align_of-align.ensures c.is_alignment.ensures c.if-not-is_alignment.false (omega (arith, end))
