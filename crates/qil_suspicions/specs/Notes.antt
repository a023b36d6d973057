-- What is noted of suspicions: of each place and kind the first, and how many there were.
use Rattle.std.specs.Prelude.{ℕ, Bool, true, false, not, ◌&&◌, List, [], ◌∷◌, length, map, filter}
use Rattle.qil_semantics.specs.Stops.{same_place}
use Rattle.qil_shadow.specs.declared.access.Kind.{Kind}
use Rattle.qil_shadow.specs.declared.access.Kind.TheVariants.{Bounds, Stale, Cut, Stray}
use Rattle.qil_shadow.specs.Suspicions.{Suspicion}

pub record Note : Type 0 where
  pub first : Suspicion
  pub count : ℕ

abbrev pub same_kind : Kind → Kind → Bool
same_kind Bounds Bounds = true
same_kind Stale Stale = true
same_kind Cut Cut = true
same_kind Stray Stray = true
same_kind a b = false

-- of one kind at one place
abbrev pub are_alike : Suspicion → Suspicion → Bool
are_alike a b = same_kind a.kind b.kind && same_place a.place b.place

-- those like none before them
abbrev pub firsts : List Suspicion → List Suspicion
firsts [] = []
firsts (x ∷ xs) = x ∷ filter (λ y. not (are_alike x y)) (firsts xs)

abbrev pub note_of : List Suspicion → Suspicion → Note
note_of xs x = record { first = x; count = length (filter (are_alike x) xs) }

-- in the order of the first ones
abbrev pub noted : List Suspicion → List Note
noted xs = map (note_of xs) (firsts xs)
