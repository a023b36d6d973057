-- The lines in which the notes of a run are reported.
use Rattle.std.specs.Prelude.{ℕ, ◌+◌, ◌-◌, ◌==◌, nat_le, Bool, if◌then◌else◌, List, [], ◌∷◌, ◌++◌, length, codes, decimal, Option, Some, None}
use Rattle.std.specs.List.{flat_map}
use Rattle.qil_tree.specs.declared.ops.LoadOp.TheVariants as loads
use Rattle.qil_tree.specs.declared.ops.Width.TheVariants as widths
use Rattle.qil_fragments.specs.Texts.{text_of}
use Rattle.qil_semantics.specs.Stops.{Place}
use Rattle.qil_shadow.specs.declared.access.Action.{Action}
use Rattle.qil_shadow.specs.declared.access.Action.TheVariants as actions
use Rattle.qil_shadow.specs.declared.access.Kind.{Kind}
use Rattle.qil_shadow.specs.declared.access.Kind.TheVariants as kinds
use Rattle.qil_shadow.specs.Objects.{ObjectKind, of_data, of_function, of_slot, Object, contains, is_function_kind}
use Rattle.qil_shadow.specs.Accesses.{Access}
use Rattle.qil_shadow.specs.Suspicions.{Hit, into, between, dead, Suspicion}
use Rattle.qil_suspicions.specs.Notes.{Note}

-- ---- words

-- `1 byte`, `2 bytes`
abbrev pub plural : ℕ → List ℕ
plural n = if n == 1 then [] else codes "s"

abbrev pub count_text : ℕ → List ℕ → List ℕ
count_text n thing = text_of (decimal n ∷ codes " " ∷ thing ∷ plural n ∷ [])

abbrev pub kind_word : Kind → List ℕ
kind_word kinds.Bounds = codes "bounds"
kind_word kinds.Stale = codes "stale"
kind_word kinds.Cut = codes "cut"
kind_word kinds.Stray = codes "stray"

abbrev pub action_words : Action → List ℕ
action_words (actions.Load loads.L) = codes "loadl"
action_words (actions.Load loads.Sw) = codes "loadsw"
action_words (actions.Load loads.Uw) = codes "loaduw"
action_words (actions.Load loads.Sh) = codes "loadsh"
action_words (actions.Load loads.Uh) = codes "loaduh"
action_words (actions.Load loads.Sb) = codes "loadsb"
action_words (actions.Load loads.Ub) = codes "loadub"
action_words (actions.Store widths.B) = codes "storeb"
action_words (actions.Store widths.H) = codes "storeh"
action_words (actions.Store widths.W) = codes "storew"
action_words (actions.Store widths.L) = codes "storel"
action_words actions.CopyFrom = codes "blit from"
action_words actions.CopyTo = codes "blit to"

-- ---- objects

abbrev pub name_text : ObjectKind → List ℕ
name_text (of_data g) = text_of (codes "$" ∷ g ∷ [])
name_text (of_function g) = text_of (codes "$" ∷ g ∷ [])
name_text (of_slot g x) = text_of (codes "$" ∷ g ∷ codes " %" ∷ x ∷ [])

abbrev pub made_text : ObjectKind → ℕ → List ℕ
made_text (of_slot g x) n = text_of (codes ", made at #" ∷ decimal n ∷ [])
made_text kind n = []

abbrev pub ended_text : Option ℕ → List ℕ
ended_text (Some n) = text_of (codes ", whose frame returned at #" ∷ decimal n ∷ codes ")" ∷ [])
ended_text None = codes ")"

abbrev pub life_text : Object → List ℕ
life_text o = made_text o.kind o.made ++ ended_text o.ended

-- a function has no size
abbrev pub size_text : Object → List ℕ
size_text o = if is_function_kind o.kind then codes ", a function" else codes " (" ++ (count_text o.size (codes "byte") ++ life_text o)

abbrev pub object_text : Object → List ℕ
object_text o = name_text o.kind ++ size_text o

-- ---- what was meant, and what was hit

-- where an access lies that begins so far behind the start of an object of a size
abbrev pub behind_text : ℕ → ℕ → List ℕ
behind_text size offset =
    if nat_le size offset then (if offset == size then codes "at the end of" else count_text (offset - size) (codes "byte") ++ codes " past the end of")
    else codes "across the end of"

abbrev pub distance_text : Object → Access → List ℕ
distance_text o a =
    if nat_le o.address a.address then (if contains o a.address a.count then codes "in" else behind_text o.size (a.address - o.address))
    else count_text (o.address - a.address) (codes "byte") ++ codes " before"

abbrev pub made_of : Kind → List ℕ
made_of kinds.Stray = codes ", which is made of more than one address"
made_of kind = codes ", an address of which 32 bits were taken"

abbrev pub meant_text : Kind → Access → Option Object → List ℕ
meant_text kind a (Some o) = distance_text o a ++ (codes " " ++ object_text o)
meant_text kind a None = text_of (codes "through " ∷ decimal a.address ∷ made_of kind ∷ [])

abbrev pub hit_text : Hit → List ℕ
hit_text (into kind n) = codes ", into " ++ (name_text kind ++ text_of (codes "+" ∷ decimal n ∷ []))
hit_text between = codes ", between objects"
hit_text dead = codes ", in dead memory"

-- ---- notes

-- by which move, at which place, of which kind, and what was done
abbrev pub head_text : ℕ → Place → Kind → Action → List ℕ
head_text position place kind action =
    text_of (codes "#" ∷ decimal position ∷ codes " $" ∷ place.func ∷ codes " @" ∷ place.label ∷ codes " " ∷ decimal place.index
    ∷ codes "  " ∷ kind_word kind ∷ codes ": " ∷ action_words action ∷ codes " " ∷ [])

abbrev pub suspicion_text : Suspicion → List ℕ
suspicion_text s = head_text s.position s.place s.kind s.access.action ++ (meant_text s.kind s.access s.object ++ hit_text s.hit)

-- how often, and the end of the line
abbrev pub times_text : ℕ → List ℕ
times_text n = if nat_le n 1 then codes "\n" else text_of (codes "  (" ∷ decimal n ∷ codes " times)\n" ∷ [])

abbrev pub note_line : Note → List ℕ
note_line n = suspicion_text n.first ++ times_text n.count

-- from which move on there may be suspicions of other kinds, if there may be some
abbrev pub others_text : Option ℕ → List ℕ
others_text (Some position) = text_of (codes ", other kinds not before #" ∷ decimal position ∷ codes "\n" ∷ [])
others_text None = codes ", no other kinds\n"

abbrev pub last_line : ℕ → ℕ → Option ℕ → List ℕ
last_line notes moves unsure = count_text notes (codes "suspicion") ++ (codes " in " ++ (count_text moves (codes "move") ++ others_text unsure))

-- a line for each note, and how many there are in how many moves
abbrev pub report_text : List Note → ℕ → Option ℕ → List ℕ
report_text notes moves unsure = flat_map note_line notes ++ last_line (length notes) moves unsure
