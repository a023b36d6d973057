-- Which frames end along moves forward, and which begin and last: by how many frames each state has.
use Rattle.std.specs.Prelude.{ℕ, suc, ◌+◌, ◌-◌, nat_lt, nat_le, Bool, true, if◌then◌else◌, List, [], ◌∷◌, ◌++◌, length, flat_map, Option, Some, None, unwrap_or, slice_get}
use Rattle.std.specs.List.{filter, range_with_len}
use Rattle.qil_symbols.specs.Numbers.{place_of}
use Rattle.qil_tree.specs.declared.tree.Program.{Program}
use Rattle.qil_layout.specs.declared.callee.FuncId.{FuncId}
use Rattle.qil_semantics.specs.State.{Frame, State}
use Rattle.qil_semantics.specs.Timeline.{Timeline, position, moved}
use Rattle.qil_semantics.specs.Moves.{least}
use Rattle.qil_code.specs.Reading.{func_names}
use Rattle.qil_spans.specs.declared.span.Span.{Span}

-- ---- where a frame begins

-- how many frames the state by k moves forward has
abbrev pub depth_by : {A : Type 0} → Program A → Timeline → ℕ → ℕ
depth_by p t k = length (moved p k t).now.frames

-- how many states in a row, back from that one, have more than n frames
abbrev pub row_over : {A : Type 0} → Program A → Timeline → ℕ → ℕ → ℕ
row_over p t n k = least (λ i. nat_le (depth_by p t (k - i)) n) (suc k)

-- the position of the first of these, if there is a state before it: there the frame begins that has n below it
unfoldable pub begin_of : {A : Type 0} → Program A → Timeline → ℕ → ℕ → Option ℕ
begin_of p t n k = if nat_lt k (row_over p t n k) then None else Some (position t + (suc k - row_over p t n k))

-- ---- the function of a frame

abbrev pub number_of : {A : Type 0} → Program A → Option Frame → ℕ
number_of p None = 0
number_of p (Some f) = unwrap_or (place_of (func_names p) f.func) 0

-- of the frame that has n below it
abbrev pub func_over : {A : Type 0} → Program A → State → ℕ → FuncId
func_over p s n = record { index = number_of p (slice_get s.frames (length s.frames - suc n)) }

abbrev pub span : Option ℕ → Option ℕ → FuncId → ℕ → Span
span begin end func n = record { begin = begin; end = end; func = func; below = n }

-- ---- frames that end

-- The move from the state by j moves ends a frame if the next state has fewer; these are below it.
abbrev pub ended_next : {A : Type 0} → Program A → Timeline → ℕ → List Span
ended_next p t j =
    let n : ℕ = depth_by p t (suc j) in
    if nat_lt n (depth_by p t j) then span (begin_of p t n j) (Some (position t + suc j)) (func_over p (moved p j t).now n) n ∷ [] else []

-- a frame began before these moves, or is d moves long
abbrev pub is_long : ℕ → Option ℕ → Option ℕ → Bool
is_long d (Some begin) (Some end) = nat_le d (end - begin)
is_long d begin end = true

abbrev pub is_told : ℕ → Span → Bool
is_told d one = is_long d one.begin one.end

-- those of the first k moves, in their order, that are told
unfoldable pub ended_by : {A : Type 0} → Program A → Timeline → ℕ → ℕ → List Span
ended_by p t d k = filter (is_told d) (flat_map (ended_next p t) (range_with_len 0 k))

-- There are 1,000 frames at most, so with 3,096 of these there are 4,096 in all.
abbrev pub is_filled : List Span → Bool
is_filled ended = nat_le 3096 (length ended)

-- ---- frames that last

-- it lasts, if it began by these moves
abbrev pub lasting : Option ℕ → FuncId → ℕ → List Span
lasting None func n = []
lasting (Some begin) func n = span (Some begin) None func n ∷ []

-- those of the state by k moves, the outermost first
unfoldable pub lasting_by : {A : Type 0} → Program A → Timeline → ℕ → List Span
lasting_by p t k = flat_map (λ n. lasting (begin_of p t n k) (func_over p (moved p k t).now n) n) (range_with_len 0 (depth_by p t k))

-- all that are told of k moves
abbrev pub spans_by : {A : Type 0} → Program A → Timeline → ℕ → ℕ → List Span
spans_by p t d k = ended_by p t d k ++ lasting_by p t k
