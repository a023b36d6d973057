-- What the commands tell that show something of a state, and change nothing.
use Rattle.std.specs.Prelude.{ℕ, zero, suc, ◌+◌, cond, Bool, List, [], ◌∷◌, ◌++◌, length, map, codes, decimal, Option, Some, None}
use Rattle.std.specs.List.{flat_map, list_any}
use Rattle.std.specs.Str.{bytes_eq}
use Rattle.qil_tree.specs.declared.tree.Func.{Func}
use Rattle.qil_tree.specs.declared.tree.Program.{Program}
use Rattle.qil_memory.specs.Live.{Live}
use Rattle.qil_streams.specs.Text.{line}
use Rattle.qil_semantics.specs.State.{Name, Frame, State}
use Rattle.qil_semantics.specs.Names.{temps_named}
use Rattle.qil_semantics.specs.Step.{func_named}
use Rattle.qil_fragments.specs.Texts.{text_of}
use Rattle.qil_render.specs.Texts.{frame_line, value_line, byte_text, quoted_byte}

-- ---- lists of lines

-- `none`, where there is no line
abbrev pub or_none : List (List ℕ) → List ℕ
or_none [] = line (codes "none")
or_none (first ∷ others) = text_of (first ∷ others)

-- ---- temporaries

-- the temporaries of a function, in the order in which its text first names them
abbrev pub temps_in : {A : Type 0} → Option (Func A) → List Name
temps_in None = []
temps_in (Some func) = temps_named func

abbrev pub temps_of_frame : {A : Type 0} → Program A → Frame → List Name
temps_of_frame p f = temps_in (func_named p.funcs f.func)

abbrev pub is_among : Name → List Name → Bool
is_among x names = list_any (λ y. bytes_eq y x) names

-- a temporary of the innermost frame
abbrev pub printed : {A : Type 0} → Program A → List Frame → Name → List ℕ
printed p [] x = line (codes "no: no frame")
printed p (f ∷ fs) x = cond (is_among x (temps_of_frame p f)) (value_line x (f.temps x)) (line (codes "no: unknown temporary"))

-- all temporaries of the innermost frame
abbrev pub temps_shown : {A : Type 0} → Program A → List Frame → List ℕ
temps_shown p [] = line (codes "no: no frame")
temps_shown p (f ∷ fs) = or_none (map (λ x. value_line x (f.temps x)) (temps_of_frame p f))

-- ---- frames

-- the place of each frame, the innermost first
abbrev pub frames_shown : List Frame → List ℕ
frames_shown frames = or_none (map frame_line frames)

-- ---- memory and output

-- n bytes from an address on, those that are dead too
abbrev pub bytes_from : Live → ℕ → ℕ → List (Option ℕ)
bytes_from m a zero = []
bytes_from m a (suc n) = m a ∷ bytes_from m (a + 1) n

-- a byte after another, with a space between them
abbrev pub spaced_byte : Option ℕ → List ℕ
spaced_byte byte = codes " " ++ byte_text byte

abbrev pub bytes_text : List (Option ℕ) → List ℕ
bytes_text [] = []
bytes_text (first ∷ others) = byte_text first ++ flat_map spaced_byte others

abbrev pub memory_shown : State → ℕ → ℕ → List ℕ
memory_shown s a n = line (bytes_text (bytes_from s.memory a n))

-- `out N "BYTES"`: how many bytes were written, and which
abbrev pub output_shown : List ℕ → List ℕ
output_shown bytes = text_of (codes "out " ∷ decimal (length bytes) ∷ codes " \"" ∷ []) ++ (flat_map quoted_byte bytes ++ codes "\"\n")
