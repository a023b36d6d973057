-- Variables, as the tokens of their JSON.
use Rattle.std.specs.Prelude.{◌≡◌, ℕ, Bool, true, false, cond, List, [], ◌∷◌, ◌++◌, codes, decimal, Option, Some, None, is_some, unwrap_or, Result, Ok, Err}
use Rattle.json.specs.Token.{Token, begin_object, end_object, begin_array, end_array, key, string, number}
use Rattle.qil_tree.specs.declared.ops.Class.{Class}
use Rattle.qil_tree.specs.declared.ops.Class.TheVariants as classes
use Rattle.qil_tree.specs.declared.ops.Width.{Width}
use Rattle.qil_tree.specs.declared.ops.Width.TheVariants as widths
use Rattle.qil_tree.specs.declared.tree.Data.{Data}
use Rattle.qil_tree.specs.declared.tree.Field.{Field}
use Rattle.qil_tree.specs.declared.tree.Field.TheVariants as fields
use Rattle.qil_tree.specs.declared.tree.Item.{Item}
use Rattle.qil_tree.specs.declared.tree.Item.TheVariants as items
use Rattle.qil_tree.specs.declared.tree.Func.{Func}
use Rattle.qil_tree.specs.declared.tree.Program.{Program}
use Rattle.qil_layout.specs.Layout.{address_of, width_bytes}
use Rattle.qil_memory.specs.Live.{Live}
use Rattle.qil_memory.specs.Calls.{loaded}
use Rattle.qil_semantics.specs.State.{Name, Frame, State}
use Rattle.qil_semantics.specs.Step.{func_named}
use Rattle.qil_semantics.specs.Poke.{temp_class}
use Rattle.qil_render.specs.Texts.{state_line}
use Rattle.qil_render.specs.Shown.{temps_of_frame}
use Rattle.qil_fragments.specs.Texts.{text_of}
use Rattle.qrev_map.specs.declared.names.FloatClass.{FloatClass}
use Rattle.qrev_map.specs.declared.names.FloatClass.TheVariants as floats
use Rattle.qrev_views.specs.Pages.{page_of}
use Rattle.qrev_views.specs.Texts.{shown_text, without_end}
use Rattle.qrev_views.specs.Values.{IsTold, style_of}
use Rattle.qrev_views.specs.declared.variable.Page.{Page}
use Rattle.qrev_views.specs.declared.variable.Showing.{Showing}

-- ---- one variable

-- a member whose value is a text
abbrev pub text_member : List ℕ → List ℕ → List Token
text_member name value = key name ∷ string value ∷ []

-- a variable with its name, its value, and the reference by which its parts are asked for
abbrev pub variable_head : List ℕ → List ℕ → ℕ → List Token
variable_head name value parts =
    begin_object ∷ key (codes "name") ∷ string name ∷ key (codes "value") ∷ string value ∷ key (codes "variablesReference") ∷ number (decimal parts) ∷ []

-- its type, for an editor that understands it
abbrev pub type_member : Bool → List ℕ → List Token
type_member true type = text_member (codes "type") type
type_member false type = []

-- the expression that gives its value
abbrev pub name_member : List ℕ → List Token
name_member expression = text_member (codes "evaluateName") expression

-- that it can't be set
abbrev pub read_only : List Token
read_only = key (codes "presentationHint") ∷ begin_object ∷ key (codes "attributes") ∷ begin_array ∷ string (codes "readOnly") ∷ end_array ∷ end_object ∷ []

-- a reference to the memory at an address, for an editor that understands it
abbrev pub reference : Bool → ℕ → List Token
reference true a = key (codes "memoryReference") ∷ string (decimal a) ∷ []
reference false a = []

-- items that are shown of these, one after the other
abbrev pub ShowsEach : {X : Type 0} → (X → List Token → Type 0) → List X → List Token → Type 0
ShowsEach Shows [] tokens = tokens ≡ []
ShowsEach {X} Shows (x ∷ xs) tokens = (item others : List Token) × Shows x item × ShowsEach Shows xs others × (tokens ≡ item ++ others)

-- ---- temporaries

abbrev pub class_letter : Option Class → List ℕ
class_letter (Some classes.W) = codes "w"
class_letter c = codes "l"

-- the letter of a float, or of a class
abbrev pub letter_of : Option FloatClass → Option Class → List ℕ
letter_of None class = class_letter class
letter_of (Some floats.Single) class = codes "s"
letter_of (Some floats.Double) class = codes "d"

-- to the memory at a value, where that is the address of a live byte
abbrev pub live_reference : Bool → Live → Option ℕ → List Token
live_reference understands m None = []
live_reference understands m (Some a) = cond (is_some (m a)) (reference understands a) []

-- A temporary of a function, and what it holds: as a float where the names that stand beside the text say so, and under the name
-- that they tell. Where they say nothing it has its own name, and is no float.
pub record ShowsTemp {A : Type 0} (func : Option (Func A)) (m : Live) (names : List ℕ) (showing : Showing) (can_be_set : Bool) (x : Name) (v : Option ℕ) (item : List Token) : Type 0 where
  pub float : Option FloatClass
  pub name : List ℕ
  pub value : List ℕ
  pub parts : ℕ
  pub unnamed : names ≡ [] → (float ≡ None) × (name ≡ x)
  pub is_value : IsTold (style_of float showing.is_hex) v value
  pub tokens : item ≡ variable_head (shown_text (codes "%" ++ name)) value parts
      ++ (type_member showing.has_types (letter_of float (temp_class func x)) ++ (name_member (shown_text (codes "%" ++ x)) ++ (live_reference showing.has_references m v ++ (cond can_be_set [] read_only ++ end_object ∷ []))))

-- the temporaries of a page of a frame, in the order in which its function's text first names them
abbrev pub ShowsTemps : {A : Type 0} → Program A → Live → List ℕ → Showing → Bool → Frame → Page → List Token → Type 0
ShowsTemps p m names showing can_be_set f page items =
    ShowsEach (λ x. ShowsTemp (func_named p.funcs f.func) m names showing can_be_set x (f.temps x)) (page_of page (temps_of_frame p f)) items

-- ---- data

-- the width at which a data object is shown: that of its first item, one byte for strings and zeros
abbrev pub item_width : {A : Type 0} → Width → List (Item A) → Width
item_width w [] = widths.B
item_width w (items.Text text ∷ others) = widths.B
item_width w (item ∷ others) = w

abbrev pub shown_width : {A : Type 0} → List (Field A) → Width
shown_width [] = widths.B
shown_width (fields.Values w its ∷ others) = item_width w its
shown_width (field ∷ others) = widths.B

abbrev pub width_letter : Width → List ℕ
width_letter widths.B = codes "b"
width_letter widths.H = codes "h"
width_letter widths.W = codes "w"
width_letter widths.L = codes "l"

abbrev pub value_of : {E : Type 0} → Result ℕ E → Option ℕ
value_of (Ok v) = Some v
value_of (Err e) = None

-- the letter of a float, or of a width
abbrev pub data_letter : Option FloatClass → Width → List ℕ
data_letter None w = width_letter w
data_letter (Some floats.Single) w = codes "s"
data_letter (Some floats.Double) w = codes "d"

-- the number in the first bytes of a data object
abbrev pub first_value : {A : Type 0} → Program A → Live → Data A → Option ℕ
first_value p m d = value_of (loaded m (unwrap_or (address_of p d.name) 0) (width_bytes (shown_width d.fields)))

-- a data object, by its first item: as a float where the names that stand beside the text say so
pub record ShowsData {A : Type 0} (p : Program A) (m : Live) (names : List ℕ) (showing : Showing) (d : Data A) (item : List Token) : Type 0 where
  pub float : Option FloatClass
  pub value : List ℕ
  pub parts : ℕ
  pub unnamed : names ≡ [] → float ≡ None
  pub is_value : IsTold (style_of float showing.is_hex) (first_value p m d) value
  pub tokens : item ≡ variable_head (shown_text (codes "$" ++ d.name)) value parts
      ++ (type_member showing.has_types (data_letter float (shown_width d.fields))
      ++ (name_member (shown_text (text_of (data_letter float (shown_width d.fields) ∷ codes "[$" ∷ d.name ∷ codes "]" ∷ [])))
      ++ (reference showing.has_references (unwrap_or (address_of p d.name) 0) ++ end_object ∷ [])))

-- ---- the machine

-- the place, the position of the oldest state that is kept, the first dead address of the stack, and the output
abbrev pub machine_rows : ℕ → ℕ → State → List (List ℕ × List ℕ)
machine_rows position oldest s =
    (codes "place", shown_text (without_end (state_line position s.frames s.status)))
    ∷ (codes "oldest", decimal oldest)
    ∷ (codes "top", decimal s.top)
    ∷ (codes "output", shown_text s.output) ∷ []

abbrev pub fixed_tokens : List ℕ × List ℕ → List Token
fixed_tokens row = variable_head row.0 row.1 0 ++ (read_only ++ end_object ∷ [])
