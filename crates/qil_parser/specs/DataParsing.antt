-- Data and programs read from left to right, production by production.
use Rattle.std.specs.Prelude.{ℕ, zero, suc, List, [], ◌∷◌, length, drop, Option, Some, None, option_map, if◌then◌else◌}
use Rattle.std.specs.Str.{bytes_eq}
use Rattle.qil_lexer.specs.declared.token.TokenKind.{TokenKind}
use Rattle.qil_lexer.specs.declared.token.TokenKind.TheVariants as kinds
use Rattle.qil_lexer.specs.Shape.{item_len, item_value}
use Rattle.qil_language.specs.Reading.{Read, one, nothing, seq, image, either, many, tail, cons_of}
use Rattle.qil_parser.specs.declared.terminal.Terminal.{Terminal}
use Rattle.qil_parser.specs.declared.terminal.Terminal.TheVariants as terminals
use Rattle.qil_tree.specs.declared.ops.Width.{Width}
use Rattle.qil_tree.specs.declared.ops.Width.TheVariants as widths
use Rattle.qil_tree.specs.declared.tree.Item.{Item}
use Rattle.qil_tree.specs.declared.tree.Item.TheVariants as items
use Rattle.qil_tree.specs.declared.tree.Field.{Field}
use Rattle.qil_tree.specs.declared.tree.Field.TheVariants as fields
use Rattle.qil_tree.specs.declared.tree.Data.{Data}
use Rattle.qil_tree.specs.declared.tree.Program.{Program}
use Rattle.qil_parser.specs.declared.program_cursor.Defined.{Defined}
use Rattle.qil_parser.specs.declared.program_cursor.Defined.TheVariants as defined
use Rattle.qil_parser.specs.Token.{Tok, code, index}
use Rattle.qil_parser.specs.Parsing.{the, word, global_name, count, after, before, perhaps, line}
use Rattle.qil_parser.specs.FunctionParsing.{func}
use Rattle.qil_parser.specs.DataGrammar.{constant_at, address_of, width_mark, data_of}
use Rattle.qil_parser.specs.Programs.{program_of}

-- ---- tokens

abbrev pub constant : List Tok → Read Tok ℕ
constant = one (λ t. constant_at t.kind t.text)

-- an item of that value and the values after it; where no item stands, none if the closing quote does
abbrev pub with_item : Option ℕ → ℕ → (ℕ → Option (List ℕ)) → List ℕ → Option (List ℕ)
with_item None value others bytes = if bytes_eq bytes (34 ∷ []) then Some [] else None
with_item (Some len) value others bytes = option_map (λ values. value ∷ values) (others len)

-- the values of the items up to the closing quote, the last byte
unfoldable pub values_from : ℕ → List ℕ → Option (List ℕ)
values_from zero bytes = None
values_from (suc n) bytes = with_item (item_len bytes) (item_value bytes) (λ len. values_from n (drop len bytes)) bytes

abbrev pub text_at : TokenKind → List ℕ → Option (List ℕ)
text_at kinds.Quoted text = values_from (suc (length text)) (drop 1 text)
text_at _ text = None

abbrev pub text : List Tok → Read Tok (List ℕ)
text = one (λ t. text_at t.kind t.text)

-- ---- what may have newlines after it

unfoldable pub newlines : List Tok → Read Tok (Unit {0})
newlines = image (λ v. tt) (many index (the terminals.Newline) (word terminals.Newline))

abbrev pub loose : {A : Type 0} → (List Tok → Read Tok A) → List Tok → Read Tok A
loose r = image (λ v. v.0) (seq r newlines)

abbrev pub loose_after : {A : Type 0} → Terminal → (List Tok → Read Tok A) → List Tok → Read Tok A
loose_after m r = image (λ v. v.1) (seq (loose (word m)) r)

-- ---- data

abbrev pub several : {A : Type 0} → List ℕ → (List Tok → Read Tok A) → List Tok → Read Tok (List A)
several set r = image cons_of (seq r (many index set r))

unfoldable pub number_item : {A : Type 0} → List Tok → Read Tok (Item A)
number_item = image items.Number (loose constant)

unfoldable pub text_item : {A : Type 0} → List Tok → Read Tok (Item A)
text_item = image items.Text (loose text)

unfoldable pub offset : List Tok → Read Tok ℕ
offset = either index (the terminals.Plus) (loose_after terminals.Plus (loose count)) (nothing 0)

unfoldable pub address_item : {A : Type 0} → List Tok → Read Tok (Item A)
address_item = image address_of (seq (loose global_name) offset)

-- the tokens that an item of a field of that width begins with
abbrev pub item_firsts : Width → List ℕ
item_firsts widths.B = code terminals.Number ∷ code terminals.Quoted ∷ []
item_firsts widths.H = the terminals.Number
item_firsts widths.W = the terminals.Number
item_firsts widths.L = code terminals.Number ∷ code terminals.Global ∷ []

unfoldable pub item : {A : Type 0} → Width → List Tok → Read Tok (Item A)
item widths.B = either index (the terminals.Number) number_item text_item
item widths.H = number_item
item widths.W = number_item
item widths.L = either index (the terminals.Number) number_item address_item

unfoldable pub items_of : {A : Type 0} → Width → List Tok → Read Tok (List (Item A))
items_of w = many index (item_firsts w) (item w)

unfoldable pub values : {A : Type 0} → Width → List Tok → Read Tok (Field A)
values w = image (fields.Values w) (loose_after (width_mark w) (image cons_of (seq (item w) (items_of w))))

unfoldable pub zeros : {A : Type 0} → List Tok → Read Tok (Field A)
zeros = image fields.Zeros (loose_after terminals.Z (loose count))

abbrev pub field_firsts : List ℕ
field_firsts = code terminals.B ∷ code terminals.H ∷ code terminals.W ∷ code terminals.L ∷ code terminals.Z ∷ []

unfoldable pub field : {A : Type 0} → List Tok → Read Tok (Field A)
field = either index (the terminals.B) (values widths.B) (either index (the terminals.H) (values widths.H) (either index (the terminals.W) (values widths.W) (either index (the terminals.L) (values widths.L) zeros)))

unfoldable pub fields_of : {A : Type 0} → List Tok → Read Tok (List (Field A))
fields_of = either index field_firsts (image cons_of (seq field (tail index (the terminals.Comma) field_firsts (loose (word terminals.Comma)) field))) (nothing [])

unfoldable pub alignment : List Tok → Read Tok (Option ℕ)
alignment = perhaps (the terminals.Align) (loose_after terminals.Align (loose count))

unfoldable pub inside_data : {A : Type 0} → List Tok → Read Tok (Option ℕ × List (Field A))
inside_data = seq alignment (loose_after terminals.OpenBrace (before fields_of terminals.CloseBrace))

unfoldable pub data_definition : {A : Type 0} → List Tok → Read Tok (Data A)
data_definition = image data_of (loose_after terminals.Data (seq (loose global_name) (loose_after terminals.Equals inside_data)))

-- ---- programs

abbrev pub link_firsts : List ℕ
link_firsts = code terminals.Export ∷ code terminals.Section ∷ []

unfoldable pub link : List Tok → Read Tok (Unit {0})
link = either index (the terminals.Export) (after terminals.Export line) (after terminals.Section (after terminals.Quoted (image (λ v. v.1) (seq (perhaps (the terminals.Quoted) (word terminals.Quoted)) line))))

unfoldable pub links : List Tok → Read Tok (Unit {0})
links = image (λ v. tt) (many index link_firsts link)

unfoldable pub thing : {A : Type 0} → List Tok → Read Tok (Defined A)
thing = either index (the terminals.Data) (image defined.Data data_definition) (image defined.Func func)

unfoldable pub def : {A : Type 0} → List Tok → Read Tok (Defined A)
def = image (λ v. v.1) (seq links thing)

unfoldable pub def_line : {A : Type 0} → List Tok → Read Tok (Defined A)
def_line = image (λ v. v.0) (seq def line)

abbrev pub def_firsts : List ℕ
def_firsts = code terminals.Export ∷ code terminals.Section ∷ code terminals.Data ∷ code terminals.Function ∷ []

unfoldable pub defs : {A : Type 0} → List Tok → Read Tok (List (Defined A))
defs = many index def_firsts def_line

unfoldable pub program : {A : Type 0} → List Tok → Read Tok (Program A)
program = image program_of (image (λ v. v.1) (seq line defs))
