-- Data and programs are read as they are spelled.
use Rattle.std.proofs.Common.{◌≡◌, ℕ, Bool, true, false, List, [], ◌∷◌, ◌++◌, Some, refl, subst, append-nil}
use Rattle.std.specs.Prelude.{codes}
use Rattle.qil_lexer.specs.declared.token.TokenKind.{TokenKind}
use Rattle.qil_lexer.specs.declared.token.TokenKind.TheVariants as kinds
use Rattle.qil_lexer.specs.Shape.{item_len}
use Rattle.qil_language.specs.Language.{Many}
use Rattle.qil_language.specs.Reading.{Read, has, cons_of, seq, image}
use Rattle.qil_language.specs.Reads.{Reads, Takes, apart, when}
use Rattle.qil_language.proofs.Law.{seq_reads, image_reads, one_reads, nothing_reads, either_reads, many_reads, loose_tail_reads, said_reads, wider_reads}
use Rattle.qil_language.proofs.Loop.{takes_by}
use Rattle.qil_parser.specs.declared.terminal.Terminal.{Terminal}
use Rattle.qil_parser.specs.declared.terminal.Terminal.TheVariants as terminals
use Rattle.qil_tree.specs.declared.ops.Width.{Width}
use Rattle.qil_tree.specs.declared.ops.Width.TheVariants as widths
use Rattle.qil_tree.specs.declared.tree.Item.TheVariants as items
use Rattle.qil_tree.specs.declared.tree.Field.TheVariants as fields
use Rattle.qil_parser.specs.declared.program_cursor.Defined.TheVariants as defined
use Rattle.qil_parser.specs.Token.{Tok, kind_terminal, code, index}
use Rattle.qil_parser.specs.Words.{word_terminal}
use Rattle.qil_parser.specs.Grammar.{exactly, Word}
use Rattle.qil_parser.specs.DataGrammar
use Rattle.qil_parser.specs.DataGrammar.{constant_at}
use Rattle.qil_parser.specs.Programs
use Rattle.qil_parser.specs.Parsing
use Rattle.qil_parser.specs.Parsing.{the}
use Rattle.qil_parser.specs.DataParsing
use Rattle.qil_parser.specs.DataParsing.{text_at}
use Rattle.qil_parser.proofs.Productions.{at, a_word, word_reads, global_reads, count_reads, after_reads, before_reads, perhaps_reads, line_reads}
use Rattle.qil_parser.proofs.FunctionWhole.{func_reads}
use Rattle.qil_parser.proofs.Strings.{text_there, text_back}

-- ---- tokens

constant_fits : (k : TokenKind) (text : List ℕ) (a : ℕ) → constant_at k text ≡ Some a → has (the terminals.Number) (code (kind_terminal k text)) ≡ true
constant_fits kinds.Number text a h = refl
constant_fits _ text a h = absurd cc

constant_reads : (n : ℕ) → Reads n true index DataGrammar.Constant DataParsing.constant (the terminals.Number) false []
unfolding at
constant_reads n = one_reads index (λ t. constant_at t.kind t.text) (the terminals.Number) (λ t a h. constant_fits t.kind t.text a h) (at kinds.Number (codes "0")) 0 refl n

text_fits : (k : TokenKind) (text : List ℕ) (a : List ℕ) → text_at k text ≡ Some a → has (the terminals.Quoted) (code (kind_terminal k text)) ≡ true
text_fits kinds.Quoted text a h = refl
text_fits _ text a h = absurd cc

abbrev empty_string : Tok
empty_string = at kinds.Quoted (codes "\"\"")

empty_means : text_at empty_string.kind empty_string.text ≡ Some []
unfolding at DataParsing.values_from item_len
empty_means = refl

text_reads : (n : ℕ) → Reads n true index DataGrammar.StringLiteral DataParsing.text (the terminals.Quoted) false []
unfolding at
text_reads n = said_reads text_there text_back (one_reads index (λ t. text_at t.kind t.text) (the terminals.Quoted) (λ t a h. text_fits t.kind t.text a h) empty_string [] empty_means n)

-- ---- what may have newlines after it

abbrev a_newline : Tok
a_newline = at kinds.Newline (10 ∷ [])

newlines_reads : (n : ℕ) → Reads n true index DataGrammar.Newlines DataParsing.newlines (the terminals.Newline) true (the terminals.Newline)
unfolding at DataParsing.newlines
newlines_reads n = image_reads (λ v. tt) (many_reads (word_reads terminals.Newline a_newline refl n) refl)

pub loose_reads : {A : Type 0} {S : List Tok → A → Type 0} {r : List Tok → Read Tok A} {first : List ℕ} {n : ℕ} → Reads n true index S r first false [] → Reads n true index (DataGrammar.Loose S) (DataParsing.loose r) first false (the terminals.Newline)
loose_reads {S = S} {r = r} {first = first} {n = n} x = subst (λ (l : List ℕ). Reads n true index (DataGrammar.Loose S) (DataParsing.loose r) l false (the terminals.Newline)) (append-nil first) (image_reads (λ v. v.0) (seq_reads x (newlines_reads n) refl))

pub loose_after_reads : {A : Type 0} {S : List Tok → A → Type 0} {r : List Tok → Read Tok A} {first more : List ℕ} {empty : Bool} {n : ℕ} {c : Bool} (m : Terminal) (t0 : Tok) → exactly m t0 ≡ Some tt → apart first (the terminals.Newline) ≡ true → Reads n c index S r first empty more → Reads n c index (DataGrammar.LooseAfter m S) (DataParsing.loose_after m r) (the m) false (more ++ when empty (the terminals.Newline))
loose_after_reads {n = n} m t0 e far x = image_reads (λ v. v.1) (seq_reads (loose_reads (word_reads m t0 e n)) x far)

-- ---- data

abbrev plus : Tok
plus = at kinds.Plus (codes "+")

pub number_item_reads : {A : Type 0} (n : ℕ) → Reads n true index (DataGrammar.NumberItem {A = A}) DataParsing.number_item (the terminals.Number) false (the terminals.Newline)
unfolding DataParsing.number_item
number_item_reads n = image_reads items.Number (loose_reads (constant_reads n))

text_item_reads : {A : Type 0} (n : ℕ) → Reads n true index (DataGrammar.TextItem {A = A}) DataParsing.text_item (the terminals.Quoted) false (the terminals.Newline)
unfolding DataParsing.text_item
text_item_reads n = image_reads items.Text (loose_reads (text_reads n))

offset_reads : (n : ℕ) → Reads n true index DataGrammar.Offset DataParsing.offset (the terminals.Plus) true (code terminals.Newline ∷ code terminals.Plus ∷ [])
unfolding at DataParsing.offset
offset_reads n = wider_reads (code terminals.Newline ∷ code terminals.Plus ∷ []) (either_reads (loose_after_reads terminals.Plus plus refl refl (loose_reads (count_reads n))) (nothing_reads index n 0) refl) refl

address_item_reads : {A : Type 0} (n : ℕ) → Reads n true index (DataGrammar.AddressItem {A = A}) DataParsing.address_item (the terminals.Global) false (code terminals.Newline ∷ code terminals.Plus ∷ [])
unfolding DataParsing.address_item
address_item_reads n = wider_reads (code terminals.Newline ∷ code terminals.Plus ∷ []) (image_reads DataGrammar.address_of (seq_reads (loose_reads (global_reads n)) (offset_reads n) refl)) refl

abbrev after_item : List ℕ
after_item = code terminals.Newline ∷ code terminals.Plus ∷ []

item_reads : {A : Type 0} (w : Width) (n : ℕ) → Reads n true index (DataGrammar.ItemOf {A = A} w) (DataParsing.item w) (DataParsing.item_firsts w) false after_item
unfolding DataParsing.item
item_reads widths.B n = wider_reads after_item (either_reads (number_item_reads n) (text_item_reads n) refl) refl
item_reads widths.H n = wider_reads after_item (number_item_reads n) refl
item_reads widths.W n = wider_reads after_item (number_item_reads n) refl
item_reads widths.L n = wider_reads after_item (either_reads (number_item_reads n) (address_item_reads n) refl) refl

abbrev after_items : List ℕ
after_items = code terminals.Number ∷ code terminals.Quoted ∷ code terminals.Global ∷ after_item

items_reads : {A : Type 0} (w : Width) (n : ℕ) → Reads n true index (Many (DataGrammar.ItemOf {A = A} w)) (DataParsing.items_of w) (DataParsing.item_firsts w) true after_items
unfolding DataParsing.items_of
items_reads widths.B n = wider_reads after_items (many_reads (item_reads widths.B n) refl) refl
items_reads widths.H n = wider_reads after_items (many_reads (item_reads widths.H n) refl) refl
items_reads widths.W n = wider_reads after_items (many_reads (item_reads widths.W n) refl) refl
items_reads widths.L n = wider_reads after_items (many_reads (item_reads widths.L n) refl) refl

several_reads : {A : Type 0} (w : Width) (n : ℕ) → Reads n true index (DataGrammar.Several (DataGrammar.ItemOf {A = A} w)) (image cons_of (seq (DataParsing.item w) (DataParsing.items_of w))) (DataParsing.item_firsts w) false after_items
several_reads widths.B n = wider_reads after_items (image_reads cons_of (seq_reads (item_reads widths.B n) (items_reads widths.B n) refl)) refl
several_reads widths.H n = wider_reads after_items (image_reads cons_of (seq_reads (item_reads widths.H n) (items_reads widths.H n) refl)) refl
several_reads widths.W n = wider_reads after_items (image_reads cons_of (seq_reads (item_reads widths.W n) (items_reads widths.W n) refl)) refl
several_reads widths.L n = wider_reads after_items (image_reads cons_of (seq_reads (item_reads widths.L n) (items_reads widths.L n) refl)) refl

apart_newline : (w : Width) → apart (DataParsing.item_firsts w) (the terminals.Newline) ≡ true
apart_newline widths.B = refl
apart_newline widths.H = refl
apart_newline widths.W = refl
apart_newline widths.L = refl

abbrev width_word : Width → Tok
width_word widths.B = a_word (codes "b")
width_word widths.H = a_word (codes "h")
width_word widths.W = a_word (codes "w")
width_word widths.L = a_word (codes "l")

width_is : (w : Width) → exactly (DataGrammar.width_mark w) (width_word w) ≡ Some tt
unfolding at a_word word_terminal
width_is widths.B = refl
width_is widths.H = refl
width_is widths.W = refl
width_is widths.L = refl

values_reads : {A : Type 0} (w : Width) (n : ℕ) → Reads n true index (DataGrammar.Values {A = A} w) (DataParsing.values w) (the (DataGrammar.width_mark w)) false after_items
unfolding DataParsing.values
values_reads w n = wider_reads after_items (image_reads (fields.Values w) (loose_after_reads (DataGrammar.width_mark w) (width_word w) (width_is w) (apart_newline w) (several_reads w n))) refl

zeros_reads : {A : Type 0} (n : ℕ) → Reads n true index (DataGrammar.Zeros {A = A}) DataParsing.zeros (the terminals.Z) false after_items
unfolding at a_word word_terminal DataParsing.zeros
zeros_reads n = wider_reads after_items (image_reads fields.Zeros (loose_after_reads terminals.Z (a_word (codes "z")) refl refl (loose_reads (count_reads n)))) refl

pub field_reads : {A : Type 0} (n : ℕ) → Reads n true index (DataGrammar.FieldOf {A = A}) DataParsing.field DataParsing.field_firsts false after_items
unfolding DataParsing.field
field_reads n = wider_reads after_items (either_reads (values_reads widths.B n) (either_reads (values_reads widths.H n) (either_reads (values_reads widths.W n) (either_reads (values_reads widths.L n) (zeros_reads n) refl) refl) refl) refl) refl

abbrev comma : Tok
comma = at kinds.Comma (codes ",")

comma_reads : (n : ℕ) → Reads n true index (DataGrammar.Loose (Word terminals.Comma)) (DataParsing.loose (Parsing.word terminals.Comma)) (the terminals.Comma) false (the terminals.Newline)
unfolding at
comma_reads n = loose_reads (word_reads terminals.Comma comma refl n)

abbrev after_fields : List ℕ
after_fields = code terminals.Comma ∷ code terminals.B ∷ code terminals.H ∷ code terminals.W ∷ code terminals.L ∷ code terminals.Z ∷ after_items

fields_reads : {A : Type 0} (n : ℕ) → Reads n true index (DataGrammar.Fields {A = A}) DataParsing.fields_of DataParsing.field_firsts true after_fields
unfolding DataParsing.fields_of
fields_reads n = wider_reads after_fields (either_reads (image_reads cons_of (seq_reads (field_reads n) (loose_tail_reads (comma_reads n) (field_reads n) refl refl) refl)) (nothing_reads index n []) refl) refl

abbrev close_brace : Tok
close_brace = at kinds.CloseBrace (codes "}")

abbrev open_brace : Tok
open_brace = at kinds.OpenBrace (codes "{")

abbrev equals : Tok
equals = at kinds.Equals (codes "=")

alignment_reads : (n : ℕ) → Reads n true index DataGrammar.Alignment DataParsing.alignment (the terminals.Align) true (code terminals.Newline ∷ code terminals.Align ∷ [])
unfolding at a_word word_terminal DataParsing.alignment
alignment_reads n = wider_reads (code terminals.Newline ∷ code terminals.Align ∷ []) (perhaps_reads (loose_after_reads terminals.Align (a_word (codes "align")) refl refl (loose_reads (count_reads n)))) refl

inside_reads : {A : Type 0} (n : ℕ) → Reads n true index (DataGrammar.Inside {A = A}) DataParsing.inside_data (code terminals.Align ∷ code terminals.OpenBrace ∷ []) false []
unfolding at DataParsing.inside_data
inside_reads n = seq_reads (alignment_reads n) (loose_after_reads terminals.OpenBrace open_brace refl refl (before_reads terminals.CloseBrace close_brace refl refl (fields_reads n))) refl

pub data_reads : {A : Type 0} (n : ℕ) → Reads n true index (DataGrammar.DataOf {A = A}) DataParsing.data_definition (the terminals.Data) false []
unfolding at a_word word_terminal DataParsing.data_definition
data_reads n = image_reads DataGrammar.data_of (loose_after_reads terminals.Data (a_word (codes "data")) refl refl (seq_reads (loose_reads (global_reads n)) (loose_after_reads terminals.Equals equals refl refl (inside_reads n)) refl))

-- ---- programs

abbrev quoted : Tok
quoted = at kinds.Quoted (codes "\"\"")

abbrev after_link : List ℕ
after_link = code terminals.Newline ∷ code terminals.Quoted ∷ []

link_reads : (n : ℕ) → Reads n true index Programs.Link DataParsing.link DataParsing.link_firsts false after_link
unfolding at a_word word_terminal DataParsing.link
link_reads n = wider_reads after_link (either_reads (after_reads terminals.Export (a_word (codes "export")) refl (line_reads n)) (after_reads terminals.Section (a_word (codes "section")) refl (after_reads terminals.Quoted quoted refl (image_reads (λ v. v.1) (seq_reads (perhaps_reads (word_reads terminals.Quoted quoted refl n)) (line_reads n) refl)))) refl) refl

pub links_reads : (n : ℕ) → Reads n true index Programs.Links DataParsing.links DataParsing.link_firsts true (code terminals.Export ∷ code terminals.Section ∷ after_link)
unfolding DataParsing.links
links_reads n = image_reads (λ v. tt) (many_reads (link_reads n) refl)

pub thing_reads : {A : Type 0} (n : ℕ) → Reads n false index (Programs.ThingOf {A = A}) DataParsing.thing (code terminals.Data ∷ code terminals.Function ∷ []) false []
unfolding DataParsing.thing
thing_reads n = either_reads (image_reads defined.Data (data_reads n)) (image_reads defined.Func (func_reads n)) refl

pub def_reads : {A : Type 0} (n : ℕ) → Reads n false index (Programs.DefOf {A = A}) DataParsing.def DataParsing.def_firsts false []
unfolding DataParsing.def
def_reads n = image_reads (λ v. v.1) (seq_reads (links_reads n) (thing_reads n) refl)

pub def_line_reads : {A : Type 0} (n : ℕ) → Reads n false index (Programs.DefLine {A = A}) DataParsing.def_line DataParsing.def_firsts false (the terminals.Newline)
unfolding DataParsing.def_line
def_line_reads n = image_reads (λ v. v.0) (seq_reads (def_reads n) (line_reads n) refl)

defs_reads : {A : Type 0} (n : ℕ) → Reads n false index (Many (Programs.DefLine {A = A})) DataParsing.defs DataParsing.def_firsts true (DataParsing.def_firsts ++ the terminals.Newline)
unfolding DataParsing.defs
defs_reads n = many_reads (def_line_reads n) refl

pub program_reads : {A : Type 0} (n : ℕ) → Reads n false index (Programs.Spells {A = A}) DataParsing.program (code terminals.Newline ∷ DataParsing.def_firsts) true (code terminals.Newline ∷ DataParsing.def_firsts)
unfolding DataParsing.program
program_reads n = wider_reads (code terminals.Newline ∷ DataParsing.def_firsts) (image_reads Programs.program_of (image_reads (λ v. v.1) (seq_reads (line_reads n) (defs_reads n) refl))) refl

-- ---- what loops read takes tokens

pub newline_takes : Takes (Parsing.word terminals.Newline)
unfolding at
newline_takes = takes_by (word_reads terminals.Newline a_newline refl)

pub item_takes : {A : Type 0} (w : Width) → Takes (DataParsing.item {A = A} w)
item_takes w = takes_by (item_reads w)

pub comma_takes : Takes (DataParsing.loose (Parsing.word terminals.Comma))
comma_takes = takes_by comma_reads

pub field_takes : {A : Type 0} → Takes (DataParsing.field {A = A})
field_takes = takes_by field_reads

pub link_takes : Takes DataParsing.link
link_takes = takes_by link_reads

pub def_line_takes : {A : Type 0} → Takes (DataParsing.def_line {A = A})
def_line_takes = takes_by def_line_reads
