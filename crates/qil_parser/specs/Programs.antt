-- Programs in the grammar: definitions in a row, and which tokens spell a program.
use Rattle.std.specs.Prelude.{List, [], ◌∷◌, map}
use Rattle.std.specs.List.{flat_map}
use Rattle.qil_language.specs.Language.{Seq, Image, Either, Many, Then, Phrase}
use Rattle.qil_parser.specs.declared.terminal.Terminal.TheVariants as terminals
use Rattle.qil_tree.specs.declared.tree.Data.{Data}
use Rattle.qil_tree.specs.declared.tree.Func.{Func}
use Rattle.qil_tree.specs.declared.tree.Definition.{Definition}
use Rattle.qil_tree.specs.declared.tree.Definition.TheVariants as definitions
use Rattle.qil_tree.specs.declared.tree.Program.{Program}
use Rattle.qil_parser.specs.declared.program_cursor.Defined.{Defined}
use Rattle.qil_parser.specs.declared.program_cursor.Defined.TheVariants as defined
use Rattle.qil_parser.specs.Token.{Tok}
use Rattle.qil_parser.specs.Grammar.{Word, After, Perhaps, Line}
use Rattle.qil_parser.specs.Functions.{FuncOf, FuncTop, BlockOf, Head}
use Rattle.qil_parser.specs.DataGrammar.{DataOf}

-- "export" NL?  |  "section" STRING STRING? NL?
abbrev pub Link : List Tok → Unit {0} → Type 0
Link = Either (After terminals.Export Line) (After terminals.Section (After terminals.Quoted (Image (λ v. v.1) (Seq (Perhaps (Word terminals.Quoted)) Line))))

-- link*
abbrev pub Links : List Tok → Unit {0} → Type 0
Links = Image (λ v. tt) (Many Link)

-- data | func
abbrev pub ThingOf : {A : Type 0} → List Tok → Defined A → Type 0
ThingOf = Either (Image defined.Data DataOf) (Image defined.Func FuncOf)

-- link* ( data | func )
abbrev pub DefOf : {A : Type 0} → List Tok → Defined A → Type 0
DefOf = Image (λ v. v.1) (Seq Links ThingOf)

-- def NL?
abbrev pub DefLine : {A : Type 0} → List Tok → Defined A → Type 0
DefLine = Image (λ v. v.0) (Seq DefOf Line)

abbrev pub datas_in : {A : Type 0} → Defined A → List (Data A)
datas_in (defined.Data d) = d ∷ []
datas_in (defined.Func f) = []

abbrev pub funcs_in : {A : Type 0} → Defined A → List (Func A)
funcs_in (defined.Data d) = []
funcs_in (defined.Func f) = f ∷ []

abbrev pub definition_in : {A : Type 0} → Defined A → Definition
definition_in (defined.Data d) = definitions.Data
definition_in (defined.Func f) = definitions.Func

abbrev pub program_of : {A : Type 0} → List (Defined A) → Program A
program_of defs = record { datas = flat_map datas_in defs; funcs = flat_map funcs_in defs; order = map definition_in defs }

-- NL? ( def NL? )*
abbrev pub Spells : {A : Type 0} → List Tok → Program A → Type 0
Spells = Image program_of (Image (λ v. v.1) (Seq Line (Many DefLine)))

-- What comes before the place where a block without a jump ends:
-- definitions, links, the top of a function, blocks, and a label line with phi and instruction lines.
abbrev pub OpenAt : Type 0 → List Tok → Type 0
OpenAt A = Then Line (Then (Many (DefLine {A = A})) (Then Links (Then FuncTop (Then (Many (BlockOf {A = A})) (Phrase (Head {A = A}))))))
