-- Where the reading of a program marks its failure: after a block without a jump.
use Rattle.std.proofs.Common.{ℕ, false, List, [], ◌∷◌, refl, inl, inr}
use Rattle.qil_language.specs.Language.{Then}
use Rattle.qil_language.specs.Reads.{Marks}
use Rattle.qil_language.proofs.Marks.{Never, Or, seq_marks, first_marks, image_marks, said_marks, either_marks, never_marks, many_marks}
use Rattle.qil_parser.specs.declared.terminal.Terminal.TheVariants as terminals
use Rattle.qil_parser.specs.declared.program_cursor.Defined.TheVariants as defined
use Rattle.qil_parser.specs.Token.{Tok, code, index}
use Rattle.qil_parser.specs.Functions.{FuncTop}
use Rattle.qil_parser.specs.Programs
use Rattle.qil_parser.specs.Programs.{OpenAt}
use Rattle.qil_parser.specs.Parsing
use Rattle.qil_parser.specs.Parsing.{the}
use Rattle.qil_parser.specs.DataParsing
use Rattle.qil_parser.proofs.Productions.{line_reads}
use Rattle.qil_parser.proofs.DataProductions.{data_reads, links_reads, def_line_reads}
use Rattle.qil_parser.proofs.Open.{OpenBlocks, ends, func_marks}

abbrev OpenFunc : Type 0 → List Tok → Type 0
OpenFunc A = Then FuncTop (OpenBlocks A)

never_or : (O : List Tok → Type 0) (p : List Tok) → Or Never O p → O p
never_or O p (inl n) = absurd n
never_or O p (inr o) = o

thing_marks : {A : Type 0} (n : ℕ) → Marks n index (OpenFunc A) (DataParsing.thing {A = A}) (code terminals.Data ∷ code terminals.Function ∷ []) false ends
unfolding DataParsing.thing
thing_marks {A} n = said_marks (never_or (OpenFunc A)) (λ p o. inr o) (either_marks (image_marks defined.Data (never_marks index (the terminals.Data) (DataParsing.data_definition {A = A}) ends n ((data_reads n).quiet refl))) (image_marks defined.Func (func_marks n)) refl refl)

def_line_marks : {A : Type 0} (n : ℕ) → Marks n index (Then Programs.Links (OpenFunc A)) (DataParsing.def_line {A = A}) DataParsing.def_firsts false ends
unfolding DataParsing.def DataParsing.def_line
def_line_marks n = image_marks (λ v. v.0) (first_marks Parsing.line (image_marks (λ v. v.1) (seq_marks (links_reads n) (thing_marks n) refl refl)) ((line_reads n).quiet refl))

pub program_marks : {A : Type 0} (n : ℕ) → Marks n index (OpenAt A) (DataParsing.program {A = A}) (code terminals.Newline ∷ DataParsing.def_firsts) false ends
unfolding DataParsing.defs DataParsing.program
program_marks n = image_marks Programs.program_of (image_marks (λ v. v.1) (seq_marks (line_reads n) (many_marks (def_line_reads n) (def_line_marks n) refl) refl refl))
