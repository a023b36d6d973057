-- What errors of the layers below are to loading.
use Rattle.qil_lexer.specs.declared.error.LexError.{LexError}
use Rattle.qil_lexer.specs.declared.error.LexError.TheVariants as lex
use Rattle.qil_parser.specs.declared.error.ParseError.{ParseError}
use Rattle.qil_parser.specs.declared.error.ParseError.TheVariants as parse
use Rattle.qil_checker.specs.declared.checker.CheckError.{CheckError}
use Rattle.qil_checker.specs.declared.checker.CheckError.TheVariants as check
use Rattle.qil_layout_builder.specs.declared.error.LayoutError.{LayoutError}
use Rattle.qil_layout_builder.specs.declared.error.LayoutError.TheVariants as layout
use Rattle.qil_loading.specs.declared.refusal.Refusal.TheVariants as refusals
use Rattle.qil_loading.specs.declared.load.LoadError.{LoadError}
use Rattle.qil_loading.specs.declared.load.LoadError.TheVariants.{Refused, OutOfMemory}

abbrev pub of_lex : LexError → LoadError
of_lex (lex.Refused code line) = Refused (refusals.Text code line)
of_lex lex.OutOfMemory = OutOfMemory

abbrev pub of_parse : ParseError → LoadError
of_parse (parse.Refused code line) = Refused (refusals.Tokens code line)
of_parse parse.OutOfMemory = OutOfMemory

abbrev pub of_check : CheckError → LoadError
of_check (check.Refused rule line) = Refused (refusals.Rule rule line)
of_check check.OutOfMemory = OutOfMemory

abbrev pub of_layout : LayoutError → LoadError
of_layout (layout.Refused code line) = Refused (refusals.Layout code line)
of_layout layout.OutOfMemory = OutOfMemory
