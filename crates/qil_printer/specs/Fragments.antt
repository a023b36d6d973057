-- The fragments that a canonical text is put in.
use Rattle.std.specs.Prelude.{ℕ, List, decimal}
use Rattle.qil_printer.specs.declared.canonical.Fragment.{Fragment}
use Rattle.qil_printer.specs.declared.canonical.Fragment.TheVariants as fragments
use Rattle.qil_tree.specs.declared.tree.Argument.{Argument}
use Rattle.qil_tree.specs.declared.tree.PhiSource.{PhiSource}
use Rattle.qil_printer.specs.Canonical.{operand_bytes, text_of, more_argument_words, more_source_words}

abbrev pub fragment_bytes : Fragment → List ℕ
fragment_bytes (fragments.Bytes bytes) = bytes.now
fragment_bytes (fragments.Number n) = decimal n
fragment_bytes (fragments.Value operand) = operand_bytes operand.now

-- arguments and sources after a first
abbrev pub more_argument_text : Argument → List ℕ
more_argument_text a = text_of (more_argument_words a)

abbrev pub more_source_text : PhiSource → List ℕ
more_source_text s = text_of (more_source_words s)
