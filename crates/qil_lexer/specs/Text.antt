-- How refusals are printed.
use Rattle.std.specs.Prelude.{ℕ, List, codes}
use Rattle.qil_lexer.specs.declared.error.LexCode.{LexCode}
use Rattle.qil_lexer.specs.declared.error.LexCode.TheVariants.{L1, L2, L3, L4, L5, L6}

abbrev pub code_text : LexCode → List ℕ
code_text L1 = codes "L1"
code_text L2 = codes "L2"
code_text L3 = codes "L3"
code_text L4 = codes "L4"
code_text L5 = codes "L5"
code_text L6 = codes "L6"
