-- The names of the parser's codes.
use Rattle.std.specs.Prelude.{ℕ, List, codes}
use Rattle.qil_parser.specs.declared.error.ParseCode.{ParseCode}
use Rattle.qil_parser.specs.declared.error.ParseCode.TheVariants.{P1, P2, P3, P4}

abbrev pub parse_code : ParseCode → List ℕ
parse_code P1 = codes "P1"
parse_code P2 = codes "P2"
parse_code P3 = codes "P3"
parse_code P4 = codes "P4"
