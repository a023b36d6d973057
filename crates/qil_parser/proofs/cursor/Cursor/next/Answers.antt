-- At the end of the tokens no word of the grammar comes next.
use Rattle.std.proofs.Common.{◌≡◌, ℕ, ◌<◌, refl, List, [], ◌∷◌, length, arith}
use Rattle.qil_lexer.specs.declared.token.Token.{Token}
use Rattle.qil_parser.specs.Token.{seen}
use Rattle.qil_parser.specs.Parsing.{next_terminal}
use Rattle.qil_parser.specs.declared.terminal.Terminal.TheVariants.{Other}
use Rattle.qil_parser.proofs.cursor.Cursor.next.Goals as goal

none_next : (rest : List Token) → length rest < 1 → Other ≡ next_terminal (seen rest)
none_next [] few = refl
none_next (token ∷ rest) few = absurd (omega (arith, few))

pub returns-in-empty : goal.returns-in-empty
returns-in-empty c = none_next c.args.self.now.rest.now c.in-empty.len_below
