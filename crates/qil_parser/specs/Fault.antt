-- Where tokens stop to be a program's, and what the fault is called.
use Rattle.std.specs.Prelude.{◌≡◌, ℕ, true, false, List, [], ◌∷◌, ◌++◌}
use Rattle.qil_lexer.specs.declared.token.TokenKind.TheVariants as kinds
use Rattle.qil_parser.specs.declared.error.ParseCode.{ParseCode}
use Rattle.qil_parser.specs.declared.error.ParseCode.TheVariants as codes
use Rattle.qil_tree.specs.declared.tree.Program.{Program}
use Rattle.qil_parser.specs.Token.{Tok}
use Rattle.qil_parser.specs.Words.{left_out}
use Rattle.qil_parser.specs.Programs.{Spells, OpenAt}

-- The tokens are prefix and rest; prefix is the longest prefix that is a prefix of some program's tokens.
pub record StopsAt (A : Type 0) (ts prefix rest : List Tok) : Type 0 where
  pub parts : ts ≡ prefix ++ rest
  -- the tokens are no program's
  pub refused : (p : Program A) → Spells ts p → ⊥
  -- with one token more they begin no program's
  pub longest : (t : Tok) (after : List Tok) → rest ≡ t ∷ after → (more : List Tok) (p : Program A) → Spells (prefix ++ t ∷ more) p → ⊥
  -- some ending makes prefix a program's
  pub ending : List Tok
  pub program : Program A
  pub begun : Spells (prefix ++ ending) program

-- a block is closed that has no jump
abbrev pub ClosesOpen : Type 0 → List Tok → Tok → Type 0
ClosesOpen A prefix t = OpenAt A prefix × (t.kind ≡ kinds.CloseBrace)

-- what the first token that fits nothing is called, after these tokens
abbrev pub Names : Type 0 → List Tok → Tok → ParseCode → Type 0
Names A prefix t codes.P4 = ClosesOpen A prefix t
Names A prefix t codes.P2 = (ClosesOpen A prefix t → ⊥) × (left_out t.kind t.text ≡ true)
Names A prefix t codes.P1 = (ClosesOpen A prefix t → ⊥) × (left_out t.kind t.text ≡ false)
Names A prefix t codes.P3 = ⊥

abbrev pub last_line : List Tok → ℕ
last_line [] = 1
last_line (t ∷ []) = t.line
last_line (t ∷ (u ∷ ts)) = last_line (u ∷ ts)

-- P3 where the tokens end too early; else the first token that fits nothing names the fault
abbrev pub Named : Type 0 → List Tok → List Tok → List Tok → ParseCode → ℕ → Type 0
Named A ts prefix [] code line = (code ≡ codes.P3) × (line ≡ last_line ts)
Named A ts prefix (t ∷ after) code line = Names A prefix t code × (line ≡ t.line)

-- The fault of tokens that are no program's. A is the memory that the trees would lie in; it changes nothing.
pub record TokenFault (A : Type 0) (ts : List Tok) (code : ParseCode) (line : ℕ) : Type 0 where
  pub prefix : List Tok
  pub rest : List Tok
  pub stops : StopsAt A ts prefix rest
  pub named : Named A ts prefix rest code line
