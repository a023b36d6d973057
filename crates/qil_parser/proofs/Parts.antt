-- Blocks read up to the last, as the algebra of languages puts them together.
use Rattle.std.proofs.Common.{ℕ, zero, suc, false, List, [], ◌∷◌, length, Option, Some, None}
use Rattle.qil_language.specs.Reading.{Read, failed, seq, image, either, flagged}
use Rattle.qil_parser.specs.declared.terminal.Terminal.TheVariants as terminals
use Rattle.qil_tree.specs.declared.tree.Jump.{Jump}
use Rattle.qil_parser.specs.Token.{Tok, index}
use Rattle.qil_parser.specs.Functions.{Prefix}
use Rattle.qil_parser.specs.Parsing.{the, perhaps}
use Rattle.qil_parser.specs.FunctionParsing.{jump_starts, jump_line, head}

-- blocks as they are written, and the last of them
abbrev pub Parts : Type 0 → Type 0
Parts A = List (Prefix A × Option Jump) × (Prefix A × Jump)

-- after the prefix of a block: a jump and perhaps other blocks, or other blocks alone
abbrev pub jumped_of : {A : Type 0} → Jump × Option (Parts A) → Prefix A → Parts A
jumped_of (j, None) h = ([], (h, j))
jumped_of (j, Some v) h = ((h, Some j) ∷ v.0, v.1)

abbrev pub fallen_of : {A : Type 0} → Parts A → Prefix A → Parts A
fallen_of v h = ((h, None) ∷ v.0, v.1)

abbrev pub parts_of : {A : Type 0} → Prefix A × (Prefix A → Parts A) → Parts A
parts_of v = v.1 v.0

-- a failure is marked where neither a jump nor a label comes
abbrev pub parts_then : {A : Type 0} → (List Tok → Read Tok (Parts A)) → List Tok → Read Tok (Parts A)
parts_then s = image parts_of (seq head
    (either index jump_starts (image jumped_of (seq jump_line (perhaps (the terminals.Label) s)))
    (flagged index (the terminals.Label) (image fallen_of s))))

abbrev pub parts_at : {A : Type 0} → ℕ → List Tok → Read Tok (Parts A)
parts_at zero ts = failed false ts
parts_at (suc n) ts = parts_then (parts_at n) ts

unfoldable pub parts : {A : Type 0} → List Tok → Read Tok (Parts A)
parts ts = parts_at (length ts) ts
