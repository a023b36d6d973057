-- What the functions of the parser return.
use Rattle.std.specs.Prelude.{◌≡◌, ℕ, Bool, true, false, ◌&&◌, List, [], ◌∷◌, ◌++◌, Result, Ok, Err, if◌then◌else◌}
use Rattle.qil_lexer.specs.declared.token.TokenKind.{TokenKind}
use Rattle.qil_lexer.specs.declared.token.TokenKind.TheVariants as kinds
use Rattle.qil_language.specs.Reading.{Read, got, failed}
use Rattle.qil_parser.specs.declared.error.ParseCode.{ParseCode}
use Rattle.qil_parser.specs.declared.error.ParseCode.TheVariants as codes
use Rattle.qil_parser.specs.declared.error.ParseError.{ParseError}
use Rattle.qil_parser.specs.declared.error.ParseError.TheVariants as errors
use Rattle.qil_parser.specs.declared.cursor_error.CursorError.{CursorError}
use Rattle.qil_parser.specs.declared.cursor_error.CursorError.TheVariants as ends
use Rattle.qil_tree.specs.declared.tree.Program.{Program}
use Rattle.qil_parser.specs.Words.{left_out}
use Rattle.qil_parser.specs.declared.program_cursor.Defined.{Defined}
use Rattle.qil_parser.specs.Programs.{program_of}
use Rattle.qil_parser.specs.Token.{Tok}
use Rattle.qil_parser.specs.Fault.{TokenFault, last_line}

-- ---- parse

-- unless memory ran out, the fault is that of the tokens
abbrev pub IsFault : Type 0 → List Tok → ParseError → Type 0
IsFault A ts (errors.Refused code line) = TokenFault A ts code line
IsFault A ts errors.OutOfMemory = Unit {0}

-- unless memory ran out, just this program
abbrev pub IsProgram : {A : Type 0} → Program A → Result (Program A) ParseError → Type 0
IsProgram p (Ok q) = q ≡ p
IsProgram p (Err (errors.Refused code line)) = ⊥
IsProgram p (Err errors.OutOfMemory) = Unit {0}

-- unless memory ran out, just this refusal
abbrev pub IsRefusedAt : {A : Type 0} → ParseCode → ℕ → Result (Program A) ParseError → Type 0
IsRefusedAt code line (Ok q) = ⊥
IsRefusedAt code line (Err (errors.Refused c l)) = (c ≡ code) × (l ≡ line)
IsRefusedAt code line (Err errors.OutOfMemory) = Unit {0}

-- ---- what stands below it

-- unless memory ran out, reading fails, and these tokens are left
abbrev pub Fails : {A : Type 0} → CursorError → List Tok → Read Tok A → Type 0
Fails ends.Memory rest read = Unit {0}
Fails (ends.Refused marked) rest read = read ≡ failed marked rest

-- unless memory ran out, reading gives what was returned, and these tokens are left
abbrev pub Gives : {X A : Type 0} → (X → A) → List Tok → Result X CursorError → Read Tok A → Type 0
Gives value rest (Ok x) read = read ≡ got (value x) rest
Gives value rest (Err e) read = Fails e rest read

abbrev pub closes : TokenKind → Bool
closes kinds.CloseBrace = true
closes _ = false

-- the code of the first token that fits nothing: whether reading marked its failure comes first
abbrev pub code_of : Bool → TokenKind → List ℕ → ParseCode
code_of marked kind text = if marked && closes kind then codes.P4 else (if left_out kind text then codes.P2 else codes.P1)

abbrev pub TellsAt : List Tok → Bool → List Tok → ParseCode → ℕ → Type 0
TellsAt ts marked [] code line = (code ≡ codes.P3) × (line ≡ last_line ts)
TellsAt ts marked (t ∷ after) code line = (code ≡ code_of marked t.kind t.text) × (line ≡ t.line)

abbrev pub TellsError : List Tok → Bool → List Tok → ParseError → Type 0
TellsError ts marked rest (errors.Refused code line) = TellsAt ts marked rest code line
TellsError ts marked rest errors.OutOfMemory = ⊥

-- one program after another's definitions
abbrev pub extended : {A : Type 0} → Program A → Program A → Program A
extended p q = record { datas = p.datas ++ q.datas; funcs = p.funcs ++ q.funcs; order = p.order ++ q.order }

-- unless memory ran out, the definition stands after the others
abbrev pub Adds : {A : Type 0} → Program A → Defined A → Program A → Result (Unit {0}) CursorError → Type 0
Adds before def after (Ok x) = after ≡ extended before (program_of (def ∷ []))
Adds before def after (Err ends.Memory) = Unit {0}
Adds before def after (Err (ends.Refused marked)) = ⊥
