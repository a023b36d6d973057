-- What a text spells as a program can be written, in all its functions: the canonical texts of its parts spell the same.
use Rattle.std.proofs.Common.{◌≡◌, ℕ, zero, suc, ◌<◌, List, [], ◌∷◌, ◌++◌, length, Option, Some, None, arith}
use Rattle.std.specs.List.{All, flat_map, slice_index_or}
use Rattle.qil_lexer.specs.declared.token.Token.{Token}
use Rattle.qil_lexer.specs.Cut.{Cuts}
use Rattle.qil_lexer.specs.Shape.{IsName}
use Rattle.qil_lexer.proofs.Law.{cut_shapes}
use Rattle.qil_language.specs.Language.{Seq, Many}
use Rattle.qil_parser.specs.declared.terminal.Terminal.TheVariants as terminals
use Rattle.qil_tree.specs.declared.tree.Inst.{Inst}
use Rattle.qil_tree.specs.declared.tree.Jump.{Jump}
use Rattle.qil_tree.specs.declared.tree.Block.{Block}
use Rattle.qil_tree.specs.declared.tree.Func.{Func}
use Rattle.qil_tree.specs.declared.tree.Program.{Program}
use Rattle.qil_parser.specs.declared.program_cursor.Defined.{Defined}
use Rattle.qil_parser.specs.declared.program_cursor.Defined.TheVariants as defined
use Rattle.qil_parser.specs.Token.{Tok, seen}
use Rattle.qil_parser.specs.Grammar.{Line, Before}
use Rattle.qil_parser.specs.Functions.{InstOf, PhiOf, Prefix, Body, Head, JumpOf, BlockOf, LastBlock, jump_or, first_label, block_of, blocks_of, Blocks, FuncTop, func_of, FuncOf}
use Rattle.qil_parser.specs.DataGrammar.{DataOf}
use Rattle.qil_parser.specs.Programs.{Links, ThingOf, DefOf, DefLine, funcs_in, program_of, Spells}
use Rattle.qil_printer.specs.Respelled.{BlockRespelled, ProgramRespelled}
use Rattle.qil_printer.proofs.Writes.{AllOf}
use Rattle.qil_printer.proofs.Writable.{GoodKind, GoodPhi, GoodJump}
use Rattle.qil_printer.proofs.Spelled.{Yields, Any, yields_any, yields_seq, yields_image, yields_either, yields_nothing, yields_many, yields_before, yields_after, yields_label, yields_inst, yields_phi, yields_jump}
use Rattle.qil_printer.proofs.Respells.{shaped_toks, inst_again, phi_again, jump_again}

abbrev GoodInst : {A : Type 0} → Inst A → Type 0
GoodInst i = GoodKind i.kind

abbrev GoodPrefix : {A : Type 0} → Prefix A → Type 0
GoodPrefix v = IsName v.0.1 × (AllOf GoodPhi v.1.0 × AllOf GoodInst v.1.1)

abbrev GoodLeft : Option Jump → Type 0
GoodLeft None = Unit {0}
GoodLeft (Some j) = GoodJump j.kind

abbrev GoodPart : {A : Type 0} → Prefix A × Option Jump → Type 0
GoodPart v = GoodPrefix v.0 × GoodLeft v.1

abbrev GoodLast : {A : Type 0} → Prefix A × Jump → Type 0
GoodLast v = GoodPrefix v.0 × GoodJump v.1.kind

record GoodBlock {A : Type 0} (b : Block A) : Type 0 where
  phis : AllOf GoodPhi b.phis
  insts : AllOf GoodInst b.insts
  jump : GoodJump b.jump.kind

abbrev GoodFunc : {A : Type 0} → Func A → Type 0
GoodFunc f = AllOf GoodBlock f.blocks

-- ---- blocks

yields_body : {A : Type 0} → Yields (Body {A = A}) (λ v. AllOf GoodPhi v.0 × AllOf GoodInst v.1)
yields_body = yields_seq (yields_many (Before PhiOf terminals.Newline) GoodPhi (yields_before terminals.Newline GoodPhi yields_phi)) (yields_many (Before InstOf terminals.Newline) GoodInst (yields_before terminals.Newline GoodInst yields_inst))

yields_head : {A : Type 0} → Yields (Head {A = A}) GoodPrefix
yields_head = yields_seq (yields_before terminals.Newline (λ v. IsName v.1) yields_label) yields_body

yields_part : {A : Type 0} → Yields (BlockOf {A = A}) GoodPart
yields_part = yields_seq yields_head (yields_either (yields_image Some GoodLeft (yields_before terminals.Newline (λ j. GoodJump j.kind) yields_jump) (λ a q. q)) (yields_nothing None GoodLeft tt))

yields_last : {A : Type 0} → Yields (LastBlock {A = A}) GoodLast
yields_last = yields_seq yields_head (yields_before terminals.Newline (λ j. GoodJump j.kind) yields_jump)

good_block : {A : Type 0} (v : Prefix A) (j : Jump) → GoodPrefix v → GoodJump j.kind → GoodBlock (block_of v j)
good_block v j h k = record { phis = h.1.0; insts = h.1.1; jump = k }

-- the label that comes next is a name
good_label : {A : Type 0} (vs : List (Prefix A × Option Jump)) (last : Prefix A × Jump) → AllOf GoodPart vs → GoodLast last → IsName (first_label vs last).1
good_label [] last h k = k.0.0
good_label (v ∷ vs) last h k = h.0.0.0

good_jump : (j : Option Jump) (next : ℕ × List ℕ) → GoodLeft j → IsName next.1 → GoodJump (jump_or j next).kind
good_jump (Some j) next h k = h
good_jump None next h k = k

good_blocks : {A : Type 0} (vs : List (Prefix A × Option Jump)) (last : Prefix A × Jump) → AllOf GoodPart vs → GoodLast last → AllOf GoodBlock (blocks_of vs last)
good_blocks [] last h k = (good_block last.0 last.1 k.0 k.1, tt)
good_blocks (v ∷ vs) last h k =
    (good_block v.0 (jump_or v.1 (first_label vs last)) h.0.0 (good_jump v.1 (first_label vs last) h.0.1 (good_label vs last h.1 k)), good_blocks vs last h.1 k)

yields_blocks : {A : Type 0} → Yields (Blocks {A = A}) (AllOf GoodBlock)
yields_blocks = yields_image (λ v. blocks_of v.0 v.1) (AllOf GoodBlock) (yields_seq (yields_many BlockOf GoodPart yields_part) yields_last) (λ a q. good_blocks a.0 a.1 q.0 q.1)

-- ---- programs

yields_func : {A : Type 0} → Yields (FuncOf {A = A}) GoodFunc
yields_func = yields_image func_of GoodFunc (yields_seq (yields_any FuncTop) (yields_before terminals.CloseBrace (AllOf GoodBlock) yields_blocks)) (λ a q. q.1)

abbrev GoodDefined : {A : Type 0} → Defined A → Type 0
GoodDefined (defined.Data d) = Unit {0}
GoodDefined (defined.Func f) = GoodFunc f

yields_thing : {A : Type 0} → Yields (ThingOf {A = A}) GoodDefined
yields_thing = yields_either (yields_image defined.Data GoodDefined (yields_any DataOf) (λ a q. tt)) (yields_image defined.Func GoodDefined yields_func (λ a q. q))

yields_def : {A : Type 0} → Yields (DefOf {A = A}) GoodDefined
yields_def = yields_image (λ v. v.1) GoodDefined (yields_seq (yields_any Links) yields_thing) (λ a q. q.1)

yields_line : {A : Type 0} → Yields (DefLine {A = A}) GoodDefined
yields_line = yields_image (λ v. v.0) GoodDefined (yields_seq yields_def (yields_any Line)) (λ a q. q.0)

good_funcs : {A : Type 0} (defs : List (Defined A)) → AllOf GoodDefined defs → AllOf GoodFunc (flat_map funcs_in defs)
good_funcs [] h = tt
good_funcs (defined.Data d ∷ defs) h = good_funcs defs h.1
good_funcs (defined.Func f ∷ defs) h = (h.0, good_funcs defs h.1)

yields_program : {A : Type 0} → Yields (Spells {A = A}) (λ p. AllOf GoodFunc p.funcs)
yields_program = yields_image program_of (λ p. AllOf GoodFunc p.funcs) (yields_image (λ v. v.1) (AllOf GoodDefined) (yields_seq (yields_any Line) (yields_many DefLine GoodDefined yields_line)) (λ a q. q.1)) (λ a q. good_funcs a q)

-- ---- each of them

-- at the first place, and at each one after it
here_or_behind : {X : Type 0} (Q : X → Type 0) (x : X) (xs : List X) → Q x → All Q xs → All Q (x ∷ xs)
here_or_behind Q x xs q all zero d lt = q
here_or_behind Q x xs q all (suc k) d lt = all k d (omega arith)

all_of : {X : Type 0} (P Q : X → Type 0) (xs : List X) → ((x : X) → P x → Q x) → AllOf P xs → All Q xs
all_of P Q [] f h = λ k d lt. absurd (omega arith)
all_of P Q (x ∷ xs) f h = here_or_behind Q x xs (f x h.0) (all_of P Q xs f h.1)

block_again : {A : Type 0} (b : Block A) → GoodBlock b → BlockRespelled b
block_again b h = record {
  phis = all_of GoodPhi _ b.phis phi_again h.phis;
  insts = all_of GoodInst _ b.insts inst_again h.insts;
  jump = jump_again b.jump h.jump;
}

pub program_respelled : {A : Type 0} (text : List ℕ) (ts : List Token) (p : Program A) → Cuts text ts → Spells (seen ts) p → ProgramRespelled p
program_respelled text ts p cut spelled =
    all_of GoodFunc _ p.funcs (λ f h. all_of GoodBlock BlockRespelled f.blocks block_again h) (yields_program (seen ts) p (shaped_toks ts (cut_shapes text ts cut)) spelled)
