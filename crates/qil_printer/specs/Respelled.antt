-- Canonical texts read again: they can be cut into tokens, and their tokens spell the same tree, its line aside.
use Rattle.std.specs.Prelude.{◌≡◌, List}
use Rattle.std.specs.List.{All}
use Rattle.qil_lexer.specs.declared.token.Token.{Token}
use Rattle.qil_lexer.specs.Cut.{Cuts}
use Rattle.qil_tree.specs.declared.tree.Inst.{Inst}
use Rattle.qil_tree.specs.declared.tree.Phi.{Phi}
use Rattle.qil_tree.specs.declared.tree.Jump.{Jump}
use Rattle.qil_tree.specs.declared.tree.Block.{Block}
use Rattle.qil_tree.specs.declared.tree.Program.{Program}
use Rattle.qil_parser.specs.Token.{seen}
use Rattle.qil_parser.specs.Functions.{InstOf, PhiOf, JumpOf}
use Rattle.qil_printer.specs.Canonical.{inst_text, phi_text, jump_text}

pub record InstRespelled {A : Type 0} (inst : Inst A) : Type 0 where
  pub tokens : List Token
  pub cut : Cuts (inst_text inst) tokens
  pub again : Inst A
  pub spelled : (us : List Token) → Cuts (inst_text inst) us → InstOf (seen us) again
  pub same : again.kind ≡ inst.kind

pub record PhiRespelled {A : Type 0} (phi : Phi A) : Type 0 where
  pub tokens : List Token
  pub cut : Cuts (phi_text phi) tokens
  pub again : Phi A
  pub spelled : (us : List Token) → Cuts (phi_text phi) us → PhiOf (seen us) again
  pub same_target : again.target ≡ phi.target
  pub same_sources : again.sources ≡ phi.sources

pub record JumpRespelled (jump : Jump) : Type 0 where
  pub tokens : List Token
  pub cut : Cuts (jump_text jump) tokens
  pub again : Jump
  pub spelled : (us : List Token) → Cuts (jump_text jump) us → JumpOf (seen us) again
  pub same : again.kind ≡ jump.kind

-- of a block: each phi, each instruction and the jump, written or left out
pub record BlockRespelled {A : Type 0} (block : Block A) : Type 0 where
  pub phis : All PhiRespelled block.phis
  pub insts : All InstRespelled block.insts
  pub jump : JumpRespelled block.jump

-- of a program: each block of each function
abbrev pub ProgramRespelled : {A : Type 0} → Program A → Type 0
ProgramRespelled p = All (λ f. All BlockRespelled f.blocks) p.funcs
