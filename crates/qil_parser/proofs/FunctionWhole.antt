-- Functions are read as they are spelled.
use Rattle.std.proofs.Common.{ℕ, false, [], refl, subst, List}
use Rattle.qil_language.specs.Reading.{Read}
use Rattle.qil_language.specs.Reads.{Reads}
use Rattle.qil_language.proofs.Law.{seq_reads, image_reads}
use Rattle.qil_parser.specs.declared.terminal.Terminal.TheVariants as terminals
use Rattle.qil_tree.specs.declared.tree.Block.{Block}
use Rattle.qil_parser.specs.Token.{Tok, index}
use Rattle.qil_parser.specs.Functions.{Blocks, FuncOf, blocks_of, func_of}
use Rattle.qil_parser.specs.Parsing.{the}
use Rattle.qil_parser.specs.FunctionParsing.{blocks, func}
use Rattle.qil_parser.proofs.Productions.{at, close_brace, before_reads}
use Rattle.qil_parser.proofs.FunctionProductions.{top_reads}
use Rattle.qil_parser.proofs.Blocks.{parts_reads}
use Rattle.qil_parser.proofs.BlocksLoop.{blocks_are}

module _ {A : Type 0} where
  blocks_reads : (n : ℕ) → Reads n false index (Blocks {A = A}) blocks (the terminals.Label) false (the terminals.Label)
  blocks_reads n = subst (λ (r : List Tok → Read Tok (List (Block A))). Reads n false index Blocks r (the terminals.Label) false (the terminals.Label)) (λ i ts. blocks_are ts i) (image_reads (λ v. blocks_of v.0 v.1) (parts_reads n))

  pub func_reads : (n : ℕ) → Reads n false index (FuncOf {A = A}) func (the terminals.Function) false []
  unfolding at close_brace func
  func_reads n = image_reads func_of (seq_reads (top_reads n) (before_reads terminals.CloseBrace close_brace refl refl (blocks_reads n)) refl)
