-- Each function of a program that is spelled has a block.
use Rattle.std.proofs.Common.{◌≡◌, ◌∙◌, subst, ℕ, ◌<◌, List, [], ◌∷◌, length, Option, inl, inr, arith}
use Rattle.std.specs.Prelude.{All}
use Rattle.std.specs.List.{flat_map}
use Rattle.std.proofs.lemmas.List.Elements.{All-cons, All-append}
use Rattle.qil_language.specs.Language.{Many}
use Rattle.qil_tree.specs.declared.tree.Jump.{Jump}
use Rattle.qil_tree.specs.declared.tree.Block.{Block}
use Rattle.qil_tree.specs.declared.tree.Func.{Func}
use Rattle.qil_tree.specs.declared.tree.Program.{Program}
use Rattle.qil_parser.specs.declared.program_cursor.Defined.{Defined}
use Rattle.qil_parser.specs.Token.{Tok}
use Rattle.qil_parser.specs.Functions.{Prefix, FuncOf, blocks_of}
use Rattle.qil_parser.specs.Programs.{ThingOf, DefLine, Spells, funcs_in}
use Rattle.qil_tree.specs.Trees.{HasBlock, HasBlocks}

module _ {A : Type 0} where
  a_block : (prefixes : List (Prefix A × Option Jump)) (last : Prefix A × Jump) → 0 < length (blocks_of prefixes last)
  a_block [] last = omega arith
  a_block (prefix ∷ prefixes) last = omega arith

  func_has : (ts : List Tok) (f : Func A) → FuncOf ts f → HasBlock f
  func_has ts f i =
      let b = i.spelled.second in
      let w = b.spelled.first in
      subst HasBlock i.made (subst (λ (bs : List (Block A)). 0 < length bs) (w.made ∙ b.made) (a_block w.value.0 w.value.1))

  no_function : All {X = Func A} HasBlock []
  no_function k d l = absurd (omega (arith, l))

  thing_has : (ts : List Tok) (d : Defined A) → ThingOf ts d → All HasBlock (funcs_in d)
  thing_has ts d (inl i) = subst (λ (v : Defined A). All HasBlock (funcs_in v)) i.made no_function
  thing_has ts d (inr i) = subst (λ (v : Defined A). All HasBlock (funcs_in v)) i.made (All-cons HasBlock i.value [] (func_has ts i.value i.spelled) no_function)

  line_has : (ts : List Tok) (d : Defined A) → DefLine ts d → All HasBlock (funcs_in d)
  line_has ts d i =
      let t = i.spelled.first in
      subst (λ (v : Defined A). All HasBlock (funcs_in v)) (t.made ∙ i.made) (thing_has t.spelled.right t.value.1 t.spelled.second)

  lines_have : (ts : List Tok) (ds : List (Defined A)) → Many DefLine ts ds → All HasBlock (flat_map funcs_in ds)
  lines_have ts [] m = no_function
  lines_have ts (d ∷ ds) m = All-append HasBlock (funcs_in d) (flat_map funcs_in ds) (line_has m.0 d m.3) (lines_have m.1 ds m.4)

  pub spelled_has : (ts : List Tok) (p : Program A) → Spells ts p → HasBlocks p
  spelled_has ts p i =
      let w = i.spelled in
      subst HasBlocks i.made (subst (λ (ds : List (Defined A)). All HasBlock (flat_map funcs_in ds)) w.made (lines_have w.spelled.right w.value.1 w.spelled.second))
