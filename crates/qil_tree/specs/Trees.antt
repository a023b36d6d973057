-- What the tree of a program that some tokens spell always has.
use Rattle.std.specs.Prelude.{ℕ, ◌<◌, List, length, All}
use Rattle.qil_tree.specs.declared.tree.Func.{Func}
use Rattle.qil_tree.specs.declared.tree.Program.{Program}

abbrev pub HasBlock : {A : Type 0} → Func A → Type 0
HasBlock f = 0 < length f.blocks

-- each function has a block
abbrev pub HasBlocks : {A : Type 0} → Program A → Type 0
HasBlocks p = All HasBlock p.funcs
