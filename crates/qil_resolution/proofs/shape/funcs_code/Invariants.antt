-- The functions so far, with those that are left, are all; each so far is short.
use Rattle.std.proofs.Common.{◌≡◌, ◌++◌, drop}
use Rattle.std.specs.Prelude.{All, map}
use Rattle.qil_code.specs.Numbered.{func_code}
use Rattle.qil_code.specs.Ranges.{FuncIsShort}
use Rattle.qil_resolution.proofs.shape.funcs_code.Given as goal

abbrev pub invariant-loop-func : goal.invariant-loop-func
invariant-loop-func g l = record {
  codes : l.out.items ++ map (func_code l.image) (drop l.func-index l.funcs) ≡ map (func_code l.image) l.funcs;
  short : All (FuncIsShort {A = g.row.A.Denot}) l.out.items;
}
