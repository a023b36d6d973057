-- What numbering takes from the rules that a checked program keeps.
use Rattle.std.proofs.Common.{◌≡◌, ℕ, map, get_or, slice_get, Some}
use Rattle.std.proofs.lemmas.Option.{slice_get-get_or}
use Rattle.qil_tree.specs.declared.tree.Func.{Func}
use Rattle.qil_tree.specs.declared.tree.Program.{Program}
use Rattle.qil_rules.specs.Rules.{WellFormed}
use Rattle.qil_code.specs.Facts.{IsNumerable, AreNumerable, Finds}
use Rattle.qil_code.specs.Gather.{labels_in}
use Rattle.qil_code.proofs.Apart.{recorded-same}
use Rattle.qil_code.proofs.FactsNames.{names_apart, found_by, placed_by, mapped_at}
use Rattle.qil_resolution.proofs.FactsBlocks.{labels_apart, few_blocks}
use Rattle.qil_code.proofs.FactsTemps.{few_temps}

pub func_numerable : {A : Type 0} (p : Program A) → WellFormed p → (n : ℕ) (f : Func A) → slice_get p.funcs n ≡ Some f → IsNumerable f
func_numerable p kept n f there = record {
  few_temps = few_temps p kept n f there;
  few_blocks = few_blocks p kept n f there;
  labels = recorded-same (labels_in f.blocks) (labels_apart p kept n f there);
}

pub numerable : {A : Type 0} (p : Program A) → WellFormed p → AreNumerable p
numerable p kept = record {
  each = λ i d lt. func_numerable p kept i (get_or p.funcs i d) (slice_get-get_or p.funcs i d lt);
  names = recorded-same (map (λ f. f.name) p.funcs) (names_apart p kept);
}

pub finds : {A : Type 0} (p : Program A) → WellFormed p → Finds p
finds p kept = record {
  func = λ i f there. found_by (λ g. g.name) p.funcs (names_apart p kept) i f there;
  block = λ i f j b there at. found_by (λ c. c.label) f.blocks (labels_apart p kept i f there) j b at;
  number = λ i f there. placed_by (map (λ g. g.name) p.funcs) (names_apart p kept) i f.name (mapped_at (λ g. g.name) p.funcs i f there);
}
