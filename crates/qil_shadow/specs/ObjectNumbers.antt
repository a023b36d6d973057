-- The number of the object of a name: data before functions, and those that every program has behind them.
use Rattle.std.specs.Prelude.{◌≡◌, ℕ, ◌+◌, ◌≤◌, List, [], ◌∷◌, length, codes, Option, None}
use Rattle.std.specs.Option.{option_or}
use Rattle.qil_tree.specs.declared.tree.Data.{Data}
use Rattle.qil_tree.specs.declared.tree.Func.{Func}
use Rattle.qil_tree.specs.declared.tree.Program.{Program}
use Rattle.qil_symbols.specs.Tables.{for_name}
use Rattle.qil_memory.specs.qil_layout.Layout.{data_base, start_of, end_of, fault_of}
use Rattle.qil_semantics.specs.State.{Name}

-- of the first of that name, if the first of all has this number
abbrev pub data_number : {A : Type 0} → ℕ → List (Data A) → Name → Option ℕ
data_number n [] x = None
data_number n (d ∷ ds) x = option_or (for_name d.name n x) (data_number (n + 1) ds x)

abbrev pub function_number : {A : Type 0} → ℕ → List (Func A) → Name → Option ℕ
function_number n [] x = None
function_number n (f ∷ fs) x = option_or (for_name f.name n x) (function_number (n + 1) fs x)

abbrev pub built_in_number : ℕ → Name → Option ℕ
built_in_number n x = option_or (for_name (codes "putchar") n x) (option_or (for_name (codes "puts") (n + 1) x) (for_name (codes "exit") (n + 2) x))

-- ---- where the data begin

abbrev pub data_starts : {A : Type 0} → ℕ → List (Data A) → List ℕ
data_starts at [] = []
data_starts at (d ∷ ds) = start_of at d ∷ data_starts (end_of at d) ds

-- a program that could be laid out, and where its data begin
pub record AreStarts {A : Type 0} (p : Program A) (starts : List ℕ) : Type 0 where
  pub no_fault : fault_of p ≡ None
  pub few : length p.funcs ≤ 1000
  pub starts_are : starts ≡ data_starts data_base p.datas
