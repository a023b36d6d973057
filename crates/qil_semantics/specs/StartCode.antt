-- The codes of the reasons why a run does not start.
use Rattle.std.specs.Prelude.{ℕ, List, codes}
use Rattle.qil_semantics.specs.declared.start.StartFault.{StartFault}
use Rattle.qil_semantics.specs.declared.start.StartFault.TheVariants.{NoEntry, ArgumentCount}

abbrev pub start_code : StartFault → List ℕ
start_code NoEntry = codes "S1"
start_code ArgumentCount = codes "S2"
