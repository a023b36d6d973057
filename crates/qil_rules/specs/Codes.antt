-- The codes of the rules.
use Rattle.std.specs.Prelude.{ℕ, List, codes}
use Rattle.qil_rules.specs.declared.rule.Rule.{Rule}
use Rattle.qil_rules.specs.declared.rule.Rule.TheVariants.{C1, C2, C3, C4, C5, C6, C7, C8, C9, C10, C11, C12}

abbrev pub rule_code : Rule → List ℕ
rule_code C1 = codes "C1"
rule_code C2 = codes "C2"
rule_code C3 = codes "C3"
rule_code C4 = codes "C4"
rule_code C5 = codes "C5"
rule_code C6 = codes "C6"
rule_code C7 = codes "C7"
rule_code C8 = codes "C8"
rule_code C9 = codes "C9"
rule_code C10 = codes "C10"
rule_code C11 = codes "C11"
rule_code C12 = codes "C12"
