-- What is known of a program that was checked.
use Rattle.qil_tree.specs.declared.tree.Program.{Program}
use Rattle.qil_rules.specs.declared.form.Form.{Form}

-- a program that was checked, and its form
pub record Verdict (A : Type 0) : Type 0 where
  pub program : Program A
  pub form : Form
