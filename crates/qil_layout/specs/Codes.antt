-- The codes of the reasons why data can't be laid out.
use Rattle.std.specs.Prelude.{ℕ, List, codes}
use Rattle.qil_layout.specs.declared.error.LayoutCode.{LayoutCode}
use Rattle.qil_layout.specs.declared.error.LayoutCode.TheVariants.{Y1, Y2}

abbrev pub layout_code : LayoutCode → List ℕ
layout_code Y1 = codes "Y1"
layout_code Y2 = codes "Y2"
