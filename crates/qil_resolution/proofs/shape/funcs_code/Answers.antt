-- One function more.
use Rattle.std.proofs.Common.{sym, subst}
use Rattle.qil_code.specs.Facts.{IsNumerable}
use Rattle.qil_code.specs.Ranges.{FuncIsShort}
use Rattle.qil_resolution.proofs.Parts.{all_more, mapped_more, mapped_all}
use Rattle.qil_resolution.proofs.shape.funcs_code.Goals as goal

pub func_code-requires : goal.func_code-requires
func_code-requires g c = subst IsNumerable (sym c.func-item.is) (c.requires c.loop-func.func-index c.func-item.result c.loop-func-test.true)

pub loop-func-preserved : goal.loop-func-preserved
loop-func-preserved g c = record {
  codes = mapped_more _ _ _ c.func-item.result c.loop-func.out.items _ _ _ c.func-item.is c.loop-func-test.true c.in_ok-push.ensures.items c.in_ok-func_code.ensures.code c.loop-func.invariant.codes;
  short = all_more FuncIsShort c.loop-func.out.items _ _ c.in_ok-push.ensures.items c.in_ok-func_code.ensures.short c.loop-func.invariant.short;
}

pub returns-clause-codes : goal.returns-clause-codes
returns-clause-codes g c = mapped_all _ c.args.funcs.now c.loop-func.func-index c.loop-func.out.items c.loop-func-test.false c.loop-func.invariant.codes

pub returns-clause-short : goal.returns-clause-short
returns-clause-short g c = c.loop-func.invariant.short
