-- The goals of `defs` that the check leaves open.
use Rattle.std.proofs.Common.{sym, ◌∙◌}
use Rattle.std.proofs.lemmas.Result.{err_from_is_err_and}
use Rattle.qil_parser.proofs.Ends.{fewer_left}
use Rattle.qil_parser.proofs.Gathering.{defs_continue, defs_stop, defs_end}
use Rattle.qil_parser.proofs.DataProductions.{def_line_takes}
use Rattle.qil_parser.proofs.cursor.Cursor.defs.Goals as goal

pub each-smaller : goal.each-smaller
each-smaller g c = fewer_left _ _ (def_line_takes.fewer _ _ _ c.in_ok-def.ensures)

pub each-preserved : goal.each-preserved
each-preserved g c = rw c.in_ok-add.ensures (defs_continue _ _ _ _ _ (sym c.starts_def.ensures ∙ c.each-test.true) c.in_ok-def.ensures c.each.invariant)

pub returns-in_err-def : goal.returns-in_err-def
returns-in_err-def g c =
    let p = err_from_is_err_and c.from_residual.result c.from_residual.ensures.1 in
    rw (p.1, p.2) (defs_end c.in_err-def.field-0.0 _ _ _ _ (sym c.starts_def.ensures ∙ c.each-test.true) c.in_err-def.ensures c.each.invariant)

pub returns : goal.returns
returns g c = rw c.program.ensures (defs_stop _ _ _ (sym c.starts_def.ensures ∙ c.each-test.false) c.each.invariant)
