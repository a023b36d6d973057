-- The lines of the notes, and the last one.
use Rattle.qrev_check.proofs.Reports.{reported}
use Rattle.qrev_check.proofs.report.report_of.Goals as goal

pub returns : goal.returns
returns g c = (
  c.first_unsure.result,
  reported c.args.pass.now.whole.program c.code.result.now c.args.pass.now.notes c.notes-notes.result.now c.args.pass.now.moves c.moves.result c.first_unsure.result c.new-line.result c.put_notes.new.line c.put_last.new.line
      c.code.ensures c.notes-notes.ensures c.moves.ensures c.new-line.ensures c.in_ok-put_notes.ensures c.in_ok-put_last.ensures,
)
