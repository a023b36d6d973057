-- Answers to the goals of `page_said`.
use Rattle.qrev_inspection.proofs.looking.page_said.Goals as goal

pub returns : goal.returns
returns g c = record {
  from = (c.number.result, c.number.ensures, c.unwrap_or-start.ensures);
  many = (c.unwrap_or-count.result, (c.number-2.result, c.number-2.ensures, c.unwrap_or-count.ensures), c.all_for_none.ensures);
}
