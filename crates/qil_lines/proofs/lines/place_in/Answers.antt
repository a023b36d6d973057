-- The place that was found is that of the first mark.
use Rattle.qil_lines.specs.Lines.{marks_of}
use Rattle.qil_lines.proofs.Firsts.{place_found, place_none, place_only}
use Rattle.qil_lines.proofs.Marked.{place_there}
use Rattle.qil_lines.proofs.lines.place_in.Goals as goal

pub returns : goal.returns
returns g c = record {
  first = place_found c.args.line (marks_of c.args.func.now) c.first_place.result c.first_place.ensures;
  none = place_none c.args.line (marks_of c.args.func.now) c.first_place.result c.first_place.ensures;
  only = λ mark f. place_only c.args.line (marks_of c.args.func.now) c.first_place.result c.first_place.ensures mark f;
  there = λ b k rise has at. place_there c.args.line b k c.args.func.now.blocks c.first_place.result c.first_place.ensures rise has at;
}
