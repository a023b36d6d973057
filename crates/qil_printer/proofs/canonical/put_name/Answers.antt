-- The sigil and then the name: by hand, so that anything else that is put is refused at once.
use Rattle.std.proofs.Common.{rules}
use Rattle.qil_streams.proofs.TextLemmas.{Puts-append, Puts-stop}
use Rattle.qil_printer.proofs.canonical.put_name.Goals as goal

pub returns-in_err-put : goal.returns-in_err-put
returns-in_err-put g c = record {
  text = Puts-stop _ _ c.from_residual.ensures.1 c.in_err-put.field-0.0 _ _ c.args.sigil.now c.args.name.now c.in_err-put.ensures.text;
  counted = search rules;
  device = search rules;
}

pub returns : goal.returns
returns g c = record {
  text = Puts-append _ _ _ _ c.args.sigil.now c.args.name.now c.in_ok-put.ensures.text c.put-2.ensures.text;
  counted = search rules;
  device = search rules;
}
