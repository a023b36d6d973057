-- How many temporaries a function has.
use Rattle.std.proofs.Common.{◌∙◌, sym, ap, length}
use Rattle.std.proofs.lemmas.List.{length-map}
use Rattle.qil_code.proofs.Readers.{coded, uncoded, temps-there, no-names}
use Rattle.qil_code.proofs.code.Code.slot_count.Goals as goal

pub returns-in-Some : goal.returns-in-Some
returns-in-Some g c =
    sym (length-map c.names.result.now (λ key. key.now))
    ∙ ap (λ ns. length ns) (c.names.ensures ∙ temps-there c.args.self.now c.args.func.index c.in-Some.found.now (coded _ _ _ c.in-Some.ensures.code))

pub returns-in-None : goal.returns-in-None
returns-in-None g c = ap (λ ns. length ns) (sym (no-names c.args.self.now c.args.func.index (uncoded c.args.self.now c.args.func.index c.in-None.ensures.code)))
