-- The operand that is written there.
use Rattle.std.proofs.Common.{◌∙◌, sym, ap}
use Rattle.std.specs.Option.{option_copied}
use Rattle.qil_shadow.proofs.ReadLemmas.{phi_is_written, no_phi}
use Rattle.qil_shadow.proofs.shadow.Shadow.constant_phi.Goals as goal

pub returns-in-Some : goal.returns-in-Some
returns-in-Some g c = λ a own read value.
    phi_is_written c.args.code.now _ _ _ c.args.place c.args.to.index c.args.index c.in-Some.operand.now a c.args.value c.args.class _ (sym (ap (λ o. option_copied o) c.in-Some.is) ∙ c.phi_written.ensures) (λ are written. c.written_origin.ensures are written) own read value

pub returns-in-None : goal.returns-in-None
returns-in-None g c = λ a own read value. no_phi c.args.code.now c.args.place c.args.to.index c.args.index a _ (sym (ap (λ o. option_copied o) c.in-None.is) ∙ c.phi_written.ensures) read
