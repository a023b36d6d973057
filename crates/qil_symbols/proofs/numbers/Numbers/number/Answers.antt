-- A number is below how many names there are.
use Rattle.std.proofs.Common.{◌≡◌, ◌<◌, ◌∙◌, ap, sym, subst, length, IfSome}
use Rattle.qil_symbols.specs.Numbers.{place_of}
use Rattle.qil_symbols.proofs.NumberLemmas.{place-within}
use Rattle.qil_symbols.proofs.numbers.Numbers.number.Goals as goal

pub returns-clause-within : goal.returns-clause-within
returns-clause-within g c =
    let found : c.copied.result ≡ place_of c.args.self.now c.args.name.now = c.copied.ensures ∙ c.get.ensures.value ∙ c.self.invariant c.args.name.now ∙ ap (λ ns. place_of ns c.args.name.now) c.self.view_is in
    subst (λ o. IfSome o (λ i. i < length c.args.self.now)) (sym found) (place-within c.args.self.now c.args.name.now)
