-- What the argument is made of.
use Rattle.std.proofs.Common.{◌≡◌, ◌∙◌, ◌++◌, sym, ap, refl, Some, None, slice_get}
use Rattle.std.specs.Option.{option_copied}
use Rattle.std.proofs.lemmas.List.{append-nil}
use Rattle.qil_shadow.specs.Reads.{innermost}
use Rattle.qil_shadow.proofs.PassLemmas.{one_gathered, none_gathered, keeps_gathered}
use Rattle.qil_shadow.proofs.shadow.Shadow.gather_one.Goals as goal

pub returns-in_ok-pass_open-in-Some-clause-moved : goal.returns-in_ok-pass_open-in-Some-clause-moved
returns-in_ok-pass_open-in-Some-clause-moved g c = λ given at are.
    let here : slice_get c.args.args.now c.args.index ≡ Some c.in-Some.arg.now = sym c.argument_at.ensures ∙ ap (λ o. option_copied o) c.in-Some.is in
    c.pass_open.ensures.moved
    ∙ c.in_ok-push-in-Some.ensures.items
    ∙ ap (λ ms. c.args.self.now.moved.items ++ ms)
    (one_gathered c.args.code.now c.args.place (innermost c.args.code.now c.args.place.func.index c.args.self.now.calls.calls) c.args.args.now given c.args.index c.in-Some.arg.now c.args.param c.class-class.result c.origin_of-origin.result here
    c.class-class.ensures (λ a read. c.origin_of-origin.ensures a at.own at.slots read) are)

pub returns-in_ok-pass_open-in-Some-clause-rest : goal.returns-in_ok-pass_open-in-Some-clause-rest
returns-in_ok-pass_open-in-Some-clause-rest g c = keeps_gathered c.args.self.now _ c.pass_open.new.self refl refl refl refl refl refl refl c.pass_open.ensures.all

pub returns-in-None-clause-moved : goal.returns-in-None-clause-moved
returns-in-None-clause-moved g c = λ given at are.
    let here : slice_get c.args.args.now c.args.index ≡ None = sym c.argument_at.ensures ∙ ap (λ o. option_copied o) c.in-None.is in
    sym (append-nil c.args.self.now.moved.items)
    ∙ ap (λ ms. c.args.self.now.moved.items ++ ms)
    (none_gathered c.args.code.now c.args.place (innermost c.args.code.now c.args.place.func.index c.args.self.now.calls.calls) c.args.args.now given c.args.index c.args.param here are)
