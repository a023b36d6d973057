-- One name more, if it is new: its number is how many there were.
use Rattle.std.proofs.Common.{◌≡◌, ◌∙◌, ◌-◌, sym, ap, ◌∷◌, ◌++◌, [], arith}
use Rattle.std.specs.Option.{is_some}
use Rattle.qil_symbols.specs.Numbers.{place_of, names_of}
use Rattle.qil_symbols.proofs.NumberLemmas.{noted-known, noted-new, names-append, placed-last, same-entries, taken-back}
use Rattle.qil_symbols.proofs.numbers.Numbers.note.Goals as goal

pub returns-then-contains_key : goal.returns-then-contains_key
returns-then-contains_key g c =
    let found : is_some (place_of c.args.self.now c.args.name.now) ≡ c.contains_key.result =
    sym (c.contains_key.ensures ∙ ap (λ o. is_some o) (c.self.invariant c.args.name.now ∙ ap (λ ns. place_of ns c.args.name.now) c.self.view_is)) in
    noted-known c.args.self.now c.args.name.now (found ∙ c.if-contains_key.true)

pub invariant_of-self-in-Ok : goal.invariant_of-self-in-Ok
invariant_of-self-in-Ok g c =
    placed-last c.self.inside.places c.insert.new.self c.self.inside.names.items c.push.new.self.items c.args.name c.len-place.result
    c.self.invariant (sym c.contains_key.ensures ∙ c.if-contains_key.false) c.in-Ok.ensures.updates
    (c.len-place.ensures ∙ c.self.inside.names.ok.0) c.in_ok-push.ensures.items

pub returns-in-Ok : goal.returns-in-Ok
returns-in-Ok g c =
    let found : is_some (place_of c.args.self.now c.args.name.now) ≡ c.contains_key.result =
    sym (c.contains_key.ensures ∙ ap (λ o. is_some o) (c.self.invariant c.args.name.now ∙ ap (λ ns. place_of ns c.args.name.now) c.self.view_is)) in
    ap names_of c.in_ok-push.ensures.items
    ∙ names-append c.self.inside.names.items c.args.name
    ∙ ap (λ ns. ns ++ c.args.name.now ∷ []) c.self.view_is
    ∙ noted-new c.args.self.now c.args.name.now (found ∙ c.if-contains_key.false)

pub invariant_of-self-in-Err : goal.invariant_of-self-in-Err
invariant_of-self-in-Err g c = λ x.
    let kept : c.pop.new.self.items ≡ c.self.inside.names.items =
    let last : c.push.new.self.len - 1 ≡ c.self.inside.names.len = omega (arith, c.in_ok-push.ensures.len) in
    taken-back c.self.inside.names.items c.push.new.self.items c.pop.new.self.items c.args.name (c.push.new.self.len - 1) c.in_ok-push.ensures.items (last ∙ c.self.inside.names.ok.0) c.pop.ensures.rest in
    same-entries c.self.inside.places c.insert.new.self c.in-Err.ensures.err x ∙ c.self.invariant x ∙ ap (λ ks. place_of (names_of ks) x) (sym kept)
