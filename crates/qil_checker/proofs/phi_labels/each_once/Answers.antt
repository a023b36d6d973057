-- No name stands twice where each stands first at its own place.
use Rattle.std.proofs.Common.{◌≡◌, ◌∙◌, sym, refl, subst, arith, List, ℕ, Some, slice_get, ◌<◌, length, below_more}
use Rattle.std.proofs.lemmas.Option.{slice_get_within}
use Rattle.qil_checker.specs.Tables.{first, is}
use Rattle.qil_checker.proofs.Texts.Places.{name_found, name_absent, read_there}
use Rattle.qil_checker.proofs.phi_labels.each_once.Goals as goal

pub returns-then-first-place : goal.returns-then-first-place
returns-then-first-place g c =
    let there = read_there c.args.names.now c.loop-place.place c.index-names-place.result (omega arith) c.index-names-place.is in
    let e = sym (c.in-Some.ensures ∙ c.requires c.index-names-place.result) in (
      λ t. absurd cc,
      λ d.
          let same : c.in-Some.first ≡ c.loop-place.place = d _ _ c.index-names-place.result (name_found c.args.names.now c.index-names-place.result c.in-Some.first e) there in
          absurd (grind arith),
    )

pub returns-in-None : goal.returns-in-None
returns-in-None g c =
    let there = read_there c.args.names.now c.loop-place.place c.index-names-place.result (omega arith) c.index-names-place.is in
    (λ t. absurd cc, λ d. absurd (name_absent c.args.names.now c.index-names-place.result (sym (c.in-None.ensures ∙ c.requires c.index-names-place.result)) c.loop-place.place there))

pub loop-place-preserved : goal.loop-place-preserved
loop-place-preserved g c = λ j x l s.
    let there = read_there c.args.names.now c.loop-place.place c.index-names-place.result (omega arith) c.index-names-place.is in
    let e : first (is c.index-names-place.result) 0 c.args.names.now ≡ Some c.in-Some.first = sym (c.in-Some.ensures ∙ c.requires c.index-names-place.result) in
    let same : c.in-Some.first ≡ c.loop-place.place = grind arith in
    below_more (λ k. (y : List ℕ) → slice_get c.args.names.now k ≡ Some y → first (is y) 0 c.args.names.now ≡ Some k) c.loop-place.place
    (λ k h y t. c.loop-place.invariant k y h t)
    (λ y t. let name : c.index-names-place.result ≡ y = cc in subst (λ n. first (is n) 0 c.args.names.now ≡ Some c.loop-place.place) name (subst (λ k. first (is c.index-names-place.result) 0 c.args.names.now ≡ Some k) same e))
    j l x s

pub returns : goal.returns
returns g c = (
  λ t i j x a b.
      let p : i < length c.args.names.now = slice_get_within c.args.names.now i x a in
      let q : j < length c.args.names.now = slice_get_within c.args.names.now j x b in
      let m = c.loop-place.invariant i x (omega arith) a in
      let n = c.loop-place.invariant j x (omega arith) b in
      cc,
  λ d. refl,
)
