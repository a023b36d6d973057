-- The bytes are those of before, and the access is looked at.
use Rattle.std.proofs.Common.{◌∙◌, ◌<◌, ◌^◌, sym, subst, arith}
use Rattle.qil_shadow.proofs.KeptLemmas.{loaded_is, reported_as, same_value}
use Rattle.qil_shadow.proofs.ShapeLemmas.{set_here}
use Rattle.qil_shadow.proofs.shadow.Shadow.load.Goals as goal

pub returns-clause-origin : goal.returns-clause-origin
returns-clause-origin g c = λ v is spot. loaded_is c.args.class _ _ _ _ v _ _ _ (sym c.in-Some.is ∙ c.value_of.ensures) is c.load_bytes-count.ensures.value c.in_ok-look_through.ensures.rest.memory_is c.load.ensures spot

pub returns-clause-found : goal.returns-clause-found
returns-clause-found g c = λ a v s sh f is own slots read stands.
    reported_as c.args.code.now s sh f _ _ _ _ _ _ _ _ _ (c.origin_of-origin.ensures a own slots read) (same_value _ _ v (sym c.in-Some.is ∙ c.value_of.ensures) is) c.load_bytes-count.ensures.value
    (c.in_ok-look_through.ensures.named c.args.code.now s sh f own stands)

pub returns-clause-low : goal.returns-clause-low
returns-clause-low g c = λ v is.
    let low : c.in-Some.address < 2 ^ 64 = omega arith in
    subst (λ n. n < 2 ^ 64) (same_value _ c.in-Some.address v (sym c.in-Some.is ∙ c.value_of.ensures) is) low

pub returns-clause-unset : goal.returns-clause-unset
returns-clause-unset g c = λ none. set_here _ c.in-Some.address _ (sym c.in-Some.is ∙ c.value_of.ensures) none
