-- A text that begins with a function's name is that of one function.
use Rattle.std.proofs.Common.{◌≡◌, ℕ, ◌≤◌, subst, refl, List, [], ◌∷◌, length, get_or, Bool, true, if◌then◌else◌, arith}
use Rattle.qil_rules.specs.declared.occurrence.Occurrence.{Occurrence}
use Rattle.qil_rules.specs.Rules.{is_function, begins_function}
use Rattle.qil_checker.proofs.definition.IndexedDefinition.functions.Goals as goal

begun : (text : List Occurrence) (m : Occurrence) (r : Bool) → 1 ≤ length text → m ≡ get_or text 0 m → r ≡ begins_function m.what → r ≡ true
    → ◌≡◌ {A = ℕ} 1 (if is_function text then 1 else 0)
begun [] m r some is e t = absurd (omega (arith, some))
begun (x ∷ text) m r some is e t = let begins : begins_function x.what ≡ true = cc in rw begins refl

pub returns-in-len1-up : goal.returns-in-len1-up
returns-in-len1-up g c =
    subst (λ (text : List Occurrence). ◌≡◌ {A = ℕ} 1 (if is_function text then 1 else 0)) c.as_slice.ensures.value
    (begun c.as_slice.result.now c.first-item.result c.begins_function.result c.in-len1-up.len_at_least c.first-item.is c.begins_function.ensures c.if-begins_function.true)
