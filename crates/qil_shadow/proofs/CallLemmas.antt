-- What is done to calls leaves the objects of the stack above one another.
use Rattle.std.proofs.Common.{◌≡◌, ℕ, suc, ◌+◌, ◌<◌, ◌≤◌, Bool, true, false, ◌&&◌, List, [], ◌∷◌, ◌++◌, length, map, drop, Option, Some, None, refl, sym, ◌∙◌, ap, subst, arith}
use Rattle.std.specs.Prelude.{All, if◌then◌else◌, ◌==◌}
use Rattle.std.specs.List.{AllByRecursion}
use Rattle.std.proofs.lemmas.Bool.{false≢true}
use Rattle.std.proofs.lemmas.Bool.Decides.{nat_tests}
use Rattle.std.proofs.lemmas.List.{drop-map}
use Rattle.std.proofs.lemmas.List.Elements.{All-from_recursion}
use Rattle.std.proofs.Math.Seq.{drop-length}
use Rattle.qil_code.specs.declared.numbered.Slot.{Slot}
use Rattle.qil_code.specs.declared.numbered.Receiver.{Receiver}
use Rattle.qil_shadow.specs.declared.origin.Origin.{Origin}
use Rattle.qil_shadow.specs.declared.object.Object.{Object}
use Rattle.qil_shadow.specs.Stack.{CallShadow, with_held}
use Rattle.qil_shadow.specs.Table.{ObjectTable, of_stack, is_living, ends_with, IsBelow, IsWithin}
use Rattle.qil_shadow.specs.Calls.{taken, left_calls, left_top, ended, EndsBelow, IsFloored, AreLive}

-- ---- lists

each_map : (P Q : Object → Type 0) (f : Object → Object) (os : List Object) → ((o : Object) → P o → Q (f o)) → AllByRecursion P os → AllByRecursion Q (map f os)
each_map P Q f [] step all = tt
each_map P Q f (o ∷ os) step all = (step o all.0, each_map P Q f os step all.1)

each_from : (P Q : Object → Type 0) (os : List Object) → ((o : Object) → P o → Q o) → AllByRecursion P os → AllByRecursion Q os
each_from P Q [] step all = tt
each_from P Q (o ∷ os) step all = (step o all.0, each_from P Q os step all.1)

each_push : (P : Object → Type 0) (os : List Object) (x : Object) → AllByRecursion P os → P x → AllByRecursion P (os ++ x ∷ [])
each_push P [] x all it = (it, tt)
each_push P (o ∷ os) x all it = (all.0, each_push P os x all.1 it)

each_two : (P Q R : Object → Type 0) (os : List Object) → ((o : Object) → P o → Q o → R o) → AllByRecursion P os → AllByRecursion Q os → AllByRecursion R os
each_two P Q R [] step one other = tt
each_two P Q R (o ∷ os) step one other = (step o one.0 other.0, each_two P Q R os step one.1 other.1)

-- ---- a temporary is set, or nothing is there

floored_none : (cs : List CallShadow) → IsFloored cs []
floored_none [] = tt
floored_none (c ∷ cs) = (tt, floored_none cs)

pub live_none : (cs : List CallShadow) (os : List Object) (top : ℕ) → length cs ≤ 1000 → os ≡ [] → AreLive cs os top
live_none cs os top few none = subst (λ xs. AreLive cs xs top) (sym none) (record { few = few; within = tt; below = tt; floored = floored_none cs })

pub live_held : (s : Slot) (m : Origin) (cs : List CallShadow) (os : List Object) (top : ℕ) → AreLive cs os top → AreLive (with_held s m cs) os top
live_held s m [] os top live = live
live_held s m (c ∷ cs) os top live = record { few = live.few; within = live.within; below = live.below; floored = live.floored }

-- ---- one call more

pub live_call : (c : CallShadow) (cs : List CallShadow) (os : List Object) (top : ℕ) → c.floor ≡ top → length cs < 1000 → AreLive cs os top → AreLive (c ∷ cs) os top
live_call c cs os top floor few live = record {
  few = omega (arith, few);
  within = each_from (IsWithin (length cs)) (IsWithin (suc (length cs))) os (λ o within living. let low : o.depth ≤ length cs = within living in omega (arith, low)) live.within;
  below = each_two (IsWithin (length cs)) (EndsBelow (length cs) top) (EndsBelow (suc (length cs)) top) os (λ o within below living _. below living (within living)) live.within live.below;
  floored = (subst (λ n. AllByRecursion (EndsBelow (length cs) n) os) (sym floor) live.below, live.floored);
}

-- ---- one object more

pub above_all : (n top : ℕ) (os : List Object) (x : Object) → AllByRecursion (IsWithin n) os → AllByRecursion (EndsBelow n top) os → top ≤ x.address → x.depth ≡ n → All (λ o. IsBelow o x) os
above_all n top os x within below high deep =
    All-from_recursion (λ o. IsBelow o x) os
    (each_two (IsWithin n) (EndsBelow n top) (λ o. IsBelow o x) os
    (λ o is_within is_below living _. let low : o.depth ≤ n = is_within living in let end : o.address + o.size ≤ top = is_below living low in (omega (arith, end, high), omega (arith, low, deep)))
    within below)

floored_push : (cs : List CallShadow) (os : List Object) (x : Object) → length cs ≤ x.depth → IsFloored cs os → IsFloored cs (os ++ x ∷ [])
floored_push [] os x deep floored = tt
floored_push (c ∷ cs) os x deep floored =
    (each_push (EndsBelow (length cs) c.floor) os x floored.0 (λ living low. absurd (omega (arith, low, deep))), floored_push cs os x (omega (arith, deep)) floored.1)

pub live_made : (cs : List CallShadow) (os : List Object) (top : ℕ) (x : Object) → AreLive cs os top → top ≤ x.address → x.depth ≡ length cs → AreLive cs (os ++ x ∷ []) (x.address + x.size)
live_made cs os top x live high deep = record {
  few = live.few;
  within = each_push (IsWithin (length cs)) os x live.within (λ living. omega (arith, deep));
  below = each_push (EndsBelow (length cs) (x.address + x.size)) os x
      (each_from (EndsBelow (length cs) top) (EndsBelow (length cs) (x.address + x.size)) os (λ o below living low. let end : o.address + o.size ≤ top = below living low in omega (arith, end, high)) live.below)
      (λ living low. omega arith);
  floored = floored_push cs os x (omega (arith, deep)) live.floored;
}

-- ---- a call is over

-- one that is living behind it was living before it, and was made in another
on_by : (b c : Bool) (x o : Object) → is_living x ≡ false → is_living (if b && c then x else o) ≡ true → ((if b && c then x else o) ≡ o) × (b ≡ true → c ≡ true → ⊥)
on_by true true x o dead lives = absurd (false≢true (sym dead ∙ lives))
on_by true false x o dead lives = (refl, λ _ e. false≢true e)
on_by false c x o dead lives = (refl, λ e _. false≢true e)

record LivesOn (d : ℕ) (o now : Object) : Type 0 where
  same : now ≡ o
  lives : is_living o ≡ true
  other : o.depth ≡ d → ⊥

lives_on : (d p : ℕ) (o : Object) → is_living (ends_with d p o) ≡ true → LivesOn d o (ends_with d p o)
lives_on d p o lives =
    let r = on_by (is_living o) (o.depth == d) (record o { ended = Some p }) o refl lives in
    let living : is_living o ≡ true = ap is_living (sym r.0) ∙ lives in
    record { same = r.0; lives = living; other = λ e. let even : (o.depth == d) ≡ true = grind (arith, nat_tests) in r.1 living even }

within_on : (d p n : ℕ) (o : Object) → IsWithin n o → IsWithin n (ends_with d p o)
within_on d p n o within living = let on = lives_on d p o living in subst (λ x. x.depth ≤ n) (sym on.same) (within on.lives)

within_left : (p n : ℕ) (o : Object) → IsWithin (suc n) o → IsWithin n (ends_with (suc n) p o)
within_left p n o within living =
    let on = lives_on (suc n) p o living in
    let low : o.depth ≤ suc n = within on.lives in
    let less : o.depth ≤ n = omega (arith, low, on.other) in
    subst (λ x. x.depth ≤ n) (sym on.same) less

below_on : (d p n top : ℕ) (o : Object) → EndsBelow n top o → EndsBelow n top (ends_with d p o)
below_on d p n top o below living low =
    let on = lives_on d p o living in
    subst (λ x. x.address + x.size ≤ top) (sym on.same) (below on.lives (subst (λ x. x.depth ≤ n) on.same low))

floored_on : (d p : ℕ) (cs : List CallShadow) (os : List Object) → IsFloored cs os → IsFloored cs (map (ends_with d p) os)
floored_on d p [] os floored = tt
floored_on d p (c ∷ cs) os floored =
    (each_map (EndsBelow (length cs) c.floor) (EndsBelow (length cs) c.floor) (ends_with d p) os (below_on d p (length cs) c.floor) floored.0, floored_on d p cs os floored.1)

live_on : (d p : ℕ) (cs : List CallShadow) (os : List Object) (top : ℕ) → AreLive cs os top → AreLive cs (map (ends_with d p) os) top
live_on d p cs os top live = record {
  few = live.few;
  within = each_map (IsWithin (length cs)) (IsWithin (length cs)) (ends_with d p) os (within_on d p (length cs)) live.within;
  below = each_map (EndsBelow (length cs) top) (EndsBelow (length cs) top) (ends_with d p) os (below_on d p (length cs) top) live.below;
  floored = floored_on d p cs os live.floored;
}

live_taken : (receiver : Option Receiver) (m : Origin) (cs : List CallShadow) (os : List Object) (top : ℕ) → AreLive cs os top → AreLive (taken receiver m cs) os top
live_taken None m cs os top live = live
live_taken (Some to) m cs os top live = live_held to.slot m cs os top live

live_left : (p : ℕ) (m : Origin) (cs : List CallShadow) (os : List Object) (top : ℕ) → AreLive cs os top → AreLive (left_calls m cs) (map (ends_with (length cs) p) os) (left_top top cs)
live_left p m [] os top live = live_on 0 p [] os top live
live_left p m (c ∷ []) os top live = live_on 1 p (c ∷ []) os top live
live_left p m (c ∷ (d ∷ cs)) os top live =
    live_taken c.receiver m (d ∷ cs) (map (ends_with (suc (length (d ∷ cs))) p) os) c.floor (record {
      few = omega (arith, live.few);
      within = each_map (IsWithin (suc (length (d ∷ cs)))) (IsWithin (length (d ∷ cs))) (ends_with (suc (length (d ∷ cs))) p) os (within_left p (length (d ∷ cs))) live.within;
      below = each_map (EndsBelow (length (d ∷ cs)) c.floor) (EndsBelow (length (d ∷ cs)) c.floor) (ends_with (suc (length (d ∷ cs))) p) os (below_on (suc (length (d ∷ cs))) p (length (d ∷ cs)) c.floor) live.floored.0;
      floored = floored_on (suc (length (d ∷ cs))) p (d ∷ cs) os live.floored.1;
    })

pub live_return : (p : ℕ) (m : Origin) (cs : List CallShadow) (t : ObjectTable) (top : ℕ) → AreLive cs (of_stack t) top
    → AreLive (left_calls m cs) (of_stack (ended (length cs) p t)) (left_top top cs)
live_return p m cs t top live =
    subst (λ os. AreLive (left_calls m cs) os (left_top top cs)) (sym (drop-map (ends_with (length cs) p) t.fixed t.objects)) (live_left p m cs (of_stack t) top live)

-- ---- the start

pub none_of_stack : (t : ObjectTable) → t.fixed ≡ length t.objects → of_stack t ≡ []
none_of_stack t e = ap (λ n. drop n t.objects) e ∙ drop-length t.objects
