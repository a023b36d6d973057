-- Values that are written and put back.
use Rattle.std.proofs.Common.{◌≡◌, ℕ, ◌+◌, ◌-◌, ◌<◌, ◌≤◌, List, [], ◌∷◌, ◌++◌, Option, None, length, drop, get_or, set, sym, ap, ◌∙◌, refl, arith}
use Rattle.std.proofs.lemmas.List.{set-get_or, set-set, drop_more, length-set, get_or_default}
use Rattle.qil_code.specs.declared.numbered.Slot.{Slot}
use Rattle.qil_frames.specs.declared.saved.SavedSlot.{SavedSlot}
use Rattle.qil_frames.specs.Enter.{put_back, written}

-- what was there last is put back first
pub put_back-append : (ks js : List SavedSlot) (vs : List (Option ℕ)) → put_back (ks ++ js) vs ≡ put_back ks (put_back js vs)
put_back-append [] js vs = refl
put_back-append (k ∷ ks) js vs = ap (λ (us : List (Option ℕ)). set us k.slot.index k.value) (put_back-append ks js vs)

pub length-put_back : (ks : List SavedSlot) (vs : List (Option ℕ)) → length (put_back ks vs) ≡ length vs
length-put_back [] vs = refl
length-put_back (k ∷ ks) vs = length-set (put_back ks vs) k.slot.index k.value ∙ length-put_back ks vs

pub length-written : (ks : List SavedSlot) (vs : List (Option ℕ)) → length (written ks vs) ≡ length vs
length-written [] vs = refl
length-written (k ∷ ks) vs = length-written ks (set vs k.slot.index k.value) ∙ length-set vs k.slot.index k.value

-- what a slot held
abbrev pub stood : List (Option ℕ) → Slot → SavedSlot
stood vs s = record { slot = s; value = get_or vs s.index None }

-- a value that was exchanged is put back
pub put_back-exchanged : (ks : List SavedSlot) (vs : List (Option ℕ)) (s : Slot) (v : Option ℕ) → put_back (ks ++ stood vs s ∷ []) (set vs s.index v) ≡ put_back ks vs
put_back-exchanged ks vs s v =
    put_back-append ks (stood vs s ∷ []) (set vs s.index v)
    ∙ ap (put_back ks) (set-set vs s.index v (get_or vs s.index None) ∙ set-get_or vs s.index None)

-- one more is put back
put_back_more : (ks : List SavedSlot) (i : ℕ) (vs : List (Option ℕ)) (k : SavedSlot) → i < length ks → k ≡ get_or ks i k → put_back (drop i ks) vs ≡ set (put_back (drop (i + 1) ks) vs) k.slot.index k.value
put_back_more ks i vs k h e = ap (λ js. put_back js vs) (drop_more ks i k h ∙ ap (λ (j : SavedSlot). j ∷ drop (i + 1) ks) (sym e))

-- the one before those that are put back is put back next
pub restored_more : (ks : List SavedSlot) (i : ℕ) (vs us : List (Option ℕ)) (d : SavedSlot) → 0 < i → i ≤ length ks → us ≡ put_back (drop i ks) vs
    → set us (get_or ks (i - 1) d).slot.index (get_or ks (i - 1) d).value ≡ put_back (drop (i - 1) ks) vs
restored_more ks i vs us d some inside so_far =
    let j : ℕ = i - 1 in
    let k : SavedSlot = get_or ks j d in
    let next : i ≡ j + 1 = omega (arith, some) in
    let there : j < length ks = omega (arith, some, inside) in
    ap (λ (ws : List (Option ℕ)). set ws k.slot.index k.value) (so_far ∙ ap (λ n. put_back (drop n ks) vs) next)
    ∙ sym (put_back_more ks j vs k there (get_or_default ks j d k there))
