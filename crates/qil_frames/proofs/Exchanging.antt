-- How far an exchange of values has come.
use Rattle.std.proofs.Common.{◌≡◌, ℕ, ◌+◌, ◌<◌, List, ◌∷◌, Option, length, take, drop, get_or, set, arith, sym, ap, ◌∙◌}
use Rattle.std.proofs.lemmas.List.{drop_more, length-set, drop-set-lt, drop-drop, take_more_set}
use Rattle.std.proofs.lemmas.List.Elements.{All-set}
use Rattle.qil_frames.specs.declared.saved.SavedSlot.{SavedSlot}
use Rattle.qil_frames.specs.Enter.{put_back, written, AreSlots}
use Rattle.qil_frames.proofs.ValueLemmas.{stood, put_back-exchanged}

pub record Exchanging (first new : List SavedSlot) (old now : List (Option ℕ)) (i : ℕ) : Type 0 where
  pub room : length now ≡ length old
  pub count : length new ≡ length first
  pub rest : drop i new ≡ drop i first
  pub fits : AreSlots new (length old)
  pub after : written (drop i first) now ≡ written first old
  pub undo : put_back (take i new) now ≡ old

-- one more is exchanged
pub exchanged_more : (first new : List SavedSlot) (old now : List (Option ℕ)) (i : ℕ) (d : SavedSlot) → i < length new → Exchanging first new old now i →
    Exchanging first (set new i (stood now (get_or new i d).slot)) old (set now (get_or new i d).slot.index (get_or new i d).value) (i + 1)
exchanged_more first new old now i d h e =
    let k : SavedSlot = get_or new i d in
    let j : SavedSlot = stood now k.slot in
    let r : drop i first ≡ k ∷ drop (i + 1) new = sym e.rest ∙ drop_more new i d h in
    let r1 : drop (i + 1) new ≡ drop (i + 1) first = sym (drop-drop 1 i new) ∙ (ap (drop 1) e.rest ∙ drop-drop 1 i first) in
    record {
      room = length-set now k.slot.index k.value ∙ e.room;
      count = length-set new i j ∙ e.count;
      rest = drop-set-lt (i + 1) new i j (omega arith) ∙ r1;
      fits = All-set (λ (k : SavedSlot). k.slot.index < length old) new i j (e.fits i d h) e.fits;
      after = ap (λ ks. written ks (set now k.slot.index k.value)) (sym r1) ∙ (ap (λ ks. written ks now) (sym r) ∙ e.after);
      undo = ap (λ ks. put_back ks (set now k.slot.index k.value)) (take_more_set new i j h) ∙ (put_back-exchanged (take i new) now k.slot k.value ∙ e.undo);
    }
