-- What the phis of a block do, by slots and by names.
use Rattle.std.proofs.Common.{◌≡◌, refl, sym, ap, ◌∙◌, subst, ℕ, ◌<◌, Bool, true, false, if◌then◌else◌, List, [], ◌∷◌, length, Option, Some, None, Result, Ok, Err}
use Rattle.std.specs.Prelude.{map, get_or, unwrap_or, slice_set}
use Rattle.std.specs.Option.{option_or}
use Rattle.std.specs.List.{All}
use Rattle.std.specs.Str.{bytes_eq}
use Rattle.std.proofs.lemmas.List.{length-set}
use Rattle.std.proofs.lemmas.List.Elements.{All-head, All-tail}
use Rattle.qil_tree.specs.declared.ops.Class.{Class}
use Rattle.qil_tree.specs.declared.tree.Program.{Program}
use Rattle.qil_semantics.specs.State as meaning
use Rattle.qil_semantics.specs.State.{Name, Temps, unset_temporary}
use Rattle.qil_semantics.specs.Slots.{temps_of}
use Rattle.qil_semantics.specs.Temps.{with_temp, by_name, named, overlay}
use Rattle.qil_semantics.specs.Values as values
use Rattle.qil_semantics.specs.Values.{Outcome, ◌>>=◌, val, vals}
use Rattle.qil_semantics.specs.Step as step
use Rattle.qil_semantics.specs.Step.{move_read, merges}
use Rattle.qil_code.specs.declared.numbered.Slot.{Slot}
use Rattle.qil_code.specs.declared.numbered.NumberedOperand.{NumberedOperand}
use Rattle.qil_code.specs.declared.numbered.NumberedOperand.TheVariants as numbered_operands
use Rattle.qil_code.specs.declared.numbered.PhiMove.{PhiMove}
use Rattle.qil_code.specs.Slots.{name_at}
use Rattle.qil_code.specs.Named.{named_operand, named_move, resolved_move}
use Rattle.qil_code.specs.Ranges.{InRange, MoveInRange}
use Rattle.qil_frames.specs.declared.saved.SavedSlot.{SavedSlot}
use Rattle.qil_frames.specs.Enter.{value_in, known, write_to, onto, gathered, written}
use Rattle.qil_state.specs.Values.{AreSlots}
use Rattle.qil_state.proofs.Resolved.{moves_resolved, targets_resolved}
use Rattle.qil_state.proofs.Reading.{slot_read, slot_written}

-- ---- what is read

abbrev pub value_reported : List Name → Result ℕ Slot → Outcome ℕ
value_reported ns (Ok v) = Ok v
value_reported ns (Err s) = Err (unset_temporary (name_at ns s.index))

abbrev pub written_values : List SavedSlot → List ℕ
written_values ks = map (λ k. unwrap_or k.value 0) ks

abbrev pub gathered_reported : List Name → Result (List SavedSlot) Slot → Outcome (List ℕ)
gathered_reported ns (Ok ks) = Ok (written_values ks)
gathered_reported ns (Err s) = Err (unset_temporary (name_at ns s.index))

known_reported : (ns : List Name) (c : Class) (s : Slot) (o : Option ℕ) → value_reported ns (known c s o) ≡ values.known c (name_at ns s.index) o
known_reported ns c s None = refl
known_reported ns c s (Some v) = refl

value_is_reported : {A : Type 0} (p : Program A) (ns : List Name) (vs : List (Option ℕ)) (c : Class) (a : NumberedOperand) → AreSlots ns vs → InRange (length vs) a
    → value_reported ns (value_in vs c a) ≡ val p (temps_of ns vs) c (named_operand ns a)
value_is_reported p ns vs c (numbered_operands.Constant n) are is = refl
value_is_reported p ns vs c (numbered_operands.Slot s) are is = known_reported ns c s (get_or vs s.index None) ∙ ap (values.known c (name_at ns s.index)) (slot_read ns vs s.index are is)

onto_reported : (ns : List Name) (s : Slot) (r : Result ℕ Slot) (others : Result (List SavedSlot) Slot)
    → gathered_reported ns (onto s r others) ≡ (value_reported ns r >>= λ v. gathered_reported ns others >>= λ vs. Ok (v ∷ vs))
onto_reported ns s (Err e) others = refl
onto_reported ns s (Ok v) (Err e) = refl
onto_reported ns s (Ok v) (Ok ks) = refl

abbrev moves_named : List Name → List PhiMove → List step.PhiMove
moves_named ns ms = map (named_move ns) ms

pub gathered_is_reported : {A : Type 0} (p : Program A) (ns : List Name) (vs : List (Option ℕ)) (ms : List PhiMove) → AreSlots ns vs → All (MoveInRange (length vs)) ms
    → gathered_reported ns (gathered vs ms) ≡ vals p (temps_of ns vs) (map move_read (moves_named ns ms))
gathered_is_reported p ns vs [] are all = refl
gathered_is_reported p ns vs (m ∷ ms) are all =
    let head : MoveInRange (length vs) m = All-head (MoveInRange (length vs)) m ms all in
    let deep = gathered_is_reported p ns vs ms are (All-tail (MoveInRange (length vs)) m ms all) in
    onto_reported ns m.target (value_in vs m.class m.source) (gathered vs ms)
    ∙ (λ i. value_is_reported p ns vs m.class m.source are head.source i >>= λ v. deep i >>= λ vs. Ok (v ∷ vs))

-- ---- what is written

over_more : (b : Bool) (v : ℕ) (new : Option ℕ) (old : Option ℕ) → option_or (option_or new (if b then Some v else None)) old ≡ option_or new (if b then Some v else old)
over_more true v (Some a) old = refl
over_more true v None old = refl
over_more false v (Some a) old = refl
over_more false v None old = refl

-- of values for names, the first is written below the others
overlay_more : (x : Name) (v : ℕ) (others : List (Name × ℕ)) (t : Temps) → overlay (by_name ((x, v) ∷ others)) t ≡ overlay (by_name others) (with_temp t x (Some v))
unfolding overlay by_name with_temp
overlay_more x v others t = λ i y. over_more (bytes_eq x y) v (by_name others y) (t y) i

overlay_none : (t : Temps) → overlay (by_name []) t ≡ t
unfolding overlay by_name
overlay_none t = refl

abbrev target_names : List step.PhiMove → List Name
target_names ms = map (λ m. m.target.name) ms

-- the values laid over the temporaries by name are those written to the slots
abbrev AreLaid : List Name → List PhiMove → List SavedSlot → List (Option ℕ) → Type 0
AreLaid ns ms ks us = overlay (named (target_names (moves_named ns ms)) (written_values ks)) (temps_of ns us) ≡ temps_of ns (written ks us)

abbrev kept : List SavedSlot → Result (List SavedSlot) Slot
kept ks = Ok ks

same_kept : (js ks : List SavedSlot) → kept js ≡ kept ks → js ≡ ks
same_kept js ks e = cc

still_slots : (ns : List Name) (us : List (Option ℕ)) (i : ℕ) (v : Option ℕ) → AreSlots ns us → AreSlots ns (slice_set us i v)
still_slots ns us i v are = record { distinct = are.distinct; long = are.long ∙ sym (length-set us i v) }

laid_onto : (ns : List Name) (m : PhiMove) (ms : List PhiMove) (r : Result ℕ Slot) (others : Result (List SavedSlot) Slot) (ks : List SavedSlot) (us : List (Option ℕ))
    → ((js : List SavedSlot) (ws : List (Option ℕ)) → others ≡ Ok js → AreSlots ns ws → length ws ≡ length us → AreLaid ns ms js ws)
    → onto m.target r others ≡ Ok ks → AreSlots ns us → m.target.index < length us → AreLaid ns (m ∷ ms) ks us
laid_onto ns m ms (Err e) others ks us deep at are lt = absurd cc
laid_onto ns m ms (Ok v) (Err e) ks us deep at are lt = absurd cc
laid_onto ns m ms (Ok v) (Ok js) ks us deep at are lt =
    let s : Slot = m.target in
    let next : List (Option ℕ) = slice_set us s.index (Some v) in
    subst (λ ls. AreLaid ns (m ∷ ms) ls us) (same_kept (write_to s v ∷ js) ks at)
    (overlay_more (name_at ns s.index) v _ (temps_of ns us)
    ∙ ap (overlay (named (target_names (moves_named ns ms)) (written_values js))) (sym (slot_written ns us s.index (Some v) are lt))
    ∙ deep js next refl (still_slots ns us s.index (Some v) are) (length-set us s.index (Some v)))

pub are_laid : (ns : List Name) (vs : List (Option ℕ)) (ms : List PhiMove) (ks : List SavedSlot) (us : List (Option ℕ)) → gathered vs ms ≡ Ok ks
    → AreSlots ns us → All (MoveInRange (length us)) ms → AreLaid ns ms ks us
are_laid ns vs [] ks us at are all = subst (λ ls. AreLaid ns [] ls us) (same_kept [] ks at) (overlay_none (temps_of ns us))
are_laid ns vs (m ∷ ms) ks us at are all =
    let head : MoveInRange (length us) m = All-head (MoveInRange (length us)) m ms all in
    let tail : All (MoveInRange (length us)) ms = All-tail (MoveInRange (length us)) m ms all in
    laid_onto ns m ms (value_in vs m.class m.source) (gathered vs ms) ks us
    (λ js ws e slots long. are_laid ns vs ms js ws e slots (subst (λ n. All (MoveInRange n) ms) (sym long) tail)) at are head.target

-- ---- both

abbrev merged : meaning.Frame → List Name → List ℕ → Outcome meaning.Frame
merged F xs ws = Ok (record F { temps = overlay (named xs ws) F.temps })

pub record Merges {A : Type 0} (p : Program A) (F : meaning.Frame) (tree : List step.PhiMove) (ns : List Name) (vs : List (Option ℕ)) (ms : List PhiMove) : Type 0 where
  pub done : (ks : List SavedSlot) → gathered vs ms ≡ Ok ks → merges p F tree ≡ Ok (record F { temps = temps_of ns (written ks vs) })
  pub unset : (s : Slot) → gathered vs ms ≡ Err s → merges p F tree ≡ Err (unset_temporary (name_at ns s.index))

-- the phis of the tree, whose moves are these by number
pub merges_by : {A : Type 0} (p : Program A) (F : meaning.Frame) (tree : List step.PhiMove) (ns : List Name) (vs : List (Option ℕ)) (ms : List PhiMove)
    → moves_named ns ms ≡ map (resolved_move p) tree → F.temps ≡ temps_of ns vs → AreSlots ns vs → All (MoveInRange (length vs)) ms → Merges p F tree ns vs ms
merges_by {A} p F tree ns vs ms same ft are all =
    let xs : List Name = target_names (moves_named ns ms) in
    let reads : vals p F.temps (map move_read tree) ≡ gathered_reported ns (gathered vs ms) =
    sym (moves_resolved p F.temps tree)
    ∙ (λ i. vals p (ft i) (map move_read (sym same i)))
    ∙ sym (gathered_is_reported p ns vs ms are all) in
    let names : target_names tree ≡ xs = sym (targets_resolved p tree) ∙ ap target_names (sym same) in
    let all_of : merges p F tree ≡ (gathered_reported ns (gathered vs ms) >>= merged F xs) = λ i. reads i >>= merged F (names i) in
    record {
      done = λ ks e. all_of ∙ ap (λ r. gathered_reported ns r >>= merged F xs) e
          ∙ (λ i. Ok (record F { temps = overlay (named xs (written_values ks)) (ft i) }))
          ∙ ap (λ t. Ok (record F { temps = t })) (are_laid ns vs ms ks vs e are all);
      unset = λ s e. all_of ∙ ap (λ r. gathered_reported ns r >>= merged F xs) e;
    }
