-- The arguments of a call, by slots and by names.
use Rattle.std.proofs.Common.{◌≡◌, refl, sym, ap, ◌∙◌, ℕ, suc, Bool, true, false, ◌&&◌, ◌<◌, ◌≤◌, List, [], ◌∷◌, length, drop, drop-cons, Option, Some, None, Ok, Err}
use Rattle.std.specs.Prelude.{map, option_map, unwrap_or, get_or, ◌≢◌}
use Rattle.std.specs.Option.{option_or}
use Rattle.std.specs.List.{All}
use Rattle.std.proofs.lemmas.List.{length-map, drop_all}
use Rattle.std.proofs.lemmas.List.Elements.{All-head, All-tail}
use Rattle.qil_tree.specs.declared.ops.AbiType.{AbiType}
use Rattle.qil_tree.specs.declared.ops.Class.{Class}
use Rattle.qil_tree.specs.declared.tree.Program.{Program}
use Rattle.qil_tree.specs.Types.{class_of}
use Rattle.qil_rules.specs.Operands.{argument_read}
use Rattle.qil_ops.specs.Values.{width, low_bits}
use Rattle.qil_semantics.specs.State.{Name, unset_temporary}
use Rattle.qil_semantics.specs.Slots.{temps_of}
use Rattle.qil_semantics.specs.Values.{Outcome, ◌>>=◌, known, vals}
use Rattle.qil_semantics.specs.Calls.{agree, agree_all, gives, is_in_shape}
use Rattle.qil_code.specs.declared.numbered.Slot.{Slot}
use Rattle.qil_code.specs.declared.numbered.NumberedOperand.{NumberedOperand}
use Rattle.qil_code.specs.declared.numbered.NumberedOperand.TheVariants as numbered_operands
use Rattle.qil_code.specs.declared.numbered.Receiver.{Receiver}
use Rattle.qil_code.specs.declared.numbered.NumberedArgument.{NumberedArgument}
use Rattle.qil_code.specs.Slots.{name_at}
use Rattle.qil_code.specs.Named.{named_argument, named_receiver}
use Rattle.qil_code.specs.Ranges.{InRange}
use Rattle.qil_state.specs.Values.{AreSlots, unless_set, unset_in, held_or_zero, argument_value, argument_values, shape_by}
use Rattle.qil_state.proofs.Reading.{slot_val, slot_val_is}

-- the first unset slot from the left
abbrev pub first_unset : List (Option ℕ) → List NumberedArgument → Option Slot
first_unset vs [] = None
first_unset vs (a ∷ args) = option_or (unset_in vs a.source) (first_unset vs args)

-- these values, unless a slot is unset
abbrev pub values_unless : {X : Type 0} → List Name → X → Option Slot → Outcome X
values_unless ns x None = Ok x
values_unless ns x (Some s) = Err (unset_temporary (name_at ns s.index))

known_unless : (ns : List Name) (c : Class) (s : Slot) (o : Option ℕ) → values_unless ns (low_bits (width c) (unwrap_or o 0)) (unless_set s o) ≡ known c (name_at ns s.index) o
known_unless ns c s None = refl
known_unless ns c s (Some v) = refl

slot_val_unless : (ns : List Name) (vs : List (Option ℕ)) (c : Class) (a : NumberedOperand) → values_unless ns (low_bits (width c) (held_or_zero vs a)) (unset_in vs a) ≡ slot_val ns vs c a
slot_val_unless ns vs c (numbered_operands.Constant n) = refl
slot_val_unless ns vs c (numbered_operands.Slot s) = known_unless ns c s (get_or vs s.index None)

both_unless : (ns : List Name) (v : ℕ) (vs : List ℕ) (o q : Option Slot) → values_unless ns (v ∷ vs) (option_or o q) ≡ (values_unless ns v o >>= λ w. values_unless ns vs q >>= λ ws. Ok (w ∷ ws))
both_unless ns v vs (Some s) q = refl
both_unless ns v vs None (Some s) = refl
both_unless ns v vs None None = refl

pub arguments_reported : {A : Type 0} (p : Program A) (ns : List Name) (vs : List (Option ℕ)) (args : List NumberedArgument) → AreSlots ns vs → All (λ a. InRange (length vs) a.source) args
    → values_unless ns (argument_values vs args) (first_unset vs args) ≡ vals p (temps_of ns vs) (map argument_read (map (named_argument ns) args))
arguments_reported p ns vs [] are all = refl
arguments_reported p ns vs (a ∷ args) are all =
    let P : NumberedArgument → Type 0 = λ b. InRange (length vs) b.source in
    let deep = arguments_reported p ns vs args are (All-tail P a args all) in
    let c : Class = class_of a.abi_type in
    both_unless ns (argument_value vs a) (argument_values vs args) (unset_in vs a.source) (first_unset vs args)
    ∙ (λ i. (slot_val_unless ns vs c a.source ∙ slot_val_is p ns vs c a.source are (All-head P a args all)) i >>= λ w. deep i >>= λ ws. Ok (w ∷ ws))

-- the first that a loop meets, from the left, and none where it meets none
pub unset_there : (vs : List (Option ℕ)) (args : List NumberedArgument) (i : ℕ) (d : NumberedArgument) (s : Slot) → i < length args → Some s ≡ unset_in vs (get_or args i d).source
    → first_unset vs (drop i args) ≡ Some s
unset_there vs args i d s l e = ap (first_unset vs) (drop-cons args i d l) ∙ ap (λ o. option_or o (first_unset vs (drop (suc i) args))) (sym e)

pub none_behind : (vs : List (Option ℕ)) (args : List NumberedArgument) (i : ℕ) → length args ≤ i → first_unset vs (drop i args) ≡ None
none_behind vs args i l = ap (first_unset vs) (drop_all i args l)

-- ---- shapes

pub types_named : (ns : List Name) (args : List NumberedArgument) → map (λ a. a.abi_type) (map (named_argument ns) args) ≡ map (λ a. a.abi_type) args
types_named ns [] = refl
types_named ns (a ∷ args) = ap (λ ts. a.abi_type ∷ ts) (types_named ns args)

other_count : (ts us : List AbiType) → length ts ≢ length us → agree_all ts us ≡ false
other_count [] [] ne = absurd (ne refl)
other_count [] (u ∷ us) ne = refl
other_count (t ∷ ts) [] ne = refl
other_count (t ∷ ts) (u ∷ us) ne = with_false (agree t u) (agree_all ts us) (other_count ts us (λ e. ne (ap (λ n. suc n) e)))
  where
    with_false : (a b : Bool) → b ≡ false → (a && b) ≡ false
    with_false true b e = e
    with_false false b e = refl

pub counts_differ : (params : List (Slot × AbiType)) (args : List NumberedArgument) → length params ≢ length args → false ≡ agree_all (map (λ a. a.abi_type) args) (map (λ q. q.1) params)
counts_differ params args ne =
    sym (other_count (map (λ a. a.abi_type) args) (map (λ q. q.1) params)
    (λ e. ne (sym (length-map params (λ q. q.1)) ∙ sym e ∙ length-map args (λ a. a.abi_type))))

-- names don't change the shape of a call
pub shape_reported : (ns : List Name) (params : List (Slot × AbiType)) (returns : Option AbiType) (to : Option Receiver) (args : List NumberedArgument) (b : Bool)
    → b ≡ agree_all (map (λ a. a.abi_type) args) (map (λ q. q.1) params)
    → (b && gives (option_map (named_receiver ns) to) returns) ≡ is_in_shape (shape_by params returns) (option_map (named_receiver ns) to) (map (named_argument ns) args)
shape_reported ns params returns to args b e =
    ap (λ c. c && gives (option_map (named_receiver ns) to) returns) e
    ∙ ap (λ ts. agree_all ts (map (λ q. q.1) params) && gives (option_map (named_receiver ns) to) returns) (sym (types_named ns args))
