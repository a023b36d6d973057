-- Phis that are read one after the other, and what one and two of them do.
use Rattle.std.proofs.Common.{◌≡◌, ℕ, ◌+◌, ◌<◌, List, [], ◌∷◌, ◌++◌, Option, Some, None, Result, Ok, Err, IsOk, length, drop, get_or, set, sym, ap, ◌∙◌, refl, inl, inr, append_assoc, suc}
use Rattle.std.specs.List.{All}
use Rattle.std.proofs.lemmas.List.{set-get_or, set-set, set_comm, drop_more}
use Rattle.std.proofs.lemmas.List.Elements.{All-nil, All-cons, All-head, All-tail}
use Rattle.std.proofs.lemmas.Bool.{cases_eq}
use Rattle.qil_code.specs.declared.numbered.Slot.{Slot}
use Rattle.qil_code.specs.declared.numbered.PhiMove.{PhiMove}
use Rattle.qil_code.specs.Ranges.{MoveInRange}
use Rattle.qil_frames.specs.declared.saved.SavedSlot.{SavedSlot}
use Rattle.qil_frames.specs.Enter.{value_in, write_to, onto, gathered, written, put_back, AreSlots}
use Rattle.qil_frames.specs.Kept.{slots_by, AreDone}
use Rattle.qil_frames.proofs.ValueLemmas.{stood, put_back-exchanged}

-- ---- one phi, and two

pub one_done : (m : PhiMove) (vs : List (Option ℕ)) (v : ℕ) → m.target.index < length vs → value_in vs m.class m.source ≡ Ok v → AreDone (m ∷ []) vs (set vs m.target.index (Some v)) (stood vs m.target ∷ [])
one_done m vs v h e =
    record {
      after = ap (λ r. slots_by vs (onto m.target r (Ok []))) e;
      undo = put_back-exchanged [] vs m.target (Some v);
      fits = All-cons (λ (k : SavedSlot). k.slot.index < length vs) (stood vs m.target) [] h (All-nil (λ (k : SavedSlot). k.slot.index < length vs));
      count = refl;
    }

-- what stood in two places is put back, also where they are one
swapped_back : (vs : List (Option ℕ)) (i j : ℕ) (v w : Option ℕ) → set (set (set (set vs i v) j w) j (get_or vs j None)) i (get_or vs i None) ≡ vs
swapped_back vs i j v w =
    ap (λ us. set us i (get_or vs i None)) (set-set (set vs i v) j w (get_or vs j None))
    ∙ (elim (cases_eq i j) as (λ _. set (set (set vs i v) j (get_or vs j None)) i (get_or vs i None) ≡ vs) [
      | inl e ↦ ap (λ k. set (set (set vs i v) k (get_or vs k None)) i (get_or vs i None)) (sym e)
          ∙ ap (λ us. set us i (get_or vs i None)) (set-set vs i v (get_or vs i None))
          ∙ set-set vs i (get_or vs i None) (get_or vs i None)
          ∙ set-get_or vs i None
      | inr d ↦ ap (λ us. set us i (get_or vs i None)) (set_comm vs i j v (get_or vs j None) d)
          ∙ set-set (set vs j (get_or vs j None)) i v (get_or vs i None)
          ∙ ap (λ us. set us i (get_or vs i None)) (set-get_or vs j None)
          ∙ set-get_or vs i None
    ])

pub two_done : (m n : PhiMove) (vs : List (Option ℕ)) (v w x y : ℕ) → m.target.index < length vs → n.target.index < length vs → value_in vs m.class m.source ≡ Ok v → value_in vs n.class n.source ≡ Ok w →
    get_or vs m.target.index None ≡ Some x → get_or vs n.target.index None ≡ Some y →
    AreDone (m ∷ n ∷ []) vs (set (set vs m.target.index (Some v)) n.target.index (Some w)) (record { slot = m.target; value = Some x } ∷ record { slot = n.target; value = Some y } ∷ [])
two_done m n vs v w x y h k e f ex ey =
    let P : SavedSlot → Type 0 = λ k. k.slot.index < length vs in
    record {
      after = ap (λ r. slots_by vs (onto m.target r (onto n.target (value_in vs n.class n.source) (Ok [])))) e ∙ ap (λ r. slots_by vs (onto m.target (Ok v) (onto n.target r (Ok [])))) f;
      undo = ap (λ o. set (set (set (set vs m.target.index (Some v)) n.target.index (Some w)) n.target.index o) m.target.index (Some x)) (sym ey)
          ∙ ap (λ o. set (set (set (set vs m.target.index (Some v)) n.target.index (Some w)) n.target.index (get_or vs n.target.index None)) m.target.index o) (sym ex)
          ∙ swapped_back vs m.target.index n.target.index (Some v) (Some w);
      fits = All-cons P (record { slot = m.target; value = Some x }) (record { slot = n.target; value = Some y } ∷ []) h (All-cons P (record { slot = n.target; value = Some y }) [] k (All-nil P));
      count = refl;
    }

-- ---- all are read

-- what the rest of the phis gathers says what all gather
pub record Follows (vs : List (Option ℕ)) (ms rest : List PhiMove) : Type 0 where
  pub unset : (s : Slot) → gathered vs rest ≡ Err s → gathered vs ms ≡ Err s
  pub set : IsOk (gathered vs rest) → IsOk (gathered vs ms)

onto_err : (t : Slot) (v : ℕ) (r : Result (List SavedSlot) Slot) (s : Slot) → r ≡ Err s → onto t (Ok v) r ≡ Err s
onto_err t v r s e = ap (onto t (Ok v)) e

onto_ok : (t : Slot) (v : ℕ) (r : Result (List SavedSlot) Slot) → IsOk r → IsOk (onto t (Ok v) r)
onto_ok t v (Ok ks) h = refl
onto_ok t v (Err s) h = h

pub follows_all : (vs : List (Option ℕ)) (ms : List PhiMove) → Follows vs ms ms
follows_all vs ms = record { unset = λ s e. e; set = λ h. h }

pub follows_more : (vs : List (Option ℕ)) (ms : List PhiMove) (i : ℕ) (d : PhiMove) (v : ℕ) → i < length ms → value_in vs (get_or ms i d).class (get_or ms i d).source ≡ Ok v → Follows vs ms (drop i ms) → Follows vs ms (drop (i + 1) ms)
follows_more vs ms i d v h e f =
    let m : PhiMove = get_or ms i d in
    let shape : gathered vs (drop i ms) ≡ onto m.target (Ok v) (gathered vs (drop (i + 1) ms)) = ap (gathered vs) (drop_more ms i d h) ∙ ap (λ r. onto m.target r (gathered vs (drop (i + 1) ms))) e in
    record {
      unset = λ s n. f.unset s (shape ∙ onto_err m.target v (gathered vs (drop (i + 1) ms)) s n);
      set = λ n. f.set (rw shape (onto_ok m.target v (gathered vs (drop (i + 1) ms)) n));
    }

pub follows_unset : (vs : List (Option ℕ)) (ms : List PhiMove) (i : ℕ) (d : PhiMove) (s : Slot) → i < length ms → value_in vs (get_or ms i d).class (get_or ms i d).source ≡ Err s → Follows vs ms (drop i ms) → gathered vs ms ≡ Err s
follows_unset vs ms i d s h e f =
    let m : PhiMove = get_or ms i d in
    f.unset s (ap (gathered vs) (drop_more ms i d h) ∙ ap (λ r. onto m.target r (gathered vs (drop (i + 1) ms))) e)

-- ---- what they write is listed

abbrev pub behind : List SavedSlot → Result (List SavedSlot) Slot → Result (List SavedSlot) Slot
behind done (Ok ks) = Ok (done ++ ks)
behind done (Err s) = Err s

behind_onto : (done : List SavedSlot) (t : Slot) (v : ℕ) (r : Result (List SavedSlot) Slot) → behind done (onto t (Ok v) r) ≡ behind (done ++ write_to t v ∷ []) r
behind_onto done t v (Ok ks) = ap (λ js. Ok js) (sym (append_assoc done (write_to t v ∷ []) ks))
behind_onto done t v (Err s) = refl

pub listed_more : (vs : List (Option ℕ)) (ms : List PhiMove) (done : List SavedSlot) (i : ℕ) (d : PhiMove) (v : ℕ) → i < length ms → value_in vs (get_or ms i d).class (get_or ms i d).source ≡ Ok v →
    gathered vs ms ≡ behind done (gathered vs (drop i ms)) → gathered vs ms ≡ behind (done ++ write_to (get_or ms i d).target v ∷ []) (gathered vs (drop (i + 1) ms))
listed_more vs ms done i d v h e f =
    let m : PhiMove = get_or ms i d in
    f ∙ ap (λ js. behind done (gathered vs js)) (drop_more ms i d h) ∙ ap (λ r. behind done (onto m.target r (gathered vs (drop (i + 1) ms)))) e ∙ behind_onto done m.target v (gathered vs (drop (i + 1) ms))

pub listed_unset : (vs : List (Option ℕ)) (ms : List PhiMove) (done : List SavedSlot) (i : ℕ) (d : PhiMove) (s : Slot) → i < length ms → value_in vs (get_or ms i d).class (get_or ms i d).source ≡ Err s →
    gathered vs ms ≡ behind done (gathered vs (drop i ms)) → gathered vs ms ≡ Err s
listed_unset vs ms done i d s h e f =
    let m : PhiMove = get_or ms i d in
    f ∙ ap (λ js. behind done (gathered vs js)) (drop_more ms i d h) ∙ ap (λ r. behind done (onto m.target r (gathered vs (drop (i + 1) ms)))) e

-- ---- what is gathered

onto_parts : (t : Slot) (r : Result ℕ Slot) (q : Result (List SavedSlot) Slot) (ks : List SavedSlot) → onto t r q ≡ Ok ks → (v : ℕ) × (js : List SavedSlot) × (q ≡ Ok js) × (ks ≡ write_to t v ∷ js)
onto_parts t (Ok v) (Ok js) ks e = (v, js, refl, cc)
onto_parts t (Ok v) (Err s) ks e = cc
onto_parts t (Err s) q ks e = cc

pub gathered-length : (vs : List (Option ℕ)) (ms : List PhiMove) (ks : List SavedSlot) → gathered vs ms ≡ Ok ks → length ks ≡ length ms
gathered-length vs [] ks e = let k : ks ≡ [] = cc in ap length k
gathered-length vs (m ∷ ms) ks e =
    let p = onto_parts m.target (value_in vs m.class m.source) (gathered vs ms) ks e in
    ap length p.3 ∙ ap suc (gathered-length vs ms p.1 p.2)

pub gathered-fits : (n : ℕ) (vs : List (Option ℕ)) (ms : List PhiMove) (ks : List SavedSlot) → All (MoveInRange n) ms → gathered vs ms ≡ Ok ks → AreSlots ks n
gathered-fits n vs [] ks h e = let k : ks ≡ [] = cc in rw k (All-nil (λ (k : SavedSlot). k.slot.index < n))
gathered-fits n vs (m ∷ ms) ks h e =
    let P : SavedSlot → Type 0 = λ k. k.slot.index < n in
    let p = onto_parts m.target (value_in vs m.class m.source) (gathered vs ms) ks e in
    rw p.3 (All-cons P (write_to m.target p.0) p.1 (All-head (MoveInRange n) m ms h).target (gathered-fits n vs ms p.1 (All-tail (MoveInRange n) m ms h) p.2))

-- phis whose values were gathered and exchanged are done
pub many_done : (ms : List PhiMove) (old new : List (Option ℕ)) (first kept : List SavedSlot) → gathered old ms ≡ Ok first → new ≡ written first old → put_back kept new ≡ old → AreSlots kept (length old) → length kept ≡ length first → AreDone ms old new kept
many_done ms old new first kept e w u f c =
    record {
      after = ap (slots_by old) e ∙ ap (λ vs. Ok vs) (sym w);
      undo = u;
      fits = f;
      count = c ∙ gathered-length old ms first e;
    }
