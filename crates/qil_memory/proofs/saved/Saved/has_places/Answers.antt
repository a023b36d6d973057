-- Kept bytes have their places where the memory has so many bytes there, or where there are none.
use Rattle.std.proofs.Common.{◌≡◌, ◌∙◌, ◌⊎◌, ◌↔◌, inl, inr, sym, ap, subst, ℕ, Bool, List, length, IsTrue}
use Rattle.qil_memory.specs.Buffers.{Buffers}
use Rattle.qil_memory.specs.Places.{HasBytes, HasPlaces}
use Rattle.qil_memory.proofs.saved.Saved.has_places.Goals as goal

placed : (m : Buffers) (a : ℕ) (bytes : List ℕ) (n : ℕ) (b : Bool) → n ≡ length bytes → (n ≡ 0 → ⊥) → (IsTrue b ↔ HasBytes m a n) → (IsTrue b ↔ HasPlaces m a bytes)
placed m a bytes n b count some has = (λ yes. inr (subst (HasBytes m a) count (has.0 yes)), λ places. elim places [ inl none ↦ absurd (some (count ∙ none)) | inr there ↦ has.1 (subst (HasBytes m a) (sym count) there) ])

pub returns-else-count-eq0-clause-places : goal.returns-else-count-eq0-clause-places
returns-else-count-eq0-clause-places g c =
    let m = c.args.memory.now in
    let s = c.args.self.now in
    let b = c.has_bytes-inside.result in
    let n = c.byte_count-count.result in
    placed m s.address s.bytes n b c.byte_count-count.ensures c.if-count-eq0.false (subst (λ a. IsTrue b ↔ HasBytes m a n) (c.from.ensures ∙ ap (λ seen. seen.address) c.self.view_is) c.has_bytes-inside.ensures.places)
