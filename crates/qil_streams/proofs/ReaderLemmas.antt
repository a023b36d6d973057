-- What is kept of a line, and what was read of its source, byte by byte.
use Rattle.std.proofs.Common.{◌≡◌, ℕ, ◌+◌, ◌^◌, ◌≤◌, ◌<◌, List, [], ◌∷◌, ◌++◌, take, length, arith, sym, ◌∙◌, ap, refl, suc, zero, ◌≢◌, Bool, false}
use Rattle.std.specs.Prelude.{Option, ◌==◌}
use Rattle.std.proofs.lemmas.Bool.{false≢true}
use Rattle.std.specs.Io.KnownBytes.{Consumes}
use Rattle.qil_streams.specs.Reader.{rest_of, IsLine, Reads}
use Rattle.qil_streams.specs.Reading.{Reading, read_count}
use Rattle.qil_streams.proofs.DeviceLemmas.{Consumes-nil, Consumes-append}
use Rattle.std.proofs.Math.ListN.{set}
use Rattle.std.proofs.lemmas.List.{take_more_set, take_all, length-take-le, length-append, take-append-le}

pub push_kept : (bytes : List ℕ) (n b : ℕ) → length bytes ≡ 257 → n < 257 → take (n + 1) (set bytes n b) ≡ take 257 (take n bytes ++ b ∷ [])
push_kept bytes n b e h =
    let short : n ≤ length bytes = omega arith in
    let size : length (take n bytes ++ b ∷ []) ≤ 257 = omega (arith, length-append (take n bytes) (b ∷ []), length-take-le n bytes short) in
    take_more_set bytes n b (omega arith) ∙ sym (take_all 257 (take n bytes ++ b ∷ []) size)

pub push_full : (bytes : List ℕ) (n b : ℕ) → length bytes ≡ 257 → 257 ≤ n → take n bytes ≡ take 257 (take n bytes ++ b ∷ [])
push_full bytes n b e h =
    let whole : take n bytes ≡ bytes = take_all n bytes (omega arith) in
    rw whole (sym (take-append-le 257 bytes (b ∷ []) (omega arith) ∙ take_all 257 bytes (omega arith)))

-- what is kept of a line that goes on
pub take-take-append : (n : ℕ) (xs ys : List ℕ) → take n (take n xs ++ ys) ≡ take n (xs ++ ys)
take-take-append zero xs ys = refl
take-take-append (suc n) [] ys = refl
take-take-append (suc n) (x ∷ xs) ys = ap (λ v. x ∷ v) (take-take-append n xs ys)

pub IsLine-append : (line : List ℕ) (b : ℕ) → IsLine line → b ≢ 10 → IsLine (line ++ b ∷ [])
IsLine-append [] b h ne = (ne, tt)
IsLine-append (x ∷ xs) b h ne = (h.0, IsLine-append xs b h.1 ne)

-- a reader that has read nothing more
pub Reads-nil : (reading : Reading) (before : Option (List ℕ)) → Reads reading reading before before
Reads-nil reading before = ([], Consumes-nil before, omega arith)

-- bytes that were read after others
pub Reads-append : (a b c : Reading) (before middle after : Option (List ℕ)) → Reads a b before middle → Reads b c middle after → Reads a c before after
Reads-append a b c before middle after p q =
    (p.0 ++ q.0, Consumes-append before middle after p.0 q.0 p.1 q.1, omega (arith, p.2, q.2, length-append p.0 q.0))

-- the prefix of a line was taken so far, and 257 bytes of it are kept
pub record TakesPrefix (old new : Reading) (kept : List ℕ) (before after : Option (List ℕ)) : Type 0 where
  pub line : List ℕ
  pub is_line : IsLine line
  pub taken : Consumes (rest_of old before) (rest_of new after) line
  pub kept_is : kept ≡ take 257 line
  pub given : new.given ≡ old.given + length line
  pub reads : Reads old new before after

-- nothing was taken so far
pub TakesPrefix-nil : (reading : Reading) (kept : List ℕ) (before : Option (List ℕ)) → kept ≡ [] → TakesPrefix reading reading kept before before
TakesPrefix-nil reading kept before none = record {
  line = [];
  is_line = tt;
  taken = Consumes-nil (rest_of reading before);
  kept_is = none;
  given = omega arith;
  reads = Reads-nil reading before;
}

-- a line of which some bytes are kept has some
pub has_bytes : (slice kept line : List ℕ) (test : Bool) → slice ≡ kept → test ≡ (length slice == 0) → test ≡ false → kept ≡ take 257 line → 0 < length line
has_bytes slice kept [] test same is fails kept_is = absurd (false≢true (sym fails ∙ is ∙ ap (λ (l : List ℕ). length l == 0) (same ∙ kept_is)))
has_bytes slice kept (x ∷ xs) test same is fails kept_is = omega arith

-- what a reader took of its source since it was made, as one bounded list
pub Reads-within : (first now : Reading) (before after : Option (List ℕ)) → read_count first ≡ 0 → Reads first now before after → read_count now ≤ 2 ^ 24 + 1
    → (bytes : List ℕ) × Consumes before after bytes × (length bytes ≤ 2 ^ 24 + 1)
Reads-within first now before after none reads within = (reads.0, reads.1, omega (arith, reads.2, none, within))
