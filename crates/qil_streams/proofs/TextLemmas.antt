-- Texts that are put fragment by fragment: every chain of puts is proved by `HasPut-append` and `HasPut-stop`.
use Rattle.std.proofs.Common.{◌≡◌, ℕ, ◌+◌, List, ◌++◌, Option, sym, subst, ◌∙◌, ap, append_assoc}
use Rattle.std.specs.Prelude.{Result, Ok, Err, IsErrAnd}
use Rattle.std.specs.Io.KnownBytes.{Appends}
use Rattle.qil_streams.specs.Device.{Counts, HasPut, Puts}
use Rattle.qil_streams.proofs.DeviceLemmas.{Appends-append}

-- text that is put after text
pub Puts-append : {T E : Type 0} (r : Result T E) (a b c : Option (List ℕ)) (x y : List ℕ) → Appends a b x → Puts r b c y → Puts r a c (x ++ y)
Puts-append (Ok v) a b c x y p q = Appends-append a b c x y p q
Puts-append (Err e) a b c x y p q =
    (x ++ q.0, (q.1.0, ap (λ v. x ++ v) q.1.1 ∙ sym (append_assoc x q.0 q.1.0)), Appends-append a b c x q.0 p q.2)

-- text that stopped, and what would have come after it
pub Puts-stop : {T E F : Type 0} (Q : E → Type 0) (r : Result T E) → IsErrAnd r Q → (e : F) (a b : Option (List ℕ)) (x y : List ℕ) → Puts {T = T} (Err e) a b x → Puts r a b (x ++ y)
Puts-stop Q (Ok v) h e a b x y p = absurd h
Puts-stop Q (Err d) h e a b x y p = (p.0, (p.1.0 ++ y, ap (λ v. v ++ y) p.1.1 ∙ append_assoc p.0 p.1.0 y), p.2)

Counts-append : {T E : Type 0} (r : Result T E) (a b c : ℕ) → b ≡ a → Counts r b c → Counts r a c
Counts-append (Ok v) a b c e p = p ∙ e
Counts-append (Err d) a b c e p = p ∙ ap (λ (n : ℕ). n + 1) e

Counts-stop : {T E : Type 0} (Q : E → Type 0) (r : Result T E) → IsErrAnd r Q → (a b : ℕ) → b ≡ a + 1 → Counts r a b
Counts-stop Q (Ok v) h a b e = absurd h
Counts-stop Q (Err d) h a b e = e

module _ {S : Type 0} {written : S → Option (List ℕ)} {stops goes_to : S → ℕ} where
  -- a text in other words
  pub HasPut-as : {T E : Type 0} {r : Result T E} {a b : S} {x y : List ℕ} → x ≡ y → HasPut written stops goes_to r a b x → HasPut written stops goes_to r a b y
  HasPut-as {r} {a} {b} e p = subst (λ (text : List ℕ). HasPut written stops goes_to r a b text) e p

  -- a text that is put after a text
  pub HasPut-append : {R F T E : Type 0} (v : R) (r : Result T E) (a b c : S) (x y : List ℕ) →
      HasPut {T = R} {E = F} written stops goes_to (Ok v) a b x → HasPut written stops goes_to r b c y → HasPut written stops goes_to r a c (x ++ y)
  HasPut-append v r a b c x y p q = record {
    text = Puts-append r (written a) (written b) (written c) x y p.text q.text;
    counted = Counts-append r (stops a) (stops b) (stops c) p.counted q.counted;
    device = q.device ∙ p.device;
  }

  -- a text that stopped, and what would have come after it
  pub HasPut-stop : {R F T E : Type 0} (Q : E → Type 0) (r : Result T E) → IsErrAnd r Q → (e : F) (a b : S) (x y : List ℕ) →
      HasPut {T = R} {E = F} written stops goes_to (Err e) a b x → HasPut written stops goes_to r a b (x ++ y)
  HasPut-stop Q r h e a b x y p = record {
    text = Puts-stop Q r h e (written a) (written b) x y p.text;
    counted = Counts-stop Q r h (stops a) (stops b) p.counted;
    device = p.device;
  }
